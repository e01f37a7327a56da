-- The counts of verdicts.
use Rattle.std.proofs.Common.{◌≡◌, ℕ, ◌+◌, ◌==◌, ◌&&◌, ◌||◌, nat_lt, Bool, true, false, not}
use Rattle.std.proofs.Common.{if◌then◌else◌}
use Rattle.std.proofs.Common.{List, [], ◌∷◌, ◌++◌, fold, refl, ap, ◌∙◌, sym, arith, zero, suc}
use Rattle.std.proofs.lemmas.Bool.{ne_eqb, lt-ltb}
use Rattle.std.proofs.lemmas.List.Sums.{sum_by-append, sum_by-cons}
use Rattle.std.specs.List.{list_all, list_any, count_by}
use Rattle.b2sum_commands.specs.Manifests.{is_different, is_equal, passes_lenient_check}
use Rattle.b2sum_commands.specs.Manifests.{is_well_formed, manifest_holds_by_verdicts}
use Rattle.b2sum_commands.specs.LineNeeds.{no_lacks}
use Rattle.b2sum_commands.specs.Manifests.{capped_to_64_bits}
use Rattle.b2sum_commands.specs.Reports.{CountsMatchVerdicts, CountsAddVerdict, lacks_with_verdict}
use Rattle.b2sum_commands.specs.Reports.{manifest_holds_by_counts, incremented_if}
use Rattle.b2sum_commands.specs.Reports.{is_unread, is_skipped, is_malformed, has_unmet_needs}
use Rattle.b2sum_commands.specs.declared.check.Counts.{Counts}
use Rattle.b2sum_commands.specs.declared.check.Verdict.{Verdict}
use Rattle.b2sum_commands.specs.declared.line_needs.Lacks.{Lacks}
use Rattle.b2sum_commands.specs.declared.check.Verdict.TheVariants.{Equal, Different, Unread}
use Rattle.b2sum_commands.specs.declared.check.Verdict.TheVariants.{Skipped, Malformed, Unmet}
use Rattle.b2sum_commands.specs.declared.check.Verdict.TheVariants.{Comment}

-- ---- one more verdict

abbrev one_if_true : Bool → ℕ
one_if_true kind = if kind then 1 else 0

one_more : (kind : Verdict → Bool) (vs : List Verdict) (v : Verdict)
    → count_by kind (vs ++ (v ∷ [])) ≡ count_by kind vs + one_if_true (kind v)
one_more kind vs v =
    let f = λ (y : Verdict). one_if_true (kind y) in
    omega (arith, sum_by-append f vs (v ∷ []), sum_by-cons f v [])

capped_more : (b : Bool) (n old new : ℕ) → old ≡ capped_to_64_bits n → new ≡ incremented_if b old
    → new ≡ capped_to_64_bits (n + one_if_true b)
capped_more true n old new was is = omega (arith, was, is)
capped_more false n old new was is = omega (arith, was, is)

-- A count with one more verdict.
capped_count-append : (kind : Verdict → Bool) (vs : List Verdict) (v : Verdict) (old new : ℕ)
    → old ≡ capped_to_64_bits (count_by kind vs) → new ≡ incremented_if (kind v) old
    → new ≡ capped_to_64_bits (count_by kind (vs ++ (v ∷ [])))
capped_count-append kind vs v old new was is =
    capped_more (kind v) (count_by kind vs) old new was is
    ∙ ap capped_to_64_bits (sym (one_more kind vs v))

fold_lacks-append : (l : Lacks) (vs : List Verdict) (v : Verdict)
    → fold lacks_with_verdict l (vs ++ (v ∷ []))
    ≡ lacks_with_verdict (fold lacks_with_verdict l vs) v
fold_lacks-append l [] v = refl
fold_lacks-append l (u ∷ vs) v = fold_lacks-append (lacks_with_verdict l u) vs v

-- The counts with one more verdict.
pub counts_match-append : (vs : List Verdict) (v : Verdict) (old new : Counts)
    → CountsMatchVerdicts vs old
    → CountsAddVerdict v old new → CountsMatchVerdicts (vs ++ (v ∷ [])) new
counts_match-append vs v old new c a = record {
  equal = capped_count-append is_equal vs v old.equal new.equal c.equal a.equal;
  different = capped_count-append is_different vs v old.different new.different c.different
      a.different;
  unread = capped_count-append is_unread vs v old.unread new.unread c.unread a.unread;
  skipped = capped_count-append is_skipped vs v old.skipped new.skipped c.skipped a.skipped;
  malformed = capped_count-append is_malformed vs v old.malformed new.malformed c.malformed
      a.malformed;
  unmet = capped_count-append has_unmet_needs vs v old.unmet new.unmet c.unmet a.unmet;
  lacks = a.lacks ∙ ap (λ (l : Lacks). lacks_with_verdict l v) c.lacks
      ∙ sym (fold_lacks-append no_lacks vs v);
}

-- ---- whether a manifest holds

-- No verdict is of a kind.
abbrev has_no_verdict_of : (Verdict → Bool) → List Verdict → Bool
has_no_verdict_of kind vs = list_all (λ v. not (kind v)) vs

count_zero : (b : Bool) (n : ℕ) → ((one_if_true b + n) == 0) ≡ (not b && (n == 0))
count_zero true n = ne_eqb (1 + n) 0 (λ is. omega (arith, is))
count_zero false n = ap (λ m. m == 0) (omega arith)

count_zero-iff_none : (kind : Verdict → Bool) (vs : List Verdict)
    → (count_by kind vs == 0) ≡ has_no_verdict_of kind vs
count_zero-iff_none kind [] = refl
count_zero-iff_none kind (v ∷ vs) =
    ap (λ n. n == 0) (sum_by-cons (λ (y : Verdict). one_if_true (kind y)) v vs)
    ∙ count_zero (kind v) (count_by kind vs)
    ∙ ap (λ b. not (kind v) && b) (count_zero-iff_none kind vs)

capped-is_zero_iff_zero : (n : ℕ) → (capped_to_64_bits n == 0) ≡ (n == 0)
capped-is_zero_iff_zero zero = refl
capped-is_zero_iff_zero (suc n) =
    ne_eqb (capped_to_64_bits (suc n)) 0 (λ is. omega (arith, is))
    ∙ sym (ne_eqb (suc n) 0 (λ is. omega (arith, is)))

capped-is_positive_iff_nonzero : (n : ℕ) → nat_lt 0 (capped_to_64_bits n) ≡ not (n == 0)
capped-is_positive_iff_nonzero zero = refl
capped-is_positive_iff_nonzero (suc n) =
    lt-ltb 0 (capped_to_64_bits (suc n)) (omega arith)
    ∙ sym (ap not (ne_eqb (suc n) 0 (λ is. omega (arith, is))))

either_not : (a b : Bool) → (a || not b) ≡ not (not a && b)
either_not true b = refl
either_not false b = refl

list_any-is_not_none : (kind : Verdict → Bool) (vs : List Verdict) → list_any kind vs
    ≡ not (has_no_verdict_of kind vs)
list_any-is_not_none kind [] = refl
list_any-is_not_none kind (v ∷ vs) =
    ap (λ b. kind v || b) (list_any-is_not_none kind vs)
    ∙ either_not (kind v) (has_no_verdict_of kind vs)

-- Some verdict is of a kind if its count is not zero.
count_positive-iff_any : (kind : Verdict → Bool) (vs : List Verdict) (n : ℕ) → n
    ≡ capped_to_64_bits (count_by kind vs)
    → nat_lt 0 n ≡ list_any kind vs
count_positive-iff_any kind vs n is =
    ap (nat_lt 0) is ∙ capped-is_positive_iff_nonzero (count_by kind vs)
    ∙ ap not (count_zero-iff_none kind vs)
    ∙ sym (list_any-is_not_none kind vs)

-- No verdict is of a kind if its count is zero.
capped_count_zero-iff_none : (kind : Verdict → Bool) (vs : List Verdict) (n : ℕ) → n
    ≡ capped_to_64_bits (count_by kind vs)
    → (n == 0) ≡ has_no_verdict_of kind vs
capped_count_zero-iff_none kind vs n is =
    ap (λ m. m == 0) is ∙ capped-is_zero_iff_zero (count_by kind vs) ∙ count_zero-iff_none kind vs

and_false : (b : Bool) → (b && false) ≡ false
and_false true = refl
and_false false = refl

-- All is fine if no file has another digest, none cannot be read, and no line needs other options.
lenient_check-passes_iff_none_bad : (vs : List Verdict) → list_all passes_lenient_check vs
    ≡ (has_no_verdict_of is_different vs
    && (has_no_verdict_of is_unread vs && has_no_verdict_of has_unmet_needs vs))
lenient_check-passes_iff_none_bad [] = refl
lenient_check-passes_iff_none_bad (Equal ∷ vs) = lenient_check-passes_iff_none_bad vs
lenient_check-passes_iff_none_bad (Different ∷ vs) = refl
lenient_check-passes_iff_none_bad (Unread ∷ vs) = sym
    (and_false (has_no_verdict_of is_different vs))
lenient_check-passes_iff_none_bad (Skipped ∷ vs) = lenient_check-passes_iff_none_bad vs
lenient_check-passes_iff_none_bad (Malformed ∷ vs) = lenient_check-passes_iff_none_bad vs
lenient_check-passes_iff_none_bad (Unmet lacks ∷ vs) = sym
    (ap (λ b. has_no_verdict_of is_different vs && b)
    (and_false (has_no_verdict_of is_unread vs)) ∙ and_false (has_no_verdict_of is_different vs))
lenient_check-passes_iff_none_bad (Comment ∷ vs) = lenient_check-passes_iff_none_bad vs

well_formed-iff_not_malformed : (v : Verdict) → is_well_formed v ≡ not (is_malformed v)
well_formed-iff_not_malformed Equal = refl
well_formed-iff_not_malformed Different = refl
well_formed-iff_not_malformed Unread = refl
well_formed-iff_not_malformed Skipped = refl
well_formed-iff_not_malformed Malformed = refl
well_formed-iff_not_malformed (Unmet lacks) = refl
well_formed-iff_not_malformed Comment = refl

all_well_formed-iff_none_malformed : (vs : List Verdict) → list_all is_well_formed vs
    ≡ has_no_verdict_of is_malformed vs
all_well_formed-iff_none_malformed [] = refl
all_well_formed-iff_none_malformed (v ∷ vs) = ap (λ b. b && list_all is_well_formed vs)
    (well_formed-iff_not_malformed v)
    ∙ ap (λ b. not (is_malformed v) && b) (all_well_formed-iff_none_malformed vs)

-- The result by the counts is that by the verdicts.
pub holds_by_counts-iff_by_verdicts : (strict : Bool) (vs : List Verdict) (c : Counts)
    → CountsMatchVerdicts vs c
    → manifest_holds_by_counts strict c ≡ manifest_holds_by_verdicts strict vs
holds_by_counts-iff_by_verdicts strict vs c are =
    rw (
      count_positive-iff_any is_equal vs c.equal are.equal,
      capped_count_zero-iff_none is_different vs c.different are.different,
      capped_count_zero-iff_none is_unread vs c.unread are.unread,
      capped_count_zero-iff_none has_unmet_needs vs c.unmet are.unmet,
      capped_count_zero-iff_none is_malformed vs c.malformed are.malformed,
      ← lenient_check-passes_iff_none_bad vs,
      ← all_well_formed-iff_none_malformed vs,
    ) refl
