-- Joined digests in lines: read a line at a time, and printed one after the other.
use Rattle.std.proofs.Common.{◌≡◌, ℕ, zero, suc, ◌+◌, ◌<◌, List, [], ◌∷◌, ◌++◌, length}
use Rattle.std.proofs.Common.{append_assoc}
use Rattle.std.proofs.Common.{append-nil, Option, Result, Ok, Err, refl, sym, ap, ◌∙◌, subst, arith}
use Rattle.std.proofs.KnownBytes.{Appends-trans}
use Rattle.std.specs.Io.KnownBytes.{Appends}
use Rattle.std.specs.List.{flat_map, range_with_len}
use Rattle.text_lines.specs.Cuts.{lines_of}
use Rattle.b2_commands.specs.declared.fault.Fault.{Fault}
use Rattle.b2_commands.specs.LeafDigests.{digest_of_numbered_line, digests_of_lines, read_digests}
use Rattle.b2_commands.specs.ArgumentTasks.{and_then}

-- Digests, followed by those of later lines.
abbrev pub prepend_digests : List ℕ → Result (List ℕ) Fault → Result (List ℕ) Fault
prepend_digests digests (Ok later) = Ok (digests ++ later)
prepend_digests digests (Err fault) = Err fault

-- One more digest follows the earlier ones.
prepend_digests-append : (digests digest : List ℕ) (later : Result (List ℕ) Fault)
    → prepend_digests digests (and_then later (λ more. Ok (digest ++ more)))
    ≡ prepend_digests (digests ++ digest) later
prepend_digests-append digests digest (Ok more) = ap Ok (sym (append_assoc digests digest more))
prepend_digests-append digests digest (Err fault) = refl

-- The next line has a digest: the digests of all lines are the earlier ones, that one, and those of
-- the later lines.
pub prepend_digests-next_line : (all : Result (List ℕ) Fault) (digests digest : List ℕ) (number : ℕ)
    (line : List ℕ) (lines rest : List (List ℕ))
    → all ≡ prepend_digests digests (digests_of_lines number rest)
    → rest ≡ line ∷ lines → digest_of_numbered_line number line ≡ Ok digest
    → all ≡ prepend_digests (digests ++ digest) (digests_of_lines (number + 1) lines)
prepend_digests-next_line all digests digest number line lines rest is first read =
    is ∙ rw (first, read) (prepend_digests-append digests digest
    (digests_of_lines (number + 1) lines))

-- A text that is not empty is read from its first line on.
pub read_digests-from_first_line : (text : List ℕ) → 0 < length text
    → read_digests text ≡ prepend_digests [] (digests_of_lines 1 (lines_of text))
read_digests-from_first_line [] some = absurd (omega arith)
read_digests-from_first_line (b ∷ text) some = same (digests_of_lines 1 (lines_of (b ∷ text)))
  where
    same : (r : Result (List ℕ) Fault) → r ≡ prepend_digests [] r
    same (Ok digests) = refl
    same (Err fault) = refl

-- The last of the lists that are joined.
pub flat_map-last : {A : Type 0} (f : ℕ → List A) (a n : ℕ)
    → flat_map f (range_with_len a (suc n)) ≡ flat_map f (range_with_len a n) ++ f (a + n)
flat_map-last f a zero =
    let at : a + 0 ≡ a = omega arith in
    rw at (append-nil (f a))
flat_map-last f a (suc n) =
    let at : a + 1 + n ≡ a + suc n = omega arith in
    ap (λ l. f a ++ l) (flat_map-last f (a + 1) n)
    ∙ sym (append_assoc (f a) (flat_map f (range_with_len (a + 1) n)) (f (a + 1 + n)))
    ∙ ap (λ i. flat_map f (range_with_len a (suc n)) ++ f i) at

-- What is printed for the next number follows what was printed for those before it.
pub Appends-next_of_range : (f : ℕ → List ℕ) (i : ℕ) (old mid new : Option (List ℕ)) (line : List ℕ)
    → Appends old mid (flat_map f (range_with_len 0 i)) → line ≡ f i → Appends mid new line
    → Appends old new (flat_map f (range_with_len 0 (i + 1)))
Appends-next_of_range f i old mid new line before is next =
    let one : i + 1 ≡ suc i = omega arith in
    let here : 0 + i ≡ i = omega arith in
    let more : flat_map f (range_with_len 0 (i + 1)) ≡ flat_map f (range_with_len 0 i) ++ line =
    ap (λ n. flat_map f (range_with_len 0 n)) one ∙ flat_map-last f 0 i
    ∙ ap (λ l. flat_map f (range_with_len 0 i) ++ l) (ap f here ∙ sym is) in
    subst (Appends old new) (sym more)
    (Appends-trans old mid new (flat_map f (range_with_len 0 i)) line before next)
