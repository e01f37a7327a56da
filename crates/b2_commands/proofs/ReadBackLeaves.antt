-- `root` reads the lines of digests that `leaves` prints as these digests.
use Rattle.std.proofs.Common.{◌≡◌, ℕ, zero, suc, ◌+◌, ◌*◌, ◌/◌, ◌%◌, ◌<◌, ◌≤◌, ◌==◌, Bool, true}
use Rattle.std.proofs.Common.{false}
use Rattle.std.proofs.Common.{List, [], ◌∷◌, ◌++◌, length, take, drop, Some, Result, Ok, Err, refl}
use Rattle.std.proofs.Common.{sym, ap, ◌∙◌, subst, arith, inl, inr, append_assoc, append-nil}
use Rattle.std.proofs.Common.{length-append, length-drop, drop-drop, take_all}
use Rattle.std.proofs.Math.Seq.{take-add}
use Rattle.std.proofs.lemmas.Bool.{cases_eq}
use Rattle.std.proofs.lemmas.List.{length-take-le}
use Rattle.std.proofs.lemmas.List.Splits.{length-slice_split, slice_split_at}
use Rattle.std.specs.List.{All, flat_map, range_with_len, slice_split}
use Rattle.std.specs.Prelude.{slice_index}
use Rattle.std.specs.Result.{result_map_both}
use Rattle.hex.specs.Hex.{IsBytes, encode_lower, encode_with, lower_digits, hex_digit_value}
use Rattle.hex.proofs.HexLemmas.{IsDigits-lower_digits, decode_sized-encode_lower}
use Rattle.text_lines.specs.Cuts.{lines_of, lines_of_parts}
use Rattle.blake2.specs.Streams.{line_of}
use Rattle.b2_commands.specs.declared.fault.Fault.{Fault}
use Rattle.b2_commands.specs.declared.fault.Fault.TheVariants.{WrongLine}
use Rattle.b2_commands.specs.LeafDigests.{digest_of_numbered_line, digest_lines, digests_of_lines}
use Rattle.b2_commands.specs.LeafDigests.{digest_in_joined}
use Rattle.b2_commands.specs.LeafDigests.{read_digests}
use Rattle.b2_commands.specs.ArgumentTasks.{and_then}
use Rattle.b2_commands.specs.LeafLaws.{RootReadsLeaves, part_lines}
use Rattle.b2_commands.specs.Tasks.{tree_with}
use Rattle.blake2_tree.specs.TreeRoot.{TreeParameters, leaf_count}
use Rattle.blake2_tree.specs.LeafRanges.{digests_of_cut_ranges, range_digests}
use Rattle.blake2_tree.proofs.RangeLaws.{length-range_digests, root_over_digests-is_root_of_cuts}
use Rattle.b2_commands.proofs.LeafLines.{prepend_digests}
use Rattle.b2_commands.proofs.RangeBytes.{IsBytes-take_drop, IsBytes-range_digests}

-- ---- a line of digits

-- A test of a number for a newline.
abbrev is_newline : ℕ → Bool
is_newline b = b == 10

-- A newline is no digit.
newline-is_no_hex_digit : (k : ℕ) → hex_digit_value 10 ≡ Some k → ⊥
newline-is_no_hex_digit k read = grind (arith, read)

hex_digit-is_no_newline : (k : ℕ) → k < 16 → is_newline (slice_index lower_digits k) ≡ false
hex_digit-is_no_newline k below =
    let d : ℕ = slice_index lower_digits k in
    elim (cases_eq d 10) [
      | inr other ↦ grind (arith, other)
      | inl newline ↦
          absurd (newline-is_no_hex_digit k (subst (λ (d : ℕ). hex_digit_value d ≡ Some k) newline
          (IsDigits-lower_digits k below)))
    ]

-- The digits of bytes have no newline.
encode_lower-has_no_newline : (bytes : List ℕ) → IsBytes bytes
    → All (λ b. is_newline b ≡ false) (encode_lower bytes)
unfolding encode_with
encode_lower-has_no_newline [] are k d below = absurd (omega (arith, below))
encode_lower-has_no_newline (b ∷ bytes) are zero d below =
    let small : b < 256 = are 0 in
    hex_digit-is_no_newline (b / 16) (omega (arith, small))
encode_lower-has_no_newline (b ∷ bytes) are (suc zero) d below =
    let small : b < 256 = are 0 in
    hex_digit-is_no_newline (b % 16) (omega (arith, small))
encode_lower-has_no_newline (b ∷ bytes) are (suc (suc k)) d below =
    encode_lower-has_no_newline bytes (λ i. are (suc i)) k d (omega (arith, below))

-- A part before another is a line.
lines_of_parts-cons : (part : List ℕ) (parts : List (List ℕ)) → 0 < length parts
    → lines_of_parts (part ∷ parts) ≡ part ∷ lines_of_parts parts
lines_of_parts-cons part [] some = absurd (omega (arith, some))
lines_of_parts-cons part (next ∷ parts) some = refl

-- The digits of bytes, followed by a newline, are the first line.
lines_of-digest_line_first : (bytes rest : List ℕ) → IsBytes bytes
    → lines_of (line_of bytes ++ rest) ≡ encode_lower bytes ∷ lines_of rest
lines_of-digest_line_first bytes rest are =
    ap lines_of (append_assoc (encode_lower bytes) (10 ∷ []) rest)
    ∙ ap lines_of_parts (slice_split_at is_newline (encode_lower bytes) 10 rest
    (encode_lower-has_no_newline bytes are) refl)
    ∙ lines_of_parts-cons (encode_lower bytes) (slice_split is_newline rest)
    (omega (arith, length-slice_split is_newline rest))

-- ---- the lines of joined digests

-- Digests that follow others.
prepend_digests-twice : (a b : List ℕ) (later : Result (List ℕ) Fault)
    → and_then (prepend_digests b later) (λ more. Ok (a ++ more)) ≡ prepend_digests (a ++ b) later
prepend_digests-twice a b (Ok more) = ap Ok (sym (append_assoc a b more))
prepend_digests-twice a b (Err fault) = refl

-- No digests are followed by what is left.
prepend_digests-none : (later : Result (List ℕ) Fault) → prepend_digests [] later ≡ later
prepend_digests-none (Ok more) = refl
prepend_digests-none (Err fault) = refl

-- A line of a digest is read as the digest.
encoded_digest-is_read_back : (number : ℕ) (digest : List ℕ) → IsBytes digest → length digest ≡ 64
    → digest_of_numbered_line number (encode_lower digest) ≡ Ok digest
encoded_digest-is_read_back number digest are size =
    ap (result_map_both (λ d. d) (λ _. WrongLine number))
    (decode_sized-encode_lower digest 64 size are)

-- The lines of digests a to a + n, and what follows, are read as these digests and what is read of
-- the rest.
range_of_lines-is_read_back : (digests rest : List ℕ) (a n number : ℕ) → IsBytes digests
    → (a + n) * 64 ≤ length digests
    → digests_of_lines number (lines_of (flat_map (λ i. line_of (digest_in_joined digests i))
    (range_with_len a n) ++ rest))
    ≡ prepend_digests (take (n * 64) (drop (a * 64) digests))
    (digests_of_lines (number + n) (lines_of rest))
range_of_lines-is_read_back digests rest a zero number are within =
    let same : number ≡ number + 0 = omega arith in
    ap (λ (m : ℕ). digests_of_lines m (lines_of rest)) same
    ∙ sym (prepend_digests-none (digests_of_lines (number + 0) (lines_of rest)))
range_of_lines-is_read_back digests rest a (suc n) number are within =
    let d : List ℕ = digest_in_joined digests a in
    let lines : List ℕ =
    flat_map (λ i. line_of (digest_in_joined digests i)) (range_with_len (a + 1) n) in
    let others : List ℕ = take (n * 64) (drop ((a + 1) * 64) digests) in
    let bytes : IsBytes d = IsBytes-take_drop 64 (a * 64) digests are in
    let size : length d ≡ 64 = length-take-le 64 (drop (a * 64) digests)
    (omega (arith, within, length-drop (a * 64) digests)) in
    let again : digests_of_lines (number + 1) (lines_of (lines ++ rest))
    ≡ prepend_digests others (digests_of_lines (number + 1 + n) (lines_of rest)) =
    range_of_lines-is_read_back digests rest (a + 1) n (number + 1) are (omega (arith, within)) in
    let next : number + 1 + n ≡ number + suc n = omega arith in
    let far : a * 64 + 64 ≡ (a + 1) * 64 = omega arith in
    let many : 64 + n * 64 ≡ suc n * 64 = omega arith in
    let joined : d ++ others ≡ take (suc n * 64) (drop (a * 64) digests) =
    ap (λ (l : List ℕ). d ++ take (n * 64) l)
    (ap (λ (m : ℕ). drop m digests) (sym far) ∙ sym (drop-drop 64 (a * 64) digests))
    ∙ sym (take-add 64 (n * 64) (drop (a * 64) digests))
    ∙ ap (λ (m : ℕ). take m (drop (a * 64) digests)) many in
    ap (λ (t : List ℕ). digests_of_lines number (lines_of t)) (append_assoc (line_of d) lines rest)
    ∙ ap (digests_of_lines number) (lines_of-digest_line_first d (lines ++ rest) bytes)
    ∙ ap (λ (r : Result (List ℕ) Fault). and_then r
    (λ x. and_then (digests_of_lines (number + 1) (lines_of (lines ++ rest)))
    (λ more. Ok (x ++ more))))
    (encoded_digest-is_read_back number d bytes size)
    ∙ ap (λ (r : Result (List ℕ) Fault). and_then r (λ more. Ok (d ++ more))) again
    ∙ prepend_digests-twice d others (digests_of_lines (number + 1 + n) (lines_of rest))
    ∙ (λ i. prepend_digests (joined i) (digests_of_lines (next i) (lines_of rest)))

-- All lines of joined digests, and what follows.
digest_lines-are_read_back : (digests rest : List ℕ) (n number : ℕ) → IsBytes digests
    → length digests ≡ n * 64
    → digests_of_lines number (lines_of (digest_lines digests ++ rest))
    ≡ prepend_digests digests (digests_of_lines (number + n) (lines_of rest))
digest_lines-are_read_back digests rest n number are size =
    let many : length digests / 64 ≡ n = omega (arith, size) in
    let all : take (n * 64) digests ≡ digests = take_all (n * 64) digests (omega (arith, size)) in
    ap (λ (m : ℕ). digests_of_lines number
    (lines_of (flat_map (λ i. line_of (digest_in_joined digests i))
    (range_with_len 0 m) ++ rest))) many
    ∙ range_of_lines-is_read_back digests rest 0 n number are (omega (arith, size))
    ∙ ap (λ (l : List ℕ). prepend_digests l (digests_of_lines (number + n) (lines_of rest))) all

-- ---- the parts of a message

-- The lines of all parts are read as the digests of all leaves.
part_lines-are_read_back : (p : TreeParameters) (first : ℕ) (front : List (List ℕ)) (last : List ℕ)
    (number : ℕ)
    → digests_of_lines number (lines_of (part_lines p first front last))
    ≡ Ok (digests_of_cut_ranges p first front last)
part_lines-are_read_back p first [] last number =
    let digests : List ℕ = range_digests p first true last in
    ap (λ (t : List ℕ). digests_of_lines number (lines_of t))
    (sym (append-nil (digest_lines digests)))
    ∙ digest_lines-are_read_back digests [] (leaf_count p.leaf_length (length last)) number
    (IsBytes-range_digests p first true last) (length-range_digests p first true last)
    ∙ ap Ok (append-nil digests)
part_lines-are_read_back p first (x ∷ front) last number =
    let digests : List ℕ = range_digests p first false x in
    let n : ℕ = leaf_count p.leaf_length (length x) in
    let next : ℕ = first + length x / p.leaf_length in
    digest_lines-are_read_back digests (part_lines p next front last) n number
    (IsBytes-range_digests p first false x) (length-range_digests p first false x)
    ∙ ap (prepend_digests digests) (part_lines-are_read_back p next front last (number + n))

-- A part has a leaf, so that a message has some digests.
cut_digests-nonempty : (p : TreeParameters) (first : ℕ) (front : List (List ℕ)) (last : List ℕ)
    → 0 < length (digests_of_cut_ranges p first front last)
cut_digests-nonempty p first [] last = omega (arith, length-range_digests p first true last)
cut_digests-nonempty p first (x ∷ front) last =
    omega (
      arith,
      length-range_digests p first false x,
      length-append (range_digests p first false x)
          (digests_of_cut_ranges p (first + length x / p.leaf_length) front last),
    )

-- A text of some digests is read from its first line on.
read_digests-ok_if_nonempty : (text digests : List ℕ)
    → digests_of_lines 1 (lines_of text) ≡ Ok digests
    → 0 < length digests → read_digests text ≡ Ok digests
read_digests-ok_if_nonempty [] digests is some = grind (arith, is, some)
read_digests-ok_if_nonempty (b ∷ text) digests is some = is

pub RootReadsLeaves-holds : RootReadsLeaves
RootReadsLeaves-holds n leaf_length given front last some cut =
    let p : TreeParameters = tree_with leaf_length given in
    let digests : List ℕ = digests_of_cut_ranges p 0 front last in
    let read : read_digests (part_lines p 0 front last) ≡ Ok digests =
    read_digests-ok_if_nonempty (part_lines p 0 front last) digests
    (part_lines-are_read_back p 0 front last 1)
    (cut_digests-nonempty p 0 front last) in
    rw read (root_over_digests-is_root_of_cuts n p digests some front last cut refl)
