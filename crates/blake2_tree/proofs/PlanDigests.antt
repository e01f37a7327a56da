-- The digests of the parts of a plan, joined, are those of all leaves.
use Rattle.std.proofs.Common.{◌≡◌, ℕ, zero, suc, ◌+◌, ◌-◌, ◌*◌, ◌/◌, ◌%◌, ◌<◌, ◌≤◌, ◌⊎◌, inl, inr}
use Rattle.std.proofs.Common.{Bool, true, false, ◌&&◌, nat_eq, List, ◌++◌, length, take, drop}
use Rattle.std.proofs.Common.{sym, ap, ◌∙◌, arith, append-nil, length-drop}
use Rattle.std.proofs.lemmas.List.{take_all, take-append-drop, length-take-le}
use Rattle.std.proofs.lemmas.Bool.{cases_eq, eq-eqb, ne_eqb}
use Rattle.std.proofs.lemmas.Grind.{div_ceil_times}
use Rattle.std.proofs.Math.Bool.{and-true, and-false}
use Rattle.std.specs.List.{flat_map, range_with_len}
use Rattle.std.specs.Int.{div_ceil}
use Rattle.blake2_simd.specs.Family.{blake2b}
use Rattle.blake2_compress.specs.Hash.{digest}
use Rattle.blake2_compress.specs.MessagePieces.{piece}
use Rattle.blake2_compress.proofs.MessagePieces.{piece-zero, piece-next}
use Rattle.blake2_tree.specs.declared.thread_plan.Plan.{Plan}
use Rattle.blake2_tree.specs.TreeRoot.{TreeParameters, root_input_over_digests, tree_root}
use Rattle.blake2_tree.specs.TreeRoot.{leaf_digests}
use Rattle.blake2_tree.specs.LeafRanges.{range_digests}
use Rattle.blake2_tree.specs.PartPlans.{HasWholeLeafParts, joined_part_digests, count_of_parts}
use Rattle.blake2_tree.specs.PartPlans.{HasMessageDigests}
use Rattle.blake2_tree.specs.PartPlans.{HasLeafDigests}
use Rattle.blake2_tree.proofs.JoinedRanges.{flat_map-range_shifted_by_one}
use Rattle.blake2_tree.proofs.MessageLeaves.{range_digests-of_whole_message}
use Rattle.blake2_tree.proofs.RangeLaws.{range_digests-append_k_leaves}
use Rattle.blake2_tree.proofs.PlanParts.{part-begins_within_bytes, last_part-reaches_end}

-- Part i of some parts of these leaves, as its digests.
digests_of_part : TreeParameters → ℕ → ℕ → Bool → ℕ → List ℕ → ℕ → List ℕ
digests_of_part s first per ends count x i =
    range_digests s (first + i * per) (ends && nat_eq (i + 1) count)
    (piece (per * s.leaf_length) x i)

-- The first of several parts does not end the message.
digests_of_part-first_of_several : (s : TreeParameters) (first per : ℕ) (ends : Bool) (count : ℕ)
    (x : List ℕ)
    → 1 < count
    → digests_of_part s first per ends count x 0
    ≡ range_digests s first false (take (per * s.leaf_length) x)
unfolding digests_of_part
digests_of_part-first_of_several s first per ends count x several =
    let at : first + 0 * per ≡ first = omega arith in
    let flag : nat_eq (0 + 1) count ≡ false = ne_eqb 1 count (λ e. absurd (omega arith)) in
    (λ i. range_digests s (at i) (ends && flag i) (piece-zero (per * s.leaf_length) x i))
    ∙ ap (λ b. range_digests s first b (take (per * s.leaf_length) x)) (and-false ends)

digests_of_part-next : (s : TreeParameters) (first per : ℕ) (ends : Bool) (count : ℕ) (x : List ℕ)
    (i : ℕ)
    → digests_of_part s first per ends (suc count) x (i + 1)
    ≡ digests_of_part s (first + per) per ends count (drop (per * s.leaf_length) x) i
unfolding digests_of_part
digests_of_part-next s first per ends count x i =
    let at : first + (i + 1) * per ≡ first + per + i * per = omega arith in
    let flag : nat_eq (i + 1 + 1) (suc count) ≡ nat_eq (i + 1) count = elim (cases_eq (i + 1) count) [
      | inl e ↦ eq-eqb (i + 1 + 1) (suc count) (omega arith) ∙ sym (eq-eqb (i + 1) count e)
      | inr ne ↦ ne_eqb (i + 1 + 1) (suc count) (λ e. ne (omega arith))
          ∙ sym (ne_eqb (i + 1) count ne)
    ] in
    λ j. range_digests s (at j) (ends && flag j) (piece-next (per * s.leaf_length) x i j)

-- One part is all leaves.
digests_of_part-single : (s : TreeParameters) (first per : ℕ) (ends : Bool) (x : List ℕ)
    → length x ≤ per * s.leaf_length
    → digests_of_part s first per ends 1 x 0 ≡ range_digests s first ends x
unfolding digests_of_part
digests_of_part-single s first per ends x short =
    let at : first + 0 * per ≡ first = omega arith in
    (λ i. range_digests s (at i) (and-true ends i)
    ((piece-zero (per * s.leaf_length) x ∙ take_all (per * s.leaf_length) x short) i))

-- The digests of count + 1 parts of k + 1 leaves each, of which the last may be shorter.
digests_of_parts-are_range_digests : (s : TreeParameters) (k : ℕ) (ends : Bool) (count first : ℕ)
    (x : List ℕ)
    → 0 < s.leaf_length → length x ≤ suc count * (suc k * s.leaf_length)
    → (count ≡ 0) ⊎ (count * (suc k * s.leaf_length) < length x)
    → flat_map (digests_of_part s first (suc k) ends (suc count) x) (range_with_len 0 (suc count))
    ≡ range_digests s first ends x
digests_of_parts-are_range_digests s k ends zero first x some short more =
    append-nil (digests_of_part s first (suc k) ends 1 x 0)
    ∙ digests_of_part-single s first (suc k) ends x (omega arith)
digests_of_parts-are_range_digests s k ends (suc count) first x some short more =
    let l : ℕ = suc k * s.leaf_length in
    let long : suc count * l < length x = elim more [ inl none ↦ absurd (omega arith) | inr h ↦ h ] in
    let head : List ℕ = take l x in
    let rest : List ℕ = drop l x in
    let left : length rest ≡ length x - l = length-drop l x in
    let size : length head ≡ suc k * s.leaf_length = length-take-le l x (omega (arith, long)) in
    let first_digests =
    digests_of_part-first_of_several s first (suc k) ends (suc (suc count)) x (omega arith) in
    let others =
    flat_map-range_shifted_by_one (digests_of_part s first (suc k) ends (suc (suc count)) x)
    (digests_of_part s (first + suc k) (suc k) ends (suc count) rest)
    (digests_of_part-next s first (suc k) ends (suc count) x) 0 (suc count)
    ∙ digests_of_parts-are_range_digests s k ends count (first + suc k) rest some
    (omega (arith, left, short))
    (inr (omega (arith, left, long))) in
    (λ i. first_digests i ++ others i)
    ∙ sym (range_digests-append_k_leaves s first k ends head rest some size
    (omega (arith, left, long)))
    ∙ ap (range_digests s first ends) (take-append-drop l x)

-- The digests of the parts of a plan.
joined_part_digests-are_range_digests : (p : Plan) (s : TreeParameters) (next : ℕ) (x : List ℕ)
    → HasWholeLeafParts p
    → s.leaf_length ≡ p.leaf_length → length x ≡ p.end - p.start → 0 < p.part_count
    → joined_part_digests s next p x ≡ range_digests s next (nat_eq p.ends 1) x
unfolding digests_of_part
joined_part_digests-are_range_digests p s next x is_plan same size several =
    let leaf : ℕ = p.leaf_length in
    let per : ℕ = p.part_length / leaf in
    let k : ℕ = per - 1 in
    let c : ℕ = p.part_count - 1 in
    let whole : leaf * per + p.part_length % leaf ≡ p.part_length = omega (arith, is_plan.some) in
    let one : 1 ≤ per = elim (cases_eq per 0) [
      | inl none ↦ absurd (omega (arith, whole, is_plan.whole, is_plan.part, ap (λ m. leaf * m) none))
      | inr some ↦ omega (arith, some)
    ] in
    let each : per ≡ suc k = omega (arith, one) in
    let count : p.part_count ≡ suc c = omega (arith, several) in
    let bytes : p.part_length ≡ suc k * s.leaf_length =
    omega (arith, whole, is_plan.whole) ∙ (λ i. each i * sym same i) in
    let is : suc c ≡ count_of_parts p.ends p.part_length (length x) =
    sym count ∙ is_plan.count ∙ ap (count_of_parts p.ends p.part_length) (sym size) in
    let reaches : length x ≤ c * p.part_length + p.part_length =
    last_part-reaches_end p.part_length (length x) p.ends c is_plan.part is_plan.flag
    (omega (arith, is)) in
    let begins : (c * p.part_length < length x) ⊎ ((c ≡ 0) × (length x ≡ 0)) =
    part-begins_within_bytes p.part_length (length x) p.ends c is_plan.part is_plan.flag
    (omega (arith, is)) in
    let last : c * p.part_length ≡ c * (suc k * s.leaf_length) = ap (λ m. c * m) bytes in
    (λ i. flat_map (λ j. range_digests s (next + j * each i)
    (nat_eq p.ends 1 && nat_eq (j + 1) (count i)) (piece (bytes i) x j)) (range_with_len 0 (count i)))
    ∙ digests_of_parts-are_range_digests s k (nat_eq p.ends 1) c next x
    (omega (arith, same, is_plan.some))
    (omega (arith, reaches, last, bytes)) (elim begins [
      | inl h ↦ inr (omega (arith, h, last))
      | inr h ↦ inl h.0
    ])

pub message_plan-has_digests : (p : Plan) → HasWholeLeafParts p → p.ends ≡ 1 → HasMessageDigests p
unfolding tree_root
message_plan-has_digests p is_plan ends =
    let flag : nat_eq p.ends 1 ≡ true = eq-eqb p.ends 1 ends in
    let all : (s : TreeParameters) (message : List ℕ) → s.leaf_length ≡ p.leaf_length
    → length message ≡ p.end - p.start → joined_part_digests s 0 p message
    ≡ leaf_digests s message =
    λ s message same size.
    joined_part_digests-are_range_digests p s 0 message is_plan same size
    (omega (arith, is_plan.count, ends))
    ∙ ap (λ b. range_digests s 0 b message) flag
    ∙ range_digests-of_whole_message s message in
    record {
      digests = all;
      root = λ n s message same size.
          ap (λ d. digest blake2b n (root_input_over_digests s d)) (all s message same size);
    }

pub update_plan-has_leaf_digests : (p : Plan) → HasWholeLeafParts p → p.ends ≡ 0 → HasLeafDigests p
update_plan-has_leaf_digests p is_plan ends s next leaves same size more =
    let flag : nat_eq p.ends 1 ≡ false = ne_eqb p.ends 1 (λ e. absurd (omega (arith, e, ends))) in
    let least : p.end - p.start ≤ div_ceil (p.end - p.start) p.part_length * p.part_length =
    (div_ceil_times (p.end - p.start) p.part_length is_plan.part).0 in
    let several : 0 < p.part_count = elim (cases_eq (div_ceil (p.end - p.start) p.part_length) 0) [
      | inl none ↦ absurd (omega (arith, least, size, more, ap (λ m. m * p.part_length) none))
      | inr some ↦ omega (arith, some, is_plan.count)
    ] in
    joined_part_digests-are_range_digests p s next leaves is_plan same size several
    ∙ ap (λ b. range_digests s next b leaves) flag
