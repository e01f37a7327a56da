-- Digests of a range that are written one after the other: k more leaves, which are m bytes.
use Rattle.std.proofs.Common.{◌≡◌, ℕ, zero, suc, ◌+◌, ◌-◌, ◌*◌, ◌^◌, ◌<◌, ◌≤◌, Bool, List, ◌++◌}
use Rattle.std.proofs.Common.{length, take, drop, sym, ap, ◌∙◌, arith, append_assoc, append-nil}
use Rattle.std.proofs.Common.{length-append, length-drop}
use Rattle.std.proofs.lemmas.List.{take_at, take_rest, length-take-le, drop_all}
use Rattle.std.proofs.Math.Nat.{mul-le-mul_left}
use Rattle.blake2_tree.specs.TreeRoot.{TreeParameters, leaf_count}
use Rattle.blake2_tree.specs.LeafRanges.{range_digests, overwritten_from}
use Rattle.blake2_tree.proofs.MessageLeaves.{leaf_count-with_leaf_in_front}

pub leaf_count-with_k_leaves_in_front : (size k n : ℕ) → 0 < size → 0 < n
    → leaf_count size (k * size + n) ≡ k + leaf_count size n
leaf_count-with_k_leaves_in_front size zero n some more =
    let none : 0 * size + n ≡ n = omega arith in
    ap (leaf_count size) none ∙ (omega arith)
leaf_count-with_k_leaves_in_front size (suc k) n some more =
    let order : suc k * size + n ≡ size + (k * size + n) = omega arith in
    ap (leaf_count size) order ∙ leaf_count-with_leaf_in_front size (k * size + n) some
    (omega arith)
    ∙ ap suc (leaf_count-with_k_leaves_in_front size k n some more) ∙ (omega arith)

-- The digests of the first `done` leaves of a range are written, and there is room for those of the
-- rest.
pub record FirstDigestsAreWritten (s : TreeParameters) (first : ℕ) (ends : Bool) (bytes : List ℕ)
    (done : ℕ)
    (out rest : List ℕ) : Type 0 where
  pub room : length out ≡ 64 * done + 64 * leaf_count s.leaf_length (length rest)
  pub place : done * s.leaf_length + length rest ≡ length bytes
  pub written : take (64 * done) out ++ range_digests s (first + done) ends rest
      ≡ range_digests s first ends bytes

-- Those of k more leaves, m bytes, are written after them.
pub FirstDigestsAreWritten-more_leaves : {s : TreeParameters} {first : ℕ} {ends : Bool}
    {bytes : List ℕ} {done : ℕ}
    {out rest : List ℕ} (k m : ℕ) (new d : List ℕ) → 0 < s.leaf_length → m ≡ k * s.leaf_length
    → m < length rest → length new ≡ length out → length d ≡ 64 * k
    → new ≡ overwritten_from (64 * done) d out
    → range_digests s (first + done) ends rest
    ≡ d ++ range_digests s (first + done + k) ends (drop m rest)
    → FirstDigestsAreWritten s first ends bytes done out rest
    → FirstDigestsAreWritten s first ends bytes (done + k) new
    (take (length rest - m) (drop m rest))
FirstDigestsAreWritten-more_leaves {s} {first} {ends} {bytes} {done} {out} {rest} k m new d some
    whole more same size is
    next before =
    let l : ℕ = s.leaf_length in
    let n : ℕ = length (take (length rest - m) (drop m rest)) in
    let left : n ≡ length rest - m = ap length (take_rest rest m) ∙ length-drop m rest in
    let split : length rest ≡ k * l + n = omega arith in
    let count : leaf_count l (length rest) ≡ k + leaf_count l n =
    ap (leaf_count l) split ∙ leaf_count-with_k_leaves_in_front l k n some (omega arith) in
    let at : ℕ = 64 * done in
    let front : List ℕ = take at out in
    let behind : List ℕ = drop (at + length d) out in
    let long : length (front ++ d) ≡ 64 * (done + k) =
    omega (
      arith,
      length-append front d,
      length-take-le at out (omega (arith, before.room)),
      size,
    ) in
    let written : take (64 * (done + k)) new ≡ front ++ d =
    ap (take (64 * (done + k))) (is ∙ sym (append_assoc front d behind))
    ∙ take_at (front ++ d) behind (64 * (done + k)) long in
    let place : first + (done + k) ≡ first + done + k = omega arith in
    record {
      room = omega (arith, count, same, before.room);
      place = omega (arith, left, before.place);
      written = (λ i. written i ++ range_digests s (place i) ends (take_rest rest m i))
          ∙ append_assoc front d (range_digests s (first + done + k) ends (drop m rest))
          ∙ ap (λ r. front ++ r) (sym next) ∙ before.written;
    }

-- All is written.
pub overwritten_output-is_all : (at : ℕ) (out new d all : List ℕ) → length out ≡ at + length d
    → new ≡ overwritten_from at d out → take at out ++ d ≡ all → new ≡ all
overwritten_output-is_all at out new d all size is before =
    is ∙ ap (λ r. take at out ++ (d ++ r)) (drop_all (at + length d) out (omega arith))
    ∙ ap (λ r. take at out ++ r) (append-nil d) ∙ before

-- The rest has more leaves than those.
pub leaf_count-more_than_k : (size k n : ℕ) → 0 < size → k * size < n → k < leaf_count size n
leaf_count-more_than_k size k n some more =
    let rest : ℕ = n - k * size in
    let split : n ≡ k * size + rest = omega arith in
    omega (
      arith,
      ap (leaf_count size) split,
      leaf_count-with_k_leaves_in_front size k rest some (omega arith),
    )

-- The index of the rest is one that a node may have.
pub leaf_index-fits_64_bits : {s : TreeParameters} {first : ℕ} {ends : Bool} {bytes : List ℕ}
    {done : ℕ}
    {out rest : List ℕ} → 0 < s.leaf_length → FirstDigestsAreWritten s first ends bytes done out
    rest
    → first * s.leaf_length + length bytes < 2 ^ 58 → first + done + 7 < 2 ^ 64
leaf_index-fits_64_bits {s} {first} {done} some written fits =
    omega (
      arith,
      written.place,
      mul-le-mul_left (first + done) (let h : 1 ≤ s.leaf_length = omega arith in h),
    )
