-- The blocks of the data, joined, are the data followed by zeros.
use Rattle.std.proofs.Common.{◌≡◌, ℕ, zero, suc, ◌+◌, ◌-◌, ◌*◌, ◌≤◌, inl, inr, List, [], ◌∷◌, ◌++◌}
use Rattle.std.proofs.Common.{length, take, drop, replicate, refl, sym, ap, ◌∙◌, arith, length-drop}
use Rattle.std.proofs.lemmas.List.{take_at, drop_at, take_all, drop_all, append_assoc, append-nil}
use Rattle.std.proofs.lemmas.List.{take-append-drop, length-take-le, replicate-append-replicate}
use Rattle.std.proofs.lemmas.Bool.{cases_lt}
use Rattle.std.specs.List.{concat}
use Rattle.blake2_simd.specs.Family.{Family, blake2b, blake2s, block_bytes}
use Rattle.blake2_compress.specs.Hash.{padded, first_blocks, block_count}

-- Two joined lists are equal only if their parts are, if the first parts have one length.
pub append-injective_by_length : (n : ℕ) (a b c d : List ℕ) → length a ≡ n → length c ≡ n
    → a ++ b ≡ c ++ d
    → (a ≡ c) × (b ≡ d)
append-injective_by_length n a b c d la lc h = (
  sym (take_at a b n la) ∙ ap (take n) h ∙ take_at c d n lc,
  sym (drop_at a b n la) ∙ ap (drop n) h ∙ drop_at c d n lc,
)

-- A first block that the data does not fill, with zeros up to n bytes after it.
padded-short_first_block : (b n : ℕ) (z : List ℕ) → length z ≤ b
    → padded b (take b z) ++ padded n (drop b z) ≡ padded (b + n) z
unfolding padded
padded-short_first_block b n z short =
    let all : take b z ≡ z = take_all b z short in
    let none : drop b z ≡ [] = drop_all b z short in
    let count : b - length z + (n - 0) ≡ b + n - length z = omega arith in
    rw (
      all,
      none,
      append_assoc z (replicate (b - length z) 0) (replicate (n - 0) 0),
      replicate-append-replicate {A = ℕ} (b - length z) (n - 0) 0,
      count,
    ) refl

-- A first block that the data fills.
padded-full_first_block : (b n : ℕ) (z : List ℕ) → b ≤ length z
    → padded b (take b z) ++ padded n (drop b z) ≡ padded (b + n) z
unfolding padded
padded-full_first_block b n z whole =
    let full : b - length (take b z) ≡ 0 = omega (arith, length-take-le b z whole) in
    let left : n - length (drop b z) ≡ b + n - length z = omega (arith, length-drop b z) in
    rw (
      full,
      left,
      append-nil (take b z),
      ← append_assoc (take b z) (drop b z)
          (replicate (b + n - length z) 0),
      take-append-drop b z,
    ) refl

-- No bytes, with no zeros after them.
padded-empty : (n : ℕ) → n ≡ 0 → [] ≡ padded n []
unfolding padded
padded-empty n none =
    let zeros : 0 ≡ n - 0 = omega arith in
    ap (λ (k : ℕ). replicate k 0) zeros

-- The blocks, joined, are the data padded with zeros.
pub concat-cut : (f : Family) (n : ℕ) (z : List ℕ) → length z ≤ n * block_bytes f
    → concat (first_blocks f n z) ≡ padded (n * block_bytes f) z
unfolding first_blocks
concat-cut f zero [] h = padded-empty (0 * block_bytes f) (omega arith)
concat-cut f zero (x ∷ z) h = absurd (omega arith)
concat-cut f (suc n) z h =
    let b : ℕ = block_bytes f in
    let more : b + n * b ≡ suc n * b = omega arith in
    let rest : concat (first_blocks f n (drop b z)) ≡ padded (n * b) (drop b z) =
    concat-cut f n (drop b z) (omega (arith, length-drop b z)) in
    let joined : padded b (take b z) ++ padded (n * b) (drop b z) ≡ padded (b + n * b) z =
    elim (cases_lt (length z) b) [
      | inl short ↦ padded-short_first_block b (n * b) z (omega arith)
      | inr whole ↦ padded-full_first_block b (n * b) z whole
    ] in
    ap (λ (k : List ℕ). padded b (take b z) ++ k) rest ∙ joined ∙ ap (λ (k : ℕ). padded k z) more

-- The blocks hold all counted bytes.
pub block_count-covers_data : (f : Family) (m : ℕ) → m ≤ block_count f m * block_bytes f
block_count-covers_data blake2b m = omega arith
block_count-covers_data blake2s m = omega arith
