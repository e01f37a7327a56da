-- Salt and personalization in one field, and the parameter block of a block of the output.
use Rattle.std.proofs.Common.{◌≡◌, ℕ, ◌+◌, List, [], ◌∷◌, ◌++◌, length, take, drop, replicate}
use Rattle.std.proofs.Common.{sym, ap, ◌∙◌, arith, length-drop}
use Rattle.std.proofs.lemmas.List.{append-nil, append_assoc, drop_all, drop_at, length-take-le}
use Rattle.std.proofs.lemmas.List.{take_at, take-append-drop}
use Rattle.std.specs.Int.{to_le_bytes, w32, w64}
use borrow.Rule.Slice.PartMut.{put_mid}
use Rattle.blake2_simd.specs.Family.{Family, offset_bytes, output_bytes, reserved_bytes, salt_bytes}
use Rattle.blake2_compress.specs.Hash.{padded, parameter_block}
use Rattle.blake2_compress.proofs.Padding.{padded-unchanged_at_length}
use Rattle.blake2_xof.specs.Xof.{block_parameters, block_size, node_offset_field, settings}

-- Two texts of n bytes, the second of which is written after the first over zeros.
pub put_mid-splits_into_two_texts : (n : ℕ) (a b z : List ℕ) → length a ≡ n → length z ≡ n
    → (take n (put_mid n n (a ++ z) b) ≡ a) × (drop n (put_mid n n (a ++ z) b) ≡ b)
put_mid-splits_into_two_texts n a b z la lz =
    let front : take n (a ++ z) ≡ a = take_at a z n la in
    let none : drop n (drop n (a ++ z)) ≡ [] =
    ap (drop n) (drop_at a z n la) ∙ drop_all n z (omega arith) in
    let whole : put_mid n n (a ++ z) b ≡ a ++ b =
    (λ i. front i ++ (b ++ none i)) ∙ ap (λ (l : List ℕ). a ++ l) (append-nil b) in
    (ap (take n) whole ∙ take_at a b n la, ap (drop n) whole ∙ drop_at a b n la)

-- The fields of a block's parameter block before its salt.
abbrev pub block_fields_before_salt : Family → ℕ → ℕ → List ℕ
block_fields_before_salt f size offset =
    size ∷ 0 ∷ 0 ∷ 0 ∷ [] ++ to_le_bytes w32 (output_bytes f)
    ++ take (offset_bytes f) (to_le_bytes w64 offset) ++ 0 ∷ output_bytes f ∷ []
    ++ replicate (reserved_bytes f) 0

-- The parameter block of block i.
pub joined_fields-are_parameter_block : (f : Family) (n i : ℕ) (texts : List ℕ)
    → length texts ≡ salt_bytes f + salt_bytes f
    → block_fields_before_salt f (block_size f n i) (node_offset_field n i) ++ texts
    ≡ parameter_block f (block_parameters f
    (settings n [] (take (salt_bytes f) texts) (drop (salt_bytes f) texts)) i)
unfolding parameter_block
joined_fields-are_parameter_block f n i texts long =
    let s : ℕ = salt_bytes f in
    let head : List ℕ = block_fields_before_salt f (block_size f n i) (node_offset_field n i) in
    let salt = padded-unchanged_at_length s (take s texts) (length-take-le s texts (omega arith)) in
    let persona =
    padded-unchanged_at_length s (drop s texts) (omega (arith, length-drop s texts)) in
    sym (append_assoc head (padded s (take s texts)) (padded s (drop s texts))
    ∙ ap (λ (l : List ℕ). head ++ l) ((λ k. salt k ++ persona k) ∙ take-append-drop s texts))
