-- The parameter block, as its fields are written over zeros.
use Rattle.std.proofs.Common.{◌≡◌, ℕ, ◌+◌, ◌-◌, ◌≤◌, List, [], ◌∷◌, ◌++◌, length, drop, take}
use Rattle.std.proofs.Common.{replicate, refl, sym, ap, ◌∙◌, arith, length-append}
use Rattle.std.proofs.lemmas.List.{take_at, drop_at, append_assoc, length-replicate, drop-replicate}
use Rattle.std.proofs.lemmas.List.{length-take-le}
use Rattle.std.specs.Int.{to_le_bytes, w32, w64}
use borrow.Rule.Slice.PartMut.{put_mid}
use Rattle.blake2_simd.specs.Family.{Family, salt_bytes, offset_bytes, reserved_bytes}
use Rattle.blake2_compress.specs.Hash.{Fits, padded, Parameters, parameter_block, Tree}
use Rattle.blake2_simd.proofs.Texts.{zeros_overwritten}
use Rattle.blake2_compress.proofs.Padding.{padded-unchanged_at_length}
use Rattle.blake2_compress.proofs.ParameterTexts.{padded-append_zeros}
use Rattle.blake2_compress.proofs.ByteSizes.{length-padded}

-- The list after k bytes are written at index i, over zeros that come after the first i bytes.
pub put_mid-into_padded : (n i k : ℕ) (w y : List ℕ) → length w ≡ i → length y ≡ k → i + k ≤ n
    → put_mid i k (padded n w) y ≡ padded n (w ++ y)
unfolding padded
put_mid-into_padded n i k w y at long fits =
    let zeros : List ℕ = replicate (n - length w) 0 in
    let left : n - length w - k ≡ n - length (w ++ y) = omega (arith, length-append w y) in
    (λ j. take_at w zeros i at j ++ (y ++ drop k (drop_at w zeros i at j)))
    ∙ ap (λ (z : List ℕ). w ++ (y ++ z))
    (drop-replicate k (n - length w) 0 ∙ ap (λ (m : ℕ). replicate m 0) left)
    ∙ sym (append_assoc w y (replicate (n - length (w ++ y)) 0))

-- A list that is written in this way, if the next field begins s bytes later.
put_mid-padded_field : (n i k s : ℕ) (w x : List ℕ) → length w ≡ i → length x ≡ k → k ≤ s
    → i + s ≤ n
    → put_mid i k (padded n w) x ≡ padded n (w ++ padded s x)
unfolding padded
put_mid-padded_field n i k s w x at long fits room =
    let zeros : List ℕ = replicate (s - length x) 0 in
    put_mid-into_padded n i k w x at long (omega arith)
    ∙ sym (padded-append_zeros n (w ++ x) (s - length x) (omega (arith, length-append w x)))
    ∙ ap (padded n) (append_assoc w x zeros)

-- The fields of a block, of these lengths, one after the other.
put_mid-all_fields : (n o r s : ℕ) (a b c d salt persona : List ℕ) → length a ≡ 4 → length b ≡ 4
    → length c ≡ o → length d ≡ 2 → length salt ≤ s → length persona ≤ s → 8 + o + 2 + r + s + s ≡ n
    → put_mid (8 + o + 2 + r + s) (8 + o + 2 + r + s + length persona - (8 + o + 2 + r + s))
    (put_mid (8 + o + 2 + r) (8 + o + 2 + r + length salt - (8 + o + 2 + r))
    (put_mid (8 + o) (10 + o - (8 + o))
    (put_mid 8 (8 + o - 8) (put_mid 4 4 (a ++ drop 4 (replicate n 0)) b) c) d) salt) persona
    ≡ a ++ b ++ c ++ d ++ replicate r 0 ++ padded s salt ++ padded s persona
put_mid-all_fields n o r s a b c d salt persona la lb lc ld fits_salt fits_persona table =
    let t : ℕ = 8 + o + 2 + r in
    let inner : List ℕ = a ++ b ++ c ++ d in
    let front : List ℕ = inner ++ replicate r 0 in
    let salted : List ℕ = front ++ padded s salt in
    let leaf_ends : length (a ++ b) ≡ 8 = omega (arith, length-append a b) in
    let node_ends : length (a ++ b ++ c) ≡ 8 + o = omega (arith, length-append (a ++ b) c) in
    let inner_ends : length inner ≡ 10 + o = omega (arith, length-append (a ++ b ++ c) d) in
    let front_ends : length front ≡ t =
    omega (arith, length-append inner (replicate r 0), length-replicate {A = ℕ} r 0) in
    let salt_is : length (padded s salt) ≡ s = length-padded s salt fits_salt in
    let persona_is : length (padded s persona) ≡ s = length-padded s persona fits_persona in
    let salted_ends : length salted ≡ t + s = omega (arith, length-append front (padded s salt)) in
    let four : drop 4 (replicate {A = ℕ} n 0) ≡ drop (length a) (replicate n 0) =
    ap (λ (k : ℕ). drop k (replicate {A = ℕ} n 0)) (sym la) in
    let lengths : a ++ drop 4 (replicate n 0) ≡ padded n a =
    ap (λ (z : List ℕ). a ++ z) four ∙ zeros_overwritten n a in
    let put_leaf = λ (z : List ℕ). put_mid 4 4 z b in
    let put_offset = λ (z : List ℕ). put_mid 8 (8 + o - 8) z c in
    let put_node = λ (z : List ℕ). put_mid (8 + o) (10 + o - (8 + o)) z d in
    let put_salt = λ (z : List ℕ). put_mid t (t + length salt - t) z salt in
    let put_persona = λ (z : List ℕ). put_mid (t + s)
    (t + s + length persona - (t + s)) z persona in
    let with_leaf : put_leaf (a ++ drop 4 (replicate n 0)) ≡ padded n (a ++ b) =
    ap put_leaf lengths ∙ put_mid-into_padded n 4 4 a b la lb (omega arith) in
    let with_offset = ap put_offset with_leaf
    ∙ put_mid-into_padded n 8 (8 + o - 8) (a ++ b) c leaf_ends (omega arith) (omega arith) in
    let with_node = ap put_node with_offset
    ∙ put_mid-into_padded n (8 + o) (10 + o - (8 + o)) (a ++ b ++ c) d node_ends (omega arith)
    (omega arith) in
    let with_zeros = with_node ∙ sym (padded-append_zeros n inner r (omega arith)) in
    let with_salt = ap put_salt with_zeros
    ∙ put_mid-padded_field n t (t + length salt - t) s front salt front_ends (omega arith)
    (omega arith)
    (omega arith) in
    let with_persona = ap put_persona with_salt
    ∙ put_mid-padded_field n (t + s) (t + s + length persona - (t + s)) s salted persona salted_ends
    (omega arith) (omega arith) (omega arith) in
    with_persona
    ∙ padded-unchanged_at_length n (salted ++ padded s persona)
    (omega (arith, length-append salted (padded s persona)))

-- The block, of fields of these lengths.
pub put_mid-parameter_block : (f : Family) (n o r s : ℕ) (p : Parameters) → offset_bytes f ≡ o
    → o ≤ 8
    → reserved_bytes f ≡ r → salt_bytes f ≡ s → 8 + o + 2 + r + s + s ≡ n → Fits f p
    → put_mid (8 + o + 2 + r + s) (8 + o + 2 + r + s + length p.persona - (8 + o + 2 + r + s))
    (put_mid (8 + o + 2 + r) (8 + o + 2 + r + length p.salt - (8 + o + 2 + r))
    (put_mid (8 + o) (10 + o - (8 + o)) (put_mid 8 (8 + o - 8)
    (put_mid 4 4 ((p.size ∷ p.key_size ∷ p.tree.fanout ∷ p.tree.depth ∷ [])
    ++ drop 4 (replicate n 0))
    (to_le_bytes w32 p.tree.leaf_length)) (take o (to_le_bytes w64 p.tree.node_offset)))
    (p.tree.node_depth ∷ p.tree.inner_length ∷ [])) p.salt) p.persona ≡ parameter_block f p
unfolding parameter_block
put_mid-parameter_block f n o r s p offset room reserved salt table fits =
    let t : Tree = p.tree in
    let lengths : List ℕ = p.size ∷ p.key_size ∷ t.fanout ∷ t.depth ∷ [] in
    let leaf : List ℕ = to_le_bytes w32 t.leaf_length in
    let bytes : List ℕ = to_le_bytes w64 t.node_offset in
    let node : List ℕ = t.node_depth ∷ t.inner_length ∷ [] in
    let offset_is : o ≡ offset_bytes f = sym offset in
    let reserved_is : r ≡ reserved_bytes f = sym reserved in
    let texts_are : s ≡ salt_bytes f = sym salt in
    put_mid-all_fields n o r s lengths leaf (take o bytes) node p.salt p.persona refl refl
    (length-take-le o bytes room) refl (omega (arith, fits.salt))
    (omega (arith, fits.persona)) table
    ∙ (λ i. lengths ++ leaf ++ take (offset_is i) bytes ++ node ++ replicate (reserved_is i) 0
    ++ padded (texts_are i) p.salt ++ padded (texts_are i) p.persona)
