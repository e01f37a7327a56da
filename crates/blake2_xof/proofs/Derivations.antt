-- Different derivations of keys are hashes of different inputs.
use Rattle.std.proofs.Common.{◌≡◌, ℕ, ◌≤◌, List, [], ◌∷◌, length}
use Rattle.std.proofs.Common.{get_or, take, drop, refl, sym, ap, ◌∙◌, arith}
use Rattle.std.proofs.lemmas.List.{take_at, drop_at}
use Rattle.blake2_simd.specs.Family.{Family, blake2b, blake2s, block_bytes, key_bytes}
use Rattle.blake2_compress.specs.Hash.{key_block, padded, parameter_block}
use Rattle.blake2_compress.proofs.ByteSizes.{length-padded}
use Rattle.blake2_xof.specs.Xof.{DerivationsDiffer, IsKnownLength, root_parameter_block, settings}

-- A number is known by the bytes of its field in the upper half of the node offset.
length-same_if_root_blocks_same : (f : Family) (n n' : ℕ) (key key' : List ℕ) → IsKnownLength f n
    → IsKnownLength f n'
    → root_parameter_block f (settings n key [] [])
    ≡ root_parameter_block f (settings n' key' [] [])
    → n ≡ n'
unfolding parameter_block
length-same_if_root_blocks_same blake2b n n' key key' h h' same =
    let at = λ (i : ℕ). ap (λ (l : List ℕ). get_or l i 0) same in
    omega (arith, at 12, at 13, at 14, at 15, h, h')
length-same_if_root_blocks_same blake2s n n' key key' h h' same =
    let at = λ (i : ℕ). ap (λ (l : List ℕ). get_or l i 0) same in
    omega (arith, at 12, at 13, h, h')

key_length-at_most_block_bytes : (f : Family) (n : ℕ) → n ≤ key_bytes f → n ≤ block_bytes f
key_length-at_most_block_bytes blake2b n fits = omega arith
key_length-at_most_block_bytes blake2s n fits = omega arith

-- Two lists of one length that are padded to the same list.
padded-is_injective : (n : ℕ) (x y : List ℕ) → length x ≡ length y → padded n x ≡ padded n y → x ≡ y
unfolding padded
padded-is_injective n x y long same =
    sym (take_at x _ (length y) long) ∙ ap (take (length y)) same ∙ take_at y _ (length y) refl

-- The law.
pub derivations_differ : (f : Family) → DerivationsDiffer f
unfolding parameter_block key_block
derivations_differ f [] key' context context' n n' h h' blocks same = absurd (omega (arith, h.some_key))
derivations_differ f (x ∷ key) [] context context' n n' h h' blocks same =
    absurd (omega (arith, h'.some_key))
derivations_differ f (x ∷ key) (y ∷ key') context context' n n' h h' blocks same =
    let b : ℕ = block_bytes f in
    let long : length (x ∷ key) ≡ length (y ∷ key') = ap (λ (l : List ℕ). get_or l 1 0) blocks in
    let whole : length (padded b (x ∷ key)) ≡ b =
    length-padded b (x ∷ key) (key_length-at_most_block_bytes f (length (x ∷ key)) h.fits) in
    let whole' : length (padded b (y ∷ key')) ≡ b =
    length-padded b (y ∷ key') (key_length-at_most_block_bytes f (length (y ∷ key')) h'.fits) in
    let front : padded b (x ∷ key) ≡ padded b (y ∷ key') =
    sym (take_at (padded b (x ∷ key)) context b whole) ∙ ap (take b) same
    ∙ take_at (padded b (y ∷ key')) context' b whole' in
    let rest : context ≡ context' =
    sym (drop_at (padded b (x ∷ key)) context b whole) ∙ ap (drop b) same
    ∙ drop_at (padded b (y ∷ key')) context' b whole' in (
      padded-is_injective b (x ∷ key) (y ∷ key') long front,
      rest,
      length-same_if_root_blocks_same f n n' (x ∷ key) (y ∷ key') h.known h'.known blocks,
    )
