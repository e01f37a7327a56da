-- The lengths of the parameter block and of the words made of it. The block consists of bytes.
use Rattle.std.proofs.Common.{◌≡◌, ℕ, zero, suc, ◌*◌, ◌/◌, ◌^◌, ◌<◌, ◌≤◌, List, [], ◌∷◌}
use Rattle.std.proofs.Common.{length, take, sym, ◌∙◌, arith, length-append, mod-lt}
use Rattle.std.specs.Int.{to_le_bytes, bytes_low_first, w32, w64}
use Rattle.blake2_simd.specs.Family.{Family, blake2b, blake2s, word_bytes, block_bytes, key_bytes}
use Rattle.blake2_simd.specs.Family.{output_bytes, offset_bytes, iv}
use Rattle.blake2_simd.proofs.Texts.{AreBytes-append}
use Rattle.blake2_compress.specs.Hash.{Fits, Parameters, AreBytes, padded, parameter_block}
use Rattle.blake2_compress.specs.Hash.{parameter_words, start, Tree}
use Rattle.blake2_compress.proofs.WordSizes.{length-xor_words, length-iv}
use Rattle.blake2_compress.proofs.ByteSizes.{length-words_of, AreBytes-take, AreBytes-zeros}
use Rattle.blake2_compress.proofs.ByteSizes.{length-padded, AreBytes-padded}

-- The digits of a number in base 256 are bytes.
pub AreBytes-low : (i n x : ℕ) → AreBytes (bytes_low_first i n x)
AreBytes-low i zero x k = omega arith
AreBytes-low zero (suc n) x zero = omega arith
AreBytes-low (suc i) (suc n) x zero = mod-lt (x / 256 ^ suc i) (omega arith)
AreBytes-low i (suc n) x (suc k) = AreBytes-low (suc i) n x k

-- A byte before bytes makes bytes.
AreBytes-cons : (x : ℕ) (xs : List ℕ) → x < 256 → AreBytes xs → AreBytes (x ∷ xs)
AreBytes-cons x xs lt a zero = lt
AreBytes-cons x xs lt a (suc i) = a i

-- The parameters fit, and their salt and personalization are bytes.
pub record AreValidParameters (f : Family) (p : Parameters) : Type 0 where
  pub fits : Fits f p
  pub salt_are : AreBytes p.salt
  pub persona_are : AreBytes p.persona

-- A key is shorter than a block, and the lengths of a key and an output fit a byte.
pub key_and_output_bytes-fit_byte : (f : Family) → (key_bytes f ≤ block_bytes f)
    × (key_bytes f < 256)
    × (output_bytes f < 256)
key_and_output_bytes-fit_byte blake2b = (omega arith, omega arith, omega arith)
key_and_output_bytes-fit_byte blake2s = (omega arith, omega arith, omega arith)

-- The parameter block consists of bytes.
pub AreBytes-parameter_block : (f : Family) (p : Parameters) → AreValidParameters f p
    → AreBytes (parameter_block f p)
unfolding parameter_block
AreBytes-parameter_block f p h =
    let limits = key_and_output_bytes-fit_byte f in
    let t : Tree = p.tree in
    let fits = h.fits.tree in
    let depth : AreBytes (t.depth ∷ []) =
    AreBytes-cons t.depth [] (omega (arith, fits.depth)) (AreBytes-zeros 0) in
    let fanout : AreBytes (t.fanout ∷ t.depth ∷ []) =
    AreBytes-cons t.fanout (t.depth ∷ []) (omega (arith, fits.fanout)) depth in
    let front : AreBytes (p.size ∷ p.key_size ∷ t.fanout ∷ t.depth ∷ []) =
    AreBytes-cons p.size (p.key_size ∷ t.fanout ∷ t.depth ∷ []) (omega (arith, h.fits.size))
    (AreBytes-cons p.key_size (t.fanout ∷ t.depth ∷ []) (omega (arith, h.fits.key_size)) fanout) in
    let inner_length : AreBytes (t.inner_length ∷ []) =
    AreBytes-cons t.inner_length [] (omega (arith, fits.inner_length)) (AreBytes-zeros 0) in
    let node : AreBytes (t.node_depth ∷ t.inner_length ∷ []) =
    AreBytes-cons t.node_depth (t.inner_length ∷ [])
    (omega (arith, fits.node_depth)) inner_length in
    let leaf : AreBytes (to_le_bytes w32 t.leaf_length) = AreBytes-low 0 4 t.leaf_length in
    let offset : AreBytes (take (offset_bytes f) (to_le_bytes w64 t.node_offset)) =
    AreBytes-take (offset_bytes f) _ (AreBytes-low 0 8 t.node_offset) in
    let salt : AreBytes p.salt = h.salt_are in
    let persona : AreBytes p.persona = h.persona_are in
    search (
      AreBytes-append,
      AreBytes-zeros,
      AreBytes-padded,
      front,
      leaf,
      offset,
      node,
      salt,
      persona,
    ) depth 12

-- The parameter block fills eight words.
pub length-parameter_block : (f : Family) (p : Parameters) → Fits f p
    → length (parameter_block f p) ≡ 8 * word_bytes f
unfolding parameter_block
length-parameter_block blake2b p h =
    omega (
      arith,
      length-append (padded 16 p.salt) (padded 16 p.persona),
      length-padded 16 p.salt h.salt,
      length-padded 16 p.persona h.persona,
    )
length-parameter_block blake2s p h =
    omega (
      arith,
      length-append (padded 8 p.salt) (padded 8 p.persona),
      length-padded 8 p.salt h.salt,
      length-padded 8 p.persona h.persona,
    )

-- The parameter words are eight words, and so are the start words.
pub length-parameter_words : (f : Family) (p : Parameters) → length (parameter_words f p) ≡ 8
unfolding parameter_words
length-parameter_words f p = length-words_of f 8 _

-- The start words are eight.
pub length-start : (f : Family) (p : Parameters) → length (start f p) ≡ 8
unfolding start
length-start f p = length-xor_words (iv f) _ (length-iv f ∙ sym (length-parameter_words f p))
    ∙ length-iv f
