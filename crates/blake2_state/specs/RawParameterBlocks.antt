-- Runs from a parameter block that is given as bytes, whatever its fields are.
use Rattle.std.specs.Prelude.{◌≡◌, ℕ, ◌*◌, ◌≤◌, Bool, List, length, take, slice_index}
use Rattle.blake2_simd.specs.Family.{Family, word_bytes, output_bytes, key_bytes, iv}
use Rattle.blake2_compress.specs.Hash.{words_of, xor_words, bytes_of, last_chain, final}

-- h[0..7] before the first block: the words of the parameter block xored into the IV (RFC 7693,
-- 3.3).
abbrev pub initial_words_of_block : Family → List ℕ → List ℕ
initial_words_of_block f block = xor_words (iv f) (words_of f 8 block)

-- The digest of the data z, which begins with the key's block if there is a key, under this
-- last-node flag. Its length is the first byte of the parameter block.
abbrev pub digest_by_parameter_block : Family → List ℕ → Bool → List ℕ → List ℕ
digest_by_parameter_block f block last_node z =
    take (slice_index block 0)
    (bytes_of f (last_chain f (initial_words_of_block f block) 0 z (final last_node)))

-- The parameter block has eight words, and names lengths of the output and of the key that the
-- family accepts (the BLAKE2 document, 2.8).
pub record AdmitsParameterBlock (f : Family) (block : List ℕ) : Type 0 where
  pub whole : length block ≡ 8 * word_bytes f
  pub some : 1 ≤ slice_index block 0
  pub size : slice_index block 0 ≤ output_bytes f
  pub key_size : slice_index block 1 ≤ key_bytes f
