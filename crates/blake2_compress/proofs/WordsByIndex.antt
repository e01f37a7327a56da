-- Words of bytes, by their indices.
use Rattle.std.proofs.Common.{◌≡◌, ℕ, zero, suc, ◌+◌, ◌*◌, ◌<◌, List, get_or, take, drop, refl}
use Rattle.std.proofs.Common.{arith}
use Rattle.std.proofs.lemmas.List.{drop-drop}
use Rattle.std.specs.Int.{from_le_bytes}
use Rattle.blake2_simd.specs.Family.{Family, word, word_bytes}
use Rattle.blake2_compress.specs.Hash.{words_of}

-- Word k of a list of bytes.
pub words_of-at : (f : Family) (n k : ℕ) (xs : List ℕ) → k < n
    → get_or (words_of f n xs) k 0 ≡ from_le_bytes (word f)
    (take (word_bytes f) (drop (word_bytes f * k) xs))
unfolding words_of
words_of-at f zero k xs h = absurd (omega arith)
words_of-at f (suc n) zero xs h =
    let none : word_bytes f * 0 ≡ 0 = omega arith in
    rw none refl
words_of-at f (suc n) (suc k) xs h =
    let more : word_bytes f * suc k ≡ word_bytes f + word_bytes f * k = omega arith in
    rw (more, ← drop-drop (word_bytes f * k) (word_bytes f) xs)
    (words_of-at f n k (drop (word_bytes f) xs) (omega arith))
