-- The two families of BLAKE2, their parameters and tables (RFC 7693, 2.1, 2.6 and 2.7; the BLAKE2
-- document, 2.8). A byte is a number below 256. A word of a family is a number below 2^w, where w
-- is the number of bits in a word. Section numbers are those of RFC 7693, unless the BLAKE2
-- document is named.
use Rattle.std.specs.Prelude.{ℕ, List, [], ◌∷◌}
use Rattle.std.specs.Int.{Width, w32, w64}

-- BLAKE2b, which has 64-bit words, and BLAKE2s, which has 32-bit words (2.1).
pub data Family : Type 0 where
  blake2b blake2s : Family

-- The width of a word: w bits (2.1).
abbrev pub word : Family → Width
word blake2b = w64
word blake2s = w32

-- The number of bytes in a word (2.1).
abbrev pub word_bytes : Family → ℕ
word_bytes blake2b = 8
word_bytes blake2s = 4

-- bb, the number of bytes in a block (2.1).
abbrev pub block_bytes : Family → ℕ
block_bytes blake2b = 128
block_bytes blake2s = 64

-- r, the number of rounds in a compression (2.1).
abbrev pub rounds : Family → ℕ
rounds blake2b = 12
rounds blake2s = 10

-- R1, R2, R3 and R4, the numbers of bits by which G rotates words to the right (2.1).
abbrev pub rotations : Family → List ℕ
rotations blake2b = 32 ∷ 24 ∷ 16 ∷ 63 ∷ []
rotations blake2s = 16 ∷ 12 ∷ 8 ∷ 7 ∷ []

-- The maximum length of a key, in bytes (2.1).
abbrev pub key_bytes : Family → ℕ
key_bytes blake2b = 64
key_bytes blake2s = 32

-- The maximum length of an output, in bytes (2.1).
abbrev pub output_bytes : Family → ℕ
output_bytes blake2b = 64
output_bytes blake2s = 32

-- The length of the salt, and of the personalization, in the parameter block, in bytes (the BLAKE2
-- document, 2.8).
abbrev pub salt_bytes : Family → ℕ
salt_bytes blake2b = 16
salt_bytes blake2s = 8

-- The length of the node offset in the parameter block, in bytes (the BLAKE2 document, 2.8).
abbrev pub offset_bytes : Family → ℕ
offset_bytes blake2b = 8
offset_bytes blake2s = 6

-- The length of the reserved part of the parameter block, in bytes (the BLAKE2 document, 2.8).
abbrev pub reserved_bytes : Family → ℕ
reserved_bytes blake2b = 14
reserved_bytes blake2s = 0

-- IV, the initialization vector (2.6).
abbrev pub iv : Family → List ℕ
iv blake2b =
    0x6a09e667f3bcc908 ∷ 0xbb67ae8584caa73b ∷ 0x3c6ef372fe94f82b ∷ 0xa54ff53a5f1d36f1 ∷
    0x510e527fade682d1 ∷ 0x9b05688c2b3e6c1f ∷ 0x1f83d9abfb41bd6b ∷ 0x5be0cd19137e2179 ∷ []
iv blake2s =
    0x6a09e667 ∷ 0xbb67ae85 ∷ 0x3c6ef372 ∷ 0xa54ff53a ∷
    0x510e527f ∷ 0x9b05688c ∷ 0x1f83d9ab ∷ 0x5be0cd19 ∷ []

-- SIGMA, the message schedule (2.7). Round i reads row i % 10.
abbrev pub sigma : List (List ℕ)
sigma =
    (0 ∷ 1 ∷ 2 ∷ 3 ∷ 4 ∷ 5 ∷ 6 ∷ 7 ∷ 8 ∷ 9 ∷ 10 ∷ 11 ∷ 12 ∷ 13 ∷ 14 ∷ 15 ∷ []) ∷
    (14 ∷ 10 ∷ 4 ∷ 8 ∷ 9 ∷ 15 ∷ 13 ∷ 6 ∷ 1 ∷ 12 ∷ 0 ∷ 2 ∷ 11 ∷ 7 ∷ 5 ∷ 3 ∷ []) ∷
    (11 ∷ 8 ∷ 12 ∷ 0 ∷ 5 ∷ 2 ∷ 15 ∷ 13 ∷ 10 ∷ 14 ∷ 3 ∷ 6 ∷ 7 ∷ 1 ∷ 9 ∷ 4 ∷ []) ∷
    (7 ∷ 9 ∷ 3 ∷ 1 ∷ 13 ∷ 12 ∷ 11 ∷ 14 ∷ 2 ∷ 6 ∷ 5 ∷ 10 ∷ 4 ∷ 0 ∷ 15 ∷ 8 ∷ []) ∷
    (9 ∷ 0 ∷ 5 ∷ 7 ∷ 2 ∷ 4 ∷ 10 ∷ 15 ∷ 14 ∷ 1 ∷ 11 ∷ 12 ∷ 6 ∷ 8 ∷ 3 ∷ 13 ∷ []) ∷
    (2 ∷ 12 ∷ 6 ∷ 10 ∷ 0 ∷ 11 ∷ 8 ∷ 3 ∷ 4 ∷ 13 ∷ 7 ∷ 5 ∷ 15 ∷ 14 ∷ 1 ∷ 9 ∷ []) ∷
    (12 ∷ 5 ∷ 1 ∷ 15 ∷ 14 ∷ 13 ∷ 4 ∷ 10 ∷ 0 ∷ 7 ∷ 6 ∷ 3 ∷ 9 ∷ 2 ∷ 8 ∷ 11 ∷ []) ∷
    (13 ∷ 11 ∷ 7 ∷ 14 ∷ 12 ∷ 1 ∷ 3 ∷ 9 ∷ 5 ∷ 0 ∷ 15 ∷ 4 ∷ 8 ∷ 6 ∷ 2 ∷ 10 ∷ []) ∷
    (6 ∷ 15 ∷ 14 ∷ 9 ∷ 11 ∷ 3 ∷ 0 ∷ 8 ∷ 12 ∷ 2 ∷ 13 ∷ 7 ∷ 1 ∷ 4 ∷ 10 ∷ 5 ∷ []) ∷
    (10 ∷ 2 ∷ 8 ∷ 4 ∷ 7 ∷ 6 ∷ 1 ∷ 5 ∷ 15 ∷ 11 ∷ 9 ∷ 14 ∷ 3 ∷ 12 ∷ 13 ∷ 0 ∷ []) ∷ []
