-- What holds for all digests.
use Rattle.std.specs.Prelude.{◌≡◌, ℕ, ◌+◌, ◌≤◌, ◌++◌, length, replicate}
use Rattle.blake2_simd.specs.Family.{Family, salt_bytes}
use Rattle.blake2_compress.specs.Hash.{Input, digest}

-- The law that zeros after a salt or a personalization, within its length in the parameter block,
-- change no digest (the BLAKE2 document, 2.8).
abbrev pub TrailingZerosKeepDigest : Family → Type 0
TrailingZerosKeepDigest f = (size : ℕ) (a : Input) (m n : ℕ)
    → length a.salt + m ≤ salt_bytes f → length a.persona + n ≤ salt_bytes f
    → digest f size
    (record a { salt = a.salt ++ replicate m 0; persona = a.persona ++ replicate n 0 })
    ≡ digest f size a
