-- Which keys, salts and personalizations a MAC accepts, and how many bytes a key counts for.
use Rattle.std.specs.Prelude.{ℕ, ◌≤◌, ⊤, List, length, Option, Some, None}
use Rattle.blake2_simd.specs.Family.{Family, block_bytes, key_bytes, salt_bytes}

-- The number of bytes that a key counts for: a block, or 0 without a key (RFC 7693, 3.3).
abbrev pub key_count : Family → Option (List ℕ) → ℕ
key_count f None = 0
key_count f (Some key) = block_bytes f

-- There is no key, or the length of the key is 1 to the maximum of the family (RFC 7693, 2.1).
abbrev pub KeyLengthFits : Family → Option (List ℕ) → Type 0
KeyLengthFits f None = ⊤
KeyLengthFits f (Some key) = (1 ≤ length key) × (length key ≤ key_bytes f)

-- The family accepts the lengths of the key, the salt and the personalization (RFC 7693, 2.1; the
-- BLAKE2 document, 2.8).
pub record AdmitsMac (f : Family) (key : Option (List ℕ)) (salt persona : List ℕ) : Type 0 where
  pub key_fits : KeyLengthFits f key
  pub salt_fits : length salt ≤ salt_bytes f
  pub persona_fits : length persona ≤ salt_bytes f

-- The key, the salt or the personalization has a length that the family does not accept.
unfoldable pub HasRefusedLength : Family → Option (List ℕ) → List ℕ → List ℕ → Type 0
HasRefusedLength f key salt persona = ¬ AdmitsMac f key salt persona
