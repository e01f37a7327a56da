-- Which inputs are hashed, and when two of them are the same. Section numbers are those of RFC
-- 7693.
use Rattle.std.specs.Prelude.{◌≡◌, ℕ, ◌<◌, ◌≤◌, ◌^◌, List, length, Option, Some, None, ⊤}
use Rattle.blake2_simd.specs.Family.{Family, salt_bytes, key_bytes}
use Rattle.blake2_compress.specs.Hash.{AdmitsTree, AreBytes, Input, input_data, padded}

-- The key is absent, or it consists of bytes, from 1 up to the maximum key length (2.1).
abbrev pub KeyFits : Family → Option (List ℕ) → Type 0
KeyFits f None = ⊤
KeyFits f (Some key) = (1 ≤ length key) × (length key ≤ key_bytes f) × AreBytes key

-- The family accepts the input: the key fits, the salt, the personalization and the tree parameters
-- are within their limits, all are bytes, and the data, which is what is counted, has fewer than
-- 2^64 bytes (2.1, 3.3; the BLAKE2 document, 2.8).
pub record Accepts (f : Family) (a : Input) : Type 0 where
  pub salt_fits : length a.salt ≤ salt_bytes f
  pub persona_fits : length a.persona ≤ salt_bytes f
  pub key_fits : KeyFits f a.key
  pub counted : length (input_data f a) < 2 ^ 64
  pub tree : AdmitsTree f a.tree
  pub salt_bytes : AreBytes a.salt
  pub persona_bytes : AreBytes a.persona
  pub message_bytes : AreBytes a.message

-- Two inputs are the same, except for zeros at the end of a salt or a personalization.
pub record SameUpToTrailingZeros (f : Family) (a b : Input) : Type 0 where
  pub salt : padded (salt_bytes f) a.salt ≡ padded (salt_bytes f) b.salt
  pub persona : padded (salt_bytes f) a.persona ≡ padded (salt_bytes f) b.persona
  pub key : a.key ≡ b.key
  pub tree : a.tree ≡ b.tree
  pub last_node : a.last_node ≡ b.last_node
  pub message : a.message ≡ b.message
