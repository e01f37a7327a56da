-- The arguments of the constructors of plain states.
use Rattle.std.specs.Prelude.{ℕ, ◌≤◌, Bool, List, [], ◌∷◌, length, Option, Some, None}
use Rattle.blake2_simd.specs.Family.{Family, block_bytes}
use Rattle.blake2_compress.specs.Hash.{Fits, Parameters, Tree}
use Rattle.blake2.specs.States.{node_digest_of}
use Rattle.blake2_state.specs.declared.StateParameters.{StateParameters}

-- The key that these bytes are. An empty list means that there is no key.
abbrev pub key_unless_empty : List ℕ → Option (List ℕ)
key_unless_empty [] = None
key_unless_empty (x ∷ xs) = Some (x ∷ xs)

-- The number of bytes that a key counts for: a block, or 0 without a key (RFC 7693, 3.3).
abbrev pub counted_key_bytes : Family → List ℕ → ℕ
counted_key_bytes f [] = 0
counted_key_bytes f (x ∷ xs) = block_bytes f

-- What the parameter block of a state names, with these tree parameters (RFC 7693, 2.5; the
-- BLAKE2 document, 2.8).
abbrev pub parameters_given : StateParameters → Tree → Parameters
parameters_given given tree = record {
  size = given.output_size;
  key_size = length given.key.now;
  salt = given.salt.now;
  persona = given.persona.now;
  tree = tree;
}

-- The family accepts the parameters of a state: its limits hold, and the digest is not empty (RFC
-- 7693, 2.1; the BLAKE2 document, 2.8).
pub record AdmitsState (f : Family) (p : Parameters) : Type 0 where
  pub some : 1 ≤ p.size
  pub fits : Fits f p

-- The BLAKE2 digest with these parameters and a key or none, as a function of the last-node flag
-- and the message.
abbrev pub digest_under : Family → Parameters → Option (List ℕ) → Bool → List ℕ → List ℕ
digest_under f p key = node_digest_of f p.size p.salt p.persona key p.tree

-- The BLAKE2 digest with a state's parameters and these tree parameters, as a function of the
-- last-node flag and the message.
abbrev pub digest_given : Family → StateParameters → Tree → Bool → List ℕ → List ℕ
digest_given f given tree =
    digest_under f (parameters_given given tree) (key_unless_empty given.key.now)
