-- What a block core holds, and how it changes. Section numbers are those of RFC 7693.
use Rattle.std.specs.Prelude.{ℕ, ◌+◌, ◌*◌, Bool, false, List, length, replicate}
use Rattle.blake2_simd.specs.Family.{Family, block_bytes}
use Rattle.blake2_compress.specs.Hash.{Parameters, Tree, final, padded, bytes_of, compress, chain}
use Rattle.blake2_compress.specs.Hash.{start}

-- A core: the chaining words h, the words h that it started from (eight words each), the number of
-- bytes that it has counted since, and the last-node flag (the BLAKE2 document, 2.10).
pub record CoreState : Type 0 where
  pub h : List ℕ
  pub start : List ℕ
  pub count : ℕ
  pub last_node : Bool

-- The parameters of a node: the lengths of the digest and of the key in bytes, the salt, the
-- personalization and the tree parameters (the BLAKE2 document, 2.8 and 2.10).
abbrev pub node_parameters : ℕ → ℕ → List ℕ → List ℕ → Tree → Parameters
node_parameters size key_size salt persona tree = record {
  size = size;
  key_size = key_size;
  salt = salt;
  persona = persona;
  tree = tree;
}

-- A core as it is initialized: h is the parameter block xored into the IV, nothing is counted
-- (3.3), and the last-node flag is off.
abbrev pub core_made : Family → Parameters → CoreState
core_made f p = record { h = start f p; start = start f p; count = 0; last_node = false }

-- A core reset to its start. It keeps its flag.
abbrev pub core_restarted : CoreState → CoreState
core_restarted core = record core { h = core.start; count = 0 }

-- A core with this last-node flag.
abbrev pub core_node_set : CoreState → Bool → CoreState
core_node_set core on = record core { last_node = on }

-- A core after it absorbs these blocks, none of them the last: the loop of 3.3.
unfoldable pub absorbed : Family → CoreState → List (List ℕ) → CoreState
absorbed f core blocks = record core {
  h = chain f core.h core.count blocks (length blocks);
  count = core.count + block_bytes f * length blocks;
}

-- A core after it absorbs p, padded with zeros, as the last block: the last call of F in 3.3, under
-- the core's last-node flag.
abbrev pub completed : Family → CoreState → List ℕ → CoreState
completed f core p = record core {
  h =
      compress f core.h (padded (block_bytes f) p) (core.count + length p) (final core.last_node);
  count = core.count + length p;
}

-- The bytes of the last h. A digest is the first of them.
abbrev pub last_output : Family → CoreState → List ℕ → List ℕ
last_output f core p = bytes_of f (completed f core p).h

-- A wiped core: its words and its count are zero, and its flag is off.
abbrev pub core_wiped : CoreState
core_wiped = record { h = replicate 8 0; start = replicate 8 0; count = 0; last_node = false }
