-- What a state of BLAKE2X means: the whole outputs that it will return.
use Rattle.std.specs.Prelude.{false}
use Rattle.blake2_simd.specs.Family.{Family}
use Rattle.blake2_digest.specs.States.{Meaning, digest_after}
use Rattle.blake2_xof.specs.Xof.{Settings, xof_output}

-- The meaning of a type whose values hold a root hash and the settings of an output. The output
-- does not depend on a last-node flag, since the definition fixes those of the hashes.
abbrev pub xof_meaning_by : {S R : Type 0} → Family → Meaning R → (S → R) → (S → Settings)
    → Meaning S
xof_meaning_by f m root_of settings_of = record {
  future = λ s last_node y. xof_output f (settings_of s) (digest_after m (root_of s) y);
  started = λ s last_node y. xof_output f (settings_of s)
      (m.started (root_of s) (m.last_node (root_of s)) y);
  last_node = λ s. false;
  count = λ s. m.count (root_of s);
  start_count = λ s. m.start_count (root_of s);
}
