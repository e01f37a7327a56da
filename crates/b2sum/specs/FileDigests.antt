-- The digests that files can have.
use Rattle.std.specs.Prelude.{ℕ, false, List, codes, take}
use Rattle.blake2_simd.specs.Family.{blake2b, blake2s}
use Rattle.blake2_compress.specs.Hash.{sequential}
use Rattle.blake2.specs.States.{node_digest_of}
use Rattle.blake2_parallel.specs.Parallel.{Settings, parallel_digest, settings}
use Rattle.blake2_state.specs.ConstructorArguments.{key_unless_empty}
use Rattle.blake2_state.specs.declared.StateParameters.{StateParameters}
use Rattle.blake2_tree.specs.TreeRoot.{tree_parameters, tree_root}
use Rattle.b2sum_lines.specs.declared.entry.Algorithm.{Algorithm}
use Rattle.b2sum_lines.specs.declared.entry.Algorithm.TheVariants.{Blake2b, Blake2s, Blake2bp}
use Rattle.b2sum_lines.specs.declared.entry.Algorithm.TheVariants.{Blake2sp, Tree}
use Rattle.b2sum_commands.specs.declared.hashes.Function.{Function}
use Rattle.b2sum_commands.specs.declared.options.Options.{Options}

-- The settings of BLAKE2bp or BLAKE2sp with the parameters of a state.
abbrev pub settings_of_parameters : StateParameters → Settings
settings_of_parameters p = settings p.output_size p.key.now p.salt.now p.persona.now

-- The digest of n bytes of a text under a key (no bytes: none), a salt and a persona. A tree has no
-- key.
abbrev pub digest_by_algorithm : Algorithm → ℕ → List ℕ → List ℕ → List ℕ → List ℕ → List ℕ
digest_by_algorithm Blake2b n key salt persona text =
    node_digest_of blake2b n salt persona (key_unless_empty key) sequential false text
digest_by_algorithm Blake2s n key salt persona text =
    node_digest_of blake2s n salt persona (key_unless_empty key) sequential false text
digest_by_algorithm Blake2bp n key salt persona text =
    parallel_digest blake2b (settings n key salt persona) text
digest_by_algorithm Blake2sp n key salt persona text =
    parallel_digest blake2s (settings n key salt persona) text
digest_by_algorithm (Tree leaf) n key salt persona text = tree_root n
    (tree_parameters salt persona leaf) text

-- The digest of a text by a function, with the parameters of the options.
abbrev pub digest_by_function : Options → Function → List ℕ → List ℕ
digest_by_function o f text =
    digest_by_algorithm f.algorithm f.bytes o.key.items o.salt.items o.persona.items text

-- The MAC that seals a list: that of BLAKE2b with 64 bytes, under the key and the salt of the
-- options, and a personalization of seals. A key has at most 64 bytes, and a salt 16: more do not
-- count.
abbrev pub seal_mac : Options → List ℕ → List ℕ
seal_mac o list =
    digest_by_algorithm Blake2b 64 (take 64 o.key.items) (take 16 o.salt.items)
    (codes "b2sum sealed") list
