-- Which texts have no digest.
use Rattle.std.specs.Prelude.{◌≡◌, ◌↔◌, ◌⊎◌, ℕ, ◌+◌, ◌^◌, ◌<◌, ◌≤◌, Bool, false, List, []}
use Rattle.std.specs.Prelude.{length, Result}
use Rattle.std.specs.List.{All}
use Rattle.blake2_simd.specs.Family.{blake2b, blake2s}
use Rattle.blake2_compress.specs.Hash.{parameters_of}
use Rattle.blake2_parallel.specs.Parallel.{parallel_key_count, settings, AdmitsParallel}
use Rattle.blake2_state.specs.ConstructorArguments.{AdmitsState, counted_key_bytes}
use Rattle.blake2_tree.specs.TreeLengths.{AreAcceptedTreeLengths, tree_lengths_of}
use Rattle.blake2_tree.specs.TreeRoot.{tree_parameters}
use Rattle.b2sum_lines.specs.declared.entry.Algorithm.{Algorithm}
use Rattle.b2sum_lines.specs.declared.entry.Algorithm.TheVariants.{Blake2b, Blake2s, Blake2bp}
use Rattle.b2sum_lines.specs.declared.entry.Algorithm.TheVariants.{Blake2sp, Tree}
use Rattle.b2sum_commands.specs.ReadAhead.{HashesInLanes}
use Rattle.b2sum_commands.specs.declared.hashes.Function.{Function}
use Rattle.b2sum_commands.specs.declared.options.Options.{Options}
use Rattle.std.specs.Result.{IsErrOf}
use Rattle.blake2_streams.specs.declared.stream.StreamFault.{StreamFault}
use Rattle.blake2_streams.specs.declared.stream.StreamFault.TheVariants.{TooLong}

-- The error is that a source of these bytes has no digest: exactly if no read failed, and the
-- lengths are not accepted, or the bytes and those that a key counts for are as many as the limit,
-- or more.
abbrev pub IsTooLong : {A : Type 0} → Result A StreamFault → Bool → Type 0 → ℕ → ℕ → List ℕ → Type 0
IsTooLong {A} result failed accepted counted limit bytes =
    IsErrOf result TooLong
    ↔ ((failed ≡ false) × ((accepted → ⊥) ⊎ (limit ≤ counted + length bytes)))

-- The algorithm accepts these lengths. A tree has no key.
abbrev pub accepts_lengths : Algorithm → ℕ → List ℕ → List ℕ → List ℕ → Type 0
accepts_lengths Blake2b n key salt persona = AdmitsState blake2b
    (parameters_of n (length key) salt persona)
accepts_lengths Blake2s n key salt persona = AdmitsState blake2s
    (parameters_of n (length key) salt persona)
accepts_lengths Blake2bp n key salt persona = AdmitsParallel blake2b (settings n key salt persona)
accepts_lengths Blake2sp n key salt persona = AdmitsParallel blake2s (settings n key salt persona)
accepts_lengths (Tree leaf) n key salt persona =
    AreAcceptedTreeLengths (tree_lengths_of n (tree_parameters salt persona leaf))

-- The function has digests with the lengths of the options.
abbrev pub AcceptsOptions : Options → Function → Type 0
AcceptsOptions o f = accepts_lengths f.algorithm f.bytes o.key.items o.salt.items o.persona.items

-- The number of bytes that a key counts for.
abbrev pub key_byte_count : Algorithm → List ℕ → ℕ
key_byte_count Blake2b key = counted_key_bytes blake2b key
key_byte_count Blake2s key = counted_key_bytes blake2s key
key_byte_count Blake2bp key = parallel_key_count blake2b key
key_byte_count Blake2sp key = parallel_key_count blake2s key
key_byte_count (Tree leaf) key = 0

-- The least number of bytes that is too much.
abbrev pub text_limit : Algorithm → ℕ
text_limit Blake2b = 2 ^ 64
text_limit Blake2s = 2 ^ 64
text_limit Blake2bp = 2 ^ 64
text_limit Blake2sp = 2 ^ 64
text_limit (Tree leaf) = 2 ^ 58

-- Texts are hashed several at a time: by BLAKE2b or BLAKE2s, with no key, if the lengths of the
-- options are accepted, and each text is shorter than the limit.
pub record HashesSeveral (o : Options) (f : Function) (texts : List (List ℕ)) : Type 0 where
  pub no_key : o.key.items ≡ []
  pub has_lanes : HashesInLanes f.algorithm
  pub accepted : AcceptsOptions o f
  pub short : All (λ text. length text < text_limit f.algorithm) texts
