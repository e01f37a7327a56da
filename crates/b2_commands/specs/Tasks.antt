-- What the tasks of the program accept and print.
use Rattle.std.specs.Prelude.{◌≡◌, ℕ, ◌+◌, ◌<◌, ◌≤◌, ◌^◌, ◌⊎◌, ⊤, Bool, List, [], length, Option}
use Rattle.std.specs.Prelude.{unwrap_or, IfSome, Result, Err, IsOkAnd}
use Rattle.std.specs.List.{flat_map}
use Rattle.std.specs.Io.KnownBytes.{Appends}
use Rattle.blake2.specs.Family.{Family, blake2b}
use Rattle.blake2.specs.Hash.{Input, digest, sequential}
use Rattle.blake2.specs.MacArguments.{key_count, HasRefusedLength}
use Rattle.blake2.specs.States.{digest_of, node_digest_of, input as input_of_parts}
use Rattle.blake2.specs.Streams.{line_of}
use Rattle.blake2_tree.specs.LeafRanges.{IsLeafRange, range_digests}
use Rattle.blake2_tree.specs.TreeRoot.{TreeParameters, root_input_over_digests, tree_parameters}
use Rattle.blake2_tree.specs.TreeRoot.{tree_root}
use Rattle.blake2_xof.specs.Xof.{derived_key, settings, xof}
use Rattle.b2_commands.specs.declared.fault.Fault.{Fault}
use Rattle.b2_commands.specs.declared.help.TheConstants.{HELP, VERSION}
use Rattle.b2_commands.specs.ArgumentTasks.{GivenOptions, nothing_given, Task}
use Rattle.b2_commands.specs.ArgumentTasks.Task.{to_sum, to_script, to_steps, to_witness, to_tree}
use Rattle.b2_commands.specs.ArgumentTasks.Task.{to_leaves, to_root}
use Rattle.b2_commands.specs.ArgumentTasks.Task.{to_xof, to_derive, to_help, to_version}
use Rattle.b2_commands.specs.LeafDigests.{digest_lines, read_digests}
use Rattle.b2_commands.specs.PrintedLines.{output_text, transcript_lines}
use Rattle.b2_commands.specs.Scripts.{script_digests}
use Rattle.b2_commands.specs.PrintedWitnesses.{PrintsWitnessOrNone}

-- A key, a salt or a personalization is given that has a length that the family does not accept.
abbrev pub IsRefusedByFamily : Family → GivenOptions → Type 0
IsRefusedByFamily f given =
    HasRefusedLength f given.key (unwrap_or given.salt []) (unwrap_or given.persona [])

-- A salt or a personalization is given that is longer than 16 bytes, the maximum of a tree.
abbrev pub IsRefusedByTree : GivenOptions → Type 0
IsRefusedByTree given =
    (16 < length (unwrap_or given.salt [])) ⊎ (16 < length (unwrap_or given.persona []))

-- What the nodes of a tree share, with the salt and the personalization that are given.
abbrev pub tree_with : ℕ → GivenOptions → TreeParameters
tree_with leaf_length given =
    tree_parameters (unwrap_or given.salt []) (unwrap_or given.persona []) leaf_length

-- The root of n bytes with the salt and the personalization that are given, as a function of the
-- message.
abbrev pub root_with : ℕ → ℕ → GivenOptions → List ℕ → List ℕ
root_with n leaf_length given message = tree_root n (tree_with leaf_length given) message

-- The root of n bytes over the joined digests of leaves, with the salt and the personalization that
-- are given.
abbrev pub root_over_digests_with : ℕ → ℕ → GivenOptions → List ℕ → List ℕ
root_over_digests_with n leaf_length given digests =
    digest blake2b n (root_input_over_digests (tree_with leaf_length given) digests)

-- The BLAKE2 digest of n bytes with the salt, the personalization and the key that are given, as a
-- function of the last-node flag and the message.
abbrev pub node_digest_with : Family → ℕ → GivenOptions → Bool → List ℕ → List ℕ
node_digest_with f n given =
    node_digest_of f n (unwrap_or given.salt []) (unwrap_or given.persona []) given.key sequential

-- The BLAKE2 digest of n bytes with the salt, the personalization and the key that are given, as a
-- function of the message.
abbrev pub digest_with : Family → ℕ → GivenOptions → List ℕ → List ℕ
digest_with f n given message =
    digest_of f n (unwrap_or given.salt []) (unwrap_or given.persona []) given.key message

-- The input with the salt, the personalization and the key that are given.
abbrev pub input_with : GivenOptions → List ℕ → Input
input_with given message =
    input_of_parts (unwrap_or given.salt []) (unwrap_or given.persona []) given.key message

-- The BLAKE2X output of n bytes with the salt, the personalization and the key that are given, as a
-- function of the message.
abbrev pub output_with : Family → ℕ → GivenOptions → List ℕ → List ℕ
output_with f n given message =
    xof f
    (settings n (unwrap_or given.key []) (unwrap_or given.salt []) (unwrap_or given.persona []))
    message

-- A key, a salt or a personalization of the task has a length that is not accepted.
abbrev pub IsRefusedTask : Task → Type 0
IsRefusedTask (to_sum kind given) = IsRefusedByFamily kind.family given
IsRefusedTask (to_script kind given) = IsRefusedByFamily kind.family given
IsRefusedTask (to_steps kind given) = IsRefusedByFamily kind.family given
IsRefusedTask (to_witness kind a b) = ⊥
IsRefusedTask (to_tree kind leaf_length given) = IsRefusedByTree given
IsRefusedTask (to_leaves leaf_length first ends given) = IsRefusedByTree given
IsRefusedTask (to_root kind leaf_length given) = IsRefusedByTree given
IsRefusedTask (to_xof f n raw given) = IsRefusedByFamily f given
IsRefusedTask (to_derive n context raw) = ⊥
IsRefusedTask to_help = ⊥
IsRefusedTask to_version = ⊥

-- The input of the task has a length that is not accepted: `derive` needs a key of 1 to 64 bytes,
-- and `leaves` a range of a message's leaves.
abbrev pub IsRefusedInput : Task → List ℕ → Type 0
IsRefusedInput (to_derive n context raw) key = (length key ≡ 0) ⊎ (64 < length key)
IsRefusedInput (to_leaves leaf_length first ends given) part =
    ¬ IsLeafRange leaf_length first ends (length part)
IsRefusedInput task input = ⊥

-- The bytes of an input, with those of a key's block, are 2^64 or above.
abbrev pub IsTooLongForFamily : Family → GivenOptions → List ℕ → Type 0
IsTooLongForFamily f given input = 2 ^ 64 ≤ key_count f given.key + length input

-- The input is too long for a task. A script counts the bytes of each slot, a tree accepts fewer
-- than 2^58 bytes, and `witness`, `--help` and `--version` read no input.
abbrev pub IsTooLongFor : Task → List ℕ → Type 0
IsTooLongFor (to_sum kind given) input = IsTooLongForFamily kind.family given input
IsTooLongFor (to_script kind given) input = ⊥
IsTooLongFor (to_steps kind given) input = IsTooLongForFamily kind.family given input
IsTooLongFor (to_witness kind a b) input = ⊥
IsTooLongFor (to_tree kind leaf_length given) input = 2 ^ 58 ≤ length input
IsTooLongFor (to_xof f n raw given) input = IsTooLongForFamily f given input
IsTooLongFor task input = ⊥

-- The task allocates memory after its arguments are read. `script`, `steps`, `leaves` and `root`
-- hold the input, and `tree` holds a piece of it. `sum` and `xof` pass the input on in pieces of a
-- fixed length, and the others need no memory.
abbrev pub AllocatesMemory : Task → Type 0
AllocatesMemory (to_script kind given) = ⊤
AllocatesMemory (to_steps kind given) = ⊤
AllocatesMemory (to_tree kind leaf_length given) = ⊤
AllocatesMemory (to_leaves leaf_length first ends given) = ⊤
AllocatesMemory (to_root kind leaf_length given) = ⊤
AllocatesMemory task = ⊥

-- The digests that a script returns with the options that are given.
abbrev pub script_digests_with : Family → ℕ → GivenOptions → List ℕ → Result (List (List ℕ)) Fault
script_digests_with f n given script =
    script_digests (digest_with f n given) (key_count f given.key) script

-- The lines of a task's input, a script or the digests of leaves, have this error.
abbrev pub IsFaultOfLines : Fault → Task → List ℕ → Type 0
IsFaultOfLines fault (to_script kind given) input =
    script_digests_with kind.family kind.bytes given input ≡ Err fault
IsFaultOfLines fault (to_root kind leaf_length given) input = read_digests input ≡ Err fault
IsFaultOfLines fault task input = ⊥

-- The sink accepted the output of a task on what a source had left. `witness`, `--help` and
-- `--version` read no input.
abbrev pub PrintsTaskOutput : Task → Option (List ℕ) → Option (List ℕ) → Option (List ℕ) → Type 0
PrintsTaskOutput (to_sum kind given) left old new =
    IfSome left (λ input. Appends old new
    (line_of (digest_with kind.family kind.bytes given input)))
PrintsTaskOutput (to_script kind given) left old new =
    IfSome left (λ input. IsOkAnd (script_digests_with kind.family kind.bytes given input)
    (λ digests. Appends old new (flat_map line_of digests)))
PrintsTaskOutput (to_steps kind given) left old new =
    IfSome left (λ input.
    Appends old new (transcript_lines kind.family kind.bytes (input_with given input)))
PrintsTaskOutput (to_witness kind a b) left old new =
    PrintsWitnessOrNone kind.family kind.bytes
    (input_with nothing_given a) (input_with nothing_given b) old new
PrintsTaskOutput (to_tree kind leaf_length given) left old new =
    IfSome left (λ input. Appends old new
    (line_of (root_with kind.bytes leaf_length given input)))
PrintsTaskOutput (to_leaves leaf_length first ends given) left old new =
    IfSome left (λ part. Appends old new
    (digest_lines (range_digests (tree_with leaf_length given) first ends part)))
PrintsTaskOutput (to_root kind leaf_length given) left old new =
    IfSome left (λ input. IsOkAnd (read_digests input)
    (λ digests. Appends old new
    (line_of (root_over_digests_with kind.bytes leaf_length given digests))))
PrintsTaskOutput (to_xof f n raw given) left old new =
    IfSome left (λ input. Appends old new (output_text raw (output_with f n given input)))
PrintsTaskOutput (to_derive n context raw) left old new =
    IfSome left (λ key. Appends old new (output_text raw (derived_key blake2b key context n)))
PrintsTaskOutput to_help left old new = Appends old new HELP.now
PrintsTaskOutput to_version left old new = Appends old new VERSION.now

-- The task is done: neither it nor the input that a source had left is refused, the input is not
-- too long for it, and the sink accepted the whole output.
pub record IsDone (task : Task) (left old new : Option (List ℕ)) : Type 0 where
  pub not_refused : ¬ IsRefusedTask task
  pub accepted : IfSome left (λ input. ¬ IsRefusedInput task input)
  pub fits : IfSome left (λ input. ¬ IsTooLongFor task input)
  pub output : PrintsTaskOutput task left old new
