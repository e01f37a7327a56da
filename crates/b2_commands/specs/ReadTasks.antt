-- The tasks that the program has read.
use Rattle.std.specs.Prelude.{ℕ}
use Rattle.b2_commands.specs.declared.witness_arguments.Compared.{Compared}
use Rattle.b2_commands.specs.declared.witness_arguments.Comparison.{Comparison}
use Rattle.b2_commands.specs.declared.task.Output.{Output}
use Rattle.b2_commands.specs.declared.task.Output.TheVariants.{Digest, Digests, Transcript}
use Rattle.b2_commands.specs.declared.tree_arguments.Over.{Over}
use Rattle.b2_commands.specs.declared.tree_arguments.Over.TheVariants.{Message}
use Rattle.b2_commands.specs.declared.tree_arguments.Over.TheVariants.{Leaves as OverLeaves}
use Rattle.b2_commands.specs.declared.tree_arguments.Part.{Part}
use Rattle.b2_commands.specs.declared.tree_arguments.Root.{Root}
use Rattle.b2_commands.specs.declared.output_arguments.Extended.{Extended}
use Rattle.b2_commands.specs.declared.output_arguments.Derivation.{Derivation}
use Rattle.b2_commands.specs.declared.task.Task.{Task as TaskRead}
use Rattle.b2_commands.specs.declared.task.Task.TheVariants.{Hash, Compare, Tree, Leaves}
use Rattle.b2_commands.specs.declared.task.Task.TheVariants.{Xof, Derive, Help, Version}
use Rattle.b2_commands.specs.Kinds.{blake2b_value, family_value, kind_value}
use Rattle.b2_commands.specs.ReadOptions.{given_options}
use Rattle.b2_commands.specs.ArgumentTasks.{GivenOptions, Kind, Task}
use Rattle.b2_commands.specs.ArgumentTasks.Task.{to_sum, to_script, to_steps, to_witness, to_tree}
use Rattle.b2_commands.specs.ArgumentTasks.Task.{to_leaves, to_root}
use Rattle.b2_commands.specs.ArgumentTasks.Task.{to_xof, to_derive, to_help, to_version}

-- The task that prints an output.
abbrev pub output_task : Output → Kind → GivenOptions → Task
output_task Digest kind given = to_sum kind given
output_task Digests kind given = to_script kind given
output_task Transcript kind given = to_steps kind given

-- The kind of digests by which messages are compared.
abbrev pub compared_kind : Compared → Kind
compared_kind compared = record { family = family_value compared.family; bytes = compared.bytes }

-- The task of a comparison.
abbrev pub comparison_task : Comparison → Task
comparison_task comparison =
    to_witness (compared_kind comparison.by) comparison.a.items comparison.b.items

-- The task of a root over a message, or over the digests of its leaves.
abbrev pub root_task_over : Over → Kind → ℕ → GivenOptions → Task
root_task_over Message = to_tree
root_task_over OverLeaves = to_root

-- The task of a root.
abbrev pub root_task : Root → Task
root_task root =
    root_task_over root.over (blake2b_value root.kind) root.leaf_length (given_options root.options)

-- The task of a part.
abbrev pub part_task : Part → Task
part_task part = to_leaves part.leaf_length part.first part.ends (given_options part.options)

-- The task of an output.
abbrev pub xof_task_value : Extended → Task
xof_task_value output =
    to_xof (family_value output.family) output.length output.raw (given_options output.options)

-- The task of a derivation.
abbrev pub derivation_task : Derivation → Task
derivation_task derivation =
    to_derive derivation.length derivation.context.items derivation.raw

-- The task that the program has read.
abbrev pub task_value : TaskRead → Task
task_value (Hash output kind options) = output_task output (kind_value kind) (given_options options)
task_value (Compare comparison) = comparison_task comparison
task_value (Tree root) = root_task root
task_value (Leaves part) = part_task part
task_value (Xof output) = xof_task_value output
task_value (Derive derivation) = derivation_task derivation
task_value Help = to_help
task_value Version = to_version
