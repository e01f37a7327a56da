use Rattle.std.proofs.Common.{rules}
use Rattle.b2_commands.specs.ReadTasks.{comparison_task}
use Rattle.b2_commands.proofs.TasksWithoutInput.{EndsTask-without_input}
use Rattle.b2_commands.proofs.witness.witness.Goals as goal

pub returns-in-Blake2b : goal.returns-in-Blake2b
returns-in-Blake2b g c left =
    let told = c.witness_blake2b.ensures in
    EndsTask-without_input (comparison_task c.args.comparison.now) c.witness_blake2b.result left _ _
    _
    (λ x. x) (λ _ x. x) (λ _ x. x) told.write told.fault (search rules)

pub returns-in-Blake2s : goal.returns-in-Blake2s
returns-in-Blake2s g c left =
    let told = c.witness_blake2s.ensures in
    EndsTask-without_input (comparison_task c.args.comparison.now) c.witness_blake2s.result left _ _
    _
    (λ x. x) (λ _ x. x) (λ _ x. x) told.write told.fault (search rules)
