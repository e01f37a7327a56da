use Rattle.std.proofs.Common.{◌<◌, ◌^◌, List, ap, length, rules, ℕ, [], None}
use Rattle.blake2.specs.Hash.{AreBytes, Input, Tree}
use Rattle.blake2.specs.States.{input}
use Rattle.b2_commands.proofs.AcceptedInputs.{unkeyed_input-is_accepted}
use Rattle.b2_commands.proofs.witness.unkeyed.Goals as goal

pub returns-clause-accepted : goal.returns-clause-accepted
returns-clause-accepted c = λ f.
    let message : List ℕ = c.args.message.now in
    let short : length message < 2 ^ 64 = search rules in
    let bytes : AreBytes message = search rules in
    let under : Tree → Input = λ t. record (input [] [] None message) { tree = t } in
    unkeyed_input-is_accepted f _ message (ap under c.sequential.ensures) bytes short
