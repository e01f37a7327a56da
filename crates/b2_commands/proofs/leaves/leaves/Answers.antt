use Rattle.std.proofs.Common.{◌≡◌, false, rules}
use Rattle.b2_commands.specs.ReadOptions.{given_options}
use Rattle.b2_commands.proofs.PrintedLeaves.{EndsTask-to_leaves}
use Rattle.b2_commands.proofs.leaves.leaves.Goals as goal

pub returns : goal.returns
returns g c =
    let part = c.args.part.now in
    let unfailed : g.S.Source.failed c.read_all.new.source ≡ false = search rules in
    rw unfailed (EndsTask-to_leaves part.leaf_length part.first part.ends
    (given_options part.options)
    c.in_ok-bytes.bytes.items c.in_ok-digests.digests.items c.print_digests.result
    (g.S.Source.left c.args.source.now) _ _ _ (search rules) c.in_ok-bytes.ensures.whole
    (search rules) (search rules) c.print_digests.ensures.write c.print_digests.ensures.fault
    (search rules))
