use Rattle.b2sum_commands.proofs.WalkedFolders.{others_told-next_name}
use Rattle.b2sum_commands.proofs.folders.warn_of_others.Goals as goal

pub loop-name-preserved : goal.loop-name-preserved
loop-name-preserved g c =
    others_told-next_name c.args.program.now.name.items c.args.names.now c.loop-name.name-index
    c.name-item.result
    c.as_slice.result.now c.args.session.now c.loop-name.session c.warn_of_other.new.session
    c.loop-name-test.true c.name-item.is c.as_slice.ensures.value c.loop-name.invariant.only
    c.loop-name.invariant.told c.warn_of_other.ensures.only c.in_ok-warn_of_other.ensures.told
