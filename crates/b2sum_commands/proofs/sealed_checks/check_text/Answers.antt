use Rattle.std.proofs.Common.{[], ◌∷◌, ◌++◌}
use Rattle.b2sum_commands.specs.World.{world_of}
use Rattle.b2sum_commands.proofs.SealedChecks.{done_so_far-next_line}
use Rattle.b2sum_commands.proofs.VerdictCounts.{counts_match-append}
use Rattle.b2sum_commands.proofs.sealed_checks.check_text.Goals as goal

pub line-preserved : goal.line-preserved
line-preserved g c =
    let w = world_of c.args.host.now.program.name.items g.D.File.OpenFile.named
    g.D.File.OpenFile.failed g.D.File.OpenFile.failure (g.D.Disk.files c.args.host.now.disk)
    g.H.Hashes.hashing in
    let before = c.line.invariant in
    let v = c.in_ok-verdict.verdict in (
      before.0 ++ (v ∷ []),
      done_so_far-next_line w c.args.options.now c.args.is_input _ c.args.session.now
          c.line.rest.now
          c.split_line.result.0.now c.split_line.result.1.now c.line.session
          c.check_line.new.session before.0 v c.split_line.ensures.first before.1
          c.in_ok-verdict.ensures.checked,
      counts_match-append before.0 v c.line.counts c.add.new.self before.2 c.add.ensures,
      c.go_on_in_list.ensures,
    )
