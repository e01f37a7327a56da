use Rattle.std.proofs.Common.{List, ℕ, ap, ◌∙◌, refl}
use Rattle.b2sum_lines.specs.EntryViews.{entry_value}
use Rattle.b2sum_commands.proofs.EndedByErrors.{result_ok-none_after_error}
use Rattle.b2sum_commands.proofs.ExpectedDigests.{compared_with_digest-if_verdict}
use Rattle.b2sum_commands.proofs.ExpectedDigests.{compared_with_digest-if_stopped}
use Rattle.b2sum_commands.specs.Expected.{IsComparedWithDigest, expected_entry}
use Rattle.b2sum_commands.specs.World.{world_of}
use Rattle.b2sum_commands.proofs.expected.check_expected.Goals as goal

pub returns-in_err-verdict-clause-checked : goal.returns-in_err-verdict-clause-checked
returns-in_err-verdict-clause-checked g c =
    let w = world_of c.args.host.now.program.name.items g.D.File.OpenFile.named
    g.D.File.OpenFile.failed g.D.File.OpenFile.failure (g.D.Disk.files c.args.host.now.disk)
    g.H.Hashes.hashing in
    let digest : List ℕ = c.args.digest.now.bytes.items in
    let is = c.in_ok-entry.ensures.entry
    ∙ ap (λ (d : List ℕ). expected_entry c.args.options.now d c.args.name.now) c.as_slice.ensures.value in
    result_ok-none_after_error
    (IsComparedWithDigest w c.args.options.now digest c.args.name.now c.args.session.now
    c.check_entry.new.session) _ _ c.from_residual-in_err-verdict.ensures.1
    (compared_with_digest-if_stopped w c.args.options.now digest c.args.name.now c.args.session.now
    c.check_entry.new.session (entry_value c.in_ok-entry.entry) is
    (c.in_err-verdict.ensures.begun refl))

pub returns-clause-checked : goal.returns-clause-checked
returns-clause-checked g c =
    let w = world_of c.args.host.now.program.name.items g.D.File.OpenFile.named
    g.D.File.OpenFile.failed g.D.File.OpenFile.failure (g.D.Disk.files c.args.host.now.disk)
    g.H.Hashes.hashing in
    let digest : List ℕ = c.args.digest.now.bytes.items in
    let is = c.in_ok-entry.ensures.entry
    ∙ ap (λ (d : List ℕ). expected_entry c.args.options.now d c.args.name.now) c.as_slice.ensures.value in
    compared_with_digest-if_verdict w c.args.options.now digest c.args.name.now c.args.session.now
    c.check_entry.new.session (entry_value c.in_ok-entry.entry) c.in_ok-verdict.verdict
    c.is_equal.result is c.is_equal.ensures c.in_ok-verdict.ensures.verdict
    c.in_ok-verdict.ensures.told c.in_ok-verdict.ensures.silent
