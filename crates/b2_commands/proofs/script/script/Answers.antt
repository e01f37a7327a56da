use Rattle.std.proofs.Common.{◌≡◌, ◌⊎◌, ℕ, List, false, map, take, Ok, Err, IfSome}
use Rattle.std.proofs.KnownBytes.{Keeps-refl}
use Rattle.blake2.specs.Play.{play_fresh}
use Rattle.b2_commands.specs.ReadScripts.{call_value, without_address}
use Rattle.b2_commands.specs.Scripts.{script_calls, script_digests}
use Rattle.blake2_state.specs.Runs.{padded_digest}
use Rattle.b2_commands.proofs.RunLaws.{IsMemoryFault, play_fresh-of_padded_digest}
use Rattle.b2_commands.proofs.RunLaws.{play_fresh-memory_or_fault}
use Rattle.b2_commands.proofs.ScriptLemmas.{script_digests-ok_if_played, EndsByPrintingDigests-ok}
use Rattle.b2_commands.proofs.ScriptLemmas.{EndsByPrintingDigests-err}
use Rattle.b2_commands.proofs.script.script.Goals as goal

pub returns-in-Ok-clause-ends : goal.returns-in-Ok-clause-ends
returns-in-Ok-clause-ends g c = λ digest n fresh long.
    let left = g.S.Source.left c.args.source.now in
    let text = c.in_ok-text.text.items in
    let script = map call_value c.in_ok-script.script.items in
    let calls = c.in_ok-calls.calls.items in
    let digests = c.in-Ok.digests.items in
    let whole : IfSome left (λ all. text ≡ all) = c.in_ok-text.ensures.whole in
    let read : script_calls text ≡ Ok script = rw c.as_slice.ensures.value at
    c.in_ok-script.ensures.calls in
    let held : map without_address calls ≡ script =
    rw c.as_slice-2.ensures.value at c.in_ok-calls.ensures
    in
    let cut : List (List ℕ) = map (take c.args.size) digests in
    let plays : play_fresh (digest false) n calls ≡ Ok cut =
    play_fresh-of_padded_digest 64 c.args.size (digest false) n calls digests long
    (rw c.as_slice-3.ensures.value at c.in-Ok.ensures.fresh (padded_digest digest) n fresh) in
    EndsByPrintingDigests-ok (script_digests (digest false) n) text cut c.print_lines.result left
    (g.K.Sink.held c.args.sink.now) (g.K.Sink.held c.print_lines.new.sink) whole
    (script_digests-ok_if_played (digest false) n text script calls cut read held plays)
    c.print_lines.ensures.fault (rw c.as_slice-in-Ok.ensures.value at c.print_lines.ensures.lines)

pub returns-clause-ends : goal.returns-clause-ends
returns-clause-ends g c = λ digest n fresh long.
    let left = g.S.Source.left c.args.source.now in
    let text = c.in_ok-text.text.items in
    let script = map call_value c.in_ok-script.script.items in
    let calls = c.in_ok-calls.calls.items in
    let whole : IfSome left (λ all. text ≡ all) = c.in_ok-text.ensures.whole in
    let read : script_calls text ≡ Ok script = rw c.as_slice.ensures.value at
    c.in_ok-script.ensures.calls in
    let held : map without_address calls ≡ script =
    rw c.as_slice-2.ensures.value at c.in_ok-calls.ensures
    in
    let why : IsMemoryFault c.in-Err.fault
    ⊎ (play_fresh (digest false) n calls ≡ Err c.in-Err.fault) =
    play_fresh-memory_or_fault 64 c.args.size (digest false) n calls c.in-Err.fault long
    (rw c.as_slice-3.ensures.value at c.in-Err.ensures.fresh_fault (padded_digest digest) n
    fresh) in
    rw c.fault_of.ensures
    (EndsByPrintingDigests-err (digest false) n text script calls c.in-Err.fault left
    (g.K.Sink.held c.args.sink.now)
    (g.K.Sink.held c.args.sink.now) whole read held
    why (Keeps-refl _))
