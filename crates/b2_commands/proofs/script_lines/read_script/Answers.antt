use Rattle.std.proofs.Common.{◌≡◌, ◌+◌, [], ◌∷◌, ◌++◌, length, length-append, map, Ok, rules}
use Rattle.std.proofs.lemmas.List.{map-append}
use Rattle.text_lines.specs.Cuts.{lines_of}
use Rattle.b2_commands.specs.ReadScripts.{call_value}
use Rattle.b2_commands.specs.Scripts.{call_of_numbered_line, script_calls}
use Rattle.b2_commands.proofs.LineLemmas.{prepend_calls-next_line}
use Rattle.b2_commands.proofs.script_lines.read_script.Goals as goal

pub lines-preserved : goal.lines-preserved
lines-preserved c =
    let items = c.lines.script.items in
    let call = c.in_ok-call.call in
    let line = c.split_line.result.0.now in
    let after = c.split_line.result.1.now in
    let number : c.len.result ≡ length items = search rules in
    let read : call_of_numbered_line (length items + 1) line ≡ Ok (call_value call) =
    rw (← number) c.in_ok-call.ensures.call in
    let pushed : c.push.new.self.items ≡ items ++ call ∷ [] = search rules in
    let on =
    prepend_calls-next_line (script_calls c.args.text.now) (map call_value items) (call_value call)
    (length items + 1) line (lines_of after) (lines_of c.lines.rest.now) c.lines.invariant
    c.split_line.ensures.first read in
    rw (pushed, map-append call_value items (call ∷ []), length-append items (call ∷ [])) on
