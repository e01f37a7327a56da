-- The lines of a script, a line at a time.
use Rattle.std.proofs.Common.{◌≡◌, ℕ, ◌+◌, List, [], ◌∷◌, ◌++◌, append_assoc, Result, Ok, Err, refl}
use Rattle.std.proofs.Common.{sym, ap, ◌∙◌}
use Rattle.blake2_replay.specs.declared.calls.Call.{Call}
use Rattle.b2_commands.specs.declared.fault.Fault.{Fault}
use Rattle.b2_commands.specs.Scripts.{call_of_numbered_line, calls_of_lines}
use Rattle.b2_commands.specs.ArgumentTasks.{and_then}

-- Calls, followed by those of later lines.
abbrev pub prepend_calls : List Call → Result (List Call) Fault → Result (List Call) Fault
prepend_calls calls (Ok later) = Ok (calls ++ later)
prepend_calls calls (Err fault) = Err fault

-- One more call follows the earlier ones.
prepend_calls-append : (calls : List Call) (call : Call) (later : Result (List Call) Fault)
    → prepend_calls calls (and_then later (λ more. Ok (call ∷ more)))
    ≡ prepend_calls (calls ++ call ∷ []) later
prepend_calls-append calls call (Ok more) = ap Ok (sym (append_assoc calls (call ∷ []) more))
prepend_calls-append calls call (Err fault) = refl

-- The next line has a call: the calls of all lines are the earlier ones, that call, and those of
-- the later lines.
pub prepend_calls-next_line : (all : Result (List Call) Fault) (calls : List Call) (call : Call)
    (number : ℕ)
    (line : List ℕ) (lines rest : List (List ℕ))
    → all ≡ prepend_calls calls (calls_of_lines number rest)
    → rest ≡ line ∷ lines
    → call_of_numbered_line number line ≡ Ok call → all ≡ prepend_calls (calls ++ call ∷ [])
    (calls_of_lines (number + 1) lines)
prepend_calls-next_line all calls call number line lines rest is first read =
    is ∙ rw (first, read) (prepend_calls-append calls call (calls_of_lines (number + 1) lines))
