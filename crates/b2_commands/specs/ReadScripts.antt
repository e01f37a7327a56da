-- What the program has read of a script.
use Rattle.std.specs.Prelude.{◌≡◌, ⊤, ◌+◌, ◌^◌, ◌<◌, Result, Err}
use Rattle.b2_commands.specs.declared.fault.Fault.{Fault}
use Rattle.b2_commands.specs.declared.fault.Fault.TheVariants.{WrongLine, NoMemory}
use Rattle.b2_commands.specs.declared.script_lines.ScriptCall.{ScriptCall}
use Rattle.b2_commands.specs.declared.script_lines.ScriptCall.TheVariants as script
use Rattle.b2_commands.specs.Scripts.{slice_of_bytes}
use Rattle.blake2_replay.specs.declared.calls.Call.{Call}
use Rattle.blake2_replay.specs.declared.calls.Call.TheVariants.{Update, Clone, Reset, Finalize}
use Rattle.blake2_replay.specs.declared.calls.Call.TheVariants.{FinalizeReset}
use Rattle.blake2_replay.specs.declared.calls.ReplayFault.{ReplayFault}
use Rattle.blake2_replay.specs.declared.calls.ReplayFault.TheVariants.{NoSuchSlot as NoSuchSlotAt}
use Rattle.blake2_replay.specs.declared.calls.ReplayFault.TheVariants.{TooLong as TooLongAt, Memory}

-- The call that the program has read.
abbrev pub call_value : ScriptCall → Call
call_value (script.Update slot bytes) = Update slot (slice_of_bytes bytes.items)
call_value (script.Clone slot) = Clone slot
call_value (script.Reset slot) = Reset slot
call_value (script.Finalize slot) = Finalize slot
call_value (script.FinalizeReset slot) = FinalizeReset slot

-- A call whose bytes have no address, such as those of a definition.
abbrev pub without_address : Call → Call
without_address (Update slot bytes) = Update slot (slice_of_bytes bytes.now)
without_address (Clone slot) = Clone slot
without_address (Reset slot) = Reset slot
without_address (Finalize slot) = Finalize slot
without_address (FinalizeReset slot) = FinalizeReset slot

-- An error in reading a script is the expected one, or memory was refused.
abbrev pub IsScriptReadFault : {A : Type 0} → Fault → Result A Fault → Type 0
IsScriptReadFault (WrongLine number) expected = expected ≡ Err (WrongLine number)
IsScriptReadFault NoMemory expected = ⊤
IsScriptReadFault fault expected = ⊥

-- The number of the line that has a bad call fits a `usize`.
abbrev pub LineNumberFitsUsize : ReplayFault → Type 0
LineNumberFitsUsize (NoSuchSlotAt i) = i + 1 < 2 ^ 64
LineNumberFitsUsize (TooLongAt i) = i + 1 < 2 ^ 64
LineNumberFitsUsize Memory = ⊤
