-- What a script says, and the digests that it returns. 10 is a newline and 32 a space.
use Rattle.std.specs.Prelude.{ℕ, ◌+◌, if◌then◌else◌, List, [], ◌∷◌, codes, Option, Some, None}
use Rattle.std.specs.Prelude.{ok_or, Result, Ok, Err}
use Rattle.std.specs.Borrow.{Bor}
use Rattle.std.specs.Option.{option_and_then, option_map}
use Rattle.std.specs.Result.{result_map_both}
use Rattle.std.specs.Str.{bytes_eq}
use Rattle.text_lines.specs.Cuts.{cut_at, lines_of}
use Rattle.blake2.specs.Play.{play_fresh}
use Rattle.blake2_replay.specs.declared.calls.Call.{Call}
use Rattle.blake2_replay.specs.declared.calls.Call.TheVariants.{Update, Clone, Reset, Finalize}
use Rattle.blake2_replay.specs.declared.calls.Call.TheVariants.{FinalizeReset}
use Rattle.blake2_replay.specs.declared.calls.ReplayFault.{ReplayFault}
use Rattle.blake2_replay.specs.declared.calls.ReplayFault.TheVariants.{NoSuchSlot as NoSuchSlotAt}
use Rattle.blake2_replay.specs.declared.calls.ReplayFault.TheVariants.{TooLong as TooLongAt, Memory}
use Rattle.b2_commands.specs.declared.fault.Fault.{Fault}
use Rattle.b2_commands.specs.declared.fault.Fault.TheVariants.{WrongLine, NoSuchSlot, LineTooLong}
use Rattle.b2_commands.specs.declared.fault.Fault.TheVariants.{NoMemory}
use Rattle.b2_commands.specs.DecimalNumbers.{number_value}
use Rattle.b2_commands.specs.ArgumentTasks.{and_then, message_value}

-- The slot that a field names: 1 to 9 decimal digits with no leading zero.
abbrev pub slot_value : List ℕ → Option ℕ
slot_value digits = number_value 9 digits

-- The bytes as a slice. What calls return does not depend on its address.
abbrev pub slice_of_bytes : List ℕ → Bor (List ℕ)
slice_of_bytes bytes = record { ref_ptr = (0, 0); now = bytes }

-- The update of a slot with the bytes of HEX, if HEX is right.
abbrev pub update_if_ok : ℕ → Result (List ℕ) Fault → Option Call
update_if_ok slot (Ok bytes) = Some (Update slot (slice_of_bytes bytes))
update_if_ok slot (Err fault) = None

-- The update with the fields SLOT and HEX.
abbrev pub update_of_slot_and_hex : List ℕ → List ℕ → Option Call
update_of_slot_and_hex slot digits =
    option_and_then (λ k. update_if_ok k (message_value digits)) (slot_value slot)

-- The update with the fields after its name.
abbrev pub update_of_fields : List ℕ → Option Call
update_of_fields fields =
    option_and_then (λ parts. update_of_slot_and_hex parts.0 parts.1) (cut_at 32 fields)

-- The call with this name and the fields after it.
abbrev pub call_by_name : List ℕ → List ℕ → Option Call
call_by_name name fields =
    if bytes_eq name (codes "u")
    then update_of_fields fields
    else if bytes_eq name (codes "c") then option_map Clone (slot_value fields)
    else if bytes_eq name (codes "r") then option_map Reset (slot_value fields)
    else if bytes_eq name (codes "f") then option_map Finalize (slot_value fields)
    else if bytes_eq name (codes "d") then option_map FinalizeReset (slot_value fields)
    else None

-- The call of a line: its name, SLOT, and HEX of an update, with one space between them. A wrong
-- line has no call.
abbrev pub call_of_line : List ℕ → Option Call
call_of_line line = option_and_then (λ parts. call_by_name parts.0 parts.1) (cut_at 32 line)

-- The call of the line with this number, or the error of a wrong line.
abbrev pub call_of_numbered_line : ℕ → List ℕ → Result Call Fault
call_of_numbered_line number line = ok_or (call_of_line line) (WrongLine number)

-- The calls of lines, the first of which has this number.
abbrev pub calls_of_lines : ℕ → List (List ℕ) → Result (List Call) Fault
calls_of_lines number [] = Ok []
calls_of_lines number (line ∷ lines) =
    and_then (call_of_numbered_line number line)
    (λ call. and_then (calls_of_lines (number + 1) lines) (λ calls. Ok (call ∷ calls)))

-- The calls of a script, or the error of its first wrong line.
abbrev pub script_calls : List ℕ → Result (List Call) Fault
script_calls text = calls_of_lines 1 (lines_of text)

-- The error of the program for an error of a list of calls: the call at index i, from 0, is in line
-- i + 1.
abbrev pub fault_of_calls : ReplayFault → Fault
fault_of_calls (NoSuchSlotAt i) = NoSuchSlot (i + 1)
fault_of_calls (TooLongAt i) = LineTooLong (i + 1)
fault_of_calls Memory = NoMemory

-- The digests that a script returns on a hasher that has just been initialized, whose digest of y
-- is `digest y` and which begins with n counted bytes. All lines are read before the first call.
abbrev pub script_digests : (List ℕ → List ℕ) → ℕ → List ℕ → Result (List (List ℕ)) Fault
script_digests digest n text =
    and_then (script_calls text)
    (λ calls. result_map_both (λ digests. digests) fault_of_calls (play_fresh digest n calls))
