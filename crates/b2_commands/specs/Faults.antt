-- The errors of the program: their statuses, messages and causes.
use Rattle.std.specs.Prelude.{◌≡◌, ◌≢◌, ◌<◌, ◌⊎◌, ◌∷◌, ◌++◌, ℕ, Bool, false, List, [], length}
use Rattle.std.specs.Prelude.{codes, decimal, Option, Some, None, IfSome, IsOkAnd, IsTrue}
use Rattle.std.specs.Io.KnownBytes.{Appends}
use Rattle.b2_commands.specs.declared.fault.Fault.{Fault}
use Rattle.b2_commands.specs.declared.fault.Fault.TheVariants.{WrongWords, WrongHex, WrongLength}
use Rattle.b2_commands.specs.declared.fault.Fault.TheVariants.{WrongLine}
use Rattle.b2_commands.specs.declared.fault.Fault.TheVariants.{NoSuchSlot, LineTooLong, TooLong}
use Rattle.b2_commands.specs.declared.fault.Fault.TheVariants.{ReadFailed, NoMemory, WriteFailed}
use Rattle.blake2_streams.specs.declared.stream.StreamFault.{StreamFault}
use Rattle.blake2_streams.specs.declared.stream.StreamFault.TheVariants.{Read, Write}
use Rattle.blake2_streams.specs.declared.stream.StreamFault.TheVariants.{TooLong as StreamTooLong}
use Rattle.b2_commands.specs.ArgumentTasks.{Task, task_of, IsReadingFault}
use Rattle.b2_commands.specs.Tasks.{IsRefusedInput, IsRefusedTask, IsTooLongFor, IsFaultOfLines}
use Rattle.b2_commands.specs.Tasks.{AllocatesMemory}

-- The error of the program for an error of a stream that is hashed.
abbrev pub fault_of_stream : StreamFault → Fault
fault_of_stream Read = ReadFailed
fault_of_stream StreamTooLong = TooLong
fault_of_stream Write = WriteFailed

-- The status that the program exits with after an error: 2 for the arguments and the input, 1 for
-- the devices and the memory.
abbrev pub exit_status_of : Fault → ℕ
exit_status_of WrongWords = 2
exit_status_of WrongHex = 2
exit_status_of WrongLength = 2
exit_status_of (WrongLine number) = 2
exit_status_of (NoSuchSlot number) = 2
exit_status_of (LineTooLong number) = 2
exit_status_of TooLong = 2
exit_status_of ReadFailed = 1
exit_status_of NoMemory = 1
exit_status_of WriteFailed = 1

-- The message of an error.
abbrev pub fault_message : Fault → List ℕ
fault_message WrongWords = codes "wrong words"
fault_message WrongHex = codes "wrong hex"
fault_message WrongLength = codes "wrong length"
fault_message (WrongLine number) = codes "wrong line"
fault_message (NoSuchSlot number) = codes "no such slot"
fault_message (LineTooLong number) = codes "too long"
fault_message TooLong = codes "too long"
fault_message ReadFailed = codes "read failed"
fault_message NoMemory = codes "no memory"
fault_message WriteFailed = []

-- The line of the input that an error names, counted from 1.
abbrev pub line_number : Fault → Option ℕ
line_number (WrongLine number) = Some number
line_number (NoSuchSlot number) = Some number
line_number (LineTooLong number) = Some number
line_number fault = None

-- The line that an error names, as printed before the message.
abbrev pub line_prefix_text : Option ℕ → List ℕ
line_prefix_text None = []
line_prefix_text (Some number) = codes "line " ++ decimal number ++ codes ": "

-- The line that the program prints for an error, with its newline (10). Nothing is printed for a
-- write error.
abbrev pub fault_line : Fault → List ℕ
fault_line WriteFailed = []
fault_line fault =
    codes "b2: " ++ line_prefix_text (line_number fault) ++ fault_message fault ++ 10 ∷ []

-- The task is not refused, and the lines of its input have this error.
abbrev pub IsFaultOfTaskLines : Fault → Task → Option (List ℕ) → Type 0
IsFaultOfTaskLines fault task left =
    (¬ IsRefusedTask task) × IfSome left (IsFaultOfLines fault task)

-- The cause of an error, once the arguments are read: the task that they name, what the source had
-- left, and whether a read has failed. Lengths are checked first, and the input is read only if
-- they are right. That of an input which is a key or a part is checked after it is read.
abbrev pub IsFaultOfTask : Fault → Task → Option (List ℕ) → Bool → Type 0
IsFaultOfTask WrongLength task left failed = IsRefusedTask task ⊎ IfSome left (IsRefusedInput task)
IsFaultOfTask (WrongLine number) task left failed = IsFaultOfTaskLines (WrongLine number) task left
IsFaultOfTask (NoSuchSlot number) task left failed =
    IsFaultOfTaskLines (NoSuchSlot number) task left
IsFaultOfTask (LineTooLong number) task left failed =
    IsFaultOfTaskLines (LineTooLong number) task left
IsFaultOfTask TooLong task left failed = (¬ IsRefusedTask task) × IfSome left (IsTooLongFor task)
IsFaultOfTask ReadFailed task left failed = (¬ IsRefusedTask task) × IsTrue failed
IsFaultOfTask NoMemory task left failed =
    (¬ IsRefusedTask task) × AllocatesMemory task × (failed ≡ false)
IsFaultOfTask WriteFailed task left failed = ¬ IsRefusedTask task
IsFaultOfTask fault task left failed = ⊥

-- The cause of an error in the arguments, after which nothing is read: the first wrong argument, or
-- memory was refused for the bytes of HEX, in an argument after a command and its KIND.
pub record IsFaultOfWords (fault : Fault) (words : List (List ℕ)) (left rest : Option (List ℕ))
    (failed : Bool) : Type 0 where
  pub reading : IsReadingFault fault (task_of words)
  pub memory : fault ≡ NoMemory → 2 < length words
  pub unread : rest ≡ left
  pub unfailed : failed ≡ false

-- The cause of an error: the error is one of the arguments, or is due for the task that they name.
abbrev pub FaultHasCause : Fault → List (List ℕ) → Option (List ℕ) → Option (List ℕ) → Bool → Type 0
FaultHasCause fault words left rest failed =
    IsFaultOfWords fault words left rest failed
    ⊎ IsOkAnd (task_of words) (λ task. IsFaultOfTask fault task left failed)

-- An error with its cause, other than a write error, has this status, and the sink accepted its
-- line.
pub record ReportsFault (words : List (List ℕ)) (left rest : Option (List ℕ)) (failed : Bool)
    (status : ℕ)
    (old new : Option (List ℕ)) : Type 0 where
  pub fault : Fault
  pub cause : FaultHasCause fault words left rest failed
  pub has_line : fault ≢ WriteFailed
  pub status_is : status ≡ exit_status_of fault
  pub line : Appends old new (fault_line fault)
