-- The errors that are possible after the arguments of `tree` are read.
use Rattle.std.specs.Prelude.{⊤}
use Rattle.b2_commands.specs.declared.fault.Fault.{Fault}
use Rattle.b2_commands.specs.declared.fault.Fault.TheVariants.{WrongLength, TooLong, ReadFailed}
use Rattle.b2_commands.specs.declared.fault.Fault.TheVariants.{NoMemory, WriteFailed}

-- The error is one of the lengths, the input, a device or the memory.
abbrev pub IsFaultOfTree : Fault → Type 0
IsFaultOfTree WrongLength = ⊤
IsFaultOfTree TooLong = ⊤
IsFaultOfTree ReadFailed = ⊤
IsFaultOfTree NoMemory = ⊤
IsFaultOfTree WriteFailed = ⊤
IsFaultOfTree fault = ⊥
