-- The name of the program.
use Rattle.std.specs.Prelude.{ℕ, ◌==◌, if◌then◌else◌, List, length, codes}
use Rattle.b2sum_commands.specs.TextParts.{after_last}

-- The name of a program that is run by this path, its argument 0: what is after the last slash, or
-- `b2sum` if that is empty.
abbrev pub program_name : List ℕ → List ℕ
program_name path = if length (after_last 47 path) == 0 then codes "b2sum" else after_last 47 path
