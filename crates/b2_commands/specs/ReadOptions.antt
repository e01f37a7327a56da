-- The options that the program has read.
use Rattle.std.specs.Prelude.{ℕ, List, Option, Vec}
use Rattle.std.specs.Option.{option_map}
use Rattle.std.specs.declared.alloc.Global.{Global}
use Rattle.b2_commands.specs.declared.arguments.Options.{Options}
use Rattle.b2_commands.specs.ArgumentTasks.{GivenOptions}

-- The bytes of an option, if it is given.
abbrev pub bytes_of_option : Option (Vec ℕ Global) → Option (List ℕ)
bytes_of_option option = option_map (λ v. v.items) option

-- The bytes of the options that are given.
abbrev pub given_options : Options → GivenOptions
given_options options = record {
  key = bytes_of_option options.key;
  salt = bytes_of_option options.salt;
  persona = bytes_of_option options.persona;
}
