-- The options of the command line: their names, their letters, and which of them have a value.
use Rattle.std.specs.Prelude.{ℕ, ◌==◌, Bool, true, false, if◌then◌else◌, List, codes}
use Rattle.std.specs.Prelude.{Option, Some, None}
use Rattle.b2sum_commands.specs.declared.option_names.Flag.{Flag}
use Rattle.b2sum_commands.specs.declared.option_names.Flag.TheVariants.{Algorithm, Length, KeyFile}
use Rattle.b2sum_commands.specs.declared.option_names.Flag.TheVariants.{KeyHexFile, DeriveKey}
use Rattle.b2sum_commands.specs.declared.option_names.Flag.TheVariants.{Personal, Salt, Tree}
use Rattle.b2sum_commands.specs.declared.option_names.Flag.TheVariants.{PersonalText, Progress}
use Rattle.b2sum_commands.specs.declared.option_names.Flag.TheVariants.{ShowDigests, Recursive}
use Rattle.b2sum_commands.specs.declared.option_names.Flag.TheVariants.{Expect}
use Rattle.b2sum_commands.specs.declared.option_names.Flag.TheVariants.{Threads, NoNames, Raw}
use Rattle.b2sum_commands.specs.declared.option_names.Flag.TheVariants.{Check, IgnoreMissing, Quiet}
use Rattle.b2sum_commands.specs.declared.option_names.Flag.TheVariants.{Status, Warn, Strict, Tag}
use Rattle.b2sum_commands.specs.declared.option_names.Flag.TheVariants.{Seal, Sealed, Zero}
use Rattle.b2sum_commands.specs.declared.option_names.Flag.TheVariants.{Binary, Text, Help, Version}

-- The name of the long option, which follows two hyphens.
abbrev pub long_name : Flag → List ℕ
long_name Algorithm = codes "algorithm"
long_name Length = codes "length"
long_name KeyFile = codes "key-file"
long_name KeyHexFile = codes "key-hex-file"
long_name DeriveKey = codes "derive-key"
long_name Personal = codes "personal"
long_name PersonalText = codes "personal-text"
long_name Salt = codes "salt"
long_name Tree = codes "tree"
long_name Threads = codes "threads"
long_name Progress = codes "progress"
long_name NoNames = codes "no-names"
long_name Raw = codes "raw"
long_name ShowDigests = codes "show-digests"
long_name Recursive = codes "recursive"
long_name Check = codes "check"
long_name Expect = codes "expect"
long_name IgnoreMissing = codes "ignore-missing"
long_name Quiet = codes "quiet"
long_name Status = codes "status"
long_name Warn = codes "warn"
long_name Strict = codes "strict"
long_name Tag = codes "tag"
long_name Seal = codes "seal"
long_name Sealed = codes "sealed"
long_name Zero = codes "zero"
long_name Binary = codes "binary"
long_name Text = codes "text"
long_name Help = codes "help"
long_name Version = codes "version"

-- The option has a value.
abbrev pub has_value : Flag → Bool
has_value Algorithm = true
has_value Length = true
has_value KeyFile = true
has_value KeyHexFile = true
has_value DeriveKey = true
has_value Personal = true
has_value PersonalText = true
has_value Salt = true
has_value Tree = true
has_value Threads = true
has_value Progress = false
has_value NoNames = false
has_value Raw = false
has_value ShowDigests = false
has_value Recursive = true
has_value Check = false
has_value Expect = true
has_value IgnoreMissing = false
has_value Quiet = false
has_value Status = false
has_value Warn = false
has_value Strict = false
has_value Tag = false
has_value Seal = false
has_value Sealed = false
has_value Zero = false
has_value Binary = false
has_value Text = false
has_value Help = false
has_value Version = false

-- The option of a letter, which follows one hyphen.
abbrev pub letter_flag : ℕ → Option Flag
letter_flag letter =
    if letter == 97 then Some Algorithm else
    if letter == 108 then Some Length else
    if letter == 99 then Some Check else
    if letter == 119 then Some Warn else
    if letter == 122 then Some Zero else
    if letter == 98 then Some Binary else
    if letter == 116 then Some Text else None
