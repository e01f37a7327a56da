-- What the program says on standard error of arguments that name no task. 10 is a newline.
use Rattle.std.specs.Prelude.{List, ℕ, [], ◌∷◌, ◌++◌, codes, if◌then◌else◌}
use Rattle.std.specs.Str.{bytes_eq}

-- The line of a usage.
abbrev pub usage_line : List ℕ → List ℕ
usage_line text = codes "usage: b2 " ++ text ++ 10 ∷ []

-- The options of a tree.
abbrev pub tree_options_usage : List ℕ
tree_options_usage = codes " [salt=HEX] [persona=HEX | persona-text=TEXT]"

-- The options of a hash function.
abbrev pub hash_options_usage : List ℕ
hash_options_usage = codes " [key=HEX] [salt=HEX] [persona=HEX | persona-text=TEXT]"

-- The line of the usage of a command, or that it is none.
abbrev pub usage_of_command : List ℕ → List ℕ
usage_of_command command =
    if bytes_eq command (codes "sum") then usage_line (codes "sum KIND" ++ hash_options_usage)
    else if bytes_eq command (codes "script") then usage_line
    (codes "script KIND" ++ hash_options_usage)
    else if bytes_eq command (codes "steps") then usage_line
    (codes "steps KIND" ++ hash_options_usage)
    else if bytes_eq command (codes "witness")
    then usage_line (codes "witness KIND MESSAGE MESSAGE")
    else if bytes_eq command (codes "tree")
    then usage_line (codes "tree KIND LEAF" ++ tree_options_usage)
    else if bytes_eq command (codes "leaves")
    then usage_line (codes "leaves LEAF FIRST more|last" ++ tree_options_usage)
    else if bytes_eq command (codes "root") then usage_line
    (codes "root KIND LEAF" ++ tree_options_usage)
    else if bytes_eq command (codes "xof")
    then usage_line (codes "xof KIND LENGTH [raw]" ++ hash_options_usage)
    else if bytes_eq command (codes "derive") then usage_line (codes "derive LENGTH CONTEXT [raw]")
    else if bytes_eq command (codes "--help") then usage_line (codes "--help")
    else if bytes_eq command (codes "-h") then usage_line (codes "--help")
    else if bytes_eq command (codes "help") then usage_line (codes "--help")
    else if bytes_eq command (codes "--version") then usage_line (codes "--version")
    else codes "b2: the first argument is not a command" ++ 10 ∷ []

-- What is said of the arguments: the usage of the command, or that there is none.
abbrev pub usage_advice : List (List ℕ) → List ℕ
usage_advice [] = codes "b2: a command is missing" ++ 10 ∷ []
usage_advice (command ∷ words) = usage_of_command command

-- The line that says where to find help.
abbrev pub help_hint : List ℕ
help_hint = codes "Try 'b2 --help' for more information." ++ 10 ∷ []

-- The whole of what is said.
abbrev pub advice_for_words : List (List ℕ) → List ℕ
advice_for_words words = usage_advice words ++ help_hint
