-- Laws of the command line: which command lines mean the same. Codes: 45 is a hyphen, 61 `=`.
use Rattle.std.specs.Prelude.{◌≡◌, ℕ, ◌<◌, ◌==◌, true, false, List, [], ◌∷◌, ◌++◌, length}
use Rattle.std.specs.Prelude.{codes, Some, Ok}
use Rattle.std.specs.List.{All}
use Rattle.b2sum_commands.specs.declared.option_names.Flag.{Flag}
use Rattle.b2sum_commands.specs.OptionNames.{has_value, letter_flag}
use Rattle.b2sum_commands.specs.CommandLine.{Choice, Anything, OnlyFile, CommandLineState}
use Rattle.b2sum_commands.specs.CommandLine.{read_words}
use Rattle.b2sum_commands.specs.CommandLine.{flag_named}

-- What is read before a word that may be an option.
abbrev pub state_awaiting_any_word : Choice → List (List ℕ) → CommandLineState
state_awaiting_any_word c files = record { choice = c; files = files; next = Anything }

-- `-ab` is `-a -b`, if `a` is the letter of an option without a value, and `b` is not a hyphen.
abbrev pub JoinedLettersEqualSeparateWords : Type 0
JoinedLettersEqualSeparateWords = (c : Choice) (files : List (List ℕ)) (a b : ℕ) (letters : List ℕ)
    (words : List (List ℕ)) (f : Flag) → letter_flag a ≡ Some f → has_value f ≡ false
    → (b == 45) ≡ false
    → read_words (state_awaiting_any_word c files) ((45 ∷ a ∷ b ∷ letters) ∷ words)
    ≡ read_words (state_awaiting_any_word c files) ((45 ∷ a ∷ []) ∷ (45 ∷ b ∷ letters) ∷ words)

-- `-aVALUE` is `-a VALUE`, if `a` is the letter of an option with a value, which is not empty.
abbrev pub LetterValueMayFollowAsWord : Type 0
LetterValueMayFollowAsWord = (c : Choice) (files : List (List ℕ)) (a : ℕ) (value : List ℕ)
    (words : List (List ℕ)) (f : Flag) → letter_flag a ≡ Some f → has_value f ≡ true
    → 0 < length value
    → read_words (state_awaiting_any_word c files) ((45 ∷ a ∷ value) ∷ words)
    ≡ read_words (state_awaiting_any_word c files) ((45 ∷ a ∷ []) ∷ value ∷ words)

-- `--name=VALUE` is `--name VALUE`, if the name means an option with a value.
abbrev pub NameValueMayFollowAsWord : Type 0
NameValueMayFollowAsWord = (c : Choice) (files : List (List ℕ)) (name value : List ℕ)
    (words : List (List ℕ)) (f : Flag) → 0 < length name → All (λ b. (b == 61) ≡ false) name
    → flag_named name ≡ Some f → has_value f ≡ true
    → read_words (state_awaiting_any_word c files) ((45 ∷ 45 ∷ (name ++ (61 ∷ value))) ∷ words)
    ≡ read_words (state_awaiting_any_word c files) ((45 ∷ 45 ∷ name) ∷ value ∷ words)

-- After `--` each word is a file, whatever it begins with.
abbrev pub WordsAfterDoubleHyphenAreFiles : Type 0
WordsAfterDoubleHyphenAreFiles = (c : Choice) (files words : List (List ℕ))
    → read_words (state_awaiting_any_word c files) (codes "--" ∷ words)
    ≡ Ok (record { choice = c; files = files ++ words; next = OnlyFile })
