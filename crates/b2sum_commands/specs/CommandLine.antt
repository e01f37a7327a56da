-- What a command line means, in the terms of getopt: options, which one or two hyphens begin, their
-- values, and files.
use Rattle.std.specs.Prelude.{ℕ, ◌+◌, ◌-◌, ◌*◌, ◌^◌, ◌%◌, ◌==◌, ◌&&◌, ◌||◌, nat_lt, nat_le}
use Rattle.std.specs.Prelude.{nat_eq, Bool, true, false, not, if◌then◌else◌, List, [], ◌∷◌, ◌++◌}
use Rattle.std.specs.Prelude.{length, drop, codes, Option, Some, None, Result, Ok, Err}
use Rattle.std.specs.List.{starts_with, find, count_by, list_all}
use Rattle.std.specs.Result.{result_ok}
use Rattle.std.specs.Str.{bytes_eq}
use Rattle.hex.specs.Hex.{decode_of}
use Rattle.text_lines.specs.Cuts.{cut_at}
use Rattle.b2sum_lines.specs.declared.entry.Algorithm as entry
use Rattle.b2sum_lines.specs.declared.entry.Algorithm.TheVariants.{Blake2b, Blake2s, Blake2bp}
use Rattle.b2sum_lines.specs.declared.entry.Algorithm.TheVariants.{Blake2sp}
use Rattle.b2sum_commands.specs.declared.option_names.Flag.{Flag}
use Rattle.b2sum_commands.specs.declared.option_names.Flag.TheVariants.{Algorithm, Length, KeyFile}
use Rattle.b2sum_commands.specs.declared.option_names.Flag.TheVariants.{KeyHexFile, DeriveKey}
use Rattle.b2sum_commands.specs.declared.option_names.Flag.TheVariants.{Personal, Salt, Tree}
use Rattle.b2sum_commands.specs.declared.option_names.Flag.TheVariants.{PersonalText, Progress}
use Rattle.b2sum_commands.specs.declared.option_names.Flag.TheVariants.{ShowDigests, Recursive}
use Rattle.b2sum_commands.specs.declared.option_names.Flag.TheVariants.{Expect}
use Rattle.b2sum_commands.specs.declared.option_names.Flag.TheVariants.{Threads, NoNames, Raw}
use Rattle.b2sum_commands.specs.declared.option_names.Flag.TheVariants.{Check, IgnoreMissing, Quiet}
use Rattle.b2sum_commands.specs.declared.option_names.Flag.TheVariants.{Status, Warn, Strict, Tag}
use Rattle.b2sum_commands.specs.declared.option_names.Flag.TheVariants.{Seal, Sealed, Zero}
use Rattle.b2sum_commands.specs.declared.option_names.Flag.TheVariants.{Binary, Text, Help, Version}
use Rattle.b2sum_commands.specs.declared.options.Report.{Report}
use Rattle.b2sum_commands.specs.declared.options.Report.TheVariants.{Each, Warnings, Failures}
use Rattle.b2sum_commands.specs.declared.options.Report.TheVariants.{Nothing}
use Rattle.b2sum_commands.specs.OptionNames.{long_name, has_value, letter_flag}

-- ---- what is chosen

-- Why a command line names no task: it asks for the help or the version, or it is wrong.
pub data End : Type 0 where
  Helped : End
  Versioned : End
  Refused : End

-- What the options choose. `names_algorithm` is that there is `--algorithm`. A length of 0 bits is
-- the algorithm's longest. `key_is_raw` and `key_is_hex` are that there is `--key-file` and
-- `--key-hex-file`: the file is that of the last of them. A persona is given by digits or as a
-- text; one that is not given has no bytes. `is_binary` is that of the last of `--binary`,
-- `--text`, `--tag` and `--seal`. Lines that are to be sealed have tags. `context` is that of a key
-- that is derived, `folders` are those of each `--recursive`, and `expected` is the digest of
-- `--expect`, which is a check.
pub record Choice : Type 0 where
  pub algorithm : entry.Algorithm
  pub names_algorithm : Bool
  pub leaf : Option ℕ
  pub bits : ℕ
  pub key_file : Option (List ℕ)
  pub key_is_raw : Bool
  pub key_is_hex : Bool
  pub context : Option (List ℕ)
  pub salt : List ℕ
  pub persona : List ℕ
  pub persona_text : List ℕ
  pub folders : List (List ℕ)
  pub expected : Option (List ℕ)
  pub checks : Bool
  pub is_binary : Option Bool
  pub is_tagged : Bool
  pub ends_zero : Bool
  pub ignores_missing : Bool
  pub report : Report
  pub is_strict : Bool
  pub threads : Option ℕ
  pub shows_progress : Bool
  pub has_no_names : Bool
  pub is_raw : Bool
  pub shows_digests : Bool
  pub seals : Bool
  pub is_sealed : Bool

-- The choice of no options.
abbrev pub default_choice : Choice
default_choice = record {
  algorithm = Blake2b;
  names_algorithm = false;
  leaf = None;
  bits = 0;
  key_file = None;
  key_is_raw = false;
  key_is_hex = false;
  context = None;
  salt = [];
  persona = [];
  persona_text = [];
  folders = [];
  expected = None;
  checks = false;
  is_binary = None;
  is_tagged = false;
  ends_zero = false;
  ignores_missing = false;
  report = Each;
  is_strict = false;
  threads = None;
  shows_progress = false;
  has_no_names = false;
  is_raw = false;
  shows_digests = false;
  seals = false;
  is_sealed = false;
}

-- ---- values

-- The number, if it passes the test.
abbrev pub number_if_passing : (ℕ → Bool) → Option ℕ → Option ℕ
number_if_passing test None = None
number_if_passing test (Some n) = if test n then Some n else None

-- A blank: a space, or a byte of 9 to 13, such as a tab or a newline.
abbrev pub is_white_space : ℕ → Bool
is_white_space b = (b == 32) || (nat_le 9 b && nat_lt b 14)

-- A text without the blanks at its front.
abbrev pub without_leading_blanks : List ℕ → List ℕ
without_leading_blanks [] = []
without_leading_blanks (b ∷ text) = if is_white_space b then without_leading_blanks text else b ∷
    text

-- A text without one plus at its front.
abbrev pub without_leading_plus : List ℕ → List ℕ
without_leading_plus [] = []
without_leading_plus (b ∷ text) = if b == 43 then text else b ∷ text

-- The number of decimal digits that follow those of `n`.
abbrev pub decimal_number_from : ℕ → List ℕ → Option ℕ
decimal_number_from n [] = Some n
decimal_number_from n (d ∷ digits) =
    if nat_le 48 d && nat_le d 57 then decimal_number_from (n * 10 + (d - 48)) digits else None

-- The number of one or more decimal digits.
abbrev pub decimal_number : List ℕ → Option ℕ
decimal_number [] = None
decimal_number (d ∷ digits) = decimal_number_from 0 (d ∷ digits)

-- The number that a value writes, below 2^64. Blanks and a plus may be before its digits.
abbrev pub parsed_number : List ℕ → Option ℕ
parsed_number value =
    number_if_passing (λ n. nat_lt n (2 ^ 64))
    (decimal_number (without_leading_plus (without_leading_blanks value)))

-- The number of bits of a digest: a multiple of 8.
abbrev pub parsed_bit_length : List ℕ → Option ℕ
parsed_bit_length value = number_if_passing (λ n. n % 8 == 0) (parsed_number value)

-- The number of bytes of a leaf: 1 to 2^32 - 1.
abbrev pub parsed_leaf_length : List ℕ → Option ℕ
parsed_leaf_length value = number_if_passing (λ n. nat_lt 0 n && nat_lt n (2 ^ 32))
    (parsed_number value)

-- The number of threads, below 2^32.
abbrev pub parsed_thread_count : List ℕ → Option ℕ
parsed_thread_count value = number_if_passing (λ n. nat_lt n (2 ^ 32)) (parsed_number value)

-- The algorithm of this name.
abbrev pub algorithm_of_name : List ℕ → Option entry.Algorithm
algorithm_of_name value =
    if bytes_eq value (codes "blake2b") then Some Blake2b
    else if bytes_eq value (codes "blake2s") then Some Blake2s
    else if bytes_eq value (codes "blake2bp") then Some Blake2bp
    else if bytes_eq value (codes "blake2sp") then Some Blake2sp
    else None

-- The byte is zero.
abbrev pub is_zero : ℕ → Bool
is_zero b = b == 0

-- The bytes, if one of them is not zero. Zeros are the same as no salt and no personalization.
abbrev pub if_not_all_zeros : Option (List ℕ) → Option (List ℕ)
if_not_all_zeros None = None
if_not_all_zeros (Some bytes) = if list_all is_zero bytes then None else Some bytes

-- The bytes that hexadecimal digits of either case write: not only zeros.
abbrev pub nonzero_bytes_of_hex : List ℕ → Option (List ℕ)
nonzero_bytes_of_hex [] = None
nonzero_bytes_of_hex (digit ∷ digits) = if_not_all_zeros (result_ok (decode_of (digit ∷ digits)))

-- The bytes, if they are at most those of the longest digest.
abbrev pub if_not_too_long : Option (List ℕ) → Option (List ℕ)
if_not_too_long None = None
if_not_too_long (Some bytes) = if nat_le (length bytes) 64 then Some bytes else None

-- The bytes of a digest, 1 to 64, which hexadecimal digits of either case write.
abbrev pub digest_of_hex_value : List ℕ → Option (List ℕ)
digest_of_hex_value [] = None
digest_of_hex_value (digit ∷ digits) = if_not_too_long (result_ok (decode_of (digit ∷ digits)))

-- The bytes of a text: at least one.
abbrev pub nonempty_text : List ℕ → Option (List ℕ)
nonempty_text [] = None
nonempty_text (b ∷ bytes) = Some (b ∷ bytes)

-- ---- options

-- The choice with one more option, which has no value.
abbrev pub set_flag : Flag → Choice → Result Choice End
set_flag Check c = Ok (record c { checks = true })
set_flag IgnoreMissing c = Ok (record c { ignores_missing = true })
set_flag Quiet c = Ok (record c { report = Failures })
set_flag Status c = Ok (record c { report = Nothing })
set_flag Warn c = Ok (record c { report = Warnings })
set_flag Strict c = Ok (record c { is_strict = true })
set_flag Tag c = Ok (record c { is_tagged = true; is_binary = Some true })
set_flag Seal c = Ok (record c { seals = true; is_tagged = true; is_binary = Some true })
set_flag Sealed c = Ok (record c { is_sealed = true })
set_flag Zero c = Ok (record c { ends_zero = true })
set_flag Binary c = Ok (record c { is_binary = Some true })
set_flag Text c = Ok (record c { is_binary = Some false })
set_flag Progress c = Ok (record c { shows_progress = true })
set_flag NoNames c = Ok (record c { has_no_names = true })
set_flag Raw c = Ok (record c { is_raw = true })
set_flag ShowDigests c = Ok (record c { shows_digests = true })
set_flag Help c = Err Helped
set_flag Version c = Err Versioned
set_flag Algorithm c = Ok c
set_flag Length c = Ok c
set_flag KeyFile c = Ok c
set_flag KeyHexFile c = Ok c
set_flag DeriveKey c = Ok c
set_flag Recursive c = Ok c
set_flag Expect c = Ok c
set_flag Personal c = Ok c
set_flag PersonalText c = Ok c
set_flag Salt c = Ok c
set_flag Tree c = Ok c
set_flag Threads c = Ok c

-- The choice with a value, which is refused if it is none.
abbrev pub choose_or_refuse : {A : Type 0} → Option A → (A → Choice) → Result Choice End
choose_or_refuse None choose = Err Refused
choose_or_refuse (Some value) choose = Ok (choose value)

-- The choice with one more option and its value.
abbrev pub set_value : Flag → List ℕ → Choice → Result Choice End
set_value Algorithm v c =
    choose_or_refuse (algorithm_of_name v) (λ a. record c { algorithm = a; names_algorithm = true })
set_value Length v c = choose_or_refuse (parsed_bit_length v) (λ n. record c { bits = n })
set_value KeyFile v c = Ok (record c { key_file = Some v; key_is_raw = true })
set_value KeyHexFile v c = Ok (record c { key_file = Some v; key_is_hex = true })
set_value DeriveKey v c = choose_or_refuse (nonempty_text v)
    (λ text. record c { context = Some text })
set_value Recursive v c = Ok (record c { folders = c.folders ++ v ∷ [] })
set_value Expect v c =
    choose_or_refuse (digest_of_hex_value v)
    (λ digest. record c { expected = Some digest; checks = true })
set_value Personal v c = choose_or_refuse (nonzero_bytes_of_hex v)
    (λ bytes. record c { persona = bytes })
set_value PersonalText v c = choose_or_refuse (nonempty_text v)
    (λ bytes. record c { persona_text = bytes })
set_value Salt v c = choose_or_refuse (nonzero_bytes_of_hex v) (λ bytes. record c { salt = bytes })
set_value Tree v c = choose_or_refuse (parsed_leaf_length v) (λ n. record c { leaf = Some n })
set_value Threads v c = choose_or_refuse (parsed_thread_count v)
    (λ n. record c { threads = Some n })
set_value Progress v c = Ok c
set_value NoNames v c = Ok c
set_value Raw v c = Ok c
set_value ShowDigests v c = Ok c
set_value Check v c = Ok c
set_value IgnoreMissing v c = Ok c
set_value Quiet v c = Ok c
set_value Status v c = Ok c
set_value Warn v c = Ok c
set_value Strict v c = Ok c
set_value Tag v c = Ok c
set_value Seal v c = Ok c
set_value Sealed v c = Ok c
set_value Zero v c = Ok c
set_value Binary v c = Ok c
set_value Text v c = Ok c
set_value Help v c = Ok c
set_value Version v c = Ok c

-- All options.
abbrev pub all_flags : List Flag
all_flags =
    Length ∷ Check ∷ IgnoreMissing ∷ Quiet ∷ Status ∷ Warn ∷ Strict ∷ Tag ∷ Zero ∷ Binary ∷ Text
    ∷ Algorithm ∷ KeyFile ∷ KeyHexFile ∷ DeriveKey ∷ Personal ∷ PersonalText ∷ Salt ∷ Tree
    ∷ Threads ∷ Progress ∷ NoNames ∷ Raw ∷ ShowDigests ∷ Recursive ∷ Expect ∷ Seal ∷ Sealed ∷ Help
    ∷ Version ∷ []

-- The first of two options that is there.
abbrev pub or_else : Option Flag → Option Flag → Option Flag
or_else None other = other
or_else (Some flag) other = Some flag

-- The option whose long name begins with these bytes, if only one does.
abbrev pub unique_prefix_option : List ℕ → Option Flag
unique_prefix_option name =
    if count_by (λ f. starts_with nat_eq (long_name f) name) all_flags == 1
    then find (λ f. starts_with nat_eq (long_name f) name) all_flags
    else None

-- The option that a long name means: the one of this name, or else the only one whose name begins
-- with it.
abbrev pub flag_named : List ℕ → Option Flag
flag_named name =
    or_else (find (λ f. bytes_eq (long_name f) name) all_flags) (unique_prefix_option name)

-- ---- words

-- What the next word is: an option or a file, the value of this option, or, after `--`, a file.
pub data Next : Type 0 where
  Anything : Next
  ValueOf : Flag → Next
  OnlyFile : Next

-- The choice, if there is one, and what the next word is.
abbrev pub choice_with_next_word : Next → Result Choice End → Result (Choice × Next) End
choice_with_next_word n (Ok c) = Ok (c, n)
choice_with_next_word n (Err e) = Err e

-- An option whose value is these bytes, or the next word if there are none.
abbrev pub value_here_or_next_word : Choice → Flag → List ℕ → Result (Choice × Next) End
value_here_or_next_word c f [] = Ok (c, ValueOf f)
value_here_or_next_word c f (b ∷ bytes) = choice_with_next_word Anything (set_value f (b ∷ bytes) c)

-- The letters of a word that one hyphen begins. After an option that has a value, the rest of the
-- word is the value.
abbrev pub read_letters : Choice → List ℕ → Result (Choice × Next) End
read_letters c [] = Ok (c, Anything)
read_letters c (letter ∷ letters) =
    elim (letter_flag letter) [
      | None ↦ Err Refused
      | Some f ↦
          if has_value f then value_here_or_next_word c f letters
          else elim (set_flag f c) [ Err e ↦ Err e | Ok d ↦ read_letters d letters ]
    ]

-- A long option without a value in its word: the value is the next word, if it has one.
abbrev pub read_unjoined_option : Choice → Option Flag → Result (Choice × Next) End
read_unjoined_option c None = Err Refused
read_unjoined_option c (Some f) = if has_value f then Ok (c, ValueOf f) else choice_with_next_word
    Anything (set_flag f c)

-- A long option with a value in its word.
abbrev pub read_joined_option : Choice → Option Flag → List ℕ → Result (Choice × Next) End
read_joined_option c None value = Err Refused
read_joined_option c (Some f) value =
    if has_value f then choice_with_next_word Anything (set_value f value c) else Err Refused

-- A long option, cut at `=`.
abbrev pub read_split_option : Choice → List ℕ → Option (List ℕ × List ℕ)
    → Result (Choice × Next) End
read_split_option c word None = read_unjoined_option c (flag_named word)
read_split_option c word (Some cut) = read_joined_option c (flag_named cut.0) cut.1

-- The rest of a word that two hyphens begin: a name, or a name, `=` and a value.
abbrev pub read_long_option : Choice → List ℕ → Result (Choice × Next) End
read_long_option c word = read_split_option c word (cut_at 61 word)

-- What is read so far.
pub record CommandLineState : Type 0 where
  pub choice : Choice
  pub files : List (List ℕ)
  pub next : Next

-- The state after an option. The files stay.
abbrev pub state_after_option : CommandLineState → Result (Choice × Next) End
    → Result CommandLineState End
state_after_option s (Ok read) = Ok (record { choice = read.0; files = s.files; next = read.1 })
state_after_option s (Err e) = Err e

-- The state with one more file.
abbrev pub state_with_file : CommandLineState → List ℕ → CommandLineState
state_with_file s name = record s { files = s.files ++ name ∷ [] }

-- A word that is not a value: `--`, a long option, letters, or a file. `-` alone is a file.
abbrev pub read_option_or_file : CommandLineState → List ℕ → Result CommandLineState End
read_option_or_file s word =
    if bytes_eq word (codes "--") then Ok (record s { next = OnlyFile })
    else if starts_with nat_eq word (codes "--")
    then state_after_option s (read_long_option s.choice (drop 2 word))
    else if starts_with nat_eq word (codes "-") && not (bytes_eq word (codes "-"))
    then state_after_option s (read_letters s.choice (drop 1 word))
    else Ok (state_with_file s word)

-- A word, which is what the state says.
abbrev pub read_expected_word : Next → CommandLineState → List ℕ → Result CommandLineState End
read_expected_word Anything s word = read_option_or_file s word
read_expected_word (ValueOf f) s word = state_after_option s
    (choice_with_next_word Anything (set_value f word s.choice))
read_expected_word OnlyFile s word = Ok (state_with_file s word)

-- Words from a state on.
abbrev pub read_words : CommandLineState → List (List ℕ) → Result CommandLineState End
read_words s [] = Ok s
read_words s (word ∷ words) =
    elim (read_expected_word s.next s word) [ Err e ↦ Err e | Ok t ↦ read_words t words ]

-- The options name files: those of folders, whose lines are printed.
abbrev pub has_folders_to_print : Choice → Bool
has_folders_to_print c = not (length c.folders == 0) && not c.checks

-- The files, or `-` alone if there are none, and the options name none.
abbrev pub files_or_standard_input : Bool → List (List ℕ) → List (List ℕ)
files_or_standard_input named [] = if named then [] else codes "-" ∷ []
files_or_standard_input named (name ∷ names) = name ∷ names

-- The choice and the files at the end of the words. A value that is still to come is missing.
abbrev pub ended : Next → CommandLineState → Result (Choice × List (List ℕ)) End
ended Anything s = Ok (s.choice, files_or_standard_input (has_folders_to_print s.choice) s.files)
ended (ValueOf f) s = Err Refused
ended OnlyFile s = Ok (s.choice, files_or_standard_input (has_folders_to_print s.choice) s.files)

-- What a command line means: a choice and files, or why it names no task.
abbrev pub reading : List (List ℕ) → Result (Choice × List (List ℕ)) End
reading words =
    elim (read_words (record { choice = default_choice; files = []; next = Anything }) words) [
      | Err e ↦ Err e
      | Ok s ↦ ended s.next s
    ]
