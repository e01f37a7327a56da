-- Choices of options that are accepted, and the options that they give.
use Rattle.std.specs.Prelude.{◌≡◌, ℕ, ◌*◌, ◌/◌, ◌==◌, ◌&&◌, ◌||◌, nat_le, Bool, true, false, not}
use Rattle.std.specs.Prelude.{if◌then◌else◌, List, [], length, map}
use Rattle.std.specs.Prelude.{Option, Some, None, is_some, is_none, unwrap_or, Result, Ok, Err}
use Rattle.std.specs.List.{list_any}
use Rattle.std.specs.Option.{option_map}
use Rattle.b2sum_lines.specs.ManifestLines.{max_bytes}
use Rattle.b2sum_lines.specs.declared.entry.Algorithm.{Algorithm}
use Rattle.b2sum_lines.specs.declared.entry.Algorithm.TheVariants.{Blake2b, Blake2s, Blake2bp}
use Rattle.b2sum_lines.specs.declared.entry.Algorithm.TheVariants.{Blake2sp, Tree}
use Rattle.b2sum_lines.specs.declared.entry.Needs.{Needs}
use Rattle.b2sum_lines.specs.declared.entry.Style.{Style}
use Rattle.b2sum_lines.specs.declared.entry.Style.TheVariants.{Tagged, Text, Binary}
use Rattle.b2sum_commands.specs.declared.options.Arguments.{Arguments}
use Rattle.b2sum_commands.specs.declared.options.Options.{Options}
use Rattle.b2sum_commands.specs.declared.options.Report.{Report}
use Rattle.b2sum_commands.specs.declared.options.Shape.{Shape}
use Rattle.b2sum_commands.specs.declared.options.Shape.TheVariants.{Named, Digits, Bytes}
use Rattle.b2sum_commands.specs.declared.options.Report.TheVariants.{Each, Warnings, Failures}
use Rattle.b2sum_commands.specs.declared.options.Report.TheVariants.{Nothing}
use Rattle.b2sum_commands.specs.CommandLine.{Choice, End, Refused, reading}
use Rattle.b2sum_commands.specs.Messages.{is_standard_input}

-- The algorithm has trees.
abbrev pub supports_trees : Algorithm → Bool
supports_trees Blake2b = true
supports_trees Blake2s = false
supports_trees Blake2bp = false
supports_trees Blake2sp = false
supports_trees (Tree leaf) = true

-- The last of the options for a mode is `--text`.
abbrev pub is_text_mode : Option Bool → Bool
is_text_mode None = false
is_text_mode (Some binary) = not binary

-- The last of the options for a mode is not `--text`, and there is one.
abbrev pub is_binary : Option Bool → Bool
is_binary None = false
is_binary (Some binary) = binary

-- A check prints a line for each file.
abbrev pub prints_each_file : Report → Bool
prints_each_file Each = true
prints_each_file Warnings = false
prints_each_file Failures = false
prints_each_file Nothing = false

-- The algorithm has digests of this length.
abbrev pub has_length : Choice → Bool
has_length c = nat_le c.bits (8 * max_bytes c.algorithm)

-- Whether there are bytes.
abbrev pub is_not_empty : List ℕ → Bool
is_not_empty bytes = not (length bytes == 0)

-- The algorithm has a salt and a persona of these lengths.
abbrev pub salt_and_persona_fit : Choice → Bool
salt_and_persona_fit c =
    nat_le (4 * length c.salt) (max_bytes c.algorithm)
    && (nat_le (4 * length c.persona) (max_bytes c.algorithm)
    && nat_le (4 * length c.persona_text) (max_bytes c.algorithm))

-- The options go with those of a tree: BLAKE2b without a key, and no `--text` unless it checks.
-- Without a tree there are no threads, unless it checks.
abbrev pub goes_with_tree : Choice → Bool
goes_with_tree c =
    if is_none c.leaf then is_none c.threads || c.checks
    else supports_trees c.algorithm
    && (is_none c.key_file && (c.checks || not (is_text_mode c.is_binary)))

-- The options go with a check: none is only for digests that are printed. Under a key the digest of
-- a file that was changed is a MAC, and is not shown.
abbrev pub goes_with_check : Choice → Bool
goes_with_check c =
    not c.ends_zero
    && (not c.is_tagged && (is_none c.is_binary && (not (c.has_no_names || c.is_raw)
    && (not c.shows_digests || is_none c.key_file))))

-- The options go with digests that are printed: none is only for a check.
abbrev pub goes_with_sums : Choice → Bool
goes_with_sums c =
    not c.ignores_missing && (prints_each_file c.report && (not c.is_strict && not c.shows_digests))

-- There are not two personas.
abbrev pub has_at_most_one_persona : Choice → Bool
has_at_most_one_persona c = not (is_not_empty c.persona && is_not_empty c.persona_text)

-- There is one file of a key, of bytes or of digits.
abbrev pub has_at_most_one_key_file : Choice → Bool
has_at_most_one_key_file c = not (c.key_is_raw && c.key_is_hex)

-- The options go with a list that is sealed: its lines have tags, names and a key. A tree has no
-- key. To be checked a sealed list needs a key too.
abbrev pub goes_with_seals : Choice → Bool
goes_with_seals c =
    (not c.seals || (is_some c.key_file && (is_none c.leaf && (not c.checks
    && (not c.ends_zero && (not (c.has_no_names || c.is_raw) && not (is_text_mode c.is_binary)))))))
    && (not c.is_sealed || (c.checks && is_some c.key_file))

-- The options go with folders: their files are printed with names, or have to be in a sealed list.
abbrev pub goes_with_folders : Choice → Bool
goes_with_folders c = (length c.folders == 0)
    || (is_none c.expected && (if c.checks then c.is_sealed else not c.is_raw))

-- A key can be derived: there is one.
abbrev pub goes_with_context : Choice → Bool
goes_with_context c = is_none c.context || is_some c.key_file

-- The digest has a length that a check accepts: one of the algorithm, and the length that is given,
-- or the longest under a key.
abbrev pub has_digest_length : Choice → List ℕ → Bool
has_digest_length c digest =
    nat_le (length digest) (max_bytes c.algorithm)
    && (if c.bits == 0 then is_none c.key_file || (length digest == max_bytes c.algorithm)
    else 8 * length digest == c.bits)

-- The options go with a digest that a file is to have, if one is given.
abbrev pub goes_with_digest : Choice → Option (List ℕ) → Bool
goes_with_digest c None = true
goes_with_digest c (Some digest) =
    not c.is_sealed && (not (c.is_strict || c.ignores_missing) && has_digest_length c digest)

-- The options for the form of lines, for parameters, trees, checks and sums go together.
abbrev pub goes_with_task : Choice → Bool
goes_with_task c =
    not (c.is_tagged && is_text_mode c.is_binary)
    && (not (c.is_tagged && (c.has_no_names || c.is_raw))
    && (has_at_most_one_persona c
    && (has_at_most_one_key_file c
    && (goes_with_tree c && (if c.checks then goes_with_check c else goes_with_sums c)))))

-- The options go together.
abbrev pub goes_together : Choice → Bool
goes_together c =
    goes_with_seals c
    && (goes_with_folders c
    && (goes_with_context c && (goes_with_digest c c.expected && goes_with_task c)))

-- The file of the key, if there is one, is standard input.
abbrev pub is_input : Option (List ℕ) → Bool
is_input None = false
is_input (Some name) = is_standard_input name

-- The options go with the files: bytes alone are those of one file, and standard input is not the
-- key and a file too.
abbrev pub goes_with_files : Choice → List (List ℕ) → Bool
goes_with_files c files =
    (not c.is_raw || (length files == 1))
    && not (is_input c.key_file && list_any is_standard_input files)

-- The choice is accepted with these files.
abbrev pub accepted : Choice → List (List ℕ) → Bool
accepted c files =
    has_length c && (goes_together c && (salt_and_persona_fit c && goes_with_files c files))

-- The algorithm, with the leaves of a tree.
abbrev pub with_leaf : Algorithm → Option ℕ → Algorithm
with_leaf a None = a
with_leaf a (Some leaf) = Tree leaf

-- What the digests need besides a file.
abbrev pub chosen_needs : Choice → Needs
chosen_needs c = record {
  key = is_some c.key_file;
  salt = is_not_empty c.salt;
  personal = is_not_empty c.persona || is_not_empty c.persona_text;
}

-- The persona: the text, if there is one.
abbrev pub chosen_persona : Choice → List ℕ
chosen_persona c = if is_not_empty c.persona_text then c.persona_text else c.persona

-- What is printed of a digest.
abbrev pub chosen_shape : Choice → Shape
chosen_shape c = if c.is_raw then Bytes else if c.has_no_names then Digits else Named

-- The style of the lines that are printed.
abbrev pub chosen_style : Choice → Style
chosen_style c =
    if c.is_tagged || is_some c.leaf then Tagged (chosen_needs c)
    else if is_binary c.is_binary then Binary else Text

-- The options of a choice. The key is that of the key file, or none. A check demands a length of
-- digests if one is given, and under a key, and an algorithm if one is given, or a tree. It is
-- strict under a key.
pub record OptionsMatchChoice (c : Choice) (o : Options) : Type 0 where
  pub algorithm : o.algorithm ≡ with_leaf c.algorithm c.leaf
  pub bytes : o.bytes ≡ (if c.bits == 0 then max_bytes c.algorithm else c.bits / 8)
  pub demands_length : o.demands_length ≡ (not (c.bits == 0) || is_some c.key_file)
  pub demands_algorithm : o.demands_algorithm ≡ (c.names_algorithm || is_some c.leaf)
  pub key : c.key_file ≡ None → o.key.items ≡ []
  pub key_is_hex : o.key_is_hex ≡ c.key_is_hex
  pub context : option_map (λ text. text.items) o.context ≡ c.context
  pub input_is_key : o.input_is_key ≡ is_input c.key_file
  pub needs : o.needs ≡ chosen_needs c
  pub salt : o.salt.items ≡ c.salt
  pub persona : o.persona.items ≡ chosen_persona c
  pub folders : map (λ name. name.items) o.folders.items ≡ c.folders
  pub expected : option_map (λ digest. digest.bytes.items) o.expected ≡ c.expected
  pub checks : o.checks ≡ c.checks
  pub shape : o.shape ≡ chosen_shape c
  pub style : o.style ≡ chosen_style c
  pub ends_zero : o.ends_zero ≡ c.ends_zero
  pub ignores_missing : o.ignores_missing ≡ c.ignores_missing
  pub report : o.report ≡ c.report
  pub shows_digests : o.shows_digests ≡ c.shows_digests
  pub is_strict : o.is_strict ≡ (c.is_strict || is_some c.key_file)
  pub is_sealed : o.is_sealed ≡ (c.seals || c.is_sealed)
  pub threads : o.threads ≡ unwrap_or c.threads 0
  pub shows_progress : o.shows_progress ≡ c.shows_progress

-- A choice and files, if the choice is accepted.
abbrev pub choice_if_accepted : Result (Choice × List (List ℕ)) End
    → Result (Choice × List (List ℕ)) End
choice_if_accepted (Ok read) = if accepted read.0 read.1 then Ok read else Err Refused
choice_if_accepted (Err e) = Err e

-- What a command line means, if its choice is accepted.
abbrev pub parsed_command_line : List (List ℕ) → Result (Choice × List (List ℕ)) End
parsed_command_line words = choice_if_accepted (reading words)

-- The arguments are those of this command line.
pub record ArgumentsMatchWords (words : List (List ℕ)) (a : Arguments) : Type 0 where
  pub choice : Choice
  pub meaning : parsed_command_line words ≡ Ok (choice, map (λ name. name.items) a.files.items)
  pub options : OptionsMatchChoice choice a.options
  pub no_key : a.options.key.items ≡ []
  pub key_file : option_map (λ name. name.items) a.key_file ≡ choice.key_file
