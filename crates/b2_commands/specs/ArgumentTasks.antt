-- The tasks that the arguments of the command line name. The arguments are checked from left to
-- right, and the first error is returned.
use Rattle.std.specs.Prelude.{◌≡◌, ⊤, ℕ, ◌^◌, ◌==◌, ◌&&◌, nat_lt, Bool, true, false}
use Rattle.std.specs.Prelude.{if◌then◌else◌, List, [], ◌∷◌, codes, Option}
use Rattle.std.specs.Prelude.{Some, None, is_some, ok_or, position, Result, Ok, Err}
use Rattle.std.specs.List.{before_first, after_first}
use Rattle.std.specs.Result.{result_map_both}
use Rattle.std.specs.Str.{bytes_eq}
use Rattle.hex.specs.Hex.{decode_of}
use Rattle.blake2.specs.Family.{Family, blake2b, blake2s}
use Rattle.blake2_xof.specs.Xof.{unknown_length}
use Rattle.b2_commands.specs.DecimalNumbers.{number_value}
use Rattle.b2_commands.specs.declared.fault.Fault.{Fault}
use Rattle.b2_commands.specs.declared.fault.Fault.TheVariants.{WrongWords, WrongHex, NoMemory}

-- The result of the second step, if the first has a value, or the error of the first.
abbrev pub and_then : {A B : Type 0} → Result A Fault → (A → Result B Fault) → Result B Fault
and_then (Ok value) next = next value
and_then (Err fault) next = Err fault

-- An error in reading the arguments is the expected one, or memory was refused.
abbrev pub IsReadingFault : {A : Type 0} → Fault → Result A Fault → Type 0
IsReadingFault WrongWords expected = expected ≡ Err WrongWords
IsReadingFault WrongHex expected = expected ≡ Err WrongHex
IsReadingFault NoMemory expected = ⊤
IsReadingFault fault expected = ⊥

-- A hash function of a family, with the length of its digests in bytes.
pub record Kind : Type 0 where
  pub family : Family
  pub bytes : ℕ

-- The kind of BLAKE2b whose digests have n bytes.
abbrev pub blake2b_of : ℕ → Kind
blake2b_of n = record { family = blake2b; bytes = n }

-- The kind of BLAKE2s whose digests have n bytes.
abbrev pub blake2s_of : ℕ → Kind
blake2s_of n = record { family = blake2s; bytes = n }

-- The kind that an argument names.
abbrev pub kind_of : List ℕ → Result Kind Fault
kind_of word =
    if bytes_eq word (codes "b128") then Ok (blake2b_of 16)
    else if bytes_eq word (codes "b256") then Ok (blake2b_of 32)
    else if bytes_eq word (codes "b512") then Ok (blake2b_of 64)
    else if bytes_eq word (codes "s128") then Ok (blake2s_of 16)
    else if bytes_eq word (codes "s256") then Ok (blake2s_of 32)
    else Err WrongWords

-- Whether a family is BLAKE2b.
abbrev pub is_blake2b : Family → Bool
is_blake2b blake2b = true
is_blake2b blake2s = false

-- The bytes of HEX: an even number of hexadecimal digits of either case, possibly none.
abbrev pub hex_value : List ℕ → Result (List ℕ) Fault
hex_value digits = result_map_both (λ bytes. bytes) (λ _. WrongHex) (decode_of digits)

-- The bytes of TEXT, which is not empty.
abbrev pub nonempty_text_value : List ℕ → Result (List ℕ) Fault
nonempty_text_value text = if bytes_eq text [] then Err WrongWords else Ok text

-- The kind of digests that `witness` compares, as an argument names it.
abbrev pub witness_kind_of : List ℕ → Result Kind Fault
witness_kind_of word =
    if bytes_eq word (codes "b0") then Ok (blake2b_of 0)
    else if bytes_eq word (codes "b8") then Ok (blake2b_of 1)
    else if bytes_eq word (codes "s0") then Ok (blake2s_of 0)
    else if bytes_eq word (codes "s8") then Ok (blake2s_of 1)
    else kind_of word

-- The kind, if it is one of BLAKE2b. Only BLAKE2b has trees.
abbrev pub require_tree_kind : Kind → Result Kind Fault
require_tree_kind kind = if is_blake2b kind.family then Ok kind else Err WrongWords

-- The kind of root that `tree` or `root` prints, as an argument names it.
abbrev pub tree_kind_of : List ℕ → Result Kind Fault
tree_kind_of word = and_then (kind_of word) require_tree_kind

-- The number as the length of a leaf, if it is 1 to 2^32 - 1.
abbrev pub require_leaf_length : Option ℕ → Result ℕ Fault
require_leaf_length None = Err WrongWords
require_leaf_length (Some n) = if nat_lt 0 n && nat_lt n (2 ^ 32) then Ok n else Err WrongWords

-- The length of a leaf in bytes, as the argument LEAF names it: 1 to 2^32 - 1, in decimal digits
-- with no leading zero.
abbrev pub leaf_length_value : List ℕ → Result ℕ Fault
leaf_length_value digits = require_leaf_length (number_value 10 digits)

-- The index of a leaf, as the argument FIRST names it: at most 18 decimal digits with no leading
-- zero.
abbrev pub leaf_index_value : List ℕ → Result ℕ Fault
leaf_index_value digits = ok_or (number_value 18 digits) WrongWords

-- Whether a part ends its message, as an argument says.
abbrev pub ends_message_value : List ℕ → Result Bool Fault
ends_message_value word =
    if bytes_eq word (codes "last") then Ok true
    else if bytes_eq word (codes "more") then Ok false
    else Err WrongWords

-- The family that the KIND of `xof` names: that of BLAKE2Xb or BLAKE2Xs.
abbrev pub output_family_of : List ℕ → Result Family Fault
output_family_of word =
    if bytes_eq word (codes "xb") then Ok blake2b
    else if bytes_eq word (codes "xs") then Ok blake2s
    else Err WrongWords

-- The number as the length of an output in bytes, if it is one that BLAKE2X has.
abbrev pub require_output_length : Family → Option ℕ → Result ℕ Fault
require_output_length f None = Err WrongWords
require_output_length f (Some n) =
    if nat_lt 0 n && nat_lt n (unknown_length f) then Ok n else Err WrongWords

-- The length of an output in bytes, as the argument LENGTH names it: in decimal digits with no
-- leading zero.
abbrev pub output_length_value : Family → List ℕ → Result ℕ Fault
output_length_value f digits = require_output_length f (number_value 10 digits)

-- The bytes of HEX as a message: an even number of hexadecimal digits, at least two, or `-` for no
-- bytes.
abbrev pub message_value : List ℕ → Result (List ℕ) Fault
message_value word =
    if bytes_eq word (codes "-") then Ok []
    else if bytes_eq word [] then Err WrongHex
    else hex_value word

-- The bytes of `key=HEX`, `salt=HEX` and `persona=HEX`, if they are given.
pub record GivenOptions : Type 0 where
  pub key : Option (List ℕ)
  pub salt : Option (List ℕ)
  pub persona : Option (List ℕ)

-- No option is given.
abbrev pub nothing_given : GivenOptions
nothing_given = record { key = None; salt = None; persona = None }

-- The bytes of HEX, for an option that was not given before.
abbrev pub first_hex_value : Option (List ℕ) → List ℕ → Result (List ℕ) Fault
first_hex_value None digits = hex_value digits
first_hex_value (Some bytes) digits = Err WrongWords

-- The bytes of TEXT, for an option that was not given before.
abbrev pub first_text_value : Option (List ℕ) → List ℕ → Result (List ℕ) Fault
first_text_value None text = nonempty_text_value text
first_text_value (Some bytes) text = Err WrongWords

-- The options with one more argument NAME=HEX or NAME=TEXT, whose name is checked before the value
-- (61 is `=`). `key` is a name only if a key is accepted.
abbrev pub with_option : Bool → GivenOptions → List ℕ → Result GivenOptions Fault
with_option takes_key given word =
    let name = before_first (λ b. b == 61) word in
    let digits = after_first (λ b. b == 61) word in
    if is_some (position (λ b. b == 61) word) then (
    if takes_key && bytes_eq name (codes "key") then and_then (first_hex_value given.key digits)
    (λ bytes. Ok (record given { key = Some bytes }))
    else if bytes_eq name (codes "salt") then and_then (first_hex_value given.salt digits)
    (λ bytes. Ok (record given { salt = Some bytes }))
    else if bytes_eq name (codes "persona") then and_then (first_hex_value given.persona digits)
    (λ bytes. Ok (record given { persona = Some bytes }))
    else if bytes_eq name (codes "persona-text")
    then and_then (first_text_value given.persona digits)
    (λ bytes. Ok (record given { persona = Some bytes }))
    else Err WrongWords
    ) else Err WrongWords

-- The options with all of these arguments.
abbrev pub with_options : Bool → GivenOptions → List (List ℕ) → Result GivenOptions Fault
with_options takes_key given [] = Ok given
with_options takes_key given (word ∷ words) =
    and_then (with_option takes_key given word) (λ more. with_options takes_key more words)

-- The task that a command line names.
pub data Task : Type 0 where
  -- `sum KIND [key=HEX] [salt=HEX] [persona=HEX]`
  to_sum : Kind → GivenOptions → Task
  -- `script KIND [key=HEX] [salt=HEX] [persona=HEX]`
  to_script : Kind → GivenOptions → Task
  -- `steps KIND [key=HEX] [salt=HEX] [persona=HEX]`
  to_steps : Kind → GivenOptions → Task
  -- `witness KIND HEX HEX`
  to_witness : Kind → List ℕ → List ℕ → Task
  -- `tree KIND LEAF [salt=HEX] [persona=HEX]`
  to_tree : Kind → ℕ → GivenOptions → Task
  -- `leaves LEAF FIRST more [salt=HEX] [persona=HEX]`, or with `last`
  to_leaves : ℕ → ℕ → Bool → GivenOptions → Task
  -- `root KIND LEAF [salt=HEX] [persona=HEX]`
  to_root : Kind → ℕ → GivenOptions → Task
  -- `xof KIND LENGTH [raw] [key=HEX] [salt=HEX] [persona=HEX]`, and whether it has `raw`
  to_xof : Family → ℕ → Bool → GivenOptions → Task
  -- `derive LENGTH CONTEXT [raw]`, and whether it has `raw`
  to_derive : ℕ → List ℕ → Bool → Task
  -- `--help`, `-h` or `help`
  to_help : Task
  -- `--version`
  to_version : Task

-- The task of the arguments after a command's name: KIND and the options.
abbrev pub kind_and_options_task : (Kind → GivenOptions → Task) → List (List ℕ) → Result Task Fault
kind_and_options_task to [] = Err WrongWords
kind_and_options_task to (kind ∷ words) =
    and_then (kind_of kind)
    (λ k. and_then (with_options true nothing_given words) (λ given. Ok (to k given)))

-- The task of the arguments after KIND and both messages of `witness`. No argument is allowed
-- there.
abbrev pub witness_messages_task : Kind → List ℕ → List ℕ → List (List ℕ) → Result Task Fault
witness_messages_task kind a b [] = Ok (to_witness kind a b)
witness_messages_task kind a b (word ∷ words) = Err WrongWords

-- The task of the arguments after KIND and the first message of `witness`.
abbrev pub witness_second_message_task : Kind → List ℕ → List (List ℕ) → Result Task Fault
witness_second_message_task kind a [] = Err WrongWords
witness_second_message_task kind a (word ∷ words) =
    and_then (message_value word) (λ b. witness_messages_task kind a b words)

-- The task of the arguments after KIND of `witness`.
abbrev pub witness_first_message_task : Kind → List (List ℕ) → Result Task Fault
witness_first_message_task kind [] = Err WrongWords
witness_first_message_task kind (word ∷ words) =
    and_then (message_value word) (λ a. witness_second_message_task kind a words)

-- The task of the arguments after `witness`.
abbrev pub witness_task : List (List ℕ) → Result Task Fault
witness_task [] = Err WrongWords
witness_task (word ∷ words) =
    and_then (witness_kind_of word) (λ kind. witness_first_message_task kind words)

-- The task of the arguments after KIND of `tree` or `root`.
abbrev pub tree_leaf_task : (Kind → ℕ → GivenOptions → Task) → Kind → List (List ℕ)
    → Result Task Fault
tree_leaf_task to kind [] = Err WrongWords
tree_leaf_task to kind (leaf ∷ words) =
    and_then (leaf_length_value leaf)
    (λ n. and_then (with_options false nothing_given words) (λ given. Ok (to kind n given)))

-- The task of the arguments after `tree` or `root`.
abbrev pub tree_task : (Kind → ℕ → GivenOptions → Task) → List (List ℕ) → Result Task Fault
tree_task to [] = Err WrongWords
tree_task to (word ∷ words) = and_then (tree_kind_of word) (λ kind. tree_leaf_task to kind words)

-- The task of the arguments after FIRST of `leaves`.
abbrev pub leaves_end_task : ℕ → ℕ → List (List ℕ) → Result Task Fault
leaves_end_task n first [] = Err WrongWords
leaves_end_task n first (word ∷ words) =
    and_then (ends_message_value word)
    (λ ends. and_then (with_options false nothing_given words)
    (λ given. Ok (to_leaves n first ends given)))

-- The task of the arguments after LEAF of `leaves`.
abbrev pub leaves_index_task : ℕ → List (List ℕ) → Result Task Fault
leaves_index_task n [] = Err WrongWords
leaves_index_task n (word ∷ words) =
    and_then (leaf_index_value word) (λ first. leaves_end_task n first words)

-- The task of the arguments after `leaves`.
abbrev pub leaves_task : List (List ℕ) → Result Task Fault
leaves_task [] = Err WrongWords
leaves_task (word ∷ words) = and_then (leaf_length_value word) (λ n. leaves_index_task n words)

-- Whether the first of the arguments is `raw`, for an output that is printed as its bytes.
abbrev pub begins_raw : List (List ℕ) → Bool
begins_raw [] = false
begins_raw (word ∷ words) = bytes_eq word (codes "raw")

-- The arguments after `raw`, or all if the first is not `raw`.
abbrev pub words_after_raw : List (List ℕ) → List (List ℕ)
words_after_raw [] = []
words_after_raw (word ∷ words) = if bytes_eq word (codes "raw") then words else word ∷ words

-- The task of the arguments after KIND of `xof`.
abbrev pub xof_family_task : Family → List (List ℕ) → Result Task Fault
xof_family_task f [] = Err WrongWords
xof_family_task f (word ∷ words) =
    and_then (output_length_value f word)
    (λ n. and_then (with_options true nothing_given (words_after_raw words))
    (λ given. Ok (to_xof f n (begins_raw words) given)))

-- The task of the arguments after `xof`.
abbrev pub xof_task : List (List ℕ) → Result Task Fault
xof_task [] = Err WrongWords
xof_task (word ∷ words) = and_then (output_family_of word) (λ f. xof_family_task f words)

-- The task of arguments that no other follows.
abbrev pub task_if_no_more_words : Task → List (List ℕ) → Result Task Fault
task_if_no_more_words task [] = Ok task
task_if_no_more_words task (word ∷ words) = Err WrongWords

-- The task of the arguments after LENGTH of `derive`: the context, and possibly `raw`.
abbrev pub derive_context_task : ℕ → List (List ℕ) → Result Task Fault
derive_context_task n [] = Err WrongWords
derive_context_task n (context ∷ words) =
    task_if_no_more_words (to_derive n context (begins_raw words)) (words_after_raw words)

-- The task of the arguments after `derive`.
abbrev pub derive_task : List (List ℕ) → Result Task Fault
derive_task [] = Err WrongWords
derive_task (word ∷ words) =
    and_then (output_length_value blake2b word) (λ n. derive_context_task n words)

-- The task of a command line.
abbrev pub task_of : List (List ℕ) → Result Task Fault
task_of [] = Err WrongWords
task_of (command ∷ words) =
    if bytes_eq command (codes "sum") then kind_and_options_task to_sum words
    else if bytes_eq command (codes "script") then kind_and_options_task to_script words
    else if bytes_eq command (codes "steps") then kind_and_options_task to_steps words
    else if bytes_eq command (codes "witness") then witness_task words
    else if bytes_eq command (codes "tree") then tree_task to_tree words
    else if bytes_eq command (codes "leaves") then leaves_task words
    else if bytes_eq command (codes "root") then tree_task to_root words
    else if bytes_eq command (codes "xof") then xof_task words
    else if bytes_eq command (codes "derive") then derive_task words
    else if bytes_eq command (codes "--help") then task_if_no_more_words to_help words
    else if bytes_eq command (codes "-h") then task_if_no_more_words to_help words
    else if bytes_eq command (codes "help") then task_if_no_more_words to_help words
    else if bytes_eq command (codes "--version") then task_if_no_more_words to_version words
    else Err WrongWords
