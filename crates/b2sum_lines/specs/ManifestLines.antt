-- The lines of a manifest: what is written for an entry, and which lines are read as one. Codes: 9
-- is a tab, 10 a newline, 13 a carriage return, 32 a space, 40 and 41 the parentheses, 42 `*`, 61
-- `=`, 92 a backslash, 110 `n` and 114 `r`.
use Rattle.std.specs.Prelude.{◌≡◌, ℕ, ◌-◌, ◌*◌, ◌≤◌, ◌<◌, ◌==◌, ◌&&◌, ◌||◌, Bool, true, false}
use Rattle.std.specs.Prelude.{nat_lt, nat_le, if◌then◌else◌, List, [], ◌∷◌, ◌++◌, length, take}
use Rattle.std.specs.Prelude.{drop, codes, decimal, get_or, Option, Some, None, Result, Ok, Err}
use Rattle.std.specs.Prelude.{not, ◌^◌, ⊤}
use Rattle.std.specs.Char.{is_ascii_digit}
use Rattle.std.specs.List.{list_all, list_any, flat_map}
use Rattle.std.specs.Option.{option_and_then, option_map}
use Rattle.std.specs.Str.{bytes_eq}
use Rattle.std.specs.Str.Parse.{digits_value}
use Rattle.hex.specs.Hex.{encode_lower, decode_of, is_hex_digit, IsBytes}
use Rattle.hex.specs.declared.error.FromHexError.{FromHexError}
use Rattle.b2sum_lines.specs.declared.entry.Algorithm.{Algorithm}
use Rattle.b2sum_lines.specs.declared.entry.Algorithm.TheVariants.{Blake2b, Blake2s, Blake2bp}
use Rattle.b2sum_lines.specs.declared.entry.Algorithm.TheVariants.{Blake2sp, Tree}
use Rattle.b2sum_lines.specs.declared.entry.Needs.{Needs}
use Rattle.b2sum_lines.specs.declared.entry.Style.{Style}
use Rattle.b2sum_lines.specs.declared.entry.Style.TheVariants.{Tagged, Text, Binary, Bare}
use Rattle.b2sum_lines.specs.declared.entry.Spacing.{Spacing}
use Rattle.b2sum_lines.specs.declared.entry.Spacing.TheVariants.{Open, Two, One}

-- An entry of a manifest: the digest of the file of this name.
pub record Line : Type 0 where
  pub algorithm : Algorithm
  pub digest : List ℕ
  pub name : List ℕ
  pub style : Style

-- The longest digest, in bytes.
abbrev pub max_bytes : Algorithm → ℕ
max_bytes Blake2b = 64
max_bytes Blake2s = 32
max_bytes Blake2bp = 64
max_bytes Blake2sp = 32
max_bytes (Tree leaf) = 64

-- A digest is the root of a tree.
abbrev pub is_tree : Algorithm → Bool
is_tree Blake2b = false
is_tree Blake2s = false
is_tree Blake2bp = false
is_tree Blake2sp = false
is_tree (Tree leaf) = true

-- The name of the algorithm in a tagged line.
abbrev pub tag : Algorithm → List ℕ
tag Blake2b = codes "BLAKE2b"
tag Blake2s = codes "BLAKE2s"
tag Blake2bp = codes "BLAKE2bp"
tag Blake2sp = codes "BLAKE2sp"
tag (Tree leaf) = codes "BLAKE2b-tree-" ++ decimal leaf

-- A part of a tag, if it is there.
abbrev pub part_if : Bool → List ℕ → List ℕ
part_if true part = part
part_if false part = []

-- What a tag says of a key, a salt and a personalization, after the name of the algorithm.
abbrev pub needs_text : Needs → List ℕ
needs_text needs =
    part_if needs.key (codes "-key")
    ++ (part_if needs.salt (codes "-salt") ++ part_if needs.personal (codes "-personal"))

-- The bytes that a name is escaped for: a backslash, a newline, a carriage return.
abbrev pub is_special : ℕ → Bool
is_special b = (b == 92) || ((b == 10) || (b == 13))

-- A byte of an escaped name.
abbrev pub escape : ℕ → List ℕ
escape b =
    if b == 92 then 92 ∷ 92 ∷ []
    else if b == 10 then 92 ∷ 110 ∷ []
    else if b == 13 then 92 ∷ 114 ∷ []
    else b ∷ []

-- An escaped name.
abbrev pub escaped : List ℕ → List ℕ
escaped name = flat_map escape name

-- Whether a name is written escaped.
abbrev pub needs_escape : List ℕ → Bool
needs_escape name = list_any is_special name

-- The backslash at the front of the line of an escaped name.
abbrev pub escape_mark : List ℕ → List ℕ
escape_mark name = if needs_escape name then 92 ∷ [] else []

-- A name as a line has it.
abbrev pub name_in_line : List ℕ → List ℕ
name_in_line name = if needs_escape name then escaped name else name

-- The length of the digest in a tag, in bits, left out for the longest digest.
abbrev pub tag_length_text : Algorithm → ℕ → List ℕ
tag_length_text a n = if n == max_bytes a then [] else 45 ∷ decimal (8 * n)

-- The line of a name's text and a digest in one style, without a mark and a newline.
abbrev pub line_after_mark : Style → Algorithm → List ℕ → List ℕ → List ℕ
line_after_mark (Tagged needs) a digest text =
    tag a ++ (needs_text needs ++ (tag_length_text a (length digest)
    ++ (codes " (" ++ (text ++ (codes ") = " ++ encode_lower digest)))))
line_after_mark Text a digest text = encode_lower digest ++ (32 ∷ 32 ∷ text)
line_after_mark Binary a digest text = encode_lower digest ++ (32 ∷ 42 ∷ text)
line_after_mark Bare a digest text = encode_lower digest ++ (32 ∷ text)

-- The line of an entry, without its newline.
abbrev pub entry_line : Line → List ℕ
entry_line e = escape_mark e.name
    ++ line_after_mark e.style e.algorithm e.digest (name_in_line e.name)

-- The line of an entry whose name is written as it is, for lines that end with a zero byte.
abbrev pub unescaped_line : Line → List ℕ
unescaped_line e = line_after_mark e.style e.algorithm e.digest e.name

-- A space or a tab.
abbrev pub is_blank : ℕ → Bool
is_blank b = (b == 32) || (b == 9)

-- What follows the bytes that pass the test.
abbrev pub drop_while : (ℕ → Bool) → List ℕ → List ℕ
drop_while p [] = []
drop_while p (b ∷ rest) = if p b then drop_while p rest else b ∷ rest

-- The bytes at the front that pass the test.
abbrev pub take_while : (ℕ → Bool) → List ℕ → List ℕ
take_while p text = take (length text - length (drop_while p text)) text

-- Puts a byte before the first part.
abbrev pub prepend_to_first : ℕ → List ℕ × List ℕ → List ℕ × List ℕ
prepend_to_first b parts = (b ∷ parts.0, parts.1)

-- The parts around a byte, if the first part has been cut from what follows it.
abbrev pub split_here_or_later : ℕ → ℕ → List ℕ → Option (List ℕ × List ℕ)
    → Option (List ℕ × List ℕ)
split_here_or_later byte b rest (Some parts) = Some (prepend_to_first b parts)
split_here_or_later byte b rest None = if b == byte then Some ([], rest) else None

-- What is before the last such byte, and what is after it.
abbrev pub split_at_last : ℕ → List ℕ → Option (List ℕ × List ℕ)
split_at_last byte [] = None
split_at_last byte (b ∷ rest) = split_here_or_later byte b rest (split_at_last byte rest)

-- The byte that a backslash and this byte stand for.
abbrev pub escape_value : ℕ → Option ℕ
escape_value b =
    if b == 92 then Some 92
    else if b == 110 then Some 10
    else if b == 114 then Some 13
    else None

-- The name that the rest of an escaped name completes. A backslash before it may be open.
abbrev pub unescape_onto : List ℕ → Bool → List ℕ → Option (List ℕ)
unescape_onto name false [] = Some name
unescape_onto name true [] = None
unescape_onto name false (b ∷ rest) =
    if b == 92 then unescape_onto name true rest else unescape_onto (name ++ (b ∷ [])) false rest
unescape_onto name true (b ∷ rest) =
    option_and_then (λ x. unescape_onto (name ++ (x ∷ [])) false rest) (escape_value b)

-- The name that an escaped name stands for.
abbrev pub unescaped : List ℕ → Option (List ℕ)
unescaped text = unescape_onto [] false text

-- Whether there is a zero byte, which no name has.
abbrev pub has_zero : List ℕ → Bool
has_zero name = list_any (λ b. b == 0) name

-- A name without a zero byte.
abbrev pub name_without_zero : List ℕ → Option (List ℕ)
name_without_zero name = if has_zero name then None else Some name

-- The name that a text stands for.
abbrev pub name_of_text : Bool → List ℕ → Option (List ℕ)
name_of_text true text = option_and_then name_without_zero (unescaped text)
name_of_text false text = name_without_zero text

-- A digest of a length that the algorithm has.
abbrev pub digest_if_length_fits : Algorithm → Result (List ℕ) FromHexError → Option (List ℕ)
digest_if_length_fits a (Ok bytes) =
    if nat_lt 0 (length bytes) && nat_le (length bytes) (max_bytes a) then Some bytes else None
digest_if_length_fits a (Err e) = None

-- The digest of hexadecimal digits of either case.
abbrev pub digest_of_digits : Algorithm → List ℕ → Option (List ℕ)
digest_of_digits a digits = digest_if_length_fits a (decode_of digits)

-- The style and the text of a name.
pub record Named : Type 0 where
  pub style : Style
  pub text : List ℕ

-- A name with one space before it, unless the manifest has two.
abbrev pub name_after_one_space : Spacing → List ℕ → Option Named
name_after_one_space Two text = None
name_after_one_space Open text = Some (record { style = Bare; text = text })
name_after_one_space One text = Some (record { style = Bare; text = text })

-- The style of a mark, the second byte after the digits.
abbrev pub mark_style : ℕ → Style
mark_style m = if m == 42 then Binary else Text

-- A name with a mark before it, unless the manifest has one space.
abbrev pub name_after_mark : Spacing → ℕ → List ℕ → Option Named
name_after_mark One m text = Some (record { style = Bare; text = m ∷ text })
name_after_mark Open m text = Some (record { style = mark_style m; text = text })
name_after_mark Two m text = Some (record { style = mark_style m; text = text })

-- The name after the blank that follows the digits.
abbrev pub name_after_blank : Spacing → List ℕ → Option Named
name_after_blank spacing [] = name_after_one_space spacing []
name_after_blank spacing (m ∷ []) = name_after_one_space spacing (m ∷ [])
name_after_blank spacing (m ∷ c ∷ rest) =
    if (m == 32) || (m == 42) then name_after_mark spacing m (c ∷ rest)
    else name_after_one_space spacing (m ∷ c ∷ rest)

-- The name after the digits.
abbrev pub name_after_digits : Spacing → List ℕ → Option Named
name_after_digits spacing [] = None
name_after_digits spacing (b ∷ rest) = if is_blank b then name_after_blank spacing rest else None

-- An entry of parts that are all there.
abbrev pub entry_with : Algorithm → Bool → List ℕ → Named → Option Line
entry_with a is_escaped digest named =
    option_map (λ name. record { algorithm = a; digest = digest; name = name; style = named.style })
    (name_of_text is_escaped named.text)

-- The entry of a line with the digits first.
abbrev pub untagged_entry : Algorithm → Spacing → Bool → List ℕ → Option Line
untagged_entry a spacing is_escaped line =
    option_and_then (λ digest. option_and_then (entry_with a is_escaped digest)
    (name_after_digits spacing (drop_while is_hex_digit line)))
    (digest_of_digits a (take_while is_hex_digit line))

-- What follows these bytes at the front of a text.
abbrev pub after_prefix : List ℕ → List ℕ → Option (List ℕ)
after_prefix bytes text =
    if bytes_eq (take (length bytes) text) bytes then Some (drop (length bytes) text) else None

-- Decimal digits write the number of bytes of a leaf: 1 to 2^32 - 1, with no leading zero. 48 is
-- the digit 0.
abbrev pub is_leaf_length : List ℕ → Bool
is_leaf_length digits =
    nat_le (length digits) 10 && (not (get_or digits 0 48 == 48)
    && (list_all is_ascii_digit digits && nat_lt (digits_value 10 digits) (2 ^ 32)))

-- The number of bytes of a leaf that decimal digits write.
abbrev pub leaf_length_of_digits : List ℕ → Option ℕ
leaf_length_of_digits digits = if is_leaf_length digits then Some (digits_value 10 digits) else None

-- A tree with leaves of so many bytes as the digits at the front of a text say, and the rest of
-- that.
abbrev pub tree_at_front : List ℕ → Option (Algorithm × List ℕ)
tree_at_front text =
    option_map (λ leaf. (Tree leaf, drop_while is_ascii_digit text))
    (leaf_length_of_digits (take_while is_ascii_digit text))

-- The algorithm whose name goes on so after `BLAKE2b`, and what follows its name. What follows
-- `-tree-` is given, if that is there.
abbrev pub blake2b_or_tree : List ℕ → Option (List ℕ) → Option (Algorithm × List ℕ)
blake2b_or_tree text (Some rest) = tree_at_front rest
blake2b_or_tree text None = Some (Blake2b, text)

-- The same, if what follows a `p` is given, if that is there.
abbrev pub algorithm_after_blake2b : List ℕ → Option (List ℕ) → Option (Algorithm × List ℕ)
algorithm_after_blake2b text (Some rest) = Some (Blake2bp, rest)
algorithm_after_blake2b text None = blake2b_or_tree text (after_prefix (codes "-tree-") text)

-- The algorithm whose name goes on so after `BLAKE2s`, and what follows its name.
abbrev pub algorithm_after_blake2s : List ℕ → Option (List ℕ) → Algorithm × List ℕ
algorithm_after_blake2s text (Some rest) = (Blake2sp, rest)
algorithm_after_blake2s text None = (Blake2s, text)

-- The algorithm of a line, if what follows `BLAKE2b` is given, if that is at its front.
abbrev pub algorithm_after_front : List ℕ → Option (List ℕ) → Option (Algorithm × List ℕ)
algorithm_after_front line (Some rest) = algorithm_after_blake2b rest
    (after_prefix (codes "p") rest)
algorithm_after_front line None =
    option_map (λ rest. algorithm_after_blake2s rest (after_prefix (codes "p") rest))
    (after_prefix (codes "BLAKE2s") line)

-- The algorithm that the tag at the front of a line names, and what follows its name.
abbrev pub algorithm_at_front : List ℕ → Option (Algorithm × List ℕ)
algorithm_at_front line = algorithm_after_front line (after_prefix (codes "BLAKE2b") line)

-- Whether a part is at the front of a text, and what follows it, which is given if it is there.
abbrev pub tag_part_or_text : List ℕ → Option (List ℕ) → Bool × List ℕ
tag_part_or_text text (Some rest) = (true, rest)
tag_part_or_text text None = (false, text)

-- Whether a part is at the front of a text, and what follows it.
abbrev pub tag_part_at_front : List ℕ → List ℕ → Bool × List ℕ
tag_part_at_front part text = tag_part_or_text text (after_prefix part text)

-- What a tag needs, by its parts, and what follows the last of them.
abbrev pub needs_after_personal : Bool → Bool → Bool × List ℕ → Needs × List ℕ
needs_after_personal key salt personal =
    (record { key = key; salt = salt; personal = personal.0 }, personal.1)

-- What a tag needs, by its parts up to that of the salt and what follows that.
abbrev pub needs_after_salt : Bool → Bool × List ℕ → Needs × List ℕ
needs_after_salt key salt = needs_after_personal key salt.0
    (tag_part_at_front (codes "-personal") salt.1)

-- What a tag needs, by the part of the key and what follows that.
abbrev pub needs_after_key : Bool × List ℕ → Needs × List ℕ
needs_after_key key = needs_after_salt key.0 (tag_part_at_front (codes "-salt") key.1)

-- What a tag says of a key, a salt and a personalization after the name of the algorithm, and what
-- follows that.
abbrev pub needs_at_front : List ℕ → Needs × List ℕ
needs_at_front text = needs_after_key (tag_part_at_front (codes "-key") text)

-- What follows the length of the digest, which may be left out for the longest digest.
abbrev pub text_after_digest_length : Bool → List ℕ → Option (List ℕ) → Option (List ℕ)
text_after_digest_length is_longest text (Some rest) = Some rest
text_after_digest_length is_longest text None = if is_longest then Some text else None

-- What follows an opening parenthesis.
abbrev pub after_parenthesis : List ℕ → Option (List ℕ)
after_parenthesis [] = None
after_parenthesis (b ∷ rest) = if b == 40 then Some rest else None

-- What follows an opening parenthesis, with one space before it or none.
abbrev pub text_after_opening : List ℕ → Option (List ℕ)
text_after_opening [] = None
text_after_opening (b ∷ rest) = if b == 32 then after_parenthesis rest else after_parenthesis
    (b ∷ rest)

-- The text of the name, in what follows the tag up to the last parenthesis.
abbrev pub name_after_tag : Algorithm → ℕ → List ℕ → Option (List ℕ)
name_after_tag a n text =
    option_and_then text_after_opening
    (text_after_digest_length (n == max_bytes a) text (after_prefix (45 ∷ decimal (8 * n)) text))

-- The digits after the last parenthesis: blanks, `=`, blanks, digits.
abbrev pub digits_after_equals : List ℕ → Option (List ℕ)
digits_after_equals [] = None
digits_after_equals (b ∷ rest) = if b == 61 then Some (drop_while is_blank rest) else None

-- The entry of what follows such a tag, cut at the last parenthesis.
abbrev pub tagged_entry_of_parts : Algorithm → Needs → Bool → List ℕ × List ℕ → Option Line
tagged_entry_of_parts a needs is_escaped parts =
    option_and_then (λ digits. option_and_then (λ digest. option_and_then
    (λ text. entry_with a is_escaped digest (record { style = Tagged needs; text = text }))
    (name_after_tag a (length digest) parts.0)) (digest_of_digits a digits))
    (digits_after_equals (drop_while is_blank parts.1))

-- The entry of an algorithm with what its tag needs, and what follows that.
abbrev pub tagged_entry : Algorithm → Bool → Needs × List ℕ → Option Line
tagged_entry a is_escaped tag =
    option_and_then (tagged_entry_of_parts a tag.0 is_escaped) (split_at_last 41 tag.1)

-- The entry of a line without its mark: a tagged line, if there is a tag, whose algorithm is that
-- of the tag. A tree has no other lines.
abbrev pub entry_after_mark : Algorithm → Spacing → Bool → List ℕ → Option (Algorithm × List ℕ)
    → Option Line
entry_after_mark a spacing is_escaped line (Some t) = tagged_entry t.0 is_escaped
    (needs_at_front t.1)
entry_after_mark a spacing is_escaped line None =
    if is_tree a then None else untagged_entry a spacing is_escaped line

-- The entry of a line without blanks at its front.
abbrev pub entry_without_blanks : Algorithm → Spacing → List ℕ → Option Line
entry_without_blanks a spacing [] = None
entry_without_blanks a spacing (b ∷ rest) =
    if b == 92 then entry_after_mark a spacing true rest (algorithm_at_front rest)
    else entry_after_mark a spacing false (b ∷ rest) (algorithm_at_front (b ∷ rest))

-- The entry that a line is read as, if it is one: that of its tag, or else one of the algorithm.
-- The line has no newline.
abbrev pub line_entry : Algorithm → Spacing → List ℕ → Option Line
line_entry a spacing line = entry_without_blanks a spacing (drop_while is_blank line)

-- The line of this style is tagged.
abbrev pub is_tagged : Style → Bool
is_tagged (Tagged needs) = true
is_tagged Text = false
is_tagged Binary = false
is_tagged Bare = false

-- The leaves of a tree have a length that trees have.
abbrev pub HasValidLeafLength : Algorithm → Type 0
HasValidLeafLength Blake2b = ⊤
HasValidLeafLength Blake2s = ⊤
HasValidLeafLength Blake2bp = ⊤
HasValidLeafLength Blake2sp = ⊤
HasValidLeafLength (Tree leaf) = (0 < leaf) × (leaf < 2 ^ 32)

-- The entries whose lines can be read: a digest of the algorithm's bytes, a name of a file, and a
-- tag for the root of a tree.
pub record IsWritable (e : Line) : Type 0 where
  pub are_bytes : IsBytes e.digest
  pub some_digest : 0 < length e.digest
  pub fits : length e.digest ≤ max_bytes e.algorithm
  pub some_name : 0 < length e.name
  pub no_zero : has_zero e.name ≡ false
  pub tagged : is_tree e.algorithm ≡ true → is_tagged e.style ≡ true
  pub has_leaf : HasValidLeafLength e.algorithm

-- The line is read as this entry, whatever the lines before had, unless they had one space.
abbrev pub IsReadBack : Line → List ℕ → Type 0
IsReadBack e line =
    IsWritable e → (e.style ≡ Bare → ⊥) → (s : Spacing) → (s ≡ One → ⊥)
    → line_entry e.algorithm s line ≡ Some e

-- A tagged line is read as this entry whatever the algorithm of lines without a tag is.
abbrev pub IsReadByTag : Line → List ℕ → Type 0
IsReadByTag e line =
    IsWritable e → is_tagged e.style ≡ true → (a : Algorithm) (s : Spacing)
    → line_entry a s line ≡ Some e
