-- A line that was written is read as its entry.
use Rattle.std.proofs.Common.{◌≡◌, ℕ, ◌-◌, ◌*◌, ◌/◌, ◌<◌, ◌≤◌, ◌==◌, Bool, true, false, not, List}
use Rattle.std.proofs.Common.{[], ◌∷◌}
use Rattle.std.proofs.Common.{◌++◌, ◌&&◌, ◌||◌, length, Option, Some, None, refl, sym, ap, ◌∙◌}
use Rattle.std.proofs.Common.{append_assoc, length-append, arith, rules, eqb-true, codes, decimal}
use Rattle.std.proofs.Common.{nat_lt, nat_le, ◌^◌, get_or}
use Rattle.std.proofs.lemmas.Fmt.{decimal_is_IsNumeral, first_decimal}
use Rattle.std.proofs.lemmas.Fmt.{length-decimal-le}
use Rattle.std.proofs.lemmas.Bool.Decides.{nat_tests}
use Rattle.std.proofs.lemmas.Str.Parse.{digit_from_value}
use Rattle.std.specs.Char.{is_ascii_digit}
use Rattle.std.specs.Str.Parse.{AllDigits}
use Rattle.std.proofs.lemmas.Slice.Eq.{bytes_eq-Decides}
use Rattle.std.proofs.lemmas.Bool.{and_parts, lt-ltb, le-leb}
use Rattle.std.proofs.lemmas.List.{take_at, drop_at}
use Rattle.std.proofs.lemmas.Grind.{common_steps}
use Rattle.std.specs.List.{list_all}
use Rattle.std.specs.Option.{option_and_then, option_map}
use Rattle.std.specs.Prelude.{slice_index}
use Rattle.std.specs.Str.{bytes_eq}
use Rattle.hex.specs.Hex.{encode_lower, encode_with, is_hex_digit, lower_digits, IsBytes}
use Rattle.hex.proofs.HexLemmas.{decode_of-encode_lower}
use Rattle.b2sum_lines.specs.declared.entry.Algorithm.{Algorithm}
use Rattle.b2sum_lines.specs.declared.entry.Algorithm.TheVariants.{Blake2b, Blake2s, Blake2bp}
use Rattle.b2sum_lines.specs.declared.entry.Algorithm.TheVariants.{Blake2sp, Tree}
use Rattle.b2sum_lines.specs.declared.entry.Needs.{Needs}
use Rattle.b2sum_lines.specs.declared.entry.Style.{Style}
use Rattle.b2sum_lines.specs.declared.entry.Style.TheVariants.{Tagged, Text, Binary, Bare}
use Rattle.b2sum_lines.specs.declared.entry.Spacing.{Spacing}
use Rattle.b2sum_lines.specs.declared.entry.Spacing.TheVariants.{Open, Two, One}
use Rattle.b2sum_lines.specs.ManifestLines.{Line, max_bytes, tag, is_tree, escape, escaped}
use Rattle.b2sum_lines.specs.ManifestLines.{needs_escape}
use Rattle.b2sum_lines.specs.ManifestLines.{tag_length_text, line_after_mark, entry_line, is_blank}
use Rattle.b2sum_lines.specs.ManifestLines.{HasValidLeafLength}
use Rattle.b2sum_lines.specs.ManifestLines.{is_tagged}
use Rattle.b2sum_lines.specs.ManifestLines.{needs_text, needs_at_front, leaf_length_of_digits}
use Rattle.b2sum_lines.specs.ManifestLines.{algorithm_at_front, algorithm_after_front}
use Rattle.b2sum_lines.specs.ManifestLines.{algorithm_after_blake2s, part_if, tag_part_or_text}
use Rattle.b2sum_lines.specs.ManifestLines.{tag_part_at_front, needs_after_key}
use Rattle.b2sum_lines.specs.ManifestLines.{needs_after_salt}
use Rattle.b2sum_lines.specs.ManifestLines.{needs_after_personal}
use Rattle.b2sum_lines.specs.ManifestLines.{drop_while, take_while, split_at_last, unescape_onto}
use Rattle.b2sum_lines.specs.ManifestLines.{has_zero}
use Rattle.b2sum_lines.specs.ManifestLines.{name_of_text, digest_of_digits, digest_if_length_fits}
use Rattle.b2sum_lines.specs.ManifestLines.{name_after_mark}
use Rattle.b2sum_lines.specs.ManifestLines.{mark_style, entry_with, untagged_entry, after_prefix}
use Rattle.b2sum_lines.specs.ManifestLines.{text_after_digest_length, text_after_opening}
use Rattle.b2sum_lines.specs.ManifestLines.{name_after_tag}
use Rattle.b2sum_lines.specs.ManifestLines.{tagged_entry_of_parts}
use Rattle.b2sum_lines.specs.ManifestLines.{tagged_entry, entry_after_mark, line_entry, IsWritable}
use Rattle.b2sum_lines.proofs.HexDigits.{lower_digit-passes, encoded_digits-pass}
use Rattle.b2sum_lines.proofs.TextLoops.{split_at_last-of_append}

-- A digit that is written: no blank, mark, beginning of a tag or parenthesis.
abbrev is_plain_digit : ℕ → Bool
is_plain_digit b = is_hex_digit b && not (is_blank b || ((b == 92) || ((b == 66) || (b == 41))))

lower_digit-is_plain : (k : ℕ) → k < 16 → is_plain_digit (slice_index lower_digits k) ≡ true
lower_digit-is_plain k below = lower_digit-passes is_plain_digit refl k below

encoded_digits-are_plain : (bytes : List ℕ) → IsBytes bytes
    → list_all is_plain_digit (encode_lower bytes) ≡ true
encoded_digits-are_plain bytes are = encoded_digits-pass is_plain_digit refl bytes are

-- What a good digit is not.
plain_digit-is_hex : (b : ℕ) → is_plain_digit b ≡ true → is_hex_digit b ≡ true
plain_digit-is_hex b h = (and_parts (is_hex_digit b) _ h).0

-- The tests that a good digit fails.
record IsNoSpecialByte (b : ℕ) : Type 0 where
  blank : is_blank b ≡ false
  mark : (b == 92) ≡ false
  tagged : (b == 66) ≡ false
  parenthesis : (b == 41) ≡ false

all_false-if_none_true : (p q r s : Bool) → not (p || (q || (r || s))) ≡ true
    → (p ≡ false) × (q ≡ false) × (r ≡ false) × (s ≡ false)
all_false-if_none_true false false false false h = (refl, refl, refl, refl)
all_false-if_none_true true q r s h = absurd (search (h, rules))
all_false-if_none_true false true r s h = absurd (search (h, rules))
all_false-if_none_true false false true s h = absurd (search (h, rules))
all_false-if_none_true false false false true h = absurd (search (h, rules))

plain_digit-is_no_special_byte : (b : ℕ) → is_plain_digit b ≡ true → IsNoSpecialByte b
plain_digit-is_no_special_byte b h =
    let parts = all_false-if_none_true (is_blank b) (b == 92) (b == 66) (b == 41)
    (and_parts (is_hex_digit b) _ h).1 in
    record { blank = parts.0; mark = parts.1; tagged = parts.2; parenthesis = parts.3 }

drop_while-skips_plain_digits : (xs ys : List ℕ) → list_all is_plain_digit xs ≡ true
    → drop_while is_hex_digit (xs ++ ys) ≡ drop_while is_hex_digit ys
drop_while-skips_plain_digits [] ys h = refl
drop_while-skips_plain_digits (b ∷ xs) ys h =
    let parts = and_parts (is_plain_digit b) (list_all is_plain_digit xs) h in
    rw (plain_digit-is_hex b parts.0) (drop_while-skips_plain_digits xs ys parts.1)

-- Unescaping goes back.
unescape_onto-escaped : (name out : List ℕ) → unescape_onto out false (escaped name)
    ≡ Some (out ++ name)
unescape_onto-escaped [] out = grind (arith, common_steps)
unescape_onto-escaped (b ∷ name) out =
    go (λ more. unescape_onto-escaped name more) (b == 92) refl (b == 10) refl (b == 13) refl
  where
    again : ((more : List ℕ) → unescape_onto more false (escaped name) ≡ Some (more ++ name))
        → (x : ℕ) → x ≡ b
        → unescape_onto (out ++ (x ∷ [])) false (escaped name) ≡ Some (out ++ (b ∷ name))
    again ih x e = ih (out ++ (x ∷ []))
        ∙ ap (λ y. Some ((out ++ (y ∷ [])) ++ name)) e ∙ ap Some (append_assoc out (b ∷ []) name)

    go : ((more : List ℕ) → unescape_onto more false (escaped name) ≡ Some (more ++ name))
        → (p : Bool) → (b == 92) ≡ p → (q : Bool) → (b == 10) ≡ q → (r : Bool) → (b == 13) ≡ r
        → unescape_onto out false (escape b ++ escaped name) ≡ Some (out ++ (b ∷ name))
    go ih true is q _ r _ = rw is (again ih 92 (sym (eqb-true b 92 is)))
    go ih false a92 true is r _ = rw (a92, is) (again ih 10 (sym (eqb-true b 10 is)))
    go ih false a92 false a10 true is = rw (a92, a10, is) (again ih 13 (sym (eqb-true b 13 is)))
    go ih false a92 false a10 false a13 = rw (a92, a10, a13, a92) (again ih b refl)

-- A prefix is found.
after_prefix-of_append : (xs ys : List ℕ) → after_prefix xs (xs ++ ys) ≡ Some ys
after_prefix-of_append xs ys =
    let same : bytes_eq xs xs ≡ true = (bytes_eq-Decides xs xs).1 refl in
    rw (take_at xs ys (length xs) refl, drop_at xs ys (length xs) refl, same) refl

-- ---- names

plain_name-is_read : (name : List ℕ) → has_zero name ≡ false → name_of_text false name ≡ Some name
plain_name-is_read name h = rw h refl

escaped_name-is_read : (name : List ℕ) → has_zero name ≡ false → name_of_text true (escaped name)
    ≡ Some name
escaped_name-is_read name h = rw (unescape_onto-escaped name [], h) refl

-- ---- digests

encoded_digest-is_read : (a : Algorithm) (bytes : List ℕ) → IsBytes bytes → 0 < length bytes
    → length bytes ≤ max_bytes a → digest_of_digits a (encode_lower bytes) ≡ Some bytes
encoded_digest-is_read a bytes are some fits =
    let low : nat_lt 0 (length bytes) ≡ true = lt-ltb 0 (length bytes) some in
    let high : nat_le (length bytes) (max_bytes a) ≡ true = le-leb (length bytes) (max_bytes a) fits in
    ap (digest_if_length_fits a) (decode_of-encode_lower bytes are) ∙ rw (low, high) refl

-- ---- the parts of an untagged line

take_while-of_append : (p : ℕ → Bool) (xs ys : List ℕ) → drop_while p (xs ++ ys) ≡ ys
    → take_while p (xs ++ ys) ≡ xs
take_while-of_append p xs ys e =
    let n : length (xs ++ ys) - length ys ≡ length xs = omega (arith, length-append xs ys) in
    rw (e, n) (take_at xs ys (length xs) refl)

name_after_mark-unless_one : (s : Spacing) (m : ℕ) (text : List ℕ) → (s ≡ One → ⊥)
    → name_after_mark s m text ≡ Some (record { style = mark_style m; text = text })
name_after_mark-unless_one Open m text h = refl
name_after_mark-unless_one Two m text h = refl
name_after_mark-unless_one One m text h = absurd (h refl)

untagged_entry-is_read : (a : Algorithm) (s : Spacing) (is_escaped : Bool) (m : ℕ) (digest : List ℕ)
    (c : ℕ)
    (text : List ℕ)
    → IsBytes digest → 0 < length digest → length digest ≤ max_bytes a → (s ≡ One → ⊥)
    → ((m == 32) || (m == 42)) ≡ true
    → untagged_entry a s is_escaped (encode_lower digest ++ (32 ∷ m ∷ c ∷ text))
    ≡ entry_with a is_escaped digest (record { style = mark_style m; text = c ∷ text })
untagged_entry-is_read a s is_escaped m digest c text are some fits two mark =
    let rest = 32 ∷ m ∷ c ∷ text in
    let skipped : drop_while is_hex_digit (encode_lower digest ++ rest) ≡ rest =
    drop_while-skips_plain_digits (encode_lower digest) rest (encoded_digits-are_plain digest are)
    in
    rw (
      take_while-of_append is_hex_digit (encode_lower digest) rest skipped,
      skipped,
      mark,
      encoded_digest-is_read a digest are some fits,
      name_after_mark-unless_one s m (c ∷ text) two,
    ) refl

-- ---- the parts of a tagged line

plain_digits-have_no_parenthesis : (xs : List ℕ) → list_all is_plain_digit xs ≡ true
    → split_at_last 41 xs ≡ None
plain_digits-have_no_parenthesis [] h = refl
plain_digits-have_no_parenthesis (b ∷ xs) h =
    let parts = and_parts (is_plain_digit b) (list_all is_plain_digit xs) h in
    let other : (b == 41) ≡ false = (plain_digit-is_no_special_byte b parts.0).parenthesis in
    rw (plain_digits-have_no_parenthesis xs parts.1, other) refl

-- What follows the tag, cut at the last parenthesis.
split_at_last-before_digits : (before digits : List ℕ) → list_all is_plain_digit digits ≡ true
    → split_at_last 41 (before ++ (41 ∷ 32 ∷ 61 ∷ 32 ∷ digits)) ≡ Some (before, 32 ∷ 61 ∷ 32 ∷ digits)
split_at_last-before_digits before digits h =
    let none : split_at_last 41 (32 ∷ 61 ∷ 32 ∷ digits)
    ≡ None = rw (plain_digits-have_no_parenthesis digits h) refl in
    split_at_last-of_append 41 before (32 ∷ 61 ∷ 32 ∷ digits) refl none

-- The text of a name behind the length of the digest.
name_after_tag-is_read : (a : Algorithm) (n : ℕ) (text : List ℕ)
    → name_after_tag a n (tag_length_text a n ++ (32 ∷ 40 ∷ text)) ≡ Some text
name_after_tag-is_read a n text = go (n == max_bytes a) refl
  where
    go : (b : Bool) → (n == max_bytes a) ≡ b
        → name_after_tag a n (tag_length_text a n ++ (32 ∷ 40 ∷ text)) ≡ Some text
    go true is = rw is refl
    go false is = rw is (ap (λ r. option_and_then text_after_opening (text_after_digest_length false
        ((45 ∷ decimal (8 * n)) ++ (32 ∷ 40 ∷ text)) r))
        (after_prefix-of_append (45 ∷ decimal (8 * n)) (32 ∷ 40 ∷ text)))

digits-begin_with_no_blank : (digest : List ℕ) → IsBytes digest → 0 < length digest
    → drop_while is_blank (encode_lower digest) ≡ encode_lower digest
unfolding encode_with
digits-begin_with_no_blank [] are some = absurd (omega (arith, some))
digits-begin_with_no_blank (b ∷ bytes) are some =
    let small : b < 256 = are 0 in
    rw ((plain_digit-is_no_special_byte (slice_index lower_digits (b / 16))
    (lower_digit-is_plain (b / 16) (omega arith))).blank) refl

-- The digits are no tag.
digits-begin_with_no_tag_name : (tail digest : List ℕ) → IsBytes digest → 0 < length digest
    → (rest : List ℕ)
    → after_prefix (66 ∷ tail) (encode_lower digest ++ rest) ≡ None
unfolding encode_with
digits-begin_with_no_tag_name tail [] are some rest = absurd (omega (arith, some))
digits-begin_with_no_tag_name tail (b ∷ bytes) are some rest =
    let small : b < 256 = are 0 in
    rw ((plain_digit-is_no_special_byte (slice_index lower_digits (b / 16))
    (lower_digit-is_plain (b / 16) (omega arith))).tagged) refl

digits-begin_with_no_tag : (digest : List ℕ) → IsBytes digest → 0 < length digest → (rest : List ℕ)
    → algorithm_at_front (encode_lower digest ++ rest) ≡ None
digits-begin_with_no_tag digest are some rest =
    let line = encode_lower digest ++ rest in
    ap (algorithm_after_front line)
    (digits-begin_with_no_tag_name (codes "LAKE2b") digest are some rest)
    ∙ ap (option_map (λ (xs : List ℕ). algorithm_after_blake2s xs (after_prefix (codes "p") xs)))
    (digits-begin_with_no_tag_name (codes "LAKE2s") digest are some rest)

tagged_entry-is_read : (a : Algorithm) (needs : Needs) (is_escaped : Bool) (digest text : List ℕ)
    → IsBytes digest → 0 < length digest → length digest ≤ max_bytes a
    → tagged_entry a is_escaped (
      needs,
      tag_length_text a (length digest)
          ++ (codes " (" ++ (text ++ (codes ") = " ++ encode_lower digest))),
    )
    ≡ entry_with a is_escaped digest (record { style = Tagged needs; text = text })
tagged_entry-is_read a needs is_escaped digest text are some fits =
    let digits = encode_lower digest in
    let before = tag_length_text a (length digest) ++ (32 ∷ 40 ∷ text) in
    let rest = 41 ∷ 32 ∷ 61 ∷ 32 ∷ digits in
    ap (λ (xs : List ℕ). tagged_entry a is_escaped (needs, xs))
    (sym (append_assoc (tag_length_text a (length digest)) (32 ∷ 40 ∷ text) rest))
    ∙ ap (option_and_then (tagged_entry_of_parts a needs is_escaped))
    (split_at_last-before_digits before digits (encoded_digits-are_plain digest are))
    ∙ ap (λ (ds : List ℕ). option_and_then (λ (d : List ℕ). option_and_then
    (λ (t : List ℕ). entry_with a is_escaped d (record { style = Tagged needs; text = t }))
    (name_after_tag a (length d) before)) (digest_of_digits a ds))
    (digits-begin_with_no_blank digest are some)
    ∙ ap (λ (o : Option (List ℕ)). option_and_then (λ (d : List ℕ). option_and_then
    (λ (t : List ℕ). entry_with a is_escaped d (record { style = Tagged needs; text = t }))
    (name_after_tag a (length d) before)) o) (encoded_digest-is_read a digest are some fits)
    ∙ ap (option_and_then
    (λ (t : List ℕ). entry_with a is_escaped digest (record { style = Tagged needs; text = t })))
    (name_after_tag-is_read a (length digest) text)

-- ---- tags

-- What follows the name of an algorithm and what its tag needs: no such name and no such part goes on
-- there.
record ContinuesNoTag (rest : List ℕ) : Type 0 where
  parallel : after_prefix (codes "p") rest ≡ None
  tree : after_prefix (codes "-tree-") rest ≡ None
  key : after_prefix (codes "-key") rest ≡ None
  salt : after_prefix (codes "-salt") rest ≡ None
  personal : after_prefix (codes "-personal") rest ≡ None
  digit : drop_while is_ascii_digit rest ≡ rest

-- A text that a hyphen and a digit begin.
hyphen_digit-continues_no_tag : (d : ℕ) (rest : List ℕ) → 48 ≤ d → d ≤ 57
    → ContinuesNoTag (45 ∷ d ∷ rest)
hyphen_digit-continues_no_tag d rest low high =
    let tree : (d == 116) ≡ false = other d 116 (omega (arith, high)) in
    let key : (d == 107) ≡ false = other d 107 (omega (arith, high)) in
    let salt : (d == 115) ≡ false = other d 115 (omega (arith, high)) in
    let personal : (d == 112) ≡ false = other d 112 (omega (arith, high)) in
    record {
      parallel = refl;
      tree = rw tree refl;
      key = rw key refl;
      salt = rw salt refl;
      personal = rw personal refl;
      digit = refl;
    }
  where
    other : (x y : ℕ) → x < y → (x == y) ≡ false
    other x y below = grind (arith, below)

-- The length of a digest, and a name.
tag_length-continues_no_tag : (a : Algorithm) (n : ℕ) (rest : List ℕ) → n ≤ 64
    → ContinuesNoTag (tag_length_text a n ++ (32 ∷ rest))
tag_length-continues_no_tag a n rest fits = go (n == max_bytes a) refl
  where
    first : (ds : List ℕ) → 0 < length ds → AllDigits 10 ds
        → ContinuesNoTag (45 ∷ (ds ++ (32 ∷ rest)))
    first [] some each = absurd (omega (arith, some))
    first (d ∷ ds) some each =
        let is = digit_from_value d each.0 in
        hyphen_digit-continues_no_tag d (ds ++ (32 ∷ rest)) is.0 is.1

    go : (b : Bool) → (n == max_bytes a) ≡ b → ContinuesNoTag (tag_length_text a n ++ (32 ∷ rest))
    go true is = rw is (record {
      parallel = refl;
      tree = refl;
      key = refl;
      salt = refl;
      personal = refl;
      digit = refl;
    })
    go false is =
        let digits = (decimal_is_IsNumeral (8 * n) (omega (arith, fits))).0 in
        rw is (first (decimal (8 * n)) digits.0 digits.1)

-- A part is read, if it is there or if the rest does not begin with it.
tag_part-is_read : (b : Bool) (part rest : List ℕ) → (b ≡ false → after_prefix part rest ≡ None)
    → tag_part_at_front part (part_if b part ++ rest) ≡ (b, rest)
tag_part-is_read true part rest none = ap (tag_part_or_text (part ++ rest))
    (after_prefix-of_append part rest)
tag_part-is_read false part rest none = ap (tag_part_or_text rest) (none refl)

-- What a tag needs is read.
tag_needs-are_read : (needs : Needs) (rest : List ℕ) → ContinuesNoTag rest
    → needs_at_front (needs_text needs ++ rest) ≡ (needs, rest)
tag_needs-are_read needs rest ends =
    let personal = part_if needs.personal (codes "-personal") ++ rest in
    let salt = part_if needs.salt (codes "-salt") ++ personal in
    ap needs_at_front (append_assoc (part_if needs.key (codes "-key"))
    (part_if needs.salt (codes "-salt") ++ part_if needs.personal (codes "-personal")) rest
    ∙ ap (λ (xs : List ℕ). part_if needs.key (codes "-key") ++ xs)
    (append_assoc (part_if needs.salt (codes "-salt"))
    (part_if needs.personal (codes "-personal")) rest))
    ∙ ap needs_after_key
    (tag_part-is_read needs.key (codes "-key") salt (λ _. no_key needs.salt needs.personal))
    ∙ ap (needs_after_salt needs.key)
    (tag_part-is_read needs.salt (codes "-salt") personal (λ _. no_salt needs.personal))
    ∙ ap (needs_after_personal needs.key needs.salt)
    (tag_part-is_read needs.personal (codes "-personal") rest (λ _. ends.personal))
  where
    no_key : (salt personal : Bool) → after_prefix (codes "-key") (part_if salt (codes "-salt")
        ++ (part_if personal (codes "-personal") ++ rest)) ≡ None
    no_key true personal = refl
    no_key false true = refl
    no_key false false = ends.key

    no_salt : (personal : Bool)
        → after_prefix (codes "-salt") (part_if personal (codes "-personal") ++ rest) ≡ None
    no_salt true = refl
    no_salt false = ends.salt

-- What needs and a rest begin with.
needs-continue_no_algorithm : (needs : Needs) (rest : List ℕ) → ContinuesNoTag rest
    → (after_prefix (codes "p") (needs_text needs ++ rest) ≡ None)
    × (after_prefix (codes "-tree-") (needs_text needs ++ rest) ≡ None)
    × (drop_while is_ascii_digit (needs_text needs ++ rest) ≡ needs_text needs ++ rest)
needs-continue_no_algorithm needs rest ends = go needs.key needs.salt needs.personal
  where
    go : (key salt personal : Bool)
        → (after_prefix (codes "p")
        (needs_text (record { key = key; salt = salt; personal = personal }) ++ rest) ≡ None)
        × (after_prefix (codes "-tree-")
        (needs_text (record { key = key; salt = salt; personal = personal }) ++ rest) ≡ None)
        × (drop_while is_ascii_digit
        (needs_text (record { key = key; salt = salt; personal = personal }) ++ rest)
        ≡ needs_text (record { key = key; salt = salt; personal = personal }) ++ rest)
    go true salt personal = (refl, refl, refl)
    go false true personal = (refl, refl, refl)
    go false false true = (refl, refl, refl)
    go false false false = (ends.parallel, ends.tree, ends.digit)

drop_while-skips_decimals : (xs ys : List ℕ) → list_all is_ascii_digit xs ≡ true
    → drop_while is_ascii_digit (xs ++ ys) ≡ drop_while is_ascii_digit ys
drop_while-skips_decimals [] ys h = refl
drop_while-skips_decimals (b ∷ xs) ys h =
    let parts = and_parts (is_ascii_digit b) (list_all is_ascii_digit xs) h in
    rw (parts.0) (drop_while-skips_decimals xs ys parts.1)

-- The leaf length that is written is read.
leaf_length-is_read : (leaf : ℕ) → 0 < leaf → leaf < 2 ^ 32
    → (list_all is_ascii_digit (decimal leaf) ≡ true)
    × (leaf_length_of_digits (decimal leaf) ≡ Some leaf)
leaf_length-is_read leaf some fits =
    let is = decimal_is_IsNumeral leaf (omega (arith, fits)) in
    let all : list_all is_ascii_digit (decimal leaf) ≡ true = all_digits (decimal leaf) is.0.1 in
    let short : nat_le (length (decimal leaf)) 10 ≡ true =
    le-leb (length (decimal leaf)) 10 (length-decimal-le 10 leaf (omega arith) (omega (arith, fits)) (omega (arith, fits))) in
    let first : (get_or (decimal leaf) 0 48 == 48) ≡ false =
    first_is (decimal leaf) (first_decimal leaf some (omega (arith, fits))) in
    let below : nat_lt leaf (2 ^ 32) ≡ true = lt-ltb leaf (2 ^ 32) fits in
    (all, rw (short, first, all, is.1, below) refl)
  where
    all_digits : (ds : List ℕ) → AllDigits 10 ds → list_all is_ascii_digit ds ≡ true
    all_digits [] h = refl
    all_digits (d ∷ ds) h =
        let is = digit_from_value d h.0 in
        let one : is_ascii_digit d ≡ true = grind (arith, nat_tests, is.0, is.1) in
        rw one (all_digits ds h.1)

    first_is : (ds : List ℕ) → 48 < get_or ds 0 0 → (get_or ds 0 48 == 48) ≡ false
    first_is [] h = absurd (omega (arith, h))
    first_is (d ∷ ds) h = grind (arith, h)

-- The name of an algorithm is read.
algorithm_tag-is_read : (a : Algorithm) (rest : List ℕ) → HasValidLeafLength a
    → (after_prefix (codes "p") rest ≡ None) → (after_prefix (codes "-tree-") rest ≡ None)
    → (drop_while is_ascii_digit rest ≡ rest) → algorithm_at_front (tag a ++ rest) ≡ Some (a, rest)
algorithm_tag-is_read Blake2b rest leaf parallel tree digit = rw (parallel, tree) refl
algorithm_tag-is_read Blake2s rest leaf parallel tree digit = rw (parallel) refl
algorithm_tag-is_read Blake2bp rest leaf parallel tree digit = refl
algorithm_tag-is_read Blake2sp rest leaf parallel tree digit = refl
algorithm_tag-is_read (Tree n) rest leaf parallel tree digit =
    let read = leaf_length-is_read n leaf.0 leaf.1 in
    let skipped : drop_while is_ascii_digit (decimal n ++ rest) ≡ rest =
    drop_while-skips_decimals (decimal n) rest read.0 ∙ digit in
    ap (λ (xs : List ℕ). option_map
    (λ (leaf : ℕ). (Tree leaf, drop_while is_ascii_digit (decimal n ++ rest)))
    (leaf_length_of_digits xs))
    (take_while-of_append is_ascii_digit (decimal n) rest skipped)
    ∙ ap (option_map (λ (leaf : ℕ). (Tree leaf, drop_while is_ascii_digit (decimal n ++ rest)))) read.1
    ∙ ap (λ (xs : List ℕ). Some (Tree n, xs)) skipped

-- ---- whole lines

-- No digest has more than 64 bytes.
pub max_bytes-at_most_64 : (a : Algorithm) (n : ℕ) → n ≤ max_bytes a → n ≤ 64
max_bytes-at_most_64 Blake2b n h = h
max_bytes-at_most_64 Blake2s n h = omega (arith, h)
max_bytes-at_most_64 Blake2bp n h = h
max_bytes-at_most_64 Blake2sp n h = omega (arith, h)
max_bytes-at_most_64 (Tree leaf) n h = h

-- The body of a tagged line is read by its tag.
tagged_body-is_read : (a given : Algorithm) (s : Spacing) (needs : Needs) (is_escaped : Bool)
    (digest text : List ℕ) → HasValidLeafLength a
    → IsBytes digest → 0 < length digest → length digest ≤ max_bytes a
    → entry_after_mark given s is_escaped (line_after_mark (Tagged needs) a digest text)
    (algorithm_at_front (line_after_mark (Tagged needs) a digest text))
    ≡ entry_with a is_escaped digest (record { style = Tagged needs; text = text })
tagged_body-is_read a given s needs is_escaped digest text leaf are some fits =
    let rest = tag_length_text a (length digest)
    ++ (codes " (" ++ (text ++ (codes ") = " ++ encode_lower digest))) in
    let ends : ContinuesNoTag rest = tag_length-continues_no_tag a (length digest)
    (40 ∷ (text ++ (codes ") = " ++ encode_lower digest)))
    (max_bytes-at_most_64 a (length digest) fits) in
    let after = needs-continue_no_algorithm needs rest ends in
    ap (entry_after_mark given s is_escaped (tag a ++ (needs_text needs ++ rest)))
    (algorithm_tag-is_read a (needs_text needs ++ rest) leaf after.0 after.1 after.2)
    ∙ ap (tagged_entry a is_escaped) (tag_needs-are_read needs rest ends)
    ∙ tagged_entry-is_read a needs is_escaped digest text are some fits

-- An entry with another line than a tagged one is no tree's.
untagged_style-is_no_tree : (a : Algorithm) (style : Style)
    → (is_tree a ≡ true → is_tagged style ≡ true)
    → is_tagged style ≡ false → is_tree a ≡ false
untagged_style-is_no_tree Blake2b style tagged is = refl
untagged_style-is_no_tree Blake2s style tagged is = refl
untagged_style-is_no_tree Blake2bp style tagged is = refl
untagged_style-is_no_tree Blake2sp style tagged is = refl
untagged_style-is_no_tree (Tree leaf) style tagged is = absurd (search (tagged refl, is, rules))

nonempty_body-is_read : (a given : Algorithm) (s : Spacing) (style : Style) (is_escaped : Bool)
    (digest : List ℕ) (c : ℕ) (text : List ℕ) → HasValidLeafLength a
    → (is_tagged style ≡ false → given ≡ a)
    → IsBytes digest → 0 < length digest → length digest ≤ max_bytes a
    → (is_tagged style ≡ false → s ≡ One → ⊥)
    → (style ≡ Bare → ⊥) → (is_tree a ≡ true → is_tagged style ≡ true)
    → entry_after_mark given s is_escaped (line_after_mark style a digest (c ∷ text))
    (algorithm_at_front (line_after_mark style a digest (c ∷ text)))
    ≡ entry_with a is_escaped digest (record { style = style; text = c ∷ text })
nonempty_body-is_read a given s (Tagged needs) is_escaped digest c text leaf same are some fits two
    bare tagged =
    tagged_body-is_read a given s needs is_escaped digest (c ∷ text) leaf are some fits
nonempty_body-is_read a given s Text is_escaped digest c text leaf same are some fits two bare
    tagged =
    ap (entry_after_mark given s is_escaped (encode_lower digest ++ (32 ∷ 32 ∷ c ∷ text)))
    (digits-begin_with_no_tag digest are some (32 ∷ 32 ∷ c ∷ text))
    ∙ rw (same refl, untagged_style-is_no_tree a Text tagged refl)
    (untagged_entry-is_read a s is_escaped 32 digest c text are some fits (two refl) refl)
nonempty_body-is_read a given s Binary is_escaped digest c text leaf same are some fits two bare
    tagged =
    ap (entry_after_mark given s is_escaped (encode_lower digest ++ (32 ∷ 42 ∷ c ∷ text)))
    (digits-begin_with_no_tag digest are some (32 ∷ 42 ∷ c ∷ text))
    ∙ rw (same refl, untagged_style-is_no_tree a Binary tagged refl)
    (untagged_entry-is_read a s is_escaped 42 digest c text are some fits (two refl) refl)
nonempty_body-is_read a given s Bare is_escaped digest c text leaf same are some fits two bare
    tagged =
    absurd (bare refl)

body-is_read : (a given : Algorithm) (s : Spacing) (style : Style) (is_escaped : Bool)
    (digest text : List ℕ) → 0 < length text → HasValidLeafLength a
    → (is_tagged style ≡ false → given ≡ a)
    → IsBytes digest → 0 < length digest → length digest ≤ max_bytes a
    → (is_tagged style ≡ false → s ≡ One → ⊥)
    → (style ≡ Bare → ⊥) → (is_tree a ≡ true → is_tagged style ≡ true)
    → entry_after_mark given s is_escaped (line_after_mark style a digest text)
    (algorithm_at_front (line_after_mark style a digest text))
    ≡ entry_with a is_escaped digest (record { style = style; text = text })
body-is_read a given s style is_escaped digest [] long leaf same are some fits two bare tagged =
    absurd (omega (arith, long))
body-is_read a given s style is_escaped digest (c ∷ text) long leaf same are some fits two bare
    tagged =
    nonempty_body-is_read a given s style is_escaped digest c text leaf same are some fits two bare
    tagged

-- A line without a mark is read from its front.
unmarked_line-is_read_from_front : (a given : Algorithm) (s : Spacing) (style : Style)
    (digest text : List ℕ)
    → IsBytes digest → 0 < length digest → (style ≡ Bare → ⊥)
    → line_entry given s (line_after_mark style a digest text)
    ≡ entry_after_mark given s false (line_after_mark style a digest text)
    (algorithm_at_front (line_after_mark style a digest text))
unfolding encode_with
unmarked_line-is_read_from_front Blake2b given s (Tagged needs) digest text are some bare = refl
unmarked_line-is_read_from_front Blake2s given s (Tagged needs) digest text are some bare = refl
unmarked_line-is_read_from_front Blake2bp given s (Tagged needs) digest text are some bare = refl
unmarked_line-is_read_from_front Blake2sp given s (Tagged needs) digest text are some bare = refl
unmarked_line-is_read_from_front (Tree leaf) given s (Tagged needs) digest text are some bare = refl
unmarked_line-is_read_from_front a given s Text [] text are some bare = absurd (omega (arith, some))
unmarked_line-is_read_from_front a given s Text (b ∷ bytes) text are some bare =
    let small : b < 256 = are 0 in
    let no = plain_digit-is_no_special_byte (slice_index lower_digits (b / 16))
    (lower_digit-is_plain (b / 16) (omega arith)) in
    rw (no.blank, no.mark) refl
unmarked_line-is_read_from_front a given s Binary [] text are some bare = absurd
    (omega (arith, some))
unmarked_line-is_read_from_front a given s Binary (b ∷ bytes) text are some bare =
    let small : b < 256 = are 0 in
    let no = plain_digit-is_no_special_byte (slice_index lower_digits (b / 16))
    (lower_digit-is_plain (b / 16) (omega arith)) in
    rw (no.blank, no.mark) refl
unmarked_line-is_read_from_front a given s Bare digest text are some bare = absurd (bare refl)

escape-is_not_empty : (b : ℕ) → 0 < length (escape b)
escape-is_not_empty b = go (b == 92) refl (b == 10) refl (b == 13) refl
  where
    go : (p : Bool) → (b == 92) ≡ p → (q : Bool) → (b == 10) ≡ q → (r : Bool) → (b == 13) ≡ r
        → 0 < length (escape b)
    go true is q _ r _ = rw is (omega arith)
    go false a92 true is r _ = rw (a92, is) (omega arith)
    go false a92 false a10 true is = rw (a92, a10, is) (omega arith)
    go false a92 false a10 false a13 = rw (a92, a10, a13) (omega arith)

escaped-is_not_empty : (name : List ℕ) → 0 < length name → 0 < length (escaped name)
escaped-is_not_empty [] some = absurd (omega (arith, some))
escaped-is_not_empty (b ∷ name) some =
    omega (arith, escape-is_not_empty b, length-append (escape b) (escaped name))

-- The line of an entry is read as that entry, by its own algorithm or by its tag.
pub entry_line-is_read_with_algorithm : (e : Line) → IsWritable e → (e.style ≡ Bare → ⊥)
    → (given : Algorithm)
    → (is_tagged e.style ≡ false → given ≡ e.algorithm) → (s : Spacing)
    → (is_tagged e.style ≡ false → s ≡ One → ⊥) → line_entry given s (entry_line e) ≡ Some e
entry_line-is_read_with_algorithm e w bare given same s two = go (needs_escape e.name) refl
  where
    go : (b : Bool) → needs_escape e.name ≡ b
        → line_entry given s (entry_line e) ≡ Some e
    go true is = rw is (body-is_read e.algorithm given s e.style true e.digest (escaped e.name)
        (escaped-is_not_empty e.name w.some_name) w.has_leaf same w.are_bytes w.some_digest w.fits
        two bare
        w.tagged
        ∙ ap (λ (o : Option (List ℕ)). option_map (λ (n : List ℕ).
        record { algorithm = e.algorithm; digest = e.digest; name = n; style = e.style }) o)
        (escaped_name-is_read e.name w.no_zero))
    go false is = rw is
        (unmarked_line-is_read_from_front e.algorithm given s e.style e.digest e.name w.are_bytes
        w.some_digest bare
        ∙ body-is_read e.algorithm given s e.style false e.digest e.name w.some_name w.has_leaf same
        w.are_bytes w.some_digest w.fits two bare w.tagged
        ∙ ap (λ (o : Option (List ℕ)). option_map (λ (n : List ℕ).
        record { algorithm = e.algorithm; digest = e.digest; name = n; style = e.style }) o)
        (plain_name-is_read e.name w.no_zero))

-- The line of an entry is read as that entry.
pub entry_line-is_read : (e : Line) → IsWritable e → (e.style ≡ Bare → ⊥) → (s : Spacing)
    → (s ≡ One → ⊥)
    → line_entry e.algorithm s (entry_line e) ≡ Some e
entry_line-is_read e w bare s two = entry_line-is_read_with_algorithm e w bare e.algorithm
    (λ _. refl) s (λ _. two)

-- A tagged line is read by its tag.
pub tagged_line-is_read_by_tag : (e : Line) → IsWritable e → is_tagged e.style ≡ true
    → (a : Algorithm)
    (s : Spacing) → line_entry a s (entry_line e) ≡ Some e
tagged_line-is_read_by_tag e w tagged a s =
    entry_line-is_read_with_algorithm e w (λ (b : e.style ≡ Bare). absurd (bare_not b)) a
    (λ (f : is_tagged e.style ≡ false). absurd (both f)) s
    (λ (f : is_tagged e.style ≡ false) one. absurd (both f))
  where
    bare_not : e.style ≡ Bare → ⊥
    bare_not b = search (tagged, b, rules)

    both : is_tagged e.style ≡ false → ⊥
    both f = search (tagged, f, rules)
