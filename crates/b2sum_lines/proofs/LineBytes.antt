-- The bytes of a line that is written: no newline and no carriage return, and no comment mark first.
use Rattle.std.proofs.Common.{◌≡◌, ℕ, ◌*◌, ◌/◌, ◌<◌, ◌≤◌, ◌==◌, Bool, true, false, not, List, []}
use Rattle.std.proofs.Common.{◌∷◌}
use Rattle.std.proofs.Common.{◌++◌, ◌||◌, length, if◌then◌else◌, refl, ◌∙◌, arith, codes, decimal}
use Rattle.std.proofs.Common.{◌^◌}
use Rattle.std.proofs.lemmas.Bool.{and_from, or_parts}
use Rattle.std.proofs.lemmas.Bool.Decides.{nat_tests}
use Rattle.std.proofs.lemmas.Fmt.{decimal_is_IsNumeral}
use Rattle.std.proofs.lemmas.List.Folds.{list_all-append}
use Rattle.std.proofs.lemmas.Str.Parse.{digit_from_value}
use Rattle.std.specs.List.{list_all}
use Rattle.std.specs.Str.Parse.{AllDigits}
use Rattle.hex.specs.Hex.{encode_lower, encode_with, IsBytes}
use Rattle.b2sum_lines.specs.declared.entry.Algorithm.{Algorithm}
use Rattle.b2sum_lines.specs.declared.entry.Algorithm.TheVariants.{Blake2b, Blake2s, Blake2bp}
use Rattle.b2sum_lines.specs.declared.entry.Algorithm.TheVariants.{Blake2sp, Tree}
use Rattle.b2sum_lines.specs.declared.entry.Needs.{Needs}
use Rattle.b2sum_lines.specs.declared.entry.Style.{Style}
use Rattle.b2sum_lines.specs.declared.entry.Style.TheVariants.{Tagged, Text, Binary, Bare}
use Rattle.b2sum_lines.specs.ManifestLines.{Line, max_bytes, tag, escape, escaped, needs_escape}
use Rattle.b2sum_lines.specs.ManifestLines.{HasValidLeafLength}
use Rattle.b2sum_lines.specs.ManifestLines.{needs_text, part_if, tag_length_text, line_after_mark}
use Rattle.b2sum_lines.specs.ManifestLines.{entry_line}
use Rattle.b2sum_lines.specs.ManifestLines.{name_in_line, escape_mark, is_special, IsWritable}
use Rattle.b2sum_lines.proofs.HexDigits.{lower_digit-passes, encoded_digits-pass}
use Rattle.b2sum_lines.proofs.RoundTrip.{max_bytes-at_most_64}

-- No newline, and no carriage return.
abbrev pub is_no_line_end : ℕ → Bool
is_no_line_end b = not ((b == 10) || (b == 13))

-- The first byte is no comment mark.
abbrev pub begins_no_comment : List ℕ → Bool
begins_no_comment [] = false
begins_no_comment (b ∷ rest) = not (b == 35)

no_line_end-append : (xs ys : List ℕ) → list_all is_no_line_end xs ≡ true
    → list_all is_no_line_end ys ≡ true
    → list_all is_no_line_end (xs ++ ys) ≡ true
no_line_end-append xs ys first second = list_all-append is_no_line_end xs ys
    ∙ and_from (list_all is_no_line_end xs) (list_all is_no_line_end ys) first second

-- ---- digits

digits-have_no_line_end : (bytes : List ℕ) → IsBytes bytes
    → list_all is_no_line_end (encode_lower bytes) ≡ true
digits-have_no_line_end bytes are = encoded_digits-pass is_no_line_end refl bytes are

digits-begin_no_comment : (bytes rest : List ℕ) → IsBytes bytes → 0 < length bytes
    → begins_no_comment (encode_lower bytes ++ rest) ≡ true
unfolding encode_with
digits-begin_no_comment [] rest are some = absurd (omega (arith, some))
digits-begin_no_comment (b ∷ bytes) rest are some =
    let small : b < 256 = are 0 in lower_digit-passes (λ d. not (d == 35)) refl (b / 16)
    (omega (arith, small))

decimals-have_no_line_end : (ds : List ℕ) → AllDigits 10 ds → list_all is_no_line_end ds ≡ true
decimals-have_no_line_end [] each = refl
decimals-have_no_line_end (d ∷ ds) each =
    let is = digit_from_value d each.0 in
    let one : is_no_line_end d ≡ true = grind (arith, nat_tests, is.0, is.1) in
    rw one (decimals-have_no_line_end ds each.1)

decimal-has_no_line_end : (n : ℕ) → n < 2 ^ 64 → list_all is_no_line_end (decimal n) ≡ true
decimal-has_no_line_end n fits = decimals-have_no_line_end (decimal n)
    (decimal_is_IsNumeral n fits).0.1

-- ---- names

escape-has_no_line_end : (b : ℕ) → list_all is_no_line_end (escape b) ≡ true
escape-has_no_line_end b = go (b == 92) refl (b == 10) refl (b == 13) refl
  where
    go : (p : Bool) → (b == 92) ≡ p → (q : Bool) → (b == 10) ≡ q → (r : Bool) → (b == 13) ≡ r
        → list_all is_no_line_end (escape b) ≡ true
    go true is q _ r _ = rw is refl
    go false a92 true is r _ = rw (a92, is) refl
    go false a92 false a10 true is = rw (a92, a10, is) refl
    go false a92 false a10 false a13 = rw (a92, a10, a13, a10, a13) refl

escaped-has_no_line_end : (name : List ℕ) → list_all is_no_line_end (escaped name) ≡ true
escaped-has_no_line_end [] = refl
escaped-has_no_line_end (b ∷ name) = no_line_end-append (escape b) (escaped name)
    (escape-has_no_line_end b) (escaped-has_no_line_end name)

plain_name-has_no_line_end : (name : List ℕ) → needs_escape name ≡ false
    → list_all is_no_line_end name ≡ true
plain_name-has_no_line_end [] none = refl
plain_name-has_no_line_end (b ∷ name) none =
    let parts = or_parts (is_special b) (needs_escape name) none in
    let ends = or_parts (b == 92) ((b == 10) || (b == 13)) parts.0 in
    rw (ends.1) (plain_name-has_no_line_end name parts.1)

name-has_no_line_end : (name : List ℕ) → list_all is_no_line_end (name_in_line name) ≡ true
name-has_no_line_end name = go (needs_escape name) refl
  where
    go : (b : Bool) → needs_escape name ≡ b → list_all is_no_line_end (name_in_line name) ≡ true
    go true is = rw is (escaped-has_no_line_end name)
    go false is = rw is (plain_name-has_no_line_end name is)

-- ---- tags

tag-has_no_line_end : (a : Algorithm) → HasValidLeafLength a → list_all is_no_line_end (tag a)
    ≡ true
tag-has_no_line_end Blake2b leaf = refl
tag-has_no_line_end Blake2s leaf = refl
tag-has_no_line_end Blake2bp leaf = refl
tag-has_no_line_end Blake2sp leaf = refl
tag-has_no_line_end (Tree n) leaf =
    no_line_end-append (codes "BLAKE2b-tree-") (decimal n) refl
    (decimal-has_no_line_end n (omega (arith, leaf.1)))

needs-have_no_line_end : (needs : Needs) → list_all is_no_line_end (needs_text needs) ≡ true
needs-have_no_line_end needs =
    no_line_end-append (part_if needs.key (codes "-key")) _ (part needs.key (codes "-key") refl)
    (no_line_end-append (part_if needs.salt (codes "-salt"))
    (part_if needs.personal (codes "-personal"))
    (part needs.salt (codes "-salt") refl) (part needs.personal (codes "-personal") refl))
  where
    part : (is : Bool) (text : List ℕ) → list_all is_no_line_end text ≡ true
        → list_all is_no_line_end (part_if is text) ≡ true
    part true text h = h
    part false text h = refl

tag_length-has_no_line_end : (a : Algorithm) (n : ℕ) → n ≤ 64
    → list_all is_no_line_end (tag_length_text a n) ≡ true
tag_length-has_no_line_end a n fits = go (n == max_bytes a) refl
  where
    go : (b : Bool) → (n == max_bytes a) ≡ b → list_all is_no_line_end (tag_length_text a n) ≡ true
    go true is = rw is refl
    go false is = rw is (decimal-has_no_line_end (8 * n) (omega (arith, fits)))

-- ---- whole lines

body-has_no_line_end : (style : Style) (a : Algorithm) (digest text : List ℕ) → IsBytes digest
    → length digest ≤ 64 → HasValidLeafLength a → list_all is_no_line_end text ≡ true
    → list_all is_no_line_end (line_after_mark style a digest text) ≡ true
body-has_no_line_end (Tagged needs) a digest text are fits leaf name =
    no_line_end-append (tag a) _ (tag-has_no_line_end a leaf)
    (no_line_end-append (needs_text needs) _ (needs-have_no_line_end needs)
    (no_line_end-append (tag_length_text a (length digest)) _
    (tag_length-has_no_line_end a (length digest) fits)
    (no_line_end-append text (codes ") = " ++ encode_lower digest) name
    (digits-have_no_line_end digest are))))
body-has_no_line_end Text a digest text are fits leaf name =
    no_line_end-append (encode_lower digest) (32 ∷ 32 ∷ text) (digits-have_no_line_end digest are)
    name
body-has_no_line_end Binary a digest text are fits leaf name =
    no_line_end-append (encode_lower digest) (32 ∷ 42 ∷ text) (digits-have_no_line_end digest are)
    name
body-has_no_line_end Bare a digest text are fits leaf name =
    no_line_end-append (encode_lower digest) (32 ∷ text) (digits-have_no_line_end digest are) name

body-begins_no_comment : (style : Style) (a : Algorithm) (digest text : List ℕ) → IsBytes digest
    → 0 < length digest → begins_no_comment (line_after_mark style a digest text) ≡ true
body-begins_no_comment (Tagged needs) Blake2b digest text are some = refl
body-begins_no_comment (Tagged needs) Blake2s digest text are some = refl
body-begins_no_comment (Tagged needs) Blake2bp digest text are some = refl
body-begins_no_comment (Tagged needs) Blake2sp digest text are some = refl
body-begins_no_comment (Tagged needs) (Tree leaf) digest text are some = refl
body-begins_no_comment Text a digest text are some = digits-begin_no_comment digest (32 ∷ 32 ∷ text)
    are some
body-begins_no_comment Binary a digest text are some = digits-begin_no_comment digest
    (32 ∷ 42 ∷ text) are some
body-begins_no_comment Bare a digest text are some = digits-begin_no_comment digest (32 ∷ text) are
    some

-- The line of an entry has no newline and no carriage return.
pub entry_line-has_no_line_end : (e : Line) → IsWritable e → list_all is_no_line_end (entry_line e)
    ≡ true
entry_line-has_no_line_end e w = no_line_end-append (escape_mark e.name) _
    (mark_clear (needs_escape e.name))
    (body-has_no_line_end e.style e.algorithm e.digest (name_in_line e.name) w.are_bytes
    (max_bytes-at_most_64 e.algorithm (length e.digest) w.fits) w.has_leaf
    (name-has_no_line_end e.name))
  where
    mark_clear : (b : Bool) → list_all is_no_line_end (if b then 92 ∷ [] else []) ≡ true
    mark_clear true = refl
    mark_clear false = refl

-- The line of an entry begins with no comment mark.
pub entry_line-begins_no_comment : (e : Line) → IsWritable e → begins_no_comment (entry_line e)
    ≡ true
entry_line-begins_no_comment e w = go (needs_escape e.name) refl
  where
    go : (b : Bool) → needs_escape e.name ≡ b → begins_no_comment (entry_line e) ≡ true
    go true is = rw is refl
    go false is = rw is
        (body-begins_no_comment e.style e.algorithm e.digest e.name w.are_bytes w.some_digest)
