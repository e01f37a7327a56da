-- What lines of a manifest need, next to what the options have, and how messages name that.
use Rattle.std.specs.Prelude.{ℕ, ◌+◌, ◌*◌, ◌^◌, ◌-◌, ◌==◌, ◌&&◌, ◌||◌, min, nat_lt, Bool, true}
use Rattle.std.specs.Prelude.{false, not}
use Rattle.std.specs.Prelude.{if◌then◌else◌, List, [], ◌++◌, length, codes, decimal}
use Rattle.std.specs.Prelude.{Option, Some, None}
use Rattle.std.specs.Option.{option_or}
use Rattle.b2sum_lines.specs.ManifestLines.{Line, max_bytes}
use Rattle.b2sum_lines.specs.declared.entry.Algorithm.{Algorithm}
use Rattle.b2sum_lines.specs.declared.entry.Algorithm.TheVariants.{Blake2b, Blake2s, Blake2bp}
use Rattle.b2sum_lines.specs.declared.entry.Algorithm.TheVariants.{Blake2sp, Tree}
use Rattle.b2sum_lines.specs.declared.entry.Needs.{Needs}
use Rattle.b2sum_lines.specs.declared.entry.Style.{Style}
use Rattle.b2sum_lines.specs.declared.entry.Style.TheVariants.{Tagged, Text, Binary, Bare}
use Rattle.b2sum_commands.specs.declared.line_needs.Lacks.{Lacks}
use Rattle.b2sum_commands.specs.declared.options.Options.{Options}

-- ---- lines that can be checked

-- The length of a digest is the one that the options demand, if they demand one.
abbrev pub has_demanded_length : Options → List ℕ → Bool
has_demanded_length o digest = not o.demands_length || length digest == o.bytes

-- Two truth values are the same.
abbrev pub is_equal_to : Bool → Bool → Bool
is_equal_to true b = b
is_equal_to false b = not b

-- Two digests need the same besides a file.
abbrev pub same_needs : Needs → Needs → Bool
same_needs a b =
    is_equal_to a.key b.key && (is_equal_to a.salt b.salt && is_equal_to a.personal b.personal)

-- A number for each algorithm.
abbrev pub algorithm_number : Algorithm → ℕ
algorithm_number Blake2b = 0
algorithm_number Blake2s = 1
algorithm_number Blake2bp = 2
algorithm_number Blake2sp = 3
algorithm_number (Tree leaf) = 4 + leaf

-- The line of a digest says what the options have: all that a tagged line needs, and nothing else.
-- Other lines do not say what they need.
abbrev pub matches_tagged_needs : Options → Style → Bool
matches_tagged_needs o (Tagged needs) = same_needs needs o.needs
matches_tagged_needs o Text = true
matches_tagged_needs o Binary = true
matches_tagged_needs o Bare = true

-- There is a key, a salt or a personalization.
abbrev pub needs_anything : Needs → Bool
needs_anything needs = needs.key || (needs.salt || needs.personal)

-- A tree of leaves with fewer than 1,024 bytes, which costs more time than others.
abbrev pub is_small_leaf_tree : Algorithm → Bool
is_small_leaf_tree Blake2b = false
is_small_leaf_tree Blake2s = false
is_small_leaf_tree Blake2bp = false
is_small_leaf_tree Blake2sp = false
is_small_leaf_tree (Tree leaf) = nat_lt leaf 1024

-- A digest is of the algorithm of the options, if they demand that, or have a key, a salt or a
-- personalization, which is for that algorithm, or it is of a tree that is slow. Otherwise it is of
-- any.
abbrev pub algorithm_is_allowed : Options → Algorithm → Bool
algorithm_is_allowed o a =
    not (o.demands_algorithm || (needs_anything o.needs || is_small_leaf_tree a))
    || (algorithm_number a == algorithm_number o.algorithm)

-- The options are those that an entry needs: its digest has the length and the algorithm that they
-- demand, and needs what they have.
abbrev pub meets : Options → Line → Bool
meets o e =
    has_demanded_length o e.digest
    && (matches_tagged_needs o e.style && algorithm_is_allowed o e.algorithm)

-- ---- what is lacking

-- What the first has and the second has not.
abbrev pub needs_difference : Needs → Needs → Needs
needs_difference a b = record {
  key = a.key && not b.key;
  salt = a.salt && not b.salt;
  personal = a.personal && not b.personal;
}

-- What a line of this style needs. One without a tag does not say it.
abbrev pub needs_of : Options → Style → Needs
needs_of o (Tagged needs) = needs
needs_of o Text = o.needs
needs_of o Binary = o.needs
needs_of o Bare = o.needs

-- The line is of another algorithm, and cannot be checked without that.
abbrev pub needs_other_algorithm : Options → Line → Bool
needs_other_algorithm o e = not (algorithm_number e.algorithm == algorithm_number o.algorithm)
    && (o.demands_algorithm
    || (needs_anything (needs_of o e.style) || is_small_leaf_tree e.algorithm))

-- The length that the options demand: with the algorithm of the line, if they are to have that, the
-- longest if they have the longest of their own.
abbrev pub demanded_length_for : Options → Line → ℕ
demanded_length_for o e =
    if not o.demands_length
    || (needs_other_algorithm o e && (o.bytes == max_bytes o.algorithm))
    then max_bytes e.algorithm else o.bytes

-- The length of the line's digest is another, which is demanded, or would be under a key that the
-- line needs.
abbrev pub needs_other_length : Options → Line → Bool
needs_other_length o e = not (o.needs.key && not (needs_of o e.style).key)
    && ((o.demands_length || (needs_of o e.style).key)
    && not (length e.digest == demanded_length_for o e))

-- What the options have to be for the line of an entry.
abbrev pub lacks_of : Options → Line → Lacks
lacks_of o e = record {
  missing = needs_difference (needs_of o e.style) o.needs;
  unwanted = needs_difference o.needs (needs_of o e.style);
  algorithm = if needs_other_algorithm o e then Some e.algorithm else None;
  bytes = if needs_other_length o e then Some (length e.digest) else None;
}

-- Nothing is lacking.
abbrev pub no_needs : Needs
no_needs = record { key = false; salt = false; personal = false }

-- Nothing is lacking.
abbrev pub no_lacks : Lacks
no_lacks = record { missing = no_needs; unwanted = no_needs; algorithm = None; bytes = None }

-- What one of both has.
abbrev pub needs_union : Needs → Needs → Needs
needs_union a b = record {
  key = a.key || b.key;
  salt = a.salt || b.salt;
  personal = a.personal || b.personal;
}

-- What several lines lack: the first algorithm, and the first length.
abbrev pub lacks_union : Lacks → Lacks → Lacks
lacks_union a b = record {
  missing = needs_union a.missing b.missing;
  unwanted = needs_union a.unwanted b.unwanted;
  algorithm = option_or a.algorithm b.algorithm;
  bytes = option_or a.bytes b.bytes;
}

-- ---- the options that are lacking, with a space before each

-- The options of a key, a salt and a personalization, with this text before each.
abbrev pub needs_options_text : List ℕ → Needs → List ℕ
needs_options_text before needs =
    (if needs.key then before ++ codes "--key-file" else [])
    ++ ((if needs.salt then before ++ codes "--salt" else [])
    ++ (if needs.personal then before ++ codes "--personal" else []))

-- The option of an algorithm.
abbrev pub algorithm_option_text : Option Algorithm → List ℕ
algorithm_option_text None = []
algorithm_option_text (Some Blake2b) = codes " --algorithm blake2b"
algorithm_option_text (Some Blake2s) = codes " --algorithm blake2s"
algorithm_option_text (Some Blake2bp) = codes " --algorithm blake2bp"
algorithm_option_text (Some Blake2sp) = codes " --algorithm blake2sp"
algorithm_option_text (Some (Tree leaf)) = codes " --tree " ++ decimal leaf

-- The option of a length of digests, in bits.
abbrev pub length_option_text : Option ℕ → List ℕ
length_option_text None = []
length_option_text (Some n) = codes " --length " ++ decimal (min (n * 8) (2 ^ 64 - 1))

-- The options that are lacking, and `no` before each that is there and must not be.
abbrev pub lacks_text : Lacks → List ℕ
lacks_text l = needs_options_text (codes " ") l.missing
    ++ (needs_options_text (codes " no ") l.unwanted
    ++ (algorithm_option_text l.algorithm ++ length_option_text l.bytes))
