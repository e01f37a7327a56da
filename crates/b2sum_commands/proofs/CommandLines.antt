-- Command lines that mean the same.
use Rattle.std.proofs.Common.{◌≡◌, ℕ, ◌+◌, ◌==◌, Bool, true, false, List, [], ◌∷◌, ◌++◌}
use Rattle.std.proofs.Common.{length, take, drop, Some, None, Result, Ok, Err, refl, ap}
use Rattle.std.proofs.Common.{◌∙◌, sym, append_assoc, append-nil, length-append, arith, codes}
use Rattle.std.proofs.Common.{nat_eq}
use Rattle.std.proofs.Common.{◌&&◌, eq-eqb, true≢false}
use Rattle.std.proofs.lemmas.Bool.{ne_eqb, lt-ltb, le-ltb}
use Rattle.std.proofs.lemmas.List.{get_or_append_left, take_at}
use Rattle.std.proofs.lemmas.List.Sums.{position_or_len_is}
use Rattle.std.proofs.Math.Seq.{drop-append_seam, get_or-append_seam}
use Rattle.std.specs.List.{All, position_or_len, starts_with}
use Rattle.std.specs.Str.{bytes_eq}
use Rattle.text_lines.specs.Cuts.{cut_at}
use Rattle.b2sum_commands.specs.declared.option_names.Flag.{Flag}
use Rattle.b2sum_commands.specs.OptionNames.{has_value, letter_flag}
use Rattle.b2sum_commands.specs.CommandLine.{Choice, End, Next, Anything, ValueOf, OnlyFile}
use Rattle.b2sum_commands.specs.CommandLine.{CommandLineState}
use Rattle.b2sum_commands.specs.CommandLine.{choice_with_next_word, read_unjoined_option}
use Rattle.b2sum_commands.specs.CommandLine.{read_option_or_file, read_split_option}
use Rattle.b2sum_commands.specs.CommandLine.{read_letters, read_long_option, read_joined_option}
use Rattle.b2sum_commands.specs.CommandLine.{read_words}
use Rattle.b2sum_commands.specs.CommandLine.{set_flag, set_value, state_after_option}
use Rattle.b2sum_commands.specs.CommandLineLaws.{state_awaiting_any_word}
use Rattle.b2sum_commands.specs.CommandLineLaws.{WordsAfterDoubleHyphenAreFiles}
use Rattle.b2sum_commands.specs.CommandLineLaws.{JoinedLettersEqualSeparateWords}
use Rattle.b2sum_commands.specs.CommandLineLaws.{LetterValueMayFollowAsWord}
use Rattle.b2sum_commands.specs.CommandLineLaws.{NameValueMayFollowAsWord}

-- The words after an option.
abbrev read_words_after_option : List (List ℕ) → List (List ℕ) → Result (Choice × Next) End
    → Result CommandLineState End
read_words_after_option files words (Err e) = Err e
read_words_after_option files words (Ok read) =
    read_words (record { choice = read.0; files = files; next = read.1 }) words

-- The words after a word that is read as an option.
read_words-via_option : (s : CommandLineState) (words : List (List ℕ))
    (r : Result (Choice × Next) End)
    → elim (state_after_option s r) [ Err e ↦ Err e | Ok t ↦ read_words t words ]
    ≡ read_words_after_option s.files words r
read_words-via_option s words (Err e) = refl
read_words-via_option s words (Ok read) = refl

-- ---- letters

-- A word that one hyphen begins.
read_letters-of_hyphen_word : (s : CommandLineState) (word : List ℕ) → bytes_eq word (codes "--")
    ≡ false
    → starts_with nat_eq word (codes "--") ≡ false → starts_with nat_eq word (codes "-") ≡ true
    → bytes_eq word (codes "-") ≡ false
    → read_option_or_file s word ≡ state_after_option s (read_letters s.choice (drop 1 word))
read_letters-of_hyphen_word s word whole front first alone = rw whole
    (rw front (rw first (rw alone refl)))

byte_eq-symmetric : (a : ℕ) → (a == 45) ≡ false → (45 == a) ≡ false
byte_eq-symmetric a other = ne_eqb 45 a (λ is. true≢false (sym (eq-eqb a 45 (sym is)) ∙ other))

-- A word of letters.
read_words-of_letters : (c : Choice) (files : List (List ℕ)) (a : ℕ) (letters : List ℕ)
    (words : List (List ℕ)) → (a == 45) ≡ false
    → read_words (state_awaiting_any_word c files) ((45 ∷ a ∷ letters) ∷ words)
    ≡ read_words_after_option files words (read_letters c (a ∷ letters))
read_words-of_letters c files a letters words other =
    let word : List ℕ = 45 ∷ a ∷ letters in
    let whole : bytes_eq word (codes "--") ≡ false =
    ap (λ (x : Bool). x && bytes_eq letters []) other in
    let front : starts_with nat_eq word (codes "--") ≡ false =
    ap (λ (x : Bool). x && true) (byte_eq-symmetric a other) in
    ap (λ (r : Result CommandLineState End). elim r [ Err e ↦ Err e | Ok t ↦ read_words t words ])
    (read_letters-of_hyphen_word (state_awaiting_any_word c files) word whole front refl refl)
    ∙ read_words-via_option (state_awaiting_any_word c files) words (read_letters c (a ∷ letters))

-- The letter of an option is not a hyphen.
option_letter-is_not_hyphen : (a : ℕ) (f : Flag) → letter_flag a ≡ Some f → (a == 45) ≡ false
option_letter-is_not_hyphen a f is = ne_eqb a 45
    (λ same. grind (arith, sym (ap letter_flag same) ∙ is))

-- The letters after one of an option without a value.
abbrev read_more_letters : List ℕ → Result Choice End → Result (Choice × Next) End
read_more_letters letters (Err e) = Err e
read_more_letters letters (Ok d) = read_letters d letters

read_letters-after_flag : (c : Choice) (a : ℕ) (letters : List ℕ) (f : Flag) → letter_flag a
    ≡ Some f
    → has_value f ≡ false
    → read_letters c (a ∷ letters) ≡ read_more_letters letters (set_flag f c)
read_letters-after_flag c a letters f is none = rw (is, read_letters)
    (rw none (chosen (set_flag f c)))
  where
    chosen : (r : Result Choice End)
        → elim r [ Err e ↦ Err e | Ok d ↦ read_letters d letters ] ≡ read_more_letters letters r
    chosen (Err e) = refl
    chosen (Ok d) = refl

pub joined_letters_equal_separate_words : JoinedLettersEqualSeparateWords
joined_letters_equal_separate_words c files a b letters words f is none other =
    let hyphen = option_letter-is_not_hyphen a f is in
    read_words-of_letters c files a (b ∷ letters) words hyphen
    ∙ ap (read_words_after_option files words) (read_letters-after_flag c a (b ∷ letters) f is none)
    ∙ chosen (set_flag f c)
    ∙ sym (ap (read_words_after_option files ((45 ∷ b ∷ letters) ∷ words))
    (read_letters-after_flag c a [] f is none))
    ∙ sym (read_words-of_letters c files a [] ((45 ∷ b ∷ letters) ∷ words) hyphen)
  where
    chosen : (r : Result Choice End)
        → read_words_after_option files words (read_more_letters (b ∷ letters) r)
        ≡ read_words_after_option files ((45 ∷ b ∷ letters) ∷ words) (read_more_letters [] r)
    chosen (Err e) = refl
    chosen (Ok d) = sym (read_words-of_letters d files b letters words other)

-- A word that is the value of an option.
read_words-of_value : (c : Choice) (files : List (List ℕ)) (f : Flag) (value : List ℕ)
    (words : List (List ℕ))
    → read_words (record { choice = c; files = files; next = ValueOf f }) (value ∷ words)
    ≡ read_words_after_option files words (choice_with_next_word Anything (set_value f value c))
read_words-of_value c files f value words =
    read_words-via_option (record { choice = c; files = files; next = ValueOf f }) words
    (choice_with_next_word Anything (set_value f value c))

pub letter_value_may_follow_as_word : LetterValueMayFollowAsWord
letter_value_may_follow_as_word c files a [] words f is has some = absurd (omega (arith, some))
letter_value_may_follow_as_word c files a (b ∷ value) words f is has some =
    let hyphen = option_letter-is_not_hyphen a f is in
    read_words-of_letters c files a (b ∷ value) words hyphen
    ∙ ap (read_words_after_option files words) (rest (b ∷ value))
    ∙ sym (read_words-of_value c files f (b ∷ value) words)
    ∙ sym (ap (read_words_after_option files ((b ∷ value) ∷ words)) alone)
    ∙ sym (read_words-of_letters c files a [] ((b ∷ value) ∷ words) hyphen)
  where
    rest : (letters : List ℕ) → read_letters c (a ∷ b ∷ value)
        ≡ choice_with_next_word Anything (set_value f (b ∷ value) c)
    rest letters = rw (is, read_letters) (rw has refl)

    alone : read_letters c (a ∷ []) ≡ Ok (c, ValueOf f)
    alone = rw (is, read_letters) (rw has refl)

-- ---- names

abbrev equals : ℕ → Bool
equals b = b == 61

position-of_equals : (name value : List ℕ) → All (λ b. equals b ≡ false) name
    → position_or_len equals (name ++ (61 ∷ value)) ≡ length name
position-of_equals name value none =
    position_or_len_is equals (name ++ (61 ∷ value)) (length name) 0
    (omega (arith, length-append name (61 ∷ value)))
    (λ k below. ap equals (get_or_append_left name (61 ∷ value) 0 k below) ∙ none k 0 below)
    (λ _. ap equals (get_or-append_seam name 61 value 0))

drop-to_after_equals : (name value : List ℕ) → drop (length name + 1) (name ++ (61 ∷ value)) ≡ value
drop-to_after_equals name value =
    let front : List ℕ = name ++ (61 ∷ []) in
    ap (λ n. drop n (name ++ (61 ∷ value))) (omega (arith, length-append name (61 ∷ [])))
    ∙ ap (λ xs. drop (length front) xs) (sym (append_assoc name (61 ∷ []) value))
    ∙ drop-append_seam front value

-- A name and a value are cut at the first `=`.
cut_at-first_equals : (name value : List ℕ) → All (λ b. equals b ≡ false) name
    → cut_at 61 (name ++ (61 ∷ value)) ≡ Some (name, value)
cut_at-first_equals name value none =
    let text : List ℕ = name ++ (61 ∷ value) in
    let at = position-of_equals name value none in
    rw (lt-ltb (position_or_len equals text) (length text)
    (omega (arith, at, length-append name (61 ∷ value))))
    (ap (λ (n : ℕ). Some (take n text, drop (n + 1) text)) at
    ∙ ap (λ (front : List ℕ). Some (front, drop (length name + 1) text))
    (take_at name (61 ∷ value) (length name) refl)
    ∙ ap (λ (rest : List ℕ). Some (name, rest)) (drop-to_after_equals name value))

cut_at-none : (name : List ℕ) → All (λ b. equals b ≡ false) name → cut_at 61 name ≡ None
cut_at-none name none =
    let at = position_or_len_is equals name (length name) 0 (omega arith)
    (λ k below. none k 0 below) (λ below. absurd (omega (arith, below))) in
    rw (le-ltb (position_or_len equals name) (length name) (omega (arith, at))) refl

-- A word of a long option.
read_words-of_long_option : (c : Choice) (files : List (List ℕ)) (b : ℕ) (rest : List ℕ)
    (words : List (List ℕ))
    → read_words (state_awaiting_any_word c files) ((45 ∷ 45 ∷ b ∷ rest) ∷ words)
    ≡ read_words_after_option files words (read_long_option c (b ∷ rest))
read_words-of_long_option c files b rest words =
    read_words-via_option (state_awaiting_any_word c files) words (read_long_option c (b ∷ rest))

pub name_value_may_follow_as_word : NameValueMayFollowAsWord
name_value_may_follow_as_word c files [] value words f some none is has = absurd
    (omega (arith, some))
name_value_may_follow_as_word c files (b ∷ name) value words f some none is has =
    read_words-of_long_option c files b (name ++ (61 ∷ value)) words
    ∙ ap (read_words_after_option files words) joined
    ∙ sym (read_words-of_value c files f value words)
    ∙ sym (ap (read_words_after_option files (value ∷ words)) alone)
    ∙ sym (read_words-of_long_option c files b name (value ∷ words))
  where
    joined : read_long_option c ((b ∷ name) ++ (61 ∷ value))
        ≡ choice_with_next_word Anything (set_value f value c)
    joined = ap (read_split_option c ((b ∷ name) ++ (61 ∷ value)))
        (cut_at-first_equals (b ∷ name) value none)
        ∙ ap (λ o. read_joined_option c o value) is ∙ given
      where
        given : read_joined_option c (Some f) value
            ≡ choice_with_next_word Anything (set_value f value c)
        given = rw has refl

    alone : read_long_option c (b ∷ name) ≡ Ok (c, ValueOf f)
    alone = ap (read_split_option c (b ∷ name)) (cut_at-none (b ∷ name) none)
        ∙ ap (read_unjoined_option c) is ∙ awaited
      where
        awaited : read_unjoined_option c (Some f) ≡ Ok (c, ValueOf f)
        awaited = rw has refl

-- ---- files

read_words-of_files : (c : Choice) (files words : List (List ℕ))
    → read_words (record { choice = c; files = files; next = OnlyFile }) words
    ≡ Ok (record { choice = c; files = files ++ words; next = OnlyFile })
read_words-of_files c files [] =
    ap (λ fs. Ok (record { choice = c; files = fs; next = OnlyFile })) (sym (append-nil files))
read_words-of_files c files (word ∷ words) =
    read_words-of_files c (files ++ (word ∷ [])) words
    ∙ ap (λ fs. Ok (record { choice = c; files = fs; next = OnlyFile }))
    (append_assoc files (word ∷ []) words)

pub words_after_double_hyphen_are_files : WordsAfterDoubleHyphenAreFiles
words_after_double_hyphen_are_files c files words = read_words-of_files c files words
