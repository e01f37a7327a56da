-- The options of a list of arguments, one argument at a time.
use Rattle.std.proofs.Common.{◌≡◌, ℕ, ◌+◌, ◌<◌, Bool, List, [], ◌∷◌, ◌++◌, length, take, drop, map}
use Rattle.std.proofs.Common.{get_or, refl, sym, ap, ◌∙◌, Global, Ok, Err}
use Rattle.std.proofs.lemmas.List.{take_more, take-append-drop, map-append}
use Rattle.std.specs.Prelude.{Result, String}
use Rattle.std.specs.String.{string_bytes}
use Rattle.b2_commands.specs.declared.fault.Fault.{Fault}
use Rattle.b2_commands.specs.declared.fault.Fault.TheVariants.{WrongWords, WrongHex, WrongLength}
use Rattle.b2_commands.specs.declared.fault.Fault.TheVariants.{WrongLine}
use Rattle.b2_commands.specs.declared.fault.Fault.TheVariants.{NoSuchSlot, LineTooLong, TooLong}
use Rattle.b2_commands.specs.declared.fault.Fault.TheVariants.{ReadFailed, NoMemory, WriteFailed}
use Rattle.b2_commands.specs.ArgumentTasks.{and_then, GivenOptions, nothing_given, with_option}
use Rattle.b2_commands.specs.ArgumentTasks.{with_options}
use Rattle.b2_commands.specs.ArgumentTasks.{IsReadingFault}

-- The first arguments, and then the others.
with_options-append : (key : Bool) (given : GivenOptions) (xs ys : List (List ℕ))
    → with_options key given (xs ++ ys) ≡ and_then (with_options key given xs)
    (λ more. with_options key more ys)
with_options-append key given [] ys = refl
with_options-append key given (x ∷ xs) ys = go (with_option key given x)
    (λ more. with_options-append key more xs ys)
  where
    go : (r : Result GivenOptions Fault) → ((more : GivenOptions)
        → with_options key more (xs ++ ys) ≡ and_then (with_options key more xs)
        (λ most. with_options key most ys))
        → and_then r (λ more. with_options key more (xs ++ ys))
        ≡ and_then (and_then r (λ more. with_options key more xs))
        (λ more. with_options key more ys)
    go (Ok more) again = again more
    go (Err fault) again = refl

-- A list of one argument is read as that argument.
with_options-nil : (key : Bool) (r : Result GivenOptions Fault)
    → and_then r (λ more. with_options key more []) ≡ r
with_options-nil key (Ok more) = refl
with_options-nil key (Err fault) = refl

-- The argument at i comes after what those before it were read as.
pub record IsNextWord (key : Bool) (words : List (String Global)) (i : ℕ) (word : String Global)
    (text : List ℕ) (given : GivenOptions) : Type 0 where
  pub below : i < length words
  pub is_word : word ≡ get_or words i word
  pub is_text : text ≡ string_bytes word
  pub before : with_options key nothing_given (map string_bytes (take i words)) ≡ Ok given

string_bytes-take_next : (key : Bool) (words : List (String Global)) (i : ℕ) (word : String Global)
    (text : List ℕ) (given : GivenOptions) → IsNextWord key words i word text given
    → map string_bytes (take (i + 1) words) ≡ map string_bytes (take i words) ++ (text ∷ [])
string_bytes-take_next key words i word text given at =
    ap (map string_bytes) (take_more words i word at.below)
    ∙ map-append string_bytes (take i words) (get_or words i word ∷ [])
    ∙ ap (λ (w : String Global). map string_bytes (take i words) ++ (string_bytes w ∷ []))
    (sym at.is_word)
    ∙ ap (λ (t : List ℕ). map string_bytes (take i words) ++ (t ∷ [])) (sym at.is_text)

-- The arguments up to one are read as that one is after those before it.
pub with_options-next_word : (key : Bool) (words : List (String Global)) (i : ℕ)
    (word : String Global)
    (text : List ℕ) (given : GivenOptions) → IsNextWord key words i word text given
    → with_options key nothing_given (map string_bytes (take (i + 1) words))
    ≡ with_option key given text
with_options-next_word key words i word text given at =
    ap (with_options key nothing_given) (string_bytes-take_next key words i word text given at)
    ∙ with_options-append key nothing_given (map string_bytes (take i words)) (text ∷ [])
    ∙ ap (λ (r : Result GivenOptions Fault). and_then r (λ more.
    with_options key more (text ∷ []))) at.before
    ∙ with_options-nil key (with_option key given text)

-- An error in one argument is the error of all.
pub with_options-fault_of_next : (key : Bool) (words : List (String Global)) (i : ℕ)
    (word : String Global)
    (text : List ℕ) (given : GivenOptions) (fault : Fault) → IsNextWord key words i word text given
    → with_option key given text ≡ Err fault
    → with_options key nothing_given (map string_bytes words)
    ≡ Err fault
with_options-fault_of_next key words i word text given fault at is_fault =
    let front = take (i + 1) words in
    let rest = drop (i + 1) words in
    ap (λ (ws : List (String Global)). with_options key nothing_given (map string_bytes ws))
    (sym (take-append-drop (i + 1) words))
    ∙ ap (with_options key nothing_given) (map-append string_bytes front rest)
    ∙ with_options-append key nothing_given (map string_bytes front) (map string_bytes rest)
    ∙ ap (λ (r : Result GivenOptions Fault). and_then r (λ more.
    with_options key more (map string_bytes rest)))
    (with_options-next_word key words i word text given at ∙ is_fault)

-- An error of one reading is an error of another, if the other has the error of the first.
pub IsReadingFault-transfer : {A B : Type 0} (fault : Fault) (x : Result A Fault)
    (y : Result B Fault)
    → (x ≡ Err fault → y ≡ Err fault) → IsReadingFault fault x → IsReadingFault fault y
IsReadingFault-transfer WrongWords x y along h = along h
IsReadingFault-transfer WrongHex x y along h = along h
IsReadingFault-transfer NoMemory x y along h = tt
IsReadingFault-transfer WrongLength x y along h = h
IsReadingFault-transfer (WrongLine number) x y along h = h
IsReadingFault-transfer (NoSuchSlot number) x y along h = h
IsReadingFault-transfer (LineTooLong number) x y along h = h
IsReadingFault-transfer TooLong x y along h = h
IsReadingFault-transfer ReadFailed x y along h = h
IsReadingFault-transfer WriteFailed x y along h = h
