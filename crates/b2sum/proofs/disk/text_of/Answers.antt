use Rattle.std.proofs.Common.{◌≡◌, ◌==◌, ◌&&◌, ℕ, Bool, true, false, List, Result, Ok, Err, IfOk}
use Rattle.std.proofs.Common.{not, rules}
use Rattle.std.proofs.Common.{refl, ap, sym, ◌∙◌, ◌++◌, IsUtf8, encode_utf8, string_bytes}
use Rattle.std.specs.List.{flat_map, list_any}
use Rattle.std.specs.Str.{is_utf8}
use Rattle.std.proofs.lemmas.Str.{IsUtf8-from_is_utf8, is_utf8-from_IsUtf8}
use Rattle.b2sum.specs.FilePaths.{character_of, is_plain_name, path_of}
use Rattle.b2sum.proofs.disk.text_of.Goals as goal

-- The characters of bytes are the path of a name that is not text.
escaped_name-is_path : {T E : Type 0} (bytes : T → List ℕ) (r : Result T E) (name : List ℕ)
    → is_plain_name name ≡ false
    → IfOk r (λ t. bytes t ≡ flat_map (λ (b : ℕ). encode_utf8 (character_of b)) name)
    → IfOk r (λ t. bytes t ≡ path_of name)
escaped_name-is_path bytes (Ok t) name is h = rw is h
escaped_name-is_path bytes (Err e) name is h = tt

byte_244-not_plain_name : (name : List ℕ) → list_any (λ b. b == 244) name ≡ true
    → is_plain_name name ≡ false
byte_244-not_plain_name name is = rw is refl

not_utf8-not_plain_name : (name : List ℕ) → (IsUtf8 name → ⊥) → is_plain_name name ≡ false
not_utf8-not_plain_name name bad = go (is_utf8 name) refl
  where
    and_false : (b : Bool) → (b && false) ≡ false
    and_false true = refl
    and_false false = refl

    go : (b : Bool) → is_utf8 name ≡ b → is_plain_name name ≡ false
    go true is = absurd (bad (IsUtf8-from_is_utf8 name is))
    go false is =
        ap (λ (b : Bool). not (list_any (λ (x : ℕ). x == 244) name) && b) is
        ∙ and_false (not (list_any (λ (x : ℕ). x == 244) name))

-- A name that is text is its own path.
plain_name-is_own_path : (name : List ℕ) → list_any (λ b. b == 244) name ≡ false → IsUtf8 name
    → path_of name ≡ name
plain_name-is_own_path name none utf8 =
    let is : is_plain_name name ≡ true =
    ap (λ (b : Bool). not b && is_utf8 name) none ∙ is_utf8-from_IsUtf8 name utf8 in
    rw is refl

pub returns-then-contains : goal.returns-then-contains
returns-then-contains c = escaped_name-is_path string_bytes c.escaped.result c.args.name.now
    (byte_244-not_plain_name c.args.name.now (search (rules, c.if-contains))) c.escaped.ensures

pub returns-in_default : goal.returns-in_default
returns-in_default c = escaped_name-is_path string_bytes c.escaped-in_default.result c.args.name.now
    (not_utf8-not_plain_name c.args.name.now
    (search (rules, c.from_utf8.ensures.cases, c.in_default)))
    c.escaped-in_default.ensures

pub returns : goal.returns
returns c = c.in_ok-push_str.ensures.bytes
    ∙ ap (λ (b : List ℕ). b ++ c.in-Ok.plain.now) c.new-text.ensures.bytes
    ∙ c.in-Ok.ensures.cases.0
    ∙ sym (plain_name-is_own_path c.args.name.now (search (rules, c.if-contains))
    c.in-Ok.ensures.cases.1)
