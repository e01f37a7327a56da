-- What follows when one more file or line is done.
use Rattle.std.proofs.Common.{◌≡◌, ◌&&◌, ◌||◌, Bool, true, false, List, [], ◌∷◌, ◌++◌, refl, ap}
use Rattle.std.proofs.Common.{◌∙◌}
use Rattle.std.proofs.Common.{sym}
use Rattle.std.specs.List.{list_all, list_any}

pub and_true : (b : Bool) → (b && true) ≡ b
and_true true = refl
and_true false = refl

pub and_assoc : (a b c : Bool) → ((a && b) && c) ≡ (a && (b && c))
and_assoc true b c = refl
and_assoc false b c = refl

or_false : (b : Bool) → (b || false) ≡ b
or_false true = refl
or_false false = refl

or_assoc : (a b c : Bool) → ((a || b) || c) ≡ (a || (b || c))
or_assoc true b c = refl
or_assoc false b c = refl

pub list_all-append : {A : Type 0} (p : A → Bool) (xs : List A) (y : A)
    → list_all p (xs ++ (y ∷ [])) ≡ (list_all p xs && p y)
list_all-append p [] y = and_true (p y)
list_all-append p (x ∷ xs) y = ap (λ b. p x && b) (list_all-append p xs y) ∙ sym
    (and_assoc (p x) (list_all p xs) (p y))

pub list_any-append : {A : Type 0} (p : A → Bool) (xs : List A) (y : A)
    → list_any p (xs ++ (y ∷ [])) ≡ (list_any p xs || p y)
list_any-append p [] y = or_false (p y)
list_any-append p (x ∷ xs) y = ap (λ b. p x || b) (list_any-append p xs y) ∙ sym
    (or_assoc (p x) (list_any p xs) (p y))
