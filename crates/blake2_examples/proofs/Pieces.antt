-- Messages in pieces, one piece after the other.
use Rattle.std.proofs.Common.{◌≡◌, ℕ, ◌+◌, ◌<◌, List, [], ◌∷◌, ◌++◌, length, take, get_or, Bor, ap}
use Rattle.std.proofs.Common.{◌∙◌, append-nil}
use Rattle.std.proofs.lemmas.List.{take_more}
use Rattle.std.proofs.lemmas.Grind.{flat_map-append}
use Rattle.blake2_examples.specs.Pieces.{joined_pieces}

-- One more piece.
pub joined_pieces-take_one_more : (xs : List (Bor (List ℕ))) (i : ℕ) (d : Bor (List ℕ))
    → i < length xs
    → joined_pieces (take (i + 1) xs) ≡ joined_pieces (take i xs) ++ (get_or xs i d).now
joined_pieces-take_one_more xs i d h =
    ap joined_pieces (take_more xs i d h) ∙ flat_map-append (λ (piece : Bor (List ℕ)). piece.now)
    (take i xs) (get_or xs i d ∷ [])
    ∙ ap (λ (z : List ℕ). joined_pieces (take i xs) ++ z) (append-nil (get_or xs i d).now)
