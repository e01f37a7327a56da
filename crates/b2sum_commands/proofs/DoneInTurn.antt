-- Things that are done one after the other: how far they are, and one more.
use Rattle.std.proofs.Common.{◌≡◌, ℕ, ◌+◌, ◌<◌, ◌≤◌, List, [], ◌∷◌, ◌++◌, refl, ap, ◌∙◌, sym}
use Rattle.std.proofs.Common.{subst, append_assoc, append-nil, length, map, drop, get_or, add-one}
use Rattle.std.proofs.Common.{drop-cons, Vec, Global}
use Rattle.std.proofs.lemmas.List.{drop_all}
use Rattle.b2sum_commands.specs.World.{Streams}
use Rattle.b2sum_commands.specs.World.{AreDoneInTurn, IsStoppedInTurn}
use Rattle.b2sum_commands.proofs.CheckedLines.{done_in_turn-append}

-- All but the rest is done, with these results.
pub record DoneSoFar {X Y : Type 0} (does : X → Streams → Streams → Y → Type 0) (all : List X)
    (old : Streams) (rest : List X) (now : Streams) (ys : List Y) : Type 0 where
  pub done : List X
  pub are_all : all ≡ done ++ rest
  pub turns : AreDoneInTurn does done old now ys

pub done_so_far-start : {X Y : Type 0} (does : X → Streams → Streams → Y → Type 0) (all : List X)
    (old : Streams) → DoneSoFar does all old all old []
done_so_far-start does all old = record { done = []; are_all = refl; turns = refl }

pub done_so_far-next : {X Y : Type 0} (does : X → Streams → Streams → Y → Type 0) (all : List X)
    (old : Streams) (x : X) (rest : List X) (now mid : Streams) (ys : List Y) (y : Y)
    → DoneSoFar does all old (x ∷ rest) now ys → does x now mid y
    → DoneSoFar does all old rest mid (ys ++ (y ∷ []))
done_so_far-next does all old x rest now mid ys y sofar one = record {
  done = sofar.done ++ (x ∷ []);
  are_all = sofar.are_all ∙ sym (append_assoc sofar.done (x ∷ []) rest);
  turns = done_in_turn-append does sofar.done x old now mid ys y sofar.turns one;
}

pub done_so_far-all : {X Y : Type 0} (does : X → Streams → Streams → Y → Type 0) (all : List X)
    (old now : Streams) (ys : List Y) → DoneSoFar does all old [] now ys
    → AreDoneInTurn does all old now ys
done_so_far-all does all old now ys sofar = subst (λ xs. AreDoneInTurn does xs old now ys)
    (sym (sofar.are_all ∙ append-nil sofar.done)) sofar.turns

abbrev pub items_of : List (Vec ℕ Global) → List (List ℕ)
items_of = map (λ name. name.items)

-- What is left of a list from an index on is the element there and the rest.
pub drop-is_element_and_rest : {X : Type 0} (xs : List X) (i : ℕ) (x : X) → i < length xs → x
    ≡ get_or xs i x
    → drop i xs ≡ x ∷ drop (i + 1) xs
drop-is_element_and_rest xs i x below is =
    rw (add-one) (drop-cons xs i x below) ∙ ap (λ y. y ∷ drop (i + 1) xs) (sym is)

-- One more name.
pub done_so_far-next_name : {Y : Type 0} (does : List ℕ → Streams → Streams → Y → Type 0)
    (names : List (Vec ℕ Global)) (old : Streams) (i : ℕ) (name : Vec ℕ Global) (shown : List ℕ)
    (now mid : Streams) (ys : List Y) (y : Y)
    → i < length names → name ≡ get_or names i name → shown ≡ name.items
    → DoneSoFar does (items_of names) old (items_of (drop i names)) now ys → does shown now mid y
    → DoneSoFar does (items_of names) old (items_of (drop (i + 1) names)) mid (ys ++ (y ∷ []))
done_so_far-next_name does names old i name shown now mid ys y below is value sofar done =
    done_so_far-next does (items_of names) old shown (items_of (drop (i + 1) names)) now mid ys y
    (subst (λ rest. DoneSoFar does (items_of names) old rest now ys)
    (ap items_of (drop-is_element_and_rest names i name below is)
    ∙ ap (λ n. n ∷ items_of (drop (i + 1) names)) (sym value)) sofar)
    done

-- No name is left.
pub done_so_far-all_names : {Y : Type 0} (does : List ℕ → Streams → Streams → Y → Type 0)
    (names : List (Vec ℕ Global)) (old : Streams) (i : ℕ) (now : Streams) (ys : List Y)
    → length names ≤ i → DoneSoFar does (items_of names) old (items_of (drop i names)) now ys
    → AreDoneInTurn does (items_of names) old now ys
done_so_far-all_names does names old i now ys end sofar = done_so_far-all does (items_of names) old
    now ys
    (subst (λ rest. DoneSoFar does (items_of names) old rest now ys)
    (ap items_of (drop_all i names end)) sofar)

-- An error ended what is done for the next name.
pub stopped_in_turn-at_next_name : {Y : Type 0} (does : List ℕ → Streams → Streams → Y → Type 0)
    (begins : List ℕ → Streams → Streams → Type 0) (names : List (Vec ℕ Global)) (old : Streams)
    (i : ℕ) (name : Vec ℕ Global) (shown : List ℕ) (now new : Streams) (ys : List Y)
    → i < length names → name ≡ get_or names i name → shown ≡ name.items
    → DoneSoFar does (items_of names) old (items_of (drop i names)) now ys → begins shown now new
    → IsStoppedInTurn does begins (items_of names) old new
stopped_in_turn-at_next_name does begins names old i name shown now new ys below is value sofar
    one = record {
      done = sofar.done;
      rest = shown ∷ items_of (drop (i + 1) names);
      are_all = sofar.are_all ∙ ap (λ xs. sofar.done ++ xs)
          (ap items_of (drop-is_element_and_rest names i name below is)
          ∙ ap (λ n. n ∷ items_of (drop (i + 1) names)) (sym value));
      results = ys;
      mid = now;
      are_done = sofar.turns;
      next = one;
    }
