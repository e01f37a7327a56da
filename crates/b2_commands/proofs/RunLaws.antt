-- What a list of calls returns of padded digests: the padded digests that it returns of the digests.
use Rattle.std.proofs.Common.{◌≡◌, ℕ, ◌+◌, Bool, true, false, if◌then◌else◌, List, [], ◌∷◌, ◌++◌}
use Rattle.std.proofs.Common.{Option, Some, None, Result, Ok, Err, map, length, take, refl, sym, ap}
use Rattle.std.proofs.Common.{◌∙◌}
use Rattle.std.proofs.Common.{◌⊎◌, inl, inr}
use Rattle.blake2_digest.specs.Texts.{padded}
use Rattle.blake2_digest.proofs.Texts.{take-padded}
use Rattle.blake2_replay.specs.declared.calls.Call.{Call}
use Rattle.blake2_replay.specs.declared.calls.Call.TheVariants.{Update, Clone, Reset, Finalize}
use Rattle.blake2_replay.specs.declared.calls.Call.TheVariants.{FinalizeReset}
use Rattle.blake2_replay.specs.declared.calls.ReplayFault.{ReplayFault}
use Rattle.blake2_replay.specs.declared.calls.ReplayFault.TheVariants.{TooLong, Memory}
use Rattle.blake2.specs.Play.{Outcome, Slots, AbsorbedBytes, after, outcome_at_slot, followed_by}
use Rattle.blake2.specs.Play.{fresh_meaning}
use Rattle.blake2.specs.Play.{ok_outcome, play_call, play_fresh, play_from, play_live}
use Rattle.blake2.specs.Play.{since_beginning}
use Rattle.blake2.specs.Play.{since_reset}

-- The fault of an allocation.
abbrev pub IsMemoryFault : ReplayFault → Type 0
IsMemoryFault fault = fault ≡ Memory

-- Each digest of a list after g.
abbrev map_digests : (List ℕ → List ℕ) → Result (List (List ℕ)) ReplayFault
    → Result (List (List ℕ)) ReplayFault
map_digests g (Ok digests) = Ok (map g digests)
map_digests g (Err fault) = Err fault

-- Each digest of an outcome after g.
abbrev map_outcome_digests : (List ℕ → List ℕ) → Result Outcome ReplayFault
    → Result Outcome ReplayFault
map_outcome_digests g (Ok left) = ok_outcome left.slots (map g left.digests)
map_outcome_digests g (Err fault) = Err fault

update_outcome-commutes_with_map : (g : List ℕ → List ℕ) (fits : Bool) (slots : Slots) (i : ℕ)
    → (if fits then ok_outcome slots [] else Err (TooLong i))
    ≡ map_outcome_digests g (if fits then ok_outcome slots [] else Err (TooLong i))
update_outcome-commutes_with_map g true slots i = refl
update_outcome-commutes_with_map g false slots i = refl

play_live-commutes_with_map : (g digest : List ℕ → List ℕ) (n : ℕ) (slots : Slots) (i : ℕ)
    (call : Call)
    (taken : AbsorbedBytes) → play_live (fresh_meaning (λ y. g (digest y)) n) tt slots i call taken
    ≡ map_outcome_digests g (play_live (fresh_meaning digest n) tt slots i call taken)
play_live-commutes_with_map g digest n slots i (Update k x) (since_beginning z) =
    update_outcome-commutes_with_map g _ _ i
play_live-commutes_with_map g digest n slots i (Update k x) (since_reset z) =
    update_outcome-commutes_with_map g _ _ i
play_live-commutes_with_map g digest n slots i (Clone k) taken = refl
play_live-commutes_with_map g digest n slots i (Reset k) taken = refl
play_live-commutes_with_map g digest n slots i (Finalize k) (since_beginning z) = refl
play_live-commutes_with_map g digest n slots i (Finalize k) (since_reset z) = refl
play_live-commutes_with_map g digest n slots i (FinalizeReset k) (since_beginning z) = refl
play_live-commutes_with_map g digest n slots i (FinalizeReset k) (since_reset z) = refl

at_slot-commutes_with_map : (g digest : List ℕ → List ℕ) (n : ℕ) (slots : Slots) (i : ℕ)
    (call : Call)
    (slot : Option AbsorbedBytes)
    → outcome_at_slot i slot (play_live (fresh_meaning (λ y. g (digest y)) n) tt slots i call)
    ≡ map_outcome_digests g (outcome_at_slot i slot (play_live (fresh_meaning digest n) tt slots i call))
at_slot-commutes_with_map g digest n slots i call None = refl
at_slot-commutes_with_map g digest n slots i call (Some taken) =
    play_live-commutes_with_map g digest n slots i call taken

append-commutes_with_map : (g : List ℕ → List ℕ) (xs ys : List (List ℕ))
    → map g xs ++ map g ys ≡ map g (xs ++ ys)
append-commutes_with_map g [] ys = refl
append-commutes_with_map g (x ∷ xs) ys = ap (λ l. g x ∷ l) (append-commutes_with_map g xs ys)

after-commutes_with_map : (g : List ℕ → List ℕ) (earlier : List (List ℕ))
    (later : Result (List (List ℕ)) ReplayFault)
    → after (map g earlier) (map_digests g later) ≡ map_digests g (after earlier later)
after-commutes_with_map g earlier (Ok later) =
    let ok : List (List ℕ) → Result (List (List ℕ)) ReplayFault = λ digests. Ok digests in
    ap ok (append-commutes_with_map g earlier later)
after-commutes_with_map g earlier (Err fault) = refl

followed_by-commutes_with_map : (g : List ℕ → List ℕ) (played : Result Outcome ReplayFault)
    (h f : Slots → Result (List (List ℕ)) ReplayFault)
    → ((next : Slots) → h next ≡ map_digests g (f next))
    → followed_by (map_outcome_digests g played) h ≡ map_digests g (followed_by played f)
followed_by-commutes_with_map g (Ok left) h f same =
    ap (after (map g left.digests)) (same left.slots)
    ∙ after-commutes_with_map g left.digests (f left.slots)
followed_by-commutes_with_map g (Err fault) h f same = refl

play_from-commutes_with_map : (g digest : List ℕ → List ℕ) (n : ℕ) (calls : List Call)
    (slots : Slots) (i : ℕ)
    → play_from (fresh_meaning (λ y. g (digest y)) n) tt calls slots i
    ≡ map_digests g (play_from (fresh_meaning digest n) tt calls slots i)
play_from-commutes_with_map g digest n [] slots i = refl
play_from-commutes_with_map g digest n (call ∷ calls) slots i =
    ap (λ (played : Result Outcome ReplayFault). followed_by played
    (λ next. play_from (fresh_meaning (λ y. g (digest y)) n) tt calls next (i + 1)))
    (at_slot-commutes_with_map g digest n slots i call _)
    ∙ followed_by-commutes_with_map g (play_call (fresh_meaning digest n) tt slots i call) _ _
    (λ next. play_from-commutes_with_map g digest n calls next (i + 1))

-- A digest of `size` bytes is the beginning of what it is padded to.
take-padded_digest : (most size : ℕ) (digest : List ℕ → List ℕ)
    → ((y : List ℕ) → length (digest y) ≡ size)
    → (λ y. take size (padded most (digest y))) ≡ digest
take-padded_digest most size digest long = λ i y. cut y i
  where
    cut : (y : List ℕ) → take size (padded most (digest y)) ≡ digest y
    cut y = ap (λ k. take k (padded most (digest y))) (sym (long y)) ∙ take-padded most (digest y)

-- The calls return the beginnings of the padded digests that they would return.
pub play_fresh-of_padded_digest : (most size : ℕ) (digest : List ℕ → List ℕ) (n : ℕ)
    (calls : List Call)
    (digests : List (List ℕ)) → ((y : List ℕ) → length (digest y) ≡ size)
    → play_fresh (λ y. padded most (digest y)) n calls ≡ Ok digests
    → play_fresh digest n calls ≡ Ok (map (take size) digests)
play_fresh-of_padded_digest most size digest n calls digests long plays =
    ap (λ d. play_fresh d n calls) (sym (take-padded_digest most size digest long))
    ∙ play_from-commutes_with_map (take size) (λ y. padded most (digest y)) n calls _ 0
    ∙ ap (map_digests (take size)) plays

-- They have the same error.
pub play_fresh-fault_of_padded_digest : (most size : ℕ) (digest : List ℕ → List ℕ) (n : ℕ)
    (calls : List Call)
    (fault : ReplayFault) → ((y : List ℕ) → length (digest y) ≡ size)
    → play_fresh (λ y. padded most (digest y)) n calls ≡ Err fault
    → play_fresh digest n calls ≡ Err fault
play_fresh-fault_of_padded_digest most size digest n calls fault long plays =
    ap (λ d. play_fresh d n calls) (sym (take-padded_digest most size digest long))
    ∙ play_from-commutes_with_map (take size) (λ y. padded most (digest y)) n calls _ 0
    ∙ ap (map_digests (take size)) plays

-- So an error of the padded digests is one of the digests.
pub play_fresh-memory_or_fault : (most size : ℕ) (digest : List ℕ → List ℕ) (n : ℕ)
    (calls : List Call)
    (fault : ReplayFault) → ((y : List ℕ) → length (digest y) ≡ size)
    → (fault ≡ Memory) ⊎ (play_fresh (λ y. padded most (digest y)) n calls ≡ Err fault)
    → (fault ≡ Memory) ⊎ (play_fresh digest n calls ≡ Err fault)
play_fresh-memory_or_fault most size digest n calls fault long (inl memory) = inl memory
play_fresh-memory_or_fault most size digest n calls fault long (inr plays) =
    inr (play_fresh-fault_of_padded_digest most size digest n calls fault long plays)
