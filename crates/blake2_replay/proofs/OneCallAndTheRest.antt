-- One call of a list of calls, and the rest.
use Rattle.std.proofs.Common.{◌≡◌, ℕ, ◌+◌, ◌<◌, ◌≤◌, List, [], ◌∷◌, ◌++◌, length, drop, get_or}
use Rattle.std.proofs.Common.{add-one, drop-cons}
use Rattle.std.proofs.Common.{Option, Result, Ok, Err, IsOk, ◌⊎◌, inl, inr, refl, sym, ap, ◌∙◌}
use Rattle.std.proofs.Common.{append_assoc}
use Rattle.std.proofs.lemmas.List.{append-nil, drop_all}
use Rattle.blake2_digest.specs.States.{Meaning}
use Rattle.blake2_replay.specs.declared.calls.Call.{Call}
use Rattle.blake2_replay.specs.declared.calls.ReplayFault.{ReplayFault}
use Rattle.blake2_replay.specs.declared.calls.ReplayFault.TheVariants.{Memory}
use Rattle.blake2_replay.specs.Play.{Slots, Outcome, play_call, play_from, play, followed_by, after}
use Rattle.blake2_replay.specs.SlotStates.{AllHold}
use Rattle.blake2_replay.proofs.FirstBadCall.{Played}

-- Digests in two parts.
after-after : (xs ys : List (List ℕ)) (p : Played) → after (xs ++ ys) p ≡ after xs (after ys p)
after-after xs ys (Ok zs) = ap Ok (append_assoc xs ys zs)
after-after xs ys (Err fault) = refl

-- No earlier digests.
pub after-no_digests : (p : Played) → p ≡ after [] p
after-no_digests (Ok xs) = refl
after-no_digests (Err fault) = refl

-- An error other than being out of memory would be that of a list of calls that returns digests.
pub fault-is_memory_if_play_ok : (p : Played) (fault : ReplayFault) → (fault ≡ Memory)
    ⊎ (p ≡ Err fault) → IsOk p
    → fault ≡ Memory
fault-is_memory_if_play_ok p fault (inl e) good = e
fault-is_memory_if_play_ok (Ok xs) fault (inr e) good = cc
fault-is_memory_if_play_ok (Err other) fault (inr e) good = cc

-- Before the call at index i, the states represent slots from which the calls that are left return
-- the rest of the digests.
pub record IsPlayedUpTo {S : Type 0} (m : Meaning S) (first : S) (calls : List Call)
    (states : List (Option S))
    (digests : List (List ℕ)) (i : ℕ) : Type 0 where
  pub slots : Slots
  pub held : AllHold m first slots states
  pub rest : play m first calls ≡ after digests (play_from m first (drop i calls) slots i)

module _ {S : Type 0} (m : Meaning S) (first : S) where
  -- The list from the call at index i on: that call, and then the later ones.
  play_from-first_and_rest : (call : Call) (calls : List Call) (slots : Slots) (i : ℕ)
      → i < length calls
      → play_from m first (drop i calls) slots i
      ≡ followed_by (play_call m first slots i (get_or calls i call))
      (λ next. play_from m first (drop (i + 1) calls) next (i + 1))
  play_from-first_and_rest call calls slots i h =
      let e : drop i calls ≡ get_or calls i call ∷ drop (i + 1) calls =
      rw add-one (drop-cons calls i call h) in
      ap (λ (cs : List Call). play_from m first cs slots i) e

  -- The call at index i went on.
  pub IsPlayedUpTo-next : (call : Call) (calls : List Call) (slots : Slots) (left : Outcome)
      (earlier digests : List (List ℕ)) (i : ℕ)
      (p : Played) → i < length calls → p ≡ after earlier (play_from m first (drop i calls) slots i)
      → play_call m first slots i (get_or calls i call) ≡ Ok left
      → digests ≡ earlier ++ left.digests
      → p ≡ after digests (play_from m first (drop (i + 1) calls) left.slots (i + 1))
  IsPlayedUpTo-next call calls slots left earlier digests i p h e on added =
      let later : Slots → Played = λ next. play_from m first (drop (i + 1) calls) next (i + 1) in
      e ∙ ap (after earlier) (play_from-first_and_rest call calls slots i h
      ∙ ap (λ (r : Result Outcome ReplayFault). followed_by r later) on)
      ∙ sym (after-after earlier left.digests (later left.slots))
      ∙ ap (λ (ds : List (List ℕ)). after ds (later left.slots)) (sym added)

  -- The call at index i was refused.
  pub play_stops : (call : Call) (calls : List Call) (slots : Slots) (earlier : List (List ℕ))
      (i : ℕ) (p : Played)
      (fault : ReplayFault) → i < length calls → p ≡ after earlier
      (play_from m first (drop i calls) slots i)
      → (fault ≡ Memory) ⊎ (play_call m first slots i (get_or calls i call) ≡ Err fault)
      → (fault ≡ Memory) ⊎ (p ≡ Err fault)
  play_stops call calls slots earlier i p fault h e (inl memory) = inl memory
  play_stops call calls slots earlier i p fault h e (inr bad) =
      let later : Slots → Played = λ next. play_from m first (drop (i + 1) calls) next (i + 1) in
      inr (e ∙ ap (after earlier) (play_from-first_and_rest call calls slots i h
      ∙ ap (λ (r : Result Outcome ReplayFault). followed_by r later) bad))

  -- All calls went on.
  pub play_ends : (calls : List Call) (slots : Slots) (digests : List (List ℕ)) (i : ℕ) (p : Played)
      → length calls ≤ i
      → p ≡ after digests (play_from m first (drop i calls) slots i) → p ≡ Ok digests
  play_ends calls slots digests i p h e =
      e ∙ ap (λ (cs : List Call). after digests (play_from m first cs slots i)) (drop_all i calls h)
      ∙ ap Ok (append-nil digests)
