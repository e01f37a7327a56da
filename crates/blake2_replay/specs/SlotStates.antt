-- How states represent slots, and what one call does to them.
use Rattle.std.specs.Prelude.{◌≡◌, ⊤, ℕ, Bool, List, [], ◌∷◌, ◌++◌, ◌⊎◌, Option, Some, None}
use Rattle.std.specs.Prelude.{Result, Ok, Err}
use Rattle.blake2_digest.specs.States.{Meaning}
use Rattle.blake2_replay.specs.Play.{AbsorbedBytes, Slots, Outcome, digest_under, count_of}
use Rattle.blake2_replay.specs.Play.{absorb_more}
use Rattle.blake2_replay.specs.Play.{play_call}
use Rattle.blake2_replay.specs.declared.calls.Call.{Call}
use Rattle.blake2_replay.specs.declared.calls.ReplayFault.{ReplayFault}
use Rattle.blake2_replay.specs.declared.calls.ReplayFault.TheVariants.{Memory}

-- The state h represents a slot that has absorbed this, if `first` is the first slot's initial
-- state.
pub record StandsFor {S : Type 0} (m : Meaning S) (first : S) (taken : AbsorbedBytes) (h : S) : Type
    0 where
  pub future : (flag : Bool) (y : List ℕ)
      → m.future h flag y ≡ digest_under m first flag (absorb_more taken y)
  pub started : (flag : Bool) (y : List ℕ) → m.started h flag y ≡ m.started first flag y
  pub last_node : m.last_node h ≡ m.last_node first
  pub count : m.count h ≡ count_of m first taken
  pub start_count : m.start_count h ≡ m.start_count first

-- A slot has a state that represents it, and a slot that has ended has none.
abbrev pub SlotHolds : {S : Type 0} → Meaning S → S → Option AbsorbedBytes → Option S → Type 0
SlotHolds m first None None = ⊤
SlotHolds m first None (Some h) = ⊥
SlotHolds m first (Some taken) None = ⊥
SlotHolds m first (Some taken) (Some h) = StandsFor m first taken h

-- Every slot has its state, in order.
abbrev pub AllHold : {S : Type 0} → Meaning S → S → Slots → List (Option S) → Type 0
AllHold m first [] [] = ⊤
AllHold m first [] (h ∷ hs) = ⊥
AllHold m first (slot ∷ slots) [] = ⊥
AllHold m first (slot ∷ slots) (h ∷ hs) = SlotHolds m first slot h × AllHold m first slots hs

-- A call was played as the definition says: the states represent the slots that it leaves, and its
-- digests were appended to the earlier ones.
pub record HasPlayed {S : Type 0} (m : Meaning S) (first : S) (played : Result Outcome ReplayFault)
    (earlier : List (List ℕ)) (states : List (Option S)) (digests : List (List ℕ)) : Type 0 where
  pub outcome : Outcome
  pub played_is : played ≡ Ok outcome
  pub held : AllHold m first outcome.slots states
  pub digests_are : digests ≡ earlier ++ outcome.digests

-- A call was played as the definition says, or returned the error of the definition, or ran out of
-- memory.
abbrev pub PlaysOrFails : {S : Type 0} → Meaning S → S → Result Outcome ReplayFault → List (List ℕ)
    → List (Option S) → List (List ℕ) → Result (Unit {0}) ReplayFault → Type 0
PlaysOrFails m first played earlier states digests (Ok _) =
    HasPlayed m first played earlier states digests
PlaysOrFails m first played earlier states digests (Err fault) =
    (fault ≡ Memory) ⊎ (played ≡ Err fault)

-- What the call at index i does to any states that represent slots.
abbrev pub PlaysCall : {S : Type 0} → Meaning S → ℕ → Call → List (Option S) → List (List ℕ)
    → List (Option S) → List (List ℕ) → Result (Unit {0}) ReplayFault → Type 0
PlaysCall {S} m i call before earlier states digests result =
    (first : S) (slots : Slots) → AllHold m first slots before
    → PlaysOrFails m first (play_call m first slots i call) earlier states digests result
