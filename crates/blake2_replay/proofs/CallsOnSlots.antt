-- The slot that a call names is absent, has ended, or has a state that represents it.
use Rattle.std.proofs.Common.{◌≡◌, ℕ, ◌<◌, ◌≤◌, List, length, get_or, Option, Some, None, Err}
use Rattle.std.proofs.Common.{refl, sym, ap, subst}
use Rattle.blake2_digest.specs.States.{Meaning}
use Rattle.blake2_replay.specs.declared.calls.Call.{Call}
use Rattle.blake2_replay.specs.declared.calls.ReplayFault.TheVariants.{NoSuchSlot}
use Rattle.blake2_replay.specs.Play.{AbsorbedBytes, Slots, slot_of, outcome_at_slot, play_live, play_call}
use Rattle.blake2_replay.specs.SlotStates.{StandsFor, SlotHolds, AllHold}
use Rattle.blake2_replay.proofs.SlotPlaces.{SlotHolds-at_index, slot-absent_beyond_states}

module _ {S : Type 0} (m : Meaning S) (first : S) where
  -- A call whose slot is absent.
  pub play_call-absent_slot : (slots : Slots) (states : List (Option S)) (i k : ℕ) (call : Call)
      → AllHold m first slots states → k ≡ slot_of call → length states ≤ k
      → play_call m first slots i call ≡ Err (NoSuchSlot i)
  play_call-absent_slot slots states i k call all named beyond =
      let play = λ (slot : Option AbsorbedBytes). outcome_at_slot i slot (play_live m first slots i call) in
      rw (← named) (ap play (slot-absent_beyond_states m first slots states k all beyond))

  -- What is known of a call whose slot has an index among the states: o is found there.
  pub record IsFoundState (slots : Slots) (states : List (Option S)) (k : ℕ) (call : Call)
      (o : Option S) : Type 0 where
    pub all : AllHold m first slots states
    pub named : k ≡ slot_of call
    pub within : k < length states
    pub at_place : o ≡ get_or states k o

  -- So o represents the slot.
  found_holds : (slots : Slots) (states : List (Option S)) (k : ℕ) (call : Call) (o : Option S)
      → IsFoundState slots states k call o → SlotHolds m first (get_or slots k None) o
  found_holds slots states k call o f =
      subst (λ (p : Option S). SlotHolds m first (get_or slots k None) p) (sym f.at_place)
      (SlotHolds-at_index m first slots states k o f.all f.within)

  -- A slot with no state has ended.
  SlotHolds-no_state : (slot : Option AbsorbedBytes) → SlotHolds m first slot None → slot ≡ None
  SlotHolds-no_state None holds = refl
  SlotHolds-no_state (Some taken) holds = absurd holds

  -- A call whose slot has ended.
  pub play_call-ended_slot : (slots : Slots) (states : List (Option S)) (i k : ℕ) (call : Call)
      (o : Option S)
      → IsFoundState slots states k call o → o ≡ None
      → play_call m first slots i call ≡ Err (NoSuchSlot i)
  play_call-ended_slot slots states i k call o f none =
      let play = λ (slot : Option AbsorbedBytes). outcome_at_slot i slot (play_live m first slots i call) in
      let holds = subst (λ (p : Option S). SlotHolds m first (get_or slots k None) p) none
      (found_holds slots states k call o f) in
      rw (← f.named) (ap play (SlotHolds-no_state (get_or slots k None) holds))

  -- A slot with a state has absorbed something that the state represents.
  SlotHolds-some_state : (slot : Option AbsorbedBytes) (h : S) → SlotHolds m first slot (Some h)
      → (taken : AbsorbedBytes) × (slot ≡ Some taken) × StandsFor m first taken h
  SlotHolds-some_state None h holds = absurd holds
  SlotHolds-some_state (Some taken) h holds = (taken, refl, holds)

  -- What is known of a call whose slot is present, with the state h at index k.
  pub record IsLiveState (slots : Slots) (states : List (Option S)) (i k : ℕ) (call : Call)
      (h : S) : Type 0 where
    pub all : AllHold m first slots states
    pub named : k ≡ slot_of call
    pub taken : AbsorbedBytes
    pub plays : play_call m first slots i call ≡ play_live m first slots i call taken
    pub stands : StandsFor m first taken h

  -- A call has a slot that is present if a state is found.
  pub IsLiveState-if_found : (slots : Slots) (states : List (Option S)) (i k : ℕ) (call : Call)
      (o : Option S)
      (h : S)
      → IsFoundState slots states k call o → o ≡ Some h → IsLiveState slots states i k call h
  IsLiveState-if_found slots states i k call o h f some =
      let play = λ (slot : Option AbsorbedBytes). outcome_at_slot i slot (play_live m first slots i call) in
      let holds = subst (λ (p : Option S). SlotHolds m first (get_or slots k None) p) some
      (found_holds slots states k call o f) in
      let there = SlotHolds-some_state (get_or slots k None) h holds in
      record {
        all = f.all;
        named = f.named;
        taken = there.0;
        plays = rw (← f.named) (ap play there.1);
        stands = there.2;
      }
