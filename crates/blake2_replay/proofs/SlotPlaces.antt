-- States represent slots, index by index.
use Rattle.std.proofs.Common.{◌≡◌, ℕ, zero, suc, ◌<◌, ◌≤◌, List, [], ◌∷◌, ◌++◌, length, get_or}
use Rattle.std.proofs.Common.{Option, Some, None, refl, sym, ap, ◌∙◌, arith}
use Rattle.std.proofs.Math.ListN.{set}
use Rattle.std.proofs.lemmas.List.{set-get_or}
use Rattle.blake2_digest.specs.States.{Meaning}
use Rattle.blake2_replay.specs.Play.{AbsorbedBytes, Slots}
use Rattle.blake2_replay.specs.SlotStates.{SlotHolds, AllHold}

-- The state at an index, put back there, leaves the states as they were.
pub set_back-unchanged : {S : Type 0} (states : List (Option S)) (k : ℕ) (o : Option S) (h : S)
    → o ≡ get_or states k o → o ≡ Some h → set states k (Some h) ≡ states
set_back-unchanged states k o h found some =
    ap (set states k) (sym some ∙ found) ∙ set-get_or states k o

module _ {S : Type 0} (m : Meaning S) (first : S) where
  -- Each state represents the slot at its index.
  pub SlotHolds-at_index : (slots : Slots) (states : List (Option S)) (k : ℕ) (d : Option S)
      → AllHold m first slots states → k < length states
      → SlotHolds m first (get_or slots k None) (get_or states k d)
  SlotHolds-at_index [] [] k d all h = absurd (omega arith)
  SlotHolds-at_index [] (h ∷ hs) k d all _ = absurd all
  SlotHolds-at_index (slot ∷ slots) [] k d all _ = absurd all
  SlotHolds-at_index (slot ∷ slots) (h ∷ hs) zero d all _ = all.0
  SlotHolds-at_index (slot ∷ slots) (h ∷ hs) (suc k) d all le =
      SlotHolds-at_index slots hs k d all.1 (omega arith)

  -- There is no slot after the last state.
  pub slot-absent_beyond_states : (slots : Slots) (states : List (Option S)) (k : ℕ)
      → AllHold m first slots states → length states ≤ k
      → get_or slots k None ≡ None
  slot-absent_beyond_states [] [] k all h = refl
  slot-absent_beyond_states [] (h ∷ hs) k all _ = absurd all
  slot-absent_beyond_states (slot ∷ slots) [] k all _ = absurd all
  slot-absent_beyond_states (slot ∷ slots) (h ∷ hs) zero all le = absurd (omega arith)
  slot-absent_beyond_states (slot ∷ slots) (h ∷ hs) (suc k) all le =
      slot-absent_beyond_states slots hs k all.1 (omega arith)

  -- A slot and its state may be replaced together.
  pub AllHold-set : (slots : Slots) (states : List (Option S)) (k : ℕ) (slot : Option AbsorbedBytes)
      (h : Option S)
      → AllHold m first slots states → SlotHolds m first slot h
      → AllHold m first (set slots k slot) (set states k h)
  AllHold-set [] [] k slot h all one = tt
  AllHold-set [] (g ∷ hs) k slot h all one = absurd all
  AllHold-set (q ∷ slots) [] k slot h all one = absurd all
  AllHold-set (q ∷ slots) (g ∷ hs) zero slot h all one = (one, all.1)
  AllHold-set (q ∷ slots) (g ∷ hs) (suc k) slot h all one =
      (all.0, AllHold-set slots hs k slot h all.1 one)

  -- A slot and its state may be appended together.
  pub AllHold-push : (slots : Slots) (states : List (Option S)) (slot : Option AbsorbedBytes)
      (h : Option S)
      → AllHold m first slots states
      → SlotHolds m first slot h
      → AllHold m first (slots ++ slot ∷ []) (states ++ h ∷ [])
  AllHold-push [] [] slot h all one = (one, tt)
  AllHold-push [] (g ∷ hs) slot h all one = absurd all
  AllHold-push (q ∷ slots) [] slot h all one = absurd all
  AllHold-push (q ∷ slots) (g ∷ hs) slot h all one = (all.0, AllHold-push slots hs slot h all.1 one)
