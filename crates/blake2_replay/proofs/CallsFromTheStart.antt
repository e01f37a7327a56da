-- A list of calls on a state at its start.
use Rattle.std.proofs.Common.{◌≡◌, ℕ, ◌+◌, ◌^◌, List, [], ◌∷◌, length, Bool, false, Option, Some}
use Rattle.std.proofs.Common.{None, Result, Ok, Err, if◌then◌else◌}
use Rattle.std.proofs.Common.{nat_lt, get_or, refl, ap, ◌∙◌}
use Rattle.std.proofs.Math.ListN.{set}
use Rattle.blake2_digest.specs.States.{Meaning, Fresh, IsAtStart}
use Rattle.blake2_replay.specs.declared.calls.Call.{Call}
use Rattle.blake2_replay.specs.declared.calls.Call.TheVariants.{Update, Clone, Reset, Finalize}
use Rattle.blake2_replay.specs.declared.calls.Call.TheVariants.{FinalizeReset}
use Rattle.blake2_replay.specs.declared.calls.ReplayFault.{ReplayFault}
use Rattle.blake2_replay.specs.declared.calls.ReplayFault.TheVariants.{TooLong}
use Rattle.blake2_replay.specs.Play.{AbsorbedBytes, since_beginning, since_reset, Slots, Outcome}
use Rattle.blake2_replay.specs.Play.{outcome_at_slot}
use Rattle.blake2_replay.specs.Play.{absorb_more, slot_digest, count_of, ok_outcome}
use Rattle.blake2_replay.specs.Play.{play_call, followed_by, after, play, play_from, fresh_meaning}
use Rattle.blake2_replay.specs.Play.{play_fresh}

-- What is done to a slot may be expressed in another way.
at_slot-congruent : (i : ℕ) (slot : Option AbsorbedBytes)
    (f g : AbsorbedBytes → Result Outcome ReplayFault)
    → ((taken : AbsorbedBytes) → f taken ≡ g taken)
    → outcome_at_slot i slot f ≡ outcome_at_slot i slot g
at_slot-congruent i None f g e = refl
at_slot-congruent i (Some taken) f g e = e taken

-- What follows from the slots may be expressed in another way.
followed_by-congruent_in_rest : (r : Result Outcome ReplayFault)
    (f g : Slots → Result (List (List ℕ)) ReplayFault)
    → ((next : Slots) → f next ≡ g next)
    → followed_by r f ≡ followed_by r g
followed_by-congruent_in_rest (Ok left) f g e = ap (after left.digests) (e left.slots)
followed_by-congruent_in_rest (Err fault) f g e = refl

module _ {S : Type 0} (m : Meaning S) (first : S) (digest : Bool → List ℕ → List ℕ) (n : ℕ)
    (start : IsAtStart m digest n first) where
  -- The meaning of a state at its start, under the flag of this one.
  abbrev start_meaning : Meaning (Unit {0})
  start_meaning = fresh_meaning (digest (m.last_node first)) n

  -- Each slot has the digest of what it has absorbed, whatever its mark.
  slot_digest-same_at_start : (taken : AbsorbedBytes)
      → slot_digest m first taken ≡ slot_digest start_meaning tt taken
  slot_digest-same_at_start (since_beginning x) = start.future (m.last_node first) x
  slot_digest-same_at_start (since_reset x) = start.started (m.last_node first) x

  -- Each slot counts from n.
  count_of-same_at_start : (taken : AbsorbedBytes)
      → count_of m first taken ≡ count_of start_meaning tt taken
  count_of-same_at_start (since_beginning x) = ap (λ (k : ℕ). k + length x) start.count
  count_of-same_at_start (since_reset x) = ap (λ (k : ℕ). k + length x) start.start_count

  -- One call.
  play_call-same_at_start : (slots : Slots) (i : ℕ) (call : Call)
      → play_call m first slots i call ≡ play_call start_meaning tt slots i call
  play_call-same_at_start slots i (Update k x) =
      at_slot-congruent i (get_or slots k None) _ _
      (λ taken. ap (λ (l : ℕ). if nat_lt (l + length x.now) (2 ^ 64) then ok_outcome
      (set slots k (Some (absorb_more taken x.now))) [] else Err
      (TooLong i)) (count_of-same_at_start taken))
  play_call-same_at_start slots i (Clone k) = refl
  play_call-same_at_start slots i (Reset k) = refl
  play_call-same_at_start slots i (Finalize k) =
      at_slot-congruent i (get_or slots k None) _ _ (λ taken.
      ap (λ (d : List ℕ). ok_outcome (set slots k None) (d ∷ [])) (slot_digest-same_at_start taken))
  play_call-same_at_start slots i (FinalizeReset k) =
      at_slot-congruent i (get_or slots k None) _ _ (λ taken.
      ap (λ (d : List ℕ). ok_outcome (set slots k (Some (since_reset []))) (d ∷ []))
      (slot_digest-same_at_start taken))

  -- A list of calls from an index on.
  play_from-same_at_start : (calls : List Call) (slots : Slots) (i : ℕ)
      → play_from m first calls slots i ≡ play_from start_meaning tt calls slots i
  play_from-same_at_start [] slots i = refl
  play_from-same_at_start (call ∷ calls) slots i =
      ap (λ (r : Result Outcome ReplayFault). followed_by r
      (λ (next : Slots). play_from m first calls next (i + 1)))
      (play_call-same_at_start slots i call)
      ∙ followed_by-congruent_in_rest (play_call start_meaning tt slots i call) _ _
      (λ next. play_from-same_at_start calls next (i + 1))

  -- A list of calls on a state at its start.
  pub play_at_start : (calls : List Call)
      → play m first calls ≡ play_fresh (digest (m.last_node first)) n calls
  play_at_start calls = play_from-same_at_start calls (Some (since_beginning []) ∷ []) 0

-- A state that has just been initialized is at its start.
IsAtStart-if_fresh : {S : Type 0} (m : Meaning S) (first : S) (digest : Bool → List ℕ → List ℕ)
    (n : ℕ)
    → Fresh m digest n first → IsAtStart m digest n first
IsAtStart-if_fresh m first digest n fresh = record {
  future = fresh.future;
  started = fresh.started;
  count = fresh.count;
  start_count = fresh.start_count;
}

-- A list of calls on a state that has just been initialized, whose flag is off.
pub play-equals_play_fresh : {S : Type 0} (m : Meaning S) (first : S)
    (digest : Bool → List ℕ → List ℕ) (n : ℕ)
    (fresh : Fresh m digest n first) (calls : List Call)
    → play m first calls ≡ play_fresh (digest false) n calls
play-equals_play_fresh m first digest n fresh calls =
    play_at_start m first digest n (IsAtStart-if_fresh m first digest n fresh) calls
    ∙ ap (λ (flag : Bool). play_fresh (digest flag) n calls) fresh.last_node
