-- What a call leaves if its slot has a state: states that represent the slots again.
use Rattle.std.proofs.Common.{◌≡◌, ℕ, ◌+◌, ◌-◌, ◌^◌, ◌<◌, ◌≤◌, List, [], ◌∷◌, ◌++◌, length}
use Rattle.std.proofs.Common.{Option, Some, None, Result, Ok, Err, OnOk, IsOkUnless, inl, refl, sym}
use Rattle.std.proofs.Common.{ap, ◌∙◌, arith}
use Rattle.std.proofs.Math.ListN.{set}
use Rattle.std.proofs.lemmas.List.{append-nil}
use Rattle.std.proofs.lemmas.Bool.{lt-ltb, le-ltb}
use Rattle.std.specs.Borrow.{Bor}
use Rattle.blake2_digest.specs.States.{Meaning, digest_now, Updated, ResetToStart}
use Rattle.blake2_replay.specs.declared.calls.Call.{Call}
use Rattle.blake2_replay.specs.declared.calls.Call.TheVariants.{Update, Clone, Reset, Finalize}
use Rattle.blake2_replay.specs.declared.calls.Call.TheVariants.{FinalizeReset}
use Rattle.blake2_replay.specs.declared.calls.ReplayFault.{ReplayFault}
use Rattle.blake2_replay.specs.declared.calls.ReplayFault.TheVariants.{TooLong, Memory}
use Rattle.blake2_replay.specs.Play.{since_reset, Slots, Outcome, AbsorbedBytes, absorb_more}
use Rattle.blake2_replay.specs.Play.{slot_digest}
use Rattle.blake2_replay.specs.Play.{count_of, slot_of, ok_outcome, play_live, play_call}
use Rattle.blake2_replay.specs.SlotStates.{SlotHolds, HasPlayed, PlaysOrFails}
use Rattle.blake2_replay.proofs.CallsOnSlots.{IsLiveState}
use Rattle.blake2_replay.proofs.SlotPlaces.{AllHold-set, AllHold-push}
use Rattle.blake2_replay.proofs.StandsForLaws.{StandsFor-updated, StandsFor-reset}
use Rattle.blake2_replay.proofs.StandsForLaws.{digest_now-is_slot_digest}

-- What a call on a live slot leaves, by its kind.
module _ {S : Type 0} {m : Meaning S} {first : S} {slots : Slots} {states : List
    (Option S)} {i k : ℕ} {call : Call} {h : S}
    (live : IsLiveState m first slots states i k call h) where
  -- The call is played on what its slot has absorbed.
  plays_as : (kind : Call) → call ≡ kind
      → play_call m first slots i call ≡ play_live m first slots i kind live.taken
  plays_as kind is = live.plays ∙ ap (λ (c : Call). play_live m first slots i c live.taken) is

  -- The state was replaced by another, and digests were appended to the earlier ones.
  state_replaced : (kind : Call) (slot : Option AbsorbedBytes) (new : Option S)
      (xs earlier digests : List (List ℕ))
      → call ≡ kind → SlotHolds m first slot new
      → play_live m first slots i kind live.taken ≡ ok_outcome (set slots (slot_of kind) slot) xs
      → digests ≡ earlier ++ xs
      → HasPlayed m first (play_call m first slots i call) earlier (set states k new) digests
  state_replaced kind slot new xs earlier digests is one left added =
      let here : k ≡ slot_of kind = live.named ∙ ap slot_of is in
      record {
        outcome = record { slots = set slots (slot_of kind) slot; digests = xs };
        played_is = plays_as kind is ∙ left;
        held = rw here (AllHold-set m first slots states (slot_of kind) slot new live.all one);
        digests_are = added;
      }

  -- The bytes that the slot has counted are those that the state has.
  count_of-is_state_count : (n : ℕ) → n ≡ m.count h → count_of m first live.taken ≡ n
  count_of-is_state_count n e = sym live.stands.count ∙ sym e

  -- An update of a state that has counted n bytes, if it fits.
  pub live_update-plays : (j n : ℕ) (x : Bor (List ℕ)) (new : S) (earlier : List (List ℕ))
      → call ≡ Update j x → n ≡ m.count h → length x.now ≤ 2 ^ 64 - 1 - n → n < 2 ^ 64
      → Updated m h x.now new
      → HasPlayed m first (play_call m first slots i call) earlier (set states k (Some new)) earlier
  live_update-plays j n x new earlier is e room below u =
      let fits : count_of m first live.taken + length x.now < 2 ^ 64 =
      omega (arith, count_of-is_state_count n e) in
      let slot : Option AbsorbedBytes = Some (absorb_more live.taken x.now) in
      state_replaced (Update j x) slot (Some new) [] earlier earlier is
      (StandsFor-updated m first live.taken h new x.now live.stands u)
      (rw (lt-ltb (count_of m first live.taken + length x.now) (2 ^ 64) fits) refl)
      (sym (append-nil earlier))

  -- An update of a state that has counted n bytes, if it does not fit.
  pub long_update-fails : (j n : ℕ) (x : Bor (List ℕ)) → call ≡ Update j x → n ≡ m.count h
      → 2 ^ 64 - 1 - n < length x.now → play_call m first slots i call ≡ Err (TooLong i)
  long_update-fails j n x is e beyond =
      let too_far : 2 ^ 64 ≤ count_of m first live.taken + length x.now =
      omega (arith, count_of-is_state_count n e) in
      plays_as (Update j x) is
      ∙ rw (le-ltb (count_of m first live.taken + length x.now) (2 ^ 64) too_far) refl

  -- A copy became the next slot.
  pub live_clone-plays : (j : ℕ) (earlier : List (List ℕ)) → call ≡ Clone j
      → HasPlayed m first (play_call m first slots i call) earlier (states ++ Some h ∷ []) earlier
  live_clone-plays j earlier is = record {
    outcome = record { slots = slots ++ Some live.taken ∷ []; digests = [] };
    played_is = plays_as (Clone j) is;
    held = AllHold-push m first slots states (Some live.taken) (Some h) live.all live.stands;
    digests_are = sym (append-nil earlier);
  }

  -- The state was reset.
  pub live_reset-plays : (j : ℕ) (new : S) (earlier : List (List ℕ)) → call ≡ Reset j
      → ResetToStart m h new
      → HasPlayed m first (play_call m first slots i call) earlier (set states k (Some new)) earlier
  live_reset-plays j new earlier is again =
      state_replaced (Reset j) (Some (since_reset [])) (Some new) [] earlier earlier is
      (StandsFor-reset m first live.taken h new live.stands again) refl (sym (append-nil earlier))

  -- A digest of the state that is appended to the earlier ones is that of its slot.
  digest_added : (d : List ℕ) (earlier digests : List (List ℕ)) → d ≡ digest_now m h
      → digests ≡ earlier ++ d ∷ [] → digests ≡ earlier ++ slot_digest m first live.taken ∷ []
  digest_added d earlier digests e added =
      let same = e ∙ digest_now-is_slot_digest m first live.taken h live.stands in
      added ∙ ap (λ (x : List ℕ). earlier ++ x ∷ []) same

  -- The state returned its digest, and is gone.
  pub live_finalize-plays : (j : ℕ) (d : List ℕ) (earlier digests : List (List ℕ))
      → call ≡ Finalize j
      → d ≡ digest_now m h → digests ≡ earlier ++ d ∷ []
      → HasPlayed m first (play_call m first slots i call) earlier (set states k None) digests
  live_finalize-plays j d earlier digests is e added =
      state_replaced (Finalize j) None None _ earlier digests is tt refl
      (digest_added d earlier digests e added)

  -- The state returned its digest, and was reset.
  pub live_finalize_reset-plays : (j : ℕ) (new : S) (d : List ℕ) (earlier digests : List (List ℕ))
      → call ≡ FinalizeReset j → ResetToStart m h new → d ≡ digest_now m h
      → digests ≡ earlier ++ d ∷ []
      → HasPlayed m first (play_call m first slots i call) earlier (set states k (Some new)) digests
  live_finalize_reset-plays j new d earlier digests is again e added =
      state_replaced (FinalizeReset j) (Some (since_reset [])) (Some new) _ earlier digests is
      (StandsFor-reset m first live.taken h new live.stands again) refl
      (digest_added d earlier digests e added)

-- A call whose last step is a push, which runs out of memory or does P.
pub answers_by_push : {S : Type 0} {m : Meaning S} {first : S} {played : Result Outcome ReplayFault}
    {earlier digests : List (List ℕ)} {states : List (Option S)}
    (pushed : Result (Unit {0}) ReplayFault) (P : Type 0)
    → OnOk pushed P → IsOkUnless pushed Memory
    → (P → HasPlayed m first played earlier states digests)
    → PlaysOrFails m first played earlier states digests pushed
answers_by_push (Ok _) P did refused f = f did
answers_by_push (Err fault) P did refused f = inl refused
