-- The index that an error names is that of the first bad call.
use Rattle.std.proofs.Common.{◌≡◌, ℕ, suc, ◌+◌, ◌^◌, ◌<◌, List, [], ◌∷◌, length, take, Bool, true}
use Rattle.std.proofs.Common.{false, Option, Some, None, Result, Ok}
use Rattle.std.proofs.Common.{Err, IsOk, IsErr, if◌then◌else◌, nat_lt, get_or, add-one, ◌⊎◌, inl}
use Rattle.std.proofs.Common.{inr, refl, ap, subst, ◌∙◌, arith}
use Rattle.blake2_digest.specs.States.{Meaning}
use Rattle.blake2_replay.specs.declared.calls.Call.{Call}
use Rattle.blake2_replay.specs.declared.calls.Call.TheVariants.{Update, Clone, Reset, Finalize}
use Rattle.blake2_replay.specs.declared.calls.Call.TheVariants.{FinalizeReset}
use Rattle.blake2_replay.specs.declared.calls.ReplayFault.{ReplayFault}
use Rattle.blake2_replay.specs.declared.calls.ReplayFault.TheVariants.{NoSuchSlot, TooLong, Memory}
use Rattle.blake2_replay.specs.Play.{AbsorbedBytes, since_beginning, Slots, Outcome, count_of}
use Rattle.blake2_replay.specs.Play.{slot_of}
use Rattle.blake2_replay.specs.Play.{outcome_at_slot, play_live, play_call, followed_by}
use Rattle.blake2_replay.specs.Play.{after, play_from, play, IsFirstBad, NamesFirstBad}

-- What a list of calls returns: its digests, or the error of its first bad call.
abbrev pub Played : Type 0
Played = Result (List (List ℕ)) ReplayFault

-- An error of the call at index i.
abbrev IsAt : ℕ → ReplayFault → Type 0
IsAt i (NoSuchSlot j) = j ≡ i
IsAt i (TooLong j) = j ≡ i
IsAt i Memory = ⊥

-- The error of an update names its index.
update_fault-names_index : (b : Bool) (i : ℕ) (left : Outcome) (fault : ReplayFault)
    → if b then Ok left else Err (TooLong i) ≡ Err fault → IsAt i fault
update_fault-names_index true i left fault e = cc
update_fault-names_index false i left fault e = let same : TooLong i ≡ fault = cc in
    subst (IsAt i) same refl

-- The error of a call names its index, if it does so on each slot that is present.
slot_fault-names_index : (i : ℕ) (slot : Option AbsorbedBytes)
    (f : AbsorbedBytes → Result Outcome ReplayFault)
    (fault : ReplayFault)
    → ((taken : AbsorbedBytes) → f taken ≡ Err fault → IsAt i fault) → outcome_at_slot i slot f ≡ Err fault
    → IsAt i fault
slot_fault-names_index i None f fault h e = let same : NoSuchSlot i ≡ fault = cc in
    subst (IsAt i) same refl
slot_fault-names_index i (Some taken) f fault h e = h taken e

-- An error after earlier digests is the error.
after-reflects_fault : (earlier : List (List ℕ)) (p : Played) (fault : ReplayFault)
    → after earlier p ≡ Err fault → p ≡ Err fault
after-reflects_fault earlier (Ok later) fault e = cc
after-reflects_fault earlier (Err other) fault e = e

-- Digests after earlier digests are digests.
after-keeps_ok : (earlier : List (List ℕ)) (p : Played) → IsOk p → IsOk (after earlier p)
after-keeps_ok earlier (Ok later) good = refl
after-keeps_ok earlier (Err fault) good = cc

-- What is refused after earlier digests is refused.
after-keeps_err : (earlier : List (List ℕ)) (p : Played) → IsErr p → IsErr (after earlier p)
after-keeps_err earlier (Ok later) bad = cc
after-keeps_err earlier (Err fault) bad = refl

module _ {S : Type 0} (m : Meaning S) (first : S) where
  -- The error of a call whose slot is present names its index.
  play_live_fault-names_index : (slots : Slots) (i : ℕ) (call : Call) (taken : AbsorbedBytes)
      (fault : ReplayFault)
      → play_live m first slots i call taken ≡ Err fault → IsAt i fault
  play_live_fault-names_index slots i (Update k x) taken fault e =
      update_fault-names_index (nat_lt (count_of m first taken + length x.now) (2 ^ 64)) i _ fault e
  play_live_fault-names_index slots i (Clone k) taken fault e = cc
  play_live_fault-names_index slots i (Reset k) taken fault e = cc
  play_live_fault-names_index slots i (Finalize k) taken fault e = cc
  play_live_fault-names_index slots i (FinalizeReset k) taken fault e = cc

  -- The error of a bad call names its index.
  play_call_fault-names_index : (slots : Slots) (i : ℕ) (call : Call) (fault : ReplayFault)
      → play_call m first slots i call ≡ Err fault → IsAt i fault
  play_call_fault-names_index slots i call fault e =
      slot_fault-names_index i (get_or slots (slot_of call) None) (play_live m first slots i call)
      fault
      (λ taken. play_live_fault-names_index slots i call taken fault) e

  -- n calls from index i on return digests, and one more does not.
  record StopsAfter (calls : List Call) (slots : Slots) (i : ℕ) (fault : ReplayFault) : Type 0 where
    count : ℕ
    within : count < length calls
    before : IsOk (play_from m first (take count calls) slots i)
    bad : IsErr (play_from m first (take (suc count) calls) slots i)
    place : IsAt (i + count) fault

  -- The first call is bad.
  StopsAfter-first_call : (call : Call) (calls : List Call) (slots : Slots) (i : ℕ)
      (fault : ReplayFault)
      → play_call m first slots i call ≡ Err fault
      → StopsAfter (call ∷ calls) slots i fault
  StopsAfter-first_call call calls slots i fault is = record {
    count = 0;
    within = omega arith;
    before = refl;
    bad = rw is refl;
    place = let here : i ≡ i + 0 = omega arith in
        subst (λ (j : ℕ). IsAt j fault) here (play_call_fault-names_index slots i call fault is);
  }

  -- The first call goes on, and a later one is bad.
  StopsAfter-later_call : (call : Call) (calls : List Call) (slots : Slots) (i : ℕ)
      (fault : ReplayFault)
      (left : Outcome)
      → play_call m first slots i call ≡ Ok left → StopsAfter calls left.slots (i + 1) fault
      → StopsAfter (call ∷ calls) slots i fault
  StopsAfter-later_call call calls slots i fault left is rest = record {
    count = suc rest.count;
    within = omega (arith, rest.within);
    before = rw is (after-keeps_ok left.digests _ rest.before);
    bad = rw is (after-keeps_err left.digests _ rest.bad);
    place = let there : i + 1 + rest.count ≡ i + suc rest.count = omega arith in
        subst (λ (j : ℕ). IsAt j fault) there rest.place;
  }

  -- So the list stops, whatever its first call does.
  StopsAfter-either_call : (call : Call) (calls : List Call) (slots : Slots) (i : ℕ)
      (fault : ReplayFault)
      (r : Result Outcome ReplayFault)
      → play_call m first slots i call ≡ r
      → ((next : Slots) → play_from m first calls next (i + 1) ≡ Err fault
      → StopsAfter calls next (i + 1) fault)
      → followed_by r (λ next. play_from m first calls next (i + 1)) ≡ Err fault
      → StopsAfter (call ∷ calls) slots i fault
  StopsAfter-either_call call calls slots i fault (Err other) is later e =
      let same : other ≡ fault = cc in
      StopsAfter-first_call call calls slots i fault (is ∙ ap Err same)
  StopsAfter-either_call call calls slots i fault (Ok left) is later e =
      StopsAfter-later_call call calls slots i fault left is (later left.slots
      (after-reflects_fault left.digests _ fault e))

  -- A list that returns an error stops at some call, and the error names the index of that call.
  StopsAfter-if_fault : (calls : List Call) (slots : Slots) (i : ℕ) (fault : ReplayFault)
      → play_from m first calls slots i ≡ Err fault
      → StopsAfter calls slots i fault
  StopsAfter-if_fault [] slots i fault e = cc
  StopsAfter-if_fault (call ∷ calls) slots i fault e =
      StopsAfter-either_call call calls slots i fault (play_call m first slots i call) refl
      (λ next. StopsAfter-if_fault calls next (i + 1) fault) e

  -- n calls from the first on are those before index n.
  first_bad : (calls : List Call) (j n : ℕ) → j ≡ 0 + n → n < length calls
      → IsOk (play m first (take n calls))
      → IsErr (play m first (take (suc n) calls)) → IsFirstBad m first calls j
  first_bad calls j n at within before bad =
      let same : j ≡ n = omega arith in
      record { within = rw same within; before = rw same before; bad = rw (same, add-one) bad }

  -- The list stops at the index that an error names.
  fault_index-is_first_bad : (calls : List Call) (fault : ReplayFault)
      → StopsAfter calls (Some (since_beginning []) ∷ []) 0 fault
      → NamesFirstBad m first calls fault
  fault_index-is_first_bad calls (NoSuchSlot j) s =
      first_bad calls j s.count s.place s.within s.before s.bad
  fault_index-is_first_bad calls (TooLong j) s =
      first_bad calls j s.count s.place s.within s.before s.bad
  fault_index-is_first_bad calls Memory s = tt

  -- An error other than being out of memory names the index of the first bad call.
  pub fault-names_first_bad : (calls : List Call) (fault : ReplayFault)
      → (fault ≡ Memory) ⊎ (play m first calls ≡ Err fault)
      → NamesFirstBad m first calls fault
  fault-names_first_bad calls fault (inl memory) = rw memory tt
  fault-names_first_bad calls fault (inr e) = fault_index-is_first_bad calls fault
      (StopsAfter-if_fault calls (Some (since_beginning []) ∷ []) 0 fault e)
