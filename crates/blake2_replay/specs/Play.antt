-- What a list of calls on hashers returns.
--
-- The definition knows the first slot's state only by its meaning. A slot is what it has absorbed:
-- its digest is the one that the first state returns after those bytes, or, once the slot was
-- reset, the one that the first state returns after a reset and those bytes. No slot holds a state.
use Rattle.std.specs.Prelude.{⊤, ℕ, ◌+◌, ◌^◌, ◌<◌, Bool, false, List, [], ◌∷◌, ◌++◌, length, nat_lt}
use Rattle.std.specs.Prelude.{if◌then◌else◌, Option, Some, None, Result, Ok, Err, IsOk, IsErr, take}
use Rattle.std.specs.Prelude.{slice_index_or, slice_set}
use Rattle.blake2_digest.specs.States.{Meaning}
use Rattle.blake2_replay.specs.declared.calls.Call.{Call}
use Rattle.blake2_replay.specs.declared.calls.Call.TheVariants.{Update, Clone, Reset, Finalize}
use Rattle.blake2_replay.specs.declared.calls.Call.TheVariants.{FinalizeReset}
use Rattle.blake2_replay.specs.declared.calls.ReplayFault.{ReplayFault}
use Rattle.blake2_replay.specs.declared.calls.ReplayFault.TheVariants.{NoSuchSlot, TooLong, Memory}

-- The bytes that a slot has absorbed since the list of calls began, or since its last reset.
pub data AbsorbedBytes : Type 0 where
  since_beginning : List ℕ → AbsorbedBytes
  since_reset : List ℕ → AbsorbedBytes

-- What a slot has absorbed after it absorbs these bytes too.
abbrev pub absorb_more : AbsorbedBytes → List ℕ → AbsorbedBytes
absorb_more (since_beginning x) y = since_beginning (x ++ y)
absorb_more (since_reset x) y = since_reset (x ++ y)

-- The digest of a slot under a last-node flag, if `first` is the first slot's initial state.
abbrev pub digest_under : {S : Type 0} → Meaning S → S → Bool → AbsorbedBytes → List ℕ
digest_under m first flag (since_beginning x) = m.future first flag x
digest_under m first flag (since_reset x) = m.started first flag x

-- The digest of a slot. No call of a list sets the last-node flag, so the flag is that of the first
-- state.
abbrev pub slot_digest : {S : Type 0} → Meaning S → S → AbsorbedBytes → List ℕ
slot_digest m first taken = digest_under m first (m.last_node first) taken

-- The number of bytes that a slot has counted.
abbrev pub count_of : {S : Type 0} → Meaning S → S → AbsorbedBytes → ℕ
count_of m first (since_beginning x) = m.count first + length x
count_of m first (since_reset x) = m.start_count first + length x

-- The slots in order. `None` is a slot that has ended.
abbrev pub Slots : Type 0
Slots = List (Option AbsorbedBytes)

-- The outcome of a call: the slots that it leaves, and the digests that it returns.
pub record Outcome : Type 0 where
  pub slots : Slots
  pub digests : List (List ℕ)

-- The slot that a call names.
abbrev pub slot_of : Call → ℕ
slot_of (Update k x) = k
slot_of (Clone k) = k
slot_of (Reset k) = k
slot_of (Finalize k) = k
slot_of (FinalizeReset k) = k

-- The outcome of a call that is not bad: it leaves these slots, and returns these digests.
abbrev pub ok_outcome : Slots → List (List ℕ) → Result Outcome ReplayFault
ok_outcome slots digests = Ok (record { slots = slots; digests = digests })

-- The outcome of the call at index i, whose slot has absorbed this. An update is bad if it would
-- bring the count to 2^64 or above.
abbrev pub play_live : {S : Type 0} → Meaning S → S → Slots → ℕ → Call → AbsorbedBytes
    → Result Outcome ReplayFault
play_live m first slots i (Update k x) taken =
    if nat_lt (count_of m first taken + length x.now) (2 ^ 64)
    then ok_outcome (slice_set slots k (Some (absorb_more taken x.now))) []
    else Err (TooLong i)
play_live m first slots i (Clone k) taken = ok_outcome (slots ++ Some taken ∷ []) []
play_live m first slots i (Reset k) taken =
    ok_outcome (slice_set slots k (Some (since_reset []))) []
play_live m first slots i (Finalize k) taken =
    ok_outcome (slice_set slots k None) (slot_digest m first taken ∷ [])
play_live m first slots i (FinalizeReset k) taken =
    ok_outcome (slice_set slots k (Some (since_reset []))) (slot_digest m first taken ∷ [])

-- The outcome that f has for what a slot has absorbed. The call at index i is bad if the slot is
-- absent or has ended.
abbrev pub outcome_at_slot : ℕ → Option AbsorbedBytes → (AbsorbedBytes → Result Outcome ReplayFault)
    → Result Outcome ReplayFault
outcome_at_slot i None f = Err (NoSuchSlot i)
outcome_at_slot i (Some taken) f = f taken

-- The outcome of the call at index i, on these slots.
abbrev pub play_call : {S : Type 0} → Meaning S → S → Slots → ℕ → Call → Result Outcome ReplayFault
play_call m first slots i call =
    outcome_at_slot i (slice_index_or slots (slot_of call) None) (play_live m first slots i call)

-- The digests of earlier calls, followed by those of later ones, or the error of a later one.
abbrev pub after : List (List ℕ) → Result (List (List ℕ)) ReplayFault
    → Result (List (List ℕ)) ReplayFault
after earlier (Ok later) = Ok (earlier ++ later)
after earlier (Err fault) = Err fault

-- The digests of a call, followed by those that f has for the slots that it leaves, or the error of
-- the call.
abbrev pub followed_by : Result Outcome ReplayFault → (Slots → Result (List (List ℕ)) ReplayFault)
    → Result (List (List ℕ)) ReplayFault
followed_by (Ok left) f = after left.digests (f left.slots)
followed_by (Err fault) f = Err fault

-- The digests of the calls from index i on, on these slots.
abbrev pub play_from : {S : Type 0} → Meaning S → S → List Call → Slots → ℕ
    → Result (List (List ℕ)) ReplayFault
play_from m first [] slots i = Ok []
play_from m first (call ∷ calls) slots i =
    followed_by (play_call m first slots i call) (λ next. play_from m first calls next (i + 1))

-- The digests of a list of calls, in the order of the calls, if slot 0 begins with the state
-- `first`. There are digests if no call is bad. Otherwise the error has the index of the first bad
-- call, and says why it is bad.
abbrev pub play : {S : Type 0} → Meaning S → S → List Call → Result (List (List ℕ)) ReplayFault
play m first calls = play_from m first calls (Some (since_beginning []) ∷ []) 0

-- The call at index i is the first bad one: it is one of the calls, those before it return digests,
-- and together with it they do not.
pub record IsFirstBad {S : Type 0} (m : Meaning S) (first : S) (calls : List Call)
    (i : ℕ) : Type 0 where
  pub within : i < length calls
  pub before : IsOk (play m first (take i calls))
  pub bad : IsErr (play m first (take (i + 1) calls))

-- The index that an error names is that of the first bad call.
abbrev pub NamesFirstBad : {S : Type 0} → Meaning S → S → List Call → ReplayFault → Type 0
NamesFirstBad m first calls (NoSuchSlot i) = IsFirstBad m first calls i
NamesFirstBad m first calls (TooLong i) = IsFirstBad m first calls i
NamesFirstBad m first calls Memory = ⊤

-- The meaning of a state at a start, whose digest of y is `digest y` under its own last-node flag,
-- and which begins with n counted bytes.
abbrev pub fresh_meaning : (List ℕ → List ℕ) → ℕ → Meaning (Unit {0})
fresh_meaning digest n = record {
  future = λ _ _. digest;
  started = λ _ _. digest;
  last_node = λ _. false;
  count = λ _. n;
  start_count = λ _. n;
}

-- The digests of a list of calls on a state at a start: each is that of the bytes since its slot's
-- last start.
abbrev pub play_fresh : (List ℕ → List ℕ) → ℕ → List Call → Result (List (List ℕ)) ReplayFault
play_fresh digest n calls = play (fresh_meaning digest n) tt calls
