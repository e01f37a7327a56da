-- Made by tools/twins.py from proofs/blake2b/State/load/Answers.antt.
use Rattle.std.proofs.Common.{◌≡◌, List, ℕ, false, arith, rules, refl, sym, subst}
use Rattle.blake2_simd.specs.Family.{blake2s}
use Rattle.blake2_state.specs.Blake2s.{CanBeSaved, saved_bytes, state_of}
use Rattle.blake2_state.specs.declared.blake2s.State.{State}
use Rattle.blake2_state.proofs.SavedLaws.{BytesDecodeTo, decoded_state-is_encoded_state}
use Rattle.blake2_state.proofs.SavedLaws.{saved_bytes-decode_to_state}
use Rattle.blake2_state.proofs.SavedBlake2s.{HasWellTypedFields, decoded, decoded-can_be_saved}
use Rattle.blake2_state.proofs.SavedBlake2s.{decoded-has_well_typed_fields}
use Rattle.blake2_state.proofs.SavedBlake2s.{decoded-is_saved_as_bytes}
use Rattle.blake2_state.proofs.SavedBlake2s.{decoded-holds_only_saved_data, CanBeSaved-is_savable}
use Rattle.blake2_state.proofs.blake2s.State.load.Goals as goal

pub returns-then-saved-ne147-clause-accepted : goal.returns-then-saved-ne147-clause-accepted
returns-then-saved-ne147-clause-accepted c = (
  λ none. absurd (search rules),
  λ a. absurd (omega (
    arith,
    (saved_bytes-decode_to_state blake2s c.args.saved.now a).whole,
    c.if-saved-ne147.true,
  )),
)

pub returns-then-not-is_saved_as-clause-accepted : goal.returns-then-not-is_saved_as-clause-accepted
returns-then-not-is_saved_as-clause-accepted c = (
  λ none. absurd (search rules),
  λ a.
      let saved : List ℕ = c.args.saved.now in
      let facts = subst (λ (s : State). CanBeSaved s × (saved_bytes s ≡ saved))
      (sym c.decoded-state.ensures) (
        decoded-can_be_saved saved a,
        decoded-is_saved_as_bytes saved a,
      ) in
      let no : c.is_saved_as.result ≡ false = c.if-not-is_saved_as.true in
      absurd (search (rules, no, c.is_saved_as.ensures.1 facts)),
)

pub returns-clause-accepted : goal.returns-clause-accepted
returns-clause-accepted c =
    let saved : List ℕ = c.args.saved.now in
    let facts = subst (λ (s : State). CanBeSaved s × (saved_bytes s ≡ saved))
    c.decoded-state.ensures (c.is_saved_as.ensures.0 c.if-not-is_saved_as.false) in
    let t : HasWellTypedFields (decoded saved) =
    decoded-has_well_typed_fields saved c.if-saved-ne147.false (search rules) in (
      λ some. record {
        size = (decoded saved).output_size;
        state = state_of (decoded saved);
        savable = CanBeSaved-is_savable (decoded saved) t facts.0;
        is = facts.1;
      },
      λ a. refl,
    )

pub returns-clause-no_more : goal.returns-clause-no_more
returns-clause-no_more c =
    let saved : List ℕ = c.args.saved.now in
    let facts = subst (λ (s : State). CanBeSaved s × (saved_bytes s ≡ saved))
    c.decoded-state.ensures (c.is_saved_as.ensures.0 c.if-not-is_saved_as.false) in
    let t : HasWellTypedFields (decoded saved) =
    decoded-has_well_typed_fields saved c.if-saved-ne147.false (search rules) in
    rw c.decoded-state.ensures (decoded-holds_only_saved_data saved t facts.0 facts.1)

pub returns-clause-same : goal.returns-clause-same
returns-clause-same c = λ was.
    let saved : List ℕ = c.args.saved.now in
    let r : BytesDecodeTo blake2s was.size was.state saved =
    saved_bytes-decode_to_state blake2s saved was in
    subst (λ (s : State). (s.output_size ≡ was.size) × (state_of s ≡ was.state))
    (sym c.decoded-state.ensures) (
      r.output_size,
      decoded_state-is_encoded_state blake2s was.size was.state saved
          was.savable.start r,
    )
