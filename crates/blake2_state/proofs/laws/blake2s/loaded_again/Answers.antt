-- Made by tools/twins.py from proofs/laws/blake2b/loaded_again/Answers.antt.
use Rattle.std.proofs.Common.{◌∙◌, ℕ, get_or, subst, sym, Fits, w32, rules}
use Rattle.blake2_simd.specs.Family.{blake2s}
use Rattle.blake2_simd.specs.Round.{AreWords}
use Rattle.blake2_state.specs.Blake2s.{state_of}
use Rattle.blake2_state.specs.SavedStates.{IsSavedState}
use Rattle.blake2_state.specs.declared.blake2s.State.{State}
use Rattle.blake2_state.proofs.SavedLaws.{MeansTheSame-if_states_equal, IsSomeAnd-by_implication}
use Rattle.blake2_state.proofs.SavedBlake2s.{HasWellTypedFields, CanBeSaved-is_savable}
use Rattle.blake2_state.proofs.laws.blake2s.loaded_again.Goals as goal

pub returns : goal.returns
returns c =
    let s : State = c.args.state.now in
    let chain : (i : ℕ) → Fits w32 (get_or c.to_words-chain.result i 0) = search rules in
    let first : (i : ℕ) → Fits w32 (get_or c.to_words-first.result i 0) = search rules in
    let t : HasWellTypedFields s = record {
      chain_length = search rules;
      chain = subst (AreWords blake2s) (c.to_words-chain.ensures ∙ c.to_rows.ensures)
          (λ (i : ℕ). (chain i).fits);
      first_length = search rules;
      first = subst (AreWords blake2s) (c.to_words-first.ensures ∙ c.to_rows-2.ensures)
          (λ (i : ℕ). (first i).fits);
      pending_length = search rules;
      pending = c.tell_bytes.ensures;
    } in
    let was : IsSavedState blake2s c.in_ok-saved.saved = record {
      size = s.output_size;
      state = state_of s;
      savable = CanBeSaved-is_savable s t c.requires;
      is = sym c.in_ok-saved.ensures.1;
    } in
    IsSomeAnd-by_implication c.load.result (c.load.ensures.accepted.1 was) (c.load.ensures.same was)
    (λ x h. (
      MeansTheSame-if_states_equal blake2s (λ (s : State). s.output_size) state_of s x h.0
          h.1,
      h.0,
    ))
