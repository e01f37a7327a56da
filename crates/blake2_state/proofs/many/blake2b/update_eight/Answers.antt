use Rattle.std.proofs.Common.{◌≡◌, ℕ, ◌+◌, ◌*◌, ◌<◌, ◌∷◌, [], List, length, take, slice_index_or}
use Rattle.std.proofs.Common.{sym, ap}
use Rattle.std.proofs.Common.{subst, ◌∙◌, arith, length-append}
use Rattle.std.specs.Simd.{first_chunks}
use Rattle.blake2_simd.specs.Family.{blake2b}
use Rattle.blake2_compress.specs.Hash.{chain}
use Rattle.blake2_compress.specs.Lanes.{block_lists}
use Rattle.blake2_digest.proofs.Cutting.{length-first_chunks}
use Rattle.blake2_state.specs.Blake2b.{Absorbed, CanAbsorb, pending_and_input_at, pending_and_input}
use Rattle.blake2_state.specs.Blake2b.{zeros}
use Rattle.blake2_state.specs.SeveralStates.{AreUpdated, input_bytes_at}
use Rattle.blake2_state.proofs.LaneRuns.{first_chunks-cons}
use Rattle.blake2_state.proofs.ManyBlake2b.{slice_index-holds_by_get_or}
use Rattle.blake2_state.proofs.ManyBlake2b.{get_or-holds_if_state_unchanged}
use Rattle.blake2_state.proofs.SeveralStates.{AreUpdated-empty_range, AreUpdated-set_next_state}
use Rattle.blake2_state.proofs.many.blake2b.update_eight.Goals as goal

pub continue_eight-words-requires-clause-same_number : goal.continue_eight-words-requires-clause-same_number
continue_eight-words-requires-clause-same_number c j lt =
    ap length (c.later_eight.ensures j lt) ∙ length-first_chunks 128 c.args.count _
    ∙ sym (ap length (c.later_eight.ensures 0 (omega arith)) ∙ length-first_chunks 128 c.args.count _)

pub continue_eight-words-requires-clause-counted : goal.continue_eight-words-requires-clause-counted
continue_eight-words-requires-clause-counted c j lt =
    let s = slice_index_or c.args.states.now (c.args.from + j) zeros in
    omega (
      arith,
      ap length (c.later_eight.ensures 0 (omega arith)) ∙ length-first_chunks 128 c.args.count _,
      c.counters.ensures j lt,
      (c.requires.can j lt).1,
      c.requires.enough j lt,
      length-append (take s.pending_length s.pending)
          (input_bytes_at c.args.inputs.now (c.args.from + j)),
    )

pub loop-j-init : goal.loop-j-init
loop-j-init c =
    let here : c.args.from + 0 ≡ c.args.from = omega arith in
    subst (AreUpdated Absorbed zeros c.args.states.now (input_bytes_at c.args.inputs.now)
    c.args.states.now c.args.from) (sym here)
    (AreUpdated-empty_range Absorbed zeros _ _ c.args.from)

pub go_on-requires-clause-can : goal.go_on-requires-clause-can
go_on-requires-clause-can c =
    let lt = c.loop-j-test.true in
    get_or-holds_if_state_unchanged CanAbsorb c.args.states.now c.loop-j.states c.args.inputs.now
    (c.args.from + c.loop-j.j)
    _ _ (omega (arith, lt, c.requires.states, c.loop-j.auto.states))
    (omega (arith, lt, c.requires.inputs)) (c.loop-j.invariant.after _ (omega arith))
    (c.requires.can c.loop-j.j lt)

pub go_on-requires-clause-least : goal.go_on-requires-clause-least
go_on-requires-clause-least c =
    let lt = c.loop-j-test.true in
    get_or-holds_if_state_unchanged (λ s x. 128 * c.args.count + 128 < length
    (pending_and_input s x)) c.args.states.now
    c.loop-j.states c.args.inputs.now (c.args.from + c.loop-j.j) _ _
    (omega (arith, lt, c.requires.states, c.loop-j.auto.states))
    (omega (arith, lt, c.requires.inputs)) (c.loop-j.invariant.after _ (omega arith))
    (c.requires.enough c.loop-j.j lt)

pub go_on-requires-clause-words : goal.go_on-requires-clause-words
go_on-requires-clause-words c =
    let lt = c.loop-j-test.true in
    let j : ℕ = c.loop-j.j in
    let n : ℕ = c.args.count in
    let s = slice_index_or c.args.states.now (c.args.from + j) zeros in
    let y : List ℕ = pending_and_input_at c.args.states.now c.args.inputs.now (c.args.from + j) in
    let number : length (slice_index_or (block_lists c.later_eight.result) 0 []) ≡ n =
    ap length (c.later_eight.ensures 0 (omega arith)) ∙ length-first_chunks 128 n _ in
    let words : slice_index_or c.continue_eight-words.result j []
    ≡ chain blake2b s.chain s.counter (first_chunks 128 (n + 1) y) (n + 1) =
    c.continue_eight-words.ensures j lt
    ∙ (λ i. chain blake2b (c.chains.ensures.words j lt i) (c.counters.ensures j lt i)
    (c.leading_blocks.ensures j lt i ∷ c.later_eight.ensures j lt i) (number i + 1))
    ∙ ap (λ (l : List (List ℕ)). chain blake2b s.chain s.counter l (n + 1))
    (first_chunks-cons 128 n y) in
    get_or-holds_if_state_unchanged (λ s x. slice_index_or c.continue_eight-words.result j []
    ≡ chain blake2b s.chain s.counter (first_chunks 128 (n + 1) (pending_and_input s x)) (n + 1))
    c.args.states.now c.loop-j.states c.args.inputs.now (c.args.from + j) _ _
    (omega (arith, lt, c.requires.states, c.loop-j.auto.states))
    (omega (arith, lt, c.requires.inputs)) (c.loop-j.invariant.after _ (omega arith)) words

pub loop-j-preserved : goal.loop-j-preserved
loop-j-preserved c =
    let lt = c.loop-j-test.true in
    let old = c.args.states.now in
    let inputs = c.args.inputs.now in
    let i : ℕ = c.args.from + c.loop-j.j in
    let next : i + 1 ≡ c.args.from + (c.loop-j.j + 1) = omega arith in
    let within : i < length c.loop-j.states =
    omega (arith, lt, c.requires.states, c.loop-j.auto.states) in
    let here : Absorbed (slice_index_or old i zeros) (input_bytes_at inputs i) c.go_on.new.state =
    subst (λ s. Absorbed s (input_bytes_at inputs i) c.go_on.new.state)
    (c.loop-j.invariant.after i (omega arith))
    (slice_index-holds_by_get_or (λ s x. Absorbed s x c.go_on.new.state) c.loop-j.states inputs i _
    _ within
    (omega (arith, lt, c.requires.inputs)) c.go_on.ensures) in
    subst (AreUpdated Absorbed zeros old (input_bytes_at inputs) _ c.args.from) next
    (AreUpdated-set_next_state Absorbed zeros old c.loop-j.states (input_bytes_at inputs)
    c.args.from i
    c.go_on.new.state c.loop-j.invariant (omega arith) within here)
