-- Made by tools/twins.py from proofs/blake2b/State/write_digest/Answers.antt.
use Rattle.std.proofs.Common.{ℕ, ◌++◌, ◌+◌, List, take, drop, ap, ◌∙◌, arith}
use Rattle.std.proofs.lemmas.List.{length-take}
use Rattle.blake2_simd.specs.Family.{blake2s}
use Rattle.blake2_simd.specs.Rows.{chaining_words}
use Rattle.blake2_compress.specs.Hash.{bytes_of, compress}
use Rattle.blake2_compress.specs.Views.{given_flags}
use Rattle.blake2.specs.Cores.{CoreState}
use Rattle.blake2.proofs.CoreSteps.{completed-by}
use Rattle.blake2.proofs.StateLaws.{future-without_more_input}
use Rattle.blake2_state.specs.Blake2s.{state_of}
use Rattle.blake2_state.proofs.blake2s.State.write_digest.Goals as goal

pub returns : goal.returns
returns c =
    let held = c.args.self.now in
    let n : ℕ = held.output_size in
    let p : ℕ = held.pending_length in
    let long = length-take p held.pending in
    let flags = given_flags c.last_block-flags.result in
    let last = completed-by blake2s (state_of held).core (take p held.pending) p
    c.padded-block.result (chaining_words c.compress.new.h) flags
    (omega (arith, long, c.requires.ready.pending))
    c.padded-block.ensures c.last_block-flags.ensures
    (c.compress.ensures ∙ ap (λ (w : List ℕ). compress blake2s w c.padded-block.result
    (held.counter + p) flags) c.to_rows-h.ensures) in
    let whole = c.to_bytes-whole.ensures ∙ ap (λ (core : CoreState). bytes_of blake2s core.h) last in
    ap (λ (z : List ℕ). z ++ drop n c.args.out.now)
    (c.copy_from_slice.ensures.after ∙ ap (take n) whole
    ∙ future-without_more_input blake2s n (state_of held)
    (omega (arith, long, c.requires.ready.pending)))
