-- Made by tools/twins.py from proofs/many/blake2b/go_on/Answers.antt.
use Rattle.std.proofs.Common.{◌≡◌, ◌+◌, ◌*◌, ◌≤◌, ◌++◌, ℕ, List, length, take, sym, ap, subst, ◌∙◌}
use Rattle.std.proofs.Common.{arith, rules, length-append}
use Rattle.std.proofs.lemmas.List.{length-take, length-take-le, take-append-drop}
use Rattle.std.specs.Simd.{first_chunks}
use Rattle.blake2_simd.specs.Family.{blake2s}
use Rattle.blake2_compress.specs.Hash.{chain}
use Rattle.blake2_digest.specs.States.{Updated}
use Rattle.blake2_state.specs.Blake2s.{meaning}
use Rattle.blake2_state.proofs.LaneRuns.{first_chunks-unchanged_by_later_input}
use Rattle.blake2_streams.proofs.StreamLemmas.{Updated-trans}
use Rattle.blake2_state.proofs.many.blake2s.go_on.Goals as goal

pub absorb_run-requires-clause-words : goal.absorb_run-requires-clause-words
absorb_run-requires-clause-words c =
    let s = c.args.state.now in
    let p : ℕ = s.pending_length in
    let x : List ℕ = c.args.input.now in
    let n : ℕ = c.args.count in
    let e : ℕ = c.min.result in
    let held : List ℕ = take p s.pending in
    let block : length s.pending ≡ 64 = search rules in
    let long : length held ≡ p =
    length-take-le p s.pending (omega (arith, block, c.requires.can.0.pending)) in
    let room : (n + 1) * 64 ≤ length (held ++ take e x) = omega (
      arith,
      long,
      length-append held x,
      length-append held (take e x),
      length-take e x,
      c.min.ensures,
      c.requires.least,
      c.requires.can.0.pending,
    ) in
    c.requires.words ∙ ap (λ (l : List (List ℕ)). chain blake2s s.chain s.counter l (n + 1))
    (sym (first_chunks-unchanged_by_later_input 64 (n + 1) e held x room)
    ∙ ap (λ (z : List ℕ). first_chunks 64 (n + 1) (held ++ z)) (sym c.split_at.ensures.front))

pub returns : goal.returns
returns c =
    let x : List ℕ = c.args.input.now in
    let whole : c.split_at.result.0.now ++ c.split_at.result.1.now ≡ x =
    (λ i. c.split_at.ensures.front i ++ c.split_at.ensures.back i)
    ∙ take-append-drop c.min.result x in
    record {
      ready = c.update.ensures.ready;
      size = c.update.ensures.size ∙ c.absorb_run.ensures.size;
      key = c.update.ensures.key ∙ c.absorb_run.ensures.key;
      updated = subst (λ z. Updated meaning c.args.state.now z c.update.new.self) whole
          (Updated-trans meaning _ _ _ _ _ c.absorb_run.ensures.updated c.update.ensures.updated);
    }
