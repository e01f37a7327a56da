use Rattle.std.proofs.Common.{◌≡◌, ◌+◌, ◌-◌, ◌*◌, ◌<◌, ◌≤◌, ℕ, List, length, take, drop, refl, sym}
use Rattle.std.proofs.Common.{ap, ◌∙◌}
use Rattle.std.proofs.Common.{arith, rules, length-append, length-drop}
use Rattle.std.proofs.Math.Seq.{drop-append-add}
use Rattle.std.proofs.lemmas.List.{length-take-le, take_rest}
use Rattle.blake2_simd.specs.Family.{blake2b}
use Rattle.blake2_digest.specs.Blocks.{compressed_blocks}
use Rattle.blake2_digest.proofs.Texts.{take-padded}
use Rattle.blake2.specs.Cores.{CoreState, absorbed}
use Rattle.blake2_state.specs.Blake2b.{state_of, pending_and_input}
use Rattle.blake2_state.proofs.LaneRuns.{count_of_run-is_absorbed_count, rest_after_run-is_pending}
use Rattle.blake2_state.proofs.LaneRuns.{chain_of_run-is_absorbed_words}
use Rattle.blake2_state.proofs.StateLaws.{Updated-from_absorbed_core}
use Rattle.blake2_state.proofs.many.blake2b.absorb_run.Goals as goal

pub returns : goal.returns
returns c =
    let old = c.args.state.now in
    let ready = c.requires.can.0 in
    let n : ℕ = c.args.count in
    let p : ℕ = old.pending_length in
    let x : List ℕ = c.args.input.now in
    let held : List ℕ = take p old.pending in
    let y : List ℕ = pending_and_input old x in
    let block : length old.pending ≡ 128 = search rules in
    let long : length held ≡ p = length-take-le p old.pending (omega (arith, block, ready.pending)) in
    let least : (n + 1) * 128 < length y = omega (arith, c.requires.least) in
    let most : length y ≤ (n + 1) * 128 + 128 = omega (arith, c.requires.most) in
    let core : CoreState = (state_of old).core in
    let done : ℕ = 128 - p + 128 * n in
    let rest : List ℕ = drop done x in
    let sliced : List ℕ = take (length x - done) rest in
    let same : sliced ≡ rest = take_rest x done in
    let passed : length held + (128 - p + 128 * n) ≡ (n + 1) * 128 =
    omega (arith, long, ready.pending) in
    let rest_is : rest ≡ drop ((n + 1) * 128) y =
    sym (drop-append-add held x (128 - p + 128 * n)) ∙ ap (λ (k : ℕ). drop k y) passed in
    let left : length rest + (n + 1) * 128 ≡ length y =
    omega (arith, ap length rest_is, length-drop ((n + 1) * 128) y, least) in
    record {
      ready = record {
        least = ready.least;
        most = ready.most;
        pending = omega (arith, ap length same, left, most);
        start = ready.start;
        counted =
            omega (arith, ap length same, left, least, c.requires.can.1, length-append held x, long);
      };
      size = refl;
      key = refl;
      updated = Updated-from_absorbed_core blake2b (λ s. s.output_size) state_of {old = old} {x = x}
          {begun = core}
          {core = absorbed blake2b core (compressed_blocks 128 y)} refl refl
          (ap (take (length sliced)) c.padded-state.ensures ∙ take-padded 128 sliced ∙ same ∙ rest_is
          ∙ rest_after_run-is_pending 128 n y (omega arith) least most)
          (c.requires.words ∙ chain_of_run-is_absorbed_words blake2b core n y least most)
          (omega (arith, count_of_run-is_absorbed_count blake2b core n y least most)) refl refl;
    }
