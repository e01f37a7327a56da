-- Made by tools/twins.py from proofs/lanes/blake2bp/Lanes/compress_held/Answers.antt.
use Rattle.std.proofs.Common.{◌≡◌, ℕ, ◌≤◌, List, length, take, refl, ap, ◌∙◌, arith, rules}
use Rattle.std.proofs.Common.{length-append}
use Rattle.std.proofs.lemmas.List.{length-take-le}
use Rattle.blake2_simd.specs.Family.{blake2s}
use Rattle.blake2_parallel.specs.LeafStates.{leaf_chain}
use Rattle.blake2_parallel.proofs.LeafSteps.{HasAbsorbedPrefix-n_stripes}
use Rattle.blake2_parallel.proofs.LeafSteps.{pending_rest-after_one_stripe}
use Rattle.blake2_parallel.proofs.LongerRuns.{leaf_chain-unchanged_after_prefix}
use Rattle.blake2_parallel.proofs.lanes.blake2sp.Lanes.compress_held.Goals as goal

pub returns-clause-went_on : goal.returns-clause-went_on
returns-clause-went_on c =
    let n : ℕ = c.args.self.now.length in
    let p : List ℕ = c.args.self.now.pending in
    let t : ℕ = c.args.self.now.counter in
    let input : List ℕ = c.args.input.now in
    let long : length p ≡ 960 = search rules in
    let fits : n ≤ length p = omega (arith, long, c.requires.sound.within) in
    let size : length (take n p) ≡ n = length-take-le n p fits in
    let stripe : 512 ≤ n = c.requires.stripe in
    HasAbsorbedPrefix-n_stripes blake2s _ _ 1 input input
    (omega (arith, length-append (take n p) input, size, c.requires.more))
    (λ j lane. c.to_arrays-self.ensures j lane ∙ c.compress_stripes.ensures j lane
    ∙ ap (λ h. leaf_chain blake2s h t p j 1) (c.to_vectors-rows.ensures j lane)
    ∙ leaf_chain-unchanged_after_prefix blake2s _ t n p input j lane stripe fits)
    refl (pending_rest-after_one_stripe 512 n 960 p _ input stripe fits c.padded-pending.ensures)
