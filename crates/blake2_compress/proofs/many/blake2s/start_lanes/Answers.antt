-- Made by tools/twins.py from proofs/many/blake2b/eight/start_lanes/Answers.antt.
use Rattle.std.proofs.Common.{length, ap, ◌∙◌, arith, rules}
use Rattle.blake2_simd.specs.Family.{blake2s}
use Rattle.blake2_compress.specs.Hash.{start}
use Rattle.blake2_compress.proofs.Lanes.{in_lane-equal_by_words}
use Rattle.blake2_compress.proofs.ManyMessages.{HoldsForFirst-all, HoldsForFirst-next}
use Rattle.blake2_compress.proofs.ParameterSizes.{length-start}
use Rattle.blake2_compress.proofs.many.blake2s.start_lanes.Goals as goal

pub loop-j-preserved : goal.loop-j-preserved
loop-j-preserved c =
    HoldsForFirst-next _ c.loop-j.invariant (omega arith)
    (c.start_words.ensures ∙ ap (start blake2s) c.input_parameters.ensures)

pub returns : goal.returns
returns c j h =
    let words = HoldsForFirst-all c.loop-j.invariant c.loop-j-test.false j h in
    in_lane-equal_by_words 8 j c.interleave.result _ (search rules)
    (ap length words ∙ length-start blake2s _)
    (λ k lt. c.interleave.ensures j k h lt) ∙ words
