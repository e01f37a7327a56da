-- Made by tools/twins.py from proofs/blake2bp/State/new/Answers.antt.
use Rattle.std.proofs.Common.{ap, ◌∙◌, refl}
use Rattle.blake2_simd.specs.Family.{blake2s}
use Rattle.blake2_simd.specs.Lanes.{in_lane}
use Rattle.blake2_compress.specs.Hash.{start}
use Rattle.blake2_parallel.specs.Blake2sp.{held_by}
use Rattle.blake2_parallel.specs.Parallel.{Settings, settings}
use Rattle.blake2_parallel.proofs.LeafStarts.{new_leaves-are_at_start, AtStart-of_equal_leaves}
use Rattle.blake2_parallel.proofs.StateLaws.{Fresh-if_all_at_start}
use Rattle.blake2_parallel.proofs.blake2sp.State.new.Goals as goal

pub returns-clause-fresh : goal.returns-clause-fresh
returns-clause-fresh c =
    let a : Settings =
    settings c.args.output_size c.args.key.now c.args.salt.now c.args.persona.now in
    let begun = new_leaves-are_at_start blake2s a c.start_length-start_length.result
    c.padded-key_block.result
    (λ j. in_lane j c.first_rows-first.result) c.requires.key c.padded-key_block.ensures
    c.start_length-start_length.ensures.none c.start_length-start_length.ensures.some
    c.first_rows-first.ensures in
    Fresh-if_all_at_start blake2s held_by a _ refl
    (c.start_words-root.ensures ∙ ap (start blake2s) c.parameters.ensures)
    (AtStart-of_equal_leaves blake2s a _ _ (λ j. ap (in_lane j) c.new.ensures.rows)
    c.new.ensures.counter
    c.new.ensures.pending begun) begun
