use Rattle.std.proofs.Common.{◌∙◌}
use Rattle.blake2_simd.specs.Lanes.{in_lane}
use Rattle.blake2_simd.proofs.Lanes.{list_of_four-at_lane}
use Rattle.blake2_compress.proofs.many.blake2b.separate.Goals as goal

pub returns : goal.returns
returns c j lt =
    list_of_four-at_lane (λ k. in_lane k c.args.rows.now) _ _ _ _
    (c.to_words.ensures ∙ c.lane_rows.ensures) (c.to_words-2.ensures ∙ c.lane_rows-2.ensures)
    (c.to_words-3.ensures ∙ c.lane_rows-3.ensures) (c.to_words-4.ensures ∙ c.lane_rows-4.ensures) j lt
