use Rattle.std.proofs.Common.{◌≡◌, ◌∙◌, ℕ, ◌-◌, List, length, drop, take, ap, arith, length-drop}
use Rattle.std.proofs.lemmas.List.{length-take-le, take_all}
use Rattle.std.specs.Int.{from_le_bytes, w64}
use Rattle.blake2_digest.specs.Texts.{padded}
use Rattle.blake2_compress.proofs.Padding.{padded-unchanged_at_length}
use Rattle.blake2_state.proofs.SavedBlake2b.{decoded}
use Rattle.blake2_state.proofs.blake2b.State.decoded.Goals as goal

pub returns : goal.returns
returns c =
    let saved : List ℕ = c.args.saved.now in
    let whole : length saved ≡ 275 = c.requires in
    let counter : length (take 8 (drop 136 saved)) ≡ 8 =
    length-take-le 8 (drop 136 saved) (omega (arith, whole, length-drop 136 saved)) in
    let pending : length (drop 147 saved) ≡ 128 = omega (arith, whole, length-drop 147 saved) in
    let read = c.padded.ensures ∙ padded-unchanged_at_length 8 (take 8 (drop 136 saved)) counter in
    let at_end = c.padded-2.ensures
    ∙ ap (padded 128) (take_all (length saved - 147) (drop 147 saved) (omega arith))
    ∙ padded-unchanged_at_length 128 (drop 147 saved) pending in
    let chain = c.to_words.ensures ∙ c.block_rows.ensures in
    let first = c.to_words-2.ensures ∙ c.block_rows-2.ensures in
    let counted = c.from_le_bytes.ensures ∙ ap (from_le_bytes w64) read in
    λ i. record (decoded saved) {
      chain = chain i;
      first = first i;
      counter = counted i;
      pending = at_end i;
    }
