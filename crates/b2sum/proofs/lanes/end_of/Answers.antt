use Rattle.std.proofs.Common.{◌<◌, ℕ, List, [], Bor, ap, arith, drop, length, map, slice_index_or}
use Rattle.std.proofs.lemmas.List.{get_or-map, length-drop, length-map, length-take}
use Rattle.b2sum.proofs.lanes.end_of.Goals as goal

pub returns : goal.returns
returns c =
    let texts = c.args.texts.now in
    let bytes : Bor (List ℕ) → List ℕ = λ t. t.now in
    let k : ℕ = c.args.lane.text in
    let lt : k < length texts = omega (arith, length-map texts bytes, c.requires.0) in
    let text : List ℕ = slice_index_or (map bytes texts) k [] in
    omega (
      arith,
      ap length (get_or-map {Y = List ℕ} bytes texts k (record { ref_ptr = (0, 0); now = [] }) [] lt),
      c.saturating_sub.ensures,
      c.bytes_left.ensures,
      c.requires.1,
      length-take c.args.most (drop c.args.lane.at text),
      length-drop c.args.lane.at text,
    )
