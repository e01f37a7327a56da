-- Made by tools/twins.py from proofs/many/blake2b/eight/separate/Answers.antt.
use Rattle.std.proofs.Common.{◌≡◌, ◌<◌, ℕ, List, get_or, [], length, lit<, rules}
use Rattle.blake2_simd.specs.Lanes.{in_lane}
use Rattle.blake2_compress.proofs.ContinuedRuns.{column-equals_lane}
use Rattle.blake2_compress.proofs.ManyMessages.{for_each_of_eight}
use Rattle.blake2_compress.proofs.many.blake2s.separate.Goals as goal

pub returns : goal.returns
returns c j lt =
    let rows : List (List ℕ) = c.args.rows.now in
    let columns : List (List ℕ) = c.transpose-words.result in
    let long : length rows ≡ 8 = search rules in
    let many : length columns ≡ 8 = search rules in
    let is = λ (k : ℕ) (w d : List ℕ) (low : k < 8) (long_w : length w ≡ 8)
    (e : w ≡ get_or columns k d). column-equals_lane rows columns k w d low long many long_w e
    (λ i below. c.transpose-words.ensures i k below low) in
    for_each_of_eight (λ k w. w ≡ in_lane k rows) [] _ _ _ _ _ _ _ _
    (is 0 _ _ (lit< tt) (search rules) c.to_array.ensures)
    (is 1 _ _ (lit< tt) (search rules) c.to_array-2.ensures)
    (is 2 _ _ (lit< tt) (search rules) c.to_array-3.ensures)
    (is 3 _ _ (lit< tt) (search rules) c.to_array-4.ensures)
    (is 4 _ _ (lit< tt) (search rules) c.to_array-5.ensures)
    (is 5 _ _ (lit< tt) (search rules) c.to_array-6.ensures)
    (is 6 _ _ (lit< tt) (search rules) c.to_array-7.ensures)
    (is 7 _ _ (lit< tt) (search rules) c.to_array-8.ensures) j lt
