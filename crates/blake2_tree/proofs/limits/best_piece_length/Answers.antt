use Rattle.std.proofs.Common.{◌≡◌, ◌≤◌, ◌⊎◌, ℕ, ◌+◌, ◌-◌, ◌*◌, ◌/◌, ◌%◌, ◌<◌, max, inr, rules}
use Rattle.std.proofs.Common.{arith}
use Rattle.blake2_tree.proofs.PieceLengths.{piece-neither_short_nor_long}
use Rattle.blake2_tree.proofs.PieceLengths.{four_more_leaves-exceed_maximum, piece-has_best_length}
use Rattle.blake2_tree.proofs.limits.best_piece_length.Goals as goal

-- A piece of the fours that fit, at least four, and one more leaf is neither short nor long.
fitting_fours-neither_short_nor_long : (leaf fours : ℕ) → 0 < leaf
    → fours ≡ max (65536 / leaf / 4) 4
    → (16384 < leaf * (4 * fours + 1))
    × ((leaf * (4 * fours + 1) ≤ 65536 + leaf) ⊎ (leaf * (4 * fours + 1) ≤ 17 * leaf))
fitting_fours-neither_short_nor_long leaf fours some is =
    let fit : ℕ = 65536 / leaf in
    let rest : 65536 % leaf < leaf = omega arith in
    let whole : leaf * fit + 65536 % leaf ≡ 65536 = omega arith in
    piece-neither_short_nor_long leaf fit (fit / 4) fours (omega arith) (omega arith) (omega arith)
    (omega arith) is

pub returns-then-whole-le-LONGEST_PIECE_BYTES-clause-least :
    goal.returns-then-whole-le-LONGEST_PIECE_BYTES-clause-least
returns-then-whole-le-LONGEST_PIECE_BYTES-clause-least c =
    (fitting_fours-neither_short_nor_long c.args.leaf_length c.max-fours.result (omega arith)
    (search rules)).0

pub returns-then-whole-le-LONGEST_PIECE_BYTES-clause-short :
    goal.returns-then-whole-le-LONGEST_PIECE_BYTES-clause-short
returns-then-whole-le-LONGEST_PIECE_BYTES-clause-short c =
    (fitting_fours-neither_short_nor_long c.args.leaf_length c.max-fours.result (omega arith)
    (search rules)).1

pub returns-then-leaf-le-LONGEST_PIECE_BYTES-clause-long :
    goal.returns-then-leaf-le-LONGEST_PIECE_BYTES-clause-long
returns-then-leaf-le-LONGEST_PIECE_BYTES-clause-long c = λ fits.
    let leaf : ℕ = c.args.leaf_length in
    let most : ℕ = 16777216 / leaf in
    let rest : 16777216 % leaf < leaf = omega arith in
    let whole : leaf * most + 16777216 % leaf ≡ 16777216 = omega arith in
    inr (four_more_leaves-exceed_maximum leaf most ((most - 1) / 4) (omega arith) (omega arith))

pub returns-then-whole-le-LONGEST_PIECE_BYTES-clause-is :
    goal.returns-then-whole-le-LONGEST_PIECE_BYTES-clause-is
returns-then-whole-le-LONGEST_PIECE_BYTES-clause-is c =
    let leaf : ℕ = c.args.leaf_length in
    let most : ℕ = 16777216 / leaf in
    let rest : 16777216 % leaf < leaf = omega arith in
    let whole : leaf * most + 16777216 % leaf ≡ 16777216 = omega arith in
    piece-has_best_length leaf (65536 / leaf / 4) most c.max-fours.result (omega arith)
    (omega arith) (search rules)
