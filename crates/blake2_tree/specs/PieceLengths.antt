-- The best length of the pieces in which a tree absorbs a message.
use Rattle.std.specs.Prelude.{ℕ, ◌+◌, ◌-◌, ◌*◌, ◌/◌, ◌^◌, nat_eq, min, max, if◌then◌else◌}

-- The number of fours of leaves in a piece: as 64 KiB have room for, but at least four, and at most
-- as 16 MiB have room for with one more leaf.
abbrev pub fours_in_best_piece : ℕ → ℕ
fours_in_best_piece leaf_length = min (max (2 ^ 16 / leaf_length / 4) 4)
    ((2 ^ 24 / leaf_length - 1) / 4)

-- The number of bytes of these fours and one more leaf, or 64 KiB if there are no fours.
abbrev pub best_piece_length : ℕ → ℕ
best_piece_length leaf_length =
    if nat_eq (fours_in_best_piece leaf_length) 0 then 2 ^ 16
    else leaf_length * (4 * fours_in_best_piece leaf_length + 1)
