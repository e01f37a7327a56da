-- The flags' words in the rows before the first round.
use Rattle.std.specs.Prelude.{ℕ, ◌≡◌, bit_xor}
use Rattle.std.specs.Int.Bits.{xor_zero_r}

-- A word that nothing is xored into.
pub bit_xor_zero_right : (n : ℕ) → bit_xor n 0 ≡ n
bit_xor_zero_right n = xor_zero_r n
