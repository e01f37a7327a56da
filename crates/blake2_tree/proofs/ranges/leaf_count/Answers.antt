use Rattle.std.proofs.Common.{◌≡◌, ℕ, ◌+◌, ◌-◌, ◌*◌, ◌/◌, ◌<◌, ◌≤◌, sym, ap, ◌∙◌, arith}
use Rattle.std.specs.Int.{div_ceil}
use Rattle.std.proofs.Math.Nat.{div-eq_of_lt-le}
use Rattle.std.proofs.lemmas.Grind.{div_ceil_times}
use Rattle.blake2_tree.proofs.ranges.leaf_count.Goals as goal

-- A quotient that is rounded up.
div_ceil-is_rounded_up_quotient : (a b : ℕ) → 0 < b → div_ceil a b ≡ (a + (b - 1)) / b
div_ceil-is_rounded_up_quotient a b some =
    let k : ℕ = div_ceil a b in
    let bounds = div_ceil_times a b some in
    let least : a ≤ k * b = bounds.0 in
    let most : k * b < a + b = bounds.1 in
    let low : k * b ≤ a + (b - 1) = omega arith in
    let next : (k + 1) * b ≡ k * b + b = omega arith in
    let high : a + (b - 1) < (k + 1) * b = omega (arith, next) in
    sym (div-eq_of_lt-le {k = k} b {m = a + (b - 1)} low high)

pub returns : goal.returns
returns c =
    let e : c.div_ceil.result ≡ (c.args.message_length + (c.args.leaf_length - 1))
    / c.args.leaf_length =
    c.div_ceil.ensures ∙ ap (div_ceil c.args.message_length) c.from.ensures
    ∙ div_ceil-is_rounded_up_quotient c.args.message_length c.args.leaf_length c.requires in
    omega (arith, e)
