use Rattle.std.proofs.Common.{◌≡◌, ℕ, ◌++◌, List, length, drop, replicate, ap, ◌∙◌, rules}
use Rattle.blake2_state.proofs.StateLaws.{append_zeros-is_padded}
use Rattle.blake2_state.proofs.blake2b.write_padded.Goals as goal

pub returns : goal.returns
returns c =
    let key : List ℕ = c.args.key.now in
    let whole : length key ≡ 64 = search rules in
    ap (λ (xs : List ℕ). xs ++ drop 64 (replicate 128 0)) c.copy_from_slice.ensures.after
    ∙ append_zeros-is_padded 128 64 key whole
