use Rattle.std.proofs.Common.{◌≡◌, ℕ, List, take, sym, ap, ◌∙◌, arith}
use Rattle.std.proofs.lemmas.List.{take-append-le}
use Rattle.blake2_compress.specs.Hash.{padded}
use Rattle.blake2_parallel.proofs.lanes.blake2bp.Lanes.new.Goals as goal

pub returns-clause-pending : goal.returns-clause-pending
unfolding padded
returns-clause-pending c =
    let blocks : List ℕ = c.as_flattened.result.now in
    ap (take c.args.held) c.padded.ensures
    ∙ take-append-le c.args.held blocks _ (omega (arith, c.as_flattened.ensures.len, c.requires))
    ∙ ap (take c.args.held) c.as_flattened.ensures.value

-- No bytes of any two lists are the same.
take_0-is_same : (n : ℕ) (x y : List ℕ) → n ≡ 0 → take n x ≡ take n y
take_0-is_same n x y none = ap (λ (m : ℕ). take m x) none ∙ sym (ap (λ (m : ℕ). take m y) none)

pub returns-then-held-eq0-clause-pending : goal.returns-then-held-eq0-clause-pending
returns-then-held-eq0-clause-pending c = take_0-is_same c.args.held _ _ c.if-held-eq0.true
