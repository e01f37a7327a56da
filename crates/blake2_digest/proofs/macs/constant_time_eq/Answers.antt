use Rattle.std.proofs.Common.{get_or, arith, below_more, ap, eq-eqb, eqb-true}
use Rattle.blake2_digest.proofs.Differences.{bit_or_xor-zero_iff_equal, lists-equal_by_index}
use Rattle.blake2_digest.proofs.macs.constant_time_eq.Goals as goal

pub loop-i-preserved : goal.loop-i-preserved
loop-i-preserved c =
    let x = get_or c.args.a.now c.loop-i.i 0 in
    let y = get_or c.args.b.now c.loop-i.i 0 in
    let same = bit_or_xor-zero_iff_equal c.loop-i.difference x y in (
      λ h. below_more _ _ (c.loop-i.invariant.0 (same.0 h).0) (same.0 h).1,
      λ h. same.1 (c.loop-i.invariant.1 (λ k l. h k (omega arith)), h c.loop-i.i (omega arith)),
    )

pub returns : goal.returns
returns c = (
  λ h. let reads = c.loop-i.invariant.0 (eqb-true _ _ h) in
      lists-equal_by_index c.args.a.now c.args.b.now c.if-a-b.false (λ k l. reads k (omega arith)),
  λ h. eq-eqb _ _ (c.loop-i.invariant.1 (λ k l. ap (λ s. get_or s k 0) h)),
)
