-- Made by tools/twins.py from proofs/many/blake2b/eight/xor_halves/Answers.antt.
use Rattle.std.proofs.Common.{arith, rules}
use Rattle.blake2_compress.proofs.Lanes.{in_lane-xor_halves}
use Rattle.blake2_compress.proofs.ManyMessages.{HoldsForFirst-all, HoldsForFirst-next}
use Rattle.blake2_compress.proofs.ManyMessages.{IsXoredRow-any_default}
use Rattle.blake2_compress.proofs.many.blake2s.xor_halves.Goals as goal

pub loop-k-preserved : goal.loop-k-preserved
loop-k-preserved c =
    HoldsForFirst-next _ c.loop-k.invariant (omega arith)
    (IsXoredRow-any_default 8 c.args.h.now c.args.v.now c.loop-k.k
    _ _ _ _ (search rules) (search rules) (omega arith) c.xor3.ensures)

pub returns : goal.returns
returns c j h =
    in_lane-xor_halves c.args.h.now c.args.v.now c.loop-k.result j (search rules) (search rules)
    c.loop-k.invariant.long (λ k lt. HoldsForFirst-all c.loop-k.invariant c.loop-k-test.false k lt j
    h)
