use Rattle.std.proofs.Common.{◌≡◌, ℕ, ◌+◌, ◌-◌, ◌*◌, List, take, drop, ap, arith, rules}
use Rattle.blake2.specs.Streams.{line_of}
use Rattle.b2_commands.specs.LeafDigests.{digest_in_joined}
use Rattle.b2_commands.proofs.LeafLines.{Appends-next_of_range}
use Rattle.b2_commands.proofs.leaf_lines.print_digests.Goals as goal

pub loop-i-preserved : goal.loop-i-preserved
loop-i-preserved g c =
    let digests : List ℕ = c.args.digests.now in
    let i : ℕ = c.loop-i.i in
    let size : i * 64 + 64 - i * 64 ≡ 64 = omega arith in
    record {
      unfailed = search rules;
      printed = Appends-next_of_range (λ j. line_of (digest_in_joined digests j)) i _ _ _ _
          c.loop-i.invariant.printed (ap (λ n. line_of (take n (drop (i * 64) digests))) size)
          c.in_ok-print_bytes.ensures.line;
    }
