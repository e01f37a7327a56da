use Rattle.std.proofs.Common.{[]}
use Rattle.blake2_simd.specs.Family.{blake2b}
use Rattle.blake2_compress.proofs.ManyMessages.{HoldsForFirst, IsColumnOutput}
use Rattle.blake2_compress.proofs.many.blake2b.eight.outputs.Given as goal

abbrev pub invariant-loop-j : goal.invariant-loop-j
invariant-loop-j g l = HoldsForFirst 8 [] (IsColumnOutput blake2b g.row.N l.words) l.outputs l.j
