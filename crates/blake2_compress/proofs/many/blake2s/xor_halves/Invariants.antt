-- Made by tools/twins.py from proofs/many/blake2b/eight/xor_halves/Invariants.antt.
use Rattle.std.proofs.Common.{[]}
use Rattle.blake2_compress.proofs.ManyMessages.{HoldsForFirst, IsXoredRow}
use Rattle.blake2_compress.proofs.many.blake2s.xor_halves.Given as goal

abbrev pub invariant-loop-k : goal.invariant-loop-k
invariant-loop-k l = HoldsForFirst 8 [] (IsXoredRow 8 l.h l.v) l.result l.k
