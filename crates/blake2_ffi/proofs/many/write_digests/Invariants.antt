use Rattle.std.proofs.Common.{◌≡◌, ◌*◌, ◌++◌, length, take, drop}
use Rattle.std.specs.List.{flat_map}
use Rattle.blake2_ffi.proofs.many.write_digests.Given as goal

-- The digests before index i are written, and what follows them is as it was.
abbrev pub invariant-loop-i : goal.invariant-loop-i
invariant-loop-i g l = record {
  long : length l.out ≡ length l.fn.out;
  written : l.out ≡ flat_map (take l.fn.size) (take l.i l.fn.digests)
      ++ drop (l.i * l.fn.size) l.fn.out;
}
