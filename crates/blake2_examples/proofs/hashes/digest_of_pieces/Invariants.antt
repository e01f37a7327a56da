use Rattle.std.proofs.Common.{◌≡◌, ℕ, false, List, [], ◌++◌, length, take, None}
use Rattle.blake2_simd.specs.Family.{blake2s}
use Rattle.blake2.specs.Hashers.{blake2s_meaning}
use Rattle.blake2.specs.States.{digest_of}
use Rattle.blake2_examples.specs.Pieces.{joined_pieces}
use Rattle.blake2_examples.proofs.hashes.digest_of_pieces.Given as goal

-- The hasher has absorbed the pieces before this one, and its last-node flag is off.
abbrev pub invariant-loop-piece : goal.invariant-loop-piece
invariant-loop-piece l = record {
  future : (y : List ℕ) → (blake2s_meaning 32).future l.hasher false y
      ≡ digest_of blake2s 32 [] [] None (joined_pieces (take l.piece-index l.pieces) ++ y);
  last_node : (blake2s_meaning 32).last_node l.hasher ≡ false;
  count : (blake2s_meaning 32).count l.hasher
      ≡ length (joined_pieces (take l.piece-index l.pieces));
}
