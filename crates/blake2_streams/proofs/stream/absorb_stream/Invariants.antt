use Rattle.std.proofs.Common.{◌≡◌, ◌+◌, ◌^◌, ◌-◌, List, ℕ, length, false}
use Rattle.std.specs.Io.KnownBytes.{Consumes}
use Rattle.blake2_digest.specs.States.{Updated}
use Rattle.blake2_digest.specs.Texts.{AreBytes}
use Rattle.blake2_streams.proofs.stream.absorb_stream.Given as goal

abbrev pub invariant-reading : goal.invariant-reading
invariant-reading g l = record {
  unfailed : g.S.Source.failed l.source ≡ false;
  room : g.H.Update.meaning.count l.hasher + l.room ≡ 2 ^ 64 - 1;
  passed : (bytes : List ℕ) × (length bytes ≡ l.total) × AreBytes bytes
      × Consumes (g.S.Source.left l.fn.source) (g.S.Source.left l.source) bytes
      × Updated g.H.Update.meaning l.fn.hasher bytes l.hasher;
}

abbrev pub decreases-reading : goal.decreases-reading
decreases-reading g l = l.room
