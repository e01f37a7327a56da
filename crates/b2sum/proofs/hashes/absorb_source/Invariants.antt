use Rattle.std.proofs.Common.{◌≡◌, ◌+◌, ◌<◌, List, ℕ, ◌++◌, length, false}
use Rattle.std.specs.Io.KnownBytes.{Consumes}
use Rattle.blake2_digest.specs.Texts.{AreBytes}
use Rattle.b2sum.proofs.hashes.absorb_source.Given as goal

abbrev pub invariant-reading : goal.invariant-reading
invariant-reading g l = record {
  unfailed : g.S.OpenFile.failed l.source ≡ false;
  room : g.H.Absorb.count l.state + l.room + 1 ≡ g.H.Absorb.limit;
  buffer : 0 < length l.buffer;
  name : g.S.OpenFile.named l.source ≡ g.S.OpenFile.named l.fn.source;
  ready : g.H.Absorb.IsReady l.state;
  size : g.H.Absorb.size l.state ≡ g.H.Absorb.size l.fn.state;
  passed : (text : List ℕ) × AreBytes text
      × Consumes (g.S.OpenFile.left l.fn.source) (g.S.OpenFile.left l.source) text
      × (g.H.Absorb.count l.state ≡ g.H.Absorb.count l.fn.state + length text)
      × ((y : List ℕ) → g.H.Absorb.future l.state y ≡ g.H.Absorb.future l.fn.state (text ++ y));
}

abbrev pub decreases-reading : goal.decreases-reading
decreases-reading g l = l.room
