use Rattle.std.proofs.Common.{ap, ◌∙◌}
use Rattle.blake2_simd.specs.Family.{blake2b}
use Rattle.blake2_compress.specs.Hash.{bytes_of}
use Rattle.blake2_transcript.proofs.collision.blake2b.bytes_after.Goals as goal

pub returns : goal.returns
returns c = c.to_bytes.ensures ∙ ap (bytes_of blake2b) c.output_of.ensures
