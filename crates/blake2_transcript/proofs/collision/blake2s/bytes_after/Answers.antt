-- Made by tools/twins.py from proofs/collision/blake2b/bytes_after/Answers.antt.
use Rattle.std.proofs.Common.{ap, ◌∙◌}
use Rattle.blake2_simd.specs.Family.{blake2s}
use Rattle.blake2_compress.specs.Hash.{bytes_of}
use Rattle.blake2_transcript.proofs.collision.blake2s.bytes_after.Goals as goal

pub returns : goal.returns
returns c = c.to_bytes.ensures ∙ ap (bytes_of blake2s) c.output_of.ensures
