-- Made by tools/twins.py from proofs/laws/blake2b/padded_text/Answers.antt.
use Rattle.blake2_simd.specs.Family.{blake2s}
use Rattle.blake2_compress.proofs.ParameterTexts.{TrailingZerosKeepDigest-holds}
use Rattle.blake2_compress.proofs.laws.blake2s.padded_text.Goals as goal

pub returns : goal.returns
returns c = record {
  padding = c.padded.ensures;
  law = TrailingZerosKeepDigest-holds blake2s;
}
