use Rattle.blake2_simd.specs.Family.{blake2b}
use Rattle.blake2_compress.proofs.ParameterTexts.{TrailingZerosKeepDigest-holds}
use Rattle.blake2_compress.proofs.laws.blake2b.padded_text.Goals as goal

pub returns : goal.returns
returns c = record {
  padding = c.padded.ensures;
  law = TrailingZerosKeepDigest-holds blake2b;
}
