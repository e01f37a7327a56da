-- Made by tools/twins.py from proofs/blake2b/State/has_key/Answers.antt.
use Rattle.std.proofs.Common.{◌≡◌, ◌∙◌, ℕ, List, length, slice_index, ap, arith, rules}
use Rattle.blake2_simd.specs.Family.{blake2s}
use Rattle.blake2_state.specs.Blake2s.{key_length}
use Rattle.blake2_state.proofs.StateLaws.{named_key_size-is_second_byte}
use Rattle.blake2_state.proofs.blake2s.State.has_key.Goals as goal

pub returns : goal.returns
returns c =
    let eight : length c.args.self.now.first ≡ 8 = search rules in
    let byte : slice_index c.to_le_bytes.result 1 ≡ key_length c.args.self.now =
    ap (λ (bytes : List ℕ). slice_index bytes 1) c.to_le_bytes.ensures
    ∙ named_key_size-is_second_byte blake2s c.args.self.now.first (omega (arith, eight)) in
    grind (arith, byte)
