use Rattle.std.proofs.Common.{◌≡◌, ℕ, List, ◌-◌, ◌*◌, ◌<◌, ◌≤◌, length, take, drop, subst, ap, ◌∙◌}
use Rattle.std.proofs.Common.{sym, arith}
use Rattle.blake2_simd.specs.Family.{block_bytes}
use Rattle.blake2_compress.specs.Hash.{padded}
use Rattle.blake2_compress.specs.Inputs.{Accepts}
use Rattle.blake2_compress.specs.Views.{key_of, input_of}
use Rattle.blake2_compress.specs.Run.{step_count}
use Rattle.blake2_compress.proofs.InputBlocks.{block_offset-within_data, counted_without_key}
use Rattle.blake2_compress.proofs.InputBlocks.{block_without_key, first_block-is_key_block}
use Rattle.blake2_compress.proofs.InputBlocks.{later_block-is_message_block}
use Rattle.blake2_compress.proofs.InputBlocks.{later_block_offset-within_message}
use Rattle.blake2_compress.proofs.inputs.blocks.block_at.Goals as goal

pub message_block-requires : goal.message_block-requires
message_block-requires g c =
    let family : block_bytes g.f ≡ g.row.B = assumption c in
    let within : c.args.i < step_count g.f (input_of c.args.input.now) = assumption c in
    let message : List ℕ = c.args.input.now.message.now in
    let all = counted_without_key g.f _ message (ap key_of c.in-None.is) in (
      omega arith,
      subst (λ (b : ℕ). c.args.i * b ≤ length message) family
          (omega (arith, block_offset-within_data g.f _ c.args.i within, all)),
    )

pub message_block-requires-else-i-eq0 : goal.message_block-requires-else-i-eq0
message_block-requires-else-i-eq0 g c =
    let family : block_bytes g.f ≡ g.row.B = assumption c in
    let accepted : Accepts g.f (input_of c.args.input.now) = assumption c in
    let within : c.args.i < step_count g.f (input_of c.args.input.now) = assumption c in
    let message : List ℕ = c.args.input.now.message.now in (
      omega arith,
      subst (λ (b : ℕ). (c.args.i - 1) * b ≤ length message) family
          (later_block_offset-within_message g.f _ _ message c.args.i (ap key_of c.in-Some.is)
          accepted.key_fits
          (omega arith) within),
    )

pub returns-in-None : goal.returns-in-None
returns-in-None g c =
    let family : block_bytes g.f ≡ g.row.B = assumption c in
    let within : c.args.i < step_count g.f (input_of c.args.input.now) = assumption c in
    let message : List ℕ = c.args.input.now.message.now in
    c.message_block.ensures ∙ ap (λ (b : ℕ). padded b (take b (drop (c.args.i * b) message)))
    (sym family)
    ∙ block_without_key g.f _ message c.args.i (ap key_of c.in-None.is) within

pub returns-then-i-eq0 : goal.returns-then-i-eq0
returns-then-i-eq0 g c =
    let family : block_bytes g.f ≡ g.row.B = assumption c in
    let accepted : Accepts g.f (input_of c.args.input.now) = assumption c in
    let within : c.args.i < step_count g.f (input_of c.args.input.now) = assumption c in
    c.padded.ensures ∙ ap (λ (b : ℕ). padded b c.in-Some.key.now) (sym family)
    ∙ first_block-is_key_block g.f _ _ c.args.input.now.message.now c.args.i
    (ap key_of c.in-Some.is) accepted.key_fits (omega arith) within

pub returns-else-i-eq0 : goal.returns-else-i-eq0
returns-else-i-eq0 g c =
    let family : block_bytes g.f ≡ g.row.B = assumption c in
    let accepted : Accepts g.f (input_of c.args.input.now) = assumption c in
    let within : c.args.i < step_count g.f (input_of c.args.input.now) = assumption c in
    let message : List ℕ = c.args.input.now.message.now in
    c.message_block-else-i-eq0.ensures ∙ ap (λ (b : ℕ).
    padded b (take b (drop ((c.args.i - 1) * b) message))) (sym family)
    ∙ later_block-is_message_block g.f _ _ message c.args.i (ap key_of c.in-Some.is)
    accepted.key_fits
    (omega arith) within
