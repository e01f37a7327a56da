use Rattle.std.proofs.Common.{◌≡◌, ◌+◌, ◌-◌, ◌*◌, min, ℕ, List, length, drop, sym, ap, ◌∙◌}
use Rattle.std.proofs.Common.{arith, length-drop}
use Rattle.std.proofs.lemmas.List.{length-take, length-take-le}
use Rattle.blake2_simd.specs.Family.{blake2b}
use Rattle.blake2_simd.specs.Lanes.{in_lane}
use Rattle.blake2_compress.specs.Hash.{compress as F}
use Rattle.blake2_compress.specs.Lanes.{flags_at}
use Rattle.blake2_compress.specs.MessagePieces.{piece}
use Rattle.blake2_compress.proofs.Padding.{padded-unchanged_at_length}
use Rattle.blake2_parallel.proofs.LongerRuns.{piece-of_padded_is_padded_piece}
use Rattle.blake2_parallel.proofs.lanes.blake2bp.compress_short.Goals as goal

-- The length of a block.
length-piece : (bytes : List ℕ) (j : ℕ) → length (piece 128 bytes j)
    ≡ min 128 (length bytes - j * 128)
length-piece bytes j =
    omega (arith, length-take 128 (drop (j * 128) bytes), length-drop (j * 128) bytes)

pub returns-then-bytes-eq512 : goal.returns-then-bytes-eq512
returns-then-bytes-eq512 c j lane =
    let bytes : List ℕ = c.args.bytes.now in
    let block : List ℕ = piece 128 bytes j in
    let whole : length block ≡ 128 =
    length-take-le 128 (drop (j * 128) bytes)
    (omega (arith, lane, length-drop (j * 128) bytes, c.if-bytes-eq512.true)) in
    let count : min 128 (512 - j * 128) ≡ length block =
    omega (arith, length-piece bytes j, c.if-bytes-eq512.true) in
    c.compress_stripe.ensures j lane
    ∙ (λ i. F blake2b (in_lane j c.args.rows.now)
    (sym (padded-unchanged_at_length 128 block whole) i)
    (c.args.counter + count i) (flags_at c.args.flags.now j))

pub returns-else-bytes-eq512 : goal.returns-else-bytes-eq512
returns-else-bytes-eq512 c j lane =
    let bytes : List ℕ = c.args.bytes.now in
    let block = ap (λ z. piece 128 z j) c.padded-whole.ensures
    ∙ piece-of_padded_is_padded_piece 128 512 j bytes (omega (arith, lane)) c.requires.short in
    c.compress_stripe-else-bytes-eq512.ensures j lane
    ∙ (λ i. F blake2b (in_lane j c.args.rows.now) (block i)
    (c.args.counter + sym (length-piece bytes j) i) (flags_at c.args.flags.now j))
