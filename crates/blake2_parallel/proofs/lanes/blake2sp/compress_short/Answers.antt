use Rattle.std.proofs.Common.{◌≡◌, ◌+◌, ◌-◌, ◌*◌, min, ℕ, List, length, drop, sym, ap, ◌∙◌}
use Rattle.std.proofs.Common.{arith, length-drop}
use Rattle.std.proofs.lemmas.List.{length-take, length-take-le}
use Rattle.blake2_simd.specs.Family.{blake2s}
use Rattle.blake2_simd.specs.Lanes.{in_lane}
use Rattle.blake2_compress.specs.Hash.{compress as F}
use Rattle.blake2_compress.specs.Lanes.{flags_at}
use Rattle.blake2_compress.specs.MessagePieces.{piece}
use Rattle.blake2_compress.proofs.Padding.{padded-unchanged_at_length}
use Rattle.blake2_parallel.proofs.LongerRuns.{piece-of_padded_is_padded_piece}
use Rattle.blake2_parallel.proofs.lanes.blake2sp.compress_short.Goals as goal

-- The length of a block.
length-piece : (bytes : List ℕ) (j : ℕ) → length (piece 64 bytes j) ≡ min 64 (length bytes - j * 64)
length-piece bytes j =
    omega (arith, length-take 64 (drop (j * 64) bytes), length-drop (j * 64) bytes)

pub returns-then-bytes-eq512 : goal.returns-then-bytes-eq512
returns-then-bytes-eq512 c j lane =
    let bytes : List ℕ = c.args.bytes.now in
    let block : List ℕ = piece 64 bytes j in
    let whole : length block ≡ 64 =
    length-take-le 64 (drop (j * 64) bytes)
    (omega (arith, lane, length-drop (j * 64) bytes, c.if-bytes-eq512.true)) in
    let count : min 64 (512 - j * 64) ≡ length block =
    omega (arith, length-piece bytes j, c.if-bytes-eq512.true) in
    c.compress_stripe.ensures j lane
    ∙ (λ i. F blake2s (in_lane j c.args.rows.now)
    (sym (padded-unchanged_at_length 64 block whole) i)
    (c.args.counter + count i) (flags_at c.args.flags.now j))

pub returns-else-bytes-eq512 : goal.returns-else-bytes-eq512
returns-else-bytes-eq512 c j lane =
    let bytes : List ℕ = c.args.bytes.now in
    let block = ap (λ z. piece 64 z j) c.padded-whole.ensures
    ∙ piece-of_padded_is_padded_piece 64 512 j bytes (omega (arith, lane)) c.requires.short in
    c.compress_stripe-else-bytes-eq512.ensures j lane
    ∙ (λ i. F blake2s (in_lane j c.args.rows.now) (block i)
    (c.args.counter + sym (length-piece bytes j) i) (flags_at c.args.flags.now j))
