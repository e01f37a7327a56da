use Rattle.std.proofs.Common.{◌≡◌, ℕ, ◌<◌, length, slice_index_or, [], sym, ◌∙◌, arith}
use Rattle.blake2_compress.specs.MessagePieces.{piece_count, pieces}
use Rattle.blake2_compress.proofs.MessagePieces.{length-pieces, pieces-at}
use Rattle.blake2_compress.proofs.MessagePieces.{PiecesDetermineMessage-holds}
use Rattle.blake2_compress.proofs.MessagePieces.{EqualIfNoPairDiffers-holds}
use Rattle.blake2_compress.proofs.laws.pieces.first_difference.Goals as goal

-- No pair differs, so the pieces are the same, and they determine the messages.
pub returns : goal.returns
returns c =
    let size = c.args.size in
    let a = c.args.a.now in
    let b = c.args.b.now in
    let number : piece_count size (length a) ≡ piece_count size (length b) =
    c.requires.equally_many in
    let same : (i : ℕ) → i < length (pieces size a)
    → slice_index_or (pieces size a) i [] ≡ slice_index_or (pieces size b) i [] =
    λ i below.
    let in_a : i < piece_count size (length a) = omega (arith, length-pieces size a) in
    pieces-at size a i in_a ∙ c.loop-i.invariant i (omega arith)
    ∙ sym (pieces-at size b i (omega (arith, number))) in
    PiecesDetermineMessage-holds size a b c.requires.size
    (EqualIfNoPairDiffers-holds (pieces size a) (pieces size b)
    (length-pieces size a ∙ number ∙ sym (length-pieces size b)) same)
