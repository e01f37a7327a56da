use Rattle.blake2_compress.proofs.MessagePieces.{PiecesDetermineMessage-holds}
use Rattle.blake2_compress.proofs.MessagePieces.{EqualIfNoPairDiffers-holds}
use Rattle.blake2_compress.proofs.laws.pieces.same_pieces.Goals as goal

pub returns-clause-pieces_determine : goal.returns-clause-pieces_determine
returns-clause-pieces_determine c = PiecesDetermineMessage-holds

pub returns-clause-no_pair_differs : goal.returns-clause-no_pair_differs
returns-clause-no_pair_differs c = EqualIfNoPairDiffers-holds
