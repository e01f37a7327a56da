use Rattle.std.proofs.Common.{◌≡◌, ◌+◌, ℕ, Bool, false, List, [], ◌++◌, length, take, get_or, None}
use Rattle.std.proofs.Common.{Bor, sym, ap, ◌∙◌, arith, append-nil, append_assoc, length-append}
use Rattle.std.proofs.lemmas.List.{take_all}
use Rattle.std.proofs.lemmas.List.Folds.{length-flat_map-take}
use Rattle.blake2_simd.specs.Family.{blake2s}
use Rattle.blake2.specs.Hashers.{blake2s_meaning}
use Rattle.blake2.specs.States.{digest_of}
use Rattle.blake2_examples.specs.Pieces.{joined_pieces}
use Rattle.blake2_examples.proofs.Pieces.{joined_pieces-take_one_more}
use Rattle.blake2_examples.proofs.hashes.digest_of_pieces.Goals as goal

abbrev empty_piece : Bor (List ℕ)
empty_piece = record { ref_ptr = (0, 0); now = [] }

pub update-requires : goal.update-requires
update-requires c =
    let room = length-flat_map-take (λ (piece : Bor (List ℕ)).
    piece.now) c.args.pieces.now c.loop-piece.piece-index empty_piece c.loop-piece-test.true in
    (omega arith, omega (arith, room, c.loop-piece.invariant.count, c.requires))

pub loop-piece-preserved : goal.loop-piece-preserved
loop-piece-preserved c =
    let xs = c.args.pieces.now in
    let i : ℕ = c.loop-piece.piece-index in
    let x : List ℕ = (get_or xs i empty_piece).now in
    let more : joined_pieces (take (i + 1) xs) ≡ joined_pieces (take i xs) ++ x =
    joined_pieces-take_one_more xs i empty_piece c.loop-piece-test.true in
    record {
      future = λ y. c.update.ensures.future false y ∙ c.loop-piece.invariant.future (x ++ y)
          ∙ ap (digest_of blake2s 32 [] [] None) (sym (append_assoc (joined_pieces (take i xs)) x y)
          ∙ ap (λ (z : List ℕ). z ++ y) (sym more));
      last_node = c.update.ensures.last_node ∙ c.loop-piece.invariant.last_node;
      count = c.update.ensures.count ∙ ap (λ (n : ℕ). n + length x) c.loop-piece.invariant.count
          ∙ sym (length-append (joined_pieces (take i xs)) x) ∙ ap length (sym more);
    }

pub returns : goal.returns
returns c =
    let xs = c.args.pieces.now in
    let off = ap (λ (flag : Bool). (blake2s_meaning 32).future c.loop-piece.hasher flag
    []) c.loop-piece.invariant.last_node in
    c.finalize.ensures ∙ off ∙ c.loop-piece.invariant.future []
    ∙ ap (digest_of blake2s 32 [] [] None)
    (append-nil (joined_pieces (take c.loop-piece.piece-index xs))
    ∙ ap joined_pieces (take_all c.loop-piece.piece-index xs c.loop-piece-test.false))
