use Rattle.std.proofs.Common.{[], ◌∷◌, ap, ◌∙◌, rules}
use Rattle.blake2_compress.specs.Hash.{digest}
use Rattle.blake2.specs.Family.{blake2b}
use Rattle.blake2_ffi.proofs.DigestsInTurn.{written_lanes-are_first_digests}
use Rattle.blake2_ffi.proofs.blake2b.many.write_next_group.Goals as goal

pub returns-then-accepts_four-clause-digests : goal.returns-then-accepts_four-clause-digests
returns-then-accepts_four-clause-digests c =
    let of = digest blake2b c.args.given.now.output_size in
    written_lanes-are_first_digests 4 _ _ _ c.args.messages.now _ _ c.if-messages-ge4.true
    (search rules)
    (c.hash_four_sized.ensures ∙
    (λ i. ap of c.input.ensures i
    ∷ ap of c.input-then-messages-ge4.ensures i
    ∷ ap of c.input-then-messages-ge4-2.ensures i
    ∷ ap of c.input-then-messages-ge4-3.ensures i ∷ []))
    c.write_digests.ensures
