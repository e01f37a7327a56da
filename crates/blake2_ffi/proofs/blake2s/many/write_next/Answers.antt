use Rattle.std.proofs.Common.{[], ◌∷◌, ap, ◌∙◌, rules}
use Rattle.blake2_compress.specs.Hash.{digest}
use Rattle.blake2.specs.Family.{blake2s}
use Rattle.blake2_ffi.proofs.DigestsInTurn.{written_lanes-are_first_digests}
use Rattle.blake2_ffi.proofs.blake2s.many.write_next.Goals as goal

pub returns-then-accepts_eight-clause-digests : goal.returns-then-accepts_eight-clause-digests
returns-then-accepts_eight-clause-digests c =
    let of = digest blake2s c.args.given.now.output_size in
    written_lanes-are_first_digests 8 _ _ _ c.args.messages.now _ _ c.if-messages-ge8.true
    (search rules)
    (c.hash_eight_sized.ensures ∙
    (λ i. ap of c.input.ensures i
    ∷ ap of c.input-then-messages-ge8.ensures i
    ∷ ap of c.input-then-messages-ge8-2.ensures i
    ∷ ap of c.input-then-messages-ge8-3.ensures i
    ∷ ap of c.input-then-messages-ge8-4.ensures i
    ∷ ap of c.input-then-messages-ge8-5.ensures i
    ∷ ap of c.input-then-messages-ge8-6.ensures i
    ∷ ap of c.input-then-messages-ge8-7.ensures i ∷ []))
    c.write_digests.ensures

pub returns-clause-digests : goal.returns-clause-digests
returns-clause-digests c = search rules
