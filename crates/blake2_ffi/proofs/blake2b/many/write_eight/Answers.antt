use Rattle.std.proofs.Common.{[], ◌∷◌, ap, ◌∙◌, rules}
use Rattle.blake2_compress.specs.Hash.{digest}
use Rattle.blake2.specs.Family.{blake2b}
use Rattle.blake2_ffi.proofs.DigestsInTurn.{written_lanes-are_first_digests}
use Rattle.blake2_ffi.proofs.blake2b.many.write_eight.Goals as goal

pub returns-clause-digests : goal.returns-clause-digests
returns-clause-digests c = λ yes.
    let of = digest blake2b c.args.given.now.output_size in
    written_lanes-are_first_digests 8 _ _ _ c.args.messages.now _ _ c.requires.enough (search rules)
    (c.hash_eight_sized.ensures ∙
    (λ i. ap of c.input.ensures i
    ∷ ap of c.input-2.ensures i
    ∷ ap of c.input-3.ensures i
    ∷ ap of c.input-4.ensures i
    ∷ ap of c.input-5.ensures i
    ∷ ap of c.input-6.ensures i
    ∷ ap of c.input-7.ensures i
    ∷ ap of c.input-8.ensures i ∷ []))
    c.write_digests.ensures
