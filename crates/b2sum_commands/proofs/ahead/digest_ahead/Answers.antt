use Rattle.std.proofs.Common.{ℕ, List, ap, arith, length, refl, slice_index_or, subst, sym, take, ◌∙◌}
use Rattle.std.proofs.lemmas.List.{take_all, take_more}
use Rattle.std.proofs.lemmas.List.Elements.{All-push, All-same}
use Rattle.b2sum_commands.specs.ReadAhead.{IsDigestOfFile, IsDigestFor}
use Rattle.b2sum_commands.specs.declared.ahead.Found.{Found}
use Rattle.b2sum_commands.specs.declared.hashes.Function.{Function}
use Rattle.b2sum_commands.proofs.ahead.digest_ahead.Goals as goal

pub loop-found-preserved : goal.loop-found-preserved
loop-found-preserved g c has =
    let items = c.args.ahead.now.found.items in
    let i : ℕ = c.loop-found.found-index in
    let x = c.found-item.result in
    let value = c.as_slice-found-items.ensures.value in
    let here = sym (c.found-item.is ∙ ap (λ (l : List Found). slice_index_or l i x) value) in
    let Not : Found → Type 0 = λ y. ¬ IsDigestFor c.args.function c.args.name.now y in
    All-same Not _ _ (take_more items i x (omega (arith, c.loop-found-test.true, ap length value)))
    (All-push Not (take i items) (slice_index_or items i x) (c.loop-found.invariant has)
    (subst Not (sym here) (c.if-is_of.ensures.wrong refl has)))

pub returns-clause-none : goal.returns-clause-none
returns-clause-none g c none has due =
    let items = c.args.ahead.now.found.items in
    let Not : Found → Type 0 = λ y. ¬ IsDigestFor c.args.function c.args.name.now y in
    All-same Not items _ (sym (take_all c.loop-found.found-index items (omega (
      arith,
      c.loop-found-test.false,
      ap length c.as_slice-found-items.ensures.value,
    )))) (c.loop-found.invariant has)

pub returns-then-is_of-clause-right : goal.returns-then-is_of-clause-right
returns-then-is_of-clause-right g c =
    let IsOf = IsDigestOfFile (g.D.Disk.files c.args.host.now.disk) g.H.Hashes.hashing
    c.args.options.now in
    let x = c.found-item.result in
    let Is : Found → Type 0 = λ y. IsOf y.function y.name.items y.digest in
    let all = All-same Is c.as_slice-found-items.result.now _ c.as_slice-found-items.ensures.value
    c.requires in
    let here = subst Is (sym c.found-item.is) (all c.loop-found.found-index x c.loop-found-test.true) in
    let same = c.if-is_of.ensures.right refl in
    subst (λ (n : List ℕ). IsOf c.args.function n x.digest) same.1
    (subst (λ (f : Function). IsOf f x.name.items x.digest) same.0 here)
