use Rattle.std.proofs.Common.{slice_index_or, arith, refl, sym, subst, take, [], ◌+◌, ◌∙◌, List}
use Rattle.std.specs.List.{All, Any}
use Rattle.std.proofs.lemmas.List.{take_all}
use Rattle.std.proofs.lemmas.List.Elements.{All-same}
use Rattle.b2sum_commands.specs.ReadAhead.{IsDigestOfFile, IsDigestFor}
use Rattle.b2sum_commands.specs.declared.ahead.Found.{Found}
use Rattle.b2sum_commands.specs.declared.ahead.Part.{Part}
use Rattle.b2sum_commands.proofs.FilesAhead.{all-pushed_if_memory, digests_found-one_more_part}
use Rattle.b2sum_commands.proofs.FilesAhead.{pushed-if_memory}
use Rattle.b2sum_commands.proofs.ahead.add_digests.Goals as goal

pub returns-in_err-map_err-clause-found : goal.returns-in_err-map_err-clause-found
returns-in_err-map_err-clause-found g c =
    let p = slice_index_or c.args.parts.now c.loop-j.j c.index-parts-j.result in
    all-pushed_if_memory
    (λ x. IsDigestOfFile (g.D.Disk.files c.args.host.now.disk) g.H.Hashes.hashing
    c.args.options.now x.function x.name.items x.digest)
    c.loop-j.found.items _ _ _ c.push.ensures.items c.loop-j.invariant.found
    (subst (λ n. IsDigestOfFile (g.D.Disk.files c.args.host.now.disk) g.H.Hashes.hashing
    c.args.options.now c.args.function n (slice_index_or c.args.digests.now c.loop-j.j []))
    (sym (c.in_ok-from_slice.ensures.items ∙ c.as_slice.ensures.value))
    (c.requires.digests c.loop-j.j c.index-parts-j.result c.loop-j-test.true))

pub loop-j-preserved : goal.loop-j-preserved
loop-j-preserved g c =
    let parts = c.args.parts.now in
    let name = c.in_ok-from_slice.ensures.items ∙ c.as_slice.ensures.value in
    record {
      found = all-pushed_if_memory
          (λ x. IsDigestOfFile (g.D.Disk.files c.args.host.now.disk) g.H.Hashes.hashing
          c.args.options.now x.function x.name.items x.digest)
          c.loop-j.found.items _ _ _ c.push.ensures.items c.loop-j.invariant.found
          (subst (λ n. IsDigestOfFile (g.D.Disk.files c.args.host.now.disk) g.H.Hashes.hashing
          c.args.options.now c.args.function n (slice_index_or c.args.digests.now c.loop-j.j []))
          (sym name) (c.requires.digests c.loop-j.j c.index-parts-j.result c.loop-j-test.true));
      all = subst
          (λ (l : List Found). All (λ (q : Part). Any (IsDigestFor c.args.function q.name.items) l)
          (take (c.loop-j.j + 1) parts))
          (sym (pushed-if_memory c.loop-j.found.items _ _ _ c.push.ensures.items
          (sym c.in_ok-map_err.ensures.variant)))
          (digests_found-one_more_part c.args.function parts c.loop-j.j c.index-parts-j.result
          c.loop-j.found.items _ c.loop-j-test.true (refl, name) c.loop-j.invariant.all);
    }

pub returns-clause-all : goal.returns-clause-all
returns-clause-all g c =
    let Has : Part
    → Type 0 = λ p. Any (IsDigestFor c.args.function p.name.items) c.loop-j.found.items in
    All-same Has c.args.parts.now _
    (sym (take_all c.loop-j.j c.args.parts.now (omega (arith, c.loop-j-test.false))))
    c.loop-j.invariant.all
