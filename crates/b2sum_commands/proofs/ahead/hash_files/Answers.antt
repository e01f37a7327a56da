use Rattle.std.proofs.Common.{List, length, map, subst, sym}
use Rattle.std.specs.List.{Any}
use Rattle.std.proofs.lemmas.List.Sorted.{All-permutation}
use Rattle.std.proofs.lemmas.List.Elements.{All-same}
use Rattle.b2sum_commands.specs.ReadAhead.{PartHasFileText, IsDigestFor, bytes_of_part}
use Rattle.b2sum_commands.specs.declared.ahead.Part.{Part}
use Rattle.b2sum_commands.proofs.ahead.hash_files.Goals as goal

pub hash_parts-requires-clause-parts : goal.hash_parts-requires-clause-parts
hash_parts-requires-clause-parts g c =
    let P = PartHasFileText (g.D.Disk.files c.args.host.now.disk) c.read_parts.new.room
    (length c.read_parts.new.room) in
    All-same P _ _ c.as_slice-parts.ensures.value
    (All-permutation P _ _ c.sort_by_key.ensures.permutation c.in_ok-group.ensures)

pub returns-clause-all : goal.returns-clause-all
returns-clause-all g c has =
    let Has : Part → Type 0 =
    λ p. Any (IsDigestFor c.args.function p.name.items) c.hash_parts.new.found.items in
    All-same Has _ _ (sym c.as_slice-parts.ensures.value) (c.in_ok-hash_parts.ensures.all
    (subst (λ (l : List Part). g.H.Hashes.hashes_several c.args.options.now c.args.function
    (map (bytes_of_part c.read_parts.new.room) l)) (sym c.as_slice-parts.ensures.value) has))
