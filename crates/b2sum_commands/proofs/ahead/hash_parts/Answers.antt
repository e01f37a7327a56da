use Rattle.std.proofs.Common.{◌≡◌, List, ℕ, map, [], Bor, slice_index_or, arith, refl, sym, ap, length, take, ◌∙◌}
use Rattle.std.proofs.lemmas.List.{get_or-map, length-map, take_at}
use Rattle.b2sum_commands.specs.ReadAhead.{bytes_of_part}
use Rattle.b2sum_commands.proofs.FilesAhead.{digest_of_part-is_of_file}
use Rattle.b2sum_commands.proofs.ahead.hash_parts.Goals as goal

pub add_digests-requires-clause-digests : goal.add_digests-requires-clause-digests
add_digests-requires-clause-digests g c j p lt =
    let room = c.args.room.now in
    let parts = c.args.parts.now in
    let texts = c.in_ok-texts.texts.items in
    let bytes : Bor (List ℕ) → List ℕ = λ t. t.now in
    let same : map bytes c.as_slice.result.now ≡ map (bytes_of_part room) parts =
    ap (map bytes) c.as_slice.ensures.value ∙ c.in_ok-texts.ensures in
    let number : length c.as_slice.result.now ≡ length parts =
    sym (length-map c.as_slice.result.now bytes) ∙ ap length same
    ∙ length-map parts (bytes_of_part room) in
    let right = c.if-not-are_hashed.ensures.right refl j (omega (arith, lt, number)) in
    digest_of_part-is_of_file (g.D.Disk.files c.args.host.now.disk) g.H.Hashes.hashing
    c.args.options.now
    c.args.function room (slice_index_or parts j p) _ _ _ (c.requires.parts j p lt) refl
    (ap (λ (l : List (List ℕ)). slice_index_or l j []) same
    ∙ get_or-map (bytes_of_part room) parts j p [] lt)
    (ap (λ (l : List (List ℕ)). take c.args.function.bytes (slice_index_or l j []))
    (c.as_slice-2.ensures.value ∙ take_at c.digest_several-are_hashed.new.out _ _ (omega (
      arith,
      c.digest_several-are_hashed.auto.out,
      c.as_mut_slice.ensures.len,
    ))) ∙ right)
