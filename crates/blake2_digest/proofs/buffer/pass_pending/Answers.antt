use Rattle.std.proofs.Common.{◌≡◌, ℕ, ◌-◌, ◌<◌, List, [], ◌∷◌, ◌++◌, length, take, drop}
use Rattle.std.proofs.Common.{refl, sym, ap, ◌∙◌, arith, length-drop}
use Rattle.blake2_digest.specs.Blocks.{compressed_blocks, pending_bytes}
use Rattle.blake2_digest.proofs.Cutting.{compressed_blocks-cons_block, pending_bytes-cons_block}
use Rattle.blake2_digest.proofs.Cutting.{first_block-fills_pending, append-split_input}
use Rattle.blake2_digest.proofs.buffer.pass_pending.Goals as goal

pub returns-clause-handed : goal.returns-clause-handed
returns-clause-handed g c =
    let absorb = g.C.UpdateCore.absorb in
    let p : List ℕ = take c.args.pos c.args.bytes.now in
    let room : ℕ = g.row.B - c.args.pos in
    let block : List ℕ = p ++ take room c.args.input.now in
    let rest : List ℕ = drop room c.args.input.now in
    let filled : c.write_after.new.bytes ≡ block =
    first_block-fills_pending g.row.B c.args.pos c.args.bytes.now _ p c.args.input.now refl
    c.requires.within
    c.told-bytes c.write_after.ensures.size (omega arith)
    (rw c.split_at.ensures.front at c.write_after.ensures.placed) in
    let lb : length block ≡ g.row.B = sym (ap length filled) ∙ c.write_after.ensures.size in
    let some : 0 < length rest = omega (arith, c.requires.more, length-drop room c.args.input.now) in
    let cut : compressed_blocks g.row.B (p ++ c.args.input.now) ≡ (block ∷ []) ++ compressed_blocks g.row.B rest =
    ap (compressed_blocks g.row.B) (sym (append-split_input room p c.args.input.now))
    ∙ compressed_blocks-cons_block g.row.B block rest c.requires.nonzero lb some in
    let first : c.update_blocks.new.self ≡ absorb c.args.core.now (block ∷ []) =
    c.update_blocks.ensures ∙ ap (absorb c.args.core.now)
    (c.from_ref.ensures.value ∙ ap (λ (b : List ℕ). b ∷ []) filled) in
    rw (first, c.split_at.ensures.back, cut)
    (sym (g.met.C.UpdateCore.absorb_join c.args.core.now (block ∷ []) (compressed_blocks g.row.B rest)))

pub returns-clause-held : goal.returns-clause-held
returns-clause-held g c =
    let p : List ℕ = take c.args.pos c.args.bytes.now in
    let room : ℕ = g.row.B - c.args.pos in
    let block : List ℕ = p ++ take room c.args.input.now in
    let rest : List ℕ = drop room c.args.input.now in
    let filled : c.write_after.new.bytes ≡ block =
    first_block-fills_pending g.row.B c.args.pos c.args.bytes.now _ p c.args.input.now refl
    c.requires.within
    c.told-bytes c.write_after.ensures.size (omega arith)
    (rw c.split_at.ensures.front at c.write_after.ensures.placed) in
    let lb : length block ≡ g.row.B = sym (ap length filled) ∙ c.write_after.ensures.size in
    let some : 0 < length rest = omega (arith, c.requires.more, length-drop room c.args.input.now) in
    ap (pending_bytes g.row.B) c.split_at.ensures.back
    ∙ sym (pending_bytes-cons_block g.row.B block rest c.requires.nonzero lb some)
    ∙ ap (pending_bytes g.row.B) (append-split_input room p c.args.input.now)
