use Rattle.std.proofs.Common.{◌≡◌, ℕ, ◌+◌, ◌-◌, ◌≤◌, List, ◌++◌, length, take, drop}
use Rattle.std.proofs.Common.{replicate, sym, zero-add, ap, ◌∙◌, arith, length-append, drop-drop}
use Rattle.std.proofs.lemmas.List.{length-take-le, take_rest, drop-replicate}
use Rattle.blake2_digest.proofs.Cutting.{compressed_blocks-empty_if_short}
use Rattle.blake2_digest.proofs.Cutting.{pending_bytes-all_if_short, compressed_blocks-are_chunks}
use Rattle.blake2_digest.proofs.Cutting.{pending_bytes-from_last_offset}
use Rattle.blake2_digest.proofs.buffer.digest_into.Goals as goal

pub returns-then-input-room-clause-handed : goal.returns-then-input-room-clause-handed
returns-then-input-room-clause-handed g c =
    let p : List ℕ = take c.args.pos c.args.bytes.now in
    let lp : length p ≡ c.args.pos = length-take-le c.args.pos c.args.bytes.now
    (omega (arith, c.requires.within, c.told-bytes)) in
    let short : length (p ++ c.args.input.now) ≤ g.row.B =
    omega (arith, length-append p c.args.input.now, lp) in
    sym (ap (g.C.UpdateCore.absorb c.args.core.now)
    (compressed_blocks-empty_if_short g.row.B _ c.requires.nonzero short)
    ∙ g.met.C.UpdateCore.absorb_nothing c.args.core.now)

pub returns-then-input-room-clause-pending : goal.returns-then-input-room-clause-pending
returns-then-input-room-clause-pending g c =
    let p : List ℕ = take c.args.pos c.args.bytes.now in
    let lp : length p ≡ c.args.pos = length-take-le c.args.pos c.args.bytes.now
    (omega (arith, c.requires.within, c.told-bytes)) in
    let short : length (p ++ c.args.input.now) ≤ g.row.B =
    omega (arith, length-append p c.args.input.now, lp) in
    c.write_after.ensures.placed
    ∙ sym (pending_bytes-all_if_short g.row.B _ c.requires.nonzero short)

-- After the input the block is zero, as it was.
pub returns-then-input-room-clause-rest : goal.returns-then-input-room-clause-rest
returns-then-input-room-clause-rest g c = λ zero.
    let pos : ℕ = c.args.pos in
    let n : ℕ = length c.args.input.now in
    let less : g.row.B - pos - n ≡ g.row.B - (pos + n) = omega arith in
    c.write_after.ensures.rest ∙ sym (drop-drop n pos c.args.bytes.now) ∙ ap (drop n) zero
    ∙ drop-replicate n (g.row.B - pos) 0
    ∙ ap (λ (m : ℕ). replicate m 0) less

pub returns-clause-handed : goal.returns-clause-handed
returns-clause-handed g c =
    c.update_blocks.ensures ∙ ap (g.C.UpdateCore.absorb c.pass_pending-rest.new.core)
    (c.as_chunks.ensures.front ∙ rw c.saturating_sub.ensures
    (compressed_blocks-are_chunks g.row.B c.pass_pending-rest.result.now c.requires.nonzero))
    ∙ c.pass_pending-rest.ensures.handed

pub returns-clause-pending : goal.returns-clause-pending
returns-clause-pending g c =
    ap (λ (n : ℕ). take n c.write_after-2.new.bytes) (sym (zero-add _))
    ∙ c.write_after-2.ensures.placed ∙ take_rest c.pass_pending-rest.result.now _
    ∙ rw c.saturating_sub.ensures
    (pending_bytes-from_last_offset g.row.B c.pass_pending-rest.result.now c.requires.nonzero)
    ∙ c.pass_pending-rest.ensures.held
