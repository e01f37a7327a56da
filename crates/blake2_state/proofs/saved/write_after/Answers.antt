use Rattle.std.proofs.Common.{◌≡◌, ◌+◌, ◌-◌, List, ℕ, length, arith}
use Rattle.blake2_compress.proofs.ParameterBlock.{put_mid-into_padded}
use Rattle.blake2_state.proofs.saved.write_after.Goals as goal

pub returns : goal.returns
returns g c = λ front at e.
    let part : List ℕ = c.args.part.now in
    let size : length part ≡ c.args.start + length part - c.args.start = omega arith in
    rw (c.copy_from_slice.ensures.after, e)
    (put_mid-into_padded g.row.N c.args.start (c.args.start + length part - c.args.start) front part
    at size
    (omega (arith, c.requires)))
