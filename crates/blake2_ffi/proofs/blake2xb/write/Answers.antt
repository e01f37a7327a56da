use Rattle.std.proofs.Common.{◌≤◌, ℕ, [], length, if◌then◌else◌, ap, rules}
use Rattle.blake2_simd.specs.Family.{blake2b}
use Rattle.blake2_digest.specs.States.{digest_now}
use Rattle.blake2_state.specs.ConstructorArguments.{counted_key_bytes}
use Rattle.blake2_state.specs.States.{is_on}
use Rattle.blake2_xof.specs.Blake2xb.{meaning, output_of}
use Rattle.blake2_xof.specs.Xof.{IsKnownLength, Settings, settings}
use Rattle.blake2_xof.proofs.KnownOutputs.{whole_read-is_xof}
use Rattle.blake2_ffi.proofs.blake2xb.write.Goals as goal

pub returns-else-input-counted-clause-output : goal.returns-else-input-counted-clause-output
returns-else-input-counted-clause-output c _ =
    let a : Settings = settings (length c.args.out.now) c.args.key.now [] [] in
    let known : IsKnownLength blake2b a.xof_length = search rules in
    let some : 1 ≤ a.xof_length = search rules in
    let now = c.update.new.self in
    whole_read-is_xof blake2b meaning a (counted_key_bytes blake2b c.args.key.now) c.in-Ok.run' now
    c.args.input.now _ _ _ known some c.in-Ok.ensures.fresh c.update.ensures.updated
    c.update.ensures.absorbing.none_read
    (ap (λ (r : ℕ). if is_on r then output_of now.reader else digest_now meaning now)
    c.update.ensures.absorbing.absorbs) c.squeeze.ensures.output
