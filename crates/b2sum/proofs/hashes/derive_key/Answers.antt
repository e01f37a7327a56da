use Rattle.std.proofs.Common.{◌≡◌, List, ℕ, [], length, refl, rules, arith}
use Rattle.std.proofs.lemmas.Bool.Decides.{nat_tests}
use Rattle.blake2_digest.specs.States.{Fresh, digest_now}
use Rattle.blake2_simd.specs.Family.{blake2b}
use Rattle.blake2_state.specs.ConstructorArguments.{counted_key_bytes}
use Rattle.blake2_xof.specs.Blake2xb.{meaning, output_now}
use Rattle.blake2_xof.specs.Xof.{IsKnownLength, Settings, outputs, settings}
use Rattle.blake2_xof.proofs.KnownOutputs.{whole_read-is_xof}
use Rattle.b2sum.proofs.hashes.derive_key.Goals as goal

pub returns : goal.returns
returns c =
    let size : ℕ = length c.args.out.now in
    let a : Settings = settings size c.args.key.now [] [] in
    let fresh : Fresh meaning (outputs blake2b a) (counted_key_bytes blake2b c.args.key.now)
    c.unwrap-state.result = search rules in
    let now = c.update.new.self in
    let absorbing = c.update.ensures.absorbing in
    let is : output_now now ≡ digest_now meaning now = rw absorbing.absorbs refl in
    let known : IsKnownLength blake2b size = grind (arith, nat_tests, c.requires.room) in
    whole_read-is_xof blake2b meaning a _ c.unwrap-state.result now c.args.context.now
    now.reader.position
    (output_now now) c.squeeze.new.out known c.requires.some fresh c.update.ensures.updated
    absorbing.none_read is c.squeeze.ensures.output
