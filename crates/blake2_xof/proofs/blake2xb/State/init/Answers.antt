use Rattle.std.proofs.Common.{◌≤◌, [], false, length, take, drop, ap, ◌∙◌, rules}
use Rattle.blake2_simd.specs.Family.{blake2b}
use Rattle.blake2_compress.specs.Hash.{Tree}
use Rattle.blake2_compress.specs.Views.{tree_of}
use Rattle.blake2_state.specs.ConstructorArguments.{digest_given, counted_key_bytes}
use Rattle.blake2_state.specs.Blake2b as Root
use Rattle.blake2_state.specs.declared.StateParameters.{StateParameters}
use Rattle.blake2_xof.specs.Blake2xb.{settings_of}
use Rattle.blake2_xof.specs.Xof.{Settings, settings, xof_output}
use Rattle.blake2_xof.proofs.StateLaws.{Fresh-by_fresh_root_hash, xof_output-unchanged_by_padding}
use Rattle.blake2_xof.proofs.blake2xb.State.init.Goals as goal

pub returns-clause-fresh : goal.returns-clause-fresh
returns-clause-fresh c =
    let a : Settings =
    settings c.args.xof_length c.args.key.now c.args.salt.now c.args.persona.now in
    let given : StateParameters = record {
      output_size = 64;
      key = c.args.key;
      salt = c.args.salt;
      persona = c.args.persona;
    } in
    let made = c.new.ensures in
    let texts = c.new.result.texts in
    let salt : length c.args.salt.now ≤ 16 = search rules in
    let persona : length c.args.persona.now ≤ 16 = search rules in
    Fresh-by_fresh_root_hash blake2b Root.meaning (λ s. s.root) (λ s. settings_of s.reader) _ a
    given
    (tree_of c.root_place.result) (counted_key_bytes blake2b c.args.key.now)
    c.in_ok-root.ensures.fresh
    (λ y. ap (λ (t : Tree). digest_given blake2b given t false y) c.root_place.ensures)
    (λ x. (λ i. xof_output blake2b (settings (made.xof_length i) [] (take 16 texts) (drop 16 texts)) x)
    ∙ xof_output-unchanged_by_padding blake2b c.args.xof_length c.args.key.now c.args.salt.now
    c.args.persona.now
    (take 16 texts) (drop 16 texts) x salt persona made.salt made.persona)
