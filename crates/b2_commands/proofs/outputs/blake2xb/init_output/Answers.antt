use Rattle.std.proofs.Common.{◌≡◌, [], Some, refl, rules}
use Rattle.std.proofs.lemmas.Bool.{iff_false}
use Rattle.std.specs.Prelude.{unwrap_or}
use Rattle.blake2.specs.Family.{blake2b}
use Rattle.blake2_xof.specs.Blake2xb.{meaning}
use Rattle.b2_commands.specs.ReadOptions.{given_options}
use Rattle.b2_commands.specs.ArgumentTasks.{GivenOptions}
use Rattle.b2_commands.proofs.OutputLaws.{ArgumentsMatchOptions, empty_key-is_refused}
use Rattle.b2_commands.proofs.OutputLaws.{Fresh-for_given_options, init_error-iff_refused}
use Rattle.b2_commands.proofs.outputs.blake2xb.init_output.Goals as goal

pub returns-then-has_empty_key-clause-length : goal.returns-then-has_empty_key-clause-length
returns-then-has_empty_key-clause-length c =
    let empty : (given_options c.args.options.now).key ≡ Some [] = search rules in
    (λ _. rw empty (empty_key-is_refused blake2b _ _), λ _. refl)

pub returns-in-Ok-clause-length : goal.returns-in-Ok-clause-length
returns-in-Ok-clause-length c =
    let given : GivenOptions = given_options c.args.options.now in
    let are : ArgumentsMatchOptions given.key (unwrap_or given.salt []) (unwrap_or given.persona [])
    c.key_bytes.result.now c.salt.result.now c.persona.result.now = record {
      key_is = c.key_bytes.ensures;
      salt_is = c.salt.ensures;
      persona_is = c.persona.ensures;
      not_empty = iff_false c.has_empty_key.ensures c.if-has_empty_key.false;
    } in
    init_error-iff_refused blake2b c.args.size given.key _ _ _ _ _ _ are c.requires.some
    c.requires.known
    c.in-Ok.ensures.refused

pub returns-in-Err-clause-length : goal.returns-in-Err-clause-length
returns-in-Err-clause-length c =
    let given : GivenOptions = given_options c.args.options.now in
    let are : ArgumentsMatchOptions given.key (unwrap_or given.salt []) (unwrap_or given.persona [])
    c.key_bytes.result.now c.salt.result.now c.persona.result.now = record {
      key_is = c.key_bytes.ensures;
      salt_is = c.salt.ensures;
      persona_is = c.persona.ensures;
      not_empty = iff_false c.has_empty_key.ensures c.if-has_empty_key.false;
    } in
    init_error-iff_refused blake2b c.args.size given.key _ _ _ _ _ _ are c.requires.some
    c.requires.known
    c.in-Err.ensures.refused

pub returns-in-Ok-clause-fresh : goal.returns-in-Ok-clause-fresh
returns-in-Ok-clause-fresh c =
    let given : GivenOptions = given_options c.args.options.now in
    let are : ArgumentsMatchOptions given.key (unwrap_or given.salt []) (unwrap_or given.persona [])
    c.key_bytes.result.now c.salt.result.now c.persona.result.now = record {
      key_is = c.key_bytes.ensures;
      salt_is = c.salt.ensures;
      persona_is = c.persona.ensures;
      not_empty = iff_false c.has_empty_key.ensures c.if-has_empty_key.false;
    } in
    Fresh-for_given_options blake2b meaning c.args.size given.key _ _ _ _ _ c.in-Ok.state are
    c.in-Ok.ensures.fresh
