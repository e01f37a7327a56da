use Rattle.std.proofs.Common.{◌≤◌, ◌∙◌, sym, rules}
use Rattle.blake2.specs.Family.{output_bytes}
use Rattle.blake2.specs.MacArguments.{key_count}
use Rattle.blake2_compress.proofs.RunSizes.{length-digest}
use Rattle.b2_commands.specs.Kinds.{kind_value}
use Rattle.b2_commands.specs.ReadOptions.{given_options}
use Rattle.b2_commands.specs.ArgumentTasks.{GivenOptions, Kind}
use Rattle.b2_commands.specs.Tasks.{node_digest_with}
use Rattle.b2_commands.proofs.PrintedDigests.{EndsTask-to_sum, EndsTask-to_script}
use Rattle.b2_commands.proofs.digests.hash.Goals as goal

pub returns-in_ok-start-in-Digest : goal.returns-in_ok-start-in-Digest
returns-in_ok-start-in-Digest g c =
    let given : GivenOptions = given_options c.args.options.now in
    let kind : Kind = kind_value c.args.kind in
    let told = c.sum.ensures in
    let most : kind.bytes ≤ output_bytes kind.family = rw c.size.ensures.bytes at c.size.ensures.most in
    rw c.in-Digest.is
    (EndsTask-to_sum kind given c.sum.result _ _ _ _ _ (search rules) told.length told.read
    told.write
    told.memory
    (told.ends (node_digest_with kind.family kind.bytes given) (key_count kind.family given.key)
    c.in_ok-start-in-Digest.ensures.fresh
    (λ y. length-digest kind.family kind.bytes _ most ∙ sym c.size.ensures.bytes)))

pub returns-in_ok-start-in-Digests : goal.returns-in_ok-start-in-Digests
returns-in_ok-start-in-Digests g c =
    let given : GivenOptions = given_options c.args.options.now in
    let kind : Kind = kind_value c.args.kind in
    let told = c.script.ensures in
    let size = c.size-in-Digests.ensures in
    let most : kind.bytes ≤ output_bytes kind.family = rw size.bytes at size.most in
    rw c.in-Digests.is
    (EndsTask-to_script kind given c.script.result _ _ _ _ _ (search rules) told.length told.read
    told.write
    (told.ends (node_digest_with kind.family kind.bytes given) (key_count kind.family given.key)
    c.in_ok-start-in-Digests.ensures.fresh
    (λ y. length-digest kind.family kind.bytes _ most ∙ sym size.bytes)))
