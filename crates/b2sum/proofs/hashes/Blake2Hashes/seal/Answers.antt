use Rattle.std.proofs.Common.{ℕ, ◌∙◌, ap, List, take, false, codes}
use Rattle.blake2_simd.specs.Family.{blake2b}
use Rattle.blake2_compress.specs.Hash.{sequential}
use Rattle.blake2.specs.States.{node_digest_of}
use Rattle.blake2_state.specs.ConstructorArguments.{key_unless_empty}
use Rattle.b2sum.proofs.hashes.Blake2Hashes.seal.Goals as goal

-- The MAC of a list under a key and a salt.
abbrev mac_under_key_and_salt : List ℕ → List ℕ → List ℕ → List ℕ
mac_under_key_and_salt list key salt =
    node_digest_of blake2b 64 salt (codes "b2sum sealed") (key_unless_empty key) sequential false
    list

pub returns : goal.returns
returns c =
    c.digest_list.ensures
    ∙ (ap (λ (key : List ℕ). mac_under_key_and_salt c.args.list.now key c.front-2.result.now)
    (c.front.ensures.front ∙ ap (take 64) c.as_slice.ensures.value)
    ∙ ap (mac_under_key_and_salt c.args.list.now (take 64 c.args.options.now.key.items))
    (c.front-2.ensures.front ∙ ap (take 16) c.as_slice-2.ensures.value))
