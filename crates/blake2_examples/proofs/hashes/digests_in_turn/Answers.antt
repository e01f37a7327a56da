use Rattle.std.proofs.Common.{List, ℕ, Bool, false, [], ◌++◌, ap, ◌∙◌, append-nil, None}
use Rattle.blake2_simd.specs.Family.{blake2b}
use Rattle.blake2.specs.Hashers.{blake2b_state, blake2b_meaning}
use Rattle.blake2.specs.Restarts.{StartedAgain_by}
use Rattle.blake2.specs.States.{digest_of}
use Rattle.blake2_examples.proofs.hashes.digests_in_turn.Goals as goal

-- After the reset, the digests are those of the hasher as it was initialized, whose flag is still
-- off.
pub returns-clause-second : goal.returns-clause-second
returns-clause-second c =
    let second : List ℕ = c.args.second.now in
    let was = c.finalize_reset-digest in
    let again = StartedAgain_by blake2b 64 (blake2b_state {n = 64}) c.update.new.self was.new.self
    was.ensures.reset in
    let off = c.update-2.ensures.last_node ∙ again.last_node ∙ c.update.ensures.last_node
    ∙ c.new-hasher.ensures.last_node in
    c.finalize.ensures ∙ ap (λ (flag : Bool). (blake2b_meaning 64).future c.update-2.new.self flag
    []) off
    ∙ c.update-2.ensures.future false [] ∙ again.future false (second ++ [])
    ∙ c.update.ensures.started false (second ++ [])
    ∙ c.new-hasher.ensures.started false (second ++ [])
    ∙ ap (digest_of blake2b 64 [] [] None) (append-nil second)
