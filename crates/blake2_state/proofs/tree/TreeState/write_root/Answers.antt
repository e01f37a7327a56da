use Rattle.std.proofs.Common.{◌≡◌, ◌∙◌, ◌++◌, [], drop}
use Rattle.blake2_digest.specs.States.{digest_now}
use Rattle.blake2_state.specs.Blake2b.{meaning}
use Rattle.blake2_state.specs.TreeStates.{future}
use Rattle.blake2_tree.proofs.RootsOfCalls.{digest_now-is_future_of_nothing}
use Rattle.blake2_state.proofs.tree.TreeState.write_root.Goals as goal

pub returns : goal.returns
returns c =
    let old = c.args.self.now in
    let last = c.set_last_node-2.new.self in
    let size : last.output_size ≡ old.root.output_size =
    c.set_last_node-2.ensures.size ∙ c.update.ensures.size in
    let root : digest_now meaning last ≡ future old [] =
    digest_now-is_future_of_nothing _ _ c.set_last_node.ensures.set
    (rw c.digest_of.ensures at c.update.ensures.updated) c.set_last_node-2.ensures.set in
    c.write_digest.ensures ∙ (λ k. root k ++ drop (size k) c.args.out.now)
