use Rattle.std.proofs.Common.{ℕ, List, [], take, ap, sym, ◌∙◌, true, zero-add, rules}
use Rattle.blake2_simd.specs.Family.{blake2b}
use Rattle.blake2_parallel.specs.Blake2bp.{leaves_of}
use Rattle.blake2_parallel.specs.LeafStates.{leaf_future}
use Rattle.blake2_parallel.specs.Parallel.{node_output_from}
use Rattle.blake2_parallel.specs.States.{future}
use Rattle.blake2_parallel.proofs.ListsByElement.{concat-is_flat_map_range}
use Rattle.blake2_parallel.proofs.blake2bp.State.output.Goals as goal

pub returns : goal.returns
unfolding future
returns c =
    let self = c.args.self.now in
    let outputs : List (List ℕ) = c.outputs-outputs.result in
    let joined = concat-is_flat_map_range (leaf_future blake2b (leaves_of self.lanes) []) 0 4
    outputs (search rules)
    (λ j lt. c.outputs-outputs.ensures j lt
    ∙ ap (leaf_future blake2b (leaves_of self.lanes) []) (sym (zero-add j))) in
    ap (take self.output_size) (c.output_of.ensures
    ∙ (λ i. node_output_from blake2b (c.to_rows.ensures i) 0
    ((c.as_flattened.ensures.value ∙ joined) i) true))
