use Rattle.std.proofs.Common.{ℕ, [], List, take, refl, ap, sym, ◌∙◌, ◌*◌, ◌≡◌, ◌+◌, ◌-◌, ◌/◌, arith}
use Rattle.std.proofs.Common.{drop, length}
use Rattle.std.proofs.lemmas.List.{take_rest}
use Rattle.blake2_simd.specs.Family.{blake2b}
use Rattle.blake2_simd.specs.Lanes.{in_lane}
use Rattle.blake2_parallel.specs.LeafStates.{Leaves, leaf_chain}
use Rattle.blake2_parallel.proofs.LeafSteps.{HasAbsorbedPrefix-of_equal_leaves}
use Rattle.blake2_parallel.proofs.LeafSteps.{HasAbsorbedPrefix-n_stripes, HasAbsorbedPrefix-trans}
use Rattle.blake2_parallel.proofs.lanes.blake2bp.Lanes.compress_input.Goals as goal

pub returns-clause-went_on : goal.returns-clause-went_on
returns-clause-went_on c =
    let self = c.args.self.now in
    let t : ℕ = self.counter in
    let input : List ℕ = c.args.input.now in
    let n : ℕ = (length input - 385) / 512 in
    let no_bytes = ap (λ (k : ℕ). take k self.pending) c.requires.none in
    let old : Leaves = record { words = λ j. in_lane j self.rows; count = t; pending = [] } in
    let new : Leaves = record {
      words = λ j. in_lane j c.to_arrays-self.result;
      count = t + 128 * n;
      pending = [];
    } in
    let places : 512 * n ≡ n * 512 = omega arith in
    HasAbsorbedPrefix-trans blake2b _ old _ input input _
    (HasAbsorbedPrefix-of_equal_leaves blake2b _ _ input (λ j. refl) refl
    (sym no_bytes))
    (HasAbsorbedPrefix-trans blake2b old new _ input _ _
    (HasAbsorbedPrefix-n_stripes blake2b old new n input _ (omega arith)
    (λ j lane. c.to_arrays-self.ensures j lane ∙ c.compress_stripes.ensures j lane
    ∙ ap (λ h. leaf_chain blake2b h t input j n) (c.to_vectors-rows.ensures j lane))
    (omega arith) (take_rest input (512 * n) ∙ ap (λ (k : ℕ). drop k input) places))
    (HasAbsorbedPrefix-of_equal_leaves blake2b _ _ _ (λ j. refl) refl no_bytes))
