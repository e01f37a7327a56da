use Rattle.std.proofs.Common.{◌≡◌, ℕ, ◌-◌, ◌++◌, List, sym, ap, ◌∙◌}
use Rattle.std.proofs.lemmas.List.{take-append-drop}
use Rattle.blake2_simd.specs.Family.{blake2b}
use Rattle.blake2_simd.specs.Lanes.{in_lane}
use Rattle.blake2_parallel.specs.Blake2bp.{leaves_of}
use Rattle.blake2_parallel.proofs.LeafSteps.{HasAbsorbed-input_becomes_pending}
use Rattle.blake2_parallel.proofs.LeafSteps.{HasAbsorbedPrefix-by_HasAbsorbed}
use Rattle.blake2_parallel.proofs.LeafSteps.{HasAbsorbedPrefix-trans}
use Rattle.blake2_parallel.proofs.lanes.blake2bp.Lanes.compress_filled.Goals as goal

pub returns-clause-went_on : goal.returns-clause-went_on
returns-clause-went_on c =
    let k : ℕ = 512 - c.args.self.now.length in
    let input : List ℕ = c.args.input.now in
    let joined : input ≡ c.split_at.result.0.now ++ c.split_at.result.1.now =
    sym ((λ i. c.split_at.ensures.front i ++ c.split_at.ensures.back i) ∙ take-append-drop k input)
    in
    HasAbsorbedPrefix-trans blake2b _ _ _ input _ _
    (HasAbsorbedPrefix-by_HasAbsorbed blake2b (leaves_of c.args.self.now)
    (leaves_of c.append_pending.new.self)
    c.split_at.result.0.now c.split_at.result.1.now input joined
    (HasAbsorbed-input_becomes_pending blake2b _ _ _
    (λ j. ap (in_lane j) c.append_pending.ensures.rows) c.append_pending.ensures.counter
    c.append_pending.ensures.pending))
    c.compress_held.ensures.went_on
