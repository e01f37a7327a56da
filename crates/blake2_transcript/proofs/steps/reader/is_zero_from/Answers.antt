use Rattle.std.proofs.Common.{◌≡◌, List, ℕ, length, arith}
use Rattle.std.proofs.lemmas.List.{take_rest}
use Rattle.blake2_transcript.proofs.RunEntries.{IsZeroFrom-iff_rest_zero}
use Rattle.blake2_transcript.proofs.steps.reader.is_zero_from.Goals as goal

pub returns-clause-zero : goal.returns-clause-zero
returns-clause-zero g c =
    let xs : List ℕ = c.args.block.now in
    let whole : length xs ≡ g.row.B = assumption c in
    let zeros = IsZeroFrom-iff_rest_zero xs c.args.from (omega arith) in
    let tested = rw (take_rest xs c.args.from) at c.is_zero.ensures in
    (λ t. zeros.0 (tested.0 t), λ z. tested.1 (zeros.1 z))
