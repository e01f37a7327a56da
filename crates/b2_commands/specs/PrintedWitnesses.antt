-- What is printed of two inputs and their digests.
use Rattle.std.specs.Prelude.{◌⊎◌, ℕ, List, [], ◌∷◌, ◌++◌, codes, Option}
use Rattle.std.specs.Io.KnownBytes.{Appends}
use Rattle.blake2.specs.Family.{Family}
use Rattle.blake2.specs.Hash.{Input, Step}
use Rattle.blake2.specs.Witness.{Collide, IsWitness}
use Rattle.b2_commands.specs.PrintedLines.{step_line}

-- The lines of two steps are printed, one step of each input, and the steps are a witness.
abbrev pub PrintsWitnessSteps : Family → ℕ → Input → Input → Option (List ℕ) → Option (List ℕ)
    → Type 0
PrintsWitnessSteps f n a b old new =
    (x : Step) × (y : Step) × IsWitness f a b n x y
    × Appends old new (step_line f x ++ step_line f y)

-- A witness is printed if the inputs differ and their digests of n bytes are equal, and otherwise
-- `none`.
abbrev pub PrintsWitnessOrNone : Family → ℕ → Input → Input → Option (List ℕ) → Option (List ℕ)
    → Type 0
PrintsWitnessOrNone f n a b old new =
    (Collide f n a b × PrintsWitnessSteps f n a b old new)
    ⊎ ((¬ Collide f n a b) × Appends old new (codes "none" ++ 10 ∷ []))
