-- What follows when lines are printed one after the other.
use Rattle.std.proofs.Common.{List, ℕ, Option, Result, inl, OnOk}
use Rattle.std.proofs.KnownBytes.{Appends-trans}
use Rattle.std.proofs.lemmas.Result.{on_ok_weaker}
use Rattle.std.specs.Io.KnownBytes.{Appends}
use Rattle.blake2.specs.Family.{Family}
use Rattle.blake2.specs.Hash.{Input, Step}
use Rattle.blake2.specs.Witness.{Collide, IsWitness}
use Rattle.b2_commands.specs.declared.fault.Fault.{Fault}
use Rattle.b2_commands.specs.PrintedLines.{step_line}
use Rattle.b2_commands.specs.PrintedWitnesses.{PrintsWitnessOrNone}

-- The lines of two steps that are a witness, one after the other.
pub witness_printed : (f : Family) (n : ℕ) (a b : Input) (x y : Step)
    (old mid new : Option (List ℕ))
    (r : Result (Unit {0}) Fault)
    → Collide f n a b → IsWitness f a b n x y → Appends old mid (step_line f x)
    → OnOk r (Appends mid new (step_line f y))
    → OnOk r (PrintsWitnessOrNone f n a b old new)
witness_printed f n a b x y old mid new r collide pair first second =
    on_ok_weaker r (λ last. inl (
      collide,
      (
        x,
        y,
        pair,
        Appends-trans old mid new (step_line f x) (step_line f y) first last,
      ),
    )) second
