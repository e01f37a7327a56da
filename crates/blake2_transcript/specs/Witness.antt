-- The pair of steps that two different inputs with one digest lead to. A step has the arguments of
-- one compression (RFC 7693, 3.2).
use Rattle.std.specs.Prelude.{◌≡◌, ◌≢◌, ℕ, ◌-◌, ◌<◌, List, length, take, slice_index_or}
use Rattle.blake2_simd.specs.Family.{Family}
use Rattle.blake2_compress.specs.Hash.{bytes_of, Input, digest, Step, output, steps}
use Rattle.blake2_compress.specs.Inputs.{SameUpToTrailingZeros}

-- Two inputs that are not the same have the same digest.
pub record Collide (f : Family) (size : ℕ) (a b : Input) : Type 0 where
  pub different : ¬ SameUpToTrailingZeros f a b
  pub digests : digest f size a ≡ digest f size b

-- The step at distance j from the end, or d if the list is empty.
abbrev pub step_from_end : List Step → ℕ → Step → Step
step_from_end xs j d = slice_index_or xs (length xs - 1 - j) d

-- x and y are the steps of a and b at distance j from the ends. All nearer pairs are equal, x and y
-- differ, and F returns the same for both: in the first `size` bytes, and in full if j is not 0.
pub record IsWitnessAt (f : Family) (a b : Input) (size : ℕ) (x y : Step) (j : ℕ) : Type 0 where
  pub in_a : j < length (steps f size a)
  pub in_b : j < length (steps f size b)
  pub of_a : (d : Step) → x ≡ step_from_end (steps f size a) j d
  pub of_b : (d : Step) → y ≡ step_from_end (steps f size b) j d
  pub nearer : (i : ℕ) (d : Step) → i < j
      → step_from_end (steps f size a) i d ≡ step_from_end (steps f size b) i d
  pub differ : x ≢ y
  pub agree : take size (bytes_of f (output f x)) ≡ take size (bytes_of f (output f y))
  pub wholly : 0 < j → output f x ≡ output f y

-- x and y are a witness: such a pair of steps at some distance from the ends.
abbrev pub IsWitness : Family → Input → Input → ℕ → Step → Step → Type 0
IsWitness f a b size x y = (j : ℕ) × IsWitnessAt f a b size x y j
