-- How many steps an input's run has, and what each of them is (RFC 7693, 3.3).
use Rattle.std.specs.Prelude.{ℕ, ◌-◌, length}
use Rattle.blake2_simd.specs.Family.{Family}
use Rattle.blake2_compress.specs.Hash.{Input, input_data, input_flags, input_start}
use Rattle.blake2_compress.specs.Hash.{block_count, Step, step}

-- The number of steps of an input's run.
abbrev pub step_count : Family → Input → ℕ
step_count f a = block_count f (length (input_data f a))

-- Step i of an input's run.
abbrev pub run_step : Family → ℕ → Input → ℕ → Step
run_step f size a i = step f (input_start f size a) (input_data f a) (input_flags a) i

-- The last step of an input's run.
abbrev pub last_step : Family → ℕ → Input → Step
last_step f size a = run_step f size a (step_count f a - 1)
