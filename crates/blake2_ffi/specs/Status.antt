-- The status that an export returns.
use Rattle.std.specs.Prelude.{◌≡◌, ◌⊎◌, ℤ, pos, negsuc}

-- The status is 0 if the call is accepted, and otherwise -1.
abbrev pub IsStatusOf : ℤ → Type 0 → Type 0
IsStatusOf status accepted = ((status ≡ pos 0) × accepted) ⊎ ((status ≡ negsuc 0) × (¬ accepted))
