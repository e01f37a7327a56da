-- Several states, each of which absorbs an input of its own.
use Rattle.std.specs.Prelude.{◌≡◌, ℕ, ◌<◌, ◌≤◌, List, [], length, map, slice_index_or}
use Rattle.blake2_state.specs.declared.many.Text.{Text}

-- Piece j of several.
abbrev pub input_bytes_at : List Text → ℕ → List ℕ
input_bytes_at inputs j = slice_index_or (map (λ t. t.bytes.now) inputs) j []

-- The states from number `from` to before number `to` have absorbed their inputs, as `Absorbed`
-- says of a state, an input and the state after it, and all others are as they were. `none` is the
-- default for an index that a list of states does not have.
pub record AreUpdated {S : Type 0} (Absorbed : S → List ℕ → S → Type 0) (none : S)
    (old : List S) (input : ℕ → List ℕ) (new : List S) (from to : ℕ) : Type 0 where
  pub as_many : length new ≡ length old
  pub updated : (j : ℕ) → from ≤ j → j < to
      → Absorbed (slice_index_or old j none) (input j) (slice_index_or new j none)
  pub before : (j : ℕ) → j < from → slice_index_or new j none ≡ slice_index_or old j none
  pub after : (j : ℕ) → to ≤ j → slice_index_or new j none ≡ slice_index_or old j none
