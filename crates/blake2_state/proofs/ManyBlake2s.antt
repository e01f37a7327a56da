-- Made by tools/twins.py from proofs/ManyBlake2b.antt.
-- States of BLAKE2s of a list, and their inputs, whatever default each is read with.
use Rattle.std.proofs.Common.{◌≡◌, ℕ, ◌<◌, List, [], length, get_or, slice_index_or, sym, subst}
use Rattle.std.proofs.lemmas.List.{get_or-map, get_or_default}
use Rattle.blake2_state.specs.Blake2s.{zeros}
use Rattle.blake2_state.specs.SeveralStates.{input_bytes_at}
use Rattle.blake2_state.specs.declared.blake2s.State.{State}
use Rattle.blake2_state.specs.declared.many.Text.{Text}

-- What holds for them holds as the code reads them.
pub get_or-holds_by_slice_index : (P : State → List ℕ → Type 0) (states : List State)
    (inputs : List Text) (i : ℕ)
    (d : State) (e : Text) → i < length states → i < length inputs
    → P (slice_index_or states i zeros) (input_bytes_at inputs i)
    → P (get_or states i d) (get_or inputs i e).bytes.now
get_or-holds_by_slice_index P states inputs i d e ls li holds =
    subst (λ s. P s (get_or inputs i e).bytes.now) (sym (get_or_default states i d zeros ls))
    (subst (P (slice_index_or states i zeros)) (get_or-map (λ t. t.bytes.now) inputs i e [] li)
    holds)

-- And the other way round.
pub slice_index-holds_by_get_or : (P : State → List ℕ → Type 0) (states : List State)
    (inputs : List Text) (i : ℕ)
    (d : State) (e : Text) → i < length states → i < length inputs
    → P (get_or states i d) (get_or inputs i e).bytes.now
    → P (slice_index_or states i zeros) (input_bytes_at inputs i)
slice_index-holds_by_get_or P states inputs i d e ls li holds =
    subst (λ s. P s (input_bytes_at inputs i)) (get_or_default states i d zeros ls)
    (subst (P (get_or states i d)) (sym (get_or-map (λ t. t.bytes.now) inputs i e [] li)) holds)

-- What held for them before others absorbed holds as the code reads them then.
pub get_or-holds_if_state_unchanged : (P : State → List ℕ → Type 0) (old states : List State)
    (inputs : List Text)
    (i : ℕ) (d : State) (e : Text) → i < length states → i < length inputs
    → slice_index_or states i zeros ≡ slice_index_or old i zeros
    → P (slice_index_or old i zeros) (input_bytes_at inputs i)
    → P (get_or states i d) (get_or inputs i e).bytes.now
get_or-holds_if_state_unchanged P old states inputs i d e ls li same holds =
    get_or-holds_by_slice_index P states inputs i d e ls li
    (subst (λ s. P s (input_bytes_at inputs i)) (sym same) holds)
