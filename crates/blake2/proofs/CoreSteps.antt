-- What a core becomes by one more block, and by the last.
use Rattle.std.proofs.Common.{◌≡◌, ℕ, ◌+◌, ◌*◌, ◌<◌, List, [], ◌∷◌, length, take, get_or, sym, ap}
use Rattle.std.proofs.Common.{◌∙◌, arith}
use Rattle.std.proofs.lemmas.List.{take_more}
use Rattle.blake2_simd.specs.Family.{Family, block_bytes}
use Rattle.blake2_compress.specs.Hash.{Flags, inner, final, padded, compress, chain}
use Rattle.blake2.specs.Cores.{CoreState, absorbed, completed}
use Rattle.blake2.specs.CoreLaws.{absorbed-append}

-- One block that is not the last.
pub absorbed-one : (f : Family) (core : CoreState) (block h : List ℕ)
    → h ≡ compress f core.h block (core.count + block_bytes f) inner
    → record core { h = h; count = core.count + block_bytes f } ≡ absorbed f core (block ∷ [])
unfolding absorbed chain
absorbed-one f core block h e =
    let counter : core.count + block_bytes f ≡ core.count + 1 * block_bytes f = omega arith in
    let counted : core.count + block_bytes f ≡ core.count + block_bytes f * 1 = omega arith in
    let words = e ∙ ap (λ (t : ℕ). compress f core.h block t inner) counter in
    λ i. record core { h = words i; count = counted i }

-- One more block of a list.
pub absorbed-next : (f : Family) (first core next : CoreState) (blocks : List (List ℕ)) (i : ℕ)
    → i < length blocks
    → core ≡ absorbed f first (take i blocks) → next ≡ absorbed f core (get_or blocks i [] ∷ [])
    → next ≡ absorbed f first (take (i + 1) blocks)
absorbed-next f first core next blocks i fits before one =
    one ∙ ap (λ (c : CoreState). absorbed f c (get_or blocks i [] ∷ [])) before
    ∙ sym (absorbed-append f first (take i blocks) (get_or blocks i [] ∷ []))
    ∙ ap (absorbed f first) (sym (take_more blocks i [] fits))

-- The bytes p, padded to a block, as the last block.
pub completed-by : (f : Family) (core : CoreState) (p : List ℕ) (n : ℕ) (block h : List ℕ)
    (flags : Flags) → n ≡ length p → block ≡ padded (block_bytes f) p
    → flags ≡ final core.last_node → h ≡ compress f core.h block (core.count + n) flags
    → record core { h = h; count = core.count + n } ≡ completed f core p
completed-by f core p n block h flags number pads own e =
    let words = e ∙ (λ j. compress f core.h (pads j) (core.count + number j) (own j)) in
    λ i. record core { h = words i; count = core.count + number i }
