-- Messages that go on in lanes, each from its own place.
use Rattle.std.proofs.Common.{◌≡◌, ℕ, zero, suc, ◌+◌, ◌*◌, ◌<◌, List, [], ◌∷◌, length, get_or}
use Rattle.std.proofs.Common.{slice_index, slice_index_or, sym, ap, ◌∙◌, arith}
use Rattle.std.proofs.lemmas.List.{get_or_default}
use Rattle.blake2_simd.specs.Family.{Family, block_bytes}
use Rattle.blake2_simd.specs.Lanes.{in_lane}
use Rattle.blake2_simd.specs.Rows.{lane}
use Rattle.blake2_compress.specs.Hash.{chain, compress, inner}
use Rattle.blake2_compress.specs.Lanes.{after_blocks}
use Rattle.blake2_compress.proofs.Lanes.{in_lane-equal_by_words}

-- One block and then others are all of them.
pub after_blocks-continues_chain : (f : Family) (h first : List ℕ) (c : ℕ) (b : List ℕ)
    (later : List (List ℕ))
    (n : ℕ) → first ≡ compress f h b (c + block_bytes f) inner
    → after_blocks f first later (c + 2 * block_bytes f) inner n ≡ chain f h c (b ∷ later) (n + 1)
unfolding after_blocks chain
after_blocks-continues_chain f h first c b later zero begun =
    begun ∙ ap (λ (u : ℕ). compress f h b u inner) (omega arith)
after_blocks-continues_chain f h first c b later (suc n) begun =
    let before = after_blocks-continues_chain f h first c b later n begun in
    let next : suc (n + 1) ≡ suc n + 1 = omega arith in
    let here : suc n ≡ n + 1 = omega arith in
    let counted : c + 2 * block_bytes f + n * block_bytes f ≡ c + (n + 1 + 1) * block_bytes f =
    omega arith in
    (λ k. compress f (before k) (slice_index_or (b ∷ later) (here k) []) (counted k) inner)
    ∙ ap (chain f h c (b ∷ later)) next

-- A column has the words of a lane.
pub column-equals_lane : (rows columns : List (List ℕ)) (j : ℕ) (w d : List ℕ) → j < 8
    → length rows ≡ 8
    → length columns ≡ 8 → length w ≡ 8 → w ≡ get_or columns j d
    → ((k : ℕ) → k < 8 → lane columns j k ≡ lane rows k j) → w ≡ in_lane j rows
column-equals_lane rows columns j w d low long many long_w e at =
    sym (in_lane-equal_by_words 8 j rows w long long_w (λ k lt. sym (at k lt)
    ∙ ap (λ (l : List ℕ). slice_index l k)
    (get_or_default columns j [] d (omega (arith, low, many)) ∙ sym e)))
