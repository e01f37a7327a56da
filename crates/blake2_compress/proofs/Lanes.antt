-- Several messages side by side: their words, and the result of the last step of a compression.
use Rattle.std.proofs.Common.{false, ◌≡◌, ℕ, zero, suc, ◌+◌, ◌-◌, ◌*◌, ◌<◌, List, [], ◌∷◌, length}
use Rattle.std.proofs.Common.{get_or, slice_index, slice_index_or, bit_xor, replicate, map, take}
use Rattle.std.proofs.Common.{drop, refl, sym, ap, subst, ◌∙◌, arith, below_more, slice_set}
use Rattle.std.proofs.lemmas.List.{append-nil, ext_get_or, get_or-map, get_or_default, length-map}
use Rattle.std.proofs.lemmas.List.{get_or-set_other, get_or-set_same}
use Rattle.std.specs.Borrow.{Bor}
use Rattle.blake2_simd.specs.Family.{Family, block_bytes}
use Rattle.blake2_simd.specs.Rows.{chaining_words, lane}
use Rattle.blake2_simd.proofs.Columns.{eight_reads-are_list}
use Rattle.blake2_simd.proofs.Lanes.{tabulate-at, tabulate}
use Rattle.blake2_simd.proofs.Words.{cells, cells-drop}
use Rattle.blake2_compress.specs.Hash.{Flags, Input, block_count, blocks, chain, compress, inner}
use Rattle.blake2_compress.specs.Hash.{input_data, last_chain, xor_words}
use Rattle.blake2_simd.specs.Lanes.{in_lane}
use Rattle.blake2_compress.specs.Lanes.{after_blocks, block_lists, flags_at, texts}

-- Word k of the state in a lane.
pub in_lane-word : (rows : List (List ℕ)) (j k : ℕ) (d : List ℕ) → k < length rows
    → slice_index (get_or rows k d) j ≡ slice_index (in_lane j rows) k
in_lane-word rows j k d h = sym (get_or-map (λ (row : List ℕ). slice_index row j) rows k d 0 h)

-- The words of a lane, word by word.
pub in_lane-equal_by_words : (n j : ℕ) (rows : List (List ℕ)) (words : List ℕ) → length rows ≡ n
    → length words ≡ n
    → ((k : ℕ) → k < n → slice_index (slice_index_or rows k []) j ≡ slice_index words k)
    → in_lane j rows ≡ words
in_lane-equal_by_words n j rows words long many at =
    let word : List ℕ → ℕ = λ row. slice_index row j in
    let as_many : length (in_lane j rows) ≡ length rows = length-map rows word in
    ext_get_or 0 (in_lane j rows) words (as_many ∙ long ∙ sym many)
    (λ k lt. get_or-map word rows k [] 0 (omega (arith, as_many))
    ∙ at k (omega (arith, as_many)))

-- Block j of several.
pub texts-at : (blocks : List (Bor (List ℕ))) (j : ℕ) (d : Bor (List ℕ)) → j < length blocks
    → (get_or blocks j d).now ≡ slice_index_or (texts blocks) j []
texts-at blocks j d h = sym (get_or-map (λ b. b.now) blocks j d [] h)

-- The blocks of message j, of several.
pub block_lists-at : (lists : List (Bor (List (List ℕ)))) (j : ℕ) (d : Bor (List (List ℕ)))
    → j < length lists → (get_or lists j d).now ≡ slice_index_or (block_lists lists) j []
block_lists-at lists j d h = sym (get_or-map (λ b. b.now) lists j d [] h)

-- The default for an index that a list of references to blocks does not have.
abbrev pub no_blocks : Bor (List (List ℕ))
no_blocks = record { ref_ptr = (0, 0); now = [] }

-- n blocks of an input's data from the second on.
abbrev pub AreLaterBlocks : Family → Input → ℕ → List (List ℕ) → Type 0
AreLaterBlocks f a n later = (length later ≡ n) × ((i : ℕ) → i < n
    → slice_index_or later i [] ≡ slice_index_or (blocks f (input_data f a)) (i + 1) [])

-- Block i of message j.
pub block_lists-block_at : (lists : List (Bor (List (List ℕ)))) (j i : ℕ) (d : Bor (List (List ℕ)))
    (e : List ℕ) → j < length lists → i < length (get_or lists j d).now
    → get_or (get_or lists j d).now i e
    ≡ slice_index_or (slice_index_or (block_lists lists) j []) i []
block_lists-block_at lists j i d e here within =
    get_or_default (get_or lists j d).now i e [] within
    ∙ ap (λ l. slice_index_or l i []) (block_lists-at lists j d here)

-- What holds for the elements below j, and for one that is put there, holds for those below j + 1.
pub slice_set-extends_claim : {X : Type 0} (P : ℕ → X → Type 0) (xs : List X) (j : ℕ) (x d : X)
    → j < length xs
    → ((k : ℕ) → k < j → P k (slice_index_or xs k d)) → P j x
    → (k : ℕ) → k < j + 1 → P k (slice_index_or (slice_set xs j x) k d)
slice_set-extends_claim P xs j x d within before here =
    below_more (λ k. P k (slice_index_or (slice_set xs j x) k d)) j
    (λ k lt. subst (P k) (sym (get_or-set_other xs j k x d (λ e. absurd (omega arith))))
    (before k lt)) (subst (P j) (sym (get_or-set_same xs j x d within)) here)

-- No block yet.
pub after_blocks-zero : (f : Family) (h : List ℕ) (d : List (List ℕ)) (t : ℕ) (flags : Flags)
    → h ≡ after_blocks f h d t flags 0
unfolding after_blocks
after_blocks-zero f h d t flags = refl

-- One more block, of several under the same flags.
pub after_blocks-next : (f : Family) (h : List ℕ) (d : List (List ℕ)) (t : ℕ) (flags : Flags)
    (i u : ℕ) (old new block : List ℕ) → old ≡ after_blocks f h d t flags i
    → new ≡ compress f old block u flags → block ≡ slice_index_or d i []
    → u ≡ t + i * block_bytes f → new ≡ after_blocks f h d t flags (i + 1)
unfolding after_blocks
after_blocks-next f h d t flags i u old new block before compressed is_block counted =
    let next : suc i ≡ i + 1 = omega arith in
    compressed ∙ (λ k. compress f (before k) (is_block k) (counted k) flags)
    ∙ ap (after_blocks f h d t flags) next

-- A single block.
pub after_blocks-single : (f : Family) (h block : List ℕ) (d : List (List ℕ)) (t : ℕ)
    (flags : Flags)
    → d ≡ block ∷ [] → after_blocks f h d t flags 1 ≡ compress f h block t flags
unfolding after_blocks
after_blocks-single f h block d t flags single =
    ap (λ l. after_blocks f h l t flags 1) single
    ∙ ap (λ (u : ℕ). compress f h block u flags) (omega arith)

-- The first block and then all others are all blocks.
pub after_blocks-after_first_block : (f : Family) (h first : List ℕ) (d later : List (List ℕ))
    (n : ℕ)
    → first ≡ chain f h 0 d 1
    → ((i : ℕ) → i < n → slice_index_or later i [] ≡ slice_index_or d (i + 1) [])
    → after_blocks f first later (2 * block_bytes f) inner n ≡ chain f h 0 d (n + 1)
unfolding after_blocks chain
after_blocks-after_first_block f h first d later zero begun same = begun
after_blocks-after_first_block f h first d later (suc n) begun same =
    let before =
    after_blocks-after_first_block f h first d later n begun (λ i lt. same i (omega arith)) in
    let next : suc (n + 1) ≡ suc n + 1 = omega arith in
    let counted : 2 * block_bytes f + n * block_bytes f ≡ 0 + (n + 1 + 1) * block_bytes f =
    omega arith in
    (λ k. compress f (before k) (same n (omega arith) k) (counted k) inner)
    ∙ ap (chain f h 0 d) next

-- Eight words xored with both halves of sixteen.
pub xor_halves-is_xor_words : (h v : List ℕ) → length h ≡ 8 → length v ≡ 16
    → (let x : ℕ → ℕ = λ k. bit_xor (bit_xor (slice_index h k) (slice_index v k))
    (slice_index v (8 + k)) in
    x 0 ∷ x 1 ∷ x 2 ∷ x 3 ∷ x 4 ∷ x 5 ∷ x 6 ∷ x 7 ∷ [])
    ≡ xor_words (xor_words h (take 8 v)) (drop 8 v)
unfolding xor_words
xor_halves-is_xor_words h v lh lv =
    (λ i. xor_words (xor_words (cells h 0 8) (take 8 (cells v 0 16))) (drop 8 (cells v 0 16)))
    ∙ (λ i. xor_words (xor_words (cells-drop h 0 8 lh i) (take 8 (cells-drop v 0 16 lv i)))
    (drop 8 (cells-drop v 0 16 lv i)))

-- Word k of lane j of h, xored with those of both halves of v.
abbrev pub xor_halves_at : List (List ℕ) → List (List ℕ) → ℕ → ℕ → ℕ
xor_halves_at h v j k =
    bit_xor (bit_xor (slice_index (slice_index_or h k []) j)
    (slice_index (slice_index_or v k []) j))
    (slice_index (slice_index_or v (8 + k) []) j)

-- The default of a list changes no word that is read.
pub xor_halves_at-any_default : (h v : List (List ℕ)) (j k : ℕ) (a b c : List ℕ) → k < length h
    → k < length v
    → 8 + k < length v
    → bit_xor (bit_xor (slice_index (get_or h k a) j) (slice_index (get_or v k b) j))
    (slice_index (get_or v (8 + k) c) j) ≡ xor_halves_at h v j k
xor_halves_at-any_default h v j k a b c hk vk vl = λ i. bit_xor
    (bit_xor (slice_index (get_or_default h k a [] hk i) j)
    (slice_index (get_or_default v k b [] vk i) j))
    (slice_index (get_or_default v (8 + k) c [] vl i) j)

-- The eight words of such a lane.
pub in_lane-xor_halves : (h v out : List (List ℕ)) (j : ℕ) → length h ≡ 8 → length v ≡ 16
    → length out ≡ 8
    → ((k : ℕ) → k < 8 → slice_index (slice_index_or out k []) j ≡ xor_halves_at h v j k)
    → in_lane j out ≡ xor_words (xor_words (in_lane j h) (take 8 (in_lane j v)))
    (drop 8 (in_lane j v))
in_lane-xor_halves h v out j lh lv long at =
    let word : List ℕ → ℕ = λ row. slice_index row j in
    let x : ℕ → ℕ = λ k. bit_xor (bit_xor (slice_index (in_lane j h) k)
    (slice_index (in_lane j v) k)) (slice_index (in_lane j v) (8 + k)) in
    in_lane-equal_by_words 8 j out (tabulate 8 x) long refl
    (λ k lt. at k lt
    ∙ (λ i. bit_xor (bit_xor (in_lane-word h j k [] (omega (arith, lh)) i)
    (in_lane-word v j k [] (omega (arith, lv)) i))
    (in_lane-word v j (8 + k) [] (omega (arith, lv)) i))
    ∙ sym (tabulate-at 8 x 0 k lt))
    ∙ xor_halves-is_xor_words (in_lane j h) (in_lane j v) (length-map h word ∙ lh)
    (length-map v word ∙ lv)

-- The eight words in a lane, from the columns of the first four rows and of the last four.
pub in_lane-two_columns : (h low high : List (List ℕ)) (j : ℕ) (d0 d1 d2 d3 d4 d5 d6 d7 : List ℕ)
    → length h ≡ 8
    → ((k : ℕ) → k < 4 → lane low j k ≡ lane (get_or h 0 d0 ∷ get_or h 1 d1 ∷ get_or h 2 d2
    ∷ get_or h 3 d3 ∷ []) k j)
    → ((k : ℕ) → k < 4 → lane high j k ≡ lane (get_or h 4 d4 ∷ get_or h 5 d5 ∷ get_or h 6 d6
    ∷ get_or h 7 d7 ∷ []) k j)
    → chaining_words (slice_index_or low j [] ∷ slice_index_or high j [] ∷ []) ≡ in_lane j h
in_lane-two_columns h low high j d0 d1 d2 d3 d4 d5 d6 d7 long first last =
    (λ i. first 0 (omega arith) i ∷ first 1 (omega arith) i ∷ first 2 (omega arith) i
    ∷ first 3 (omega arith) i ∷ last 0 (omega arith) i ∷ last 1 (omega arith) i
    ∷ last 2 (omega arith) i ∷ last 3 (omega arith) i ∷ [])
    ∙ ap (in_lane j) (eight_reads-are_list h [] d0 d1 d2 d3 d4 d5 d6 d7 long ∙ append-nil h)

-- The flags of a block that others follow are off, whichever the message.
pub flags_at-inner : (n j : ℕ)
    → flags_at (replicate n (record { last = false; last_node = false })) j
    ≡ inner
flags_at-inner zero j = refl
flags_at-inner (suc n) zero = refl
flags_at-inner (suc n) (suc j) = flags_at-inner n j

-- A run before its first block.
pub chain-no_blocks : (f : Family) (h : List ℕ) (d : List (List ℕ)) (n : ℕ) → n ≡ 0
    → h ≡ chain f h 0 d n
unfolding chain
chain-no_blocks f h d n e = sym (ap (chain f h 0 d) e)

-- One more block.
pub chain-next_block : (f : Family) (h : List ℕ) (d : List (List ℕ)) (i t : ℕ)
    (old new block : List ℕ)
    → old ≡ chain f h 0 d i
    → new ≡ compress f old block t inner → block ≡ slice_index_or d i []
    → t ≡ (i + 1) * block_bytes f → new ≡ chain f h 0 d (i + 1)
unfolding chain
chain-next_block f h d i t old new block before compressed is_block counted =
    let next : suc i ≡ i + 1 = omega arith in
    let at : t ≡ 0 + (i + 1) * block_bytes f = omega arith in
    compressed ∙ (λ k. compress f (before k) (is_block k) (at k) inner) ∙ ap (chain f h 0 d) next

-- The last block.
pub last_chain-after_final_block : (f : Family) (h z : List ℕ) (n t : ℕ) (old new block : List ℕ)
    (flags : Flags)
    → old ≡ chain f h 0 (blocks f z) n → n ≡ block_count f (length z) - 1
    → new ≡ compress f old block t flags → block ≡ slice_index_or (blocks f z) n [] → t ≡ length z
    → new ≡ last_chain f h 0 z flags
unfolding last_chain
last_chain-after_final_block f h z n t old new block flags before last compressed is_block counted =
    let at : t ≡ 0 + length z = omega arith in
    compressed ∙ (λ k. compress f (before k) (is_block k) (at k) flags)
    ∙ ap (λ m. compress f (chain f h 0 (blocks f z) m) (slice_index_or (blocks f z) m [])
    (0 + length z) flags) last

-- n items, each mapped.
pub map-by_index : {X : Type 0} (n : ℕ) (g : X → List ℕ) (d : X) (xs : List X) (ys : List (List ℕ))
    → length xs ≡ n → length ys ≡ n
    → ((j : ℕ) → j < n → slice_index_or ys j [] ≡ g (slice_index_or xs j d)) → ys ≡ map g xs
map-by_index n g d xs ys long many at =
    let as_many : length (map g xs) ≡ n = length-map xs g ∙ long in
    ext_get_or [] ys (map g xs) (many ∙ sym as_many)
    (λ j lt. at j (omega (arith, many)) ∙ sym (get_or-map g xs j d [] (omega (arith, many, long))))
