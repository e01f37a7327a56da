-- Several inputs side by side: what a loop over them has made, and their runs, over the family and
-- the number of inputs.
use Rattle.std.proofs.Common.{◌≡◌, ℕ, suc, ◌+◌, ◌-◌, ◌*◌, ◌<◌, ◌≤◌, List, [], ◌∷◌, ◌++◌, length}
use Rattle.std.proofs.Common.{get_or, slice_index, slice_index_or, slice_set, bit_xor, drop, take}
use Rattle.std.proofs.Common.{below_more, refl, sym, ap, subst, ◌∙◌, arith, length-append, map}
use Rattle.std.proofs.Math.Nat.{lt_of_lt_of_le}
use Rattle.std.proofs.Math.Seq.{drop-cons}
use Rattle.std.proofs.lemmas.List.{append-nil, drop_all, get_or_default, length-map, length-set}
use Rattle.std.proofs.lemmas.List.{map-append, get_or-map, take-take}
use Rattle.std.specs.Borrow.{Bor}
use Rattle.blake2_simd.specs.Family.{Family, block_bytes}
use Rattle.blake2_simd.specs.Lanes.{in_lane}
use Rattle.blake2_simd.specs.Rows.{chaining_words, lane}
use Rattle.blake2_simd.proofs.Columns.{eight_reads-are_list, four_reads-are_list}
use Rattle.blake2_simd.proofs.Lanes.{for_each_of_eight_lanes}
use Rattle.blake2_compress.specs.declared.inputs.Input as GivenInput
use Rattle.blake2_compress.specs.Hash.{Flags, bytes_of, before_rounds, block_count, blocks, chain}
use Rattle.blake2_compress.specs.Hash.{compress, Input, inner, input_data, input_flags, input_start}
use Rattle.blake2_compress.specs.Hash.{last_chain, digest}
use Rattle.blake2_compress.specs.Inputs.{Accepts}
use Rattle.blake2_compress.specs.Lanes.{AcceptsAtOnce, after_blocks, block_lists, input_at}
use Rattle.blake2_compress.specs.Lanes.{no_input}
use Rattle.blake2_compress.specs.Run.{step_count}
use Rattle.blake2_compress.specs.Views.{input_of}
use Rattle.blake2_compress.proofs.Lanes.{AreLaterBlocks, block_lists-block_at, chain-next_block}
use Rattle.blake2_compress.proofs.Lanes.{block_lists-at, in_lane-equal_by_words}
use Rattle.blake2_compress.proofs.Lanes.{in_lane-word, after_blocks-after_first_block}
use Rattle.blake2_compress.proofs.Lanes.{chain-no_blocks, no_blocks, last_chain-after_final_block}
use Rattle.blake2_compress.proofs.Lanes.{slice_set-extends_claim, xor_halves_at}
use Rattle.blake2_compress.proofs.Lanes.{xor_halves_at-any_default, map-by_index}
use Rattle.blake2_compress.proofs.ParameterSizes.{length-start}
use Rattle.blake2_compress.proofs.RunSizes.{length-last_chain}
use Rattle.blake2_compress.proofs.WordSizes.{length-before_rounds}

-- ---- a loop that fills a list

-- A list of n elements, and what P says of its first j, that are read with the default d.
pub record HoldsForFirst {X : Type 0} (n : ℕ) (d : X) (P : ℕ → X → Type 0) (xs : List X) (j : ℕ)
    : Type 0 where
  pub long : length xs ≡ n
  pub at : (k : ℕ) → k < j → P k (slice_index_or xs k d)

-- One more element.
pub HoldsForFirst-next : {X : Type 0} {n : ℕ} {d : X} {P : ℕ → X → Type 0} {xs : List X} {j : ℕ}
    (x : X)
    → HoldsForFirst n d P xs j → j < n → P j x → HoldsForFirst n d P (slice_set xs j x) (j + 1)
HoldsForFirst-next {d = d} {P = P} {xs = xs} {j = j} x before low here = record {
  long = length-set xs j x ∙ before.long;
  at = slice_set-extends_claim P xs j x d (omega arith) before.at here;
}

-- All of them.
pub HoldsForFirst-all : {X : Type 0} {n : ℕ} {d : X} {P : ℕ → X → Type 0} {xs : List X} {j : ℕ}
    → HoldsForFirst n d P xs j → n ≤ j → (k : ℕ) → k < n → P k (slice_index_or xs k d)
HoldsForFirst-all filled all k lt = filled.at k (lt_of_lt_of_le lt all)

-- ---- inputs that can be hashed in parallel

-- The first of them.
pub AcceptsAtOnce-first : (f : Family) (inputs : List GivenInput.Input)
    → Accepts f (input_at inputs 0)
    → AcceptsAtOnce f 1 inputs
AcceptsAtOnce-first f inputs first = record {
  accepted = below_more _ 0 (λ k h. absurd (omega arith)) first;
  same_count = below_more _ 0 (λ k h. absurd (omega arith)) refl;
}

-- One more.
pub AcceptsAtOnce-next : (f : Family) (n : ℕ) (inputs : List GivenInput.Input)
    → AcceptsAtOnce f n inputs → Accepts f (input_at inputs n)
    → length (input_data f (input_at inputs n)) ≡ length (input_data f (input_at inputs 0))
    → AcceptsAtOnce f (n + 1) inputs
AcceptsAtOnce-next f n inputs before here same = record {
  accepted = below_more _ n before.accepted here;
  same_count = below_more _ n before.same_count same;
}

-- ---- rows and their lanes

-- What holds for each of eight elements that are listed.
pub for_each_of_eight : {X : Type 0} (P : ℕ → X → Type 0) (d x0 x1 x2 x3 x4 x5 x6 x7 : X) → P 0 x0
    → P 1 x1
    → P 2 x2 → P 3 x3 → P 4 x4 → P 5 x5 → P 6 x6 → P 7 x7 → (j : ℕ) → j < 8
    → P j (slice_index_or (x0 ∷ x1 ∷ x2 ∷ x3 ∷ x4 ∷ x5 ∷ x6 ∷ x7 ∷ []) j d)
for_each_of_eight P d x0 x1 x2 x3 x4 x5 x6 x7 =
    for_each_of_eight_lanes (λ j. P j
    (slice_index_or (x0 ∷ x1 ∷ x2 ∷ x3 ∷ x4 ∷ x5 ∷ x6 ∷ x7 ∷ []) j d))

-- The elements of two lists of eight, each read with a default of its own.
pub sixteen_reads-of_two_lists : {X : Type 0} (xs ys : List X)
    (c0 c1 c2 c3 c4 c5 c6 c7 d0 d1 d2 d3 d4 d5 d6 d7 : X) → length xs ≡ 8 → length ys ≡ 8
    → get_or xs 0 c0 ∷ get_or xs 1 c1 ∷ get_or xs 2 c2 ∷ get_or xs 3 c3 ∷ get_or xs 4 c4
    ∷ get_or xs 5 c5 ∷ get_or xs 6 c6 ∷ get_or xs 7 c7 ∷ get_or ys 0 d0 ∷ get_or ys 1 d1
    ∷ get_or ys 2 d2 ∷ get_or ys 3 d3 ∷ get_or ys 4 d4 ∷ get_or ys 5 d5 ∷ get_or ys 6 d6
    ∷ get_or ys 7 d7 ∷ [] ≡ xs ++ (ys ++ [])
sixteen_reads-of_two_lists xs ys c0 c1 c2 c3 c4 c5 c6 c7 d0 d1 d2 d3 d4 d5 d6 d7 long many =
    eight_reads-are_list xs _ c0 c1 c2 c3 c4 c5 c6 c7 long
    ∙ ap (λ l. xs ++ l) (eight_reads-are_list ys [] d0 d1 d2 d3 d4 d5 d6 d7 many)

-- The elements of four lists of four.
pub sixteen_reads-of_four_lists : {X : Type 0} (ws xs ys zs : List X)
    (a0 a1 a2 a3 b0 b1 b2 b3 c0 c1 c2 c3 d0 d1 d2 d3 : X) → length ws ≡ 4 → length xs ≡ 4
    → length ys ≡ 4 → length zs ≡ 4
    → get_or ws 0 a0 ∷ get_or ws 1 a1 ∷ get_or ws 2 a2 ∷ get_or ws 3 a3 ∷ get_or xs 0 b0
    ∷ get_or xs 1 b1 ∷ get_or xs 2 b2 ∷ get_or xs 3 b3 ∷ get_or ys 0 c0 ∷ get_or ys 1 c1
    ∷ get_or ys 2 c2 ∷ get_or ys 3 c3 ∷ get_or zs 0 d0 ∷ get_or zs 1 d1 ∷ get_or zs 2 d2
    ∷ get_or zs 3 d3 ∷ [] ≡ ws ++ (xs ++ (ys ++ (zs ++ [])))
sixteen_reads-of_four_lists ws xs ys zs a0 a1 a2 a3 b0 b1 b2 b3 c0 c1 c2 c3 d0 d1 d2 d3 lw lx ly
    lz =
    four_reads-are_list ws _ a0 a1 a2 a3 lw
    ∙ ap (λ l. ws ++ l) (four_reads-are_list xs _ b0 b1 b2 b3 lx
    ∙ ap (λ l. xs ++ l) (four_reads-are_list ys _ c0 c1 c2 c3 ly
    ∙ ap (λ l. ys ++ l) (four_reads-are_list zs [] d0 d1 d2 d3 lz)))

-- Word j of the lane of some lists is the word in the lane of others.
pub word_in_lane : (words read : List (List ℕ)) (i m j : ℕ) → j < length words
    → in_lane i read ≡ in_lane m (words ++ []) → lane read j i ≡ lane words j m
word_in_lane words read i m j low same =
    let whole : in_lane i read ≡ in_lane m words = rw append-nil at same in
    let long : length read ≡ length words =
    sym (length-map read (λ (l : List ℕ). slice_index l i)) ∙ ap length whole
    ∙ length-map words (λ (l : List ℕ). slice_index l m) in
    in_lane-word read i j [] (omega (arith, long)) ∙ ap (λ l. slice_index l j) whole
    ∙ sym (in_lane-word words m j [] low)

-- The words of w from word k on are in a lane of rows: first those of the rows a.
in_lane-append_rows : (j k : ℕ) (a rest : List (List ℕ)) (w : List ℕ) → k + length a ≤ length w
    → ((i : ℕ) → i < length a → lane a i j ≡ slice_index w (k + i))
    → in_lane j rest ≡ drop (k + length a) w → in_lane j (a ++ rest) ≡ drop k w
in_lane-append_rows j k [] rest w fits each after =
    let none : k + 0 ≡ k = omega arith in
    after ∙ ap (λ (n : ℕ). drop n w) none
in_lane-append_rows j k (x ∷ a) rest w fits each after =
    let here : k + 0 ≡ k = omega arith in
    let next : k + suc (length a) ≡ suc k + length a = omega arith in
    let others =
    in_lane-append_rows j (suc k) a rest w (omega arith) (λ i lt. each (suc i) (omega arith)
    ∙ ap (slice_index w) (omega arith)) (after ∙ ap (λ (n : ℕ). drop n w) next) in
    (λ t. (each 0 (omega arith) ∙ ap (slice_index w) here) t ∷ others t)
    ∙ sym (drop-cons w k 0 (omega arith))

-- All of them, if rows of n are the last.
in_lane-last_rows : (j k : ℕ) (a : List (List ℕ)) (w : List ℕ) → length w ≡ k + length a
    → ((i : ℕ) → i < length a → lane a i j ≡ slice_index w (k + i))
    → in_lane j (a ++ []) ≡ drop k w
in_lane-last_rows j k a w long each =
    in_lane-append_rows j k a [] w (omega arith) each
    (sym (drop_all (k + length a) w (omega arith)))

-- Sixteen words in two lists of eight rows.
pub in_lane-two_row_lists : (j : ℕ) (a b : List (List ℕ)) (w : List ℕ) → length a ≡ 8 → length b ≡ 8
    → length w ≡ 16 → ((i : ℕ) → i < 8 → lane a i j ≡ slice_index w (0 + i))
    → ((i : ℕ) → i < 8 → lane b i j ≡ slice_index w (8 + i)) → in_lane j (a ++ (b ++ [])) ≡ w
in_lane-two_row_lists j a b w la lb lw in_a in_b =
    let next : 8 ≡ 0 + length a = omega arith in
    in_lane-append_rows j 0 a _ w (omega arith) (λ i lt. in_a i (omega arith))
    (in_lane-last_rows j 8 b w (omega arith) (λ i lt. in_b i (omega arith))
    ∙ ap (λ (n : ℕ). drop n w) next)

-- Sixteen words in four lists of four rows.
pub in_lane-four_row_lists : (j : ℕ) (a b c d : List (List ℕ)) (w : List ℕ) → length a ≡ 4
    → length b ≡ 4
    → length c ≡ 4 → length d ≡ 4 → length w ≡ 16
    → ((i : ℕ) → i < 4 → lane a i j ≡ slice_index w (0 + i))
    → ((i : ℕ) → i < 4 → lane b i j ≡ slice_index w (4 + i))
    → ((i : ℕ) → i < 4 → lane c i j ≡ slice_index w (8 + i))
    → ((i : ℕ) → i < 4 → lane d i j ≡ slice_index w (12 + i))
    → in_lane j (a ++ (b ++ (c ++ (d ++ [])))) ≡ w
in_lane-four_row_lists j a b c d w la lb lc ld lw in_a in_b in_c in_d =
    let at_b : 4 ≡ 0 + length a = omega arith in
    let at_c : 8 ≡ 4 + length b = omega arith in
    let at_d : 12 ≡ 8 + length c = omega arith in
    let from : ℕ → List ℕ = λ n. drop n w in
    in_lane-append_rows j 0 a _ w (omega arith) (λ i lt. in_a i (omega arith))
    (in_lane-append_rows j 4 b _ w (omega arith) (λ i lt. in_b i (omega arith))
    (in_lane-append_rows j 8 c _ w (omega arith) (λ i lt. in_c i (omega arith))
    (in_lane-last_rows j 12 d w (omega arith) (λ i lt. in_d i (omega arith)) ∙ ap from at_d)
    ∙ ap from at_c) ∙ ap from at_b)

-- The rows before the first round, from the chaining words and rows with the last words.
pub in_lane-before_rounds : (f : Family) (j : ℕ) (h w : List (List ℕ)) (last : List ℕ) (t : ℕ)
    (flags : Flags)
    → length h ≡ 8 → length w ≡ 8 → ((k : ℕ) → k < 8 → lane w k j ≡ slice_index last k)
    → in_lane j h ++ last ≡ before_rounds f (in_lane j h) t flags
    → in_lane j (h ++ (w ++ [])) ≡ before_rounds f (in_lane j h) t flags
in_lane-before_rounds f j h w last t flags lh lw each begun =
    let at : List ℕ → ℕ = λ row. slice_index row j in
    let u : List ℕ = in_lane j h in
    let lu : length u ≡ 8 = length-map h at ∙ lh in
    let long : length last ≡ 8 =
    omega (arith, ap length begun, length-append u last, length-before_rounds f u t flags lu) in
    map-append at h (w ++ [])
    ∙ ap (λ l. u ++ l) (in_lane-last_rows j 0 w last (omega arith) (λ i lt. each i (omega arith)
    ∙ ap (slice_index last) (omega arith)))
    ∙ begun

-- ---- the last step of a compression

-- Row k of the result has the words of h and both halves of v in n lanes, xored.
abbrev pub IsXoredRow : ℕ → List (List ℕ) → List (List ℕ) → ℕ → List ℕ → Type 0
IsXoredRow n h v k row = (j : ℕ) → j < n → slice_index row j ≡ xor_halves_at h v j k

-- The same with other defaults.
pub IsXoredRow-any_default : (n : ℕ) (h v : List (List ℕ)) (k : ℕ) (row a b c : List ℕ)
    → length h ≡ 8
    → length v ≡ 16 → k < 8
    → ((j : ℕ) → j < n → slice_index row j ≡ bit_xor (bit_xor (slice_index (get_or h k a) j)
    (slice_index (get_or v k b) j)) (slice_index (get_or v (8 + k) c) j)) → IsXoredRow n h v k row
IsXoredRow-any_default n h v k row a b c lh lv low xored j lt =
    xored j lt ∙ xor_halves_at-any_default h v j k a b c (omega (arith, lh)) (omega (arith, lv))
    (omega (arith, lv))

-- ---- blocks from the second on

-- n blocks of input k from the second on.
abbrev pub AreLaterBlocksOf : Family → List GivenInput.Input → ℕ → ℕ → Bor (List (List ℕ)) → Type 0
AreLaterBlocksOf f inputs n k lists = AreLaterBlocks f (input_at inputs k) n lists.now

-- Those of each input.
pub AreLaterBlocks-of_each_input : (f : Family) (inputs : List GivenInput.Input) (m : ℕ) {n i : ℕ}
    {lists : List (Bor (List (List ℕ)))}
    → HoldsForFirst n no_blocks (AreLaterBlocksOf f inputs m) lists i → n ≤ i
    → (k : ℕ) → k < n → AreLaterBlocks f (input_at inputs k) m
    (slice_index_or (block_lists lists) k [])
AreLaterBlocks-of_each_input f inputs m {lists = lists} filled all k lt =
    subst (AreLaterBlocks f (input_at inputs k) m)
    (block_lists-at lists k no_blocks (omega (arith, filled.long)))
    (HoldsForFirst-all filled all k lt)

-- All blocks except the last are the first one, and then these.
pub chain-all_but_last_block : (f : Family) (inputs : List GivenInput.Input)
    (lists : List (List (List ℕ)))
    (n m j : ℕ) (h first new : List ℕ) (flags : Flags)
    → ((k : ℕ) → k < n → AreLaterBlocks f (input_at inputs k) m (slice_index_or lists k [])) → j < n
    → flags ≡ inner
    → first ≡ compress f h (slice_index_or (blocks f (input_data f (input_at inputs j))) 0 [])
    (block_bytes f) flags
    → new ≡ after_blocks f first (slice_index_or lists j []) (2 * block_bytes f) flags
    (length (slice_index_or lists 0 [])) → m + 1 ≡ step_count f (input_at inputs 0) - 1
    → new ≡ chain f h 0 (blocks f (input_data f (input_at inputs j)))
    (step_count f (input_at inputs 0) - 1)
chain-all_but_last_block f inputs lists n m j h first new flags later low off begun rest all =
    let d = blocks f (input_data f (input_at inputs j)) in
    let one : block_bytes f ≡ (0 + 1) * block_bytes f = omega arith in
    let start : first ≡ chain f h 0 d 1 =
    chain-next_block f h d 0 (block_bytes f) h first _ (chain-no_blocks f h d 0 refl)
    (begun ∙ ap (compress f h _ (block_bytes f)) off) refl one in
    rest
    ∙ (λ k. after_blocks f first (slice_index_or lists j []) (2 * block_bytes f) (off k)
    ((later 0 (omega arith)).0 k))
    ∙ after_blocks-after_first_block f h first d (slice_index_or lists j []) m start (later j low).1
    ∙ ap (chain f h 0 d) all

-- Block i of each of n lists of the same length.
pub block_lists-read_at : (lists : List (Bor (List (List ℕ)))) (n i : ℕ) → length lists ≡ n
    → ((k : ℕ) → k < n → length (slice_index_or (block_lists lists) k [])
    ≡ length (slice_index_or (block_lists lists) 0 []))
    → i < length (slice_index_or lists 0 no_blocks).now → (k : ℕ) (e : List ℕ) → k < n
    → get_or (slice_index_or lists k no_blocks).now i e
    ≡ slice_index_or (slice_index_or (block_lists lists) k []) i []
block_lists-read_at lists n i long same within k e lt =
    block_lists-block_at lists k i no_blocks e (omega arith) (omega (
      arith,
      ap length (block_lists-at lists 0 no_blocks (omega arith)),
      ap length (block_lists-at lists k no_blocks (omega arith)),
      same k lt,
    ))

-- ---- the last block

-- The run of one input, if all have the same number of bytes.
pub last_chain-of_input : (f : Family) (inputs : List GivenInput.Input) (j last t : ℕ)
    (h old new : List ℕ)
    (flags : Flags)
    → length (input_data f (input_at inputs j)) ≡ length (input_data f (input_at inputs 0))
    → old ≡ chain f h 0 (blocks f (input_data f (input_at inputs j)))
    (step_count f (input_at inputs 0) - 1)
    → new ≡ compress f old (slice_index_or (blocks f (input_data f (input_at inputs j))) last [])
    t flags
    → flags ≡ input_flags (input_at inputs j) → last ≡ step_count f (input_at inputs 0) - 1
    → t ≡ length (input_data f (input_at inputs 0))
    → new ≡ last_chain f h 0 (input_data f (input_at inputs j)) (input_flags (input_at inputs j))
last_chain-of_input f inputs j last t h old new flags same before compressed given ends counted =
    let z = input_data f (input_at inputs j) in
    last_chain-after_final_block f h z (step_count f (input_at inputs 0) - 1) t old new _ _ before
    (ap (λ (m : ℕ). block_count f m - 1) (sym same)) (compressed ∙ ap (compress f _ _ t) given)
    (ap (λ (m : ℕ). slice_index_or (blocks f z) m []) ends) (counted ∙ sym same)

-- ---- the last chaining words

-- The first bytes of column k, which has eight words.
abbrev pub IsColumnOutput : Family → ℕ → List (List ℕ) → ℕ → List ℕ → Type 0
IsColumnOutput f size columns k out = (length (slice_index_or columns k []) ≡ 8)
    × (out ≡ take size (bytes_of f (slice_index_or columns k [])))

-- The same of a column that is read as two rows h.
pub IsColumnOutput-of_rows : (f : Family) (size k : ℕ) (columns h : List (List ℕ))
    (w d out : List ℕ)
    → k < length columns → length w ≡ 8 → w ≡ get_or columns k d → chaining_words h ≡ w
    → out ≡ take size (bytes_of f (chaining_words h)) → IsColumnOutput f size columns k out
IsColumnOutput-of_rows f size k columns h w d out low long read rows made =
    let same = read ∙ get_or_default columns k d [] low in
    (sym (ap length same) ∙ long, made ∙ ap (λ l. take size (bytes_of f l)) (rows ∙ same))

-- A column is the words of a run, if its words are those of a lane after that run.
pub column-is_last_chain : (f : Family) (h : List (List ℕ)) (w : List ℕ) (j size : ℕ) (a : Input)
    (begun : List ℕ) → length w ≡ 8
    → in_lane j h ≡ last_chain f begun 0 (input_data f a) (input_flags a)
    → begun ≡ input_start f size a
    → ((k : ℕ) → k < 8 → slice_index w k ≡ lane h k j)
    → w ≡ last_chain f (input_start f size a) 0 (input_data f a) (input_flags a)
column-is_last_chain f h w j size a begun long run started turned =
    let whole = run ∙ ap (λ s. last_chain f s 0 (input_data f a) (input_flags a)) started in
    let many : length h ≡ 8 =
    sym (length-map h (λ (row : List ℕ). slice_index row j)) ∙ ap length whole
    ∙ length-last_chain f _ 0 (input_data f a) (input_flags a) (length-start f _) in
    sym (in_lane-equal_by_words 8 j h w many long (λ k lt. sym (turned k lt))) ∙ whole

-- Outputs of full length, cut to digests of n inputs.
pub outputs-cut_to_digests : (f : Family) (n size room : ℕ) (inputs : List GivenInput.Input)
    (outs : List (List ℕ)) → length inputs ≡ n → length outs ≡ n → size ≤ room
    → ((j : ℕ) → j < n → slice_index_or outs j [] ≡ take room (bytes_of f (last_chain f
    (input_start f size (input_at inputs j)) 0 (input_data f (input_at inputs j))
    (input_flags (input_at inputs j)))))
    → map (take size) outs ≡ map (λ input. digest f size (input_of input)) inputs
unfolding digest
outputs-cut_to_digests f n size room inputs outs long many small made =
    map-by_index n (λ input. digest f size (input_of input)) no_input inputs (map (take size) outs)
    long
    (length-map outs (take size) ∙ many)
    (λ j lt. get_or-map (take size) outs j [] [] (omega arith) ∙ ap (take size) (made j lt)
    ∙ take-take size room _ small)
