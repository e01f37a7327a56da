-- Blocks of an output: how each is made, and what is read from the output.
use Rattle.std.proofs.Common.{◌≡◌, ℕ, ◌+◌, ◌-◌, ◌*◌, ◌<◌, ◌≤◌, List, [], ◌++◌, length}
use Rattle.std.proofs.Common.{take, drop, min, slice_index_or, refl, sym, ap, ◌∙◌, arith, false}
use Rattle.std.proofs.Common.{length-append, length-drop}
use Rattle.std.proofs.lemmas.List.{take_all, take-take, drop-take}
use Rattle.blake2_simd.specs.Family.{Family, blake2b, blake2s, block_bytes, output_bytes}
use Rattle.blake2_compress.specs.Hash.{Flags, block_count, bytes_of, chain, compress, first_blocks}
use Rattle.blake2_compress.specs.Hash.{digest}
use Rattle.blake2_compress.specs.Hash.{final, key_block, last_chain, padded, start}
use Rattle.std.specs.List.{flat_map}
use Rattle.blake2_compress.proofs.ParameterSizes.{length-start}
use Rattle.blake2_compress.proofs.RunSizes.{length-bytes_of, length-digest}
use Rattle.blake2_compress.proofs.WordSizes.{length-compress}
use Rattle.blake2_xof.specs.Xof.{Settings, block_input, block_parameters, block_size, output_block}
use Rattle.blake2_xof.specs.Xof.{output_block_count, output_length, xof_output}
use Rattle.blake2_xof.proofs.JoinedLists.{drop-joined_lists, joined_lists, concat-is_joined_lists}
use Rattle.blake2_xof.proofs.JoinedLists.{take_drop-within_one_list}
use Rattle.blake2_xof.proofs.JoinedLists.{take_drop-whole_lists}

block_count-at_most_one_block : (f : Family) (n : ℕ) → n ≤ block_bytes f → block_count f n ≡ 1
block_count-at_most_one_block blake2b n fits = omega arith
block_count-at_most_one_block blake2s n fits = omega arith

-- The run over at most a block.
last_chain-single_block : (f : Family) (flags : Flags) (h : List ℕ) (y : List ℕ)
    → length y ≤ block_bytes f
    → last_chain f h 0 y flags ≡ compress f h (padded (block_bytes f) y) (length y) flags
unfolding last_chain first_blocks chain
last_chain-single_block f flags h y fits =
    let one : block_count f (length y) ≡ 1 = block_count-at_most_one_block f (length y) fits in
    let whole : take (block_bytes f) y ≡ y = take_all (block_bytes f) y fits in
    let counted : 0 + length y ≡ length y = omega arith in
    rw (one, whole, counted) refl

-- The output of a block, from the words that it starts from.
pub compressed_words-are_output_block : (f : Family) (a : Settings) (root : List ℕ) (i t : ℕ)
    (h block w out : List ℕ)
    (flags : Flags) → length root ≤ block_bytes f → h ≡ start f (block_parameters f a i)
    → block ≡ padded (block_bytes f) root → t ≡ length root → flags ≡ final false
    → w ≡ compress f h block t flags → out ≡ bytes_of f w
    → take (block_size f a.xof_length i) out ≡ output_block f a root i
unfolding output_block digest key_block
compressed_words-are_output_block f a root i t h block w out flags fits started is counted last made
    bytes =
    let run : w ≡ last_chain f (start f (block_parameters f a i)) 0 root (final false) =
    made ∙ (λ k. compress f (started k) (is k) (counted k) (last k))
    ∙ sym (last_chain-single_block f (final false) (start f (block_parameters f a i)) root fits) in
    ap (take (block_size f a.xof_length i)) (bytes ∙ ap (bytes_of f) run)

block_size-at_most_output_bytes : (f : Family) (n i : ℕ) → block_size f n i ≤ output_bytes f
block_size-at_most_output_bytes f n i = omega arith

-- The number of bytes of a block.
length-output_block : (f : Family) (a : Settings) (root : List ℕ) (i : ℕ)
    → length (output_block f a root i) ≡ block_size f a.xof_length i
unfolding output_block
length-output_block f a root i =
    length-digest f (block_size f a.xof_length i) (block_input f a root i)
    (block_size-at_most_output_bytes f a.xof_length i)

-- Bytes of a block, read from the output.
pub take_of_block-is_take_of_output : (f : Family) (a : Settings) (root out : List ℕ) (p n i x : ℕ)
    → 0 < n
    → p ≡ i * output_bytes f + x → x + n ≤ output_bytes f → p + n ≤ output_length f a.xof_length
    → take (block_size f a.xof_length i) out ≡ output_block f a root i
    → take n (drop x out) ≡ take n (drop p (xof_output f a root))
unfolding xof_output
take_of_block-is_take_of_output f a root out p n i x some at within room made =
    let size : ℕ = block_size f a.xof_length i in
    let total : ℕ = output_length f a.xof_length in
    let fits : x + n ≤ size = fits_block f total p n i x at within room in
    take_from_front out size x n fits
    ∙ ap (λ (l : List ℕ). take n (drop x l)) made
    ∙ sym (take_drop-within_one_list (output_block f a root) (output_bytes f) i
    (output_block_count f total) x n
    (λ j lt. length-output_block f a root j ∙ whole_before f total p n i x j at room some lt)
    (enough f total p n i x at room some)
    (omega (arith, length-output_block f a root i)))
    ∙ ap (λ (m : ℕ). take n (drop m (joined_lists (output_block f a root) 0
    (output_block_count f total))))
    (sym at)
  where
    fits_block : (f : Family) (total p n i x : ℕ) → p ≡ i * output_bytes f + x
        → x + n ≤ output_bytes f → p + n ≤ total
        → x + n ≤ min (output_bytes f) (total - i * output_bytes f)
    fits_block blake2b total p n i x at within room = omega arith
    fits_block blake2s total p n i x at within room = omega arith

    whole_before : (f : Family) (total p n i x j : ℕ) → p ≡ i * output_bytes f + x → p + n ≤ total
        → 0 < n → j < i → min (output_bytes f) (total - j * output_bytes f) ≡ output_bytes f
    whole_before blake2b total p n i x j at room some lt = omega arith
    whole_before blake2s total p n i x j at room some lt = omega arith

    enough : (f : Family) (total p n i x : ℕ) → p ≡ i * output_bytes f + x → p + n ≤ total → 0 < n
        → i < output_block_count f total
    enough blake2b total p n i x at room some = omega arith
    enough blake2s total p n i x at room some = omega arith

    take_from_front : (out : List ℕ) (size x n : ℕ) → x + n ≤ size
        → take n (drop x out) ≡ take n (drop x (take size out))
    take_from_front out size x n fits =
        let exact : x + (size - x) ≡ size = omega arith in
        sym (ap (λ (k : ℕ). take n (drop x (take k out))) (sym exact)
        ∙ ap (take n) (drop-take x (size - x) out)
        ∙ take-take n (size - x) (drop x out) (omega arith))

-- Whole blocks, read from the output.
pub whole_blocks-are_take_of_output : (f : Family) (a : Settings) (root : List ℕ)
    (outs : List (List ℕ)) (p i k : ℕ)
    → length root ≤ block_bytes f → length outs ≡ k → p ≡ i * output_bytes f
    → p + k * output_bytes f ≤ output_length f a.xof_length
    → ((j : ℕ) → j < k → slice_index_or outs j [] ≡ bytes_of f (compress f
    (start f (block_parameters f a (i + j))) (padded (block_bytes f) root) (length root)
    (final false)))
    → flat_map (λ x. x) outs ≡ take (k * output_bytes f) (drop p (xof_output f a root))
unfolding xof_output
whole_blocks-are_take_of_output f a root outs p i k fits long at room made =
    let total : ℕ = output_length f a.xof_length in
    let g : ℕ → List ℕ = output_block f a root in
    concat-is_joined_lists g i k outs long (λ j lt.
    sym (take_all (block_size f a.xof_length (i + j)) (slice_index_or outs j [])
    (at_most f (slice_index_or outs j []) _ (made j lt)
    (length-compress f _ _ _ (final false) (length-start f _))
    (whole f total p i k (i + j) at room (omega arith))))
    ∙ compressed_words-are_output_block f a root (i + j) (length root) _ _ _ _ (final false) fits
    refl refl refl refl refl
    (made j lt))
    ∙ sym (take_drop-whole_lists g (output_bytes f) i (output_block_count f total) k
    (λ j lt. length-output_block f a root j ∙ whole f total p i k j at room lt)
    (enough f total p i k at room))
    ∙ ap (λ (m : ℕ). take (k * output_bytes f)
    (drop m (joined_lists g 0 (output_block_count f total))))
    (sym at)
  where
    whole : (f : Family) (total p i k j : ℕ) → p ≡ i * output_bytes f
        → p + k * output_bytes f ≤ total → j < i + k
        → min (output_bytes f) (total - j * output_bytes f) ≡ output_bytes f
    whole blake2b total p i k j at room lt = omega arith
    whole blake2s total p i k j at room lt = omega arith

    enough : (f : Family) (total p i k : ℕ) → p ≡ i * output_bytes f
        → p + k * output_bytes f ≤ total → i + k ≤ output_block_count f total
    enough blake2b total p i k at room = omega arith
    enough blake2s total p i k at room = omega arith

    at_most : (f : Family) (out w : List ℕ) {n : ℕ} → out ≡ bytes_of f w → length w ≡ 8
        → n ≡ output_bytes f → length out ≤ n
    at_most blake2b out w is chaining_words all =
        omega (arith, ap length is, length-bytes_of blake2b w)
    at_most blake2s out w is chaining_words all =
        omega (arith, ap length is, length-bytes_of blake2s w)

-- The number of bytes of the output.
pub length-xof_output : (f : Family) (a : Settings) (root : List ℕ)
    → 1 ≤ output_length f a.xof_length
    → length (xof_output f a root) ≡ output_length f a.xof_length
unfolding xof_output
length-xof_output f a root some =
    let total : ℕ = output_length f a.xof_length in
    let g : ℕ → List ℕ = output_block f a root in
    let n : ℕ = output_block_count f total in
    let all : List ℕ = joined_lists g 0 n in
    let m : ℕ = n - 1 in
    let bounds = last f total some in
    let one : n - m ≡ 1 = omega (arith, bounds.0) in
    let zeros : 0 + m ≡ m = omega arith in
    let rest : drop (m * output_bytes f) all ≡ g m ++ [] =
    drop-joined_lists g (output_bytes f) 0 m n (λ j lt.
    ap (λ (k : ℕ). length (g k)) (omega arith)
    ∙ length-output_block f a root j ∙ whole f total j lt some) (omega arith)
    ∙ (λ i. joined_lists g (zeros i) (one i)) in
    omega (
      arith,
      length-drop (m * output_bytes f) all,
      ap length rest,
      length-append (g m) [],
      length-output_block f a root m,
      bounds.1,
      bounds.2,
    )
  where
    last : (f : Family) (total : ℕ) → 1 ≤ total → (1 ≤ output_block_count f total)
        × ((output_block_count f total - 1) * output_bytes f < total)
        × (total ≤ (output_block_count f total - 1) * output_bytes f + output_bytes f)
    last blake2b total some = (omega arith, omega arith, omega arith)
    last blake2s total some = (omega arith, omega arith, omega arith)

    whole : (f : Family) (total j : ℕ) → j < output_block_count f total - 1 → 1 ≤ total
        → min (output_bytes f) (total - j * output_bytes f) ≡ output_bytes f
    whole blake2b total j lt some = omega arith
    whole blake2s total j lt some = omega arith
