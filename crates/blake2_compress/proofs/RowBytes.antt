-- The bytes of two rows, as they are written into zeros.
use Rattle.std.proofs.Common.{◌≡◌, ℕ, ◌*◌, List, [], ◌++◌, length, get_or, take, drop, replicate}
use Rattle.std.proofs.Common.{sym, ap, ◌∙◌, arith}
use Rattle.std.proofs.lemmas.List.{take_at, drop_at, drop_all, append-nil, get_or_default}
use Rattle.std.proofs.lemmas.List.{length-replicate, length-take-le}
use Rattle.std.proofs.lemmas.Grind.{flat_map-append}
use Rattle.std.specs.Int.{to_le_bytes}
use borrow.Rule.Slice.PartMut.{put_mid}
use Rattle.blake2_simd.specs.Family.{Family, blake2b, blake2s, word, word_bytes}
use Rattle.blake2_simd.specs.Rows.{chaining_words, lane_bytes}
use Rattle.blake2_compress.specs.Hash.{bytes_of}
use Rattle.blake2_simd.proofs.Words.{cells, cells-drop}
use Rattle.blake2_compress.proofs.RunSizes.{length-bytes_of}

-- Two lists of n bytes, one written before the other into 2n zeros.
put_mid-second_half : (n : ℕ) (x y : List ℕ) → length x ≡ n → length y ≡ n
    → put_mid n n (x ++ replicate n 0) y ≡ x ++ y
put_mid-second_half n x y lx ly =
    let zeros : List ℕ = replicate n 0 in
    let end : drop n (drop n (x ++ zeros)) ≡ [] =
    ap (drop n) (drop_at x zeros n lx) ∙ drop_all n zeros
    (omega (arith, length-replicate {A = ℕ} n 0)) in
    (λ i. take_at x zeros n lx i ++ (y ++ end i)) ∙ ap (λ (z : List ℕ). x ++ z) (append-nil y)

-- The second half has n bytes after the first is written.
length-second_half : (n : ℕ) (x : List ℕ) → length x ≡ n
    → length (take n (drop n (x ++ replicate n 0))) ≡ n
length-second_half n x lx =
    let zeros : List ℕ = replicate n 0 in
    let all : length zeros ≡ n = length-replicate n 0 in
    ap (λ (z : List ℕ). length (take n z)) (drop_at x zeros n lx)
    ∙ length-take-le n zeros (omega arith)

-- A row with the number of bytes that four words have.
row-has_four_lanes : (f : Family) (row : List ℕ) → length (lane_bytes f row) ≡ 4 * word_bytes f
    → length row ≡ 4
unfolding bytes_of
row-has_four_lanes blake2b row e = omega (arith, length-bytes_of blake2b row)
row-has_four_lanes blake2s row e = omega (arith, length-bytes_of blake2s row)

-- The bytes of two rows are those of their eight words.
pub put_mid-two_rows : (f : Family) (h : List (List ℕ)) (d e x y : List ℕ) → length h ≡ 2
    → x ≡ lane_bytes f (get_or h 0 d) → y ≡ lane_bytes f (get_or h 1 e)
    → length x ≡ 4 * word_bytes f → length y ≡ length
    (take (4 * word_bytes f) (drop (4 * word_bytes f) (x ++ replicate (4 * word_bytes f) 0)))
    → put_mid (4 * word_bytes f) (4 * word_bytes f) (x ++ replicate (4 * word_bytes f) 0) y
    ≡ bytes_of f (chaining_words h)
unfolding bytes_of
put_mid-two_rows f h d e x y lh ex ey lx same_length =
    let ly : length y ≡ 4 * word_bytes f =
    same_length ∙ length-second_half (4 * word_bytes f) x lx in
    let a : List ℕ = get_or h 0 d in
    let b : List ℕ = get_or h 1 e in
    let la : length a ≡ 4 = row-has_four_lanes f a (sym (ap length ex) ∙ lx) in
    let lb : length b ≡ 4 = row-has_four_lanes f b (sym (ap length ey) ∙ ly) in
    let same_a : a ≡ get_or h 0 [] = get_or_default h 0 d [] (omega arith) in
    let same_b : b ≡ get_or h 1 [] = get_or_default h 1 e [] (omega arith) in
    let words : a ++ b ≡ chaining_words h =
    (λ i. sym (cells-drop a 0 4 la) i ++ sym (cells-drop b 0 4 lb) i)
    ∙ (λ i. cells (same_a i) 0 4 ++ cells (same_b i) 0 4) in
    put_mid-second_half (4 * word_bytes f) x y lx ly ∙ (λ i. ex i ++ ey i)
    ∙ sym (flat_map-append (to_le_bytes (word f)) a b) ∙ ap (bytes_of f) words
