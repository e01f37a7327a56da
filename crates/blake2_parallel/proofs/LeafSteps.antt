-- The contracts of steps of leaves, from the fields that a step leaves.
use Rattle.std.proofs.Common.{◌≡◌, ℕ, zero, suc, ◌+◌, ◌-◌, ◌*◌, ◌<◌, ◌≤◌, nat_eq, List, ◌++◌}
use Rattle.std.proofs.Common.{length, take, drop, refl, sym, ap, ◌∙◌, arith, append_assoc}
use Rattle.std.proofs.Common.{length-append, length-drop, drop-drop}
use Rattle.std.proofs.lemmas.List.{take-append-le, drop-append-le, take_at, drop-take}
use Rattle.std.proofs.lemmas.List.{length-take-le}
use Rattle.blake2_simd.specs.Family.{Family, blake2b, blake2s, block_bytes}
use Rattle.blake2_compress.specs.Hash.{Flags, bytes_of, compress, final, inner, padded}
use Rattle.blake2_compress.specs.MessagePieces.{piece}
use Rattle.blake2_parallel.specs.Parallel.{leaf_message, leaves, node_output_from, stripe_bytes}
use Rattle.blake2_parallel.specs.LeafStates.{Leaves, HasAbsorbed, HasAbsorbedPrefix, leaf_chain}
use Rattle.blake2_parallel.specs.LeafStates.{leaf_future}
use Rattle.blake2_parallel.proofs.LongerRuns.{least_bytes_after_one_stripe}
use Rattle.blake2_parallel.proofs.LongerRuns.{last_chain-after_first_stripe, piece-of_stripe}

-- The output of leaf j over these bytes, from these words.
abbrev pub leaf_output_over : Family → List ℕ → ℕ → List ℕ → ℕ → List ℕ
leaf_output_over f h c z j = node_output_from f h c (leaf_message f z j) (nat_eq (j + 1) (leaves f))

pub leaf_future-is_leaf_output_over : (f : Family) (s : Leaves) (y : List ℕ) (j : ℕ)
    → leaf_future f s y j ≡ leaf_output_over f (s.words j) s.count (s.pending ++ y) j
unfolding leaf_future
leaf_future-is_leaf_output_over f s y j = refl

-- Bytes that become pending.
pub leaf_future-input_becomes_pending : (f : Family) (old new : Leaves) (x : List ℕ)
    → ((j : ℕ) → new.words j ≡ old.words j) → new.count ≡ old.count
    → new.pending ≡ old.pending ++ x → (y : List ℕ) (j : ℕ)
    → leaf_future f new y j ≡ leaf_future f old (x ++ y) j
leaf_future-input_becomes_pending f old new x words count pending y j =
    leaf_future-is_leaf_output_over f new y j
    ∙ (λ i. leaf_output_over f (words j i) (count i) (pending i ++ y) j)
    ∙ ap (λ (z : List ℕ). leaf_output_over f (old.words j) old.count z j)
    (append_assoc old.pending x y)
    ∙ sym (leaf_future-is_leaf_output_over f old (x ++ y) j)

pub HasAbsorbed-input_becomes_pending : (f : Family) (old new : Leaves) (x : List ℕ)
    → ((j : ℕ) → new.words j ≡ old.words j) → new.count ≡ old.count
    → new.pending ≡ old.pending ++ x → HasAbsorbed f old x new
HasAbsorbed-input_becomes_pending f old new x words count pending = record {
  future = λ y j lane. leaf_future-input_becomes_pending f old new x words count pending y j;
  total = omega (
    arith,
    ap (λ (n : ℕ). leaves f * n) count,
    ap length pending,
    length-append old.pending x,
  );
}

pub HasAbsorbedPrefix-empty_prefix : (f : Family) (s : Leaves) (x : List ℕ)
    → HasAbsorbedPrefix f s x s x
HasAbsorbedPrefix-empty_prefix f s x = record { future = λ y j lane. refl; total = refl }

pub HasAbsorbedPrefix-trans : (f : Family) (a b c : Leaves) (x y z : List ℕ)
    → HasAbsorbedPrefix f a x b y
    → HasAbsorbedPrefix f b y c z → HasAbsorbedPrefix f a x c z
HasAbsorbedPrefix-trans f a b c x y z first second = record {
  future = λ w j lane. second.future w j lane ∙ first.future w j lane;
  total = second.total ∙ first.total;
}

-- The first bytes of an input become pending.
pub HasAbsorbedPrefix-by_HasAbsorbed : (f : Family) (old new : Leaves) (head rest input : List ℕ)
    → input ≡ head ++ rest
    → HasAbsorbed f old head new → HasAbsorbedPrefix f old input new rest
HasAbsorbedPrefix-by_HasAbsorbed f old new head rest input joined took = record {
  future = λ y j lane. took.future (rest ++ y) j lane
      ∙ ap (λ (z : List ℕ). leaf_future f old z j)
      (sym (append_assoc head rest y) ∙ ap (λ (z : List ℕ). z ++ y) (sym joined));
  total = omega (arith, took.total, ap length joined, length-append head rest);
}

-- All of the rest becomes pending.
pub HasAbsorbed-prefix_and_rest : (f : Family) (a b c : Leaves) (x rest : List ℕ)
    → HasAbsorbedPrefix f a x b rest
    → HasAbsorbed f b rest c → HasAbsorbed f a x c
HasAbsorbed-prefix_and_rest f a b c x rest went took = record {
  future = λ y j lane. took.future y j lane ∙ went.future y j lane;
  total = took.total ∙ went.total;
}

-- Leaves with the same words, count and pending bytes are the same.
pub HasAbsorbedPrefix-of_equal_leaves : (f : Family) (old new : Leaves) (x : List ℕ)
    → ((j : ℕ) → new.words j ≡ old.words j) → new.count ≡ old.count → new.pending ≡ old.pending
    → HasAbsorbedPrefix f old x new x
HasAbsorbedPrefix-of_equal_leaves f old new x words count pending = record {
  future = λ y j lane. leaf_future-is_leaf_output_over f new (x ++ y) j
      ∙ (λ i. leaf_output_over f (words j i) (count i) (pending i ++ (x ++ y)) j)
      ∙ sym (leaf_future-is_leaf_output_over f old (x ++ y) j);
  total = omega (
    arith,
    ap (λ (n : ℕ). leaves f * n) count,
    ap length pending,
  );
}

leaf_block-within_bytes : (f : Family) (n j : ℕ) → least_bytes_after_one_stripe f < n → j < leaves f
    → (block_bytes f ≤ n - j * block_bytes f) × (j * block_bytes f ≤ n) × (stripe_bytes f ≤ n)
leaf_block-within_bytes blake2b n j more lane = (omega arith, omega arith, omega arith)
leaf_block-within_bytes blake2s n j more lane = (omega arith, omega arith, omega arith)

-- The output of a leaf after a stripe was compressed: z is what was pending, and the input.
leaf_output_over-after_one_stripe : (f : Family) (h new : List ℕ) (c : ℕ) (z y : List ℕ) (j : ℕ)
    → j < leaves f
    → least_bytes_after_one_stripe f < length z
    → new ≡ compress f h (piece (block_bytes f) z j) (c + block_bytes f) inner
    → leaf_output_over f new (c + block_bytes f) (drop (stripe_bytes f) z ++ y) j
    ≡ leaf_output_over f h c (z ++ y) j
leaf_output_over-after_one_stripe f h new c z y j lane more is =
    let b : ℕ = block_bytes f in
    let fits = leaf_block-within_bytes f (length z) j more lane in
    let long : least_bytes_after_one_stripe f < length (z ++ y) =
    omega (arith, length-append z y) in
    let block : piece b (z ++ y) j ≡ piece b z j =
    ap (take b) (drop-append-le (j * b) z y fits.1)
    ∙ take-append-le b (drop (j * b) z) y (omega (arith, length-drop (j * b) z, fits.0)) in
    let rest : drop (stripe_bytes f) (z ++ y) ≡ drop (stripe_bytes f) z ++ y =
    drop-append-le (stripe_bytes f) z y fits.2 in
    let flags : Flags = final (nat_eq (j + 1) (leaves f)) in
    sym (ap (bytes_of f) (last_chain-after_first_stripe f flags h c (z ++ y) j lane long)
    ∙ (λ i. node_output_from f (compress f h (block i) (c + b) inner) (c + b)
    (leaf_message f (rest i) j) (nat_eq (j + 1) (leaves f)))
    ∙ ap (λ (w : List ℕ). leaf_output_over f w (c + b) (drop (stripe_bytes f) z ++ y) j) (sym is))

-- A stripe more, and where it begins.
stripe_bytes-of_one_stripe_more : (f : Family) (n c : ℕ)
    → (suc n * stripe_bytes f ≡ n * stripe_bytes f + stripe_bytes f)
    × (c + n * block_bytes f + block_bytes f ≡ c + suc n * block_bytes f)
stripe_bytes-of_one_stripe_more blake2b n c = (omega arith, omega arith)
stripe_bytes-of_one_stripe_more blake2s n c = (omega arith, omega arith)

-- The least number of bytes, less one, with which each leaf has a byte after its blocks of n
-- stripes.
abbrev pub least_bytes_after_stripes : Family → ℕ → ℕ
least_bytes_after_stripes f n = n * stripe_bytes f + (leaves f - 1) * block_bytes f

least_bytes_after_stripes-smaller : (f : Family) (n m : ℕ) → least_bytes_after_stripes f (suc n) < m
    → (least_bytes_after_stripes f n < m) × (least_bytes_after_one_stripe f < m - n * stripe_bytes
    f)
least_bytes_after_stripes-smaller blake2b n m more = (omega arith, omega arith)
least_bytes_after_stripes-smaller blake2s n m more = (omega arith, omega arith)

-- The output of a leaf after n stripes were compressed: z is what was pending, and the input.
leaf_output_over-after_n_stripes : (f : Family) (h : List ℕ) (c : ℕ) (z y : List ℕ) (j n : ℕ)
    → j < leaves f
    → least_bytes_after_stripes f n < length z
    → leaf_output_over f (leaf_chain f h c z j n) (c + n * block_bytes f)
    (drop (n * stripe_bytes f) z ++ y) j
    ≡ leaf_output_over f h c (z ++ y) j
unfolding leaf_chain
leaf_output_over-after_n_stripes f h c z y j zero lane more =
    let count : c + 0 * block_bytes f ≡ c = omega arith in
    let none : 0 * stripe_bytes f ≡ 0 = omega arith in
    (λ i. leaf_output_over f h (count i) (drop (none i) z ++ y) j)
leaf_output_over-after_n_stripes f h c z y j (suc n) lane more =
    let b : ℕ = block_bytes f in
    let s : ℕ = stripe_bytes f in
    let rest : List ℕ = drop (n * s) z in
    let old : List ℕ = leaf_chain f h c z j n in
    let new : List ℕ = leaf_chain f h c z j (suc n) in
    let fits = least_bytes_after_stripes-smaller f n (length z) more in
    let steps = stripe_bytes-of_one_stripe_more f n c in
    let count : c + (n + 1) * b ≡ c + n * b + b = ap (λ (k : ℕ). c + k * b) (sym next) ∙ sym steps.1 in
    let is : new ≡ compress f old (piece b rest j) (c + n * b + b) inner =
    (λ i. compress f old (piece-of_stripe f z n j i) (count i) inner) in
    let left : drop s rest ≡ drop (suc n * s) z =
    drop-drop s (n * s) z ∙ ap (λ (k : ℕ). drop k z) (sym steps.0) in
    (λ i. leaf_output_over f new (sym steps.1 i) (sym left i ++ y) j)
    ∙ leaf_output_over-after_one_stripe f old new (c + n * b) rest y j lane
    (omega (arith, length-drop (n * s) z, fits.1)) is
    ∙ leaf_output_over-after_n_stripes f h c z y j n lane fits.0
  where
    next : suc n ≡ n + 1
    next = omega arith

-- Stripes of what was pending and of the input were compressed.
pub HasAbsorbedPrefix-n_stripes : (f : Family) (old new : Leaves) (n : ℕ) (input rest : List ℕ)
    → least_bytes_after_stripes f n < length (old.pending ++ input)
    → ((j : ℕ) → j < leaves f
    → new.words j ≡ leaf_chain f (old.words j) old.count (old.pending ++ input) j n)
    → new.count ≡ old.count + n * block_bytes f
    → new.pending ++ rest ≡ drop (n * stripe_bytes f) (old.pending ++ input)
    → HasAbsorbedPrefix f old input new rest
HasAbsorbedPrefix-n_stripes f old new n input rest more words count left = record {
  future = λ y j lane.
      let z : List ℕ = old.pending ++ input in
      leaf_future-is_leaf_output_over f new (rest ++ y) j
      ∙ ap (λ (w : List ℕ). leaf_output_over f (new.words j) new.count w j)
      (sym (append_assoc new.pending rest y) ∙ ap (λ (w : List ℕ). w ++ y) left)
      ∙ (λ i. leaf_output_over f (words j lane i) (count i) (drop (n * stripe_bytes f) z ++ y) j)
      ∙ leaf_output_over-after_n_stripes f (old.words j) old.count z y j n lane more
      ∙ ap (λ (w : List ℕ). leaf_output_over f (old.words j) old.count w j)
      (append_assoc old.pending input y)
      ∙ sym (leaf_future-is_leaf_output_over f old (input ++ y) j);
  total = total-stripes f n old.count new.count (length old.pending) (length new.pending)
      (length input) (length rest) (omega (arith, more, length-append old.pending input)) count
      (omega (
        arith,
        ap length left,
        length-append new.pending rest,
        length-drop (n * stripe_bytes f) (old.pending ++ input),
        length-append old.pending input,
      ));
}
  where
    total-stripes : (f : Family) (n c d p q k m : ℕ) → least_bytes_after_stripes f n < p + k
        → d ≡ c + n * block_bytes f
        → q + m ≡ p + k - n * stripe_bytes f → leaves f * d + q + m ≡ leaves f * c + p + k
    total-stripes blake2b n c d p q k m more count left = omega arith
    total-stripes blake2s n c d p q k m more count left = omega arith

-- The bytes that are left after a stripe of s bytes, among the first n of p.
pub pending_rest-after_one_stripe : (s n m : ℕ) (p q y : List ℕ) → s ≤ n → n ≤ length p
    → q ≡ padded m (take (n - s) (drop s p)) → take (n - s) q ++ y ≡ drop s (take n p ++ y)
unfolding padded
pending_rest-after_one_stripe s n m p q y begun fits is =
    let x : List ℕ = take (n - s) (drop s p) in
    let size : length x ≡ n - s =
    length-take-le (n - s) (drop s p) (omega (arith, length-drop s p)) in
    let all : s + (n - s) ≡ n = omega arith in
    let long : length (take n p) ≡ n = length-take-le n p fits in
    ap (λ (z : List ℕ). z ++ y) (ap (take (n - s)) is ∙ take_at x _ (n - s) size
    ∙ sym (drop-take s (n - s) p) ∙ ap (λ (k : ℕ). drop s (take k p)) all)
    ∙ sym (drop-append-le s (take n p) y (omega (arith, long)))
