-- The outputs of leaves at the end of a message, over one or two blocks that are pending.
use Rattle.std.proofs.Common.{◌≡◌, ℕ, ◌+◌, ◌-◌, ◌*◌, ◌<◌, ◌≤◌, nat_eq, nat_lt, List, []}
use Rattle.std.proofs.Common.{if◌then◌else◌, ◌++◌, length, take, drop, min, Bool, true, false, sym}
use Rattle.std.proofs.Common.{ap, ◌∙◌, arith, append-nil, length-append, length-drop, inl, inr}
use Rattle.std.proofs.lemmas.List.{take_all, take_at, drop_at, drop-take, length-take}
use Rattle.std.proofs.lemmas.List.{length-take-le, drop_all, take-take}
use Rattle.std.proofs.lemmas.Bool.{cases_lt, le-ltb, lt-ltb}
use Rattle.blake2_simd.specs.Family.{Family, blake2b, blake2s, block_bytes}
use Rattle.blake2_compress.specs.Hash.{bytes_of, compress, final, inner, last_chain, padded}
use Rattle.blake2_compress.specs.MessagePieces.{piece}
use Rattle.blake2_compress.proofs.Padding.{padded-unchanged_at_length}
use Rattle.blake2_parallel.specs.Parallel.{leaves, node_output_from, stripe_bytes}
use Rattle.blake2_parallel.specs.LeafStates.{Leaves, last_but_one_stripe_flags, leaf_future}
use Rattle.blake2_parallel.proofs.DealtStripes.{leaf_message-at_most_two_stripes, piece-past_end_is_empty, piece-of_second_stripe}
use Rattle.blake2_parallel.proofs.LongerRuns.{last_chain-after_first_block, last_chain-single_block}
use Rattle.blake2_parallel.proofs.LeafSteps.{leaf_output_over, leaf_future-is_leaf_output_over}

-- The output of a leaf if nothing more comes: over its last two blocks.
leaf_future-is_output_of_last_blocks : (f : Family) (s : Leaves) (j : ℕ)
    → length s.pending ≤ 2 * stripe_bytes f
    → leaf_future f s [] j ≡ node_output_from f (s.words j) s.count
    (piece (block_bytes f) s.pending j ++ piece (block_bytes f) s.pending (leaves f + j))
    (nat_eq (j + 1) (leaves f))
leaf_future-is_output_of_last_blocks f s j fits =
    leaf_future-is_leaf_output_over f s [] j
    ∙ ap (λ (z : List ℕ). leaf_output_over f (s.words j) s.count z j) (append-nil s.pending)
    ∙ ap (λ (z : List ℕ). node_output_from f (s.words j) s.count z (nat_eq (j + 1) (leaves f)))
    (leaf_message-at_most_two_stripes f s.pending j fits)

-- The first stripe and the rest, if the cut is at its end or at that of the bytes.
pub cut_at_minimum-is_cut_at_stripe : (s k : ℕ) (z : List ℕ) → k ≡ min (length z) s
    → (take k z ≡ take s z) × (drop k z ≡ drop s z)
cut_at_minimum-is_cut_at_stripe s k z is = elim (cases_lt s (length z)) [
  | inl within ↦
      let all : k ≡ s = omega arith in
      (ap (λ (m : ℕ). take m z) all, ap (λ (m : ℕ). drop m z) all)
  | inr past ↦
      let all : length z ≤ k = omega arith in (
        take_all k z all ∙ sym (take_all s z past),
        drop_all k z all ∙ sym (drop_all s z past),
      )
]

leaf_block-within_stripe : (f : Family) (j : ℕ) → j < leaves f
    → j * block_bytes f + block_bytes f ≤ stripe_bytes f
leaf_block-within_stripe blake2b j lane = omega arith
leaf_block-within_stripe blake2s j lane = omega arith

-- A block of the first stripe.
piece-of_first_stripe : (f : Family) (z : List ℕ) (j : ℕ) → j < leaves f
    → piece (block_bytes f) (take (stripe_bytes f) z) j ≡ piece (block_bytes f) z j
piece-of_first_stripe f z j lane =
    let b : ℕ = block_bytes f in
    let m : ℕ = stripe_bytes f - j * b in
    let all : stripe_bytes f ≡ j * b + m = omega (arith, leaf_block-within_stripe f j lane) in
    ap (λ (k : ℕ). take b (drop (j * b) (take k z))) all
    ∙ ap (take b) (drop-take (j * b) m z)
    ∙ take-take b m (drop (j * b) z) (omega (arith, leaf_block-within_stripe f j lane))

-- The output over two blocks of which the second has a byte.
output_from-two_blocks : (f : Family) (h : List ℕ) (c : ℕ) (x y before after : List ℕ) (last : Bool)
    → length x ≡ block_bytes f → 0 < length y → length y ≤ block_bytes f
    → before ≡ compress f h (padded (block_bytes f) x) (c + length x) inner
    → after ≡ compress f before (padded (block_bytes f) y) (c + block_bytes f + length y) (final last)
    → bytes_of f after ≡ node_output_from f h c (x ++ y) last
output_from-two_blocks f h c x y before after last whole some short first second =
    let b : ℕ = block_bytes f in
    ap (bytes_of f) (second
    ∙ (λ i. compress f (first i) (padded b y) (c + b + length y) (final last))
    ∙ (λ i. compress f (compress f h (padded-unchanged_at_length b x whole i) (c + whole i) inner)
    (padded b y)
    (c + b + length y) (final last))
    ∙ sym (last_chain-single_block f (final last) (compress f h x (c + b) inner) (c + b) y short)
    ∙ (λ i. last_chain f (compress f h (sym (take_at x y b whole) i) (c + b) inner) (c + b)
    (sym (drop_at x y b whole) i) (final last))
    ∙ sym (last_chain-after_first_block f (final last) h c (x ++ y)
    (omega (arith, length-append x y, whole, some))))

-- The output over a single block.
output_from-single_block : (f : Family) (h : List ℕ) (c : ℕ) (x y before : List ℕ) (last : Bool)
    → length x ≤ block_bytes f → y ≡ []
    → before ≡ compress f h (padded (block_bytes f) x) (c + length x) (final last)
    → bytes_of f before ≡ node_output_from f h c (x ++ y) last
output_from-single_block f h c x y before last short none first =
    ap (bytes_of f) (first ∙ sym (last_chain-single_block f (final last) h c x short)
    ∙ ap (λ (z : List ℕ). last_chain f h c z (final last))
    (sym (append-nil x) ∙ ap (λ (z : List ℕ). x ++ z) (sym none)))

length-piece_at_most_block : (b : ℕ) (z : List ℕ) (j : ℕ) → length (piece b z j) ≤ b
length-piece_at_most_block b z j = omega (arith, length-take b (drop (j * b) z))

block_bytes-is_positive : (f : Family) → 0 < block_bytes f
block_bytes-is_positive blake2b = omega arith
block_bytes-is_positive blake2s = omega arith

-- A leaf that has a byte of the second stripe has a whole block of the first.
first_block-whole_if_second_nonempty : (f : Family) (z first second : List ℕ) (j : ℕ) → j < leaves f
    → first ≡ take (stripe_bytes f) z → second ≡ drop (stripe_bytes f) z
    → j * block_bytes f < length second → length (piece (block_bytes f) first j) ≡ block_bytes f
first_block-whole_if_second_nonempty f z first second j lane is_first is_second some =
    length-take-le (block_bytes f) (drop (j * block_bytes f) first) (omega (
      arith,
      length-drop (j * block_bytes f) first,
      ap length is_first,
      length-take-le (stripe_bytes f) z (omega (
        arith,
        ap length is_second,
        length-drop (stripe_bytes f) z,
      )),
      leaf_block-within_stripe f j lane,
    ))

-- The output of a leaf if nothing more comes: over its blocks of both stripes.
output_from-both_stripes_is_leaf_future : (f : Family) (s : Leaves) (j : ℕ) (first second : List ℕ)
    → j < leaves f
    → length s.pending ≤ 2 * stripe_bytes f → first ≡ take (stripe_bytes f) s.pending
    → second ≡ drop (stripe_bytes f) s.pending
    → node_output_from f (s.words j) s.count
    (piece (block_bytes f) first j ++ piece (block_bytes f) second j) (nat_eq (j + 1) (leaves f))
    ≡ leaf_future f s [] j
output_from-both_stripes_is_leaf_future f s j first second lane fits is_first is_second =
    let one = ap (λ (z : List ℕ). piece (block_bytes f) z j) is_first
    ∙ piece-of_first_stripe f s.pending j lane in
    let two = ap (λ (z : List ℕ). piece (block_bytes f) z j) is_second
    ∙ piece-of_second_stripe f s.pending j in
    (λ i. node_output_from f (s.words j) s.count (one i ++ two i) (nat_eq (j + 1) (leaves f)))
    ∙ sym (leaf_future-is_output_of_last_blocks f s j fits)

-- What the last one or two blocks of a leaf are, and its output.
pub last_blocks-give_leaf_future : (f : Family) (s : Leaves) (j : ℕ)
    (first second before after : List ℕ)
    → j < leaves f → length s.pending ≤ 2 * stripe_bytes f → first ≡ take (stripe_bytes f) s.pending
    → second ≡ drop (stripe_bytes f) s.pending
    → before ≡ compress f (s.words j) (padded (block_bytes f) (piece (block_bytes f) first j))
    (s.count + length (piece (block_bytes f) first j))
    (last_but_one_stripe_flags f (length second) j)
    → (0 < length second
    → after ≡ compress f before (padded (block_bytes f) (piece (block_bytes f) second j))
    (s.count + block_bytes f + length (piece (block_bytes f) second j))
    (final (nat_eq (j + 1) (leaves f))))
    → bytes_of f (if nat_lt (j * block_bytes f) (length second) then after else before)
    ≡ leaf_future f s [] j
last_blocks-give_leaf_future f s j first second before after lane fits is_first is_second begun
    ended =
    let b : ℕ = block_bytes f in
    let x : List ℕ = piece b first j in
    let y : List ℕ = piece b second j in
    let last : Bool = nat_eq (j + 1) (leaves f) in
    elim (cases_lt (j * b) (length second)) [
      | inl some ↦
          let test : nat_lt (j * b) (length second) ≡ true = lt-ltb (j * b) (length second) some in
          ap (λ (t : Bool). bytes_of f (if t then after else before)) test
          ∙ output_from-two_blocks f (s.words j) s.count x y before after last
          (first_block-whole_if_second_nonempty f s.pending first second j lane is_first is_second
          some)
          (omega (
            arith,
            length-take b (drop (j * b) second),
            length-drop (j * b) second,
            block_bytes-is_positive f,
          ))
          (length-piece_at_most_block b second j)
          (begun ∙ ap (λ (t : Bool). compress f (s.words j) (padded b x) (s.count + length x)
          (if t then inner else final last)) test)
          (ended (omega arith))
          ∙ output_from-both_stripes_is_leaf_future f s j first second lane fits is_first is_second
      | inr none ↦
          let test : nat_lt (j * b) (length second) ≡ false = le-ltb (j * b) (length second) none in
          ap (λ (t : Bool). bytes_of f (if t then after else before)) test
          ∙ output_from-single_block f (s.words j) s.count x y before last
          (length-piece_at_most_block b first j)
          (piece-past_end_is_empty b second j none)
          (begun ∙ ap (λ (t : Bool). compress f (s.words j) (padded b x) (s.count + length x)
          (if t then inner else final last)) test)
          ∙ output_from-both_stripes_is_leaf_future f s j first second lane fits is_first is_second
    ]
