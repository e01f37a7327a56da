use Rattle.std.proofs.Common.{◌≡◌, ◌<◌, ◌≤◌, ◌+◌, ◌*◌, min, ℕ, List, [], length, take, drop, refl}
use Rattle.std.proofs.Common.{ap, ◌∙◌, Bool, true, false, nat_eq, nat_lt, if◌then◌else◌, arith}
use Rattle.std.proofs.lemmas.List.{length-take}
use Rattle.blake2_simd.specs.Family.{blake2b}
use Rattle.blake2_simd.specs.Lanes.{in_lane}
use Rattle.blake2_simd.proofs.Lanes.{list_of_four-at_lane}
use Rattle.blake2_compress.specs.Hash.{bytes_of, compress as F, final, padded}
use Rattle.blake2_compress.specs.MessagePieces.{piece}
use Rattle.blake2_parallel.specs.Blake2bp.{leaves_of}
use Rattle.blake2_parallel.specs.LeafStates.{Leaves, last_but_one_stripe_flags, leaf_future}
use Rattle.blake2_parallel.proofs.LeafEnds.{cut_at_minimum-is_cut_at_stripe}
use Rattle.blake2_parallel.proofs.LeafEnds.{last_blocks-give_leaf_future}
use Rattle.blake2_parallel.proofs.lanes.blake2bp.Lanes.outputs.Goals as goal

-- Leaf m's output, from its chaining words and those of all leaves before this end.
selected_words-are_leaf_future : (s : Leaves) (k m : ℕ) (first second h before after : List ℕ)
    → m < 4
    → k ≡ min (length s.pending) 512 → length s.pending ≤ 1024
    → first ≡ take k s.pending → second ≡ drop k s.pending → h ≡ s.words m
    → before ≡ F blake2b h (padded 128 (piece 128 first m))
    (s.count + length (piece 128 first m)) (last_but_one_stripe_flags blake2b (length second) m)
    → (0 < length second → after ≡ F blake2b before (padded 128 (piece 128 second m))
    (s.count + 128 + length (piece 128 second m)) (final (nat_eq (m + 1) 4)))
    → bytes_of blake2b (if nat_lt (m * 128) (length second) then after else before)
    ≡ leaf_future blake2b s [] m
selected_words-are_leaf_future s k m first second h before after lane is fits front back begins
    begun ended =
    let cut = cut_at_minimum-is_cut_at_stripe 512 k s.pending is in
    last_blocks-give_leaf_future blake2b s m first second before after lane (omega (arith, fits))
    (front ∙ cut.0)
    (back ∙ cut.1) (begun ∙ ap (λ (w : List ℕ). F blake2b w (padded 128 (piece 128 first m))
    (s.count + length (piece 128 first m)) (last_but_one_stripe_flags blake2b (length second) m))
    begins) ended

if-same_branches : (t : Bool) (x : List ℕ) → x ≡ (if t then x else x)
if-same_branches true x = refl
if-same_branches false x = refl

if-bytes_of : (t : Bool) (a b x y : List ℕ) → a ≡ bytes_of blake2b x → b ≡ bytes_of blake2b y
    → (if t then a else b) ≡ bytes_of blake2b (if t then x else y)
if-bytes_of true a b x y is _ = is
if-bytes_of false a b x y _ is = is

pub returns-then-n-eq0 : goal.returns-then-n-eq0
returns-then-n-eq0 c j lane =
    let self = c.args.self.now in
    c.outputs_of-firsts.ensures j lane ∙ ap (bytes_of blake2b) (if-same_branches _ _)
    ∙ selected_words-are_leaf_future (leaves_of self) c.min.result j _ _ _ _
    (in_lane j c.compress_first-before.result) lane
    c.min.ensures (omega (arith, length-take self.length self.pending, c.requires.within))
    c.split_at.ensures.front c.split_at.ensures.back (c.to_vectors.ensures j lane)
    (c.compress_first-before.ensures j lane)
    (λ some. absurd (omega (arith, some, c.if-n-eq0.true)))

pub returns : goal.returns
returns c j lane =
    let self = c.args.self.now in
    let at = λ (m : ℕ) (lt : m < 4).
    if-bytes_of _ _ _ _ _ (c.outputs_of-lasts.ensures m lt) (c.outputs_of-firsts.ensures m lt)
    ∙ selected_words-are_leaf_future (leaves_of self) c.min.result m _ _ _ _
    (in_lane m c.compress_second-after.result) lt
    c.min.ensures (omega (arith, length-take self.length self.pending, c.requires.within))
    c.split_at.ensures.front c.split_at.ensures.back (c.to_vectors.ensures m lt)
    (c.compress_first-before.ensures m lt) (c.compress_second-after.ensures m lt) in
    list_of_four-at_lane (leaf_future blake2b (leaves_of self) []) _ _ _ _
    (c.output.ensures ∙ at 0 (omega arith)) (c.output-2.ensures ∙ at 1 (omega arith))
    (c.output-3.ensures ∙ at 2 (omega arith)) (c.output-4.ensures ∙ at 3 (omega arith))
    j lane
