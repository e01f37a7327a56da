-- The root that a tree will return, from call to call.
use Rattle.std.proofs.Common.{◌≡◌, ℕ, ◌+◌, ◌-◌, ◌*◌, ◌/◌, ◌%◌, ◌<◌, ◌≤◌, Bool, true, false, List}
use Rattle.std.proofs.Common.{[], ◌++◌, length, take, drop, refl, sym, ap, ◌∙◌, arith, append-nil}
use Rattle.std.proofs.Common.{append_assoc, length-append, length-drop}
use Rattle.std.proofs.lemmas.List.{take-append-drop, length-take-le, nil_from_length, take_rest}
use Rattle.std.proofs.Math.Nat.{mul-le-mul_left, mul-mod_left}
use Rattle.std.specs.List.{concat, flat_map}
use Rattle.blake2_digest.specs.States.{Meaning, digest_now, Updated, Fresh, LastNodeFlagSet}
use Rattle.blake2_tree.specs.NodeViews.{node_digest, IsFreshLeaf, digests_of_four_leaves}
use Rattle.blake2_tree.specs.TreeRoot.{TreeParameters, tree_root}
use Rattle.blake2_tree.specs.LeafRanges.{AreWholeLeaves, range_digests}
use Rattle.blake2_tree.specs.OpenTrees.{remaining_leaf_digests, OpenTree, open_tree, count, future}
use Rattle.blake2_tree.specs.OpenTrees.{HasAbsorbed}
use Rattle.blake2_tree.specs.OpenTrees.{HasAbsorbedPrefix}
use Rattle.blake2_tree.proofs.MessageLeaves.{range_digests-of_whole_message}
use Rattle.blake2_tree.proofs.RangeLaws.{length-range_digests, range_digests-append_whole_leaves}
use Rattle.blake2_tree.proofs.RangeLaws.{leaf_count-is_quotient}
use Rattle.blake2_tree.proofs.FourLeaves.{range_digests-last_four}
use Rattle.blake2_tree.proofs.OpenLeaves.{remaining_leaf_digests-empty_leaf}
use Rattle.blake2_tree.proofs.OpenLeaves.{remaining_leaf_digests-after_prefix}
use Rattle.blake2_tree.proofs.OpenLeaves.{remaining_leaf_digests-without_input}
use Rattle.blake2_tree.proofs.OpenLeaves.{remaining_leaf_digests-full_leaf}

-- A node that has just been initialized is a leaf that has just been opened.
IsFreshLeaf-of_fresh_node : {S : Type 0} (leaves : Meaning S) (s : TreeParameters) (place : ℕ)
    (leaf : S)
    → Fresh leaves (node_digest 64 s place 0) 0 leaf → IsFreshLeaf leaves s place leaf
IsFreshLeaf-of_fresh_node leaves s place leaf fresh =
    record { digests = fresh.future; empty = fresh.count }

-- What comes to a leaf that has just been opened is the leaves from its index on.
remaining_leaf_digests-fresh_leaf : {S : Type 0} (leaves : Meaning S) (s : TreeParameters)
    (place : ℕ)
    (leaf : S) (y : List ℕ) → 0 < s.leaf_length → IsFreshLeaf leaves s place leaf
    → remaining_leaf_digests s (leaves.future leaf) (s.leaf_length - leaves.count leaf) (place + 1)
    y
    ≡ range_digests s place true y
remaining_leaf_digests-fresh_leaf leaves s place leaf y some opened =
    let whole : s.leaf_length - leaves.count leaf ≡ s.leaf_length = omega (arith, opened.empty) in
    ap (λ (room : ℕ). remaining_leaf_digests s (leaves.future leaf) room (place + 1) y) whole
    ∙ ap (λ (f : Bool → List ℕ → List ℕ). remaining_leaf_digests s f s.leaf_length (place + 1) y)
    (λ i last z. opened.digests last z i)
    ∙ remaining_leaf_digests-empty_leaf s place y some

-- A tree that has just been initialized returns the root of what comes.
pub future-of_new_tree_is_root : {R S : Type 0} {roots : Meaning R} {leaves : Meaning S}
    (s : TreeParameters)
    (n : ℕ) {root : R} {leaf : S} → 0 < s.leaf_length
    → Fresh leaves (node_digest 64 s 0 0) 0 leaf → Fresh roots (node_digest n s 0 1) 0 root
    → (y : List ℕ) → future (open_tree roots leaves s 0 root leaf) y ≡ tree_root n s y
unfolding future tree_root
future-of_new_tree_is_root {leaves} s n {leaf} some is_leaf is_root y =
    is_root.future true
    (remaining_leaf_digests s (leaves.future leaf) (s.leaf_length - leaves.count leaf) 1 y)
    ∙ ap (node_digest n s 0 1 true)
    (remaining_leaf_digests-fresh_leaf leaves s 0 leaf y some
    (IsFreshLeaf-of_fresh_node leaves s 0 leaf is_leaf)
    ∙ range_digests-of_whole_message s y)

-- The open leaf absorbs the beginning of what comes, under either value of its flag.
pub future-after_open_leaf_absorbs : {R S : Type 0} (roots : Meaning R) (leaves : Meaning S)
    (s : TreeParameters)
    (closed : ℕ) (root : R) (old new : S) (x y : List ℕ)
    → ((last : Bool) (z : List ℕ) → leaves.future new last z ≡ leaves.future old last (x ++ z))
    → leaves.count new ≡ leaves.count old + length x
    → length x ≤ s.leaf_length - leaves.count old
    → future (open_tree roots leaves s closed root new) y
    ≡ future (open_tree roots leaves s closed root old) (x ++ y)
unfolding future
future-after_open_leaf_absorbs roots leaves s closed root old new x y took counted fits =
    let room : s.leaf_length - leaves.count new ≡ s.leaf_length - leaves.count old - length x =
    omega (arith, counted) in
    ap (roots.future root true)
    (ap (λ (r : ℕ). remaining_leaf_digests s (leaves.future new) r (closed + 1) y) room
    ∙ remaining_leaf_digests-after_prefix s (leaves.future old) (leaves.future new)
    (s.leaf_length - leaves.count old) (closed + 1) x y fits took)

-- An update of the open leaf is one of the tree.
pub HasAbsorbed-by_open_leaf : {R S : Type 0} (roots : Meaning R) {leaves : Meaning S}
    {s : TreeParameters}
    {closed : ℕ} (root : R) {old new : S} {x : List ℕ}
    → Updated leaves old x new → length x ≤ s.leaf_length - leaves.count old
    → HasAbsorbed (open_tree roots leaves s closed root old) x
    (open_tree roots leaves s closed root new)
HasAbsorbed-by_open_leaf roots {leaves} {s} {closed} root {old} {new} {x} updated fits = record {
  shared = refl;
  future = λ y.
      future-after_open_leaf_absorbs roots leaves s closed root old new x y updated.future
      updated.count fits;
  count = omega (arith, updated.count);
}

-- A tree that absorbs the rest of an input has absorbed all of it.
pub HasAbsorbed-prefix_and_rest : {old new : OpenTree} (left : OpenTree) {input rest : List ℕ}
    → left.shared ≡ old.shared
    → ((y : List ℕ) → future left (rest ++ y) ≡ future old (input ++ y))
    → count left + length rest ≡ count old + length input → HasAbsorbed left rest new
    → HasAbsorbed old input new
HasAbsorbed-prefix_and_rest left shared to_come counts took = record {
  shared = took.shared ∙ shared;
  future = λ y. took.future y ∙ to_come y;
  count = took.count ∙ counts;
}

-- A full leaf is closed and the next one is opened, if something comes.
pub future-unchanged_by_closing_leaf : {R S : Type 0} {roots : Meaning R} {leaves : Meaning S}
    (s : TreeParameters)
    (closed : ℕ) {old new : R} (full : S) {opened : S}
    → 0 < s.leaf_length → s.leaf_length - leaves.count full ≡ 0 → leaves.last_node full ≡ false
    → Updated roots old (digest_now leaves full) new
    → Fresh leaves (node_digest 64 s (closed + 1) 0) 0 opened → (y : List ℕ) → 0 < length y
    → future (open_tree roots leaves s (closed + 1) new opened) y
    ≡ future (open_tree roots leaves s closed old full) y
unfolding future
future-unchanged_by_closing_leaf {roots} {leaves} s closed {old} {new} full {opened} some no_room
    inner updated fresh y
    more =
    let next : ℕ = closed + 1 in
    ap (roots.future new true)
    (remaining_leaf_digests-fresh_leaf leaves s next opened y some
    (IsFreshLeaf-of_fresh_node leaves s next opened fresh))
    ∙ updated.future true (range_digests s next true y)
    ∙ ap (λ (last : Bool). roots.future old true
    (leaves.future full last [] ++ range_digests s next true y)) inner
    ∙ ap (roots.future old true)
    (sym (ap (λ (room : ℕ). remaining_leaf_digests s (leaves.future full) room next y) no_room
    ∙ remaining_leaf_digests-full_leaf s (leaves.future full) next y more))

-- The open leaf absorbs the beginning of the input, which fills it, and is closed, if more follows.
pub HasAbsorbedPrefix-closing_leaf : {R S : Type 0} (roots : Meaning R) {leaves : Meaning S}
    {s : TreeParameters}
    {closed : ℕ} (old : R) {leaf full : S} {new : OpenTree} {room : ℕ} {x head rest : List ℕ}
    → 0 < s.leaf_length → leaves.count leaf ≤ s.leaf_length
    → room ≡ s.leaf_length - leaves.count leaf → room < length x
    → head ≡ take room x → rest ≡ drop room x → Updated leaves leaf head full
    → ((y : List ℕ) → 0 < length y
    → future new y ≡ future (open_tree roots leaves s closed old full) y)
    → new.shared ≡ s → new.closed ≡ closed + 1 → new.taken ≡ 0
    → HasAbsorbedPrefix (open_tree roots leaves s closed old leaf) x new rest
HasAbsorbedPrefix-closing_leaf roots {leaves} {s} {closed} old {leaf} {full} {new} {room} {x} {head}
    {rest} some within
    is_room long is_head is_rest took closes same next empty =
    let size : length head ≡ room =
    ap length is_head ∙ length-take-le room x (omega arith) in
    let left : length rest ≡ length x - room = ap length is_rest ∙ length-drop room x in
    let whole : head ++ rest ≡ x = (λ i. is_head i ++ is_rest i) ∙ take-append-drop room x in
    record {
      future = λ y.
          closes (rest ++ y) (omega (arith, length-append rest y))
          ∙ future-after_open_leaf_absorbs roots leaves s closed old leaf full head (rest ++ y)
          took.future took.count
          (omega arith)
          ∙ ap (future (open_tree roots leaves s closed old leaf))
          (sym (append_assoc head rest y) ∙ ap (λ z. z ++ y) whole);
      shared = same;
      count = rw (ap (λ p. p.leaf_length) same, next, empty) (omega arith);
      fewer = omega (arith, empty);
    }

-- The bytes of k leaves are whole leaves.
pub AreWholeLeaves-take : (size k : ℕ) (x : List ℕ) → 0 < size → 1 ≤ k → k * size < length x
    → AreWholeLeaves size (take (k * size) x)
AreWholeLeaves-take size k x some one more =
    let long : length (take (k * size) x) ≡ k * size = length-take-le (k * size) x (omega arith) in
    record {
      some = omega (arith, long, mul-le-mul_left k (let h : 1 ≤ size = omega arith in h));
      whole = ap (λ n. n % size) long ∙ mul-mod_left k size;
    }

-- The first k leaves of the input are closed, the open one, which is empty, among them. More
-- follows, and the next one is opened.
pub HasAbsorbedPrefix-k_leaves : {old new : OpenTree} (k : ℕ) {input : List ℕ}
    → 0 < old.shared.leaf_length
    → 1 ≤ k → k * old.shared.leaf_length < length input → old.taken ≡ 0 → new.taken ≡ 0
    → new.shared ≡ old.shared → count new ≡ count old + k * old.shared.leaf_length
    → ((y : List ℕ) → 0 < length y
    → future new y ≡ future old (take (k * old.shared.leaf_length) input ++ y))
    → HasAbsorbedPrefix old input new (take (length input - k * old.shared.leaf_length)
    (drop (k * old.shared.leaf_length) input))
HasAbsorbedPrefix-k_leaves {old} {new} k {input} some one more empty opened shared counted closed =
    let m : ℕ = k * old.shared.leaf_length in
    let rest : List ℕ = drop m input in
    let size : length rest ≡ length input - m = length-drop m input in
    let left : length (take (length input - m) rest) ≡ length input - m =
    ap length (take_rest input m) ∙ size in
    let bytes : 0 < m =
    omega (arith, mul-le-mul_left k (let h : 1 ≤ old.shared.leaf_length = some in h)) in
    record {
      shared = shared;
      future = λ y.
          ap (λ r. future new (r ++ y)) (take_rest input m)
          ∙ closed (rest ++ y) (omega (arith, length-append rest y, size))
          ∙ ap (future old) (sym (append_assoc (take m input) rest y)
          ∙ ap (λ r. r ++ y) (take-append-drop m input));
      count = omega (arith, counted, left, more);
      fewer = omega (arith, left, empty, opened, bytes, more);
    }

-- The root absorbs the digest of a full leaf.
pub root-absorbs_leaf_digest : {R S : Type 0} {roots : Meaning R} (leaves : Meaning S) {old new : R}
    (full : S)
    → leaves.last_node full ≡ false → Updated roots old (digest_now leaves full) new
    → (z : List ℕ)
    → roots.future new true z ≡ roots.future old true (leaves.future full false [] ++ z)
root-absorbs_leaf_digest {roots} leaves {old} full inner updated z =
    updated.future true z
    ∙ ap (λ (last : Bool). roots.future old true (leaves.future full last [] ++ z)) inner

-- The root absorbs any digests, and the leaf after theirs is opened, if something comes.
pub future-after_any_digests : {R S : Type 0} {roots : Meaning R} {leaves : Meaning S}
    (s : TreeParameters) (next : ℕ) {old new : R} {opened : S} {digests : List ℕ}
    → 0 < s.leaf_length → Updated roots old digests new
    → Fresh leaves (node_digest 64 s next 0) 0 opened → (y : List ℕ)
    → future (open_tree roots leaves s next new opened) y
    ≡ roots.future old true (digests ++ range_digests s next true y)
unfolding future
future-after_any_digests {roots} {leaves} s next {new} {opened} some updated fresh y =
    ap (roots.future new true)
    (remaining_leaf_digests-fresh_leaf leaves s next opened y some
    (IsFreshLeaf-of_fresh_node leaves s next opened fresh))
    ∙ updated.future true (range_digests s next true y)

-- The open leaf, which is empty, and others after it are closed by their digests, and the next one
-- is opened, if something comes.
pub future-after_leaf_digests : {R S : Type 0} {roots : Meaning R} {leaves : Meaning S}
    {s : TreeParameters}
    {closed : ℕ} {old new : R} {leaf opened : S} {digests x : List ℕ} → 0 < s.leaf_length
    → IsFreshLeaf leaves s closed leaf → AreWholeLeaves s.leaf_length x
    → digests ≡ range_digests s closed false x → Updated roots old digests new
    → Fresh leaves (node_digest 64 s (closed + length digests / 64) 0) 0 opened
    → (y : List ℕ) → 0 < length y → future (open_tree roots leaves s (closed + length digests / 64) new opened) y
    ≡ future (open_tree roots leaves s closed old leaf) (x ++ y)
unfolding future
future-after_leaf_digests {roots} {leaves} {s} {closed} {old} {leaf} {digests} {x} some is_leaf
    whole are updated
    fresh y more =
    let many : length digests ≡ length x / s.leaf_length * 64 =
    ap length are ∙ length-range_digests s closed false x
    ∙ ap (λ n. n * 64) (leaf_count-is_quotient s.leaf_length x some whole) in
    let leaves_of_x : length digests / 64 ≡ length x / s.leaf_length = omega (arith, many) in
    future-after_any_digests s (closed + length digests / 64) some updated fresh y
    ∙ ap (roots.future old true)
    ((λ i. are i ++ range_digests s (closed + leaves_of_x i) true y)
    ∙ sym (range_digests-append_whole_leaves s closed true x y some whole more)
    ∙ sym (remaining_leaf_digests-fresh_leaf leaves s closed leaf (x ++ y) some is_leaf))

-- The open leaf is the last, and the root absorbs its digest.
pub digest_now-is_future_of_nothing : {R S : Type 0} {roots : Meaning R} {leaves : Meaning S}
    (s : TreeParameters)
    (closed : ℕ) {root taken last : R} {leaf last_leaf : S}
    → LastNodeFlagSet leaves leaf true last_leaf
    → Updated roots root (digest_now leaves last_leaf) taken
    → LastNodeFlagSet roots taken true last
    → digest_now roots last ≡ future (open_tree roots leaves s closed root leaf) []
unfolding future
digest_now-is_future_of_nothing {roots} {leaves} s closed {root} {last} {leaf} {last_leaf} leaf_set
    updated root_set =
    let digest_is : digest_now leaves last_leaf ≡ leaves.future leaf true [] =
    ap (λ (on : Bool). leaves.future last_leaf on []) leaf_set.last_node
    ∙ leaf_set.future true [] in
    ap (λ (on : Bool). roots.future last on []) root_set.last_node
    ∙ root_set.future true [] ∙ updated.future true []
    ∙ ap (roots.future root true)
    (append-nil (digest_now leaves last_leaf) ∙ digest_is
    ∙ sym (remaining_leaf_digests-without_input s (leaves.future leaf)
    (s.leaf_length - leaves.count leaf)
    (closed + 1)))

-- The open leaf, which is empty, and three more are the last, and the root absorbs their digests.
pub digest_now-is_future_of_four_leaves : {R S : Type 0} {roots : Meaning R} {leaves : Meaning S}
    {s : TreeParameters} {closed : ℕ} {root taken last : R} {leaf : S} (x : List ℕ)
    {bytes : List ℕ} {digests : List (List ℕ)} → 0 < s.leaf_length → length x ≡ 4 * s.leaf_length
    → IsFreshLeaf leaves s closed leaf → digests ≡ digests_of_four_leaves s closed true x
    → bytes ≡ flat_map (λ digest. digest) digests
    → Updated roots root bytes taken → LastNodeFlagSet roots taken true last
    → digest_now roots last ≡ future (open_tree roots leaves s closed root leaf) x
unfolding future
digest_now-is_future_of_four_leaves {roots} {leaves} {s} {closed} {root} {last} {leaf} x {bytes}
    some whole is_leaf are
    joined updated root_set =
    ap (λ (on : Bool). roots.future last on []) root_set.last_node
    ∙ root_set.future true [] ∙ updated.future true []
    ∙ ap (roots.future root true)
    (append-nil bytes ∙ joined ∙ ap concat are
    ∙ sym (range_digests-last_four s closed true x some whole)
    ∙ sym (remaining_leaf_digests-fresh_leaf leaves s closed leaf x some is_leaf))

-- A leaf that was opened and has absorbed nothing is still as it was opened.
pub IsFreshLeaf-after_empty_update : {S : Type 0} {leaves : Meaning S} {s : TreeParameters}
    {place : ℕ}
    {old new : S} {x : List ℕ} → (leaves.count old ≡ 0 → IsFreshLeaf leaves s place old)
    → Updated leaves old x new → leaves.count new ≡ 0 → IsFreshLeaf leaves s place new
IsFreshLeaf-after_empty_update {leaves} {old} {x} opened updated empty =
    let nothing : x ≡ [] = nil_from_length x (omega (arith, updated.count)) in
    let before = opened (omega (arith, updated.count)) in
    record {
      digests = λ last z. updated.future last z
          ∙ ap (λ w. leaves.future old last (w ++ z)) nothing ∙ before.digests last z;
      empty = empty;
    }
