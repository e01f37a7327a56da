-- How the leaves of a message, or of the input of an update, are cut into parts that threads hash.
use Rattle.std.specs.Prelude.{◌≡◌, ℕ, ◌+◌, ◌-◌, ◌*◌, ◌/◌, ◌%◌, ◌^◌, ◌<◌, ◌≤◌, ◌⊎◌, nat_eq, nat_le}
use Rattle.std.specs.Prelude.{if◌then◌else◌, min, max, false, ◌&&◌, List, length}
use Rattle.std.specs.List.{flat_map, range_with_len}
use Rattle.std.specs.Int.{div_ceil}
use Rattle.blake2_tree.specs.declared.thread_plan.Limits.{Limits}
use Rattle.blake2_tree.specs.declared.thread_plan.Plan.{Plan}
use Rattle.blake2_tree.specs.declared.thread_plan.Part.{Part}
use Rattle.blake2_simd.specs.Family.{blake2b}
use Rattle.blake2_compress.specs.Hash.{digest}
use Rattle.blake2_compress.specs.MessagePieces.{piece}
use Rattle.blake2_tree.specs.TreeRoot.{TreeParameters, leaf_count, leaf_digests}
use Rattle.blake2_tree.specs.TreeRoot.{root_input_over_digests}
use Rattle.blake2_tree.specs.TreeRoot.{tree_root}
use Rattle.blake2_tree.specs.LeafRanges.{range_digests}

-- ---- the numbers of a plan

-- There is a thread, and it hashes at least one byte.
pub record AreValidLimits (l : Limits) : Type 0 where
  pub threads : 1 ≤ l.threads
  pub least : 1 ≤ l.least_bytes

-- The number of threads for n bytes: one for each `least_bytes`, at least one, and at most those
-- of the limits.
abbrev pub threads_for : Limits → ℕ → ℕ
threads_for l n = min l.threads (max (n / l.least_bytes) 1)

-- The share of each thread in fours of leaves: rounded up, or down if a thread would have none.
abbrev pub share_in_fours : ℕ → ℕ → ℕ → ℕ
share_in_fours leaves threads even =
    if nat_le threads (div_ceil leaves (div_ceil even 4 * 4)) then div_ceil even 4 * 4
    else even / 4 * 4

-- The share of each thread, rounded up, and in fours if it is four leaves or more.
abbrev pub leaves_per_thread : ℕ → ℕ → ℕ
leaves_per_thread leaves threads =
    if nat_le (div_ceil leaves threads) 3 then div_ceil leaves threads
    else share_in_fours leaves threads (div_ceil leaves threads)

-- This number of leaves if they have at most `most` bytes, and otherwise the fours of leaves that
-- `most` has room for, or one leaf if there is no room for four.
abbrev pub leaves_that_fit : ℕ → ℕ → ℕ → ℕ
leaves_that_fit most size leaves =
    if nat_le (leaves * size) most then leaves else max (most / size / 4 * 4) 1

-- The number of leaves of a part of n bytes that are for this number of threads: the fours that
-- `part_bytes` have room for, at least one, but at most a thread's share, and those that fit into
-- `most_bytes`.
abbrev pub part_leaves : Limits → ℕ → ℕ → ℕ → ℕ
part_leaves l threads size n =
    leaves_that_fit l.most_bytes size
    (min (max (l.part_bytes / size / 4) 1 * 4) (leaves_per_thread (leaf_count size n) threads))

-- A part of a plan of n bytes is a multiple of four leaves, since four are hashed in parallel. It
-- has fewer only if a thread would have fewer than four, or if four have more bytes than
-- `most_bytes`. It has at most about `part_bytes`, and more than `most_bytes` only if a leaf has.
pub record HasPartsWithinLimits (l : Limits) (threads size n : ℕ) (p : Plan) : Type 0 where
  pub fours : 4 * threads ≤ leaf_count size n → 4 * size ≤ l.most_bytes
      → p.part_length % (4 * size) ≡ 0
  pub most : (p.part_length ≤ l.most_bytes) ⊎ (p.part_length ≡ size)
  pub about : p.part_length ≤ max l.part_bytes (4 * size)

-- The number of parts of n bytes in parts of `part` bytes. A message has at least one, even if it
-- is empty.
abbrev pub count_of_parts : ℕ → ℕ → ℕ → ℕ
count_of_parts ends part n = max (div_ceil n part) ends

-- The bytes of the digests of n bytes of leaves in this number of parts: 64 for each leaf, and none
-- if there are no parts.
abbrev pub length_of_digests : ℕ → ℕ → ℕ → ℕ
length_of_digests parts size n = 64 * (if nat_eq parts 0 then 0 else leaf_count size n)

-- The plan of n bytes of leaves from offset `at` on, for this number of threads. If `last` is 1
-- they are a message, and if it is 0 they are whole leaves that more follows.
pub record IsPlanOf (l : Limits) (asked size at n last : ℕ) (p : Plan) : Type 0 where
  pub start : p.start ≡ at
  pub end : p.end ≡ at + n
  pub leaf_length : p.leaf_length ≡ size
  pub part_length : p.part_length ≡ part_leaves l asked size n * size
  pub part_count : p.part_count ≡ count_of_parts last p.part_length n
  pub threads : p.threads ≡ min asked p.part_count
  pub digests_length : p.digests_length ≡ length_of_digests p.part_count size n
  pub ends : p.ends ≡ last

-- ---- the parts of a plan

-- The parts are of whole leaves, and reach from the start to the end.
pub record HasWholeLeafParts (p : Plan) : Type 0 where
  pub some : 1 ≤ p.leaf_length
  pub most : p.leaf_length < 2 ^ 32
  pub part : 1 ≤ p.part_length
  pub whole : p.part_length % p.leaf_length ≡ 0
  pub order : p.start ≤ p.end
  pub fits : p.end - p.start < 2 ^ 58
  pub flag : p.ends ≤ 1
  pub count : p.part_count ≡ count_of_parts p.ends p.part_length (p.end - p.start)

-- The leaves are those of an update: whole leaves after a head that is shorter than one. At least
-- one byte follows them if there are any, and at most a leaf.
pub record HasRestOfUpdate (p : Plan) : Type 0 where
  pub head : p.start < p.leaf_length
  pub whole : (p.end - p.start) % p.leaf_length ≡ 0
  pub followed : p.start < p.end → 0 < p.rest_length
  pub rest : p.rest_length ≤ p.leaf_length
  pub fits : p.end + p.rest_length < 2 ^ 58

-- The numbers are those of a plan: they agree with each other as those of each plan do. Each part
-- has a thread, and nothing follows a message.
pub record IsConsistentPlan (p : Plan) : Type 0 where
  pub parts : HasWholeLeafParts p
  pub digests_length : p.digests_length
      ≡ length_of_digests p.part_count p.leaf_length (p.end - p.start)
  pub threads : p.threads ≤ p.part_count
  pub thread : 1 ≤ p.part_count → 1 ≤ p.threads
  pub message : p.ends ≡ 1 → p.rest_length ≡ 0
  pub update : p.ends ≡ 0 → HasRestOfUpdate p

-- Where part i begins.
abbrev pub start_of_part : Plan → ℕ → ℕ
start_of_part p i = p.start + i * p.part_length

-- Part i of a plan is this range.
pub record IsPartAt (p : Plan) (i : ℕ) (part : Part) : Type 0 where
  pub start : part.start ≡ start_of_part p i
  pub first : part.first ≡ i * (p.part_length / p.leaf_length)
  pub leaf : part.start ≡ p.start + part.first * p.leaf_length
  pub length : part.length ≡ min p.part_length (p.end - part.start)
  pub digests_start : part.digests_start ≡ 64 * part.first
  pub digests_length : part.digests_length ≡ 64 * leaf_count p.leaf_length part.length
  pub ends : part.ends ≡ (if nat_eq (i + 1) p.part_count then p.ends else 0)

-- The parts are in order, without gap or overlap, from the plan's start to its end: each begins
-- where the one before it ends. None is empty unless the plan is, and all but the last have the
-- same length. Their digests are in order too, without gap or overlap, and are those of all leaves.
pub record IsPartInOrder (p : Plan) (i : ℕ) (part : Part) : Type 0 where
  pub begins : i ≡ 0 → part.start ≡ p.start
  pub follows : i + 1 < p.part_count → part.start + part.length ≡ start_of_part p (i + 1)
  pub stops : i + 1 ≡ p.part_count → part.start + part.length ≡ p.end
  pub some : p.start < p.end → 0 < part.length
  pub whole : i + 1 < p.part_count → part.length ≡ p.part_length
  pub short : part.length ≤ p.part_length
  pub digests_follow : i + 1 < p.part_count → part.digests_start + part.digests_length
      ≡ 64 * ((i + 1) * (p.part_length / p.leaf_length))
  pub digests_stop : i + 1 ≡ p.part_count
      → part.digests_start + part.digests_length ≡ p.digests_length
  pub digests_within : part.digests_start + part.digests_length ≤ p.digests_length

-- ---- the input of an update

-- How many of n bytes fill the open leaf of a tree that has absorbed `counted` bytes.
abbrev pub open_leaf_fill_length : ℕ → ℕ → ℕ → ℕ
open_leaf_fill_length size counted n = min ((size - counted % size) % size) n

-- The bytes of the whole leaves after the head. At least one byte is left after them, and at most
-- a leaf, since the message may end with it.
abbrev pub whole_leaves_length : ℕ → ℕ → ℕ → ℕ
whole_leaves_length size counted n = (n - open_leaf_fill_length size counted n - 1) / size * size

-- The plan is of the whole leaves among n bytes that a tree absorbs, which has absorbed `counted`
-- bytes: they begin where the open leaf is full, and more follows them, at most a leaf.
pub record IsPlanOfUpdate (size counted n : ℕ) (p : Plan) : Type 0 where
  pub all : p.end + p.rest_length ≡ n
  pub head : p.start < size
  pub boundary : p.start < p.end → (counted + p.start) % size ≡ 0
  pub whole : (p.end - p.start) % size ≡ 0
  pub followed : p.start < p.end → 0 < p.rest_length
  pub rest : p.rest_length ≤ size

-- ---- the digests of the parts

-- The digests of the parts of these leaves, joined in order. The first leaf has the index `next`.
abbrev pub joined_part_digests : TreeParameters → ℕ → Plan → List ℕ → List ℕ
joined_part_digests s next p leaves =
    flat_map (λ i. range_digests s (next + i * (p.part_length / p.leaf_length))
    (nat_eq p.ends 1 && nat_eq (i + 1) p.part_count) (piece p.part_length leaves i))
    (range_with_len 0 p.part_count)

-- The digests of the parts of a message are those of its leaves, and so the root over them is the
-- message's.
pub record HasMessageDigests (p : Plan) : Type 0 where
  pub digests : (s : TreeParameters) (message : List ℕ) → s.leaf_length ≡ p.leaf_length
      → length message ≡ p.end - p.start → joined_part_digests s 0 p message
      ≡ leaf_digests s message
  pub root : (size : ℕ) (s : TreeParameters) (message : List ℕ) → s.leaf_length ≡ p.leaf_length
      → length message ≡ p.end - p.start
      → digest blake2b size (root_input_over_digests s (joined_part_digests s 0 p message))
      ≡ tree_root size s message

-- The digests of the parts of whole leaves that more follows are those of the leaves.
abbrev pub HasLeafDigests : Plan → Type 0
HasLeafDigests p = (s : TreeParameters) (next : ℕ) (leaves : List ℕ)
    → s.leaf_length ≡ p.leaf_length → length leaves ≡ p.end - p.start → 0 < length leaves
    → joined_part_digests s next p leaves ≡ range_digests s next false leaves
