-- The parts of a plan.
use Rattle.std.proofs.Common.{◌≡◌, ℕ, ◌+◌, ◌-◌, ◌*◌, ◌/◌, ◌%◌, ◌^◌, ◌<◌, ◌≤◌, ◌⊎◌, inl, inr, min}
use Rattle.std.proofs.Common.{max}
use Rattle.std.proofs.Common.{arith, ap, refl, sym, ◌∙◌, suc, if◌then◌else◌}
use Rattle.std.specs.Int.{div_ceil}
use Rattle.std.proofs.lemmas.Grind.{div_ceil_times}
use Rattle.std.proofs.lemmas.Bool.{cases_lt, cases_eq, le-leb, lt-leb, ne_eqb}
use Rattle.std.proofs.Math.Nat.{mul-le-mul_right, mul-le-mul_left, mul-mod_left, mod_self}
use Rattle.std.proofs.Math.Nat.{mod-eq_of_lt}
use Rattle.blake2_tree.specs.declared.thread_plan.Plan.{Plan}
use Rattle.blake2_tree.specs.declared.thread_plan.Limits.{Limits}
use Rattle.blake2_tree.specs.declared.thread_plan.Part.{Part}
use Rattle.blake2_tree.specs.TreeRoot.{leaf_count}
use Rattle.blake2_tree.specs.PartPlans.{HasWholeLeafParts, IsConsistentPlan, IsPartAt}
use Rattle.blake2_tree.specs.PartPlans.{IsPartInOrder, start_of_part}
use Rattle.blake2_tree.specs.PartPlans.{count_of_parts}
use Rattle.blake2_tree.specs.PartPlans.{share_in_fours, leaves_per_thread, part_leaves}
use Rattle.blake2_tree.specs.PartPlans.{HasPartsWithinLimits}
use Rattle.blake2_tree.specs.PartPlans.{open_leaf_fill_length, whole_leaves_length, IsPlanOfUpdate}
use Rattle.blake2_tree.specs.PartPlans.{IsPlanOf, HasRestOfUpdate}
use Rattle.blake2_tree.specs.PartPlans.{length_of_digests}
use Rattle.blake2_tree.proofs.MessageLeaves.{leaf_count-at_most_one_leaf}
use Rattle.blake2_tree.proofs.RangeWrites.{leaf_count-with_k_leaves_in_front}
use Rattle.blake2_tree.proofs.RangeWrites.{leaf_count-more_than_k}

-- Part i of n bytes begins within them.
pub part-begins_within_bytes : (part n ends i : ℕ) → 1 ≤ part → ends ≤ 1
    → i < count_of_parts ends part n
    → (i * part < n) ⊎ ((i ≡ 0) × (n ≡ 0))
part-begins_within_bytes part n ends i some flag below =
    let k : ℕ = div_ceil n part in
    let bounds = div_ceil_times n part some in
    let least : n ≤ k * part = bounds.0 in
    let most : k * part < n + part = bounds.1 in
    elim (cases_lt i k) [
      | inl within ↦
          let next : (i + 1) * part ≤ k * part = mul-le-mul_right {m = i + 1} {n = k} part (let h : i + 1 ≤ k = omega arith in h) in
          inl (omega (arith, next, most))
      | inr none ↦
          let zero : i ≡ 0 = omega arith in
          let no_parts : k ≡ 0 = omega arith in
          inr (zero, omega (arith, least, ap (λ m. m * part) no_parts))
    ]

-- If another part follows part i, it begins before the end.
pub next_part-begins_before_end : (part n ends i : ℕ) → 1 ≤ part → ends ≤ 1
    → i + 1 < count_of_parts ends part n
    → i * part + part < n
next_part-begins_before_end part n ends i some flag below =
    let k : ℕ = div_ceil n part in
    let most : k * part < n + part = (div_ceil_times n part some).1 in
    let next : (i + 2) * part ≤ k * part =
    mul-le-mul_right {m = i + 2} {n = k} part (let h : i + 2 ≤ k = omega arith in h) in
    omega (arith, next, most)

-- The last part reaches the end.
pub last_part-reaches_end : (part n ends i : ℕ) → 1 ≤ part → ends ≤ 1
    → i + 1 ≡ count_of_parts ends part n
    → n ≤ i * part + part
last_part-reaches_end part n ends i some flag last =
    let k : ℕ = div_ceil n part in
    let least : n ≤ k * part = (div_ceil_times n part some).0 in
    let all : k * part ≤ (i + 1) * part =
    mul-le-mul_right {m = k} {n = i + 1} part (let h : k ≤ i + 1 = omega arith in h) in
    omega (arith, least, all)

-- The number of whole leaves in their bytes.
leaf_count-of_k_leaves : (size k : ℕ) → 0 < size → leaf_count size (suc k * size) ≡ suc k
leaf_count-of_k_leaves size k some =
    let split : suc k * size ≡ k * size + size = omega arith in
    let one : leaf_count size size ≡ 1 = leaf_count-at_most_one_leaf size size some (omega arith) in
    ap (leaf_count size) split ∙ leaf_count-with_k_leaves_in_front size k size some some
    ∙ omega (arith, one)

pub part-is_in_order : (p : Plan) (i : ℕ) (part : Part) → IsConsistentPlan p → i < p.part_count
    → IsPartAt p i part → IsPartInOrder p i part
part-is_in_order p i part plan below is =
    let is_plan : HasWholeLeafParts p = plan.parts in
    let at : part.start ≡ start_of_part p i = is.start in
    let long : part.length ≡ min p.part_length (p.end - part.start) = is.length in
    let leaf : ℕ = p.leaf_length in
    let per : ℕ = p.part_length / leaf in
    let leaves : leaf * per + p.part_length % leaf ≡ p.part_length = omega (arith, is_plan.some) in
    let bytes : per * leaf ≡ p.part_length = omega (arith, leaves, is_plan.whole) in
    let n : ℕ = p.end - p.start in
    let l : ℕ = p.part_length in
    let within : (i * l < n) ⊎ ((i ≡ 0) × (n ≡ 0)) =
    part-begins_within_bytes l n p.ends i is_plan.part is_plan.flag
    (omega (arith, is_plan.count)) in
    let left : p.end - part.start ≡ n - i * l = omega (arith, is_plan.order) in
    let next : (i + 1) * l ≡ i * l + l = omega arith in
    let all : p.digests_length ≡ 64 * leaf_count leaf n =
    plan.digests_length ∙ ap (λ b. 64 * (if b then 0 else leaf_count leaf n))
    (ne_eqb p.part_count 0 (λ e. absurd (omega (arith, e, below)))) in
    let before_next : i + 1 < p.part_count
    → part.digests_start + part.digests_length ≡ 64 * ((i + 1) * per) =
    λ more.
    let far : i * l + l < n =
    next_part-begins_before_end l n p.ends i is_plan.part is_plan.flag
    (omega (arith, is_plan.count)) in
    let size : part.length ≡ per * leaf = omega (arith, far, left, long, bytes) in
    let some_leaves : per ≡ suc (per - 1) = elim (cases_eq per 0) [
      | inl none ↦ absurd (omega (arith, bytes, is_plan.part, ap (λ m. m * leaf) none))
      | inr h ↦ omega (arith, h)
    ] in
    let count : leaf_count leaf part.length ≡ per =
    ap (leaf_count leaf) (size ∙ ap (λ m. m * leaf) some_leaves)
    ∙ leaf_count-of_k_leaves leaf (per - 1) is_plan.some ∙ sym some_leaves in
    omega (arith, is.digests_start, is.digests_length, is.first, count) in
    let at_end : i + 1 ≡ p.part_count
    → part.digests_start + part.digests_length ≡ 64 * leaf_count leaf n =
    λ last.
    let far : n ≤ i * l + l =
    last_part-reaches_end l n p.ends i is_plan.part is_plan.flag (omega (arith, is_plan.count)) in
    let regroup : i * per * leaf ≡ i * (per * leaf) = omega arith in
    let before : i * per * leaf ≡ i * l = regroup ∙ ap (λ m. i * m) bytes in
    elim within [
      | inl h ↦
          let size : part.length ≡ n - i * l = omega (arith, far, left, long) in
          let split : n ≡ i * per * leaf + part.length = omega (arith, size, before, h) in
          let count : leaf_count leaf n ≡ i * per + leaf_count leaf part.length =
          ap (leaf_count leaf) split ∙ leaf_count-with_k_leaves_in_front leaf (i * per) part.length
          is_plan.some
          (omega (arith, size, h)) in
          omega (arith, is.digests_start, is.digests_length, is.first, count)
      | inr h ↦
          let size : part.length ≡ n = omega (arith, left, long, h.1) in
          let none : i * per ≡ 0 = ap (λ m. m * per) h.0 ∙ omega arith in
          omega (
            arith,
            is.digests_start,
            is.digests_length,
            is.first,
            none,
            ap (leaf_count leaf) size,
          )
    ] in
    record {
      begins = λ zero. at ∙ omega (arith, ap (λ m. m * l) zero);
      follows = λ more.
          let far : i * l + l < n =
          next_part-begins_before_end l n p.ends i is_plan.part is_plan.flag
          (omega (arith, is_plan.count)) in
          omega (arith, far, left, long, at, next);
      stops = λ last.
          let far : n ≤ i * l + l =
          last_part-reaches_end l n p.ends i is_plan.part is_plan.flag
          (omega (arith, is_plan.count)) in
          elim within [
            | inl h ↦ omega (arith, far, left, long, at, is_plan.order, h)
            | inr h ↦ omega (arith, far, left, long, at, is_plan.order, h.1, ap (λ m. m * l) h.0)
          ];
      some = λ some. elim within [
        | inl h ↦ omega (arith, left, long, h, is_plan.part)
        | inr h ↦ absurd (omega (arith, h.1, some))
      ];
      whole = λ more.
          let far : i * l + l < n =
          next_part-begins_before_end l n p.ends i is_plan.part is_plan.flag
          (omega (arith, is_plan.count)) in
          omega (arith, far, left, long);
      short = omega (arith, long);
      digests_follow = before_next;
      digests_stop = λ last. at_end last ∙ sym all;
      digests_within = elim (cases_lt (i + 1) p.part_count) [
        | inl more ↦
            let far : i * l + l < n =
            next_part-begins_before_end l n p.ends i is_plan.part is_plan.flag
            (omega (arith, is_plan.count)) in
            let regroup : (i + 1) * per * leaf ≡ (i + 1) * (per * leaf) = omega arith in
            let same : (i + 1) * per * leaf ≡ (i + 1) * l = regroup ∙ ap (λ m. (i + 1) * m) bytes in
            let room : (i + 1) * per < leaf_count leaf n =
            leaf_count-more_than_k leaf ((i + 1) * per) n is_plan.some
            (omega (arith, same, next, far)) in
            omega (arith, before_next more, room, all)
        | inr none ↦ omega (arith, at_end (omega (arith, none, below)), all)
      ];
    }

-- The digests of the leaves before a part have a length that fits.
pub digests_start-fits_64_bits : (p : Plan) (i : ℕ) → HasWholeLeafParts p → i < p.part_count
    → 64 * (i * (p.part_length / p.leaf_length)) < 2 ^ 64
digests_start-fits_64_bits p i is_plan below =
    let n : ℕ = p.end - p.start in
    let l : ℕ = p.part_length in
    let few : l / p.leaf_length ≤ l = omega (arith, is_plan.some) in
    let less : i * (l / p.leaf_length) ≤ i * l = mul-le-mul_left i few in
    elim (part-begins_within_bytes l n p.ends i is_plan.part is_plan.flag
    (omega (arith, is_plan.count))) [
      | inl h ↦ omega (arith, less, h, is_plan.fits)
      | inr h ↦ omega (arith, less, is_plan.fits, ap (λ m. m * l) h.0)
    ]

-- A few leaves more than those of n bytes have not many more bytes.
pub leaves_bytes-below_2_to_60 : (size n leaves : ℕ) → 1 ≤ size → size < 2 ^ 32 → n < 2 ^ 58
    → leaves ≤ leaf_count size n + 3 → leaves * size < 2 ^ 60
leaves_bytes-below_2_to_60 size n leaves some short fits few =
    let q : ℕ = (n + (size - 1)) / size in
    let all : q * size ≤ n + (size - 1) = omega (arith, some) in
    let more : leaves * size ≤ (q + 4) * size =
    mul-le-mul_right {m = leaves} {n = q + 4} size (let h : leaves ≤ q + 4 = omega (arith, few) in h) in
    omega (arith, all, more, fits, short)

-- What some leaves have is whole leaves.
pub leaves_bytes-multiple_of_leaf : (leaves size : ℕ) → (leaves * size) % size ≡ 0
leaves_bytes-multiple_of_leaf leaves size = mul-mod_left leaves size

pub leaves_bytes-are_positive : (leaves size : ℕ) → 1 ≤ leaves → 1 ≤ size → 1 ≤ leaves * size
leaves_bytes-are_positive leaves size leaves_some some =
    let one : 1 * size ≤ leaves * size = mul-le-mul_right {m = 1} {n = leaves} size leaves_some in
    omega (arith, one, some)

-- ---- fours of leaves

-- The bytes of the fours of leaves that there is room for.
fours_bytes-at_most_part_bytes : (part size : ℕ) → 1 ≤ size
    → max (part / size / 4) 1 * 4 * size ≤ max part (4 * size)
fours_bytes-at_most_part_bytes part size some =
    let q : ℕ = part / size in
    let room : q * size ≤ part = omega (arith, some) in
    elim (cases_lt (q / 4) 1) [
      | inl none ↦
          let one : max (q / 4) 1 ≡ 1 = omega arith in
          let four : max (q / 4) 1 * 4 * size ≡ 4 * size = ap (λ m. m * 4 * size) one in
          omega (arith, four)
      | inr several ↦
          let same : max (q / 4) 1 ≡ q / 4 = omega arith in
          let bytes : max (q / 4) 1 * 4 * size ≡ q / 4 * 4 * size = ap (λ m. m * 4 * size) same in
          let less : q / 4 * 4 * size ≤ q * size =
          mul-le-mul_right {m = q / 4 * 4} {n = q} size (omega arith) in
          omega (arith, bytes, less, room)
    ]

-- Leaves in fours.
share_in_fours-multiple_of_4 : (leaves threads even : ℕ)
    → (q : ℕ) × (share_in_fours leaves threads even ≡ q * 4)
share_in_fours-multiple_of_4 leaves threads even =
    let most : ℕ = div_ceil leaves (div_ceil even 4 * 4) in
    elim (cases_lt most threads) [
      | inl few ↦ (even / 4, rw (lt-leb threads most few) refl)
      | inr enough ↦ (div_ceil even 4, rw (le-leb threads most enough) refl)
    ]

-- A share of four leaves or more is in fours.
leaves_per_thread-multiple_of_4 : (leaves threads : ℕ) → 1 ≤ threads → 4 * threads ≤ leaves
    → (q : ℕ) × (leaves_per_thread leaves threads ≡ q * 4)
leaves_per_thread-multiple_of_4 leaves threads some many =
    let k : ℕ = div_ceil leaves threads in
    let least : leaves ≤ k * threads = (div_ceil_times leaves threads some).0 in
    let four : 3 < k = elim (cases_lt 3 k) [
      | inl h ↦ h
      | inr few ↦
          let less : k * threads ≤ 3 * threads = mul-le-mul_right {m = k} {n = 3} threads few in
          absurd (omega (arith, least, less, many, some))
    ] in
    let fours = share_in_fours-multiple_of_4 leaves threads k in
    (fours.0, rw (lt-leb k 3 four) fours.1)

-- The fours that there is room for.
fours_bytes-at_most_maximum : (most size : ℕ) → 1 ≤ size → most / size / 4 * 4 * size ≤ most
fours_bytes-at_most_maximum most size some =
    let q : ℕ = most / size in
    let room : q * size ≤ most = omega (arith, some) in
    let less : q / 4 * 4 * size ≤ q * size =
    mul-le-mul_right {m = q / 4 * 4} {n = q} size (omega arith) in
    omega (arith, less, room)

-- The leaves that fit are no more than were wanted.
pub fours_bytes-below_2_to_60 : (most size leaves : ℕ) → 1 ≤ size → size < 2 ^ 32
    → most < leaves * size
    → leaves * size < 2 ^ 60 → max (most / size / 4 * 4) 1 * size < 2 ^ 60
fours_bytes-below_2_to_60 most size leaves some short long fits =
    let q : ℕ = most / size / 4 * 4 in
    let room : q * size ≤ most = fours_bytes-at_most_maximum most size some in
    elim (cases_lt q 1) [
      | inl none ↦
          let one : max q 1 ≡ 1 = omega (arith, none) in
          omega (arith, ap (λ m. m * size) one, short)
      | inr several ↦
          let same : max q 1 ≡ q = omega (arith, several) in
          omega (arith, ap (λ m. m * size) same, room, long, fits)
    ]

-- The leaves of a part are those that fit, in all cases.
part_leaves-within_limits : (l : Limits) (threads size n : ℕ) → 1 ≤ size
    → (part_leaves l threads size n * size ≤ max l.part_bytes (4 * size))
    × ((part_leaves l threads size n * size ≤ l.most_bytes) ⊎ (part_leaves l threads size n ≡ 1))
part_leaves-within_limits l threads size n some =
    let fours : ℕ = max (l.part_bytes / size / 4) 1 * 4 in
    let leaves : ℕ = min fours (leaves_per_thread (leaf_count size n) threads) in
    let room : fours * size ≤ max l.part_bytes (4 * size) =
    fours_bytes-at_most_part_bytes l.part_bytes size some in
    let less : leaves * size ≤ fours * size =
    mul-le-mul_right {m = leaves} {n = fours} size (omega arith) in
    elim (cases_lt l.most_bytes (leaves * size)) [
      | inl long ↦
          let q : ℕ = l.most_bytes / size / 4 * 4 in
          let rounded : part_leaves l threads size n ≡ max q 1 =
          rw (lt-leb (leaves * size) l.most_bytes long) refl in
          elim (cases_lt q 1) [
            | inl none ↦
                let one : part_leaves l threads size n ≡ 1 = omega (arith, rounded, none) in
                (omega (arith, ap (λ m. m * size) one), inr one)
            | inr several ↦
                let some_fours : part_leaves l threads size n ≡ q = omega (arith, rounded, several) in
                let fit : q * size ≤ l.most_bytes =
                fours_bytes-at_most_maximum l.most_bytes size some in (
                  omega (arith, ap (λ m. m * size) some_fours, fit, long, room, less),
                  inl (omega (arith, ap (λ m. m * size) some_fours, fit)),
                )
          ]
      | inr short ↦
          let all : part_leaves l threads size n ≡ leaves = rw (le-leb (leaves * size) l.most_bytes short) refl in (
            omega (arith, ap (λ m. m * size) all, room, less),
            inl (omega (arith, ap (λ m. m * size) all, short)),
          )
    ]

-- If each thread has four leaves or more, and there is room for four, a part is fours of leaves.
part_leaves-multiple_of_4 : (l : Limits) (threads size n : ℕ) → 1 ≤ size → 1 ≤ threads
    → 4 * threads ≤ leaf_count size n → 4 * size ≤ l.most_bytes
    → part_leaves l threads size n % 4 ≡ 0
part_leaves-multiple_of_4 l threads size n some are many fit =
    let fours : ℕ = max (l.part_bytes / size / 4) 1 * 4 in
    let each : ℕ = leaves_per_thread (leaf_count size n) threads in
    let leaves : ℕ = min fours each in
    elim (cases_lt l.most_bytes (leaves * size)) [
      | inl long ↦
          let q : ℕ = l.most_bytes / size in
          let rounded : part_leaves l threads size n ≡ max (q / 4 * 4) 1 =
          rw (lt-leb (leaves * size) l.most_bytes long) refl in
          let room : l.most_bytes < (q + 1) * size = omega (arith, some) in
          let four : 4 ≤ q = elim (cases_lt q 4) [
            | inl few ↦
                let less : (q + 1) * size ≤ 4 * size =
                mul-le-mul_right {m = q + 1} {n = 4} size (omega (arith, few)) in
                absurd (omega (arith, less, room, fit))
            | inr h ↦ h
          ] in
          omega (arith, rounded, four)
      | inr short ↦
          let all : part_leaves l threads size n ≡ leaves =
          rw (le-leb (leaves * size) l.most_bytes short) refl in
          let rounded = leaves_per_thread-multiple_of_4 (leaf_count size n) threads are many in
          omega (arith, all, rounded.1)
    ]

pub plan-has_parts_within_limits : (l : Limits) (threads size n : ℕ) (p : Plan) → 1 ≤ size
    → 1 ≤ threads
    → p.part_length ≡ part_leaves l threads size n * size → HasPartsWithinLimits l threads size n p
plan-has_parts_within_limits l threads size n p some are is =
    let cases = part_leaves-within_limits l threads size n some in
    record {
      fours = λ many fit.
          let leaves : ℕ = part_leaves l threads size n in
          let four : leaves ≡ leaves / 4 * 4 =
          omega (arith, part_leaves-multiple_of_4 l threads size n some are many fit) in
          let whole : p.part_length ≡ leaves / 4 * (4 * size) =
          is ∙ ap (λ m. m * size) four ∙ omega arith in
          ap (λ m. m % (4 * size)) whole ∙ mul-mod_left (leaves / 4) (4 * size);
      most = elim cases.1 [
        | inl h ↦ inl (omega (arith, is, h))
        | inr h ↦ inr (is ∙ ap (λ m. m * size) h ∙ omega arith)
      ];
      about = omega (arith, is, cases.0);
    }

-- ---- an update

-- The open leaf is full after its room, if it has any.
open_leaf-full_after_room : (size counted : ℕ) → 1 ≤ size
    → (counted + (size - counted % size) % size) % size ≡ 0
open_leaf-full_after_room size counted some = elim (cases_eq (counted % size) 0) [
  | inl whole ↦
      let room : size - counted % size ≡ size = omega (arith, whole) in
      let none : (size - counted % size) % size ≡ 0 = ap (λ m. m % size) room ∙ mod_self size in
      let same : counted + 0 ≡ counted = omega arith in
      ap (λ h. (counted + h) % size) none ∙ ap (λ m. m % size) same ∙ whole
  | inr open_leaf ↦
      let rest : counted % size < size = omega (arith, some) in
      let fills : (size - counted % size) % size ≡ size - counted % size =
      mod-eq_of_lt (let h : size - counted % size < size = omega (arith, open_leaf, some) in h) in
      let parts : size * (counted / size) + counted % size ≡ counted = omega (arith, some) in
      let full : counted + (size - counted % size) ≡ (counted / size + 1) * size =
      omega (arith, parts, rest) in
      ap (λ h. (counted + h) % size) fills ∙ ap (λ m. m % size) full
      ∙ mul-mod_left (counted / size + 1) size
]

pub lengths-are_plan_of_update : (size counted n : ℕ) (p : Plan) → 1 ≤ size
    → p.start ≡ open_leaf_fill_length size counted n
    → p.end ≡ p.start + whole_leaves_length size counted n
    → p.rest_length ≡ n - open_leaf_fill_length size counted n - whole_leaves_length size counted n
    → IsPlanOfUpdate size counted n p
lengths-are_plan_of_update size counted n p some at stop rest =
    let room : ℕ = (size - counted % size) % size in
    let head : ℕ = open_leaf_fill_length size counted n in
    let x : ℕ = n - head - 1 in
    let short : room < size = omega (arith, some) in
    let below : x % size < size = omega (arith, some) in
    let parts : size * (x / size) + x % size ≡ x = omega (arith, some) in
    let leaves : whole_leaves_length size counted n + x % size ≡ x = omega (arith, parts) in
    record {
      all = omega (arith, at, stop, leaves, rest);
      head = omega (arith, at, short);
      boundary = λ more.
          let full : head ≡ room = omega (arith, at, stop, more, leaves) in
          ap (λ h. (counted + h) % size) (at ∙ full) ∙ open_leaf-full_after_room size counted some;
      whole =
          let same : p.end - p.start ≡ whole_leaves_length size counted n = omega (arith, stop) in
          ap (λ m. m % size) same ∙ mul-mod_left (x / size) size;
      followed = λ more. omega (arith, at, stop, leaves, more, rest);
      rest = omega (arith, at, stop, leaves, below, rest);
    }

-- ---- all numbers of a plan

-- The numbers of a plan agree, if what follows the leaves does.
pub plan-is_consistent : (l : Limits) (asked size at n last : ℕ) (p : Plan) → 1 ≤ asked
    → HasWholeLeafParts p
    → IsPlanOf l asked size at n last p → (p.ends ≡ 1 → p.rest_length ≡ 0)
    → (p.ends ≡ 0 → HasRestOfUpdate p) → IsConsistentPlan p
plan-is_consistent l asked size at n last p some parts is message update =
    let bytes : p.end - p.start ≡ n = omega (arith, is.start, is.end) in
    record {
      parts = parts;
      digests_length = is.digests_length
          ∙ ap (λ s. length_of_digests p.part_count s n) (sym is.leaf_length)
          ∙ ap (length_of_digests p.part_count p.leaf_length) (sym bytes);
      threads = omega (arith, is.threads);
      thread = λ several. omega (arith, is.threads, some, several);
      message = message;
      update = update;
    }

pub plan_of_update-has_rest : (size counted n : ℕ) (p : Plan) → IsPlanOfUpdate size counted n p
    → p.leaf_length ≡ size → n < 2 ^ 58 → HasRestOfUpdate p
plan_of_update-has_rest size counted n p of_n is short =
    record {
      head = omega (arith, of_n.head, is);
      whole = ap (λ m. (p.end - p.start) % m) is ∙ of_n.whole;
      followed = of_n.followed;
      rest = omega (arith, of_n.rest, is);
      fits = omega (arith, of_n.all, short);
    }
