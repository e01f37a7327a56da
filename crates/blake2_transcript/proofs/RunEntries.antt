-- Entries joined, and a run of entries from its last entry and those before. The entries of the
-- code are seen as those of the definitions.
use Rattle.std.proofs.Common.{◌≡◌, ℕ, zero, suc, ◌+◌, ◌-◌, ◌*◌, ◌<◌, ◌≤◌, ◌↔◌, inl, inr, List, []}
use Rattle.std.proofs.Common.{◌∷◌, ◌++◌, length, map, take, drop, refl, sym, ap, subst, ◌∙◌, arith}
use Rattle.std.proofs.Common.{get_or, append-nil, append_assoc, length-append, length-drop}
use Rattle.std.proofs.Common.{EachIndex, Some}
use Rattle.std.proofs.lemmas.List.{get_or_append_left, get_or-append_right, get_or-append-add}
use Rattle.std.proofs.lemmas.List.{get_or_past, get_or_at, get_or-drop, get_or-map, length-take}
use Rattle.std.proofs.lemmas.List.{length-map, map-append, take_more, drop_at, drop-take}
use Rattle.std.proofs.lemmas.List.{take-append-le, take_all, take-take}
use Rattle.std.proofs.lemmas.Bool.{cases_lt}
use Rattle.std.proofs.Math.Seq.{take-append-add}
use Rattle.blake2_simd.specs.Family.{Family, block_bytes}
use Rattle.blake2_compress.specs.Hash.{AreBytes, block_count}
use Rattle.blake2_transcript.specs.declared.steps.Entry as GivenEntry
use Rattle.blake2_transcript.specs.StepViews.{entry_of}
use Rattle.blake2_transcript.specs.Transcript.{Entry, joined_blocks, no_entry}
use Rattle.blake2_transcript.specs.Reader.{described_count, last_entry, described_key}
use Rattle.blake2_transcript.specs.Reader.{described_message, AreInnerEntries}
use Rattle.blake2_transcript.specs.Reader.{IsInnerEntry, AreWholeBlocks, IsRun, HasKey, EndsRun}
use Rattle.blake2_transcript.specs.Reader.{IsZeroFrom}
use Rattle.blake2_simd.proofs.Texts.{AreBytes-append}
use Rattle.blake2_compress.proofs.InputBlocks.{block_offset-within_data}

-- ---- the bytes of blocks joined

-- One more entry.
joined_blocks-snoc : (xs : List Entry) (e : Entry)
    → joined_blocks (xs ++ e ∷ []) ≡ joined_blocks xs ++ e.block
joined_blocks-snoc [] e = append-nil e.block
joined_blocks-snoc (x ∷ xs) e =
    ap (λ (l : List ℕ). x.block ++ l) (joined_blocks-snoc xs e)
    ∙ sym (append_assoc x.block (joined_blocks xs) e.block)

-- The number of bytes in blocks of bb bytes.
pub length-joined_blocks : (f : Family) (es : List Entry) → AreWholeBlocks f es
    → length (joined_blocks es) ≡ length es * block_bytes f
length-joined_blocks f [] whole = omega arith
length-joined_blocks f (e ∷ es) whole =
    let here : length e.block ≡ block_bytes f = (whole 0 (omega arith)).length_is in
    let rest : length (joined_blocks es) ≡ length es * block_bytes f =
    length-joined_blocks f es (λ i h. whole (suc i) (omega arith)) in
    let more : suc (length es) * block_bytes f ≡ block_bytes f + length es * block_bytes f =
    omega arith in
    length-append e.block (joined_blocks es) ∙ omega arith

-- Blocks of bytes, joined, are bytes.
pub joined_blocks-are_bytes : (f : Family) (es : List Entry) → AreWholeBlocks f es
    → AreBytes (joined_blocks es)
joined_blocks-are_bytes f [] whole = λ i. omega arith
joined_blocks-are_bytes f (e ∷ es) whole =
    AreBytes-append e.block (joined_blocks es) (whole 0 (omega arith)).bytes
    (joined_blocks-are_bytes f es (λ i h. whole (suc i) (omega arith)))

-- ---- the entries of the code

-- The entry at index i.
pub entry_of-at : {B : ℕ} (es : List (GivenEntry.Entry B)) (i : ℕ) (e : GivenEntry.Entry B)
    → i < length es → e ≡ get_or es i e
    → get_or (map entry_of es) i no_entry ≡ entry_of e
entry_of-at es i e h at = get_or-map entry_of es i e no_entry h ∙ ap entry_of (sym at)

-- One more entry.
entries_of-snoc : {B : ℕ} (es xs : List (GivenEntry.Entry B)) (e : GivenEntry.Entry B)
    → es ≡ xs ++ e ∷ []
    → map entry_of es ≡ map entry_of xs ++ entry_of e ∷ []
entries_of-snoc es xs e split = ap (map entry_of) split ∙ map-append entry_of xs (e ∷ [])

-- The bytes of the first blocks, if one more is known.
pub joined_blocks-take_next : {B : ℕ} (es : List (GivenEntry.Entry B)) (i : ℕ)
    (e : GivenEntry.Entry B)
    → i < length es → e ≡ get_or es i e
    → joined_blocks (map entry_of (take (i + 1) es))
    ≡ joined_blocks (map entry_of (take i es)) ++ e.block
joined_blocks-take_next es i e h at =
    let more : take (i + 1) es ≡ take i es ++ e ∷ [] =
    take_more es i e h ∙ ap (λ (x : GivenEntry.Entry _). take i es ++ x ∷ []) (sym at) in
    ap joined_blocks (entries_of-snoc (take (i + 1) es) (take i es) e more)
    ∙ joined_blocks-snoc (map entry_of (take i es)) (entry_of e)

-- The bytes of all blocks, if the first is known.
pub joined_blocks-first_and_rest : {B : ℕ} (es : List (GivenEntry.Entry B)) (e : GivenEntry.Entry B)
    → 0 < length es → e ≡ get_or es 0 e
    → joined_blocks (map entry_of es) ≡ e.block ++ joined_blocks (map entry_of (drop 1 es))
joined_blocks-first_and_rest [] e some at = absurd (omega arith)
joined_blocks-first_and_rest (x ∷ es) e some at =
    ap (λ (y : GivenEntry.Entry _). y.block ++ joined_blocks (map entry_of es)) (sym at)

-- The number of counted bytes is the counter of the last entry.
pub described_count-is_last_counter : {B : ℕ} (es : List (GivenEntry.Entry B))
    (e : GivenEntry.Entry B) → 0 < length es
    → e ≡ get_or es (length es - 1) e
    → described_count (map entry_of es) ≡ e.counter
described_count-is_last_counter es e some at =
    ap (λ (n : ℕ). (get_or (map entry_of es) (n - 1) no_entry).counter) (length-map es entry_of)
    ∙ ap (λ (x : Entry). x.counter) (entry_of-at es (length es - 1) e (omega arith) at)

-- A run has entries.
pub IsRun-nonempty : {B : ℕ} (f : Family) (es : List (GivenEntry.Entry B))
    → IsRun f (map entry_of es)
    → 0 < length es
IsRun-nonempty f es run = omega (arith, run.number, length-map es entry_of)

-- The first block has bb bytes.
pub first_block-is_whole : {B : ℕ} (f : Family) (es : List (GivenEntry.Entry B))
    (e : GivenEntry.Entry B)
    → AreWholeBlocks f (map entry_of es) → 0 < length es
    → e ≡ get_or es 0 e → length e.block ≡ block_bytes f
first_block-is_whole f es e whole some at =
    sym (ap (λ (x : Entry). length x.block) (entry_of-at es 0 e some at))
    ∙ (whole 0 (omega (arith, length-map es entry_of))).length_is

-- ---- a run from its last entry and those before

-- Both lists are zero from index c on if the second is.
IsZeroFrom-append : (xs ys : List ℕ) (c : ℕ) → length xs ≤ c
    → IsZeroFrom (c - length xs) ys ↔ IsZeroFrom c (xs ++ ys)
IsZeroFrom-append xs ys c low = (
  λ zeros i past. get_or-append_right xs ys (length xs) i 0 refl (omega arith)
      ∙ zeros (i - length xs) (omega arith),
  λ zeros j past. sym (get_or-append-add xs ys j 0) ∙ zeros (length xs + j) (omega arith),
)

-- The last entry of such a list is that entry.
last_entry-snoc : (xs : List Entry) (e : Entry) → last_entry (xs ++ e ∷ []) ≡ e
last_entry-snoc xs e = get_or_at xs e [] no_entry (length (xs ++ e ∷ []) - 1)
    (omega (arith, length-append xs (e ∷ [])))

-- Others follow those before the last entry.
pub AreInnerEntries-before_last : {B : ℕ} (f : Family) (es xs : List (GivenEntry.Entry B))
    (e : GivenEntry.Entry B)
    → es ≡ xs ++ e ∷ [] → IsRun f (map entry_of es) → AreInnerEntries f (map entry_of xs)
AreInnerEntries-before_last f es xs e split run i h =
    let ys : List Entry = map entry_of xs in
    let of_code = entries_of-snoc es xs e split in
    subst (IsInnerEntry f i) (ap (λ (l : List Entry). get_or l i no_entry) of_code
    ∙ get_or_append_left ys (entry_of e ∷ []) no_entry i h)
    (run.below i (omega (arith, ap length of_code, length-append ys (entry_of e ∷ []))))

-- A run's counted bytes end in the last block, which is zero after them.
pub IsRun-by_last_entry : {B : ℕ} (f : Family) (b : ℕ) (es xs : List (GivenEntry.Entry B))
    (e : GivenEntry.Entry B) → block_bytes f ≡ b → es ≡ xs ++ e ∷ []
    → AreWholeBlocks f (map entry_of xs) → EndsRun f (length xs) (entry_of e)
    → AreInnerEntries f (map entry_of xs)
    → IsZeroFrom (e.counter - length xs * b) e.block ↔ IsRun f (map entry_of es)
IsRun-by_last_entry f b es xs e family split whole end inners =
    let ys : List Entry = map entry_of xs in
    let y : Entry = entry_of e in
    let of_code : map entry_of es ≡ ys ++ y ∷ [] = entries_of-snoc es xs e split in
    let count : length ys ≡ length xs = length-map xs entry_of in
    let total = length-append ys (y ∷ []) in
    let bytes : length (joined_blocks ys) ≡ length xs * b =
    length-joined_blocks f ys whole ∙ (λ i. count i * family i) in
    let at : last_entry (ys ++ y ∷ []) ≡ y = last_entry-snoc ys y in
    let counts : described_count (ys ++ y ∷ []) ≡ e.counter = ap (λ (x : Entry). x.counter) at in
    let low : length xs * block_bytes f ≤ e.counter =
    block_offset-within_data f e.counter (length xs) (omega (arith, end.number)) in
    let order : length xs * block_bytes f ≡ length xs * b =
    ap (λ (n : ℕ). length xs * n) family in
    let rest : e.counter - length (joined_blocks ys) ≡ e.counter - length xs * b =
    ap (λ (n : ℕ). e.counter - n) bytes in
    let zeros : IsZeroFrom (e.counter - length xs * b) e.block
    ↔ IsZeroFrom e.counter (joined_blocks ys ++ e.block) =
    subst (λ (n : ℕ). IsZeroFrom n e.block ↔ IsZeroFrom e.counter (joined_blocks ys ++ e.block))
    rest
    (IsZeroFrom-append (joined_blocks ys) e.block e.counter (omega arith)) in
    rw of_code (
      λ z. record {
        number = total ∙ ap (λ (n : ℕ). n + 1) count ∙ end.number ∙ ap (block_count f) (sym counts);
        below = λ i h. subst (IsInnerEntry f i)
            (sym (get_or_append_left ys (y ∷ []) no_entry i (omega arith)))
            (inners i (omega arith));
        last = ap (λ (x : Entry). x.flags.last) at ∙ end.last;
        zeros = λ i past. ap (λ (l : List ℕ). get_or l i 0) (joined_blocks-snoc ys y)
            ∙ zeros.0 z i (omega arith);
      },
      λ run. zeros.1 (λ i past. ap (λ (l : List ℕ). get_or l i 0) (sym (joined_blocks-snoc ys y))
          ∙ run.zeros i (omega arith)),
    )

-- ---- zeros at the end of a block

-- A list is zero from index n on exactly if the rest of it is zero.
pub IsZeroFrom-iff_rest_zero : (xs : List ℕ) (n : ℕ) → n ≤ length xs
    → EachIndex (drop n xs) (λ i. get_or (drop n xs) i 0 ≡ 0) ↔ IsZeroFrom n xs
IsZeroFrom-iff_rest_zero xs n fits = (
  λ each i past. elim (cases_lt i (length xs)) [
    | inr out ↦ get_or_past xs i 0 out
    | inl within ↦
        (let at : n + (i - n) ≡ i = omega arith in
        ap (λ (k : ℕ). get_or xs k 0) (sym at) ∙ sym (get_or-drop n xs (i - n) 0)
        ∙ each (i - n) (omega (arith, length-drop n xs)))
  ],
  λ zeros i h. get_or-drop n xs i 0 ∙ zeros (n + i) (omega arith),
)

-- ---- the block of a key at the beginning

-- The first block is that of a key exactly if it is zero after the key.
pub HasKey-iff_zero_after_key : (f : Family) (n : ℕ) (es : List Entry) (block rest : List ℕ)
    → joined_blocks es ≡ block ++ rest → length block ≡ block_bytes f
    → block_bytes f ≤ described_count es
    → IsZeroFrom n block ↔ HasKey f n es
HasKey-iff_zero_after_key f n es block rest split whole counted =
    let first : (i : ℕ) → i < block_bytes f → get_or (joined_blocks es) i 0 ≡ get_or block i 0 =
    λ i below. ap (λ (l : List ℕ). get_or l i 0) split
    ∙ get_or_append_left block rest 0 i (omega arith) in (
      λ zeros. record { counted = counted; zeros = λ i past below. first i below ∙ zeros i past },
      λ key i past. elim (cases_lt i (block_bytes f)) [
        | inl below ↦ sym (first i below) ∙ key.zeros i past below
        | inr out ↦ get_or_past block i 0 (omega arith)
      ],
    )

-- ---- the beginning of lists

-- The beginning of a list, if one more part is known.
pub take-append_remaining : (n : ℕ) (xs ys : List ℕ) → take n (xs ++ ys)
    ≡ take n xs ++ take (n - length (take n xs)) ys
take-append_remaining n xs ys = elim (cases_lt n (length xs)) [
  | inl less ↦
      (let none : n - length (take n xs) ≡ 0 = omega (arith, length-take n xs) in
      take-append-le n xs ys (omega arith) ∙ sym (append-nil (take n xs))
      ∙ ap (λ (k : ℕ). take n xs ++ take k ys) (sym none))
  | inr all ↦
      (let split : length xs + (n - length xs) ≡ n = omega arith in
      let whole : xs ≡ take n xs = sym (take_all n xs all) in
      ap (λ (k : ℕ). take k (xs ++ ys)) (sym split) ∙ take-append-add xs ys (n - length xs)
      ∙ (λ i. whole i ++ take (n - length (whole i)) ys))
]

-- ---- key and message at the beginning of the data

-- A key is at the beginning of the first block.
pub described_key-is_block_prefix : (n c : ℕ) (z block rest : List ℕ) → z ≡ block ++ rest → 0 < n
    → n ≤ length block
    → n ≤ c → described_key n (take c z) ≡ Some (take n block)
described_key-is_block_prefix zero c z block rest split some short within = absurd (omega arith)
described_key-is_block_prefix (suc k) c z block rest split some short within =
    ap (λ (l : List ℕ). Some l) (take-take (suc k) c z within ∙ ap (take (suc k)) split
    ∙ take-append-le (suc k) block rest short)

-- The message comes after the key.
pub described_message-after_key_block : (f : Family) (n c : ℕ) (z block rest : List ℕ)
    → z ≡ block ++ rest → 0 < n
    → length block ≡ block_bytes f → block_bytes f ≤ c
    → described_message f n (take c z) ≡ take (c - block_bytes f) rest
described_message-after_key_block f zero c z block rest split some whole within =
    absurd (omega arith)
described_message-after_key_block f (suc k) c z block rest split some whole within =
    let b : ℕ = block_bytes f in
    let more : b + (c - b) ≡ c = omega arith in
    ap (λ (m : ℕ). drop b (take m z)) (sym more) ∙ drop-take b (c - b) z
    ∙ ap (λ (l : List ℕ). take (c - b) (drop b l)) split
    ∙ ap (take (c - b)) (drop_at block rest b whole)
