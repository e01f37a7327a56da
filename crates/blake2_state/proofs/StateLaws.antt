-- The contracts of plain states, from the fields that a call leaves.
use Rattle.std.proofs.Common.{◌≡◌, ℕ, zero, suc, ◌+◌, ◌-◌, ◌*◌, ◌≤◌, ◌==◌, Bool, true, false, List}
use Rattle.std.proofs.Common.{[]}
use Rattle.std.proofs.Common.{◌∷◌, ◌++◌, bit_xor}
use Rattle.std.proofs.Common.{length, take, drop, replicate, slice_index, Option, Some, None, refl}
use Rattle.std.proofs.Common.{sym, ap, subst}
use Rattle.std.proofs.Common.{◌∙◌, rules, arith, length-append}
use Rattle.std.proofs.lemmas.List.{take_all, length-take-le}
use Rattle.std.proofs.lemmas.Nat.{le_bytes_4, le_bytes_8}
use Rattle.std.specs.Int.Bits.{xor_assoc, xor_self, xor_zero_l}
use Rattle.std.specs.Int.{from_le_bytes, to_le_bytes, w32, w64}
use Rattle.blake2_simd.specs.Family.{Family, blake2b, blake2s, block_bytes, iv, key_bytes, word}
use Rattle.blake2_simd.specs.Family.{word_bytes}
use Rattle.blake2_compress.specs.Hash.{Parameters, key_size, key_block, padded, start, Fits}
use Rattle.blake2_compress.specs.Hash.{AreBytes, words_of, bytes_of, xor_words, parameter_block}
use Rattle.blake2_compress.specs.Hash.{parameter_words}
use Rattle.blake2_compress.proofs.ParameterTexts.{padded-append_zeros}
use Rattle.blake2_compress.proofs.ParameterSizes.{AreBytes-low, length-parameter_block}
use Rattle.blake2_digest.specs.Blocks.{compressed_blocks, pending_bytes}
use Rattle.blake2_digest.specs.States.{Meaning, Updated, Fresh, IsAtStart, LastNodeFlagSet}
use Rattle.blake2_digest.specs.States.{ResetToStart}
use Rattle.blake2_digest.proofs.Texts.{zeros_overwritten}
use Rattle.blake2_digest.proofs.Cutting.{compressed_blocks-empty_if_short}
use Rattle.blake2_digest.proofs.Cutting.{pending_bytes-all_if_short}
use Rattle.blake2.specs.CoreLaws.{absorbed-nil}
use Rattle.blake2.specs.Cores.{CoreState, node_parameters, core_made, absorbed}
use Rattle.blake2.specs.Restarts.{StartedAgain_by}
use Rattle.blake2.specs.States.{State, future, started, fresh, restarted, node_set}
use Rattle.blake2.proofs.StateLaws.{block_bytes-positive, state_after_update, Updated_by, Fresh_by}
use Rattle.blake2.proofs.StateLaws.{NodeSet_by}
use Rattle.blake2.proofs.StateLaws.{length-key_block_none, length-key_block_some}
use Rattle.blake2_state.specs.ConstructorArguments.{key_unless_empty, counted_key_bytes}
use Rattle.blake2_state.specs.ConstructorArguments.{digest_under}
use Rattle.blake2_state.specs.RawParameterBlocks.{initial_words_of_block, digest_by_parameter_block}
use Rattle.blake2_state.specs.States.{meaning_sized, named_key_size}

-- ---- updates

-- An update satisfies its contract.
Updated-from_updated_state : {S : Type 0} (f : Family) (size_of : S → ℕ) (state_of : S → State)
    (old : S)
    (x : List ℕ) (new : S)
    → size_of new ≡ size_of old → state_of new ≡ state_after_update f (state_of old) x
    → Updated (meaning_sized f size_of state_of) old x new
Updated-from_updated_state f size_of state_of old x new size e =
    let u = Updated_by f (size_of old) state_of old x new e in record {
      future = λ flag y. ap (λ (n : ℕ). future f n (state_of new) flag y) size ∙ u.future flag y;
      started = λ flag y. ap (λ (n : ℕ). started f n (state_of new) flag y) size ∙ u.started flag y;
      last_node = u.last_node;
      count = u.count;
      start_count = u.start_count;
    }

-- An input that the pending block has room for.
pub Updated-if_input_becomes_pending : {S : Type 0} (f : Family) (size_of : S → ℕ)
    (state_of : S → State) {old : S}
    {x : List ℕ} {new : S} → length (state_of old).pending + length x ≤ block_bytes f
    → (state_of new).pending ≡ (state_of old).pending ++ x → size_of new ≡ size_of old
    → state_of new ≡ record (state_of old) { pending = (state_of new).pending }
    → Updated (meaning_sized f size_of state_of) old x new
Updated-if_input_becomes_pending f size_of state_of {old} {x} {new} fits e size same =
    let s = state_of old in
    let b : ℕ = block_bytes f in
    let room : length (s.pending ++ x) ≤ b = omega (arith, length-append s.pending x, fits) in
    let none : s.core ≡ absorbed f s.core (compressed_blocks b (s.pending ++ x)) =
    sym (ap (absorbed f s.core)
    (compressed_blocks-empty_if_short b (s.pending ++ x) (block_bytes-positive f) room)
    ∙ absorbed-nil f s.core) in
    let all : (state_of new).pending ≡ pending_bytes b (s.pending ++ x) =
    e ∙ sym (pending_bytes-all_if_short b (s.pending ++ x) (block_bytes-positive f) room) in
    Updated-from_updated_state f size_of state_of old x new size
    (same ∙ (λ i. record s { core = none i; pending = all i }))

-- A state that has the words and the count of this core, and these bytes pending.
abbrev with_core_and_pending : State → CoreState → List ℕ → State
with_core_and_pending s core pending = record s {
  core = record s.core { h = core.h; count = core.count };
  pending = pending;
}

-- Any input, from the core that absorbed it.
pub Updated-from_absorbed_core : {S : Type 0} (f : Family) (size_of : S → ℕ) (state_of : S → State)
    {old : S}
    {x : List ℕ} {new : S} {begun core : CoreState} → begun ≡ (state_of old).core
    → core ≡ absorbed f begun (compressed_blocks (block_bytes f) ((state_of old).pending ++ x))
    → (state_of new).pending ≡ pending_bytes (block_bytes f) ((state_of old).pending ++ x)
    → (state_of new).core.h ≡ core.h → (state_of new).core.count ≡ core.count
    → size_of new ≡ size_of old
    → state_of new ≡ with_core_and_pending (state_of old) (state_of new).core (state_of new).pending
    → Updated (meaning_sized f size_of state_of) old x new
unfolding absorbed
Updated-from_absorbed_core f size_of state_of {old} {x} {new} begins taken pends words counted size
    same =
    let s = state_of old in
    let e = taken ∙ ap (λ (b : CoreState). absorbed f b
    (compressed_blocks (block_bytes f) (s.pending ++ x))) begins in
    let chain = words ∙ ap (λ (b : CoreState). b.h) e in
    let counts = counted ∙ ap (λ (b : CoreState). b.count) e in
    Updated-from_updated_state f size_of state_of old x new size (same ∙ (λ i. record s {
      core = record s.core { h = chain i; count = counts i };
      pending = pends i;
    }))

-- ---- the start and the last-node flag

-- A reset satisfies its contract.
pub StartedAgain-from_restarted_state : {S : Type 0} (f : Family) (size_of : S → ℕ)
    (state_of : S → State)
    {old new : S} → size_of new ≡ size_of old → state_of new ≡ restarted (state_of old)
    → ResetToStart (meaning_sized f size_of state_of) old new
StartedAgain-from_restarted_state f size_of state_of {old} {new} size e =
    let u = StartedAgain_by f (size_of old) state_of old new e in record {
      future = λ flag y. ap (λ (n : ℕ). future f n (state_of new) flag y) size ∙ u.future flag y;
      started = λ flag y. ap (λ (n : ℕ). started f n (state_of new) flag y) size ∙ u.started flag y;
      last_node = u.last_node;
      count = u.count;
      start_count = u.start_count;
    }

-- Setting the last-node flag satisfies its contract.
pub NodeSet-from_set_state : {S : Type 0} (f : Family) (size_of : S → ℕ) (state_of : S → State)
    {old : S}
    {on : Bool} {new : S} → size_of new ≡ size_of old → state_of new ≡ node_set (state_of old) on
    → LastNodeFlagSet (meaning_sized f size_of state_of) old on new
NodeSet-from_set_state f size_of state_of {old} {on} {new} size e =
    let u = NodeSet_by f (size_of old) state_of old on new e in record {
      future = λ flag y. ap (λ (n : ℕ). future f n (state_of new) flag y) size ∙ u.future flag y;
      started = λ flag y. ap (λ (n : ℕ). started f n (state_of new) flag y) size ∙ u.started flag y;
      last_node = u.last_node;
      count = u.count;
      start_count = u.start_count;
    }

-- A new state whose flag is set is at its start.
pub AtStart-after_flag_set : {S : Type 0} {m : Meaning S} {digest : Bool → List ℕ → List ℕ} {n : ℕ}
    {on : Bool} {made new : S} → Fresh m digest n made → LastNodeFlagSet m made on new
    → IsAtStart m digest n new
AtStart-after_flag_set made set = record {
  future = λ flag y. set.future flag y ∙ made.future flag y;
  started = λ flag y. set.started flag y ∙ made.started flag y;
  count = set.count ∙ made.count;
  start_count = set.start_count ∙ made.start_count;
}

-- ---- constructors

-- A list written over the beginning of zeros, where its length has another name.
pub append_zeros-is_padded : (n k : ℕ) (xs : List ℕ) → length xs ≡ k
    → xs ++ drop k (replicate n 0) ≡ padded n xs
append_zeros-is_padded n k xs e =
    ap (λ (m : ℕ). xs ++ drop m (replicate n 0)) (sym e) ∙ zeros_overwritten n xs

-- Padding a padded list is padding the list.
pub padded-padded : (n m : ℕ) (xs : List ℕ) → length xs ≤ m → m ≤ n
    → padded n (padded m xs) ≡ padded n xs
unfolding padded
padded-padded n m xs fits h = padded-append_zeros n xs (m - length xs) (omega (arith, fits, h))

-- A state that starts from these words, after this start block.
abbrev initial_state : List ℕ → List ℕ → State
initial_state words block = record {
  core = record { h = words; start = words; count = 0; last_node = false };
  pending = block;
  start_block = block;
}

-- A constructor satisfies its contract.
Fresh-from_core_of_parameters : {S : Type 0} (f : Family) (size_of : S → ℕ) (state_of : S → State)
    (p : Parameters)
    (key : Option (List ℕ)) (core : CoreState) (words block : List ℕ) (counted : ℕ) (new : S)
    → p.key_size ≡ key_size key → core ≡ core_made f p → words ≡ core.start
    → block ≡ key_block f key → length (key_block f key) ≡ counted → size_of new ≡ p.size
    → state_of new ≡ initial_state words block
    → Fresh (meaning_sized f size_of state_of) (digest_under f p key) counted new
Fresh-from_core_of_parameters f size_of state_of p key core words block counted new named made
    starts is counts size e =
    let first : words ≡ start f p = starts ∙ ap (λ (b : CoreState). b.start) made in
    let u = Fresh_by f p.size state_of p.salt p.persona key p.tree counted new counts
    (e ∙ (λ i. initial_state (first i) (is i)) ∙ ap (λ (n : ℕ).
    fresh f (node_parameters p.size n p.salt p.persona p.tree) key) named) in
    record {
      future = λ flag y. ap (λ (n : ℕ). future f n (state_of new) flag y) size ∙ u.future flag y;
      started = λ flag y. ap (λ (n : ℕ). started f n (state_of new) flag y) size ∙ u.started flag y;
      last_node = u.last_node;
      count = u.count;
      start_count = u.start_count;
    }

-- Under no key.
pub Fresh-without_key : {S : Type 0} (f : Family) (size_of : S → ℕ) (state_of : S → State)
    (p : Parameters) {core : CoreState} {words : List ℕ} {new : S} → p.key_size ≡ 0
    → core ≡ core_made f p → words ≡ core.start → size_of new ≡ p.size
    → state_of new ≡ initial_state words []
    → Fresh (meaning_sized f size_of state_of) (digest_under f p None) 0 new
unfolding key_block
Fresh-without_key f size_of state_of p {core} {words} {new} named made starts size e =
    Fresh-from_core_of_parameters f size_of state_of p None core words [] 0 new named made starts
    refl
    (length-key_block_none f) size e

-- A key is shorter than a block.
key_bytes-at_most_block_bytes : (f : Family) → key_bytes f ≤ block_bytes f
key_bytes-at_most_block_bytes blake2b = omega arith
key_bytes-at_most_block_bytes blake2s = omega arith

-- Under a key that is padded to a block, and is kept padded to the longest key.
pub Fresh-with_key : {S : Type 0} (f : Family) (size_of : S → ℕ) (state_of : S → State)
    (p : Parameters) (key : List ℕ) {core : CoreState} {words block kept : List ℕ} {new : S}
    → p.key_size ≡ length key → p.key_size ≤ key_bytes f → core ≡ core_made f p
    → words ≡ core.start → block ≡ padded (block_bytes f) kept → kept ≡ padded (key_bytes f) key
    → size_of new ≡ p.size
    → state_of new ≡ record (initial_state words (take (block_bytes f) block)) {
      start_block = take (block_bytes f) (padded (block_bytes f) kept);
    }
    → Fresh (meaning_sized f size_of state_of) (digest_under f p (Some key)) (block_bytes f) new
unfolding key_block
Fresh-with_key f size_of state_of p key {core} {words} {block} {kept} {new} named fits made starts
    is
    short size e =
    let b : ℕ = block_bytes f in
    let whole : length (key_block f (Some key)) ≡ b =
    length-key_block_some f key (omega (arith, named, fits)) in
    let once : block ≡ padded b key =
    is ∙ ap (padded b) short
    ∙ padded-padded b (key_bytes f) key (omega (arith, named, fits))
    (key_bytes-at_most_block_bytes f) in
    Fresh-from_core_of_parameters f size_of state_of p (Some key) core words _ b new named made
    starts
    (ap (take b) once ∙ take_all b (key_block f (Some key)) (omega (arith, whole)))
    whole size
    (e ∙ (λ i. record (initial_state words (take b block)) { start_block = take b (sym is i) }))

future-is_digest_by_block : (f : Family) (block words : List ℕ) (flag : Bool) (y : List ℕ)
    → words ≡ initial_words_of_block f block
    → future f (slice_index block 0) (initial_state words []) flag y
    ≡ digest_by_parameter_block f block flag y
unfolding future
future-is_digest_by_block f block words flag y e = ap
    (λ (w : List ℕ). future f (slice_index block 0) (initial_state w []) flag y) e

started-is_digest_by_block : (f : Family) (block words : List ℕ) (flag : Bool) (y : List ℕ)
    → words ≡ initial_words_of_block f block
    → started f (slice_index block 0) (initial_state words []) flag y
    ≡ digest_by_parameter_block f block flag y
unfolding started
started-is_digest_by_block f block words flag y e = ap
    (λ (w : List ℕ). started f (slice_index block 0) (initial_state w []) flag y) e

-- From a parameter block.
pub Fresh-from_parameter_block : {S : Type 0} (f : Family) (size_of : S → ℕ) (state_of : S → State)
    (block : List ℕ) {words : List ℕ} {new : S} → size_of new ≡ slice_index block 0
    → state_of new ≡ initial_state words [] → words ≡ initial_words_of_block f block
    → Fresh (meaning_sized f size_of state_of) (digest_by_parameter_block f block) 0 new
Fresh-from_parameter_block f size_of state_of block {words} size e starts = record {
  future = λ flag y. (λ i. future f (size i) (e i) flag y)
      ∙ future-is_digest_by_block f block words flag y starts;
  started = λ flag y. (λ i. started f (size i) (e i) flag y)
      ∙ started-is_digest_by_block f block words flag y starts;
  last_node = λ i. (e i).core.last_node;
  count = λ i. (e i).core.count + length (e i).pending;
  start_count = λ i. length (e i).start_block;
}

-- ---- keys

-- An empty list is not a key.
pub Fresh-empty_list_is_no_key : {S : Type 0} (m : Meaning S) (f : Family) {p q : Parameters}
    (key : List ℕ)
    {s : S} → p ≡ q → (length key == 0) ≡ true → Fresh m (digest_under f p None) 0 s
    → Fresh m (digest_under f q (key_unless_empty key)) (counted_key_bytes f key) s
Fresh-empty_list_is_no_key m f [] {s} same e h =
    subst (λ p. Fresh m (digest_under f p None) 0 s) same h
Fresh-empty_list_is_no_key m f (x ∷ xs) same e h = absurd (search rules)

-- A list that is not empty is a key.
pub Fresh-nonempty_list_is_key : {S : Type 0} (m : Meaning S) (f : Family) {p q : Parameters}
    (key : List ℕ)
    {s : S} → p ≡ q → (length key == 0) ≡ false
    → Fresh m (digest_under f p (Some key)) (block_bytes f) s
    → Fresh m (digest_under f q (key_unless_empty key)) (counted_key_bytes f key) s
Fresh-nonempty_list_is_key m f [] same e h = absurd (search rules)
Fresh-nonempty_list_is_key m f (x ∷ xs) {s} same e h =
    subst (λ p. Fresh m (digest_under f p (Some (x ∷ xs))) (block_bytes f) s) same h

-- ---- keys

-- The second element of a list is among its first two.
slice_index-second_of_take : (n : ℕ) (xs : List ℕ)
    → slice_index (take (suc (suc n)) xs) 1 ≡ slice_index xs 1
slice_index-second_of_take n [] = refl
slice_index-second_of_take n (x ∷ []) = refl
slice_index-second_of_take n (x ∷ y ∷ xs) = refl

-- An xor with a number undoes itself.
bit_xor-undoes_itself : (a x : ℕ) → bit_xor a (bit_xor a x) ≡ x
bit_xor-undoes_itself a x = sym (xor_assoc a a x) ∙ ap (λ (n : ℕ). bit_xor n x) (xor_self a)
    ∙ xor_zero_l x

-- The words that the run of a block starts from name the length that the block names.
pub named_key_size-of_parameter_block : (f : Family) (block : List ℕ)
    → length block ≡ 8 * word_bytes f
    → AreBytes (take (word_bytes f) block)
    → named_key_size f (initial_words_of_block f block) ≡ slice_index block 1
unfolding words_of bytes_of xor_words
named_key_size-of_parameter_block blake2b block l a =
    let w : ℕ = from_le_bytes w64 (take 8 block) in
    let back = ap (λ (n : ℕ). slice_index (to_le_bytes w64 n) 1)
    (bit_xor-undoes_itself 0x6a09e667f3bcc908 w) in
    let written : to_le_bytes w64 w ≡ take 8 block =
    le_bytes_8 (take 8 block) w (length-take-le 8 block (omega arith)) a refl in
    back ∙ ap (λ (bytes : List ℕ). slice_index bytes 1) written ∙ slice_index-second_of_take 6 block
named_key_size-of_parameter_block blake2s block l a =
    let w : ℕ = from_le_bytes w32 (take 4 block) in
    let back = ap (λ (n : ℕ). slice_index (to_le_bytes w32 n) 1)
    (bit_xor-undoes_itself 0x6a09e667 w) in
    let written : to_le_bytes w32 w ≡ take 4 block =
    le_bytes_4 (take 4 block) w (length-take-le 4 block (omega arith)) a refl in
    back ∙ ap (λ (bytes : List ℕ). slice_index bytes 1) written ∙ slice_index-second_of_take 2 block

-- The first word of a parameter block consists of bytes, whatever salt and persona are.
first_word-is_bytes : (f : Family) (p : Parameters) → Fits f p
    → AreBytes (take (word_bytes f) (parameter_block f p))
unfolding parameter_block
first_word-is_bytes blake2b p h zero = omega (arith, h.size)
first_word-is_bytes blake2b p h (suc zero) = omega (arith, h.key_size)
first_word-is_bytes blake2b p h (suc (suc zero)) = omega (arith, h.tree.fanout)
first_word-is_bytes blake2b p h (suc (suc (suc zero))) = omega (arith, h.tree.depth)
first_word-is_bytes blake2b p h (suc (suc (suc (suc k)))) = AreBytes-low 0 4 p.tree.leaf_length k
first_word-is_bytes blake2s p h zero = omega (arith, h.size)
first_word-is_bytes blake2s p h (suc zero) = omega (arith, h.key_size)
first_word-is_bytes blake2s p h (suc (suc zero)) = omega (arith, h.tree.fanout)
first_word-is_bytes blake2s p h (suc (suc (suc zero))) = omega (arith, h.tree.depth)
first_word-is_bytes blake2s p h (suc (suc (suc (suc k)))) = omega arith

-- The words that the run of these parameters starts from name their key's length.
pub named_key_size-of_parameters : (f : Family) (p : Parameters) → Fits f p
    → named_key_size f (start f p) ≡ p.key_size
unfolding start parameter_words parameter_block
named_key_size-of_parameters f p h = named_key_size-of_parameter_block f (parameter_block f p)
    (length-parameter_block f p h)
    (first_word-is_bytes f p h)

-- The second byte of the first word, xored into IV, is that length.
pub named_key_size-is_second_byte : (f : Family) (first : List ℕ) → 1 ≤ length first
    → slice_index (to_le_bytes (word f) (bit_xor (slice_index (iv f) 0) (slice_index first 0))) 1
    ≡ named_key_size f first
unfolding bytes_of xor_words
named_key_size-is_second_byte f [] h = absurd (omega arith)
named_key_size-is_second_byte blake2b (x ∷ xs) h = refl
named_key_size-is_second_byte blake2s (x ∷ xs) h = refl
