-- The bytes of saved states: how they are written, and that they are read back.
use Rattle.std.proofs.Common.{◌≡◌, ℕ, zero, suc, ◌+◌, ◌-◌, ◌*◌, ◌^◌, ◌<◌, ◌≤◌, Bool, true, false}
use Rattle.std.proofs.Common.{List, [], ◌∷◌, ◌++◌, length, take, drop, replicate, refl, sym}
use Rattle.std.proofs.Common.{subst, ap, ◌∙◌, arith, length-append, slice_index, rules}
use Rattle.std.proofs.Common.{Option, Some, None, IsSome, IfSome, IsSomeAnd}
use Rattle.std.proofs.lemmas.List.{take_at, drop_at, drop-drop, append_assoc}
use Rattle.std.proofs.lemmas.List.{get_or-drop}
use Rattle.std.proofs.lemmas.Nat.{from_le_bytes-to_le_bytes_4, from_le_bytes-to_le_bytes_8}
use Rattle.std.specs.Int.{from_le_bytes, to_le_bytes, w64}
use mir.Val.{bits, bool_byte}
use Rattle.blake2_simd.specs.Family.{Family, blake2b, blake2s, word, word_bytes, block_bytes}
use Rattle.blake2_simd.specs.Round.{AreWords}
use Rattle.blake2_compress.specs.Hash.{bytes_of, words_of}
use Rattle.blake2_compress.proofs.ByteSizes.{length-padded, AreBytes-drop, AreBytes-take}
use Rattle.blake2_compress.proofs.RunSizes.{length-bytes_of}
use Rattle.blake2_digest.specs.Texts.{AreBytes, padded}
use Rattle.blake2.specs.States.{State, count, future, start_count, started}
use Rattle.blake2_state.specs.States.{is_on, meaning_sized}
use Rattle.blake2_state.specs.SavedStates.{saved_state_prefix, flag_byte, encoding, IsSavable}
use Rattle.blake2_state.specs.SavedStates.{IsSavedState}
use Rattle.blake2_state.specs.SavedStates.{MeansTheSame}

-- ---- words

-- The first word of bytes of words is read back.
first_word-read_from_bytes : (f : Family) (x : ℕ) (xs : List ℕ) → x < 2 ^ bits (word f)
    → from_le_bytes (word f) (take (word_bytes f) (to_le_bytes (word f) x ++ xs)) ≡ x
first_word-read_from_bytes blake2b x xs h =
    ap (from_le_bytes (word blake2b)) (take_at (to_le_bytes (word blake2b) x) xs 8 refl)
    ∙ from_le_bytes-to_le_bytes_8 x h
first_word-read_from_bytes blake2s x xs h =
    ap (from_le_bytes (word blake2s)) (take_at (to_le_bytes (word blake2s) x) xs 4 refl)
    ∙ from_le_bytes-to_le_bytes_4 x h

-- And the others follow it.
drop_first_word-is_rest : (f : Family) (x : ℕ) (xs : List ℕ)
    → drop (word_bytes f) (to_le_bytes (word f) x ++ xs) ≡ xs
drop_first_word-is_rest blake2b x xs = drop_at (to_le_bytes (word blake2b) x) xs 8 refl
drop_first_word-is_rest blake2s x xs = drop_at (to_le_bytes (word blake2s) x) xs 4 refl

-- Words are read back from their bytes.
words_of-bytes_of : (f : Family) (n : ℕ) (ws : List ℕ) → length ws ≡ n → AreWords f ws
    → words_of f n (bytes_of f ws) ≡ ws
unfolding words_of bytes_of
words_of-bytes_of f zero [] e a = refl
words_of-bytes_of f zero (x ∷ ws) e a = absurd (omega (arith, e))
words_of-bytes_of f (suc n) [] e a = absurd (omega (arith, e))
words_of-bytes_of f (suc n) (x ∷ ws) e a =
    λ i. first_word-read_from_bytes f x (bytes_of f ws) (a 0) i
    ∷ (ap (words_of f n) (drop_first_word-is_rest f x (bytes_of f ws))
    ∙ words_of-bytes_of f n ws (omega (arith, e)) (λ j. a (suc j))) i

-- A word that is read from bytes is a word.
from_le_bytes-is_word : (f : Family) (xs : List ℕ) → AreBytes xs
    → from_le_bytes (word f) xs < 2 ^ bits (word f)
from_le_bytes-is_word blake2b xs a = omega (arith, a 0, a 1, a 2, a 3, a 4, a 5, a 6, a 7)
from_le_bytes-is_word blake2s xs a = omega (arith, a 0, a 1, a 2, a 3)

-- Words that are read from bytes are words.
pub AreWords-words_of : (f : Family) (n : ℕ) (xs : List ℕ) → AreBytes xs
    → AreWords f (words_of f n xs)
unfolding words_of
AreWords-words_of blake2b zero xs a i = omega arith
AreWords-words_of blake2s zero xs a i = omega arith
AreWords-words_of f (suc n) xs a zero =
    from_le_bytes-is_word f (take (word_bytes f) xs) (AreBytes-take (word_bytes f) xs a)
AreWords-words_of f (suc n) xs a (suc i) =
    AreWords-words_of f n (drop (word_bytes f) xs) (AreBytes-drop (word_bytes f) xs a) i

-- ---- fields

-- What comes m bytes after a list of k bytes.
drop-past_prefix : (n k m : ℕ) (xs ys : List ℕ) → length xs ≡ k → n ≡ k + m
    → drop n (xs ++ ys) ≡ drop m ys
drop-past_prefix n k m xs ys e h =
    ap (λ (j : ℕ). drop j (xs ++ ys)) h ∙ sym (drop-drop m k (xs ++ ys))
    ∙ ap (drop m) (drop_at xs ys k e)

-- The padded list begins with the list.
take_of_padded-is_list : (n : ℕ) (xs : List ℕ) → take (length xs) (padded n xs) ≡ xs
unfolding padded
take_of_padded-is_list n xs = take_at xs (replicate (n - length xs) 0) (length xs) refl

-- A flag is read back.
pub is_on-flag_byte : (on : Bool) → is_on (flag_byte on) ≡ on
is_on-flag_byte true = refl
is_on-flag_byte false = refl

length-saved_state_prefix : (f : Family) → length (saved_state_prefix f) ≡ 8
length-saved_state_prefix blake2b = refl
length-saved_state_prefix blake2s = refl

-- What is read from the bytes of a state.
pub record BytesDecodeTo (f : Family) (size : ℕ) (s : State) (bytes : List ℕ) : Type 0 where
  pub chain : words_of f 8 (take (8 * word_bytes f) (drop 8 bytes)) ≡ s.core.h
  pub first : words_of f 8 (take (8 * word_bytes f) (drop (8 + 8 * word_bytes f) bytes)) ≡ s.core.start
  pub counted : from_le_bytes w64 (take 8 (drop (8 + 16 * word_bytes f) bytes)) ≡ s.core.count
  pub output_size : slice_index bytes (16 + 16 * word_bytes f) ≡ size
  pub pending_length : slice_index bytes (17 + 16 * word_bytes f) ≡ length s.pending
  pub last_node : slice_index bytes (18 + 16 * word_bytes f) ≡ flag_byte s.core.last_node
  pub pending : drop (19 + 16 * word_bytes f) bytes ≡ padded (block_bytes f) s.pending
  pub whole : length bytes ≡ 19 + 16 * word_bytes f + block_bytes f

-- Byte m is byte j of what comes after n bytes.
slice_index-after_drop : (m n j : ℕ) (bytes rest : List ℕ) → m ≡ n + j → drop n bytes ≡ rest
    → slice_index bytes m ≡ slice_index rest j
slice_index-after_drop m n j bytes rest at e =
    ap (slice_index bytes) at ∙ sym (get_or-drop n bytes j 0)
    ∙ ap (λ (xs : List ℕ). slice_index xs j) e

pub encoding-decodes_to_state : (f : Family) (size : ℕ) (s : State) → IsSavable f size s
    → BytesDecodeTo f size s (encoding f size s)
unfolding encoding
encoding-decodes_to_state f size s h =
    let w : ℕ = word_bytes f in
    let chain : List ℕ = bytes_of f s.core.h in
    let first : List ℕ = bytes_of f s.core.start in
    let counted : List ℕ = to_le_bytes w64 s.core.count in
    let block : List ℕ = padded (block_bytes f) s.pending in
    let end : List ℕ = size ∷ length s.pending ∷ flag_byte s.core.last_node ∷ block in
    let bytes : List ℕ = saved_state_prefix f ++ (chain ++ (first ++ (counted ++ end))) in
    let nested : saved_state_prefix f ++ chain ++ first ++ counted ++ end ≡ bytes =
    append_assoc (saved_state_prefix f ++ chain ++ first) counted end
    ∙ append_assoc (saved_state_prefix f ++ chain) first (counted ++ end)
    ∙ append_assoc (saved_state_prefix f) chain (first ++ (counted ++ end)) in
    let lc : length chain ≡ 8 * w = length-bytes_of f s.core.h ∙ ap (λ (n : ℕ). n * w) h.chain_length in
    let lf : length first ≡ 8 * w = length-bytes_of f s.core.start ∙ ap (λ (n : ℕ). n * w) h.first_length in
    let lb : length block ≡ block_bytes f = length-padded (block_bytes f) s.pending h.pending in
    let after_heading : drop 8 bytes ≡ chain ++ (first ++ (counted ++ end)) =
    drop_at (saved_state_prefix f) _ 8 (length-saved_state_prefix f) in
    let after_chain : drop (8 + 8 * w) bytes ≡ first ++ (counted ++ end) =
    drop-past_prefix (8 + 8 * w) 8 (8 * w) (saved_state_prefix f) _ (length-saved_state_prefix f)
    refl
    ∙ drop_at chain _ (8 * w) lc in
    let after_first : drop (8 + 16 * w) bytes ≡ counted ++ end =
    drop-past_prefix (8 + 16 * w) 8 (16 * w) (saved_state_prefix f) _ (length-saved_state_prefix f)
    refl
    ∙ drop-past_prefix (16 * w) (8 * w) (8 * w) chain _ lc (omega arith)
    ∙ drop_at first _ (8 * w) lf in
    let after_count : drop (16 + 16 * w) bytes ≡ end =
    drop-past_prefix (16 + 16 * w) 8 (8 + 16 * w) (saved_state_prefix f) _
    (length-saved_state_prefix f) (omega arith)
    ∙ drop-past_prefix (8 + 16 * w) (8 * w) (8 + 8 * w) chain _ lc (omega arith)
    ∙ drop-past_prefix (8 + 8 * w) (8 * w) 8 first _ lf (omega arith)
    ∙ drop_at counted end 8 refl in
    subst (BytesDecodeTo f size s) (sym nested) (record {
      chain = ap (λ (xs : List ℕ). words_of f 8 (take (8 * w) xs)) after_heading
          ∙ ap (words_of f 8) (take_at chain _ (8 * w) lc)
          ∙ words_of-bytes_of f 8 s.core.h h.chain_length h.chain_words;
      first = ap (λ (xs : List ℕ). words_of f 8 (take (8 * w) xs)) after_chain
          ∙ ap (words_of f 8) (take_at first _ (8 * w) lf)
          ∙ words_of-bytes_of f 8 s.core.start h.first_length h.first_words;
      counted = ap (λ (xs : List ℕ). from_le_bytes w64 (take 8 xs)) after_first
          ∙ ap (from_le_bytes w64) (take_at counted end 8 refl)
          ∙ from_le_bytes-to_le_bytes_8 s.core.count (omega (arith, h.counted));
      output_size = slice_index-after_drop (16 + 16 * w) (16 + 16 * w) 0 bytes end (omega arith)
          after_count;
      pending_length = slice_index-after_drop (17 + 16 * w) (16 + 16 * w) 1 bytes end (omega arith)
          after_count;
      last_node = slice_index-after_drop (18 + 16 * w) (16 + 16 * w) 2 bytes end (omega arith)
          after_count;
      pending = ap (λ (n : ℕ). drop n bytes) (omega arith)
          ∙ sym (drop-drop 3 (16 + 16 * w) bytes) ∙ ap (drop 3) after_count;
      whole = omega (
        arith,
        lc,
        lf,
        lb,
        length-saved_state_prefix f,
        length-append (saved_state_prefix f) (chain ++ (first ++ (counted ++ end))),
        length-append chain (first ++ (counted ++ end)),
        length-append first (counted ++ end),
        length-append counted end,
      );
    })

-- The state that bytes are read as.
abbrev pub decoded_state : Family → List ℕ → State
decoded_state f bytes = record {
  core = record {
    h = words_of f 8 (take (8 * word_bytes f) (drop 8 bytes));
    start = words_of f 8 (take (8 * word_bytes f) (drop (8 + 8 * word_bytes f) bytes));
    count = from_le_bytes w64 (take 8 (drop (8 + 16 * word_bytes f) bytes));
    last_node = is_on (slice_index bytes (18 + 16 * word_bytes f));
  };
  pending = take (slice_index bytes (17 + 16 * word_bytes f)) (drop (19 + 16 * word_bytes f) bytes);
  start_block = [];
}

-- The bytes of a state are read as that state.
pub decoded_state-is_encoded_state : (f : Family) (size : ℕ) (s : State) (bytes : List ℕ)
    → s.start_block ≡ []
    → BytesDecodeTo f size s bytes → decoded_state f bytes ≡ s
decoded_state-is_encoded_state f size s bytes bare r =
    let pending : (decoded_state f bytes).pending ≡ s.pending =
    (λ i. take (r.pending_length i) (r.pending i))
    ∙ take_of_padded-is_list (block_bytes f) s.pending in
    let last_node = ap is_on r.last_node ∙ is_on-flag_byte s.core.last_node in
    λ i. record {
      core = record {
        h = r.chain i;
        start = r.first i;
        count = r.counted i;
        last_node = last_node i;
      };
      pending = pending i;
      start_block = sym bare i;
    }

-- What is read from the bytes of a saved state.
pub saved_bytes-decode_to_state : (f : Family) (bytes : List ℕ) (a : IsSavedState f bytes)
    → BytesDecodeTo f a.size a.state bytes
saved_bytes-decode_to_state f bytes a =
    subst (BytesDecodeTo f a.size a.state) a.is
    (encoding-decodes_to_state f a.size a.state a.savable)

-- The bytes of a saved state are those of the state that is read from them.
pub encoding-of_decoded_state : (f : Family) (bytes : List ℕ) → IsSavedState f bytes
    → encoding f (slice_index bytes (16 + 16 * word_bytes f)) (decoded_state f bytes) ≡ bytes
encoding-of_decoded_state f bytes a =
    let r : BytesDecodeTo f a.size a.state bytes = saved_bytes-decode_to_state f bytes a in
    let same : decoded_state f bytes ≡ a.state =
    decoded_state-is_encoded_state f a.size a.state bytes a.savable.start r in
    (λ i. encoding f (r.output_size i) (same i)) ∙ a.is

-- States that are saved as the same bytes are the same.
pub encoding-is_injective : (f : Family) (a b : ℕ) (s t : State) → IsSavable f a s → IsSavable f b t
    → encoding f a s ≡ encoding f b t → (a ≡ b) × (s ≡ t)
encoding-is_injective f a b s t h k e =
    let bytes : List ℕ = encoding f b t in
    let r : BytesDecodeTo f a s bytes = subst (BytesDecodeTo f a s) e
    (encoding-decodes_to_state f a s h) in
    let q : BytesDecodeTo f b t bytes = encoding-decodes_to_state f b t k in (
      sym r.output_size ∙ q.output_size,
      sym (decoded_state-is_encoded_state f a s bytes h.start r)
          ∙ decoded_state-is_encoded_state f b t bytes k.start q,
    )

-- ---- writing

-- Zeros are the padded empty list.
pub zeros-are_padded_empty_list : (n : ℕ) → replicate n 0 ≡ padded n []
unfolding padded
zeros-are_padded_empty_list n =
    let all : n ≡ n - 0 = omega arith in
    ap (λ (k : ℕ). replicate k 0) all

-- A flag is written as its byte.
pub bool_byte-is_flag_byte : (on : Bool) → bool_byte on ≡ flag_byte on
bool_byte-is_flag_byte true = refl
bool_byte-is_flag_byte false = refl

-- A list after others is padded with the zeros that come after all of them.
padded-append : (n b : ℕ) (front xs : List ℕ) → length front + b ≡ n → length xs ≤ b
    → padded n (front ++ xs) ≡ front ++ padded b xs
unfolding padded
padded-append n b front xs table fits =
    let left : n - length (front ++ xs) ≡ b - length xs =
    omega (arith, length-append front xs, table, fits) in
    ap (λ (k : ℕ). front ++ xs ++ replicate k 0) left
    ∙ append_assoc front xs (replicate (b - length xs) 0)

-- The bytes of a state, as its fields are written.
pub padded_fields-are_encoding : (f : Family) (n size k : ℕ) (s : State) → length s.core.h ≡ 8
    → length s.core.start ≡ 8 → length s.pending ≡ k → k ≤ block_bytes f
    → 19 + 16 * word_bytes f + block_bytes f ≡ n
    → padded n (saved_state_prefix f ++ bytes_of f s.core.h ++ bytes_of f s.core.start
    ++ to_le_bytes w64 s.core.count ++ (size ∷ k ∷ flag_byte s.core.last_node ∷ []) ++ s.pending)
    ≡ encoding f size s
unfolding encoding
padded_fields-are_encoding f n size k s lh ls lp fits table =
    let chain : List ℕ = bytes_of f s.core.h in
    let first : List ℕ = bytes_of f s.core.start in
    let counted : List ℕ = to_le_bytes w64 s.core.count in
    let numbers : List ℕ = size ∷ k ∷ flag_byte s.core.last_node ∷ [] in
    let front : List ℕ = saved_state_prefix f ++ chain ++ first ++ counted in
    let block : List ℕ = padded (block_bytes f) s.pending in
    let lc : length chain ≡ 8 * word_bytes f =
    length-bytes_of f s.core.h ∙ ap (λ (m : ℕ). m * word_bytes f) lh in
    let lf : length first ≡ 8 * word_bytes f =
    length-bytes_of f s.core.start ∙ ap (λ (m : ℕ). m * word_bytes f) ls in
    let before : length (front ++ numbers) ≡ 19 + 16 * word_bytes f = omega (
      arith,
      lc,
      lf,
      length-saved_state_prefix f,
      length-append front numbers,
      length-append (saved_state_prefix f ++ chain ++ first) counted,
      length-append (saved_state_prefix f ++ chain) first,
      length-append (saved_state_prefix f) chain,
    ) in
    padded-append n (block_bytes f) (front ++ numbers) s.pending (omega (arith, before, table))
    (omega (arith, lp, fits))
    ∙ append_assoc front numbers block
    ∙ ap (λ (m : ℕ). front ++ size ∷ m ∷ flag_byte s.core.last_node ∷ block) (sym lp)

-- ---- loading

-- What holds of a value that is there.
pub IsSomeAnd-by_implication : {X : Type 0} {P Q : X → Type 0} (r : Option X) → IsSome r
    → IfSome r P
    → ((x : X) → P x → Q x) → IsSomeAnd r Q
IsSomeAnd-by_implication (Some x) some h k = k x h
IsSomeAnd-by_implication None some h k = absurd (search rules)

-- States that hold the same return the same digests.
pub MeansTheSame-if_states_equal : {S : Type 0} (f : Family) (size_of : S → ℕ)
    (state_of : S → State)
    (old new : S) → size_of new ≡ size_of old → state_of new ≡ state_of old
    → MeansTheSame (meaning_sized f size_of state_of) old new
MeansTheSame-if_states_equal f size_of state_of old new size e = record {
  future = λ flag y i. future f (size i) (e i) flag y;
  started = λ flag y i. started f (size i) (e i) flag y;
  last_node = λ i. (e i).core.last_node;
  count = λ i. count (e i);
  start_count = λ i. start_count (e i);
}
