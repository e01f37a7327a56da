-- Made by tools/twins.py from proofs/SavedBlake2b.antt.
-- Saved states of BLAKE2s.
use Rattle.std.proofs.Common.{◌≡◌, ℕ, ◌≤◌, List, length, take, drop, replicate, refl}
use Rattle.std.proofs.Common.{ap, ◌∙◌, arith, subst, length-drop, slice_index, Bool, true, false}
use Rattle.std.proofs.lemmas.List.{length-take-le}
use Rattle.std.specs.Int.{from_le_bytes, w64}
use Rattle.blake2_simd.specs.Family.{blake2s}
use Rattle.blake2_simd.specs.Round.{AreWords}
use Rattle.blake2_compress.specs.Hash.{words_of}
use Rattle.blake2_compress.proofs.ByteSizes.{AreBytes-drop, AreBytes-take, length-words_of}
use Rattle.blake2_digest.specs.Texts.{AreBytes, padded}
use Rattle.blake2_state.specs.Blake2s.{CanBeSaved, HoldsOnlySavedData, saved_bytes, state_of}
use Rattle.blake2_state.specs.SavedStates.{IsSavable, IsSavedState, flag_byte}
use Rattle.blake2_state.specs.States.{is_on, named_key_size}
use Rattle.blake2_state.specs.declared.blake2s.State.{State}
use Rattle.blake2_state.proofs.SavedLaws.{AreWords-words_of, BytesDecodeTo}
use Rattle.blake2_state.proofs.SavedLaws.{encoding-decodes_to_state, saved_bytes-decode_to_state}
use Rattle.blake2_state.proofs.SavedLaws.{encoding-of_decoded_state}

-- What the type of a state says of its fields.
pub record HasWellTypedFields (s : State) : Type 0 where
  pub chain_length : length s.chain ≡ 8
  pub chain : AreWords blake2s s.chain
  pub first_length : length s.first ≡ 8
  pub first : AreWords blake2s s.first
  pub pending_length : length s.pending ≡ 64
  pub pending : AreBytes s.pending

-- The pending bytes have their length.
length-taken_pending : (s : State) → length s.pending ≡ 64 → s.pending_length ≤ 64
    → length (take s.pending_length s.pending) ≡ s.pending_length
length-taken_pending s long h = length-take-le s.pending_length s.pending (omega (arith, long, h))

-- A state that can be saved, in the terms of both families.
pub CanBeSaved-is_savable : (s : State) → HasWellTypedFields s → CanBeSaved s
    → IsSavable blake2s s.output_size (state_of s)
CanBeSaved-is_savable s t h =
    let l : length (take s.pending_length s.pending) ≡ s.pending_length =
    length-taken_pending s t.pending_length h.ready.pending in
    record {
      least = h.ready.least;
      most = h.ready.most;
      pending = omega (arith, l, h.ready.pending);
      counted = omega (arith, l, h.ready.counted);
      keyless = omega (arith, h.keyless);
      start = ap (λ (n : ℕ). take n (padded 64 s.key)) h.start;
      chain_length = t.chain_length;
      chain_words = t.chain;
      first_length = t.first_length;
      first_words = t.first;
      pending_bytes = AreBytes-take s.pending_length s.pending t.pending;
    }

-- The state that these bytes are read as.
abbrev pub decoded : List ℕ → State
decoded bytes = record {
  chain = words_of blake2s 8 (take 32 (drop 8 bytes));
  first = words_of blake2s 8 (take 32 (drop 40 bytes));
  counter = from_le_bytes w64 (take 8 (drop 72 bytes));
  pending_length = slice_index bytes 81;
  start_length = 0;
  output_size = slice_index bytes 80;
  last_node = slice_index bytes 82;
  pending = drop 83 bytes;
  key = replicate 32 0;
}

-- Its fields are of their types.
pub decoded-has_well_typed_fields : (bytes : List ℕ) → length bytes ≡ 147 → AreBytes bytes
    → HasWellTypedFields (decoded bytes)
decoded-has_well_typed_fields bytes whole a = record {
  chain_length = length-words_of blake2s 8 (take 32 (drop 8 bytes));
  chain = AreWords-words_of blake2s 8 (take 32 (drop 8 bytes))
      (AreBytes-take 32 (drop 8 bytes) (AreBytes-drop 8 bytes a));
  first_length = length-words_of blake2s 8 (take 32 (drop 40 bytes));
  first = AreWords-words_of blake2s 8 (take 32 (drop 40 bytes))
      (AreBytes-take 32 (drop 40 bytes) (AreBytes-drop 40 bytes a));
  pending_length = omega (arith, whole, length-drop 83 bytes);
  pending = AreBytes-drop 83 bytes a;
}

-- If they are those of a saved state, it can be saved.
pub decoded-can_be_saved : (bytes : List ℕ) → IsSavedState blake2s bytes
    → CanBeSaved (decoded bytes)
decoded-can_be_saved bytes a =
    let r : BytesDecodeTo blake2s a.size a.state bytes =
    saved_bytes-decode_to_state blake2s bytes a in
    let h : IsSavable blake2s a.size a.state = a.savable in
    let key : named_key_size blake2s (decoded bytes).first ≡ 0 =
    ap (named_key_size blake2s) r.first ∙ h.keyless in
    record {
      ready = record {
        least = omega (arith, r.output_size, h.least);
        most = omega (arith, r.output_size, h.most);
        pending = omega (arith, r.pending_length, h.pending);
        start = omega arith;
        counted = omega (arith, r.counted, r.pending_length, h.counted);
      };
      keyless = λ keyed. omega (arith, key, keyed);
      start = refl;
    }

-- And it is saved as these bytes.
pub decoded-is_saved_as_bytes : (bytes : List ℕ) → IsSavedState blake2s bytes
    → saved_bytes (decoded bytes) ≡ bytes
decoded-is_saved_as_bytes bytes a = encoding-of_decoded_state blake2s bytes a

-- A flag's byte is at most 1.
flag_byte-at_most_1 : (on : Bool) → flag_byte on ≤ 1
flag_byte-at_most_1 true = omega arith
flag_byte-at_most_1 false = omega arith

-- If it is saved as these bytes, it holds nothing more.
pub decoded-holds_only_saved_data : (bytes : List ℕ) → HasWellTypedFields (decoded bytes)
    → CanBeSaved (decoded bytes) → saved_bytes (decoded bytes) ≡ bytes
    → HoldsOnlySavedData (decoded bytes)
decoded-holds_only_saved_data bytes t h e =
    let s : State = decoded bytes in
    let r : BytesDecodeTo blake2s s.output_size (state_of s) bytes =
    subst (BytesDecodeTo blake2s s.output_size (state_of s)) e
    (encoding-decodes_to_state blake2s s.output_size (state_of s) (CanBeSaved-is_savable s t h)) in
    record {
      last_node = omega (arith, r.last_node, flag_byte-at_most_1 (is_on s.last_node));
      pending = r.pending;
      key = refl;
    }
