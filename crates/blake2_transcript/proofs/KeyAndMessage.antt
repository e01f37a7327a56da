-- A key and a message that are read make the data that they were read from.
use Rattle.std.proofs.Common.{◌≡◌, ℕ, zero, suc, ◌<◌, ◌≤◌, inl, inr, List, ◌++◌, length, take, drop}
use Rattle.std.proofs.Common.{refl, sym, ◌∙◌, arith, get_or}
use Rattle.std.proofs.lemmas.List.{get_or-take, length-take-le, take-append-drop}
use Rattle.std.proofs.lemmas.Grind.{same_number_lists}
use Rattle.std.proofs.lemmas.Bool.{cases_lt}
use Rattle.blake2_simd.specs.Family.{Family, block_bytes, key_bytes}
use Rattle.blake2_compress.specs.Hash.{AreBytes, padded, data_bytes, key_block, key_size}
use Rattle.blake2_compress.specs.Inputs.{KeyFits}
use Rattle.blake2_transcript.specs.Reader.{described_key, described_message}
use Rattle.blake2_compress.proofs.ParameterSizes.{key_and_output_bytes-fit_byte}
use Rattle.blake2_compress.proofs.ByteSizes.{length-padded, AreBytes-take, AreBytes-drop}
use Rattle.blake2_compress.proofs.Padding.{padded-zero_past_end, padded-keeps_elements}

-- A key and a message make the data that they were read from.
pub data_bytes-of_described_parts : (f : Family) (n : ℕ) (z : List ℕ) → n ≤ key_bytes f
    → (0 < n → block_bytes f ≤ length z)
    → (0 < n → (i : ℕ) → n ≤ i → i < block_bytes f → get_or z i 0 ≡ 0)
    → data_bytes f (described_key n z) (described_message f n z) ≡ z
unfolding key_block
data_bytes-of_described_parts f zero z fits counted zeros = refl
data_bytes-of_described_parts f (suc k) z fits counted zeros =
    let b : ℕ = block_bytes f in
    let n : ℕ = suc k in
    let some : 0 < n = omega arith in
    let whole : b ≤ length z = counted some in
    let small : n ≤ b = omega (arith, key_and_output_bytes-fit_byte f) in
    let lk : length (take n z) ≡ n = length-take-le n z (omega arith) in
    let lp : length (padded b (take n z)) ≡ b = length-padded b (take n z) (omega arith) in
    let lb : length (take b z) ≡ b = length-take-le b z whole in
    let front : padded b (take n z) ≡ take b z =
    same_number_lists (padded b (take n z)) (take b z) (lp ∙ sym lb)
    (λ i l. let in_b : i < b = omega arith in
    elim (cases_lt i n) [
      | inl below ↦ padded-keeps_elements b (take n z) i (omega arith) ∙ get_or-take n z i 0 below
          ∙ sym (get_or-take b z i 0 in_b)
      | inr past ↦ padded-zero_past_end b (take n z) i (omega arith) ∙ sym (zeros some i past in_b)
          ∙ sym (get_or-take b z i 0 in_b)
    ]) in
    (λ i. front i ++ drop b z) ∙ take-append-drop b z

-- The length of a key that is read.
pub described_key-size : (n : ℕ) (z : List ℕ) → n ≤ length z → key_size (described_key n z) ≡ n
described_key-size zero z h = refl
described_key-size (suc n) z h = length-take-le (suc n) z h

-- A key that is read fits.
pub described_key-fits : (f : Family) (n : ℕ) (z : List ℕ) → AreBytes z → n ≤ length z
    → n ≤ key_bytes f
    → KeyFits f (described_key n z)
described_key-fits f zero z are h fits = tt
described_key-fits f (suc n) z are h fits =
    let l : length (take (suc n) z) ≡ suc n = length-take-le (suc n) z h in
    (omega arith, omega arith, AreBytes-take (suc n) z are)

-- A message that is read has bytes.
pub described_message-is_bytes : (f : Family) (n : ℕ) (z : List ℕ) → AreBytes z
    → AreBytes (described_message f n z)
described_message-is_bytes f zero z are = are
described_message-is_bytes f (suc n) z are = AreBytes-drop (block_bytes f) z are
