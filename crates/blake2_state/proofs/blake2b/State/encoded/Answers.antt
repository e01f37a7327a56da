use Rattle.std.proofs.Common.{◌≡◌, ◌∙◌, ◌++◌, List, ℕ, [], ◌∷◌, ◌*◌, ap, length}
use Rattle.std.proofs.Common.{length-append, take, refl, arith, rules}
use Rattle.std.proofs.lemmas.List.{length-take-le}
use Rattle.std.specs.Int.{to_le_bytes, w64}
use Rattle.blake2_simd.specs.Family.{blake2b, word_bytes}
use Rattle.blake2_compress.specs.Hash.{bytes_of}
use Rattle.blake2_compress.proofs.RunSizes.{length-bytes_of}
use Rattle.blake2_digest.specs.Texts.{padded}
use Rattle.blake2_state.specs.Blake2b.{state_of}
use Rattle.blake2_state.specs.SavedStates.{flag_byte, saved_state_prefix}
use Rattle.blake2_state.specs.States.{is_on}
use Rattle.blake2_state.specs.declared.blake2b.State.{State}
use Rattle.blake2_state.proofs.SavedLaws.{padded_fields-are_encoding, bool_byte-is_flag_byte}
use Rattle.blake2_state.proofs.SavedLaws.{zeros-are_padded_empty_list}
use Rattle.blake2_state.proofs.blake2b.State.encoded.Goals as goal

pub returns : goal.returns
returns c =
    let s : State = c.args.self.now in
    let lh : length s.chain ≡ 8 = search rules in
    let ls : length s.first ≡ 8 = search rules in
    let whole : length s.pending ≡ 128 = search rules in
    let lp : length (take s.pending_length s.pending) ≡ s.pending_length =
    length-take-le s.pending_length s.pending (omega (arith, whole, c.requires.pending)) in
    let name : List ℕ = saved_state_prefix blake2b in
    let chain : List ℕ = bytes_of blake2b s.chain in
    let first : List ℕ = bytes_of blake2b s.first in
    let counted : List ℕ = to_le_bytes w64 s.counter in
    let numbers : List ℕ = s.output_size ∷ s.pending_length ∷ flag_byte (is_on s.last_node) ∷ [] in
    let lc : length chain ≡ 64 =
    length-bytes_of blake2b s.chain ∙ ap (λ (n : ℕ). n * word_bytes blake2b) lh in
    let lf : length first ≡ 64 =
    length-bytes_of blake2b s.first ∙ ap (λ (n : ℕ). n * word_bytes blake2b) ls in
    let at_first : length (name ++ chain) ≡ 72 = omega (arith, lc, length-append name chain) in
    let at_count : length (name ++ chain ++ first) ≡ 136 =
    omega (arith, at_first, lf, length-append (name ++ chain) first) in
    let at_numbers : length (name ++ chain ++ first ++ counted) ≡ 144 =
    omega (arith, at_count, length-append (name ++ chain ++ first) counted) in
    let at_pending : length (name ++ chain ++ first ++ counted ++ numbers) ≡ 147 =
    omega (arith, at_numbers, length-append (name ++ chain ++ first ++ counted) numbers) in
    let to_chain = c.write_after.ensures [] refl (zeros-are_padded_empty_list 275) in
    let to_first = c.write_after-2.ensures name refl to_chain
    ∙ ap (λ (xs : List ℕ). padded 275 (name ++ xs))
    (c.to_bytes.ensures ∙ ap (bytes_of blake2b) c.to_rows.ensures) in
    let to_count = c.write_after-3.ensures (name ++ chain) at_first to_first
    ∙ ap (λ (xs : List ℕ). padded 275 (name ++ chain ++ xs))
    (c.to_bytes-2.ensures ∙ ap (bytes_of blake2b) c.to_rows-2.ensures) in
    let to_numbers = c.write_after-4.ensures (name ++ chain ++ first) at_count to_count
    ∙ ap (λ (xs : List ℕ). padded 275 (name ++ chain ++ first ++ xs)) c.to_le_bytes.ensures in
    let to_pending =
    c.write_after-5.ensures (name ++ chain ++ first ++ counted) at_numbers to_numbers
    ∙ ap (λ (n : ℕ). padded 275 (name ++ chain ++ first ++ counted
    ++ (s.output_size ∷ s.pending_length ∷ n ∷ []))) (bool_byte-is_flag_byte (is_on s.last_node)) in
    c.write_after-6.ensures (name ++ chain ++ first ++ counted ++ numbers) at_pending to_pending
    ∙ padded_fields-are_encoding blake2b 275 s.output_size s.pending_length (state_of s) lh ls lp
    c.requires.pending refl
