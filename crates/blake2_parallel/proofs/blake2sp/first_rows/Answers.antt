-- Made by tools/twins.py from proofs/blake2bp/first_rows/Answers.antt.
use Rattle.std.proofs.Common.{◌≡◌, ℕ, ◌<◌, List, [], ◌∷◌, bit_xor, replicate, slice_index, ap, ◌∙◌}
use Rattle.std.proofs.Common.{refl}
use Rattle.blake2_simd.specs.Family.{blake2s}
use Rattle.blake2_simd.specs.Lanes.{in_lane}
use Rattle.blake2_simd.proofs.Lanes.{for_each_of_eight_lanes}
use Rattle.blake2_compress.specs.Hash.{parameter_block, parameter_words, start, words_of, xor_words}
use Rattle.blake2_parallel.specs.Parallel.{Settings, parallel_node_parameters, settings}
use Rattle.blake2_parallel.proofs.blake2sp.first_rows.Goals as goal

pub returns : goal.returns
unfolding start parameter_words parameter_block words_of xor_words
returns c j lane =
    let a : Settings =
    settings c.args.output_size c.args.key.now c.args.salt.now c.args.persona.now in
    let from : ℕ → List ℕ = λ k. start blake2s (parallel_node_parameters blake2s a k 0) in
    let same : List ℕ → ℕ → List ℕ = λ h k. replicate 8 (slice_index h k) in
    let offset : List ℕ → ℕ → ℕ → ℕ = λ h k m. bit_xor (slice_index h k) m in
    let each : List ℕ → ℕ → List ℕ = λ h k.
    slice_index h k ∷ offset h k 1 ∷ offset h k 2 ∷ offset h k 3
    ∷ offset h k 4 ∷ offset h k 5 ∷ offset h k 6 ∷ offset h k 7 ∷ [] in
    let rows : List ℕ → List (List ℕ) = λ h.
    same h 0 ∷ same h 1 ∷ each h 2 ∷ same h 3 ∷ same h 4 ∷ same h 5 ∷ same h 6 ∷ same h 7 ∷ [] in
    let started : (k : ℕ) → k < 8 → in_lane k (rows (from 0)) ≡ from k =
    for_each_of_eight_lanes (λ k. in_lane k (rows (from 0)) ≡ from k) refl refl refl refl refl refl
    refl refl in
    ap (λ (h : List ℕ). in_lane j (rows h))
    (c.start_words.ensures ∙ ap (start blake2s) c.parameters-first.ensures) ∙ started j lane
