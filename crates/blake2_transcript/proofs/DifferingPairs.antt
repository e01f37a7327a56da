-- The last pair of steps of two runs that differs is a witness, and if no pair differs, the inputs
-- are the same.
use Rattle.std.proofs.Common.{◌≡◌, ◌≢◌, ℕ, ◌+◌, ◌-◌, ◌<◌, ◌≤◌, inl, inr, List, length, map, take}
use Rattle.std.proofs.Common.{refl, sym, ap, ◌∙◌, arith, get_or}
use Rattle.std.proofs.lemmas.List.{same_lists}
use Rattle.std.proofs.lemmas.Bool.{cases_lt}
use Rattle.blake2_simd.specs.Family.{Family, output_bytes}
use Rattle.blake2_compress.specs.Hash.{input_flags, input_parameters, parameter_words, chain}
use Rattle.blake2_compress.specs.Hash.{bytes_of, Input, input_data, input_start, digest, Step}
use Rattle.blake2_compress.specs.Hash.{output, steps}
use Rattle.blake2_compress.specs.Inputs.{Accepts, SameUpToTrailingZeros}
use Rattle.blake2_compress.specs.Run.{step_count, run_step, last_step}
use Rattle.blake2_transcript.specs.Transcript.{entry}
use Rattle.blake2_transcript.specs.Witness.{step_from_end, IsWitness}
use Rattle.blake2_compress.proofs.SplitRuns.{block_count-positive}
use Rattle.blake2_compress.proofs.Runs.{length-steps, get_or-steps, output-is_next_chain}
use Rattle.blake2_compress.proofs.Runs.{output-of_last_step}
use Rattle.blake2_transcript.proofs.ParametersNamed.{start-injective}
use Rattle.blake2_transcript.proofs.DeterminedInputs.{TranscriptDeterminesInput-holds}
use Rattle.blake2_transcript.proofs.RunTranscripts.{run_steps-are_transcript}
use Rattle.blake2_transcript.proofs.RunTranscripts.{IsTranscript-of_run_entries}

-- The step at distance j from the end of a run.
abbrev run_step_from_end : Family → ℕ → Input → ℕ → Step
run_step_from_end f size a j = run_step f size a (step_count f a - 1 - j)

step_from_end-is_run_step : (f : Family) (size : ℕ) (a : Input) (j : ℕ) (d : Step)
    → j < step_count f a
    → step_from_end (steps f size a) j d ≡ run_step_from_end f size a j
step_from_end-is_run_step f size a j d h =
    ap (λ (n : ℕ). get_or (steps f size a) (n - 1 - j) d) (length-steps f size a)
    ∙ get_or-steps f size a (step_count f a - 1 - j) d (omega arith)

-- The chaining words before the first block.
pub chain-at_zero : (f : Family) (h : List ℕ) (c : ℕ) (d : List (List ℕ)) → chain f h c d 0 ≡ h
unfolding chain
chain-at_zero f h c d = refl

-- Steps that are equal at every index come from the same input.
pub equal_steps-same_input : (f : Family) (size : ℕ) (a b : Input) → Accepts f a → Accepts f b
    → size ≤ output_bytes f → step_count f a ≡ step_count f b
    → ((i : ℕ) → i < step_count f a → run_step f size a i ≡ run_step f size b i)
    → SameUpToTrailingZeros f a b
equal_steps-same_input f size a b p q h numbers each =
    let some = block_count-positive f (length (input_data f a)) in
    let starts : input_start f size a ≡ input_start f size b =
    sym (chain-at_zero f _ 0 _) ∙ ap (λ (s : Step). s.chain) (each 0 some)
    ∙ chain-at_zero f _ 0 _ in
    let lists : steps f size a ≡ steps f size b = same_lists (steps f size a) (steps f size b)
    (length-steps f size a ∙ numbers ∙ sym (length-steps f size b))
    (λ k d l. let within : k < step_count f a = omega (arith, length-steps f size a) in
    get_or-steps f size a k d within ∙ each k within
    ∙ sym (get_or-steps f size b k d (omega arith))) in
    (TranscriptDeterminesInput-holds f (parameter_words f (input_parameters size a))
    (map entry (steps f size a)) size size a b
    (record { fits = h; accepted = p; is = run_steps-are_transcript f size a })
    (record {
      fits = h;
      accepted = q;
      is = IsTranscript-of_run_entries f size b _ _ (input_parameters size b) refl
          (start-injective f (input_parameters size a) (input_parameters size b) starts)
          (ap (map entry) lists);
    })).1

-- What F returns for a step is the next step's chaining words.
output-is_next_chain_from_end : (f : Family) (size : ℕ) (a : Input) (j : ℕ) → j < step_count f a
    → 0 < j
    → output f (run_step_from_end f size a j) ≡ (run_step_from_end f size a (j - 1)).chain
output-is_next_chain_from_end f size a j within some =
    let next : step_count f a - 1 - j + 1 ≡ step_count f a - 1 - (j - 1) = omega arith in
    output-is_next_chain f (input_start f size a) (input_data f a) (input_flags a)
    (step_count f a - 1 - j)
    (omega arith)
    ∙ ap (λ (i : ℕ). (run_step f size a i).chain) next

-- The digest is that of the output of any step that equals the last.
pub digest-from_last_output : (f : Family) (size : ℕ) (a : Input) (s : Step)
    → s ≡ last_step f size a
    → take size (bytes_of f (output f s)) ≡ digest f size a
unfolding digest
digest-from_last_output f size a s e =
    ap (λ (s : Step). take size (bytes_of f (output f s))) e
    ∙ ap (λ (h : List ℕ). take size (bytes_of f h))
    (output-of_last_step f (input_start f size a) (input_data f a) (input_flags a))

-- The law: the first pair from the ends that differs is a witness, if the digests are equal.
pub first_difference-is_witness : (f : Family) (size : ℕ) (a b : Input) (j : ℕ) (x y : Step)
    → j < step_count f a → j < step_count f b
    → x ≡ run_step_from_end f size a j → y ≡ run_step_from_end f size b j
    → ((i : ℕ) → i < j → run_step_from_end f size a i ≡ run_step_from_end f size b i)
    → x ≢ y → digest f size a ≡ digest f size b → IsWitness f a b size x y
first_difference-is_witness f size a b j x y ja jb xa yb nearer differ digests =
    let whole : 0 < j → output f x ≡ output f y =
    λ some. ap (output f) xa ∙ output-is_next_chain_from_end f size a j ja some
    ∙ ap (λ (s : Step). s.chain) (nearer (j - 1) (omega arith))
    ∙ sym (output-is_next_chain_from_end f size b j jb some) ∙ ap (output f) (sym yb) in
    let agree : take size (bytes_of f (output f x)) ≡ take size (bytes_of f (output f y)) =
    elim (cases_lt 0 j) [
      | inl some ↦ ap (λ (h : List ℕ). take size (bytes_of f h)) (whole some)
      | inr none ↦
          (let ea : step_count f a - 1 - j ≡ step_count f a - 1 = omega arith in
          let eb : step_count f b - 1 - j ≡ step_count f b - 1 = omega arith in
          digest-from_last_output f size a x (xa ∙ ap (run_step f size a) ea) ∙ digests
          ∙ sym (digest-from_last_output f size b y (yb ∙ ap (run_step f size b) eb)))
    ] in (
      j,
      record {
        in_a = omega (arith, length-steps f size a);
        in_b = omega (arith, length-steps f size b);
        of_a = λ d. xa ∙ sym (step_from_end-is_run_step f size a j d ja);
        of_b = λ d. yb ∙ sym (step_from_end-is_run_step f size b j d jb);
        nearer = λ i d h. step_from_end-is_run_step f size a i d (omega arith) ∙ nearer i h
            ∙ sym (step_from_end-is_run_step f size b i d (omega arith));
        differ = differ;
        agree = agree;
        wholly = whole;
      },
    )
