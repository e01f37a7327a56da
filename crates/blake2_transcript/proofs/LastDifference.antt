-- Two runs compared from the front. The last pair that differs is kept.
use Rattle.std.proofs.Common.{◌≡◌, ◌≢◌, ℕ, ◌+◌, ◌-◌, ◌<◌, ◌≤◌, ◌⊎◌, inl, inr, List, length, sym, ap}
use Rattle.std.proofs.Common.{subst, ◌∙◌, arith, below_more}
use Rattle.std.specs.Prelude.{Option, Some, None, MatchOption}
use Rattle.blake2_simd.specs.Family.{Family, output_bytes}
use Rattle.blake2_compress.specs.Hash.{block_count, Input, input_data, input_start, input_flags}
use Rattle.blake2_compress.specs.Hash.{digest, Step, output}
use Rattle.blake2_compress.specs.Inputs.{Accepts}
use Rattle.blake2_compress.specs.Run.{step_count, run_step, last_step}
use Rattle.blake2_transcript.specs.Witness.{Collide, IsWitness}
use Rattle.blake2_transcript.specs.declared.steps.Step as GivenStep
use Rattle.blake2_transcript.specs.StepViews.{step_of}
use Rattle.blake2_transcript.specs.Transcript.{Entry, entry, step_of_entry}
use Rattle.blake2_compress.proofs.SplitRuns.{block_count-positive}
use Rattle.blake2_compress.proofs.Runs.{output-is_next_chain}
use Rattle.blake2_transcript.proofs.RunTranscripts.{last_step-counter}
use Rattle.blake2_transcript.proofs.DifferingPairs.{first_difference-is_witness}
use Rattle.blake2_transcript.proofs.DifferingPairs.{equal_steps-same_input, chain-at_zero}

-- ---- what the comparison keeps

-- x and y are the last pair that differs among the first n steps of two runs.
pub record IsLastDifferentPair (f : Family) (size : ℕ) (a b : Input) (n : ℕ) (x y : Step) : Type
    0 where
  pub place : ℕ
  pub within : place < n
  pub of_a : x ≡ run_step f size a place
  pub of_b : y ≡ run_step f size b place
  pub differ : x ≢ y
  pub after : (i : ℕ) → i < n → place < i → run_step f size a i ≡ run_step f size b i

-- Two steps of the code.
abbrev pub StepPair : ℕ → Type 0
StepPair B = GivenStep.Step ℕ B × GivenStep.Step ℕ B

-- What a comparison of the first n steps of both runs has kept: nothing if they are equal in pairs.
abbrev pub KeepsLastDifference : {B : ℕ} → Family → ℕ → Input → Input → ℕ → Option (StepPair B)
    → Type 0
KeepsLastDifference f size a b n kept =
    MatchOption kept ((i : ℕ) → i < n → run_step f size a i ≡ run_step f size b i)
    (λ w. IsLastDifferentPair f size a b n (step_of w.0) (step_of w.1))

-- An equal pair leaves what was kept.
KeepsLastDifference-equal_pair : {B : ℕ} (f : Family) (size : ℕ) (a b : Input) (i : ℕ)
    (kept : Option (StepPair B))
    → run_step f size a i ≡ run_step f size b i → KeepsLastDifference f size a b i kept
    → KeepsLastDifference f size a b (i + 1) kept
KeepsLastDifference-equal_pair f size a b i None here all = below_more _ _ all here
KeepsLastDifference-equal_pair f size a b i (Some w) here k = record {
  place = k.place;
  within = omega (arith, k.within);
  of_a = k.of_a;
  of_b = k.of_b;
  differ = k.differ;
  after = below_more _ _ k.after (λ _. here);
}

-- ---- a step of the comparison

-- The step of a run's entry, with the chaining words that the run has there, is the run's step.
step_of_entry-is_run_step : (f : Family) (size : ℕ) (a : Input) (h : List ℕ) (i : ℕ) (e : Entry)
    → h ≡ (run_step f size a i).chain → e ≡ entry (run_step f size a i)
    → step_of_entry h e ≡ run_step f size a i
step_of_entry-is_run_step f size a h i e chained is = λ k. step_of_entry (chained k) (is k)

-- A run's first chaining words.
pub input_start-is_first_chain : (f : Family) (size : ℕ) (a : Input) (h : List ℕ)
    → h ≡ input_start f size a
    → h ≡ (run_step f size a 0).chain
input_start-is_first_chain f size a h e = e ∙ sym (chain-at_zero f _ 0 _)

-- The result of F for the step of an entry is the next chaining words.
pub step_output-is_next_chain : (f : Family) (size : ℕ) (a : Input) (i : ℕ) (h next : List ℕ)
    (e : Entry)
    → h ≡ (run_step f size a i).chain → e ≡ entry (run_step f size a i)
    → next ≡ output f (step_of_entry h e) → i + 1 < step_count f a
    → next ≡ (run_step f size a (i + 1)).chain
step_output-is_next_chain f size a i h next e chained is by lt =
    by ∙ ap (output f) (step_of_entry-is_run_step f size a h i e chained is)
    ∙ output-is_next_chain f (input_start f size a) (input_data f a) (input_flags a) i lt

-- The step of a run's last entry.
pub last_entry_step-is_last_step : (f : Family) (size : ℕ) (a : Input) (i last : ℕ) (h : List ℕ)
    (e : Entry)
    → last ≡ step_count f a - 1 → i ≡ last
    → h ≡ (run_step f size a i).chain → e ≡ entry (run_step f size a last)
    → step_of_entry h e ≡ last_step f size a
last_entry_step-is_last_step f size a i last h e ends at chained is =
    step_of_entry-is_run_step f size a h last e
    (chained ∙ ap (λ (k : ℕ). (run_step f size a k).chain) at) is ∙ ap (run_step f size a) ends

-- What a comparison has after n steps of both runs: the chaining words of each, if another step
-- follows, and what it has kept.
pub record ComparedSteps (B : ℕ) (f : Family) (size : ℕ) (a b : Input) (n : ℕ) (g h : List ℕ)
    (kept : Option (StepPair B)) : Type 0 where
  pub of_a : n < step_count f a → g ≡ (run_step f size a n).chain
  pub of_b : n < step_count f b → h ≡ (run_step f size b n).chain
  pub holds : KeepsLastDifference f size a b n kept

-- A comparison begins.
pub ComparedSteps-at_start : (B : ℕ) (f : Family) (size : ℕ) (a b : Input) (g h : List ℕ)
    → g ≡ input_start f size a → h ≡ input_start f size b → ComparedSteps B f size a b 0 g h None
ComparedSteps-at_start B f size a b g h of_a of_b = record {
  of_a = λ _. input_start-is_first_chain f size a g of_a;
  of_b = λ _. input_start-is_first_chain f size b h of_b;
  holds = λ i h. absurd (omega arith);
}

-- At a pair x and y, a comparison that has kept `kept` keeps `next`: the pair, if it differs.
abbrev pub KeepsPairIfDifferent : (B : ℕ) → Step → Step → Option (StepPair B) → Option (StepPair B)
    → Type 0
KeepsPairIfDifferent B x y kept next = ((x ≡ y) × (next ≡ kept))
    ⊎ ((w : StepPair B) × (next ≡ Some w) × (step_of w.0 ≡ x) × (step_of w.1 ≡ y) × (x ≢ y))

-- A comparison goes on by one pair.
pub ComparedSteps-next : (B : ℕ) (f : Family) (size : ℕ) (a b : Input) (i : ℕ) (g h g' h' : List ℕ)
    (x y : Entry) (kept next : Option (StepPair B)) → ComparedSteps B f size a b i g h kept
    → i < step_count f a → i < step_count f b
    → x ≡ entry (run_step f size a i) → y ≡ entry (run_step f size b i)
    → g' ≡ output f (step_of_entry g x) → h' ≡ output f (step_of_entry h y)
    → KeepsPairIfDifferent B (step_of_entry g x) (step_of_entry h y) kept next
    → ComparedSteps B f size a b (i + 1) g' h' next
ComparedSteps-next B f size a b i g h g' h' x y kept next walk in_a in_b is_x is_y by_a by_b keeps =
    let of_a = step_of_entry-is_run_step f size a g i x (walk.of_a in_a) is_x in
    let of_b = step_of_entry-is_run_step f size b h i y (walk.of_b in_b) is_y in
    record {
      of_a = step_output-is_next_chain f size a i g g' x (walk.of_a in_a) is_x by_a;
      of_b = step_output-is_next_chain f size b i h h' y (walk.of_b in_b) is_y by_b;
      holds = elim keeps [
        | inl (same, still) ↦ subst (KeepsLastDifference f size a b (i + 1)) (sym still)
            (KeepsLastDifference-equal_pair f size a b i kept (sym of_a ∙ same ∙ of_b) walk.holds)
        | inr (w, is, of_x, of_y, differ) ↦
            subst (KeepsLastDifference f size a b (i + 1)) (sym is) (record {
              place = i;
              within = omega arith;
              of_a = of_x ∙ of_a;
              of_b = of_y ∙ of_b;
              differ = λ e. differ (sym of_x ∙ e ∙ of_y);
              after = λ k h past. absurd (omega arith);
            })
      ];
    }

-- ---- the end of the comparison

-- The law: if two inputs collide and have the same number of steps, the comparison keeps a witness.
pub ComparedSteps-gives_witness : (B : ℕ) (f : Family) (size : ℕ) (a b : Input) (n : ℕ)
    (g h : List ℕ)
    (kept : Option (StepPair B)) → Accepts f a → Accepts f b → size ≤ output_bytes f
    → Collide f size a b → step_count f a ≡ step_count f b → n ≡ step_count f a
    → ComparedSteps B f size a b n g h kept
    → MatchOption kept ⊥ (λ w. IsWitness f a b size (step_of w.0) (step_of w.1))
ComparedSteps-gives_witness B f size a b n g h None p q fits c numbers end walk =
    c.different (equal_steps-same_input f size a b p q fits numbers
    (λ i l. walk.holds i (omega arith)))
ComparedSteps-gives_witness B f size a b n g h (Some w) p q fits c numbers end walk =
    let k : IsLastDifferentPair f size a b n (step_of w.0) (step_of w.1) = walk.holds in
    let within : k.place < n = k.within in
    let j : ℕ = step_count f a - 1 - k.place in
    let ea : k.place ≡ step_count f a - 1 - j = omega arith in
    let eb : k.place ≡ step_count f b - 1 - j = omega arith in
    first_difference-is_witness f size a b j (step_of w.0) (step_of w.1) (omega arith) (omega arith)
    (k.of_a ∙ ap (run_step f size a) ea) (k.of_b ∙ ap (run_step f size b) eb)
    (λ i l. let e : step_count f a - 1 - i ≡ step_count f b - 1 - i = omega arith in
    k.after (step_count f a - 1 - i) (omega arith) (omega arith) ∙ ap (run_step f size b) e)
    k.differ c.digests

-- The law: last steps that differ are a witness, if the digests are equal.
pub different_last_steps-are_witness : (f : Family) (size : ℕ) (a b : Input) (u v x y : Step)
    → digest f size a ≡ digest f size b → u ≢ v
    → u ≡ last_step f size a → v ≡ last_step f size b → x ≡ u → y ≡ v → IsWitness f a b size x y
different_last_steps-are_witness f size a b u v x y digests differ of_a of_b is_x is_y =
    let ea : step_count f a - 1 ≡ step_count f a - 1 - 0 = omega arith in
    let eb : step_count f b - 1 ≡ step_count f b - 1 - 0 = omega arith in
    first_difference-is_witness f size a b 0 x y (block_count-positive f (length (input_data f a)))
    (block_count-positive f (length (input_data f b))) (is_x ∙ of_a ∙ ap (run_step f size a) ea)
    (is_y ∙ of_b ∙ ap (run_step f size b) eb) (λ i h. absurd (omega arith))
    (λ e. differ (sym is_x ∙ e ∙ is_y)) digests

-- If the last steps are equal, so are the numbers of steps, by their counters.
pub equal_last_steps_same_count : (f : Family) (size : ℕ) (a b : Input) (x y : Step) → x ≡ y
    → x ≡ last_step f size a → y ≡ last_step f size b → step_count f a ≡ step_count f b
equal_last_steps_same_count f size a b x y e xa yb =
    ap (block_count f) (sym (last_step-counter f size a)
    ∙ ap (λ (s : Step). s.counter) (sym xa ∙ e ∙ yb) ∙ last_step-counter f size b)
