-- The run of an input is its transcript, and the words of its parameter block.
use Rattle.std.proofs.Common.{ne_eqb, eq-eqb, ◌≡◌, ℕ, ◌+◌, ◌-◌, ◌*◌, ◌<◌, Bool, false, List, []}
use Rattle.std.proofs.Common.{map, length, refl, sym, ap, subst, ◌∙◌, arith, get_or, nat_eq}
use Rattle.std.proofs.lemmas.List.{length-map, same_lists, get_or_default, get_or-map}
use Rattle.std.proofs.Math.Nat.{min-eq_left, min-eq_right}
use Rattle.std.specs.Prelude.{if◌then◌else◌}
use Rattle.std.specs.List.{concat}
use Rattle.blake2_simd.specs.Family.{Family, block_bytes}
use Rattle.blake2_compress.specs.Hash.{input_flags, inner, Parameters, input_parameters, padded}
use Rattle.blake2_compress.specs.Hash.{parameter_words, blocks, Input, input_data, Step, steps}
use Rattle.blake2_compress.specs.Run.{step_count, run_step, last_step}
use Rattle.blake2_transcript.specs.Transcript.{Entry, entry, no_entry, IsTranscript}
use Rattle.blake2_compress.proofs.SplitRuns.{length-cut, block_count-positive}
use Rattle.blake2_compress.proofs.Runs.{length-steps, get_or-steps, inner_block-is_whole}
use Rattle.blake2_compress.proofs.JoinedBlocks.{concat-cut, block_count-covers_data}

-- ---- the last step

-- The last step's counter is the counted length.
pub last_step-counter : (f : Family) (size : ℕ) (a : Input)
    → (last_step f size a).counter ≡ length (input_data f a)
last_step-counter f size a =
    let n : ℕ = step_count f a in
    let all : n - 1 + 1 ≡ n = omega (arith, block_count-positive f (length (input_data f a))) in
    rw all (min-eq_right (block_count-covers_data f (length (input_data f a))))

-- The last step's flags are the input's.
last_step-flags : (f : Family) (size : ℕ) (a : Input) → (last_step f size a).flags ≡ input_flags a
last_step-flags f size a =
    let n : ℕ = step_count f a in
    let all : n - 1 + 1 ≡ n = omega (arith, block_count-positive f (length (input_data f a))) in
    ap (λ (b : Bool). if b then input_flags a else inner) (eq-eqb _ _ all)

-- ---- the run's entries are a transcript

-- Entry i of a run is that of its step i.
pub run_entries-at : (f : Family) (size : ℕ) (a : Input) (i : ℕ) (d : Entry) → i < step_count f a
    → get_or (map entry (steps f size a)) i d ≡ entry (run_step f size a i)
run_entries-at f size a i d h =
    let none : Step = record { chain = []; block = []; counter = 0; flags = inner } in
    get_or-map entry (steps f size a) i none d (omega (arith, length-steps f size a))
    ∙ ap entry (get_or-steps f size a i none h)

-- The law: the parameter words and the entries of a run are the transcript of its input.
pub run_steps-are_transcript : (f : Family) (size : ℕ) (a : Input)
    → IsTranscript f (parameter_words f (input_parameters size a))
    (map entry (steps f size a)) size a
run_steps-are_transcript f size a =
    let z : List ℕ = input_data f a in
    let n : ℕ = step_count f a in
    let es : List Entry = map entry (steps f size a) in
    let block : Entry → List ℕ = λ (e : Entry). e.block in
    let le : length es ≡ n = length-map (steps f size a) entry ∙ length-steps f size a in
    let lb : length (map block es) ≡ n = length-map es block ∙ le in
    let lc : length (blocks f z) ≡ n = length-cut f n z in
    let bs : map block es ≡ blocks f z = same_lists (map block es) (blocks f z) (lb ∙ sym lc)
    (λ k d h. get_or-map block es k no_entry d (omega arith)
    ∙ ap block (run_entries-at f size a k no_entry (omega arith))
    ∙ get_or_default (blocks f z) k [] d (omega arith)) in
    record {
      parameters = refl;
      number = le;
      below = λ i d h.
          let is = run_entries-at f size a i d (omega arith) in
          let not_last : nat_eq (i + 1) n ≡ false = ne_eqb _ _ (λ e. omega arith) in (
            ap (λ (e : Entry). e.counter) is ∙ min-eq_left
                (inner_block-is_whole f (length z) i (omega arith)),
            ap (λ (e : Entry). e.flags) is ∙ ap (λ (b : Bool).
                if b then input_flags a else inner) not_last,
          );
      ends = λ d.
          let some : 0 < n = block_count-positive f (length z) in
          let is : get_or es (length es - 1) d ≡ entry (last_step f size a) =
          ap (λ (m : ℕ). get_or es (m - 1) d) le
          ∙ run_entries-at f size a (n - 1) d (omega arith) in (
            ap (λ (e : Entry). e.counter) is ∙ last_step-counter f size a,
            ap (λ (e : Entry). e.flags) is ∙ last_step-flags f size a,
          );
      blocks = ap concat bs ∙ concat-cut f n z (block_count-covers_data f (length z))
          ∙ ap (λ (k : ℕ). padded (k * block_bytes f) z) (sym le);
    }

-- Words and entries that are those of a run are a transcript.
pub IsTranscript-of_run_entries : (f : Family) (size : ℕ) (a : Input) (words : List ℕ)
    (es : List Entry)
    (p : Parameters) → p ≡ input_parameters size a
    → words ≡ parameter_words f p → es ≡ map entry (steps f size a) → IsTranscript f words es size a
IsTranscript-of_run_entries f size a words es p named w e =
    subst (λ (x : List ℕ). IsTranscript f x es size a) (sym (w ∙ ap (parameter_words f) named))
    (subst (λ (x : List Entry). IsTranscript f (parameter_words f (input_parameters size a)) x size
    a) (sym e) (run_steps-are_transcript f size a))
