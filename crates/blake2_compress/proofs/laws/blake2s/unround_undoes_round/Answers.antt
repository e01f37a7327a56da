-- Made by tools/twins.py from proofs/laws/blake2b/unround_undoes_round/Answers.antt.
use Rattle.std.proofs.Common.{ℕ, rules, refl, sym, get_or, Fits, w32}
use Rattle.blake2_simd.specs.Family.{blake2s}
use Rattle.blake2_simd.specs.Round.{AreWords}
use Rattle.blake2_simd.specs.Rows.{work_words}
use Rattle.blake2_compress.proofs.laws.blake2s.unround_undoes_round.Goals as goal

pub returns-clause-undone : goal.returns-clause-undone
returns-clause-undone c =
    let fits : (i : ℕ) → Fits w32 (get_or c.words-words.result i 0) = search rules in
    let words : AreWords blake2s (work_words c.args.v.now) =
    rw c.words-words.ensures at (λ (i : ℕ). (fits i).fits) in
    sym (c.unround.ensures.only (work_words c.args.v.now) words refl (sym c.round.ensures))
