use Rattle.std.proofs.Common.{ℕ, sym, subst, arith, rules, get_or, Fits, w64}
use Rattle.blake2_simd.specs.Family.{blake2b}
use Rattle.blake2_simd.specs.Round.{AreWords}
use Rattle.blake2_simd.proofs.Words.{cells-drop}
use Rattle.blake2_simd.proofs.rows.u64_lanes.u64x4.to_rows.Goals as goal

pub returns-clause-rows : goal.returns-clause-rows
returns-clause-rows c =
    rw (c.gather.ensures, c.gather-2.ensures, c.gather-3.ensures, c.gather-4.ensures)
    (cells-drop c.args.words.now 0 16 (omega arith))

pub returns-clause-are_words : goal.returns-clause-are_words
returns-clause-are_words c =
    let words : (i : ℕ) → Fits w64 (get_or c.args.words.now i 0) = search rules in
    subst (AreWords blake2b) (sym (returns-clause-rows c)) (λ i. (words i).fits)
