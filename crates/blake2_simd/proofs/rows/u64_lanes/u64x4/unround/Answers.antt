use Rattle.std.proofs.Common.{ℕ, rules, refl, sym, ◌∙◌, get_or, Fits, w64}
use Rattle.blake2_simd.specs.Family.{blake2b}
use Rattle.blake2_simd.specs.Round.{round}
use Rattle.blake2_simd.specs.Rows.{work_words}
use Rattle.blake2_simd.proofs.Undoing.{round_injective}
use Rattle.blake2_simd.proofs.rows.u64_lanes.u64x4.unround.Goals as goal

pub returns-clause-undoes : goal.returns-clause-undoes
unfolding round
returns-clause-undoes c =
    rw (
      c.to_rows.ensures.rows,
      c.unmix-8.ensures,
      c.unmix-7.ensures,
      c.unmix-6.ensures,
      c.unmix-5.ensures,
      c.unmix-4.ensures,
      c.unmix-3.ensures,
      c.unmix-2.ensures,
      c.unmix.ensures,
    ) c.words-w.ensures

pub returns-clause-only : goal.returns-clause-only
returns-clause-only c u words long same =
    let m : (i : ℕ) → Fits w64 (get_or c.args.m.now i 0) = search rules in
    round_injective blake2b u (work_words c.to_rows.result) c.args.m.now c.args.s.now words
    c.to_rows.ensures.are_words (λ i. (m i).fits) long refl
    (same ∙ sym (returns-clause-undoes c))
