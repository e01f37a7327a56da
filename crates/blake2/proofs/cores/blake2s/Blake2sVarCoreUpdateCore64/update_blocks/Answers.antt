-- Made by tools/twins.py from proofs/cores/blake2b/Blake2bVarCoreUpdateCore128/update_blocks/Answers.antt.
use Rattle.std.proofs.Common.{sym, ap, ◌∙◌, arith}
use Rattle.blake2_simd.specs.Family.{blake2s}
use Rattle.blake2_simd.specs.Rows.{chaining_words}
use Rattle.blake2.specs.CoreLaws.{absorbed-nil}
use Rattle.blake2.specs.Cores.{CoreState}
use Rattle.blake2.proofs.CoreSteps.{absorbed-one, absorbed-next}
use Rattle.blake2.proofs.cores.blake2s.Blake2sVarCoreUpdateCore64.update_blocks.Goals as goal

pub each-init : goal.each-init
each-init c = record {
  taken = c.self.view_is ∙ sym (absorbed-nil blake2s c.args.self.now);
  counted = omega (arith, ap (λ (core : CoreState). core.count) c.self.view_is);
}

pub each-preserved : goal.each-preserved
each-preserved c = record {
  taken = absorbed-next blake2s c.args.self.now _ _ c.args.blocks.now c.each.block-index
      c.each-test.true c.each.invariant.taken
      (absorbed-one blake2s _ _ (chaining_words c.compress.new.h) c.compress.ensures);
  counted = omega (arith, c.each.invariant.counted);
}
