use Rattle.std.proofs.Common.{ap, ◌∙◌}
use Rattle.blake2_simd.specs.Family.{blake2b}
use Rattle.blake2_simd.specs.Rows.{chaining_words}
use Rattle.blake2_compress.specs.Hash.{bytes_of}
use Rattle.blake2.specs.Cores.{CoreState, completed}
use Rattle.blake2.proofs.CoreSteps.{completed-by}
use Rattle.blake2.proofs.cores.blake2b.Blake2bVarCoreVariableOutputCore12864.finalize_variable_core.Goals as goal

pub returns-clause-core : goal.returns-clause-core
returns-clause-core c =
    completed-by blake2b _ c.args.buffer.now c.get_pos.result c.pad_with_zeros-block.result
    (chaining_words c.compress.new.h) _
    c.get_pos.ensures.pending c.pad_with_zeros-block.ensures.padded c.last_block-flags.ensures c.compress.ensures
    ∙ ap (λ (core : CoreState). completed blake2b core c.args.buffer.now) c.self.view_is

pub returns-clause-output : goal.returns-clause-output
returns-clause-output c = c.to_bytes.ensures ∙ ap (λ (core : CoreState). bytes_of blake2b core.h)
    (returns-clause-core c)
