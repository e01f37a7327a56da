-- Made by tools/twins.py from proofs/blake2xb/State/update/Answers.antt.
use Rattle.std.proofs.Common.{refl}
use Rattle.blake2_simd.specs.Family.{blake2s}
use Rattle.blake2_state.specs.Blake2s as Root
use Rattle.blake2_xof.specs.Blake2xs.{settings_of}
use Rattle.blake2_xof.proofs.StateLaws.{Updated-by_updated_root_hash}
use Rattle.blake2_xof.proofs.blake2xs.State.update.Goals as goal

pub returns-clause-updated : goal.returns-clause-updated
returns-clause-updated c =
    Updated-by_updated_root_hash blake2s Root.meaning (λ s. s.root) (λ s. settings_of s.reader) _
    c.args.input.now _
    refl c.update.ensures.updated
