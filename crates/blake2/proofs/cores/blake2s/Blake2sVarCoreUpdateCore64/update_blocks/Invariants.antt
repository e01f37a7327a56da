-- Made by tools/twins.py from proofs/cores/blake2b/Blake2bVarCoreUpdateCore128/update_blocks/Invariants.antt.
use Rattle.std.proofs.Common.{◌≡◌, ◌+◌, ◌*◌, take}
use Rattle.blake2_simd.specs.Family.{blake2s}
use Rattle.blake2_simd.specs.Rows.{chaining_words}
use Rattle.blake2.specs.Cores.{CoreState, absorbed}
use Rattle.blake2.proofs.cores.blake2s.Blake2sVarCoreUpdateCore64.update_blocks.Given as goal

abbrev pub invariant-each : goal.invariant-each
invariant-each l =
    let held : CoreState = record {
      h = chaining_words l.self-inside.h;
      start = chaining_words l.self-inside.start;
      count = l.self-inside.counter;
      last_node = l.self-inside.last_node;
    } in record {
      taken : held ≡ absorbed blake2s l.fn.self (take l.block-index l.blocks);
      counted : l.self-inside.counter ≡ l.fn.self.count + 64 * l.block-index;
    }
