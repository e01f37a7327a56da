-- Made by tools/twins.py from proofs/whole/blake2b/absorb_keyed/Answers.antt.
use Rattle.std.proofs.Common.{◌≡◌, ◌<◌, ◌∙◌, ℕ, false, nat_eq, rules, sym}
use Rattle.blake2_simd.specs.Family.{blake2s}
use Rattle.blake2_simd.specs.Rows.{chaining_words}
use Rattle.blake2_compress.specs.Hash.{compress, final, inner}
use Rattle.blake2_compress.proofs.WholeMessages.{last_chain-key_then_message, last_chain-key_only}
use Rattle.blake2_compress.proofs.whole.blake2s.absorb_keyed.Goals as goal

positive_if_not_zero : (n : ℕ) → false ≡ nat_eq n 0 → 0 < n
positive_if_not_zero n e = search rules

pub returns-then-is_empty : goal.returns-then-is_empty
returns-then-is_empty c =
    last_chain-key_only blake2s (chaining_words c.args.h.now) c.args.key.now c.args.message.now _
    (final false)
    c.requires.key (search rules) (c.compress.ensures
    ∙ (λ k. compress blake2s (chaining_words c.args.h.now) (c.padded-block.ensures k) 64
    (c.last_block.ensures k)))

pub returns : goal.returns
returns c =
    last_chain-key_then_message blake2s (chaining_words c.args.h.now)
    (chaining_words c.compress-2.new.h) c.args.key.now
    c.args.message.now _ (final false) c.requires.key
    (positive_if_not_zero _ (sym c.if-is_empty.false ∙ c.is_empty.ensures)) (c.compress-2.ensures
    ∙ (λ k. compress blake2s (chaining_words c.args.h.now) (c.padded-block.ensures k) 64 inner))
    c.compress_all.ensures
