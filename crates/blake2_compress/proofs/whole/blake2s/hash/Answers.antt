-- Made by tools/twins.py from proofs/whole/blake2b/hash/Answers.antt.
use Rattle.std.proofs.Common.{◌≡◌, ◌∙◌, List, ℕ, Option, false, ap, sym}
use Rattle.blake2_simd.specs.Family.{blake2s}
use Rattle.blake2_simd.specs.Rows.{chaining_words}
use Rattle.blake2_compress.specs.Hash.{data_bytes, final, last_chain, start}
use Rattle.blake2_compress.specs.Views.{key_of}
use Rattle.blake2_compress.proofs.WholeMessages.{data_bytes-without_key, digest-from_last_chain}
use Rattle.blake2_compress.proofs.whole.blake2s.hash.Goals.{in-None, in-Some}
use Rattle.blake2_compress.proofs.whole.blake2s.hash.Goals as goal

pub returns : goal.returns
returns c =
    let key : Option (List ℕ) = key_of c.args.key in
    let m : List ℕ = c.args.message.now in
    let begun : List ℕ = chaining_words c.start_rows-h.result in
    let after : List ℕ → List ℕ = λ z. last_chain blake2s begun 0 z (final false) in
    let run : chaining_words c.match-key.h ≡ after (data_bytes blake2s key m) =
    elim c.match-key.branch [
      | in-None w ↦ ap chaining_words w.h-is ∙ w.compress_all.ensures
          ∙ ap after (data_bytes-without_key blake2s key m (ap key_of w.in-None.is))
      | in-Some w ↦ ap chaining_words w.h-is ∙ w.absorb_keyed.ensures
          ∙ ap (λ k. after (data_bytes blake2s k m)) (sym (ap key_of w.in-Some.is))
    ] in
    digest-from_last_chain blake2s c.args.output_size key m begun _ _ c.to_bytes.ensures
    (c.start_rows-h.ensures ∙ ap (start blake2s) c.parameters.ensures) run
