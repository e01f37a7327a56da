use Rattle.std.proofs.Common.{◌≡◌, ℕ, List, length, take, ap, ◌∙◌, arith, rules}
use Rattle.blake2_simd.specs.Family.{blake2b}
use Rattle.blake2_compress.specs.Hash.{bytes_of}
use Rattle.blake2_compress.specs.Lanes.{input_at}
use Rattle.blake2_compress.proofs.ManyMessages.{IsColumnOutput-of_rows, column-is_last_chain}
use Rattle.blake2_compress.proofs.ManyMessages.{HoldsForFirst-all, HoldsForFirst-next}
use Rattle.blake2_compress.proofs.many.blake2b.eight.outputs.Goals as goal

pub loop-j-preserved : goal.loop-j-preserved
loop-j-preserved g c =
    let many : length c.transpose-words.result ≡ 8 = search rules in
    let long : length c.to_array.result ≡ 8 = search rules in
    HoldsForFirst-next _ c.loop-j.invariant (omega arith)
    (IsColumnOutput-of_rows blake2b g.row.N c.loop-j.j
    c.transpose-words.result c.to_rows.result _ _ _ (omega arith) long c.to_array.ensures
    c.to_rows.ensures c.output.ensures)

pub returns : goal.returns
returns g c j lt =
    let made = HoldsForFirst-all c.loop-j.invariant c.loop-j-test.false j lt in
    made.1 ∙ ap (λ (w : List ℕ). take g.row.N (bytes_of blake2b w))
    (column-is_last_chain blake2b c.compress_all.new.h _ j _ (input_at c.args.inputs.now j) _ made.0
    (c.compress_all.ensures j lt) (c.start_lanes-h.ensures j lt)
    (λ k low. c.transpose-words.ensures k j low lt))
