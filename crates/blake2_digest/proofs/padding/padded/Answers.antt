use Rattle.std.proofs.Common.{◌≡◌, rules, ℕ, List, ◌++◌, length, drop, replicate, ap, ◌∙◌}
use Rattle.std.proofs.lemmas.Grind.{common_steps}
use Rattle.blake2_digest.proofs.Texts.{zeros_overwritten}
use Rattle.blake2_digest.proofs.padding.padded.Goals as goal

pub returns : goal.returns
returns g c =
    let bytes : List ℕ = c.args.bytes.now in
    let copied : c.copy_from_slice.new.self ≡ bytes = search (rules, common_steps) in
    ap (λ (xs : List ℕ). xs ++ drop (length bytes) (replicate g.row.N 0)) copied
    ∙ zeros_overwritten g.row.N bytes
