-- Made by tools/twins.py from proofs/collision/blake2b/same_digest/Answers.antt.
use Rattle.std.proofs.Common.{◌≡◌, ◌↔◌, ℕ, take, sym, ap, ◌∙◌, rules, IsTrue}
use Rattle.blake2_simd.specs.Family.{blake2s}
use Rattle.blake2_transcript.proofs.DifferingPairs.{digest-from_last_output}
use Rattle.blake2_transcript.proofs.collision.blake2s.same_digest.Goals as goal

pub returns : goal.returns
returns c a b last_a last_b =
    let size : ℕ = c.args.output_size in
    let of_a =
    ap (take size) c.bytes_after-of_a.ensures ∙ digest-from_last_output blake2s size a _ last_a in
    let of_b =
    ap (take size) c.bytes_after-of_b.ensures ∙ digest-from_last_output blake2s size b _ last_b in
    let same : IsTrue c.eq.result ↔ take size c.bytes_after-of_a.result
    ≡ take size c.bytes_after-of_b.result =
    search rules in
    (λ t. sym of_a ∙ same.0 t ∙ of_b, λ e. same.1 (of_a ∙ e ∙ sym of_b))
