use Rattle.std.proofs.Common.{◌≡◌, ◌⊎◌, ◌+◌, ◌<◌, ◌≤◌, ◌∙◌, ℕ, List, [], Bor, ap, arith, inl, inr, length, map}
use Rattle.std.proofs.Common.{slice_index_or, subst, sym}
use Rattle.std.specs.List.{All}
use Rattle.std.proofs.lemmas.List.{length-map}
use Rattle.blake2_simd.specs.Family.{Family, blake2b, blake2s}
use Rattle.blake2_compress.specs.Hash.{parameters_of, sequential}
use Rattle.blake2_state.specs.ConstructorArguments.{AdmitsState, counted_key_bytes}
use Rattle.blake2_state.specs.ConstructorArguments.{parameters_given}
use Rattle.blake2_state.specs.declared.StateParameters.{StateParameters}
use Rattle.b2sum_lines.specs.declared.entry.Algorithm.{Algorithm}
use Rattle.b2sum.specs.RefusedTexts.{accepts_lengths, text_limit}
use Rattle.b2sum.proofs.hashes.Blake2Hashes.digest_several.Goals as goal

-- Parameters of these lengths are accepted, if they are by the options.
given_parameters-admitted : (f : Family) (given : StateParameters) (n : ℕ)
    (key salt persona : List ℕ)
    → given.output_size ≡ n → given.key.now ≡ key → given.salt.now ≡ salt
    → given.persona.now ≡ persona → AdmitsState f (parameters_of n (length key) salt persona)
    → AdmitsState f (parameters_given given sequential)
given_parameters-admitted f given n key salt persona size keyed salted personal admits =
    subst (λ (k : ℕ). AdmitsState f
    (parameters_of k (length given.key.now) given.salt.now given.persona.now)) (sym size)
    (subst (λ (k : List ℕ). AdmitsState f
    (parameters_of n (length k) given.salt.now given.persona.now)) (sym keyed)
    (subst (λ (k : List ℕ). AdmitsState f (parameters_of n (length key) k given.persona.now))
    (sym salted) (subst (λ (k : List ℕ). AdmitsState f (parameters_of n (length key) salt k))
    (sym personal) admits)))

-- Then no short texts are refused without a key.
short_texts-not_refused : (f : Family) (given : StateParameters) (limit n : ℕ)
    (texts : List (List ℕ))
    → length texts ≡ n → given.key.now ≡ [] → AdmitsState f (parameters_given given sequential)
    → All (λ text. length text < limit) texts
    → (AdmitsState f (parameters_given given sequential) → ⊥) ⊎ ((j : ℕ) × (j < n)
    × (limit ≤ counted_key_bytes f given.key.now + length (slice_index_or texts j []))) → ⊥
short_texts-not_refused f given limit n texts long none admits short refused =
    let count : counted_key_bytes f given.key.now ≡ 0 = ap (counted_key_bytes f) none in
    elim refused [
      | inl not ↦ not admits
      | inr full ↦ absurd (omega (
        arith,
        full.2,
        short full.0 [] (omega (arith, full.1, long)),
        count,
      ))
    ]

pub returns-in-Blake2b-clause-refused : goal.returns-in-Blake2b-clause-refused
returns-in-Blake2b-clause-refused c is has =
    let o = c.args.options.now in
    let given = c.parameters-given in
    let texts : List (List ℕ) = map {A = Bor (List ℕ)} {B = List ℕ} (λ t. t.now) c.args.texts.now in
    short_texts-not_refused blake2b given.result (text_limit c.args.function.algorithm) _ texts
    (length-map c.args.texts.now (λ (t : Bor (List ℕ)). t.now)) (given.ensures.key ∙ has.no_key)
    (given_parameters-admitted blake2b given.result c.args.function.bytes o.key.items o.salt.items
    o.persona.items
    given.ensures.size given.ensures.key given.ensures.salt given.ensures.persona
    (subst (λ (a : Algorithm). accepts_lengths a c.args.function.bytes o.key.items o.salt.items
    o.persona.items) c.in-Blake2b.is has.accepted)) has.short
    (subst (λ (a : Algorithm). (AdmitsState blake2b (parameters_given given.result sequential) → ⊥)
    ⊎ ((j : ℕ) × (j < length c.args.texts.now)
    × (text_limit a ≤ counted_key_bytes blake2b given.result.key.now + length
    (slice_index_or texts j []))))
    (sym c.in-Blake2b.is) (c.digest_several.ensures.refused is))

pub returns-in-Blake2s-clause-refused : goal.returns-in-Blake2s-clause-refused
returns-in-Blake2s-clause-refused c is has =
    let o = c.args.options.now in
    let given = c.parameters-given in
    let texts : List (List ℕ) = map {A = Bor (List ℕ)} {B = List ℕ} (λ t. t.now) c.args.texts.now in
    short_texts-not_refused blake2s given.result (text_limit c.args.function.algorithm) _ texts
    (length-map c.args.texts.now (λ (t : Bor (List ℕ)). t.now)) (given.ensures.key ∙ has.no_key)
    (given_parameters-admitted blake2s given.result c.args.function.bytes o.key.items o.salt.items
    o.persona.items
    given.ensures.size given.ensures.key given.ensures.salt given.ensures.persona
    (subst (λ (a : Algorithm). accepts_lengths a c.args.function.bytes o.key.items o.salt.items
    o.persona.items) c.in-Blake2s.is has.accepted)) has.short
    (subst (λ (a : Algorithm). (AdmitsState blake2s (parameters_given given.result sequential) → ⊥)
    ⊎ ((j : ℕ) × (j < length c.args.texts.now)
    × (text_limit a ≤ counted_key_bytes blake2s given.result.key.now + length
    (slice_index_or texts j []))))
    (sym c.in-Blake2s.is) (c.digest_several-in-Blake2s.ensures.refused is))
