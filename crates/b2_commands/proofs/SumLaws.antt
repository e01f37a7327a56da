-- When a digest is refused, what its key counts for, and what is printed of it.
use Rattle.std.proofs.Common.{◌≡◌, ℕ, ◌+◌, ◌<◌, ◌≤◌, ◌^◌, Bool, false, List, [], ◌∷◌, ◌++◌}
use Rattle.std.proofs.Common.{Option, Some, None, Result, Ok, Err, refl, sym, ap, ◌∙◌}
use Rattle.std.proofs.Common.{subst, arith, length, take, append-nil}
use Rattle.std.specs.Prelude.{◌↔◌, IfSome, IsOkUnless, OnOk, unwrap_or}
use Rattle.std.specs.Io.KnownBytes.{Appends}
use Rattle.blake2.specs.Family.{Family, output_bytes}
use Rattle.blake2.specs.MacArguments.{key_count, HasRefusedLength}
use Rattle.blake2.specs.Hash.{sequential}
use Rattle.blake2.specs.States.{node_digest_of}
use Rattle.blake2_compress.specs.Hash.{parameters_of}
use Rattle.blake2.specs.Streams.{line_of}
use Rattle.blake2_digest.specs.States.{Fresh, Meaning, Updated, digest_now}
use Rattle.blake2_digest.specs.Texts.{padded}
use Rattle.blake2_digest.proofs.Texts.{take-padded}
use Rattle.blake2_state.specs.ConstructorArguments.{AdmitsState, counted_key_bytes}
use Rattle.blake2_state.specs.ConstructorArguments.{key_unless_empty}
use Rattle.blake2_state.specs.Runs.{padded_digest}
use Rattle.b2_commands.specs.declared.fault.Fault.{Fault}
use Rattle.b2_commands.specs.declared.fault.Fault.TheVariants.{WriteFailed}
use Rattle.b2_commands.specs.TaskEnds.{EndsByPrinting}
use Rattle.b2_commands.proofs.AcceptedInputs.{sequential_admitted}
use Rattle.b2_commands.proofs.OutputLaws.{ArgumentsMatchOptions, given_count-equals_key_count}

-- What is refused of a key that is not empty is what the parameters of a state refuse.
pub state_not_admitted-iff_refused : (f : Family) (n : ℕ) (key : Option (List ℕ))
    (salt persona : List ℕ)
    → (key ≡ Some [] → ⊥) → 1 ≤ n → n ≤ output_bytes f
    → (AdmitsState f (parameters_of n (length (unwrap_or key [])) salt persona) → ⊥)
    ↔ HasRefusedLength f key salt persona
unfolding HasRefusedLength
state_not_admitted-iff_refused f n None salt persona other some most = (
  λ no fits. no (record {
    some = some;
    fits = record {
      size = most;
      key_size = omega arith;
      salt = fits.salt_fits;
      persona = fits.persona_fits;
      tree = sequential_admitted f;
    };
  }),
  λ no fits. no (record {
    key_fits = tt;
    salt_fits = fits.fits.salt;
    persona_fits = fits.fits.persona;
  }),
)
state_not_admitted-iff_refused f n (Some []) salt persona other some most = absurd (other refl)
state_not_admitted-iff_refused f n (Some (b ∷ key)) salt persona other some most = (
  λ no fits. no (record {
    some = some;
    fits = record {
      size = most;
      key_size = fits.key_fits.1;
      salt = fits.salt_fits;
      persona = fits.persona_fits;
      tree = sequential_admitted f;
    };
  }),
  λ no fits. no (record {
    key_fits = (omega arith, fits.fits.key_size);
    salt_fits = fits.fits.salt;
    persona_fits = fits.fits.persona;
  }),
)

-- A key that is not empty is the one that its bytes are.
given_key-of_nonempty_key : (key : Option (List ℕ)) → (key ≡ Some [] → ⊥)
    → key_unless_empty (unwrap_or key []) ≡ key
given_key-of_nonempty_key None other = refl
given_key-of_nonempty_key (Some []) other = absurd (other refl)
given_key-of_nonempty_key (Some (b ∷ key)) other = refl

pub init_error-iff_refused : (f : Family) (n : ℕ) (key : Option (List ℕ))
    (salt persona k s p : List ℕ)
    (E : Type 0) → ArgumentsMatchOptions key salt persona k s p → 1 ≤ n → n ≤ output_bytes f
    → E ↔ (AdmitsState f (parameters_of n (length k) s p) → ⊥)
    → E ↔ HasRefusedLength f key salt persona
init_error-iff_refused f n key salt persona k s p E are some most told =
    let is : parameters_of n (length k) s p ≡ parameters_of n (length (unwrap_or key [])) salt persona =
    λ i. parameters_of n (length (are.key_is i)) (are.salt_is i) (are.persona_is i) in
    let law = state_not_admitted-iff_refused f n key salt persona are.not_empty some most in (
      λ e. law.0 (λ fits. told.0 e (subst (AdmitsState f) (sym is) fits)),
      λ no. told.1 (λ fits. law.1 no (subst (AdmitsState f) is fits)),
    )

pub Fresh-for_given_options : {S : Type 0} (f : Family) (m : Meaning S) (n : ℕ)
    (key : Option (List ℕ))
    (salt persona k s p : List ℕ) (made : S) → ArgumentsMatchOptions key salt persona k s p
    → Fresh m (padded_digest (node_digest_of f n s p (key_unless_empty k) sequential)) (counted_key_bytes f k) made
    → Fresh m (padded_digest (node_digest_of f n salt persona key sequential)) (key_count f key) made
Fresh-for_given_options f m n key salt persona k s p made are fresh =
    let count : counted_key_bytes f k ≡ key_count f key =
    ap (counted_key_bytes f) are.key_is ∙ given_count-equals_key_count f key are.not_empty in
    let is : key_unless_empty k ≡ key =
    ap key_unless_empty are.key_is ∙ given_key-of_nonempty_key key are.not_empty in
    subst (λ c. Fresh m (padded_digest (node_digest_of f n salt persona key sequential)) c made) count
    (subst (λ digest. Fresh m (padded_digest digest) (counted_key_bytes f k) made)
    (λ i. node_digest_of f n (are.salt_is i) (are.persona_is i) (is i) sequential) fresh)

-- The beginning of a padded digest.
take-padded_digest_now : {S : Type 0} (m : Meaning S) (digest : Bool → List ℕ → List ℕ) (n size : ℕ)
    (made now : S)
    (bytes : List ℕ) → Fresh m (padded_digest digest) n made → Updated m made bytes now
    → length (digest false bytes) ≡ size → take size (digest_now m now) ≡ digest false bytes
take-padded_digest_now m digest n size made now bytes fresh updated long =
    let own : Bool = m.last_node now in
    let off : own ≡ false = updated.last_node ∙ fresh.last_node in
    let whole : digest_now m now ≡ padded 64 (digest false bytes) =
    updated.future own [] ∙ fresh.future own (bytes ++ [])
    ∙ (λ i. padded 64 (digest (off i) (append-nil bytes i))) in
    ap (take size) whole ∙ ap (λ k. take k (padded 64 (digest false bytes))) (sym long)
    ∙ take-padded 64 (digest false bytes)

-- How the printing of the digest of all that a source had left ends.
pub EndsByPrinting-digest : {S : Type 0} (m : Meaning S) (digest : Bool → List ℕ → List ℕ)
    (n size : ℕ)
    (made now : S) (result : Result (Unit {0}) Fault) (left old new : Option (List ℕ))
    → Fresh m (padded_digest digest) n made → ((y : List ℕ) → length (digest false y) ≡ size)
    → IfSome left (λ bytes. (m.count made + length bytes < 2 ^ 64) × Updated m made bytes now)
    → IsOkUnless result WriteFailed
    → OnOk result (Appends old new (line_of (take size (digest_now m now))))
    → EndsByPrinting (λ message. line_of (digest false message)) n result left old new
EndsByPrinting-digest m digest n size made now (Ok x) None old new fresh long took end line = tt
EndsByPrinting-digest m digest n size made now (Ok x) (Some bytes) old new fresh long took end
    line = (
      omega (arith, took.0, fresh.count),
      subst (λ d. Appends old new (line_of d))
          (take-padded_digest_now m digest n size made now bytes fresh took.1 (long bytes))
          line,
    )
EndsByPrinting-digest m digest n size made now (Err fault) left old new fresh long took end line =
    rw end tt
