-- When an output is refused, what its key counts for, and what is printed of a whole output.
use Rattle.std.proofs.Common.{◌≡◌, ℕ, ◌<◌, ◌≤◌, List, [], ◌∷◌, Option, Some, None, Result, Ok, Err}
use Rattle.std.proofs.Common.{◌+◌, ◌^◌, ◌++◌, false, refl, sym, ap, ◌∙◌, subst, arith, length, take}
use Rattle.std.proofs.Common.{drop}
use Rattle.std.proofs.lemmas.Bool.Decides.{nat_tests}
use Rattle.std.specs.Prelude.{◌↔◌, IfSome, IsOkUnless, OnOk, unwrap_or}
use Rattle.std.specs.Io.KnownBytes.{Appends}
use Rattle.blake2.specs.Family.{Family, blake2b, blake2s}
use Rattle.blake2.specs.MacArguments.{key_count, HasRefusedLength}
use Rattle.blake2_digest.specs.States.{Fresh, Meaning, Updated, digest_now}
use Rattle.blake2_state.specs.ConstructorArguments.{counted_key_bytes}
use Rattle.blake2_xof.specs.Xof.{AdmitsXof, IsKnownLength, Settings, outputs, settings}
use Rattle.blake2_xof.specs.Xof.{unknown_length}
use Rattle.blake2_xof.specs.Xof.{xof}
use Rattle.blake2_xof.specs.Xof.{output_length, root_hash, xof_output}
use Rattle.blake2_xof.proofs.KnownOutputs.{output_length-of_known_length, whole_read-is_xof}
use Rattle.blake2_xof.proofs.OutputBlocks.{length-xof_output}
use Rattle.b2_commands.specs.declared.fault.Fault.{Fault}
use Rattle.b2_commands.specs.declared.fault.Fault.TheVariants.{WriteFailed}
use Rattle.b2_commands.specs.TaskEnds.{EndsByPrinting}

-- A key of no bytes is refused.
pub empty_key-is_refused : (f : Family) (salt persona : List ℕ)
    → HasRefusedLength f (Some []) salt persona
unfolding HasRefusedLength
empty_key-is_refused f salt persona admits = absurd (omega (arith, admits.key_fits.0))

-- Any other is refused as the lengths of an output are.
pub xof_not_admitted-iff_refused : (f : Family) (n : ℕ) (key : Option (List ℕ))
    (salt persona : List ℕ)
    → (key ≡ Some [] → ⊥) → 1 ≤ n → n < unknown_length f
    → (AdmitsXof f (settings n (unwrap_or key []) salt persona) → ⊥)
    ↔ HasRefusedLength f key salt persona
unfolding HasRefusedLength
xof_not_admitted-iff_refused f n None salt persona other some known = (
  λ no fits. no (record {
    some = some;
    xof_length = omega (arith, known);
    key = omega arith;
    salt = fits.salt_fits;
    persona = fits.persona_fits;
  }),
  λ no fits. no (record { key_fits = tt; salt_fits = fits.salt; persona_fits = fits.persona }),
)
xof_not_admitted-iff_refused f n (Some []) salt persona other some known = absurd (other refl)
xof_not_admitted-iff_refused f n (Some (b ∷ key)) salt persona other some known = (
  λ no fits. no (record {
    some = some;
    xof_length = omega (arith, known);
    key = fits.key_fits.1;
    salt = fits.salt_fits;
    persona = fits.persona_fits;
  }),
  λ no fits. no (record {
    key_fits = (omega arith, fits.key);
    salt_fits = fits.salt;
    persona_fits = fits.persona;
  }),
)

-- A key that is not empty counts for a block, and no key for nothing.
pub given_count-equals_key_count : (f : Family) (key : Option (List ℕ)) → (key ≡ Some [] → ⊥)
    → counted_key_bytes f (unwrap_or key []) ≡ key_count f key
given_count-equals_key_count f None other = refl
given_count-equals_key_count f (Some []) other = absurd (other refl)
given_count-equals_key_count f (Some (b ∷ key)) other = refl

-- The arguments of an output are the given ones.
pub record ArgumentsMatchOptions (key : Option (List ℕ)) (salt persona k s p : List ℕ) : Type
    0 where
  pub key_is : k ≡ unwrap_or key []
  pub salt_is : s ≡ salt
  pub persona_is : p ≡ persona
  pub not_empty : key ≡ Some [] → ⊥

settings-equal_for_options : (n : ℕ) (key : Option (List ℕ)) (salt persona k s p : List ℕ)
    → ArgumentsMatchOptions key salt persona k s p
    → settings n k s p ≡ settings n (unwrap_or key []) salt persona
settings-equal_for_options n key salt persona k s p are =
    λ i. settings n (are.key_is i) (are.salt_is i) (are.persona_is i)

pub init_error-iff_refused : (f : Family) (n : ℕ) (key : Option (List ℕ))
    (salt persona k s p : List ℕ)
    (E : Type 0) → ArgumentsMatchOptions key salt persona k s p → 1 ≤ n → n < unknown_length f
    → E ↔ (AdmitsXof f (settings n k s p) → ⊥) → E ↔ HasRefusedLength f key salt persona
init_error-iff_refused f n key salt persona k s p E are some known told =
    let is = settings-equal_for_options n key salt persona k s p are in
    let law = xof_not_admitted-iff_refused f n key salt persona are.not_empty some known in (
      λ e. law.0 (λ fits. told.0 e (subst (AdmitsXof f) (sym is) fits)),
      λ no. told.1 (λ fits. law.1 no (subst (AdmitsXof f) is fits)),
    )

pub Fresh-for_given_options : {S : Type 0} (f : Family) (m : Meaning S) (n : ℕ)
    (key : Option (List ℕ))
    (salt persona k s p : List ℕ) (made : S) → ArgumentsMatchOptions key salt persona k s p
    → Fresh m (outputs f (settings n k s p)) (counted_key_bytes f k) made
    → Fresh m (outputs f (settings n (unwrap_or key []) salt persona)) (key_count f key) made
Fresh-for_given_options f m n key salt persona k s p made are fresh =
    let count : counted_key_bytes f k ≡ key_count f key =
    ap (counted_key_bytes f) are.key_is ∙ given_count-equals_key_count f key are.not_empty in
    subst (λ a. Fresh m (outputs f a) (key_count f key) made)
    (settings-equal_for_options n key salt persona k s p are)
    (subst (λ c. Fresh m (outputs f (settings n k s p)) c made) count fresh)

output_length-positive : (f : Family) (n : ℕ) → 1 ≤ n → 1 ≤ output_length f n
output_length-positive blake2b n some = grind (arith, nat_tests)
output_length-positive blake2s n some = grind (arith, nat_tests)

-- After an update an output has the length that it was made with.
pub output_length-after_update : {S : Type 0} (f : Family) (m : Meaning S) (a b : Settings) (n : ℕ)
    (made now : S)
    (x root : List ℕ) → IsKnownLength f a.xof_length → 1 ≤ a.xof_length → Fresh m (outputs f a) n made
    → Updated m made x now → 1 ≤ b.xof_length → m.future now false [] ≡ xof_output f b root
    → output_length f b.xof_length ≡ a.xof_length
output_length-after_update f m a b n made now x root known some fresh updated other is =
    let size = output_length-of_known_length f a.xof_length known in
    let same : xof_output f b root ≡ xof f a (x ++ []) =
    sym is ∙ updated.future false [] ∙ fresh.future false (x ++ []) in
    sym (length-xof_output f b root (output_length-positive f b.xof_length other)) ∙ ap length same
    ∙ length-xof_output f a (root_hash f a (x ++ [])) (omega (arith, size)) ∙ size

-- What is printed of a whole output that was read from its first byte on.
pub printed_text-is_xof_output : {S : Type 0} (text : List ℕ → List ℕ) (f : Family) (m : Meaning S)
    (a : Settings) (n : ℕ)
    (made now : S) (x : List ℕ) (position : ℕ) (all : List ℕ) (result : Result (Unit {0}) Fault)
    (old new : Option (List ℕ)) → IsKnownLength f a.xof_length → 1 ≤ a.xof_length
    → Fresh m (outputs f a) n made → Updated m made x now → position ≡ 0
    → all ≡ digest_now m now
    → OnOk result (Appends old new (text (take a.xof_length (drop position all))))
    → OnOk result (Appends old new (text (xof f a x)))
printed_text-is_xof_output text f m a n made now x position all (Ok _) old new known some fresh
    updated first is
    bytes =
    subst (λ out. Appends old new (text out))
    (whole_read-is_xof f m a n made now x position all (take a.xof_length (drop position all)) known
    some
    fresh updated first is refl) bytes
printed_text-is_xof_output text f m a n made now x position all (Err _) old new known some fresh
    updated first is
    bytes =
    tt

-- How an output of all that a source had left ends.
pub EndsByPrinting-xof_output : {S : Type 0} (text : List ℕ → List ℕ) (f : Family) (m : Meaning S)
    (a : Settings) (n : ℕ) (made now : S) (position : ℕ) (all : List ℕ)
    (result : Result (Unit {0}) Fault) (left old new : Option (List ℕ))
    → IsKnownLength f a.xof_length → 1 ≤ a.xof_length → Fresh m (outputs f a) n made
    → IfSome left (λ bytes. (m.count made + length bytes < 2 ^ 64) × Updated m made bytes now)
    → position ≡ 0 → all ≡ digest_now m now → IsOkUnless result WriteFailed
    → OnOk result (Appends old new (text (take a.xof_length (drop position all))))
    → EndsByPrinting (λ message. text (xof f a message)) n result left old new
EndsByPrinting-xof_output text f m a n made now position all (Ok _) None old new known some fresh
    took first is end
    printed =
    tt
EndsByPrinting-xof_output text f m a n made now position all (Ok x) (Some bytes) old new known some
    fresh took first
    is end printed = (
      omega (arith, took.0, fresh.count),
      printed_text-is_xof_output text f m a n made now bytes position all (Ok x) old new known some
          fresh took.1
          first is printed,
    )
EndsByPrinting-xof_output text f m a n made now position all (Err fault) left old new known some
    fresh took first is
    end printed =
    rw end tt
