-- The key of a key file.
use Rattle.std.proofs.Common.{◌≡◌, ◌⊎◌, ℕ, Bool, true, false, List, Option, Some, None, Result, Ok}
use Rattle.std.proofs.Common.{Err}
use Rattle.std.proofs.Common.{IfOk, IfSome, if◌then◌else◌, inl, inr, sym, subst, length, ◌<◌, []}
use Rattle.std.proofs.Common.{Vec, Global, refl, ap, ◌∙◌}
use Rattle.std.specs.Io.KnownBytes.{Consumes, IsAtEnd}
use Rattle.std.specs.declared.io.Error.{Error}
use Rattle.b2sum_commands.specs.KeyTexts.{key_of_file_bytes, max_key_file_bytes}
use Rattle.b2sum_commands.specs.Messages.{Cannot, is_standard_input}
use Rattle.b2sum_lines.specs.ManifestLines.{max_bytes}
use Rattle.std.specs.Option.{option_map}
use Rattle.b2sum_commands.specs.CommandLine.{Choice}
use Rattle.b2sum_commands.specs.declared.options.Options.{Options}
use Rattle.b2sum_commands.specs.ProgramRuns.{ReadsOnlyKey, ChosenKeyIsRead, KeyFileHasNoKey}
use Rattle.b2sum_commands.specs.ProgramRuns.{ReadsKeyAndWarns, TellsNoKey}
use Rattle.b2sum_commands.specs.ProgramRuns.{WarnsIfKeyIsDigits, key_file_bytes}
use Rattle.b2sum_commands.specs.ProgramRuns.{derived_or_same_key, max_key_bytes}
use Rattle.b2sum_commands.specs.ProgramRuns.{no_key_reason}
use Rattle.b2sum_commands.specs.World.{FileHasKey, FileHasNoKey, Streams, TellsMessage, World}
use Rattle.b2sum_commands.proofs.KnownBytes.{IsKnown, file_has_no_key-of_known_bytes}

-- What holds of what two calls found, if it follows from two facts.
pub found_by_both-combine : {A E : Type 0} (r : Result (Option A) E) (P Q R : A → Type 0)
    → ((x : A) → P x → Q x → R x) → IfOk r (λ k. IfSome k P) → IfOk r (λ k. IfSome k Q)
    → IfOk r (λ k. IfSome k R)
found_by_both-combine (Ok (Some x)) P Q R f p q = f x p q
found_by_both-combine (Ok None) P Q R f p q = tt
found_by_both-combine (Err e) P Q R f p q = tt

pub none_found : {A E : Type 0} (r : Result (Option A) E) (X Y : Type 0) → (X → Y)
    → IfOk r (λ k. k ≡ None → X) → IfOk r (λ k. k ≡ None → Y)
none_found (Ok k) X Y f h = λ is. f (h is)
none_found (Err e) X Y f h = tt

-- All bytes of a file have this key.
pub file_has_key-if_all_bytes_do : (hex : Bool) (most : ℕ) (left end : Option (List ℕ))
    (bytes key : List ℕ)
    → Consumes left end bytes → IsAtEnd end → Some key ≡ key_of_file_bytes hex most bytes
    → FileHasKey left hex most key
file_has_key-if_all_bytes_do hex most left end bytes key given at_end has =
    record { bytes = bytes; end = end; given = given; at_end = at_end; has = sym has }

-- All bytes of a file have no key.
pub file_has_no_key-if_bytes_have_none : (hex : Bool) (most : ℕ) (left end : Option (List ℕ))
    (bytes : List ℕ)
    → Consumes left end bytes → IsAtEnd end → None ≡ key_of_file_bytes hex most bytes
    → FileHasNoKey left hex most
file_has_no_key-if_bytes_have_none hex most left end bytes given at_end none =
    (bytes, end, given, inl (at_end, sym none))

-- A file has more bytes than one with a key.
pub file_has_no_key-if_too_long : (hex : Bool) (most : ℕ) (left end : Option (List ℕ))
    (bytes : List ℕ)
    → Consumes left end bytes → max_key_file_bytes hex most < length bytes
    → FileHasNoKey left hex most
file_has_no_key-if_too_long hex most left end bytes given many = (bytes, end, given, inr many)

-- An open file of this name, of which so much is left, has no key, as a message says.
abbrev pub OpenFileHasNoKey : World → List ℕ → Bool → ℕ → Option (List ℕ) → Streams → Streams
    → Type 0
OpenFileHasNoKey w name hex most left old new = (reason : List ℕ)
    × (((e : Error) × w.fails name e × w.files.describes e reason)
    ⊎ (FileHasNoKey left hex most × (reason ≡ no_key_reason hex most)))
    × TellsMessage w old new (Cannot name reason)

-- Standard input has no key.
pub no_key_told-for_standard_input : (w : World) (name : List ℕ) (hex : Bool) (most : ℕ)
    (old new : Streams)
    → is_standard_input name ≡ true → OpenFileHasNoKey w name hex most old.left old new
    → TellsNoKey w name hex most old new
no_key_told-for_standard_input w name hex most old new dash told = (told.0, go told.1, told.2)
  where
    go : ((e : Error) × w.fails name e × w.files.describes e told.0)
        ⊎ (FileHasNoKey old.left hex most × (told.0 ≡ no_key_reason hex most))
        → KeyFileHasNoKey w old.left hex most name told.0
    go (inl broken) = inl (broken.0, inr broken.1, broken.2)
    go (inr none) = inr (
      subst (λ (b : Bool). FileHasNoKey (if b then old.left else w.files.holds name) hex most)
          (sym dash)
          none.0,
      none.1,
    )

-- A file has no key.
pub no_key_told-for_file : (w : World) (name : List ℕ) (hex : Bool) (most : ℕ)
    (left : Option (List ℕ))
    (old new : Streams) → is_standard_input name ≡ false → IsKnown (w.files.holds name) left
    → OpenFileHasNoKey w name hex most left old new → TellsNoKey w name hex most old new
no_key_told-for_file w name hex most left old new other known told = (told.0, go told.1, told.2)
  where
    go : ((e : Error) × w.fails name e × w.files.describes e told.0)
        ⊎ (FileHasNoKey left hex most × (told.0 ≡ no_key_reason hex most))
        → KeyFileHasNoKey w old.left hex most name told.0
    go (inl broken) = inl (broken.0, inr broken.1, broken.2)
    go (inr none) = inr (
      subst (λ (b : Bool). FileHasNoKey (if b then old.left else w.files.holds name) hex most)
          (sym other)
          (file_has_no_key-of_known_bytes (w.files.holds name) left hex most known none.0),
      none.1,
    )

-- What `KeyFileHasKey` says of the name of a key file.
abbrev HasKeyOf : World → Option (List ℕ) → Choice → List ℕ → Options → List ℕ → Type 0
HasKeyOf w left c key o name =
    FileHasKey (key_file_bytes w.files left name) o.key_is_hex (max_key_bytes o) key
    × (o.key.items ≡ derived_or_same_key w.hashing c.context (max_bytes o.algorithm) key)

-- There is no key file.
pub key_read-if_no_key_file : (w : World) (c : Choice) (o : Options) (s : Streams)
    (file : Option (Vec ℕ Global)) → file ≡ None
    → option_map (λ (n : Vec ℕ Global). n.items) file ≡ c.key_file → ChosenKeyIsRead w c o s s
key_read-if_no_key_file w c o s file none given =
    let named : None ≡ c.key_file =
    sym (ap (option_map (λ (n : Vec ℕ Global). n.items)) none) ∙ given in (
      [],
      subst (λ (f : Option (List ℕ)). IfSome f (HasKeyOf w s.left c [] o)) named tt,
      subst (λ (f : Option (List ℕ)). ReadsKeyAndWarns w f o.key_is_hex [] s s) named
          (s, (s.left, refl, refl), refl),
    )

-- The key file has a key.
pub key_read-from_key_file : (w : World) (c : Choice) (o : Options) (old read new : Streams)
    (file : Option (Vec ℕ Global)) (name : Vec ℕ Global) (shown key : List ℕ)
    → file ≡ Some name → option_map (λ (n : Vec ℕ Global). n.items) file ≡ c.key_file
    → shown ≡ name.items
    → FileHasKey (key_file_bytes w.files old.left shown) o.key_is_hex (max_key_bytes o) key
    → o.key.items ≡ derived_or_same_key w.hashing c.context (max_bytes o.algorithm) key
    → ReadsOnlyKey (Some shown) old read
    → WarnsIfKeyIsDigits w.program (Some shown) o.key_is_hex key read new
    → ChosenKeyIsRead w c o old new
key_read-from_key_file w c o old read new file name shown key some given is has from after warned =
    let named : Some shown ≡ c.key_file =
    ap Some is ∙ sym (ap (option_map (λ (n : Vec ℕ Global). n.items)) some) ∙ given in (
      key,
      subst (λ (f : Option (List ℕ)). IfSome f (HasKeyOf w old.left c key o)) named (has, from),
      subst (λ (f : Option (List ℕ)). ReadsKeyAndWarns w f o.key_is_hex key old new) named
          (read, after, warned),
    )
