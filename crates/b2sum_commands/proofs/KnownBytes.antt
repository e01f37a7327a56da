-- What is known of the bytes of a file that is open: nothing, if nothing is known of its name.
use Rattle.std.proofs.Common.{◌≡◌, ◌⊎◌, ℕ, Bool, true, false, List, Option, Some, None, inl, inr}
use Rattle.std.proofs.Common.{refl}
use Rattle.std.proofs.Common.{◌<◌, length, ap, subst, sym, true≢false, IfSome, if◌then◌else◌}
use Rattle.std.specs.Io.KnownBytes.{Consumes, IsAtEnd}
use Rattle.blake2_streams.specs.Streams.{ReturnsAllBytes}
use Rattle.b2sum_commands.specs.declared.check.Counts.{Counts}
use Rattle.b2sum_commands.specs.declared.check.Verdict.{Verdict}
use Rattle.b2sum_commands.specs.declared.options.Options.{Options}
use Rattle.b2sum_commands.specs.ManifestChecks.{LinesAreReadAndChecked, ManifestCheckIsStopped}
use Rattle.b2sum_commands.specs.ManifestChecks.{EndsAtLineBoundary, CountsAtEnd}
use Rattle.b2sum_commands.specs.KeyTexts.{key_of_file_bytes, max_key_file_bytes}
use Rattle.b2sum_commands.specs.World.{World, Streams, FileHasKey, FileHasNoKey}

-- What an open file has left, if something is known of the file of its name.
abbrev pub IsKnown : Option (List ℕ) → Option (List ℕ) → Type 0
IsKnown held left = IfSome held (λ _. left ≡ held)

-- ---- one file

pub gives_all-of_known_bytes : (held left end : Option (List ℕ)) (text : List ℕ) → IsKnown held left
    → ReturnsAllBytes left end text → (after : Option (List ℕ)) × ReturnsAllBytes held after text
gives_all-of_known_bytes None left end text known gives =
    (None, record { are_bytes = gives.are_bytes; given = tt; at_end = tt })
gives_all-of_known_bytes (Some bytes) left end text known gives =
    (end, subst (λ (l : Option (List ℕ)). ReturnsAllBytes l end text) known gives)

pub file_has_key-of_known_bytes : (held left : Option (List ℕ)) (hex : Bool) (most : ℕ)
    (key : List ℕ)
    → IsKnown held left → FileHasKey left hex most key → FileHasKey held hex most key
file_has_key-of_known_bytes None left hex most key known is =
    record { bytes = is.bytes; end = None; given = tt; at_end = tt; has = is.has }
file_has_key-of_known_bytes (Some bytes) left hex most key known is =
    subst (λ (l : Option (List ℕ)). FileHasKey l hex most key) known is

no_end : (hex : Bool) (bytes : List ℕ) (most : ℕ) (end : Option (List ℕ))
    → (IsAtEnd end × (key_of_file_bytes hex most bytes ≡ None))
    ⊎ (max_key_file_bytes hex most < length bytes)
    → (IsAtEnd None × (key_of_file_bytes hex most bytes ≡ None))
    ⊎ (max_key_file_bytes hex most < length bytes)
no_end hex bytes most end (inl none) = inl (tt, none.1)
no_end hex bytes most end (inr many) = inr many

pub file_has_no_key-of_known_bytes : (held left : Option (List ℕ)) (hex : Bool) (most : ℕ)
    → IsKnown held left
    → FileHasNoKey left hex most → FileHasNoKey held hex most
file_has_no_key-of_known_bytes None left hex most known is =
    (is.0, None, tt, no_end hex is.0 most is.1 is.3)
file_has_no_key-of_known_bytes (Some bytes) left hex most known is =
    subst (λ (l : Option (List ℕ)). FileHasNoKey l hex most) known is

-- ---- a manifest

-- What is known of a manifest: all that standard input has left, or what is known of its file.
pub known_manifest_bytes : Bool → Option (List ℕ) → Option (List ℕ) → Option (List ℕ)
known_manifest_bytes true held left = left
known_manifest_bytes false None left = None
known_manifest_bytes false (Some bytes) left = left

pub known_bytes-of_standard_input : (dash : Bool) (held left : Option (List ℕ)) → dash ≡ true
    → known_manifest_bytes dash held left ≡ left
unfolding known_manifest_bytes
known_bytes-of_standard_input true held left is = refl
known_bytes-of_standard_input false held left is = absurd (true≢false (sym is))

-- What is known at the start.
pub known_bytes-at_start : (dash : Bool) (held left input : Option (List ℕ))
    → (dash ≡ false → IsKnown held left) → (dash ≡ true → left ≡ input)
    → known_manifest_bytes dash held left ≡ (if dash then input else held)
unfolding known_manifest_bytes
known_bytes-at_start true held left input known same = same refl
known_bytes-at_start false None left input known same = refl
known_bytes-at_start false (Some bytes) left input known same = known refl

known_bytes-consumed : (dash : Bool) (held before rest : Option (List ℕ)) (text : List ℕ)
    → Consumes before rest text
    → Consumes (known_manifest_bytes dash held before) (known_manifest_bytes dash held rest) text
unfolding known_manifest_bytes
known_bytes-consumed true held before rest text passed = passed
known_bytes-consumed false None before rest text passed = tt
known_bytes-consumed false (Some bytes) before rest text passed = passed

known_bytes-at_end : (dash : Bool) (held left : Option (List ℕ)) → IsAtEnd left
    → IsAtEnd (known_manifest_bytes dash held left)
unfolding known_manifest_bytes
known_bytes-at_end true held left end = end
known_bytes-at_end false None left end = tt
known_bytes-at_end false (Some bytes) left end = end

pub known_bytes-lines_read : (dash : Bool) (held : Option (List ℕ)) (w : World) (o : Options)
    (input : Bool)
    (before rest : Option (List ℕ)) (old new : Streams) (vs : List Verdict)
    → LinesAreReadAndChecked w o input before rest old new vs
    → LinesAreReadAndChecked w o input (known_manifest_bytes dash held before)
    (known_manifest_bytes dash held rest) old new vs
known_bytes-lines_read dash held w o input before rest old new vs read = record {
  text = read.text;
  passed = known_bytes-consumed dash held before rest read.text read.passed;
  lines = read.lines;
}

pub known_bytes-counts_at_end : (dash : Bool) (held : Option (List ℕ)) (found : Option Counts)
    (vs : List Verdict)
    (rest left : Option (List ℕ)) (failed : Type 0) → CountsAtEnd found vs rest left failed
    → CountsAtEnd found vs (known_manifest_bytes dash held rest)
    (known_manifest_bytes dash held left) failed
known_bytes-counts_at_end dash held None vs rest left failed ends = ends
known_bytes-counts_at_end dash held (Some counts) vs rest left failed ends =
    (ends.0, ap (known_manifest_bytes dash held) ends.1, known_bytes-at_end dash held left ends.2)

known_bytes-line_boundary : (dash : Bool) (held : Option (List ℕ)) (text : List ℕ)
    (rest : Option (List ℕ))
    (failed : Type 0) → EndsAtLineBoundary text ⊎ (IsAtEnd rest ⊎ failed)
    → EndsAtLineBoundary text ⊎ (IsAtEnd (known_manifest_bytes dash held rest) ⊎ failed)
known_bytes-line_boundary dash held text rest failed (inl whole) = inl whole
known_bytes-line_boundary dash held text rest failed (inr (inl end)) = inr
    (inl (known_bytes-at_end dash held rest end))
known_bytes-line_boundary dash held text rest failed (inr (inr broken)) = inr (inr broken)

pub known_bytes-check_stopped : (dash : Bool) (held : Option (List ℕ)) (w : World) (o : Options)
    (name : List ℕ) (input : Bool) (before : Option (List ℕ)) (old new : Streams)
    → ManifestCheckIsStopped w o name input before old new
    → ManifestCheckIsStopped w o name input (known_manifest_bytes dash held before) old new
known_bytes-check_stopped dash held w o name input before old new s = record {
  text = s.text;
  rest = known_manifest_bytes dash held s.rest;
  passed = known_bytes-consumed dash held before s.rest s.text s.passed;
  whole = known_bytes-line_boundary dash held s.text s.rest (w.breaks name) s.whole;
  left = s.left;
  leaves = s.leaves;
  lines = s.lines;
}
