-- The check of a manifest that is open.
use Rattle.std.proofs.Common.{◌≡◌, ℕ, Bool, List, Option, Result, Ok, Err, IfOk, None, is_none}
use Rattle.std.proofs.Common.{true, if◌then◌else◌, ap, subst, ◌∙◌}
use Rattle.std.specs.Result.{result_ok}
use Rattle.b2sum_commands.specs.LineReads.{IsOpenManifest, source_left, source_name_or_dash}
use Rattle.b2sum_commands.specs.ManifestChecks.{LinesAreReadAndChecked, ManifestCheckIsStopped}
use Rattle.b2sum_commands.specs.ManifestChecks.{CountsAtEnd, ManifestIsCheckedFromHere}
use Rattle.b2sum_commands.specs.Messages.{is_standard_input}
use Rattle.b2sum_commands.specs.Reports.{TellsManifestEnd}
use Rattle.b2sum_commands.specs.World.{OnlyTells, Streams, TellsText, World}
use Rattle.b2sum_commands.specs.declared.check.Counts.{Counts}
use Rattle.b2sum_commands.specs.declared.check.Verdict.{Verdict}
use Rattle.b2sum_commands.specs.declared.options.Options.{Options}
use Rattle.b2sum_commands.proofs.CheckedLines.{manifest_checked-at_end}
use Rattle.b2sum_commands.proofs.CheckedLines.{bytes_left-of_standard_input}
use Rattle.b2sum_commands.proofs.EndedByErrors.{stopped-after_last_line}
use Rattle.b2sum_commands.proofs.KnownBytes.{known_manifest_bytes, known_bytes-counts_at_end}
use Rattle.b2sum_commands.proofs.KnownBytes.{known_bytes-of_standard_input, known_bytes-lines_read}
use Rattle.b2sum_commands.proofs.KnownBytes.{known_bytes-at_start}
use Rattle.b2sum_commands.proofs.KnownBytes.{known_bytes-check_stopped}

-- What is known of an open manifest at first.
known_bytes-of_open_manifest : {F : Type 0} (named : F → List ℕ) (left : F → Option (List ℕ))
    (file : Option F)
    (lines : List ℕ) (held input : Option (List ℕ)) (name : List ℕ)
    → IsOpenManifest named left held input name file lines
    → known_manifest_bytes (is_standard_input name) held (source_left left file input)
    ≡ (if is_standard_input name then input else held)
known_bytes-of_open_manifest named left file lines held input name opened =
    known_bytes-at_start (is_standard_input name) held (source_left left file input) input
    opened.whole
    (λ dash. bytes_left-of_standard_input left file input (opened.is_input ∙ dash))

-- An error ended its check.
pub open_manifest-check_stopped : {F : Type 0} (named : F → List ℕ) (left : F → Option (List ℕ))
    (file : Option F)
    (lines : List ℕ) (w : World) (o : Options) (name : List ℕ) (old new : Streams)
    → IsOpenManifest named left (w.files.holds name) old.left name file lines
    → ManifestCheckIsStopped w o (source_name_or_dash named file) (is_none file)
    (source_left left file old.left) old new
    → ManifestIsCheckedFromHere w o name old new None
open_manifest-check_stopped named left file lines w o name old new opened stopped =
    let held = w.files.holds name in
    let before = source_left left file old.left in
    subst (λ (l : Option (List ℕ)). ManifestCheckIsStopped w o name (is_standard_input name) l old
    new)
    (known_bytes-of_open_manifest named left file lines held old.left name opened)
    (known_bytes-check_stopped (is_standard_input name) held w o name (is_standard_input name)
    before old new
    (subst (λ (b : Bool). ManifestCheckIsStopped w o name b before old new) opened.is_input
    (subst (λ (n : List ℕ). ManifestCheckIsStopped w o n (is_none file) before old new)
    opened.is_named stopped)))

-- Its lines were checked, and its last messages are told, or an error ended that.
manifest_checked-or_stopped : {E : Type 0} (w : World) (o : Options) (name : List ℕ)
    (old mid new : Streams)
    (vs : List Verdict) (found : Option Counts) (before rest at : Option (List ℕ)) (r : Result Bool E)
    → before ≡ (if is_standard_input name then old.left else w.files.holds name)
    → LinesAreReadAndChecked w o (is_standard_input name) before rest old mid vs
    → CountsAtEnd found vs rest at (w.breaks name) → (is_standard_input name ≡ true → at ≡ mid.left)
    → OnlyTells mid new
    → IfOk r (λ holds. TellsManifestEnd w.program o name found holds (TellsText mid new))
    → ManifestIsCheckedFromHere w o name old new (result_ok r)
manifest_checked-or_stopped w o name old mid new vs found before rest at (Ok holds) from read ends
    input last told =
    manifest_checked-at_end w o name old mid new vs found holds before rest at from read ends input
    last told
manifest_checked-or_stopped w o name old mid new vs found before rest at (Err e) from read ends
    input last told =
    subst (λ (l : Option (List ℕ)). ManifestCheckIsStopped w o name (is_standard_input name) l old
    new) from
    (stopped-after_last_line w o name (is_standard_input name) before rest at old mid new vs found
    read ends
    (ap (λ (s : Streams). s.held) last))

pub open_manifest-is_checked : {F E : Type 0} (named : F → List ℕ) (left : F → Option (List ℕ))
    (file after : Option F) (lines : List ℕ) (w : World) (o : Options) (name : List ℕ)
    (old mid new : Streams) (rest : Option (List ℕ)) (vs : List Verdict) (found : Option Counts)
    (r : Result Bool E) → IsOpenManifest named left (w.files.holds name) old.left name file lines
    → is_none after ≡ is_none file
    → LinesAreReadAndChecked w o (is_none file) (source_left left file old.left) rest old mid vs
    → CountsAtEnd found vs rest (source_left left after mid.left)
    (w.breaks (source_name_or_dash named file))
    → OnlyTells mid new
    → IfOk r (λ holds. TellsManifestEnd w.program o name found holds (TellsText mid new))
    → ManifestIsCheckedFromHere w o name old new (result_ok r)
open_manifest-is_checked named left file after lines w o name old mid new rest vs found r opened
    same read ends last told =
    let held = w.files.holds name in
    let first = source_left left file old.left in
    let now = source_left left after mid.left in
    manifest_checked-or_stopped w o name old mid new vs found
    (known_manifest_bytes (is_standard_input name) held first)
    (known_manifest_bytes (is_standard_input name) held rest)
    (known_manifest_bytes (is_standard_input name) held now) r
    (known_bytes-of_open_manifest named left file lines held old.left name opened)
    (known_bytes-lines_read (is_standard_input name) held w o (is_standard_input name) first rest
    old mid vs
    (subst (λ (b : Bool). LinesAreReadAndChecked w o b first rest old mid vs) opened.is_input read))
    (known_bytes-counts_at_end (is_standard_input name) held found vs rest now (w.breaks name)
    (subst (λ (n : List ℕ). CountsAtEnd found vs rest now (w.breaks n)) opened.is_named ends))
    (λ dash. known_bytes-of_standard_input (is_standard_input name) held now dash
    ∙ bytes_left-of_standard_input left after mid.left (same ∙ opened.is_input ∙ dash)) last told
