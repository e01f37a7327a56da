-- The comparison of a file with a digest that is given.
use Rattle.std.proofs.Common.{◌≡◌, ◌≢◌, Bool, List, ℕ, None, Ok, Some, subst}
use Rattle.std.specs.Io.KnownBytes.{Appends}
use Rattle.b2sum_lines.specs.ManifestLines.{Line}
use Rattle.b2sum_commands.specs.declared.check.Verdict.{Verdict}
use Rattle.b2sum_commands.specs.declared.check.Verdict.TheVariants.{Unread}
use Rattle.b2sum_commands.specs.declared.options.Options.{Options}
use Rattle.b2sum_commands.specs.Expected.{IsComparedWithDigest, expected_entry}
use Rattle.b2sum_commands.specs.Manifests.{StopsInVerdict, VerdictLinesAreAccepted, TellsWhyUnread}
use Rattle.b2sum_commands.specs.Manifests.{is_equal}
use Rattle.b2sum_commands.specs.World.{Streams, World}

-- The entry of the digest has a verdict.
pub compared_with_digest-if_verdict : (w : World) (o : Options) (digest name : List ℕ)
    (old new : Streams) (e : Line)
    (v : Verdict) (well : Bool) → e ≡ expected_entry o digest name → well ≡ is_equal v
    → VerdictLinesAreAccepted Appends w o (Ok e) old new v
    → (v ≡ Unread → TellsWhyUnread w o (Ok e) old new)
    → (v ≢ Unread → new.told ≡ old.told) → IsComparedWithDigest w o digest name old new (Some well)
compared_with_digest-if_verdict w o digest name old new e v well is result verdict told silent = (
  v,
  result,
  subst (λ (l : Line). VerdictLinesAreAccepted Appends w o (Ok l) old new v) is verdict,
  λ unread. subst (λ (l : Line). TellsWhyUnread w o (Ok l) old new) is (told unread),
  silent,
)

-- An error ended the check of the entry.
pub compared_with_digest-if_stopped : (w : World) (o : Options) (digest name : List ℕ)
    (old new : Streams) (e : Line)
    → e ≡ expected_entry o digest name → StopsInVerdict w o (Ok e) old new
    → IsComparedWithDigest w o digest name old new None
compared_with_digest-if_stopped w o digest name old new e is begun =
    subst (λ (l : Line). StopsInVerdict w o (Ok l) old new) is begun
