-- What is done for a file that is to have a digest that is given.
use Rattle.std.specs.Prelude.{◌≡◌, ◌≢◌, ℕ, Bool, List, Option, Some, None, Ok}
use Rattle.std.specs.Io.KnownBytes.{Appends}
use Rattle.b2sum_lines.specs.ManifestLines.{Line}
use Rattle.b2sum_commands.specs.declared.check.Verdict.{Verdict}
use Rattle.b2sum_commands.specs.declared.check.Verdict.TheVariants.{Unread}
use Rattle.b2sum_commands.specs.declared.options.Options.{Options}
use Rattle.b2sum_commands.specs.Manifests.{StopsInVerdict, VerdictLinesAreAccepted, TellsWhyUnread}
use Rattle.b2sum_commands.specs.Manifests.{is_equal}
use Rattle.b2sum_commands.specs.World.{Streams, World}

-- The entry of a file of this name that is to have this digest.
abbrev pub expected_entry : Options → List ℕ → List ℕ → Line
expected_entry o digest name = record {
  algorithm = o.algorithm;
  digest = digest;
  name = name;
  style = o.style;
}

-- The file of this name is compared with the digest, as one of an entry is, and its line is
-- printed. The result is whether the file has the digest. There is none if an error ended it, and
-- then nothing or a part of the line is printed.
abbrev pub IsComparedWithDigest : World → Options → List ℕ → List ℕ → Streams → Streams
    → Option Bool
    → Type 0
IsComparedWithDigest w o digest name old new (Some well) = (v : Verdict) × (well ≡ is_equal v)
    × VerdictLinesAreAccepted Appends w o (Ok (expected_entry o digest name)) old new v
    × (v ≡ Unread → TellsWhyUnread w o (Ok (expected_entry o digest name)) old new)
    × (v ≢ Unread → new.told ≡ old.told)
IsComparedWithDigest w o digest name old new None =
    StopsInVerdict w o (Ok (expected_entry o digest name)) old new
