-- The values of the crate's types.
use Rattle.b2sum_lines.specs.declared.entry.Entry.{Entry}
use Rattle.b2sum_lines.specs.ManifestLines.{Line}

-- The entry as a value.
abbrev pub entry_value : Entry → Line
entry_value e =
    record {
      algorithm = e.algorithm;
      digest = e.digest.items;
      name = e.name.items;
      style = e.style;
    }
