use Rattle.std.proofs.Common.{◌≡◌, ◌++◌, drop, string_bytes, encode_utf8}
use Rattle.std.specs.List.{flat_map}
use Rattle.b2sum.specs.FilePaths.{character_of}
use Rattle.b2sum.proofs.disk.escaped.Given as goal

abbrev pub invariant-loop-byte : goal.invariant-loop-byte
invariant-loop-byte l =
    string_bytes l.text ++ flat_map (λ b. encode_utf8 (character_of b)) (drop l.byte-index l.name)
    ≡ flat_map (λ b. encode_utf8 (character_of b)) l.name
