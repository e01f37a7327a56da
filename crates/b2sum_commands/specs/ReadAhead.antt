-- Digests of files that are read before their turn.
use Rattle.std.specs.Prelude.{◌≡◌, ◌⊎◌, ℕ, ◌-◌, ◌≤◌, List, take, drop, Option}
use Rattle.std.specs.List.{All}
use Rattle.blake2_streams.specs.Streams.{ReturnsAllBytes}
use Rattle.b2sum_lines.specs.declared.entry.Algorithm.{Algorithm}
use Rattle.b2sum_lines.specs.declared.entry.Algorithm.TheVariants.{Blake2b, Blake2s}
use Rattle.b2sum_commands.specs.declared.ahead.Found.{Found}
use Rattle.b2sum_commands.specs.declared.ahead.Part.{Part}
use Rattle.b2sum_commands.specs.declared.hashes.Function.{Function}
use Rattle.b2sum_commands.specs.declared.options.Options.{Options}
use Rattle.b2sum_commands.specs.World.{Files, Hashing}

-- This is all of what a file has. If that is not known, it is some bytes.
abbrev pub FileHasText : Files → List ℕ → List ℕ → Type 0
FileHasText files name text = (end : Option (List ℕ)) × ReturnsAllBytes (files.holds name) end text

-- This digest of a file, by a function with the parameters of the options, is that of all its text.
abbrev pub IsDigestOfFile : Files → Hashing → Options → Function → List ℕ → List ℕ → Type 0
IsDigestOfFile files hashing o f name digest =
    (text : List ℕ) × FileHasText files name text
    × (take f.bytes digest ≡ hashing.digest o f text)

-- This is a digest of the file of this name, by this function.
abbrev pub IsDigestFor : Function → List ℕ → Found → Type 0
IsDigestFor f name x = (x.function ≡ f) × (x.name.items ≡ name)

-- Several texts are hashed at a time by this algorithm.
abbrev pub HashesInLanes : Algorithm → Type 0
HashesInLanes algorithm = (algorithm ≡ Blake2b) ⊎ (algorithm ≡ Blake2s)

-- All these are digests of the files that they name.
abbrev pub AreDigestsOfFiles : Files → Hashing → Options → List Found → Type 0
AreDigestsOfFiles files hashing o =
    All (λ x. IsDigestOfFile files hashing o x.function x.name.items x.digest)

-- The bytes of a part of the memory.
abbrev pub bytes_of_part : List ℕ → Part → List ℕ
bytes_of_part room p = take (p.end - p.start) (drop p.start room)

-- A part of the first bytes of the memory, so many, has all of what the file has that it names.
abbrev pub PartHasFileText : Files → List ℕ → ℕ → Part → Type 0
PartHasFileText files room most p =
    (p.start ≤ p.end) × (p.end ≤ most) × FileHasText files p.name.items (bytes_of_part room p)
