-- How the values of the module `steps` are seen as those of the definitions.
use Rattle.std.specs.Prelude.{ℕ, List, map, Option, Some, None}
use Rattle.std.specs.Global.{Vec}
use Rattle.blake2_transcript.specs.declared.steps.Entry as GivenEntry
use Rattle.blake2_transcript.specs.declared.steps.Step as GivenStep
use Rattle.blake2_transcript.specs.declared.steps.Transcript as GivenTranscript
use Rattle.blake2_transcript.specs.declared.steps.Reading as GivenReading
use Rattle.blake2_compress.specs.Hash.{flags, Input, Step}
use Rattle.blake2_compress.specs.Views.{tree_of}
use Rattle.blake2_transcript.specs.Transcript.{Entry}

-- The entry that a value of the code holds.
abbrev pub entry_of : {B : ℕ} → GivenEntry.Entry B → Entry
entry_of e = record {
  block = e.block;
  counter = e.counter;
  flags = flags e.last e.last_node;
}

-- The step that a value of the code holds.
abbrev pub step_of : {B : ℕ} → GivenStep.Step ℕ B → Step
step_of s = record {
  chain = s.chain;
  block = s.block;
  counter = s.counter;
  flags = flags s.last s.last_node;
}

-- The entries of a transcript.
abbrev pub entries_of : {B : ℕ} → GivenTranscript.Transcript ℕ B → List Entry
entries_of t = map entry_of t.entries.items

-- The bytes that a key holds, if there is a key.
abbrev pub key_bytes_of : Option (Vec ℕ) → Option (List ℕ)
key_bytes_of None = None
key_bytes_of (Some v) = Some v.items

-- The input that a reading describes.
abbrev pub input_of_reading : {S : ℕ} → GivenReading.Reading S → Input
input_of_reading r = record {
  salt = r.salt;
  persona = r.persona;
  key = key_bytes_of r.key;
  tree = tree_of r.tree;
  last_node = r.last_node;
  message = r.message.items;
}
