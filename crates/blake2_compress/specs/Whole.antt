-- A message that is hashed by itself.
use Rattle.std.specs.Prelude.{List, ℕ, [], Option, false}
use Rattle.blake2_compress.specs.Hash.{Input, sequential}

-- The input of a message, under a key if there is one: no salt, no personalization, and a tree of
-- this node alone (RFC 7693, 2.5).
abbrev pub whole_input : Option (List ℕ) → List ℕ → Input
whole_input key message = record {
  salt = [];
  persona = [];
  key = key;
  tree = sequential;
  last_node = false;
  message = message;
}
