-- The inputs of the code.
use Rattle.std.specs.Prelude.{List, ℕ, ⊤, Option, Some, None}
use Rattle.blake2.specs.Hash.{AreBytes, Input}

-- A key, if there is one, consists of bytes.
abbrev pub IsKeyOfBytes : Option (List ℕ) → Type 0
IsKeyOfBytes None = ⊤
IsKeyOfBytes (Some key) = AreBytes key

-- The parts of an input consist of bytes, as their types say.
pub record ConsistsOfBytes (a : Input) : Type 0 where
  pub salt : AreBytes a.salt
  pub persona : AreBytes a.persona
  pub key : IsKeyOfBytes a.key
  pub message : AreBytes a.message
