-- What a read and a write do to the bytes of a device, and what a device in memory does.
use Rattle.std.specs.Prelude.{◌≡◌, ℕ, ◌-◌, ◌<◌, ◌==◌, ◌&&◌, ◌||◌, nat_lt, Bool, true, List, length}
use Rattle.std.specs.Prelude.{take, drop, ◌++◌, min, Option, Some, None, Result, Ok, Err, IfOk}
use Rattle.std.specs.Option.{option_map}
use Rattle.std.specs.Io.KnownBytes.{Consumes, IsAtEnd}

-- `read(buf)` returned the next n bytes with `Ok(n)`, and no bytes for a buffer that is not empty
-- only at the end. After an error nothing is said.
abbrev pub ReadReturns : {E : Type 0} → Option (List ℕ) → Option (List ℕ) → Result ℕ E → List ℕ
    → Type 0
ReadReturns old new r buf =
    IfOk r (λ n. Consumes old new (take n buf) × (n ≡ 0 → 0 < length buf → IsAtEnd new))

-- Whether `write(piece)` returned an error, or wrote no byte of a piece that is not empty.
abbrev pub is_failed_write : {E : Type 0} → Result ℕ E → List ℕ → Bool
is_failed_write (Ok n) piece = n == 0 && nat_lt 0 (length piece)
is_failed_write (Err _) piece = true

-- The maximum number of bytes that one call moves: `most`, or fewer if the error comes before.
abbrev pub call_limit : ℕ → Option ℕ → ℕ
call_limit most None = most
call_limit most (Some before) = min most before

-- The number of bytes that pass before the error, after n have passed.
abbrev pub remaining_before_error : Option ℕ → ℕ → Option ℕ
remaining_before_error before n = option_map (λ b. b - n) before

-- A source in memory: the bytes that are left, the maximum number of bytes that a call returns, the
-- number of bytes that pass before the error (`None` if it never comes), and whether a read has
-- failed.
pub record SourceState : Type 0 where
  pub rest : List ℕ
  pub most : ℕ
  pub before_error : Option ℕ
  pub failed : Bool

-- The number of bytes that a read returns in a buffer of `room` bytes, if it returns no error.
abbrev pub read_count : SourceState → ℕ → ℕ
read_count s room = min (min (length s.rest) room) (call_limit s.most s.before_error)

-- The source after it has returned n bytes.
abbrev pub source_after_read : SourceState → ℕ → SourceState
source_after_read s n =
    record s { rest = drop n s.rest; before_error = remaining_before_error s.before_error n }

-- A sink in memory: the bytes that it holds at the front of the memory, the bytes after them, which
-- it has not overwritten, the maximum number of bytes that a call accepts, the number of bytes that
-- pass before the error (`None` if it never comes), and whether a write has failed.
pub record SinkState : Type 0 where
  pub held : List ℕ
  pub rest : List ℕ
  pub most : ℕ
  pub before_error : Option ℕ
  pub failed : Bool

-- The number of bytes that a write accepts of a piece of `size` bytes, if it returns no error.
abbrev pub write_count : SinkState → ℕ → ℕ
write_count s size = min (min (length s.rest) size) (call_limit s.most s.before_error)

-- The sink after it has accepted n bytes of a piece. It has failed if it had failed before, or if n
-- is 0 and the piece is not empty.
abbrev pub sink_after_write : SinkState → List ℕ → ℕ → SinkState
sink_after_write s piece n = record s {
  held = s.held ++ take n piece;
  rest = drop n s.rest;
  before_error = remaining_before_error s.before_error n;
  failed = s.failed || (n == 0 && nat_lt 0 (length piece));
}
