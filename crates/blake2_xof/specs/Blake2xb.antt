-- What the states of BLAKE2Xb mean.
use Rattle.std.specs.Prelude.{◌≡◌, ℕ, ◌+◌, ◌≤◌, if◌then◌else◌, [], List}
use Rattle.std.specs.Prelude.{Bool, IsTrue, take, drop, replicate}
use Rattle.blake2_simd.specs.Family.{blake2b}
use Rattle.blake2_digest.specs.States.{Meaning, digest_now}
use Rattle.blake2_state.specs.Blake2b as Root
use Rattle.blake2_state.specs.States.{is_on}
use Rattle.blake2_xof.specs.declared.blake2xb.State.{State}
use Rattle.blake2_xof.specs.declared.reader.blake2xb.Reader.{Reader}
use Rattle.blake2_xof.specs.States.{xof_meaning_by}
use Rattle.blake2_xof.specs.Xof.{Settings, output_length, settings, xof_output, unknown_length}

-- ---- readers

-- What the output of a reader is made with. Its blocks have no key. The salt is the first half of
-- the field of both, and the personalization the second.
abbrev pub settings_of : Reader → Settings
settings_of s = settings s.xof_length [] (take 16 s.texts) (drop 16 s.texts)

-- The whole output of a reader, from its first byte on.
abbrev pub output_of : Reader → List ℕ
output_of s = xof_output blake2b (settings_of s) s.root

-- The number of bytes of the whole output.
abbrev pub output_length_of : Reader → ℕ
output_length_of s = output_length blake2b s.xof_length

-- The reader's length is one of BLAKE2Xb's, and its position is within the output.
pub record IsReadable (s : Reader) : Type 0 where
  pub some : 1 ≤ s.xof_length
  pub field : s.xof_length ≤ unknown_length blake2b
  pub within : s.position ≤ output_length_of s

-- The new reader is the old one after n bytes were read.
pub record HasRead (old : Reader) (n : ℕ) (new : Reader) : Type 0 where
  pub root : new.root ≡ old.root
  pub texts : new.texts ≡ old.texts
  pub xof_length : new.xof_length ≡ old.xof_length
  pub position : new.position ≡ old.position + n

-- The zeroed reader, from which nothing can be read.
abbrev pub wiped_reader : Reader
wiped_reader = record {
  root = replicate 64 0;
  texts = replicate 32 0;
  xof_length = 0;
  position = 0;
}

-- ---- states

-- The meaning of a state: the whole outputs that it will return, and the bytes that it counts.
abbrev pub meaning : Meaning State
meaning = xof_meaning_by blake2b Root.meaning (λ s. s.root) (λ s. settings_of s.reader)

-- The state returns output: its root hash has the longest digest, and its reader is readable.
pub record IsReady (s : State) : Type 0 where
  pub root : Root.IsReady s.root
  pub size : s.root.output_size ≡ 64
  pub reader : IsReadable s.reader

-- The state absorbs bytes, and none was read since its last start.
pub record IsAbsorbing (s : State) : Type 0 where
  pub ready : IsReady s
  pub absorbs : s.reading ≡ 0
  pub none_read : s.reader.position ≡ 0

-- The whole output of a state, from its first byte on: that which is being read, or that of what it
-- has absorbed.
abbrev pub output_now : State → List ℕ
output_now s = if is_on s.reading then output_of s.reader else digest_now meaning s

-- The new state is the old one after n bytes of its output were read. It absorbs nothing more
-- before a reset.
pub record HasSqueezed (old : State) (n : ℕ) (new : State) : Type 0 where
  pub output : output_now new ≡ output_now old
  pub xof_length : new.reader.xof_length ≡ old.reader.xof_length
  pub position : new.reader.position ≡ old.reader.position + n
  pub reading : IsTrue (is_on new.reading)
  pub started : (last_node : Bool) (y : List ℕ)
      → meaning.started new last_node y ≡ meaning.started old last_node y
  pub count : meaning.count new ≡ meaning.count old
  pub start_count : meaning.start_count new ≡ meaning.start_count old

-- The zeroed state, which returns no output.
abbrev pub zeros : State
zeros = record { root = Root.zeros; reader = wiped_reader; reading = 0 }
