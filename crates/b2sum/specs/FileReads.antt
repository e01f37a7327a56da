-- What open files return.
use Rattle.std.specs.Prelude.{ℕ, ℤ, List, Option}
use Rattle.std.specs.declared.io.Error.{Error}
use Rattle.b2sum.specs.declared.disk.Reader.{Reader}
use Rattle.b2sum.specs.declared.disk.Reader.TheVariants.{File, Input}

-- The bytes that are left of an open file, or of standard input.
abbrev pub bytes_left_of_reader : {F I : Type 0} → (F → Option (List ℕ)) → (I → Option (List ℕ))
    → Reader F I
    → Option (List ℕ)
bytes_left_of_reader left unread (File file) = left file
bytes_left_of_reader left unread (Input input) = unread input

-- A read of an open file, or of standard input, may return this error.
abbrev pub reader_may_fail_with : {F I : Type 0} → (F → Error → Type 0) → (I → Error → Type 0)
    → Reader F I
    → Error → Type 0
reader_may_fail_with fails breaks (File file) = fails file
reader_may_fail_with fails breaks (Input input) = breaks input

-- The number of an open file, or of standard input.
abbrev pub number_of : {F I : Type 0} → (F → Option ℤ) → (I → Option ℤ) → Reader F I → Option ℤ
number_of number other (File file) = number file
number_of number other (Input input) = other input
