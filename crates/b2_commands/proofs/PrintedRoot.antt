-- The root that is printed of what a source returned.
use Rattle.std.proofs.Common.{◌≡◌, ℕ, ◌<◌, ◌^◌, List, [], ◌++◌, length, Option, Some, None, Result}
use Rattle.std.proofs.Common.{Ok, Err, IfSome, subst, ap, ◌∙◌, append-nil, arith}
use Rattle.std.specs.Prelude.{OnOk}
use Rattle.std.specs.Io.KnownBytes.{Appends}
use Rattle.blake2.specs.Streams.{line_of}
use Rattle.blake2_tree.specs.declared.hasher.TreeHasher.{TreeHasher}
use Rattle.blake2_tree.specs.TreeHashers.{count, future, HasAbsorbed}
use Rattle.b2_commands.specs.declared.fault.Fault.{Fault}

-- A printed line is that of the root of all that a source had left, if the hasher absorbed all of
-- it.
pub printed_line-is_root : {n : ℕ} (root_of : List ℕ → List ℕ) (made taken : TreeHasher n)
    (root : List ℕ)
    (result : Result (Unit {0}) Fault) (left old new : Option (List ℕ))
    → ((y : List ℕ) → future made y ≡ root_of y) → count made ≡ 0
    → IfSome left (λ bytes. HasAbsorbed made bytes taken) → count taken < 2 ^ 58
    → root ≡ future taken [] → OnOk result (Appends old new (line_of root))
    → OnOk result (IfSome left (λ message. (length message < 2 ^ 58)
    × Appends old new (line_of (root_of message))))
printed_line-is_root root_of made taken root (Ok _) None old new roots empty took short is line = tt
printed_line-is_root root_of made taken root (Ok _) (Some all) old new roots empty took short is
    line = (
      omega (arith, took.count, empty, short),
      subst (Appends old new) (ap line_of (is ∙ took.future [] ∙ roots (all ++ [])
          ∙ ap root_of (append-nil all))) line,
    )
printed_line-is_root root_of made taken root (Err fault) left old new roots empty took short is
    line = tt
