-- The messages at the end of a manifest.
use Rattle.std.proofs.Common.{◌≡◌, ℕ, ◌==◌, ◌&&◌, Bool, true, false, not, List, [], ◌++◌, Option}
use Rattle.std.proofs.Common.{inr}
use Rattle.std.proofs.Common.{sym, subst}
use Rattle.std.proofs.KnownBytes.{Appends-nil}
use Rattle.b2sum_commands.specs.declared.check.Counts.{Counts}
use Rattle.b2sum_commands.specs.declared.options.Options.{Options}
use Rattle.b2sum_commands.specs.Manifests.{prints_nothing}
use Rattle.b2sum_commands.specs.Messages.{LinesNeed, Message, VerifiesNone, message, message_if}
use Rattle.b2sum_commands.specs.Reports.{has_no_entry, report_text, count_warnings}
use Rattle.b2sum_commands.specs.World.{SinkAcceptsOrFails}
use Rattle.b2sum_commands.proofs.MessagesInTurn.{two_texts-written_in_turn}

-- Nothing is written.
pub no_line : (b : Bool) (x : Option (List ℕ)) → SinkAcceptsOrFails b b x x []
no_line b x = record { stays = λ failed. failed; accepted = inr (Appends-nil x) }

-- A message for which there is no cause.
pub unsaid : (b : Bool) (x : Option (List ℕ)) (cause : Bool) (program : List ℕ) (said : Message)
    → cause ≡ false → SinkAcceptsOrFails b b x x (message_if cause program said)
unsaid b x cause program said is =
    subst (λ (c : Bool). SinkAcceptsOrFails b b x x (message_if c program said)) (sym is)
    (no_line b x)

-- A message for which there is cause.
pub told : (a b : Bool) (x y : Option (List ℕ)) (cause : Bool) (program : List ℕ) (said : Message)
    → cause ≡ true → SinkAcceptsOrFails a b x y (message program said)
    → SinkAcceptsOrFails a b x y (message_if cause program said)
told a b x y cause program said is written =
    subst (λ (c : Bool). SinkAcceptsOrFails a b x y (message_if c program said)) (sym is) written

-- Four texts, one after the other.
pub four_texts-written_in_turn : (a b c d e : Bool) (v w x y z : Option (List ℕ))
    (first second third fourth : List ℕ) → SinkAcceptsOrFails a b v w first
    → SinkAcceptsOrFails b c w x second
    → SinkAcceptsOrFails c d x y third → SinkAcceptsOrFails d e y z fourth
    → SinkAcceptsOrFails a e v z (first ++ (second ++ (third ++ fourth)))
four_texts-written_in_turn a b c d e v w x y z first second third fourth p q r s =
    two_texts-written_in_turn a b e v w z first (second ++ (third ++ fourth)) p
    (two_texts-written_in_turn b c e w x z second (third ++ fourth) q
    (two_texts-written_in_turn c d e x y z third fourth r s))

-- The messages at the end of a manifest, one after the other.
pub reported : (a b c d : Bool) (w x y z : Option (List ℕ)) (program name : List ℕ) (o : Options)
    (counts : Counts) → has_no_entry counts ≡ false → prints_nothing o.report ≡ false
    → SinkAcceptsOrFails a b w x
    (message_if (not (counts.unmet == 0)) program (LinesNeed name counts.lacks))
    → SinkAcceptsOrFails b c x y (count_warnings program counts)
    → SinkAcceptsOrFails c d y z
    (message_if (o.ignores_missing && (counts.equal == 0)) program (VerifiesNone name))
    → SinkAcceptsOrFails a d w z (report_text program name o counts)
reported a b c d w x y z program name o counts some wanted p q r =
    let last = message_if (o.ignores_missing && (counts.equal == 0)) program (VerifiesNone name) in
    rw (some, wanted)
    (two_texts-written_in_turn a b d w x z _ (count_warnings program counts ++ last) p
    (two_texts-written_in_turn b c d x y z (count_warnings program counts) last q r))
