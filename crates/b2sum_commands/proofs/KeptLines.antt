-- A list that is kept of what is printed.
use Rattle.std.proofs.Common.{◌≡◌, ℕ, Bool, true, false, List, [], ◌++◌, Option, ap, ◌∙◌, sym}
use Rattle.std.proofs.Common.{append_assoc, append-nil, None, inl, inr, subst}
use Rattle.std.proofs.KnownBytes.{Appends-nil, Appends-trans}
use Rattle.blake2_streams.specs.Streams.{AcceptsProperPrefix}
use Rattle.b2sum_commands.specs.declared.options.Options.{Options}
use Rattle.b2sum_commands.specs.Messages.{is_standard_input}
use Rattle.b2sum_commands.specs.PrintedSums.{ListKeepsPrinted, DigestLineIsPrinted, SourceHasText}
use Rattle.b2sum_commands.specs.PrintedSums.{entry_of, printed}
use Rattle.b2sum_commands.specs.PrintedSums.{printed_function}
use Rattle.b2sum_commands.specs.World.{AcceptsNothingOrPart, Streams, World}

-- Nothing is printed.
pub list_keeps-nothing_printed : (keeps : Bool) (held : Option (List ℕ)) (list : List ℕ)
    → ListKeepsPrinted keeps held held list list
list_keeps-nothing_printed true held list = ([], Appends-nil held, sym (append-nil list))
list_keeps-nothing_printed false held list = tt

-- More is printed.
pub list_keeps-more_printed : (keeps : Bool) (old mid new : Option (List ℕ))
    (before between after : List ℕ)
    → ListKeepsPrinted keeps old mid before between → ListKeepsPrinted keeps mid new between after
    → ListKeepsPrinted keeps old new before after
list_keeps-more_printed true old mid new before between after first then = (
  first.0 ++ then.0,
  Appends-trans old mid new first.0 then.0 first.1 then.1,
  then.2 ∙ ap (λ xs. xs ++ then.0) first.2 ∙ append_assoc before first.0 then.0,
)
list_keeps-more_printed false old mid new before between after first then = tt

-- An error ended the line of a file: nothing or a part of it is printed.
pub sum_stops : (w : World) (o : Options) (name : List ℕ) (old new : Streams)
    (before : Option (List ℕ)) (text digest shown : List ℕ) → before ≡ old.held
    → SourceHasText (is_standard_input name) (w.files.holds name) old.left new.left text
    → digest ≡ w.hashing.digest o (printed_function o) text
    → shown ≡ printed o.shape o.ends_zero (record {
      algorithm = o.algorithm;
      digest = digest;
      name = name;
      style = o.style;
    }) → AcceptsNothingOrPart before new.held shown → DigestLineIsPrinted w o name old new None
sum_stops w o name old new before text digest shown same reads is line (inl none) = inl (none ∙ same)
sum_stops w o name old new before text digest shown same reads is line (inr part) = inr (
  text,
  reads,
  subst (λ (x : Option (List ℕ)). AcceptsProperPrefix x new.held
      (printed o.shape o.ends_zero (entry_of w o name text))) same
      (subst (AcceptsProperPrefix before new.held)
      (line ∙ ap (λ (d : List ℕ). printed o.shape o.ends_zero (record {
        algorithm = o.algorithm;
        digest = d;
        name = name;
        style = o.style;
      })) is) part),
)
