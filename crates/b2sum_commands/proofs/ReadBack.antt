-- A manifest that was printed is read as its entries.
use Rattle.std.proofs.Common.{◌≡◌, ◌≢◌, ℕ, ◌-◌, ◌<◌, ◌==◌, ◌||◌, Bool, true, false, not, List, []}
use Rattle.std.proofs.Common.{◌∷◌, Option, Some, None, Result, Ok, Err, IfOk, refl, ap, ◌∙◌}
use Rattle.std.proofs.Common.{sym, subst, length, get_or, zero, suc, append_assoc, arith}
use Rattle.std.proofs.Common.{is_some, rules}
use Rattle.std.proofs.KnownBytes.{Appends-nil, Appends-trans, Consumes-all}
use Rattle.std.proofs.lemmas.Bool.{and_parts, or_parts}
use Rattle.std.specs.Io.KnownBytes.{Appends}
use Rattle.std.specs.List.{AllByRecursion, flat_map, list_all}
use Rattle.std.specs.Option.{option_map}
use Rattle.std.specs.Result.{result_ok}
use Rattle.text_lines.specs.Cuts.{lines_of}
use Rattle.b2sum_lines.specs.ManifestLines.{Line, entry_line, is_tagged, line_entry, IsWritable}
use Rattle.b2sum_lines.specs.declared.entry.Spacing.{Spacing}
use Rattle.b2sum_lines.specs.declared.entry.Spacing.TheVariants.{One}
use Rattle.b2sum_lines.specs.declared.entry.Style.{Style}
use Rattle.b2sum_lines.specs.declared.entry.Style.TheVariants.{Tagged, Text, Binary, Bare}
use Rattle.b2sum_lines.proofs.LineBytes.{begins_no_comment, is_no_line_end, entry_line-begins_no_comment, entry_line-has_no_line_end}
use Rattle.b2sum_lines.proofs.RoundTrip.{entry_line-is_read_with_algorithm}
use Rattle.blake2_streams.specs.Streams.{ReturnsAllBytes}
use Rattle.b2sum_commands.specs.declared.check.Verdict.{Verdict}
use Rattle.b2sum_commands.specs.declared.check.Verdict.TheVariants.{Equal, Different, Unread}
use Rattle.b2sum_commands.specs.declared.check.Verdict.TheVariants.{Skipped, Malformed, Unmet}
use Rattle.b2sum_commands.specs.declared.check.Verdict.TheVariants.{Comment}
use Rattle.b2sum_commands.specs.declared.options.Options.{Options}
use Rattle.b2sum_commands.specs.declared.options.Shape.{Shape}
use Rattle.b2sum_commands.specs.declared.options.Shape.TheVariants.{Named}
use Rattle.b2sum_commands.specs.LineNeeds.{has_demanded_length}
use Rattle.b2sum_commands.specs.Messages.{is_standard_input}
use Rattle.b2sum_commands.specs.World.{Place, Streams, World, AreDoneInTurn, NamesAreDoneInTurn}
use Rattle.b2sum_commands.specs.World.{EndsWithResult}
use Rattle.b2sum_commands.specs.PrintedSums.{entry_of, terminated_line, printed}
use Rattle.b2sum_commands.specs.PrintedSums.{printed_function, DigestLineIsPrinted}
use Rattle.b2sum_commands.specs.PrintedSums.{SourceHasText}
use Rattle.b2sum_commands.specs.Manifests.{checkable, item, spacing_after_entry, spacing_after_line}
use Rattle.b2sum_commands.specs.Manifests.{line_content_unless_comment, function_of_line_entry}
use Rattle.b2sum_commands.specs.Manifests.{ItemIsChecked, LineIsChecked, VerdictIsRight}
use Rattle.b2sum_commands.specs.LineReads.{HasNoNewline}
use Rattle.b2sum_commands.specs.ReadBack.{items, LinesAreReadAsEntries, IsEntryOfFile}
use Rattle.b2sum_commands.specs.ReadBack.{present_entries}
use Rattle.b2sum_commands.specs.ReadBack.{OptionsAreReadable, AcceptsPrinted, AreFileNames}
use Rattle.b2sum_commands.specs.ReadBack.{ManifestIsPrinted}
use Rattle.b2sum_commands.specs.ReadBack.{FilesHaveKnownBytes, HaveSameDigests, is_equal_or_unread}
use Rattle.b2sum_commands.proofs.CheckedLines.{lines_of-line_and_rest}

-- ---- a line

false_of_not : (b : Bool) → not b ≡ true → b ≡ false
false_of_not true h = absurd (search (h, rules))
false_of_not false h = refl

-- A clear byte is no newline, and no carriage return.
no_line_end-is_neither_10_nor_13 : (b : ℕ) → is_no_line_end b ≡ true → ((b == 10) ≡ false)
    × ((b == 13) ≡ false)
no_line_end-is_neither_10_nor_13 b h = or_parts (b == 10) (b == 13)
    (false_of_not ((b == 10) || (b == 13)) h)

no_line_end-at_index : (line : List ℕ) (k d : ℕ) → list_all is_no_line_end line ≡ true
    → k < length line
    → is_no_line_end (get_or line k d) ≡ true
no_line_end-at_index [] k d all below = absurd (omega (arith, below))
no_line_end-at_index (b ∷ line) zero d all below =
    (and_parts (is_no_line_end b) (list_all is_no_line_end line) all).0
no_line_end-at_index (b ∷ line) (suc k) d all below =
    no_line_end-at_index line k d
    (and_parts (is_no_line_end b) (list_all is_no_line_end line) all).1 (omega (arith, below))

one_line : (line : List ℕ) → list_all is_no_line_end line ≡ true → HasNoNewline line
one_line line all k d below =
    (no_line_end-is_neither_10_nor_13 (get_or line k d) (no_line_end-at_index line k d all below)).0

-- All of such a line is read.
trimmed-clear : (line : List ℕ) → begins_no_comment line ≡ true → list_all is_no_line_end line
    ≡ true
    → line_content_unless_comment line ≡ Some line
trimmed-clear [] first all = absurd (search (first, rules))
trimmed-clear (b ∷ line) first all =
    let mark : (b == 35) ≡ false = false_of_not (b == 35) first in
    let last : length (b ∷ line) - 1 < length (b ∷ line) = omega arith in
    let end : (get_or (b ∷ line) (length (b ∷ line) - 1) 0 == 13) ≡ false =
    (no_line_end-is_neither_10_nor_13 _
    (no_line_end-at_index (b ∷ line) (length (b ∷ line) - 1) 0 all last)).1 in
    rw (mark, end) refl

-- ---- an entry

-- The line of this entry is read, and the entry is accepted.
record LineIsReadable (c : Options) (input : Bool) (e : Line) : Type 0 where
  writable : IsWritable e
  marked : e.style ≢ Bare
  algorithm : is_tagged e.style ≡ false → c.algorithm ≡ e.algorithm
  accepted : checkable c input (Some e) ≡ Ok e

item-of_readable_line : (c : Options) (input : Bool) (s : Spacing) (e : Line)
    → LineIsReadable c input e → s ≢ One
    → item c input s (entry_line e) ≡ Some (Ok e)
item-of_readable_line c input s e r two =
    ap (option_map (λ (body : List ℕ). checkable c input (line_entry c.algorithm s body)))
    (trimmed-clear (entry_line e) (entry_line-begins_no_comment e r.writable)
    (entry_line-has_no_line_end e r.writable))
    ∙ ap (λ (o : Option Line). Some (checkable c input o))
    (entry_line-is_read_with_algorithm e r.writable r.marked c.algorithm r.algorithm s (λ _. two))
    ∙ ap (λ (o : Result Line Verdict). Some o) r.accepted

spacing_after_entry-not_one : (s : Spacing) (style : Style) → s ≢ One → style ≢ Bare
    → spacing_after_entry s style ≢ One
spacing_after_entry-not_one s (Tagged needs) two marked = two
spacing_after_entry-not_one s Text two marked = λ is. grind (arith, is)
spacing_after_entry-not_one s Binary two marked = λ is. grind (arith, is)
spacing_after_entry-not_one s Bare two marked = absurd (marked refl)

-- ---- a manifest

-- The line of an entry is the first of those that are printed.
lines_of-printed_entries : (e : Line) (es : List Line) → IsWritable e
    → lines_of (flat_map (terminated_line false) (e ∷ es))
    ≡ entry_line e ∷ lines_of (flat_map (terminated_line false) es)
lines_of-printed_entries e es w =
    ap lines_of (append_assoc (entry_line e) (10 ∷ []) (flat_map (terminated_line false) es))
    ∙ lines_of-line_and_rest (entry_line e) (flat_map (terminated_line false) es)
    (one_line (entry_line e) (entry_line-has_no_line_end e w))

printed_lines-are_read : (c : Options) (input : Bool) (s : Spacing) (es : List Line)
    → AllByRecursion (LineIsReadable c input) es → s ≢ One
    → LinesAreReadAsEntries c input s (lines_of (flat_map (terminated_line false) es)) es
printed_lines-are_read c input s [] all two = refl
printed_lines-are_read c input s (e ∷ es) all two =
    let rest = lines_of (flat_map (terminated_line false) es) in
    ap (items c input s) (lines_of-printed_entries e es all.0.writable)
    ∙ ap (λ (i : Option (Result Line Verdict)). i ∷ items c input (spacing_after_line s i) rest)
    (item-of_readable_line c input s e all.0 two)
    ∙ ap (λ (is : List (Option (Result Line Verdict))). Some (Ok e) ∷ is)
    (printed_lines-are_read c input (spacing_after_entry s e.style) es all.1
    (spacing_after_entry-not_one s e.style two all.0.marked))

entry_of_file-is_readable : (w : World) (c o : Options) (input : Bool) (name text : List ℕ)
    → OptionsAreReadable w o
    → AcceptsPrinted c o → AreFileNames (input || c.input_is_key) (name ∷ [])
    → LineIsReadable c input (entry_of w o name text)
entry_of_file-is_readable w c o input name text are accepts names =
    let e = entry_of w o name text in
    let is = names 0 name (omega arith) in
    let long : length e.digest ≡ o.bytes = (are.digests text).1 in
    let demanded : has_demanded_length c e.digest ≡ true =
    subst (λ (n : ℕ). (not c.demands_length || (n == c.bytes)) ≡ true) (sym long) accepts.length in
    record {
      writable = record {
        are_bytes = (are.digests text).0;
        some_digest = omega (arith, long, are.some_digest);
        fits = omega (arith, long, are.fits);
        some_name = is.0;
        no_zero = is.1;
        tagged = are.tagged;
        has_leaf = are.has_leaf;
      };
      marked = are.marked;
      algorithm = accepts.algorithm;
      accepted = rw is.2 (rw (demanded, accepts.needs, accepts.keyed) refl);
    }

entries_of_files-are_readable : (w : World) (c o : Options) (input : Bool) (names : List (List ℕ))
    (old new : Streams) (found : List (Option Line)) → OptionsAreReadable w o → AcceptsPrinted c o
    → AreFileNames (input || c.input_is_key) names
    → AreDoneInTurn (IsEntryOfFile w o) names old new found
    → AllByRecursion (LineIsReadable c input) (present_entries found)
entries_of_files-are_readable w c o input [] old new [] are accepts named done = tt
entries_of_files-are_readable w c o input [] old new (f ∷ found) are accepts named done = absurd
    done
entries_of_files-are_readable w c o input (name ∷ names) old new [] are accepts named done = absurd
    done
entries_of_files-are_readable w c o input (name ∷ names) old new (None ∷ found) are accepts named
    done =
    entries_of_files-are_readable w c o input names done.0 new found are accepts
    (λ k d below. named (suc k) d (omega (arith, below))) done.2
entries_of_files-are_readable w c o input (name ∷ names) old new (Some e ∷ found) are accepts named
    done = (
      subst (LineIsReadable c input) (sym done.1.2)
          (entry_of_file-is_readable w c o input name done.1.0 are accepts
          (λ k d below. first k d below)),
      entries_of_files-are_readable w c o input names done.0 new found are accepts
          (λ k d below. named (suc k) d (omega (arith, below))) done.2,
    )
  where
    first : AreFileNames (input || c.input_is_key) (name ∷ [])
    first zero d below = named 0 d (omega arith)
    first (suc k) d below = absurd (omega (arith, below))

-- ---- files that are the same

-- The text of a file whose bytes are known.
known_file-has_text : (dash : Bool) (held left after : Option (List ℕ)) (text bytes : List ℕ)
    → dash ≡ false → held ≡ Some bytes → SourceHasText dash held left after text → text ≡ bytes
known_file-has_text true held left after text bytes other is read = absurd (grind (arith, other))
known_file-has_text false held left after text bytes other is read =
    let gives : ReturnsAllBytes (Some bytes) read.1 text =
    subst (λ (h : Option (List ℕ)). ReturnsAllBytes h read.1 text) is read.2 in
    Consumes-all (Some bytes) read.1 text [] text gives.given gives.at_end refl

-- Two texts of a file whose bytes are known are the same.
known_file-has_one_text : (dash : Bool) (held a b c d : Option (List ℕ)) (x y : List ℕ) → dash
    ≡ false
    → is_some held ≡ true → SourceHasText dash held a b x → SourceHasText dash held c d y → x ≡ y
known_file-has_one_text dash None a b c d x y other known first second = absurd
    (search (known, rules))
known_file-has_one_text dash (Some bytes) a b c d x y other known first second =
    known_file-has_text dash (Some bytes) a b x bytes other refl first
    ∙ sym (known_file-has_text dash (Some bytes) c d y bytes other refl second)

-- The file of an entry is the same as when that was printed.
record FileIsUnchanged (w : World) (c : Options) (e : Line) : Type 0 where
  same : (left after : Option (List ℕ)) (text : List ℕ)
      → SourceHasText (is_standard_input e.name) (w.files.holds e.name) left after text
      → w.hashing.digest c (function_of_line_entry e) text ≡ e.digest

entry_of_file-is_unchanged : (w : World) (c o : Options) (name text : List ℕ)
    (old new : Option (List ℕ))
    → OptionsAreReadable w o → HaveSameDigests w c o
    → (is_standard_input name ≡ false) × (is_some (w.files.holds name) ≡ true)
    → SourceHasText (is_standard_input name) (w.files.holds name) old new text
    → FileIsUnchanged w c (entry_of w o name text)
entry_of_file-is_unchanged w c o name text old new are same is read = record {
  same = λ left after again other. same (function_of_line_entry (entry_of w o name text)) again
      ∙ ap (λ (n : ℕ). w.hashing.digest o (record { algorithm = o.algorithm; bytes = n }) again)
      (are.digests text).1
      ∙ ap (w.hashing.digest o (printed_function o))
      (known_file-has_one_text (is_standard_input name) (w.files.holds name) left after old new
      again text is.0 is.1 other
      read);
}

entries_of_files-are_unchanged : (w : World) (c o : Options) (names : List (List ℕ))
    (old new : Streams)
    (found : List (Option Line)) → OptionsAreReadable w o → HaveSameDigests w c o
    → FilesHaveKnownBytes w names
    → AreDoneInTurn (IsEntryOfFile w o) names old new found
    → AllByRecursion (FileIsUnchanged w c) (present_entries found)
entries_of_files-are_unchanged w c o [] old new [] are same kept done = tt
entries_of_files-are_unchanged w c o [] old new (f ∷ found) are same kept done = absurd done
entries_of_files-are_unchanged w c o (name ∷ names) old new [] are same kept done = absurd done
entries_of_files-are_unchanged w c o (name ∷ names) old new (None ∷ found) are same kept done =
    entries_of_files-are_unchanged w c o names done.0 new found are same
    (λ k d below. kept (suc k) d (omega (arith, below))) done.2
entries_of_files-are_unchanged w c o (name ∷ names) old new (Some e ∷ found) are same kept done = (
  subst (FileIsUnchanged w c) (sym done.1.2)
      (entry_of_file-is_unchanged w c o name done.1.0 old.left done.0.left are same
      (kept 0 name (omega arith)) done.1.1),
  entries_of_files-are_unchanged w c o names done.0 new found are same
      (λ k d below. kept (suc k) d (omega (arith, below))) done.2,
)

unchanged_file-has_kept_verdict : (w : World) (c : Options) (left after : Option (List ℕ))
    (e : Line) (v : Verdict)
    (found : List ℕ) → FileIsUnchanged w c e → VerdictIsRight w c left (Ok e) v found after
    → is_equal_or_unread v ≡ true
unchanged_file-has_kept_verdict w c left after e Equal found kept is = refl
unchanged_file-has_kept_verdict w c left after e Different found kept is =
    absurd (is.3 (is.2 ∙ kept.same left after is.0 is.1))
unchanged_file-has_kept_verdict w c left after e Unread found kept is = refl
unchanged_file-has_kept_verdict w c left after e Skipped found kept is = refl
unchanged_file-has_kept_verdict w c left after e Malformed found kept is = absurd is
unchanged_file-has_kept_verdict w c left after e (Unmet lacks) found kept is = absurd is
unchanged_file-has_kept_verdict w c left after e Comment found kept is = absurd is

-- The lines of entries whose files are the same have verdicts that say so.
unchanged_files-have_kept_verdicts : (w : World) (c : Options) (input : Bool) (es : List Line)
    (lines : List (List ℕ))
    (before after : Streams) (vs : List Verdict) → AllByRecursion (LineIsReadable c input) es
    → AllByRecursion (FileIsUnchanged w c) es → before.place.spacing ≢ One
    → lines ≡ lines_of (flat_map (terminated_line false) es)
    → AreDoneInTurn (LineIsChecked w c input) lines before after vs
    → (list_all is_equal_or_unread vs ≡ true) × (length vs ≡ length es)
unchanged_files-have_kept_verdicts w c input [] lines before after vs all kept two are done =
    none vs (subst
    (λ (xs : List (List ℕ)). AreDoneInTurn (LineIsChecked w c input) xs before after vs) are
    done)
  where
    none : (vs : List Verdict) → AreDoneInTurn (LineIsChecked w c input) [] before after vs
        → (list_all is_equal_or_unread vs ≡ true) × (length vs ≡ 0)
    none [] done = (refl, refl)
    none (v ∷ vs) done = absurd done
unchanged_files-have_kept_verdicts w c input (e ∷ es) lines before after vs all kept two are done =
    some vs (subst
    (λ (xs : List (List ℕ)). AreDoneInTurn (LineIsChecked w c input) xs before after vs)
    (are ∙ lines_of-printed_entries e es all.0.writable) done)
    (λ ws mid spaced rest. unchanged_files-have_kept_verdicts w c input es
    (lines_of (flat_map (terminated_line false) es)) mid after ws all.1 kept.1 spaced refl rest)
  where
    some : (vs : List Verdict)
        → AreDoneInTurn (LineIsChecked w c input)
        (entry_line e ∷ lines_of (flat_map (terminated_line false) es)) before after vs
        → ((ws : List Verdict) (mid : Streams) → mid.place.spacing ≢ One
        → AreDoneInTurn (LineIsChecked w c input) (lines_of (flat_map (terminated_line false) es))
        mid after ws
        → (list_all is_equal_or_unread ws ≡ true) × (length ws ≡ length es))
        → (list_all is_equal_or_unread vs ≡ true) × (length vs ≡ length (e ∷ es))
    some [] done again = absurd done
    some (v ∷ vs) done again =
        let is : ItemIsChecked w c (entry_line e) (Some (Ok e)) before done.0 v =
        subst (λ (i : Option (Result Line Verdict)). ItemIsChecked w c (entry_line e) i before
        done.0 v)
        (item-of_readable_line c input before.place.spacing e all.0 two) done.1 in
        let spaced : done.0.place.spacing ≢ One =
        λ one. spacing_after_entry-not_one before.place.spacing e.style two all.0.marked
        (sym (ap (λ (p : Place). p.spacing) is.0) ∙ one) in
        let rest = again vs done.0 spaced done.2 in
        let one : is_equal_or_unread v ≡ true =
        unchanged_file-has_kept_verdict w c before.left done.0.left e v is.1.0 kept.0 is.1.1 in
        (rw one rest.0, ap suc rest.1)

-- ---- what is printed

-- The entries of the files that were read, and what is printed of them.
record EntriesArePrinted (w : World) (o : Options) (names : List (List ℕ)) (old new : Streams)
    (each : List Bool) : Type 0 where
  found : List (Option Line)
  are_entries : AreDoneInTurn (IsEntryOfFile w o) names old new found
  all : list_all (λ well. well) each ≡ list_all is_some found
  printed : Appends old.held new.held (flat_map (terminated_line false) (present_entries found))

printed_lines-are_of_entries : (w : World) (o : Options) (names : List (List ℕ)) (old new : Streams)
    (each : List Bool)
    → o.shape ≡ Named → o.ends_zero ≡ false
    → AreDoneInTurn (EndsWithResult (DigestLineIsPrinted w o)) names old new each
    → EntriesArePrinted w o names old new each
printed_lines-are_of_entries w o [] old new [] shape ends done = record {
  found = [];
  are_entries = done;
  all = refl;
  printed = subst (λ (s : Streams). Appends old.held s.held []) (sym done) (Appends-nil old.held);
}
printed_lines-are_of_entries w o [] old new (well ∷ each) shape ends done = absurd done
printed_lines-are_of_entries w o (name ∷ names) old new [] shape ends done = absurd done
printed_lines-are_of_entries w o (name ∷ names) old new (true ∷ each) shape ends done =
    let rest = printed_lines-are_of_entries w o names done.0 new each shape ends done.2 in
    let e = entry_of w o name done.1.0.0 in
    record {
      found = Some e ∷ rest.found;
      are_entries = (done.0, (done.1.0.0, done.1.0.1, refl), rest.are_entries);
      all = rest.all;
      printed = Appends-trans old.held done.0.held new.held (terminated_line false e) _
          (subst (λ (shape : Shape). Appends old.held done.0.held (printed shape false e)) shape
          (subst (λ (zero : Bool). Appends old.held done.0.held (printed o.shape zero e)) ends
          done.1.0.2)) rest.printed;
    }
printed_lines-are_of_entries w o (name ∷ names) old new (false ∷ each) shape ends done =
    let rest = printed_lines-are_of_entries w o names done.0 new each shape ends done.2 in
    record {
      found = None ∷ rest.found;
      are_entries = (done.0, done.1, rest.are_entries);
      all = refl;
      printed = subst (λ (held : Option (List ℕ)). Appends held new.held
          (flat_map (terminated_line false) (present_entries rest.found))) done.1.1 rest.printed;
    }

-- What is printed for files is a manifest.
pub printed_sums-are_manifest : (w : World) (o : Options) (names : List (List ℕ))
    (old new : Streams)
    {E : Type 0} (r : Result Bool E) → o.shape ≡ Named → o.ends_zero ≡ false
    → NamesAreDoneInTurn (DigestLineIsPrinted w o) names old new (result_ok r)
    → IfOk r (ManifestIsPrinted w o names old new)
printed_sums-are_manifest w o names old new (Ok are_read) shape ends done =
    let all = printed_lines-are_of_entries w o names old new done.0 shape ends done.1 in
    record {
      found = all.found;
      are_entries = all.are_entries;
      all = done.2 ∙ all.all;
      text = flat_map (terminated_line false) (present_entries all.found);
      printed = all.printed;
      read_back = λ c input s are accepts named two. printed_lines-are_read c input s
          (present_entries all.found)
          (entries_of_files-are_readable w c o input names old new all.found are accepts named
          all.are_entries) two;
      kept = λ c input before after vs are accepts same named kept two checked.
          unchanged_files-have_kept_verdicts w c input (present_entries all.found) _ before after vs
          (entries_of_files-are_readable w c o input names old new all.found are accepts named
          all.are_entries)
          (entries_of_files-are_unchanged w c o names old new all.found are same kept
          all.are_entries) two refl checked;
    }
printed_sums-are_manifest w o names old new (Err e) shape ends done = tt
