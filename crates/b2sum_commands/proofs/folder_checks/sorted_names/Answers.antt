use Rattle.std.proofs.Common.{◌≡◌, ℕ, Vec, Global, [], ◌++◌, ap, ◌∙◌, sym, subst, append-nil, arith}
use Rattle.std.proofs.lemmas.List.Sorted.{IsPermutation-map}
use Rattle.std.specs.List.Sorted.{IsPermutation}
use Rattle.text_lines.specs.Cuts.{lines_of}
use Rattle.b2sum_commands.proofs.DoneInTurn.{items_of}
use Rattle.b2sum_commands.proofs.LookedFor.{no_bytes}
use Rattle.b2sum_commands.specs.FolderChecks.{entry_names_of_lines}
use Rattle.b2sum_commands.proofs.folder_checks.sorted_names.Goals as goal

pub returns-clause-names : goal.returns-clause-names
returns-clause-names c =
    let o = c.args.options.now in
    let input = c.args.is_input in
    let none : c.line.rest.now ≡ [] = no_bytes c.line.rest.now
    (grind (arith, c.is_empty.ensures, c.line-test.false)) in
    let all : items_of c.line.names.items
    ≡ entry_names_of_lines o input c.args.spacing (lines_of c.args.text.now) =
    sym (append-nil (items_of c.line.names.items))
    ∙ sym (ap
    (λ text. items_of c.line.names.items
    ++ entry_names_of_lines o input c.line.spacing (lines_of text)) none)
    ∙ c.line.invariant in
    subst (λ ns. IsPermutation ns (items_of c.sort_unstable.new.self.items)) all
    (IsPermutation-map (λ (n : Vec ℕ Global). n.items) c.line.names.items
    c.sort_unstable.new.self.items c.sort_unstable.ensures.permutation)
