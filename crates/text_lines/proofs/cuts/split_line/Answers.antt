use Rattle.std.proofs.Common.{refl}
use Rattle.text_lines.proofs.CutLemmas.{lines_of-first_slice}
use Rattle.text_lines.proofs.cuts.split_line.Goals as goal

pub returns-clause-first : goal.returns-clause-first
returns-clause-first c =
    lines_of-first_slice c.args.text.now c.split_once.result _ c.unwrap_or.result c.requires
    c.split_once.ensures c.unwrap_or.ensures refl refl
