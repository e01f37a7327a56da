-- Made by tools/twins.py from proofs/params/blake2b/parameters_in/Answers.antt.
use Rattle.std.proofs.Common.{◌≡◌, ◌∙◌, ℕ, List, ap, arith, drop, get_or, length-drop, take}
use Rattle.std.proofs.lemmas.List.{take_all}
use Rattle.blake2_compress.proofs.params.blake2s.parameters_in.Goals as goal

pub returns : goal.returns
returns c =
    let block : List ℕ = c.args.block.now in
    let texts : take 16 (drop 16 block) ≡ drop 16 block =
    take_all 16 (drop 16 block) (omega (arith, length-drop 16 block)) in
    λ i. record {
      size = get_or block 0 0;
      key_size = get_or block 1 0;
      salt = (c.split_at.ensures.front ∙ ap (take 8) texts) i;
      persona = (c.split_at.ensures.back ∙ ap (drop 8) texts) i;
      tree = c.tree_in.ensures i;
    }
