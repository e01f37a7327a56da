use Rattle.std.proofs.Common.{◌≡◌, ◌∙◌, ℕ, List, ap, arith, drop, get_or, length-drop, take}
use Rattle.std.proofs.lemmas.List.{take_all}
use Rattle.blake2_compress.proofs.params.blake2b.parameters_in.Goals as goal

pub returns : goal.returns
returns c =
    let block : List ℕ = c.args.block.now in
    let texts : take 32 (drop 32 block) ≡ drop 32 block =
    take_all 32 (drop 32 block) (omega (arith, length-drop 32 block)) in
    λ i. record {
      size = get_or block 0 0;
      key_size = get_or block 1 0;
      salt = (c.split_at.ensures.front ∙ ap (take 16) texts) i;
      persona = (c.split_at.ensures.back ∙ ap (drop 16) texts) i;
      tree = c.tree_in.ensures i;
    }
