use Rattle.std.proofs.Common.{◌≡◌, ◌<◌, ℕ, List, [], ◌∷◌, length, get_or, slice_index_or, ap, ◌∙◌}
use Rattle.std.proofs.Common.{arith, lit<, rules}
use Rattle.std.proofs.lemmas.List.{get_or_default}
use Rattle.blake2_simd.specs.Family.{blake2b}
use Rattle.blake2_simd.proofs.Lanes.{list_of_four-at_lane}
use Rattle.blake2_compress.proofs.Lanes.{after_blocks-single}
use Rattle.blake2_compress.proofs.many.blake2b.compress_next.Goals as goal

pub returns : goal.returns
returns c j h =
    let blocks : List (List ℕ) = c.args.blocks.now in
    let long : length blocks ≡ 4 = search rules in
    let block : ℕ → List ℕ = λ k. slice_index_or blocks k [] in
    let single : List ℕ → List (List ℕ) = λ b. b ∷ [] in
    let at : (k : ℕ) (d : List ℕ) → k < 4 → get_or blocks k d ≡ block k =
    λ k d lt. get_or_default blocks k d [] (omega (arith, long, lt)) in
    c.compress_blocks.ensures j h
    ∙ after_blocks-single blake2b _ (block j) _ _ _
    (list_of_four-at_lane (λ k. single (block k)) _ _ _ _
    (ap single (at 0 _ (lit< tt)))
    (ap single (at 1 _ (lit< tt)))
    (ap single (at 2 _ (lit< tt)))
    (ap single (at 3 _ (lit< tt))) j h)
