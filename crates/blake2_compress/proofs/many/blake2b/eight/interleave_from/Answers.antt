use Rattle.std.proofs.Common.{◌≡◌, ◌+◌, ℕ, List, [], ◌∷◌, length, ap, ◌∙◌, arith, rules}
use Rattle.blake2_simd.specs.Lanes.{in_lane}
use Rattle.blake2_simd.proofs.Columns.{eight_reads-are_list}
use Rattle.blake2_compress.proofs.ManyMessages.{word_in_lane}
use Rattle.blake2_compress.proofs.many.blake2b.eight.interleave_from.Goals as goal

pub returns : goal.returns
returns c i j low h =
    let words = c.args.words.now in
    let long : length words ≡ 8 = search rules in
    let read : List (List ℕ) =
    c.eight_words.result ∷ c.eight_words-2.result ∷ c.eight_words-3.result ∷ c.eight_words-4.result
    ∷ c.eight_words-5.result ∷ c.eight_words-6.result ∷ c.eight_words-7.result
    ∷ c.eight_words-8.result ∷ [] in
    c.transpose.ensures j i h low
    ∙ word_in_lane words read i (c.args.k + i) j (omega arith) ((λ t.
    c.eight_words.ensures i low t ∷ c.eight_words-2.ensures i low t ∷
    c.eight_words-3.ensures i low t ∷ c.eight_words-4.ensures i low t ∷
    c.eight_words-5.ensures i low t ∷ c.eight_words-6.ensures i low t ∷
    c.eight_words-7.ensures i low t ∷ c.eight_words-8.ensures i low t ∷ [])
    ∙ ap (in_lane (c.args.k + i)) (eight_reads-are_list words [] _ _ _ _ _ _ _ _ long))
