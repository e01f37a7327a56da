-- Outputs of a length that is known in advance, read as a whole.
use Rattle.std.proofs.Common.{◌≡◌, ℕ, ◌≤◌, Bool, List, [], ◌++◌, length}
use Rattle.std.proofs.Common.{take, drop, ap, ◌∙◌, arith, append-nil}
use Rattle.std.proofs.lemmas.Bool.Decides.{nat_tests}
use Rattle.std.proofs.lemmas.List.{take_all}
use Rattle.blake2_simd.specs.Family.{Family, blake2b, blake2s}
use Rattle.blake2_digest.specs.States.{Fresh, Meaning, Updated, digest_now}
use Rattle.blake2_xof.specs.Xof.{IsKnownLength, Settings, outputs, output_length, root_hash, xof}
use Rattle.blake2_xof.proofs.OutputBlocks.{length-xof_output}

-- The length of such an output.
pub output_length-of_known_length : (f : Family) (n : ℕ) → IsKnownLength f n → output_length f n ≡ n
output_length-of_known_length blake2b n known = grind (arith, nat_tests)
output_length-of_known_length blake2s n known = grind (arith, nat_tests)

-- A new state that absorbs x and is then read as a whole.
pub whole_read-is_xof : {S : Type 0} (f : Family) (m : Meaning S) (a : Settings) (n : ℕ)
    (made now : S)
    (x : List ℕ) (position : ℕ) (all out : List ℕ) → IsKnownLength f a.xof_length → 1 ≤ a.xof_length
    → Fresh m (outputs f a) n made → Updated m made x now → position ≡ 0
    → all ≡ digest_now m now → out ≡ take a.xof_length (drop position all) → out ≡ xof f a x
whole_read-is_xof f m a n made now x position all out known some fresh updated first is read =
    let own : Bool = m.last_node now in
    let whole : all ≡ xof f a x =
    is ∙ updated.future own [] ∙ fresh.future own (x ++ []) ∙ ap (xof f a) (append-nil x) in
    let size = output_length-of_known_length f a.xof_length known in
    let long : length (xof f a x) ≡ a.xof_length =
    length-xof_output f a (root_hash f a x) (omega (arith, size)) ∙ size in
    read ∙ (λ i. take a.xof_length (drop (first i) (whole i)))
    ∙ take_all a.xof_length (xof f a x) (omega (arith, long))
