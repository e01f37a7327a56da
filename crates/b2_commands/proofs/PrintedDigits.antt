-- What is absorbed of a source, and what is printed of an output.
use Rattle.std.proofs.Common.{◌≡◌, ℕ, ◌+◌, ◌-◌, ◌/◌, ◌%◌, ◌<◌, ◌≤◌, ◌^◌, List, [], ◌∷◌, ◌++◌}
use Rattle.std.proofs.Common.{length}
use Rattle.std.proofs.Common.{Bool, true, false}
use Rattle.std.proofs.Common.{slice_index, take, drop}
use Rattle.std.proofs.Common.{Option, Some, None, IfSome, refl, sym, ap, ◌∙◌, subst, arith}
use Rattle.std.proofs.Math.Seq.{take-add}
use Rattle.std.proofs.lemmas.List.{drop-drop}
use Rattle.std.proofs.KnownBytes.{Appends-nil, Appends-trans, Consumes-all}
use Rattle.std.specs.Io.KnownBytes.{Appends}
use Rattle.hex.specs.Hex.{encode_with, lower_digits}
use Rattle.blake2_digest.specs.States.{Meaning, Updated}
use Rattle.blake2_streams.specs.Streams.{ReturnsAllBytes}
use Rattle.b2_commands.specs.PrintedLines.{piece_text}

-- A stream that was absorbed gave all that it had left.
pub Updated-by_all_source_bytes : {S : Type 0} (m : Meaning S) (old new : S)
    (from to : Option (List ℕ)) (n : ℕ)
    → ((bytes : List ℕ) × (length bytes ≡ n) × ReturnsAllBytes from to bytes
    × (m.count old + n < 2 ^ 64)
    × Updated m old bytes new)
    → IfSome from (λ bytes. (m.count old + length bytes < 2 ^ 64) × Updated m old bytes new)
Updated-by_all_source_bytes m old new None to n all = tt
Updated-by_all_source_bytes m old new (Some left) to n all =
    subst (λ bytes. (m.count old + length bytes < 2 ^ 64) × Updated m old bytes new)
    (Consumes-all (Some left) to all.0 [] all.0 all.2.given all.2.at_end refl)
    (omega (arith, all.1, all.3), all.4)

-- The digits of two lists, one after the other.
encode_with-append : (t xs ys : List ℕ)
    → encode_with t (xs ++ ys) ≡ encode_with t xs ++ encode_with t ys
unfolding encode_with
encode_with-append t [] ys = refl
encode_with-append t (x ∷ xs) ys =
    ap (λ l. slice_index t (x / 16) ∷ slice_index t (x % 16) ∷ l) (encode_with-append t xs ys)

-- What is printed of two lists, one after the other.
piece_text-append : (raw : Bool) (xs ys : List ℕ)
    → piece_text raw (xs ++ ys) ≡ piece_text raw xs ++ piece_text raw ys
piece_text-append true xs ys = refl
piece_text-append false xs ys = encode_with-append lower_digits xs ys

-- Nothing is printed of no bytes.
piece_text-empty : (raw : Bool) → piece_text raw [] ≡ []
unfolding encode_with
piece_text-empty true = refl
piece_text-empty false = refl

-- Nothing is printed at first.
pub Appends-empty_prefix : (raw : Bool) (n : ℕ) (all : List ℕ) (old : Option (List ℕ))
    → Appends old old (piece_text raw (take (n - n) all))
Appends-empty_prefix raw n all old =
    let none : 0 ≡ n - n = omega arith in
    subst (λ k. Appends old old (piece_text raw (take k all))) none
    (subst (Appends old old) (sym (piece_text-empty raw)) (Appends-nil old))

-- `size` bytes more are printed, of which `left` are left of `count`.
pub Appends-next_piece : (raw : Bool) (all : List ℕ) (from count left size position : ℕ)
    (old mid new : Option (List ℕ)) → size ≤ left → left ≤ count
    → position ≡ from + (count - left)
    → Appends old mid (piece_text raw (take (count - left) (drop from all)))
    → Appends mid new (piece_text raw (take size (drop position all)))
    → Appends old new (piece_text raw (take (count - (left - size)) (drop from all)))
Appends-next_piece raw all from count left size position old mid new some within at first second =
    let a : ℕ = count - left in
    let next : a + size ≡ count - (left - size) = omega arith in
    let rest : drop position all ≡ drop a (drop from all) =
    ap (λ n. drop n all) at ∙ sym (drop-drop a from all) in
    let joined : piece_text raw (take a (drop from all))
    ++ piece_text raw (take size (drop position all))
    ≡ piece_text raw (take (count - (left - size)) (drop from all)) =
    ap (λ l. piece_text raw (take a (drop from all)) ++ piece_text raw (take size l)) rest
    ∙ sym (piece_text-append raw (take a (drop from all)) (take size (drop a (drop from all))))
    ∙ ap (piece_text raw) (sym (take-add a size (drop from all)))
    ∙ ap (λ n. piece_text raw (take n (drop from all))) next in
    subst (Appends old new) joined (Appends-trans old mid new _ _ first second)
