-- Slices that are written in two pieces.
use Rattle.std.proofs.Common.{◌≡◌, ℕ, ◌-◌, List, [], ◌++◌, length, drop, ap, ◌∙◌, append-nil, arith}
use Rattle.std.proofs.Common.{length-append}
use Rattle.std.proofs.lemmas.List.{take_at, drop_at, drop_all}
use borrow.Rule.Slice.PartMut.{put_mid}

-- The end of a list is overwritten.
pub put_mid-overwrites_end : (at : ℕ) (a b d : List ℕ) → length a ≡ at → length b ≡ length d
    → put_mid at (length (a ++ d) - at) (a ++ d) b ≡ a ++ b
put_mid-overwrites_end at a b d size same =
    let behind : drop (length (a ++ d) - at) (drop at (a ++ d)) ≡ [] =
    ap (drop (length (a ++ d) - at)) (drop_at a d at size)
    ∙ drop_all (length (a ++ d) - at) d (omega (arith, length-append a d)) in
    (λ i. take_at a d at size i ++ (b ++ behind i)) ∙ ap (λ r. a ++ r) (append-nil b)
