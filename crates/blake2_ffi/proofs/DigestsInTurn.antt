-- Digests that are written one after the other.
use Rattle.std.proofs.Common.{◌≡◌, ℕ, zero, suc, ◌+◌, ◌-◌, ◌*◌, ◌≤◌, List, [], ◌∷◌, ◌++◌, length}
use Rattle.std.proofs.Common.{map, take, drop, slice_index_or, refl, sym, ap, ap₂, ◌∙◌, append-nil}
use Rattle.std.proofs.Common.{append_assoc, length-append, arith, Bool, false}
use Rattle.std.specs.List.{concat, flat_map}
use Rattle.std.proofs.lemmas.Grind.{flat_map-append}
use Rattle.std.proofs.lemmas.List.{take-append-drop, take-take, drop-take, take_all, drop_all}
use Rattle.std.proofs.lemmas.List.{take_at, drop_at, drop-drop, length-drop}
use Rattle.std.proofs.lemmas.Nat.{mul-le}
use borrow.Rule.Slice.PartMut.{put_mid}
use Rattle.blake2_simd.proofs.Lanes.{tabulate}
use Rattle.blake2_digest.specs.States.{Fresh, Meaning, Updated, digest_now}

-- What a list maps to, one after the other.
flat_map-is_concat_map : {X : Type 0} (g : X → List ℕ) (xs : List X)
    → flat_map g xs ≡ concat (map g xs)
flat_map-is_concat_map g [] = refl
flat_map-is_concat_map g (x ∷ xs) = ap (λ l. g x ++ l) (flat_map-is_concat_map g xs)

-- The first n items of a list, each mapped.
lanes-are_mapped_prefix : {X : Type 0} (n : ℕ) (g : X → List ℕ) (d : X) (xs : List X) → n ≤ length xs
    → tabulate n (λ j. g (slice_index_or xs j d)) ≡ map g (take n xs)
lanes-are_mapped_prefix zero g d xs h = refl
lanes-are_mapped_prefix (suc n) g d [] h = absurd (omega arith)
lanes-are_mapped_prefix (suc n) g d (x ∷ xs) h = λ i. g x ∷ lanes-are_mapped_prefix n g d xs (omega arith) i

-- The digests of the first n messages, cut to k bytes each, are written.
pub written_lanes-are_first_digests : {X : Type 0} (n k : ℕ) (g : X → List ℕ) (d : X) (xs : List X)
    (digests : List (List ℕ)) (was : List ℕ) {new : List ℕ} → n ≤ length xs → length digests ≡ n
    → map (take k) digests ≡ tabulate n (λ j. g (slice_index_or xs j d))
    → new ≡ flat_map (take k) digests ++ drop (length digests * k) was
    → new ≡ flat_map g (take n xs) ++ drop (n * k) was
written_lanes-are_first_digests n k g d xs digests was enough long are written =
    let same : flat_map (take k) digests ≡ flat_map g (take n xs) =
    flat_map-is_concat_map (take k) digests ∙ ap concat
    (are ∙ lanes-are_mapped_prefix n g d xs enough)
    ∙ sym (flat_map-is_concat_map g (take n xs)) in
    written ∙ (λ i. same i ++ drop (long i * k) was)

-- The first items, and then the next.
flat_map-take_add : {X : Type 0} (g : X → List ℕ) (n m : ℕ) (xs : List X)
    → flat_map g (take (n + m) xs) ≡ flat_map g (take n xs) ++ flat_map g (take m (drop n xs))
flat_map-take_add g n m xs =
    let split : take (n + m) xs ≡ take n xs ++ take m (drop n xs) =
    sym (take-append-drop n (take (n + m) xs))
    ∙ ap₂ (λ a b. a ++ b) (take-take n (n + m) xs (omega arith)) (drop-take n m xs) in
    ap (flat_map g) split ∙ flat_map-append g (take n xs) (take m (drop n xs))

-- What is written after the first a bytes, if these are known and the rest is as it was.
put_mid-after_written_prefix : (a m : ℕ) (was xs ys front more : List ℕ) → a ≤ length was
    → length xs ≡ length was → xs ≡ front ++ drop a was
    → ys ≡ more ++ drop m (take (length xs - a) (drop a xs))
    → put_mid a (length xs - a) xs ys ≡ (front ++ more) ++ drop (a + m) was
put_mid-after_written_prefix a m was xs ys front more fits same begun e =
    let long : length front ≡ a =
    omega (
      arith,
      fits,
      same,
      ap length begun,
      length-append front (drop a was),
      length-drop a was,
    ) in
    let left : take a xs ≡ front = ap (take a) begun ∙ take_at front (drop a was) a long in
    let right : drop a xs ≡ drop a was = ap (drop a) begun ∙ drop_at front (drop a was) a long in
    let size = length-drop a xs in
    let whole : take (length xs - a) (drop a xs) ≡ drop a xs =
    take_all (length xs - a) (drop a xs) (omega (arith, size)) in
    let rest : drop (length xs - a) (drop a xs) ≡ [] =
    drop_all (length xs - a) (drop a xs) (omega (arith, size)) in
    let written : ys ≡ more ++ drop (a + m) was =
    e ∙ ap (λ l. more ++ drop m l) (whole ∙ right) ∙ ap (λ l. more ++ l) (drop-drop m a was) in
    (λ i. left i ++ (written i ++ rest i)) ∙ ap (λ l. front ++ l) (append-nil _)
    ∙ sym (append_assoc front more (drop (a + m) was))

-- The digests of k more messages are written after those of the first ones, n bytes each.
pub next_digests-are_written : {X : Type 0} (g : X → List ℕ) (n done k : ℕ) (xs : List X)
    (was out new : List ℕ) → done ≤ length xs → length was ≡ length xs * n
    → length out ≡ length was → out ≡ flat_map g (take done xs) ++ drop (done * n) was
    → new ≡ flat_map g (take k (take (length xs - done) (drop done xs)))
    ++ drop (k * n) (take (length out - done * n) (drop (done * n) out))
    → put_mid (done * n) (length out - done * n) out new
    ≡ flat_map g (take (done + k) xs) ++ drop ((done + k) * n) was
next_digests-are_written g n done k xs was out new within room long begun written =
    let fits : done * n ≤ length was =
    omega (arith, room, mul-le done n (length xs) n within (omega arith)) in
    let whole : take (length xs - done) (drop done xs) ≡ drop done xs =
    take_all (length xs - done) (drop done xs) (omega (arith, length-drop done xs)) in
    let at : done * n + k * n ≡ (done + k) * n = omega arith in
    put_mid-after_written_prefix (done * n) (k * n) was out new (flat_map g (take done xs))
    (flat_map g (take k (drop done xs))) fits long begun
    (written ∙ ap (λ l. flat_map g (take k l)
    ++ drop (k * n) (take (length out - done * n) (drop (done * n) out))) whole)
    ∙ ap₂ (λ l m. l ++ drop m was) (sym (flat_map-take_add g done k xs)) at

-- The digest of a message is written in all bytes: that of a new state which has absorbed it.
pub written_digest-is_digest_of_input : {S : Type 0} (m : Meaning S)
    (digest : Bool → List ℕ → List ℕ)
    (count size : ℕ) (made after : S) (input was : List ℕ) {new : List ℕ}
    → Fresh m digest count made → Updated m made input after → size ≡ length was
    → new ≡ digest_now m after ++ drop size was → new ≡ digest false input
written_digest-is_digest_of_input m digest count size made after input was fresh updated long
    written =
    let flag : m.last_node after ≡ false = updated.last_node ∙ fresh.last_node in
    let now : digest_now m after ≡ digest false input =
    ap (λ (on : Bool). m.future after on []) flag ∙ updated.future false []
    ∙ fresh.future false (input ++ []) ∙ ap (digest false) (append-nil input) in
    let rest : drop size was ≡ [] = drop_all size was (omega (arith, long)) in
    written ∙ (λ i. now i ++ rest i) ∙ append-nil (digest false input)
