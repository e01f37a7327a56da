-- Parts of the memory that files are read into, one after the other.
use Rattle.std.proofs.Common.{◌≡◌, ℕ, ◌+◌, ◌-◌, ◌≤◌, List, ◌++◌, length, take, drop, sym, ap, ◌∙◌}
use Rattle.std.proofs.Common.{subst, arith, append_assoc, length-append, Bool, true, false, [], ◌∷◌}
use Rattle.std.proofs.Common.{if◌then◌else◌}
use Rattle.std.proofs.Common.{◌<◌, slice_index_or}
use Rattle.std.proofs.Math.Seq.{get_or-append_seam}
use Rattle.std.specs.List.{All, Any}
use Rattle.std.proofs.lemmas.List.{get_or_append_left, take_more}
use Rattle.std.proofs.lemmas.List.Elements.{All-nil, All-push, All-same, All-weaker}
use Rattle.std.proofs.lemmas.List.{length-drop, length-take-le, take-append-drop, take-take, take_at}
use Rattle.std.proofs.lemmas.Slice.{between_is}
use borrow.Rule.Slice.PartMut.{put_mid, post_of}
use Rattle.b2sum_commands.specs.declared.ahead.Found.{Found}
use Rattle.b2sum_commands.specs.declared.ahead.Part.{Part}
use Rattle.b2sum_commands.specs.ReadAhead.{AreDigestsOfFiles, PartHasFileText, IsDigestOfFile}
use Rattle.b2sum_commands.specs.ReadAhead.{IsDigestFor, FileHasText}
use Rattle.b2sum_commands.specs.ReadAhead.{bytes_of_part}
use Rattle.b2sum_commands.specs.World.{Files, Hashing}
use Rattle.b2sum_commands.specs.declared.hashes.Function.{Function}
use Rattle.b2sum_commands.specs.declared.options.Options.{Options}
use Rattle.blake2_streams.specs.Streams.{ReturnsAllBytes}

-- A write to all from byte a on leaves the length as it is.
pub put_mid-keeps_length : {X : Type 0} (xs ys : List X) (a : ℕ) → a ≤ length xs
    → length ys ≡ length xs - a → length (put_mid a (length xs - a) xs ys) ≡ length xs
put_mid-keeps_length xs ys a most same =
    let post = post_of a (length xs - a) xs in
    omega (
      arith,
      length-append (take a xs) (ys ++ post),
      length-append ys post,
      length-take-le a xs most,
      length-drop (length xs - a) (drop a xs),
      length-drop a xs,
      same,
      most,
    )

-- What is there up to byte a + n after it.
pub take-of_put_mid : {X : Type 0} (xs ys : List X) (a n : ℕ) → a ≤ length xs → n ≤ length ys
    → take (a + n) (put_mid a (length xs - a) xs ys) ≡ take a xs ++ take n ys
take-of_put_mid {X} xs ys a n most within =
    let post = post_of a (length xs - a) xs in
    ap (λ (l : List X). take (a + n) (take a xs ++ (l ++ post))) (sym (take-append-drop n ys))
    ∙ ap (λ (l : List X). take (a + n) (take a xs ++ l))
    (append_assoc (take n ys) (drop n ys) post)
    ∙ ap (take (a + n)) (sym (append_assoc (take a xs) (take n ys) (drop n ys ++ post)))
    ∙ take_at (take a xs ++ take n ys) (drop n ys ++ post) (a + n)
    (omega (
      arith,
      length-append (take a xs) (take n ys),
      length-take-le a xs most,
      length-take-le n ys within,
    ))

-- A part stays the same if the bytes up to its end do.
part-kept_by_equal_prefix : (new old : List ℕ) (at s e : ℕ) → take at new ≡ take at old → e ≤ at
    → take (e - s) (drop s new) ≡ take (e - s) (drop s old)
part-kept_by_equal_prefix new old at s e same most =
    between_is new s e
    ∙ ap (drop s) (sym (take-take e at new most) ∙ ap (take e) same ∙ take-take e at old most)
    ∙ sym (between_is old s e)

-- So it keeps the file's text.
pub file_text-kept_by_equal_prefix : (files : Files) (new old : List ℕ) (at most : ℕ) → take at new
    ≡ take at old
    → at ≤ most → (p : Part) → PartHasFileText files old at p → PartHasFileText files new most p
file_text-kept_by_equal_prefix files new old at most same le p has = (
  has.0,
  omega (arith, has.1, le),
  subst (FileHasText files p.name.items)
      (sym (part-kept_by_equal_prefix new old at p.start p.end same has.1)) has.2,
)

-- ---- lists

-- There are none yet.
pub none_found : (files : Files) (hashing : Hashing) (o : Options) (found : List Found)
    → found ≡ [] → AreDigestsOfFiles files hashing o found
none_found files hashing o found is =
    let Is : Found
    → Type 0 = λ x. IsDigestOfFile files hashing o x.function x.name.items x.digest in
    All-same Is found [] is (All-nil Is)

-- One more, if there is memory for it.
pub all-pushed_if_memory : {X : Type 0} (P : X → Type 0) (xs new : List X) (x : X) (b : Bool)
    → new ≡ (if b then xs ++ x ∷ [] else xs) → All P xs → P x → All P new
all-pushed_if_memory P xs new x true is all one = All-same P new (xs ++ x ∷ []) is
    (All-push P xs x all one)
all-pushed_if_memory P xs new x false is all one = All-same P new xs is all

-- That there was memory means that it is there.
pub pushed-if_memory : {X : Type 0} (xs new : List X) (x : X) (b : Bool)
    → new ≡ (if b then xs ++ x ∷ [] else xs) → b ≡ true → new ≡ xs ++ x ∷ []
pushed-if_memory xs new x b is ok = is ∙ ap (λ (c : Bool). if c then xs ++ x ∷ [] else xs) ok

-- What is found stays found.
pub any-append : {X : Type 0} (P : X → Type 0) (xs : List X) (x : X) → Any P xs
    → Any P (xs ++ x ∷ [])
any-append P xs x any = (
  any.0,
  any.1,
  omega (arith, any.2, length-append xs (x ∷ [])),
  get_or_append_left xs (x ∷ []) any.1 any.0 any.2 ∙ any.3,
  any.4,
)

-- What is added is found.
found_last : {X : Type 0} (P : X → Type 0) (xs : List X) (x : X) → P x → Any P (xs ++ x ∷ [])
found_last P xs x is = (
  length xs,
  x,
  omega (arith, length-append xs (x ∷ [])),
  get_or-append_seam xs x [] x,
  is,
)

-- Each of the first parts has a digest, and so has one part more if that is added.
pub digests_found-one_more_part : (f : Function) (parts : List Part) (j : ℕ) (p : Part)
    (found : List Found)
    (x : Found) → j < length parts → IsDigestFor f (slice_index_or parts j p).name.items x
    → All (λ q. Any (IsDigestFor f q.name.items) found) (take j parts)
    → All (λ q. Any (IsDigestFor f q.name.items) (found ++ x ∷ [])) (take (j + 1) parts)
digests_found-one_more_part f parts j p found x lt is all =
    let Has : List Found → Part → Type 0 = λ l q. Any (IsDigestFor f q.name.items) l in
    let new : List Found = found ++ x ∷ [] in
    All-same (Has new) _ _ (take_more parts j p lt)
    (All-push (Has new) (take j parts) (slice_index_or parts j p)
    (All-weaker (Has found) (Has new) (λ q. any-append (IsDigestFor f q.name.items) found x)
    (take j parts) all)
    (found_last (IsDigestFor f (slice_index_or parts j p).name.items) found x is))

-- The digest of a part is that of the file.
pub digest_of_part-is_of_file : (files : Files) (hashing : Hashing) (o : Options) (f : Function)
    (room : List ℕ)
    (p : Part) (name text digest : List ℕ) → PartHasFileText files room (length room) p
    → name ≡ p.name.items → text ≡ bytes_of_part room p → take f.bytes digest
    ≡ hashing.digest o f text
    → IsDigestOfFile files hashing o f name digest
digest_of_part-is_of_file files hashing o f room p name text digest has named is right = (
  bytes_of_part room p,
  (
    has.2.0,
    subst (λ (n : List ℕ). ReturnsAllBytes (files.holds n) has.2.0 (bytes_of_part room p)) (sym named)
        has.2.1,
  ),
  right ∙ ap (hashing.digest o f) is,
)
