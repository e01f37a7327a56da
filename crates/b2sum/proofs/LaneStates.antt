-- States that go on in lanes: further in their texts, and from one text to the next.
use Rattle.std.proofs.Common.{◌≡◌, ◌≢◌, ◌⊎◌, ℕ, ◌+◌, ◌-◌, ◌<◌, ◌≤◌, List, [], ◌++◌, length, take, drop}
use Rattle.std.proofs.Common.{arith, append_assoc, ap, inl, inr, slice_index_or, subst, sym, ◌∙◌}
use Rattle.std.proofs.lemmas.Bool.{cases_lt}
use Rattle.std.proofs.lemmas.List.{append-nil, get_or_default, length-append, length-drop, length-take}
use Rattle.std.proofs.lemmas.List.{take-append-drop, take_all, take_at}
use Rattle.b2sum.specs.declared.lanes.Lane.{Lane}
use Rattle.b2sum.specs.LaneStates.{TextsAreDoneOrInLanes, StateIsAtOffset, DigestIsWritten}
use Rattle.b2sum.specs.LaneStates.{LaneIsInText, StateAbsorbs, next_piece_of_lane, lane_after_piece}

-- The first bytes of a text, and at most so many after them.
take-append_take_drop : (at most : ℕ) (text : List ℕ) → at ≤ length text
    → take at text ++ take most (drop at text) ≡ take (at + length (take most (drop at text))) text
take-append_take_drop at most text le =
    let piece : List ℕ = take most (drop at text) in
    let rest : List ℕ = drop most (drop at text) in
    let whole : (take at text ++ piece) ++ rest ≡ text =
    append_assoc (take at text) piece rest
    ∙ ap (λ (l : List ℕ). take at text ++ l) (take-append-drop most (drop at text))
    ∙ take-append-drop at text in
    sym (ap (take (at + length piece)) (sym whole) ∙ take_at (take at text ++ piece) rest _ (omega (
      arith,
      length-append (take at text) piece,
      length-take at text,
      le,
    )))

-- The state of a lane that absorbs at most so many bytes more of its text is there.
pub state_at_offset-after_absorbing : {S : Type 0} (IsReady : S → Type 0) (size count : S → ℕ)
    (limit : ℕ)
    (future : S → List ℕ → List ℕ) (n : ℕ) (digest : List ℕ → List ℕ) (at most : ℕ)
    (text : List ℕ) (old new : S) → at ≤ length text
    → StateIsAtOffset IsReady size count limit future n digest at text old
    → StateAbsorbs IsReady size count future old (take most (drop at text)) new
    → StateIsAtOffset IsReady size count limit future n digest
    (at + length (take most (drop at text))) text new
state_at_offset-after_absorbing IsReady size count limit future n digest at most text old new le is
    takes =
    let piece : List ℕ = take most (drop at text) in
    record {
      ready = takes.ready;
      has_size = takes.same_size ∙ is.has_size;
      has_room = omega (
        arith,
        is.has_room,
        takes.counted,
        length-drop (at + length piece) text,
        length-drop at text,
        length-take most (drop at text),
        le,
      );
      absorbed = λ y. takes.absorbed y ∙ is.absorbed (piece ++ y)
          ∙ ap digest (sym (append_assoc (take at text) piece y)
          ∙ ap (λ (l : List ℕ). l ++ y) (take-append_take_drop at most text le));
    }

-- The digest of a state whose text has ended is that of the text.
pub digest_written-at_text_end : {S : Type 0} (IsReady : S → Type 0) (size count : S → ℕ)
    (limit : ℕ)
    (future : S → List ℕ → List ℕ) (n : ℕ) (digest : List ℕ → List ℕ) (at : ℕ) (text place : List ℕ)
    (s : S) → StateIsAtOffset IsReady size count limit future n digest at text s → length text ≤ at
    → take (size s) place ≡ future s [] → DigestIsWritten digest n text place
digest_written-at_text_end IsReady size count limit future n digest at text place s is long here =
    ap (λ (k : ℕ). take k place) (sym is.has_size) ∙ here ∙ is.absorbed []
    ∙ ap digest (append-nil (take at text) ∙ take_all at text long)

-- ---- lanes

pub equal_or_not_equal : (a b : ℕ) → (a ≡ b) ⊎ (a ≢ b)
equal_or_not_equal a b = elim (cases_lt a b) [
  | inl lt ↦ inr (λ e. absurd (omega (arith, lt, e)))
  | inr le ↦ elim (cases_lt b a) [
    | inl gt ↦ inr (λ e. absurd (omega (arith, gt, e)))
    | inr ge ↦ inl (omega (arith, le, ge))
  ]
]

-- If the text of a lane is done now, and no other place has changed, each text is still done or
-- begun, even if that lane is in another text then.
pub texts_done_or_in_lanes-after_finish : (digest : List ℕ → List ℕ) (n : ℕ)
    (texts out new : List (List ℕ))
    (lanes after : List Lane) (low high least most lane : ℕ) (l : Lane) → lane < length lanes
    → TextsAreDoneOrInLanes digest n texts out lanes low high most
    → DigestIsWritten digest n (slice_index_or texts (slice_index_or lanes lane l).text [])
    (slice_index_or new (slice_index_or lanes lane l).text [])
    → ((t : ℕ) → t ≢ (slice_index_or lanes lane l).text
    → slice_index_or new t [] ≡ slice_index_or out t [])
    → ((j : ℕ) (x : Lane) → low ≤ j → j < high → j ≢ lane
    → (least ≤ j) × ((slice_index_or after j x).text ≡ (slice_index_or lanes j x).text))
    → TextsAreDoneOrInLanes digest n texts new after least high most
texts_done_or_in_lanes-after_finish digest n texts out new lanes after low high least most lane l
    long before done others keeps t lt =
    let here : ℕ = (slice_index_or lanes lane l).text in
    let Done : ℕ → List ℕ
    → Type 0 = λ k p. DigestIsWritten digest n (slice_index_or texts k []) p in
    elim (equal_or_not_equal t here) [
      | inl same ↦ inl (subst (λ (k : ℕ). Done k (slice_index_or new k [])) (sym same) done)
      | inr other ↦ elim (before t lt) [
        | inl is ↦ inl (subst (Done t) (sym (others t other)) is)
        | inr is ↦ elim (equal_or_not_equal is.0 lane) [
          | inl same ↦ absurd (other (sym is.4
              ∙ ap (λ (k : ℕ). (slice_index_or lanes k is.1).text) same
              ∙ ap (λ (x : Lane). x.text) (get_or_default lanes lane is.1 l long)))
          | inr not ↦
              let kept = keeps is.0 is.1 is.2 is.3 not in
              inr (is.0, is.1, kept.0, is.3, kept.1 ∙ is.4)
        ]
      ]
    ]
