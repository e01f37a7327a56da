-- A state continues to represent its slot, whatever it absorbs, and has the slot's digest.
use Rattle.std.proofs.Common.{◌≡◌, ℕ, Bool, List, [], ◌++◌, refl, sym, ap, ◌∙◌, arith}
use Rattle.std.proofs.Common.{length-append, append_assoc}
use Rattle.std.proofs.lemmas.List.{append-nil}
use Rattle.blake2_digest.specs.States.{Meaning, digest_now, Updated, ResetToStart}
use Rattle.blake2_replay.specs.Play.{AbsorbedBytes, since_beginning, since_reset, absorb_more}
use Rattle.blake2_replay.specs.Play.{digest_under, slot_digest}
use Rattle.blake2_replay.specs.SlotStates.{StandsFor}

module _ {S : Type 0} (m : Meaning S) (first : S) where
  -- The first state represents a slot that has absorbed nothing.
  pub StandsFor-first : StandsFor m first (since_beginning []) first
  StandsFor-first = record {
    future = λ flag y. refl;
    started = λ flag y. refl;
    last_node = refl;
    count = omega arith;
    start_count = refl;
  }

  -- A state that absorbs x represents a slot that absorbs x.
  pub StandsFor-updated : (taken : AbsorbedBytes) (h n : S) (x : List ℕ) → StandsFor m first taken h
      → Updated m h x n → StandsFor m first (absorb_more taken x) n
  StandsFor-updated (since_beginning b) h n x stands u = record {
    future = λ flag y. u.future flag y ∙ stands.future flag (x ++ y)
        ∙ ap (m.future first flag) (sym (append_assoc b x y));
    started = λ flag y. u.started flag y ∙ stands.started flag y;
    last_node = u.last_node ∙ stands.last_node;
    count = omega (arith, u.count, stands.count, length-append b x);
    start_count = u.start_count ∙ stands.start_count;
  }
  StandsFor-updated (since_reset b) h n x stands u = record {
    future = λ flag y. u.future flag y ∙ stands.future flag (x ++ y)
        ∙ ap (m.started first flag) (sym (append_assoc b x y));
    started = λ flag y. u.started flag y ∙ stands.started flag y;
    last_node = u.last_node ∙ stands.last_node;
    count = omega (arith, u.count, stands.count, length-append b x);
    start_count = u.start_count ∙ stands.start_count;
  }

  -- A state that was reset represents a slot that was reset.
  pub StandsFor-reset : (taken : AbsorbedBytes) (h n : S) → StandsFor m first taken h
      → ResetToStart m h n
      → StandsFor m first (since_reset []) n
  StandsFor-reset taken h n stands again = record {
    future = λ flag y. again.future flag y ∙ stands.started flag y;
    started = λ flag y. again.started flag y ∙ stands.started flag y;
    last_node = again.last_node ∙ stands.last_node;
    count = omega (arith, again.count, stands.start_count);
    start_count = again.start_count ∙ stands.start_count;
  }

  -- A slot that absorbs nothing has the digest that it had.
  digest-nothing : (flag : Bool) (taken : AbsorbedBytes)
      → digest_under m first flag (absorb_more taken []) ≡ digest_under m first flag taken
  digest-nothing flag (since_beginning b) = ap (m.future first flag) (append-nil b)
  digest-nothing flag (since_reset b) = ap (m.started first flag) (append-nil b)

  -- The digest of a state is that of its slot.
  pub digest_now-is_slot_digest : (taken : AbsorbedBytes) (h : S) → StandsFor m first taken h
      → digest_now m h ≡ slot_digest m first taken
  digest_now-is_slot_digest taken h stands =
      let flag : Bool = m.last_node first in
      ap (λ (own : Bool). m.future h own []) stands.last_node ∙ stands.future flag []
      ∙ digest-nothing flag taken
