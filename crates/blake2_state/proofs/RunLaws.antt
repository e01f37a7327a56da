-- The contracts of a run, from those of the state that it holds.
use Rattle.std.proofs.Common.{◌≡◌, ℕ, ◌-◌, ◌≤◌, List, ◌++◌, length, drop, replicate, sym, ap, ◌∙◌}
use Rattle.std.proofs.Common.{arith, length-append, length-drop}
use Rattle.std.proofs.lemmas.List.{drop-replicate, length-replicate}
use Rattle.blake2_digest.specs.States.{ResetToStart, Updated, digest_now}
use Rattle.blake2_digest.specs.Texts.{padded}
use Rattle.blake2_state.specs.Blake2b as B
use Rattle.blake2_state.specs.Blake2s as S
use Rattle.blake2_state.specs.declared.blake2b.State.{State as StateB}
use Rattle.blake2_state.specs.declared.blake2s.State.{State as StateS}
use Rattle.blake2_state.specs.declared.runs.Held.{Held}
use Rattle.blake2_state.specs.declared.runs.Held.TheVariants.{Blake2b, Blake2s}
use Rattle.blake2_state.specs.Runs.{meaning}

pub Updated-of_blake2b_state : {a b : StateB} {x : List ℕ} {old new : Held} → old ≡ Blake2b a
    → new ≡ Blake2b b
    → Updated B.meaning a x b → Updated meaning old x new
Updated-of_blake2b_state from to u = rw (from, to) (record {
  future = λ flag y. ap (padded 64) (u.future flag y);
  started = λ flag y. ap (padded 64) (u.started flag y);
  last_node = u.last_node;
  count = u.count;
  start_count = u.start_count;
})

pub Updated-of_blake2s_state : {a b : StateS} {x : List ℕ} {old new : Held} → old ≡ Blake2s a
    → new ≡ Blake2s b
    → Updated S.meaning a x b → Updated meaning old x new
Updated-of_blake2s_state from to u = rw (from, to) (record {
  future = λ flag y. ap (padded 64) (u.future flag y);
  started = λ flag y. ap (padded 64) (u.started flag y);
  last_node = u.last_node;
  count = u.count;
  start_count = u.start_count;
})

pub StartedAgain-of_blake2b_state : {a b : StateB} {old new : Held} → old ≡ Blake2b a → new ≡ Blake2b b
    → ResetToStart B.meaning a b → ResetToStart meaning old new
StartedAgain-of_blake2b_state from to s = rw (from, to) (record {
  future = λ flag y. ap (padded 64) (s.future flag y);
  started = λ flag y. ap (padded 64) (s.started flag y);
  last_node = s.last_node;
  count = s.count;
  start_count = s.start_count;
})

pub StartedAgain-of_blake2s_state : {a b : StateS} {old new : Held} → old ≡ Blake2s a → new ≡ Blake2s b
    → ResetToStart S.meaning a b → ResetToStart meaning old new
StartedAgain-of_blake2s_state from to s = rw (from, to) (record {
  future = λ flag y. ap (padded 64) (s.future flag y);
  started = λ flag y. ap (padded 64) (s.started flag y);
  last_node = s.last_node;
  count = s.count;
  start_count = s.start_count;
})

-- A digest that is written over zeros is padded.
digest_over_zeros-is_padded : (size : ℕ) (digest out : List ℕ) → size ≤ 64 → length out ≡ 64
    → out ≡ digest ++ drop size (replicate 64 0) → out ≡ padded 64 digest
unfolding padded
digest_over_zeros-is_padded size digest out fits long is =
    let size_is : size ≡ length digest = omega (
      arith,
      fits,
      ap length (sym is) ∙ long,
      length-append digest (drop size (replicate 64 0)),
      length-drop {A = ℕ} size (replicate 64 0),
      length-replicate {A = ℕ} 64 0,
    ) in
    is ∙ ap (λ (zeros : List ℕ). digest ++ zeros)
    (drop-replicate size 64 0 ∙ ap (λ (k : ℕ). replicate (64 - k) 0) size_is)

pub written_digest-is_blake2b_digest_now : {s : StateB} {held : Held} {out : List ℕ} → B.IsReady s
    → held ≡ Blake2b s
    → length out ≡ 64 → out ≡ digest_now B.meaning s ++ drop s.output_size (replicate 64 0)
    → out ≡ digest_now meaning held
written_digest-is_blake2b_digest_now {s} ready from long is =
    rw from (digest_over_zeros-is_padded s.output_size _ _ ready.most long is)

pub written_digest-is_blake2s_digest_now : {s : StateS} {held : Held} {out : List ℕ} → S.IsReady s
    → held ≡ Blake2s s
    → length out ≡ 64 → out ≡ digest_now S.meaning s ++ drop s.output_size (replicate 64 0)
    → out ≡ digest_now meaning held
written_digest-is_blake2s_digest_now {s} ready from long is =
    rw from (digest_over_zeros-is_padded s.output_size _ _ (omega (arith, ready.most)) long is)
