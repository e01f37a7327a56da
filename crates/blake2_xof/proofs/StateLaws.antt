-- What calls do to the meaning of a state, from what they do to its root hash.
use Rattle.std.proofs.Common.{◌≡◌, ℕ, ◌-◌, ◌≤◌, Bool, false}
use Rattle.std.proofs.Common.{List, [], length, refl, ap}
use Rattle.std.proofs.Common.{◌∙◌, arith}
use Rattle.std.specs.List.{flat_map, range_with_len}
use Rattle.blake2_simd.specs.Family.{Family, salt_bytes}
use Rattle.blake2_digest.specs.States.{Fresh, Meaning, ResetToStart, Updated}
use Rattle.blake2_compress.specs.Hash.{Tree, padded}
use Rattle.blake2_compress.proofs.ParameterTexts.{TrailingZerosKeepDigest-holds}
use Rattle.blake2_state.specs.ConstructorArguments.{digest_given}
use Rattle.blake2_state.specs.declared.StateParameters.{StateParameters}
use Rattle.blake2_xof.specs.States.{xof_meaning_by}
use Rattle.blake2_xof.specs.Xof.{Settings, block_input, block_size, output_block, outputs}
use Rattle.blake2_xof.specs.Xof.{output_block_count, output_length, root_hash, settings}
use Rattle.blake2_xof.specs.Xof.{xof_output}

-- ---- salt and personalization

-- Their padding changes no block.
output_block-unchanged_by_padding : (f : Family) (n i : ℕ) (salt persona root : List ℕ)
    (key : List ℕ)
    → length salt ≤ salt_bytes f → length persona ≤ salt_bytes f
    → output_block f (settings n [] (padded (salt_bytes f) salt) (padded (salt_bytes f) persona))
    root i ≡ output_block f (settings n key salt persona) root i
unfolding output_block padded
output_block-unchanged_by_padding f n i salt persona root key fits_salt fits_persona =
    TrailingZerosKeepDigest-holds f (block_size f n i)
    (block_input f (settings n key salt persona) root i) (salt_bytes f - length salt)
    (salt_bytes f - length persona) (omega arith) (omega arith)

-- The output is the same with the padding, and with another key, as the blocks have none.
pub xof_output-unchanged_by_padding : (f : Family) (n : ℕ) (key salt persona s p root : List ℕ)
    → length salt ≤ salt_bytes f → length persona ≤ salt_bytes f
    → s ≡ padded (salt_bytes f) salt → p ≡ padded (salt_bytes f) persona
    → xof_output f (settings n [] s p) root ≡ xof_output f (settings n key salt persona) root
unfolding xof_output
xof_output-unchanged_by_padding f n key salt persona s p root fits_salt fits_persona salts
    personas =
    (λ j. xof_output f (settings n [] (salts j) (personas j)) root)
    ∙ (λ j. flat_map (λ i. output_block-unchanged_by_padding f n i salt persona root key fits_salt
    fits_persona j)
    (range_with_len 0 (output_block_count f (output_length f n))))

-- ---- initialization

-- A state whose root hash has just been initialized.
pub Fresh-by_fresh_root_hash : {S R : Type 0} (f : Family) (m : Meaning R) (root_of : S → R)
    (settings_of : S → Settings) (s : S) (a : Settings) (given : StateParameters) (tree : Tree)
    (n : ℕ) → Fresh m (digest_given f given tree) n (root_of s)
    → ((y : List ℕ) → digest_given f given tree false y ≡ root_hash f a y)
    → ((x : List ℕ) → xof_output f (settings_of s) x ≡ xof_output f a x)
    → Fresh (xof_meaning_by f m root_of settings_of) (outputs f a) n s
Fresh-by_fresh_root_hash f m root_of settings_of s a given tree n fresh same texts =
    let own : Bool = m.last_node (root_of s) in
    let off = λ (y : List ℕ).
    ap (λ (b : Bool). digest_given f given tree b y) fresh.last_node ∙ same y in
    record {
      future = λ flag y. texts _ ∙ ap (xof_output f a) (fresh.future own y ∙ off y);
      started = λ flag y. texts _ ∙ ap (xof_output f a) (fresh.started own y ∙ off y);
      last_node = refl;
      count = fresh.count;
      start_count = fresh.start_count;
    }

-- ---- later calls

-- A state whose root hash has absorbed x.
pub Updated-by_updated_root_hash : {S R : Type 0} (f : Family) (m : Meaning R) (root_of : S → R)
    (settings_of : S → Settings) (old : S) (x : List ℕ) (new : S)
    → settings_of new ≡ settings_of old → Updated m (root_of old) x (root_of new)
    → Updated (xof_meaning_by f m root_of settings_of) old x new
Updated-by_updated_root_hash f m root_of settings_of old x new same u =
    let own : Bool = m.last_node (root_of old) in
    record {
      future = λ flag y. (λ i. xof_output f (same i) (m.future (root_of new) (u.last_node i) y))
          ∙ ap (xof_output f (settings_of old)) (u.future own y);
      started = λ flag y. (λ i. xof_output f (same i) (m.started (root_of new) (u.last_node i) y))
          ∙ ap (xof_output f (settings_of old)) (u.started own y);
      last_node = refl;
      count = u.count;
      start_count = u.start_count;
    }

-- A state whose root hash has gone back to its start.
pub StartedAgain-by_restarted_root_hash : {S R : Type 0} (f : Family) (m : Meaning R)
    (root_of : S → R)
    (settings_of : S → Settings) (old new : S) → settings_of new ≡ settings_of old
    → ResetToStart m (root_of old) (root_of new)
    → ResetToStart (xof_meaning_by f m root_of settings_of) old new
StartedAgain-by_restarted_root_hash f m root_of settings_of old new same again =
    let own : Bool = m.last_node (root_of old) in
    record {
      future = λ flag y. (λ i. xof_output f (same i) (m.future (root_of new) (again.last_node i) y))
          ∙ ap (xof_output f (settings_of old)) (again.future own y);
      started = λ flag y. (λ i. xof_output f (same i) (m.started (root_of new) (again.last_node i) y))
          ∙ ap (xof_output f (settings_of old)) (again.started own y);
      last_node = refl;
      count = again.count;
      start_count = again.start_count;
    }
