-- Words and entries are the transcript of some input exactly if the reader's tests hold.
use Rattle.std.proofs.Common.{Bool, IsTrue, ◌↔◌, ◌≡◌, ℕ, ◌-◌, ◌*◌, ◌<◌, ◌≤◌, inl, inr, List, length}
use Rattle.std.proofs.Common.{take, sym, ap, subst, ◌∙◌, arith, get_or, length-append, Option, Some}
use Rattle.std.proofs.Common.{None}
use Rattle.std.proofs.lemmas.List.{get_or-take, get_or_append_left, length-take-le, get_or_default}
use Rattle.std.proofs.lemmas.Bool.{cases_lt}
use Rattle.blake2_simd.specs.Family.{Family, block_bytes, key_bytes, salt_bytes}
use Rattle.blake2_compress.specs.Hash.{AreBytes, Flags, flags, Input, Parameters, bytes_of}
use Rattle.blake2_compress.specs.Hash.{block_count, padded, parameter_words, input_parameters}
use Rattle.blake2_compress.specs.Hash.{input_data, data_bytes, key_block, key_size}
use Rattle.blake2_compress.specs.Inputs.{KeyFits}
use Rattle.blake2_transcript.specs.Transcript.{Entry, joined_blocks, DescribesAcceptedInput}
use Rattle.blake2_transcript.specs.Transcript.{DescribesOnlyThisInput, DescribesSomeInput}
use Rattle.blake2_transcript.specs.Transcript.{no_entry}
use Rattle.blake2_transcript.specs.Reader.{last_entry, described_count, IsReadable, described_input}
use Rattle.blake2_transcript.specs.Reader.{AreWellFormedEntries}
use Rattle.blake2_compress.specs.ParameterBlock.{parameters_in_block}
use Rattle.blake2_compress.proofs.ParameterSizes.{AreValidParameters, key_and_output_bytes-fit_byte}
use Rattle.blake2_compress.proofs.ByteSizes.{length-padded, AreBytes-padded, AreBytes-take}
use Rattle.blake2_compress.proofs.JoinedBlocks.{block_count-covers_data}
use Rattle.blake2_transcript.proofs.DeterminedInputs.{TranscriptDeterminesInput-holds}
use Rattle.blake2_transcript.proofs.DeterminedInputs.{accepted_input-has_valid_parameters}
use Rattle.blake2_compress.proofs.SplitRuns.{block_count-positive}
use Rattle.blake2_compress.proofs.Padding.{padded-zero_past_end, padded-keeps_elements}
use Rattle.blake2_compress.proofs.Padding.{padded-if_zero_after}
use Rattle.blake2_transcript.proofs.RunEntries.{length-joined_blocks, joined_blocks-are_bytes}
use Rattle.blake2_transcript.proofs.ParametersNamed.{padded_parameters, padded_parameters-fit}
use Rattle.blake2_transcript.proofs.ParametersNamed.{padded_parameters-same_words}
use Rattle.blake2_transcript.proofs.ParametersNamed.{parameters_in_block-of_words}
use Rattle.blake2_transcript.proofs.ParametersNamed.{parameters_in_block-has_byte_texts}
use Rattle.blake2_transcript.proofs.KeyAndMessage.{data_bytes-of_described_parts}
use Rattle.blake2_transcript.proofs.KeyAndMessage.{described_key-size, described_key-fits}
use Rattle.blake2_transcript.proofs.KeyAndMessage.{described_message-is_bytes}

-- The law: if the tests hold, the words and entries are the transcript of what is read.
IsReadable-describes_input : (f : Family) (p : Parameters) (words : List ℕ) (entries : List Entry)
    → p ≡ parameters_in_block f (bytes_of f words) → AreWellFormedEntries f entries
    → IsReadable f p words entries
    → DescribesAcceptedInput f words entries p.size (described_input f p entries)
IsReadable-describes_input f p words entries named typed test =
    let b : ℕ = block_bytes f in
    let n : ℕ = length entries in
    let c : ℕ = described_count entries in
    let j : List ℕ = joined_blocks entries in
    let z : List ℕ = take c j in
    let kk : ℕ = p.key_size in
    let a : Input = described_input f p entries in
    let lj : length j ≡ n * b = length-joined_blocks f entries typed.whole in
    let room : c ≤ length j = rw (lj, test.run.number) (block_count-covers_data f c) in
    let lz : length z ≡ c = length-take-le c j room in
    let bytes : AreBytes z = AreBytes-take c j (joined_blocks-are_bytes f entries typed.whole) in
    let limits = key_and_output_bytes-fit_byte f in
    let short : kk ≤ key_bytes f = test.fits.key_size in
    let counted : 0 < kk → b ≤ length z = λ some. rw lz (test.key some).counted in
    let zeros : 0 < kk → (i : ℕ) → kk ≤ i → i < b → get_or z i 0 ≡ 0 =
    λ some i past below. get_or-take c j i 0 (omega (arith, (test.key some).counted))
    ∙ (test.key some).zeros i past below in
    let data_is : input_data f a ≡ z = data_bytes-of_described_parts f kk z short counted zeros in
    let within : kk ≤ length z = elim (cases_lt 0 kk)
    [ inl some ↦ omega (arith, counted some, limits, short) | inr none ↦ omega arith ] in
    let ld : length (input_data f a) ≡ c = ap length data_is ∙ lz in
    let zeros_fit = padded_parameters-fit f p test.fits in
    let texts = parameters_in_block-has_byte_texts f p words named in
    let key_is : kk ≡ key_size a.key = sym (described_key-size kk z within) in
    record {
      fits = test.fits.size;
      accepted = record {
        salt_fits = zeros_fit.salt;
        persona_fits = zeros_fit.persona;
        key_fits = described_key-fits f kk z bytes within short;
        counted = rw ld typed.counter;
        salt_bytes = AreBytes-padded (salt_bytes f) p.salt texts.0;
        persona_bytes = AreBytes-padded (salt_bytes f) p.persona texts.1;
        tree = test.fits.tree;
        message_bytes = described_message-is_bytes f kk z bytes;
      };
      is = record {
        parameters = test.words_are ∙ sym (padded_parameters-same_words f p test.fits)
            ∙ ap (λ (m : ℕ). parameter_words f (record (padded_parameters f p) { key_size = m }))
            key_is;
        number = test.run.number ∙ ap (block_count f) (sym ld);
        below = λ i d h.
            let here = test.run.below i h in
            let at : get_or entries i d ≡ get_or entries i no_entry =
            get_or_default entries i d no_entry (omega arith) in (
              ap (λ (e : Entry). e.counter) at ∙ here.counter,
              ap (λ (e : Entry). e.flags) at ∙ here.flags,
            );
        ends = λ d.
            let lt : n - 1 < length entries =
            omega (arith, test.run.number, block_count-positive f c) in
            let at : get_or entries (n - 1) d ≡ get_or entries (n - 1) no_entry =
            get_or_default entries (n - 1) d no_entry lt in (
              ap (λ (e : Entry). e.counter) at ∙ sym ld,
              ap (λ (e : Entry). e.flags) at
                  ∙ ap (λ (b : Bool). flags b (last_entry entries).flags.last_node) test.run.last,
            );
        blocks = padded-if_zero_after j c room test.run.zeros ∙ ap (λ (m : ℕ). padded m z) lj
            ∙ ap (padded (n * b)) (sym data_is);
      };
    }

-- ---- the other direction

-- The data with a key begins with the key, padded with zeros to a block.
data_bytes-begins_with_key : (f : Family) (key : Option (List ℕ)) (m : List ℕ) → KeyFits f key
    → 0 < key_size key
    → (block_bytes f ≤ length (data_bytes f key m))
    × ((i : ℕ) → key_size key ≤ i → i < block_bytes f → get_or (data_bytes f key m) i 0 ≡ 0)
unfolding key_block
data_bytes-begins_with_key f None m fits some = absurd (omega arith)
data_bytes-begins_with_key f (Some k) m fits some =
    let b : ℕ = block_bytes f in
    let lk : length (padded b k) ≡ b =
    length-padded b k (omega (arith, key_and_output_bytes-fit_byte f)) in (
      omega (arith, length-append (padded b k) m),
      λ i past below. get_or_append_left (padded b k) m 0 i (omega arith)
          ∙ padded-zero_past_end b k i past,
    )

-- The law: the transcript of an accepted input passes the tests, with the parameters that its words
-- have.
described_input-is_readable : (f : Family) (words : List ℕ) (entries : List Entry) (size : ℕ)
    (a : Input)
    → DescribesAcceptedInput f words entries size a
    → IsReadable f (parameters_in_block f (bytes_of f words)) words entries
described_input-is_readable f words entries size a r =
    let b : ℕ = block_bytes f in
    let z : List ℕ = input_data f a in
    let p : Parameters = input_parameters size a in
    let good : AreValidParameters f p =
    accepted_input-has_valid_parameters f size a r.accepted r.fits in
    let named : parameters_in_block f (bytes_of f words) ≡ padded_parameters f p =
    ap (λ (ws : List ℕ). parameters_in_block f (bytes_of f ws)) r.is.parameters
    ∙ parameters_in_block-of_words f p good in
    let count_is : described_count entries ≡ length z = (r.is.ends no_entry).0 in
    let blocks : joined_blocks entries ≡ padded (length entries * b) z = r.is.blocks in
    let test : IsReadable f (padded_parameters f p) words entries = record {
      fits = padded_parameters-fit f p good.fits;
      words_are = r.is.parameters ∙ sym (padded_parameters-same_words f p good.fits);
      run = record {
        number = r.is.number ∙ ap (block_count f) (sym count_is);
        below = λ i h. record {
          counter = (r.is.below i no_entry h).0;
          flags = (r.is.below i no_entry h).1;
        };
        last = ap (λ (g : Flags). g.last) (r.is.ends no_entry).1;
        zeros = λ i past. ap (λ (l : List ℕ). get_or l i 0) blocks
            ∙ padded-zero_past_end (length entries * b) z i (omega arith);
      };
      key = λ some.
          let keyed = data_bytes-begins_with_key f a.key a.message r.accepted.key_fits some in
          record {
            counted = omega (arith, keyed.0);
            zeros = λ i past below. ap (λ (l : List ℕ). get_or l i 0) blocks
                ∙ padded-keeps_elements (length entries * b) z i (omega (arith, keyed.0))
                ∙ keyed.1 i past below;
          };
    } in
    subst (λ (q : Parameters). IsReadable f q words entries) (sym named) test

-- ---- the reader's test

-- Parameters in the bytes of words that were read into rows.
parameters-from_rows : (f : Family) (words rows block : List ℕ) (p : Parameters) → rows ≡ words
    → block ≡ bytes_of f rows → p ≡ parameters_in_block f block
    → p ≡ parameters_in_block f (bytes_of f words)
parameters-from_rows f words rows block p rows_are bytes_are named =
    named ∙ ap (parameters_in_block f) (bytes_are ∙ ap (bytes_of f) rows_are)

-- The law: the test r holds exactly if some input has this transcript.
pub test-iff_describes_some_input : (f : Family) (words rows block : List ℕ) (p : Parameters)
    (given entries : List Entry) (r : Bool) → rows ≡ words → block ≡ bytes_of f rows
    → p ≡ parameters_in_block f block → given ≡ entries
    → IsTrue r ↔ IsReadable f p words given → (IsTrue r → AreWellFormedEntries f given)
    → IsTrue r ↔ DescribesSomeInput f words entries
test-iff_describes_some_input f words rows block p given entries r rows_are bytes_are at are
    readable typed =
    let named = parameters-from_rows f words rows block p rows_are bytes_are at in (
      λ t. subst (DescribesSomeInput f words) are (
        p.size,
        described_input f p given,
        IsReadable-describes_input f p words given named (typed t) (readable.0 t),
      ),
      λ (size, a, reads). readable.1 (subst (λ (es : List Entry). IsReadable f p words es) (sym are)
          (subst (λ (q : Parameters). IsReadable f q words entries) (sym named)
          (described_input-is_readable f words entries size a reads))),
    )

-- The law: what is read is an input of this transcript, and no other input is.
pub described_input-is_only_one : (f : Family) (words rows block : List ℕ) (p : Parameters)
    (given entries : List Entry) (size : ℕ) (x : Input) → rows ≡ words → block ≡ bytes_of f rows
    → p ≡ parameters_in_block f block → given ≡ entries → IsReadable f p words given
    → AreWellFormedEntries f given
    → size ≡ p.size → x ≡ described_input f p given → DescribesOnlyThisInput f words entries size x
described_input-is_only_one f words rows block p given entries size x of by at are test typed sized
    told =
    let named = parameters-from_rows f words rows block p of by at in
    let reads : DescribesAcceptedInput f words entries size x =
    subst (λ (es : List Entry). DescribesAcceptedInput f words es size x) are
    (subst (λ (k : ℕ). DescribesAcceptedInput f words given k x) (sym sized)
    (subst (DescribesAcceptedInput f words given p.size) (sym told)
    (IsReadable-describes_input f p words given named typed test))) in
    record {
      reads = reads;
      only = λ other b s. TranscriptDeterminesInput-holds f words entries size other x b reads s;
    }
