use Rattle.std.proofs.Common.{◌≡◌, ℕ, ◌-◌, List, [], ◌++◌, length, take, drop, ap, sym, ◌∙◌}
use Rattle.std.proofs.Common.{arith, length-drop, rules}
use Rattle.std.proofs.lemmas.List.{append-nil, drop-drop, drop_all, take_rest}
use Rattle.blake2_simd.specs.Family.{blake2b}
use Rattle.blake2_xof.specs.Blake2xb.{output_of}
use Rattle.blake2_xof.specs.Xof.{settings, xof_output}
use Rattle.blake2_xof.proofs.ReadInPieces.{prefix-extended_by_read}
use Rattle.blake2_xof.proofs.reader.blake2xb.Reader.read.Goals as goal

pub loop-done-preserved : goal.loop-done-preserved
loop-done-preserved c =
    let self = c.args.self.now in
    let now = c.loop-done.self in
    let out : List ℕ = c.loop-done.out in
    let sub : List ℕ = c.read_some-done.new.out in
    let d : ℕ = c.loop-done.done in
    let r : ℕ = c.read_some-done.result in
    let before = c.loop-done.invariant in
    let read = before.read in
    let after = c.read_some-done.ensures in
    let rest : drop (length out - d) (drop d out) ≡ [] =
    drop_all (length out - d) (drop d out) (omega (arith, length-drop d out)) in
    let s : List ℕ = drop self.position (output_of self) in
    let from : drop now.position (output_of now) ≡ drop d s =
    (λ i. drop (read.position i) (xof_output blake2b (settings (read.xof_length i) []
    (take 16 (read.texts i)) (drop 16 (read.texts i))) (read.root i)))
    ∙ sym (drop-drop d self.position (output_of self)) in
    let whole : sub ++ drop (length out - d) (drop d out) ≡ take r (drop d s) ++ drop r (drop d out) =
    (λ i. sub ++ rest i) ∙ append-nil sub ∙ after.output
    ∙ (λ i. take r (from i) ++ drop r (take_rest out d i)) in
    let long : length (take d out ++ (sub ++ drop (length out - d) (drop d out))) ≡ length out =
    search rules in
    record {
      within = search rules;
      long = long ∙ before.long;
      ready = after.ready;
      read = record {
        root = after.read.root ∙ read.root;
        texts = after.read.texts ∙ read.texts;
        xof_length = after.read.xof_length ∙ read.xof_length;
        position = omega (arith, after.read.position, read.position);
      };
      written = prefix-extended_by_read s out _ d r before.written (search rules) long
          (ap (λ (l : List ℕ). take d out ++ l) whole);
    }
