use Rattle.std.proofs.Common.{◌≡◌, ◌-◌, ◌≤◌, arith, length, length-drop, take, drop, subst, sym}
use Rattle.std.proofs.Common.{List, ℕ}
use Rattle.std.proofs.Math.Seq.{take-add}
use Rattle.std.proofs.lemmas.List.{take_all}
use Rattle.std.proofs.KnownBytes.{Appends-trans}
use Rattle.std.specs.Io.KnownBytes.{Appends}
use Rattle.blake2_streams.proofs.StreamLemmas.{unfailed-if_bytes_accepted}
use Rattle.blake2_streams.proofs.stream.write_whole.Goals as goal

pub writing-preserved : goal.writing-preserved
writing-preserved g c =
    let at = c.writing.at in
    let n = c.in_ok-count.count in
    let text = c.args.text.now in
    let wrote = c.in_ok-count.ensures in
    let whole : take (length text - at) (drop at text) ≡ drop at text =
    take_all (length text - at) (drop at text) (omega (arith, length-drop at text)) in
    let fits : n ≤ length (drop at text) = rw whole at wrote.bound in
    record {
      unfailed =
          unfailed-if_bytes_accepted _ _ _ n c.writing.invariant.unfailed c.if-count-eq0.false
          wrote.fails;
      in_text = omega (arith, length-drop at text, fits);
      written =
          let now : Appends (g.K.Sink.held c.writing.sink) (g.K.Sink.held c.write.new.self)
          (take n (drop at text)) = rw whole at wrote.bytes in
          subst (λ (bytes : List ℕ). Appends (g.K.Sink.held c.args.sink.now)
          (g.K.Sink.held c.write.new.self) bytes)
          (sym (take-add at n text))
          (Appends-trans _ _ _ (take at text) (take n (drop at text)) c.writing.invariant.written
          now);
    }
