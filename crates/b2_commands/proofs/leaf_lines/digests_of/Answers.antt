use Rattle.std.proofs.Common.{◌≡◌, ◌+◌, ◌/◌, List, ℕ, [], ◌++◌, length, length-append, Ok, arith}
use Rattle.std.proofs.Common.{rules}
use Rattle.text_lines.specs.Cuts.{lines_of}
use Rattle.b2_commands.specs.LeafDigests.{digest_of_numbered_line, read_digests}
use Rattle.b2_commands.proofs.LeafLines.{read_digests-from_first_line, prepend_digests-next_line}
use Rattle.b2_commands.proofs.leaf_lines.digests_of.Goals as goal

pub lines-init : goal.lines-init
lines-init c =
    let empty : c.new-digests.result.items ≡ [] = search rules in
    rw empty (read_digests-from_first_line c.args.text.now (search rules))

pub lines-preserved : goal.lines-preserved
lines-preserved c =
    let items = c.lines.digests.items in
    let digest : List ℕ = c.in_ok-digest.digest in
    let line = c.split_line.result.0.now in
    let after = c.split_line.result.1.now in
    let count : ℕ = length items in
    let number : c.len.result ≡ count = search rules in
    let read : digest_of_numbered_line (count / 64 + 1) line ≡ Ok digest =
    rw (← number) c.in_ok-digest.ensures.digest in
    let pushed : c.extend_from_slice.new.self.items ≡ items ++ digest = search rules in
    let size : length digest ≡ 64 = search rules in
    let next : (count + length digest) / 64 + 1 ≡ count / 64 + 1 + 1 = omega arith in
    let on =
    prepend_digests-next_line (read_digests c.args.text.now) items digest (count / 64 + 1) line
    (lines_of after) (lines_of c.lines.rest.now) c.lines.invariant c.split_line.ensures.first read in
    rw (pushed, length-append items digest, next) on
