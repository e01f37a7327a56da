use Rattle.std.proofs.Common.{◌≡◌, ◌+◌, ◌-◌, ◌∙◌, ℕ, List, ap, arith, drop, get_or, sym, take}
use Rattle.std.specs.Int.{from_le_bytes, w32, w64}
use Rattle.blake2_simd.specs.Family.{offset_bytes}
use Rattle.blake2_compress.proofs.Padding.{from_le_bytes-padded_32, from_le_bytes-padded_64}
use Rattle.blake2_compress.proofs.params.tree_in.Goals as goal

pub returns : goal.returns
returns g c =
    let block : List ℕ = c.args.block.now in
    let offset : offset_bytes g.f ≡ g.row.O = assumption c in
    let place : g.row.O ≡ offset_bytes g.f = sym offset in
    let room : 8 + g.row.O - 8 ≡ offset_bytes g.f = omega arith in
    let leaf : c.from_le_bytes.result ≡ from_le_bytes w32 (take 4 (drop 4 block)) =
    c.from_le_bytes.ensures ∙ ap (λ (xs : List ℕ). from_le_bytes w32 xs) c.padded.ensures
    ∙ from_le_bytes-padded_32 4 (take 4 (drop 4 block)) in
    let node : c.from_le_bytes-2.result ≡ from_le_bytes w64
    (take (offset_bytes g.f) (drop 8 block)) =
    c.from_le_bytes-2.ensures ∙ ap (λ (xs : List ℕ). from_le_bytes w64 xs) c.padded-2.ensures
    ∙ from_le_bytes-padded_64 8 (take (8 + g.row.O - 8) (drop 8 block))
    ∙ ap (λ (n : ℕ). from_le_bytes w64 (take n (drop 8 block))) room in
    λ i. record {
      fanout = get_or block 2 0;
      depth = get_or block 3 0;
      leaf_length = leaf i;
      node_offset = node i;
      node_depth = get_or block (8 + place i) 0;
      inner_length = get_or block (8 + place i + 1) 0;
    }
