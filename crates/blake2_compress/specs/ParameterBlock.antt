-- What a parameter block names. Section numbers are those of RFC 7693.
use Rattle.std.specs.Prelude.{ℕ, ◌+◌, List, take, drop, slice_index}
use Rattle.std.specs.Int.{from_le_bytes, w32, w64}
use Rattle.blake2_simd.specs.Family.{Family, offset_bytes, reserved_bytes, salt_bytes}
use Rattle.blake2_compress.specs.Hash.{Parameters, Tree}

-- The tree parameters in a parameter block, at the offsets of its fields (the BLAKE2 document,
-- 2.8).
abbrev pub tree_in_block : Family → List ℕ → Tree
tree_in_block f block =
    let o = offset_bytes f in record {
      fanout = slice_index block 2;
      depth = slice_index block 3;
      leaf_length = from_le_bytes w32 (take 4 (drop 4 block));
      node_offset = from_le_bytes w64 (take o (drop 8 block));
      node_depth = slice_index block (8 + o);
      inner_length = slice_index block (8 + o + 1);
    }

-- All parameters in a parameter block, whatever its reserved bytes are (2.5; the BLAKE2 document,
-- 2.8).
abbrev pub parameters_in_block : Family → List ℕ → Parameters
parameters_in_block f block =
    let s = salt_bytes f in
    let texts = drop (8 + offset_bytes f + 2 + reserved_bytes f) block in record {
      size = slice_index block 0;
      key_size = slice_index block 1;
      salt = take s texts;
      persona = drop s texts;
      tree = tree_in_block f block;
    }
