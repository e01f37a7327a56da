use Rattle.std.proofs.Common.{refl}
use Rattle.blake2_simd.specs.Family.{blake2s}
use Rattle.blake2_simd.proofs.Bytes.{loaded_bytes-as_lanes}
use Rattle.blake2_simd.proofs.rows.u32_lanes.u32x4.from_le_bytes.Goals as goal

pub returns : goal.returns
returns c = loaded_bytes-as_lanes blake2s 16 c.args.bytes.now refl c.requires c.type_inv.bytes
