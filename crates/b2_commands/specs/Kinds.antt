-- The kinds that the program has read.
use Rattle.std.specs.Prelude.{ℕ}
use Rattle.blake2.specs.Family.{Family, blake2b, blake2s}
use Rattle.b2_commands.specs.declared.witness_arguments.Family.{Family as FamilyNamed}
use Rattle.b2_commands.specs.declared.witness_arguments.Family.TheVariants.{Blake2b as FamilyB}
use Rattle.b2_commands.specs.declared.witness_arguments.Family.TheVariants.{Blake2s as FamilyS}
use Rattle.b2_commands.specs.declared.arguments.Blake2bKind.{Blake2bKind}
use Rattle.b2_commands.specs.declared.arguments.Blake2bKind.TheVariants.{B128, B256, B512}
use Rattle.b2_commands.specs.declared.arguments.Blake2sKind.{Blake2sKind}
use Rattle.b2_commands.specs.declared.arguments.Blake2sKind.TheVariants.{S128, S256}
use Rattle.b2_commands.specs.declared.arguments.Kind.{Kind as KindNamed}
use Rattle.b2_commands.specs.declared.arguments.Kind.TheVariants.{Blake2b, Blake2s}
use Rattle.b2_commands.specs.ArgumentTasks.{Kind, blake2b_of, blake2s_of}

-- The number of bytes of the digests of a kind of BLAKE2b.
abbrev pub blake2b_digest_bytes : Blake2bKind → ℕ
blake2b_digest_bytes B128 = 16
blake2b_digest_bytes B256 = 32
blake2b_digest_bytes B512 = 64

-- The number of bytes of the digests of a kind of BLAKE2s.
abbrev pub blake2s_digest_bytes : Blake2sKind → ℕ
blake2s_digest_bytes S128 = 16
blake2s_digest_bytes S256 = 32

-- The kind of BLAKE2b that the program has read.
abbrev pub blake2b_value : Blake2bKind → Kind
blake2b_value kind = blake2b_of (blake2b_digest_bytes kind)

-- The kind of either family that the program has read.
abbrev pub kind_value : KindNamed → Kind
kind_value (Blake2b kind) = blake2b_value kind
kind_value (Blake2s kind) = blake2s_of (blake2s_digest_bytes kind)

-- The family that the program has read.
abbrev pub family_value : FamilyNamed → Family
family_value FamilyB = blake2b
family_value FamilyS = blake2s
