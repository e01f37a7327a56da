-- What hashers and MACs mean.
use Rattle.std.specs.Prelude.{ℕ}
use Rattle.blake2_simd.specs.Family.{blake2b, blake2s}
use Rattle.blake2_digest.specs.States.{Meaning}
use Rattle.blake2_parallel.specs.declared.hashers.blake2bp.Blake2bp.{Blake2bp}
use Rattle.blake2_parallel.specs.declared.hashers.blake2sp.Blake2sp.{Blake2sp}
use Rattle.blake2_parallel.specs.declared.macs.blake2bp.Blake2bpMac.{Blake2bpMac}
use Rattle.blake2_parallel.specs.declared.macs.blake2sp.Blake2spMac.{Blake2spMac}
use Rattle.blake2_parallel.specs.Blake2bp as B
use Rattle.blake2_parallel.specs.Blake2sp as S
use Rattle.blake2_parallel.specs.States.{parallel_meaning_by}

-- The meaning of a BLAKE2bp hasher: the digests of n bytes that it will return, and the bytes that
-- it counts.
abbrev pub blake2bp_meaning : (n : ℕ) → Meaning (Blake2bp n)
blake2bp_meaning n = parallel_meaning_by blake2b (λ s. B.held_by s.state)

-- The meaning of a BLAKE2sp hasher: the digests of n bytes that it will return, and the bytes that
-- it counts.
abbrev pub blake2sp_meaning : (n : ℕ) → Meaning (Blake2sp n)
blake2sp_meaning n = parallel_meaning_by blake2s (λ s. S.held_by s.state)

-- The meaning of a BLAKE2bp MAC: the outputs of n bytes that it will return, and the bytes that it
-- counts.
abbrev pub blake2bp_mac_meaning : (n : ℕ) → Meaning (Blake2bpMac n)
blake2bp_mac_meaning n = parallel_meaning_by blake2b (λ s. B.held_by s.state)

-- The meaning of a BLAKE2sp MAC: the outputs of n bytes that it will return, and the bytes that it
-- counts.
abbrev pub blake2sp_mac_meaning : (n : ℕ) → Meaning (Blake2spMac n)
blake2sp_mac_meaning n = parallel_meaning_by blake2s (λ s. S.held_by s.state)
