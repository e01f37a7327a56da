-- The code's tables are those of the definitions.
use Rattle.std.proofs.Common.{◌≡◌, refl}
use Rattle.blake2_simd.specs.Family.{blake2b, blake2s, iv, sigma}
use Rattle.blake2_compress.specs.declared.consts.TheConstants.{BLAKE2B_IV, BLAKE2S_IV, SIGMA}

-- The IV of BLAKE2b.
pub BLAKE2B_IV-is_iv : BLAKE2B_IV ≡ iv blake2b
BLAKE2B_IV-is_iv = refl

-- The IV of BLAKE2s.
pub BLAKE2S_IV-is_iv : BLAKE2S_IV ≡ iv blake2s
BLAKE2S_IV-is_iv = refl

-- The rows of SIGMA.
pub SIGMA-is_sigma : SIGMA ≡ sigma
SIGMA-is_sigma = refl
