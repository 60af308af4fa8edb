-- The number of an error is not 0.
use Rattle.std.specs.Prelude.{ℕ, suc, ◌≡◌, ◌≢◌}
use Rattle.std.proofs.Common.{arith}

pub not_0 : (k n : ℕ) → k ≡ suc n → k ≢ 0
not_0 k n e z = omega arith
