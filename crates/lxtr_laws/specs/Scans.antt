-- A loop over the numbers below a bound m that looks for the first that passes a test f. It has come to i: none below i passes.
use Rattle.std.specs.Prelude.{ℕ, ◌+◌, ◌≤◌, ◌<◌, ◌≡◌, Bool, true, false}
use Rattle.std.proofs.Math.Path.{refl}
use Rattle.std.proofs.Common.{sym, add-one, arith}
use Rattle.lxtr_spec.specs.Ranges.{any_below}
use Rattle.lxtr_laws.specs.Tests.{outcome}
use Rattle.lxtr_laws.specs.RangeTests.{any_true}

pub record NoneSoFar (f : ℕ → Bool) (i m : ℕ) : Type 0 where
  pub to : i ≤ m
  pub none : any_below i f ≡ false

module _ (f : ℕ → Bool) (m : ℕ) where
  pub scan_start : NoneSoFar f 0 m
  unfolding any_below
  scan_start = record { to = omega arith; none = refl }

  -- r is the outcome of the test at i
  module _ (i : ℕ) (s : NoneSoFar f i m) where
    pub scan_next : (r : Bool) → i < m → r ≡ f i → r ≡ false → NoneSoFar f (i + 1) m
    unfolding any_below
    scan_next r h e t = record { to = omega arith; none = rw (add-one, any_below, s.none) (outcome r _ _ e t) }

    module _ (bound : ℕ) (same : m ≡ bound) where
      pub scan_hit : (r : Bool) → i < m → r ≡ f i → r ≡ true → true ≡ any_below bound f
      scan_hit r h e t = sym ((any_true bound f).1 (i, omega arith, outcome r _ _ e t))

      pub scan_end : m ≤ i → false ≡ any_below bound f
      scan_end h = let e : i ≡ bound = omega (arith, s.to) in sym (rw e at s.none)
