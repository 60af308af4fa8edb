-- A loop that counts the numbers below a bound m that pass a test f. It has come to i: n of those below i pass.
use Rattle.std.specs.Prelude.{ℕ, ◌+◌, ◌^◌, ◌≤◌, ◌<◌, ◌≡◌, List, Bool}
use Rattle.std.proofs.Math.Path.{refl}
use Rattle.std.proofs.Math.Bool.{true, false, cond}
use Rattle.std.proofs.Common.{add-one}
use native.Mathlib.Omega.{arith}
use Rattle.std.specs.Int.{w32}
use mir.Val.{bool_byte, Fits}
use borrow.Author.Rules.{Fits-under}
use Rattle.lxtr_spec.specs.Ranges.{count_below}
use Rattle.lxtr_spec.specs.Image.{slot_count}
use Rattle.lxtr_laws.specs.Passed.{Whole}

-- a test's outcome as the number that the code makes of it
pub one_at_most : (r : Bool) → bool_byte r ≤ 1
one_at_most true = omega arith
one_at_most false = omega arith

pub record CountSoFar (f : ℕ → Bool) (i m n : ℕ) : Type 0 where
  pub to : i ≤ m
  pub count : n ≡ count_below i f
  pub small : n ≤ i

module _ (f : ℕ → Bool) (m : ℕ) where
  pub count_start : CountSoFar f 0 m 0
  unfolding count_below
  count_start = record { to = omega arith; count = refl; small = omega arith }

  -- r is the outcome of the test at i
  module _ (i n : ℕ) (s : CountSoFar f i m n) where
    -- the code adds it as a number
    pub count_next : (r : Bool) → i < m → r ≡ f i → CountSoFar f (i + 1) m (n + bool_byte r)
    unfolding count_below
    count_next r h e = record { to = omega arith; count = rw (add-one, count_below, ← e, s.count) (as_number r); small = omega (arith, s.small, one_at_most r) }
      where
        as_number : (r : Bool) → count_below i f + bool_byte r ≡ count_below i f + cond r 1 0
        as_number true = refl
        as_number false = refl

    pub count_small : (r : Bool) → i < m → n + bool_byte r ≤ m
    count_small r h = omega (arith, s.small, one_at_most r)

    pub count_end : (bound : ℕ) → m ≡ bound → m ≤ i → n ≡ count_below bound f
    count_end bound same h = let e : i ≡ bound = omega (arith, s.to) in rw e at s.count

-- a count of slots fits into 32 bits
pub count_fits : (f : ℕ → Bool) (m i n : ℕ) (b : List ℕ) (r : Bool) → CountSoFar f i m n → Whole b → m ≡ slot_count b → i < m → Fits w32 (n + bool_byte r)
count_fits f m i n b r s ok e h = Fits-under w32 (n + bool_byte r) (2 ^ 32) (omega (arith, count_small f m i n s r h, ok.sized.slots_to)) tt
