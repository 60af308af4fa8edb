-- Ranges of numbers: whether some number below a bound passes a test, how many do, which is the first, and the lists that the numbers
-- of a range give, joined.
use Rattle.std.specs.Prelude.{ℕ, zero, suc, ◌+◌, List, [], ◌++◌, Bool, true, false, ◌||◌, cond}

-- some number below n passes
unfoldable pub any_below : ℕ → (ℕ → Bool) → Bool
any_below zero f = false
any_below (suc n) f = any_below n f || f n

-- how many numbers below n pass
unfoldable pub count_below : ℕ → (ℕ → Bool) → ℕ
count_below zero f = 0
count_below (suc n) f = count_below n f + cond (f n) 1 0

-- the first number below n that passes, or n if none does: first among the n numbers starting at i, then among all numbers below n
unfoldable pub first_from : ℕ → ℕ → (ℕ → Bool) → ℕ
first_from zero i f = i
first_from (suc n) i f = elim (f i) [ true ↦ i | false ↦ first_from n (i + 1) f ]

unfoldable pub first_below : ℕ → (ℕ → Bool) → ℕ
first_below n f = first_from n 0 f

-- the lists that f gives for the n numbers j, j + 1, .., joined
unfoldable pub concat_from : {A : Type 0} → ℕ → ℕ → (ℕ → List A) → List A
concat_from zero j f = []
concat_from (suc n) j f = f j ++ concat_from n (j + 1) f
