-- The search for a label's code as a loop: the code of the label is what the search of the n - i places from i up gives.
-- Each turn tests whether place i has the label.
use Rattle.std.specs.Prelude.{ℕ, ◌+◌, ◌*◌, ◌-◌, ◌≤◌, ◌<◌, ◌≡◌, Bool, true, false, List, eqb, length, Option, Some, None}
use Rattle.std.proofs.Math.Nat.{sub-zero}
use Rattle.std.proofs.Common.{arith}
use Rattle.lxtr_spec.specs.Numbers.{be32}
use Rattle.lxtr_laws.specs.Passed.{Passed}
use Rattle.lxtr_laws.specs.RangeTests.{more}
use Rattle.lxtr_spec.specs.Image.{map_length, map_at, label_count, label_at, code_from, code_of}

no_more : (n i : ℕ) → n ≤ i → n - i ≡ 0
no_more n i h = omega arith

-- a position in the map, computed from the end of the image: the map is its last part, so the image's length tells where it starts
pub from_end : (b : List ℕ) (i m : ℕ) → Passed b → m ≡ map_length b → length b - m + 5 + 4 * i ≡ map_at b + 5 + 4 * i
from_end b i m ok e = omega (arith, ok.whole.size, e)

module _ (b : List ℕ) (i at : ℕ) (e : at ≡ map_at b + 5 + 4 * i) where
  -- r is the label read there
  pub label_read : (r : ℕ) → r ≡ be32 b at → r ≡ label_at b i
  unfolding label_at
  label_read r h = rw e at h

  -- t is the outcome of its comparison with x
  pub label_compared : (x : ℕ) (t : Bool) → t ≡ eqb (be32 b at) x → t ≡ eqb (label_at b i) x
  unfolding label_at
  label_compared x t h = rw e at h

module _ (b : List ℕ) (x n : ℕ) where
  pub code_start : (i : ℕ) → n ≡ label_count b → code_from b x (label_count b - i) i ≡ code_from b x (n - i) i
  code_start i e = rw e

  -- starting at the first place, it is the search of all places
  pub code_all : n ≡ label_count b → code_of b x ≡ code_from b x (n - 0) 0
  unfolding code_of
  code_all e = rw (sub-zero, e)

  module _ (i : ℕ) (o : Option ℕ) (known : o ≡ code_from b x (n - i) i) where
    pub code_hit : (t : Bool) → i < n → t ≡ eqb (label_at b i) x → t ≡ true → Some (i + 1) ≡ o
    unfolding code_from
    code_hit t h e m = rw (known, more n i h, code_from, ← e, m)

    pub code_miss : (t : Bool) → i < n → t ≡ eqb (label_at b i) x → t ≡ false → o ≡ code_from b x (n - (i + 1)) (i + 1)
    unfolding code_from
    code_miss t h e m = rw (known, more n i h, code_from, ← e, m)

    -- the rest is searched elsewhere, and r is what that search gives
    pub code_rest : (r : Option ℕ) → n ≡ label_count b → r ≡ code_from b x (label_count b - i) i → r ≡ o
    code_rest r e h = rw (h, known, e)

    pub code_end : n ≤ i → None ≡ o
    unfolding code_from
    code_end h = rw (known, no_more n i h)
