-- A block of places of the code map, searched by one sum. A place that has the label adds 2^16 plus its place in the block, counted
-- from 1. So the sum tells whether there is no match, one, or more; and for one, at which place.
use Prim.Native.Nat.{ℕ, zero, suc, ◌+◌, ◌*◌, ◌-◌, ◌%◌, ◌^◌, ◌≤◌, ◌<◌}
use Rattle.std.specs.Prelude.{◌≡◌, Bool, cond, List, Option, Some}
use Rattle.std.proofs.Math.Path.{refl}
use Rattle.std.proofs.Common.{sym, ◌∙◌, zero-add, add-zero, add-one, Fits}
use Rattle.std.proofs.Math.Bool.{true, false}
use native.Mathlib.Omega.{arith}
use Rattle.std.proofs.Math.Dec.{eqb}
use Rattle.std.specs.Int.{w32}
use borrow.Author.Rules.{Fits-under}
use Rattle.lxtr_spec.specs.Image.{label_at, code_from}

abbrev pub block_size : ℕ
block_size = 64

abbrev pub one_match : ℕ
one_match = 2 ^ 16

-- what place k of a block adds
unfoldable pub weight : Bool → ℕ → ℕ
weight equal k = cond equal (one_match + 1 + k) 0

pub weight_match : (t : Bool) (k : ℕ) → t ≡ true → one_match + 1 + k ≡ weight t k
unfolding weight
weight_match t k e = rw e

pub weight_none : (t : Bool) (k : ℕ) → t ≡ false → 0 ≡ weight t k
unfolding weight
weight_none t k e = rw e

-- the sum of the k places that start at place i, for label x
unfoldable pub block_sum : List ℕ → ℕ → ℕ → ℕ → ℕ
block_sum b x i zero = 0
block_sum b x i (suc k) = block_sum b x i k + weight (eqb (label_at b (i + k)) x) k

module _ (b : List ℕ) (x i : ℕ) where
  -- what one more place makes of the sum, by the outcome t of its comparison
  sum_with : (k : ℕ) (t : Bool) → eqb (label_at b (i + k)) x ≡ t → block_sum b x i (suc k) ≡ block_sum b x i k + weight t k
  unfolding block_sum
  sum_with k t e = rw e

  -- the search of one more place: its match, or the places after it
  code_with : (k m : ℕ) → eqb (label_at b (i + k)) x ≡ true → code_from b x (suc m) (i + k) ≡ Some (i + k + 1)
  unfolding code_from
  code_with k m e = rw (code_from, e)

  code_without : (k m : ℕ) → eqb (label_at b (i + k)) x ≡ false → code_from b x (suc m) (i + k) ≡ code_from b x m (i + k + 1)
  unfolding code_from
  code_without k m e = rw (code_from, e)

  pub sum_bound : (k : ℕ) → k ≤ block_size → block_sum b x i k ≤ k * (one_match + block_size)
  unfolding block_sum weight
  sum_bound zero h = omega arith
  sum_bound (suc k) h = go (eqb (label_at b (i + k)) x) refl (sum_bound k (omega arith))
    where
      go : (t : Bool) → eqb (label_at b (i + k)) x ≡ t → block_sum b x i k ≤ k * (one_match + block_size) → block_sum b x i (suc k) ≤ suc k * (one_match + block_size)
      go true e ih = rw (sum_with k true e) (omega arith)
      go false e ih = rw (sum_with k false e) (omega arith)

  -- a sum of at most one_match is 0, since a single match adds more
  sum_small : (k : ℕ) → block_sum b x i k ≤ one_match → block_sum b x i k ≡ 0
  unfolding block_sum weight
  sum_small zero h = refl
  sum_small (suc k) h = go (eqb (label_at b (i + k)) x) refl (sum_small k)
    where
      go : (t : Bool) → eqb (label_at b (i + k)) x ≡ t → (block_sum b x i k ≤ one_match → block_sum b x i k ≡ 0) → block_sum b x i (suc k) ≡ 0
      go true e ih = let s = rw (sum_with k true e) at h in absurd (omega arith)
      go false e ih = let s = rw (sum_with k false e) at h in rw (sum_with k false e) (omega (arith, ih (omega arith)))

  -- no match: the search continues after the block
  block_none : (k m : ℕ) → block_sum b x i k ≡ 0 → code_from b x (k + m) i ≡ code_from b x m (i + k)
  unfolding block_sum weight
  block_none zero m h = rw (zero-add, add-zero)
  block_none (suc k) m h = go (eqb (label_at b (i + k)) x) refl (block_none k (suc m))
    where
      go : (t : Bool) → eqb (label_at b (i + k)) x ≡ t → (block_sum b x i k ≡ 0 → code_from b x (k + suc m) i ≡ code_from b x (suc m) (i + k)) → code_from b x (suc k + m) i ≡ code_from b x m (i + suc k)
      go true e ih = let s = rw (sum_with k true e) at h in absurd (omega arith)
      go false e ih =
          let s = rw (sum_with k false e) at h in
          let n : suc k + m ≡ k + suc m = omega arith in
          let j : i + suc k ≡ i + k + 1 = omega arith in
          rw (n, j) (ih (omega arith) ∙ code_without k m e)

  -- one match: the sum gives its place
  block_one : (k m : ℕ) → k ≤ block_size → block_sum b x i k < 2 * one_match → (block_sum b x i k ≡ 0 → ⊥) → code_from b x (k + m) i ≡ Some (i + block_sum b x i k % one_match)
  unfolding block_sum weight
  block_one zero m l h d = absurd (d refl)
  block_one (suc k) m l h d = go (eqb (label_at b (i + k)) x) refl (block_one k (suc m) (omega arith))
    where
      go : (t : Bool) → eqb (label_at b (i + k)) x ≡ t → (block_sum b x i k < 2 * one_match → (block_sum b x i k ≡ 0 → ⊥) → code_from b x (k + suc m) i ≡ Some (i + block_sum b x i k % one_match)) → code_from b x (suc k + m) i ≡ Some (i + block_sum b x i (suc k) % one_match)
      go true e ih =
          let s = rw (sum_with k true e) at h in
          let z : block_sum b x i k ≡ 0 = sum_small k (omega arith) in
          let n : suc k + m ≡ k + suc m = omega arith in
          let p : i + (0 + (one_match + 1 + k)) % one_match ≡ i + k + 1 = omega arith in
          rw (n, sum_with k true e, z, p) (block_none k (suc m) z ∙ code_with k m e)
      go false e ih =
          let s = rw (sum_with k false e) at h in
          let n : suc k + m ≡ k + suc m = omega arith in
          let z : block_sum b x i k + 0 ≡ block_sum b x i k = omega arith in
          rw (n, sum_with k false e, z) (ih (omega arith) (λ q. d (rw (sum_with k false e, z, q))))

-- a loop that computes the sum: k places of the block are added
pub record SumSoFar (b : List ℕ) (x i k s : ℕ) : Type 0 where
  pub to : k ≤ block_size
  pub sum : s ≡ block_sum b x i k

module _ (b : List ℕ) (x i : ℕ) where
  pub sum_start : SumSoFar b x i 0 0
  unfolding block_sum
  sum_start = record { to = omega arith; sum = refl }

  module _ (k s : ℕ) (so_far : SumSoFar b x i k s) where
    -- t tells whether the next place has the label, and w is what that place adds
    module _ (t : Bool) (w : ℕ) (h : k < block_size) (test : t ≡ eqb (label_at b (i + k)) x) (adds : w ≡ weight t k) where
      pub sum_next : SumSoFar b x i (k + 1) (s + w)
      unfolding block_sum
      sum_next = record { to = omega arith; sum = rw (add-one, block_sum, so_far.sum, adds, test) }

      pub sum_fits : Fits w32 (s + w)
      sum_fits = Fits-under w32 (s + w) (2 ^ 32) (omega (arith, sum_next.sum, sum_bound b x i (k + 1) (omega arith))) tt

    pub sum_end : block_size ≤ k → s ≡ block_sum b x i block_size
    sum_end h = let e : k ≡ block_size = omega (arith, so_far.to) in rw e at so_far.sum

-- the search for a code in the n places of the map: o is what it gives starting at place i, and s is the sum of the block there
module _ (b : List ℕ) (x n i s : ℕ) (o : Option ℕ) (known : o ≡ code_from b x (n - i) i) (inside : i + block_size ≤ n) (sum : s ≡ block_sum b x i block_size) where
  split : n - i ≡ block_size + (n - (i + block_size))
  split = omega (arith, inside)

  pub block_found : s < 2 * one_match → (s ≡ 0 → ⊥) → Some (i + s % one_match) ≡ o
  block_found h d =
      let one = block_one b x i block_size (n - (i + block_size)) (omega arith) (rw (← sum) h) (λ z. d (sum ∙ z)) in
      rw (known, split, one, sum)

  pub block_passed : s ≡ 0 → o ≡ code_from b x (n - (i + block_size)) (i + block_size)
  block_passed z = rw (known, split, block_none b x i block_size (n - (i + block_size)) (sym sum ∙ z))
