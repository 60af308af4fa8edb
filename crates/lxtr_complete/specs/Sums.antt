-- Sums over the numbers below a bound. What f gives for some different numbers is at most what it gives for all.
use Prim.Native.Nat.{ℕ, zero, suc, ◌+◌, ◌≤◌, ◌<◌}
use Rattle.std.specs.Prelude.{◌≡◌, refl, ◌≢◌, ◌⊎◌, cond, eqb}
use Rattle.std.proofs.Math.Path.{sym}
use Rattle.std.proofs.Common.{inl, inr, add-zero, le_refl, not-suc-le-zero, arith, eq-eqb, ne_eqb}
use Rattle.lxtr_laws.specs.RangeTests.{below_suc}

-- the sum of what f gives for the numbers below n
unfoldable pub total : ℕ → (ℕ → ℕ) → ℕ
total zero f = 0
total (suc n) f = total n f + f n

total_same : (n : ℕ) (f g : ℕ → ℕ) → ((i : ℕ) → i < n → f i ≡ g i) → total n f ≡ total n g
unfolding total
total_same zero f g h = refl
total_same (suc n) f g h = rw (total_same n f g (λ i l. h i (omega arith)), h n (le_refl (suc n)))

pub total_none : (n : ℕ) → total n (λ i. 0) ≡ 0
unfolding total
total_none zero = refl
total_none (suc n) = omega (arith, total_none n)

pub total_has : (n i : ℕ) (f : ℕ → ℕ) → i < n → f i ≤ total n f
unfolding total
total_has zero i f h = absurd (not-suc-le-zero h)
total_has (suc n) i f h = go (below_suc i n h) (total_has n i f)
  where
    go : (i ≡ n) ⊎ (i < n) → (i < n → f i ≤ total n f) → f i ≤ total n f + f n
    go (inl e) ih = rw e (omega arith)
    go (inr l) ih = omega (arith, ih l)

pub total_one_more : (n : ℕ) (f : ℕ → ℕ) → total n (λ i. 1 + f i) ≡ n + total n f
unfolding total
total_one_more zero f = refl
total_one_more (suc n) f = omega (arith, total_one_more n f)

pub total_split : (m d : ℕ) (f : ℕ → ℕ) → total (m + d) f ≡ total m f + total d (λ i. f (m + i))
unfolding total
total_split m zero f = rw (add-zero m) (omega arith)
total_split m (suc d) f = let e : m + suc d ≡ suc (m + d) = omega arith in rw e (omega (arith, total_split m d f))

-- f, but 0 at s
without : ℕ → (ℕ → ℕ) → ℕ → ℕ
without s f i = cond (eqb i s) 0 (f i)

module _ (s : ℕ) (f : ℕ → ℕ) where
  without_other : (i : ℕ) → i ≢ s → without s f i ≡ f i
  unfolding without
  without_other i h = rw (ne_eqb i s h)

  without_self : without s f s ≡ 0
  unfolding without
  without_self = rw (eq-eqb s s refl)

  total_without : (n : ℕ) → s < n → total n f ≡ total n (without s f) + f s
  unfolding total
  total_without zero h = absurd (not-suc-le-zero h)
  total_without (suc n) h = go (below_suc s n h) (total_without n)
    where
      go : (s ≡ n) ⊎ (s < n) → (s < n → total n f ≡ total n (without s f) + f s) → total n f + f n ≡ total n (without s f) + without s f n + f s
      go (inl e) ih =
          let same : total n f ≡ total n (without s f) = total_same n f (without s f) (λ i l. sym (without_other i (omega arith))) in
          rw (← e, without_self) (omega (arith, rw (← e) at same))
      go (inr l) ih = rw (without_other n (omega arith)) (omega (arith, ih l))

-- what f gives for m different numbers below n is at most what it gives for all numbers below n
pub total_part : (m n : ℕ) (to f : ℕ → ℕ) → ((i : ℕ) → i < m → to i < n) → ((i j : ℕ) → i < m → j < m → to i ≡ to j → i ≡ j) → total m (λ i. f (to i)) ≤ total n f
unfolding total
total_part zero n to f lands differ = omega arith
total_part (suc m) n to f lands differ =
    let rest = total_part m n to (without (to m) f) (λ i l. lands i (omega arith)) (λ i j l k e. differ i j (omega arith) (omega arith) e) in
    let same : total m (λ i. without (to m) f (to i)) ≡ total m (λ i. f (to i)) =
    total_same m (λ i. without (to m) f (to i)) (λ i. f (to i)) (λ i l. without_other (to m) f (to i) (λ e. let z : i ≡ m = differ i m (omega arith) (le_refl (suc m)) e in omega arith)) in
    omega (arith, rest, same, total_without (to m) f n (lands m (le_refl (suc m))))
