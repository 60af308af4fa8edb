-- If a bijection takes the numbers below m to the numbers below n that pass a test, then m numbers below n pass it.
-- If one test implies another, and equally many numbers pass each, then the other implies the one too.
use Prim.Native.Nat.{ℕ, zero, suc, ◌+◌, ◌≤◌, ◌<◌}
use Rattle.std.proofs.Common.{not-suc-le-zero, ap, ◌∙◌, inl, inr, eq-eqb, ne_eqb}
use Rattle.std.proofs.Math.Nat.{le_refl}
use native.Mathlib.Omega.{arith}
use Rattle.std.specs.Prelude.{◌≡◌, refl, ◌≢◌, ◌⊎◌, Bool, ◌&&◌, not, eqb}
use Rattle.std.proofs.Math.Path.{sym}
use Rattle.std.proofs.Math.Bool.{true, false, cond, and-true, and-false}
use Rattle.std.proofs.lemmas.Bool.{false≢true}
use Rattle.lxtr_spec.specs.Ranges.{count_below}
use Rattle.lxtr_laws.specs.RangeTests.{below_suc}
use Rattle.lxtr_laws.specs.Tests.{and_is_true, not_is_true, eqb_is_false}

pub count_same : (n : ℕ) (f g : ℕ → Bool) → ((i : ℕ) → i < n → f i ≡ g i) → count_below n f ≡ count_below n g
unfolding count_below
count_same zero f g h = refl
count_same (suc n) f g h = rw (count_same n f g (λ i l. h i (omega arith)), h n (le_refl (suc n)))

-- the test without the number s
without : ℕ → (ℕ → Bool) → ℕ → Bool
without s f i = f i && not (eqb i s)

module _ (s : ℕ) (f : ℕ → Bool) where
  without_other : (i : ℕ) → i ≢ s → without s f i ≡ f i
  unfolding without
  without_other i h = rw (ne_eqb i s h) (and-true (f i))

  without_self : without s f s ≡ false
  unfolding without
  without_self = rw (eq-eqb s s refl) (and-false (f s))

  without_parts : (i : ℕ) → without s f i ≡ true → (f i ≡ true) × (i ≢ s)
  unfolding without
  without_parts i e = let p = (and_is_true (f i) (not (eqb i s))).0 e in (p.0, (eqb_is_false i s).0 ((not_is_true (eqb i s)).0 p.1))

  -- one fewer passes
  count_without : (n : ℕ) → s < n → f s ≡ true → count_below n f ≡ suc (count_below n (without s f))
  unfolding count_below
  count_without zero h t = absurd (not-suc-le-zero h)
  count_without (suc n) h t = go (λ l. count_without n l t) (below_suc s n h)
    where
      go : (s < n → count_below n f ≡ suc (count_below n (without s f))) → (s ≡ n) ⊎ (s < n) → count_below n f + cond (f n) 1 0 ≡ suc (count_below n (without s f) + cond (without s f n) 1 0)
      go ih (inl e) =
          let a : count_below n f ≡ count_below n (without s f) = count_same n f (without s f) (λ i l. sym (without_other i (omega arith))) in
          let z : without s f n ≡ false = rw (← e) without_self in
          rw (ap f (sym e) ∙ t, z) (omega arith)
      go ih (inr l) = let a = ih l in rw (without_other n (omega arith)) (omega arith)

-- `to` takes the numbers below m to those below n that pass g, one to one and onto
pub record Bijective (m n : ℕ) (g : ℕ → Bool) (to : ℕ → ℕ) : Type 0 where
  pub lands : (i : ℕ) → i < m → (to i < n) × (g (to i) ≡ true)
  pub injective : (i j : ℕ) → i < m → j < m → to i ≡ to j → i ≡ j
  pub surjective : (s : ℕ) → s < n → g s ≡ true → (i : ℕ) × (i < m) × (to i ≡ s)

count_none : (n : ℕ) (g : ℕ → Bool) → ((s : ℕ) → s < n → g s ≡ true → ⊥) → count_below n g ≡ 0
unfolding count_below
count_none zero g h = refl
count_none (suc n) g h = rw (count_none n g (λ s l. h s (omega arith))) (go (g n) refl)
  where
    go : (a : Bool) → g n ≡ a → 0 + cond a 1 0 ≡ 0
    go true e = absurd (h n (le_refl (suc n)) e)
    go false e = refl

pub count_of_lem : (m n : ℕ) (g : ℕ → Bool) (to : ℕ → ℕ) → Bijective m n g to → count_below n g ≡ m
count_of_lem zero n g to k = count_none n g (λ s l t. let r = k.surjective s l t in not-suc-le-zero r.1)
count_of_lem (suc m) n g to k = count_without (to m) g n (k.lands m (le_refl (suc m))).0 (k.lands m (le_refl (suc m))).1 ∙ ap suc (count_of_lem m n (without (to m) g) to rest)
  where
    rest : Bijective m n (without (to m) g) to
    rest = record {
      lands = λ i l.
          let p = k.lands i (omega arith) in
          (p.0, without_other (to m) g (to i) (λ e. let z : i ≡ m = k.injective i m (omega arith) (le_refl (suc m)) e in omega arith) ∙ p.1);
      injective = λ i j l u e. k.injective i j (omega arith) (omega arith) e;
      surjective = λ s l t.
          let p = without_parts (to m) g s t in
          let r = k.surjective s l p.0 in
          (r.0, below r.0 r.1 (λ e. p.1 (sym r.2 ∙ ap to e)), r.2);
    }
      where
        below : (i : ℕ) → i < suc m → i ≢ m → i < m
        below i h n = omega arith

one_le : (a c : Bool) → (a ≡ true → c ≡ true) → cond a 1 0 ≤ cond c 1 0
one_le true true h = le_refl 1
one_le true false h = absurd (false≢true (h refl))
one_le false true h = omega arith
one_le false false h = le_refl 0

one_same : (a c : Bool) → ◌≡◌ {A = ℕ} (cond a 1 0) (cond c 1 0) → c ≡ true → a ≡ true
one_same true c e t = refl
one_same false true e t = absurd (omega arith)
one_same false false e t = t

-- f implies g
module _ (f g : ℕ → Bool) where
  count_le : (n : ℕ) → ((i : ℕ) → i < n → f i ≡ true → g i ≡ true) → count_below n f ≤ count_below n g
  unfolding count_below
  count_le zero h = le_refl 0
  count_le (suc n) h = let a = count_le n (λ i l. h i (omega arith)) in let c = one_le (f n) (g n) (h n (le_refl (suc n))) in omega arith

  pub count_filled : (n : ℕ) → ((i : ℕ) → i < n → f i ≡ true → g i ≡ true) → count_below n f ≡ count_below n g → (i : ℕ) → i < n → g i ≡ true → f i ≡ true
  unfolding count_below
  count_filled zero h e i l t = absurd (not-suc-le-zero l)
  count_filled (suc n) h e i l t = go (count_filled n within) (below_suc i n l)
    where
      within : (i : ℕ) → i < n → f i ≡ true → g i ≡ true
      within i l = h i (omega arith)

      a : count_below n f ≤ count_below n g
      a = count_le n within

      c : cond (f n) 1 0 ≤ cond (g n) 1 0
      c = one_le (f n) (g n) (h n (le_refl (suc n)))

      go : (count_below n f ≡ count_below n g → (i : ℕ) → i < n → g i ≡ true → f i ≡ true) → (i ≡ n) ⊎ (i < n) → f i ≡ true
      go ih (inl s) = rw s (one_same (f n) (g n) (omega (arith, a, c, e)) (rw s at t))
      go ih (inr k) = ih (omega (arith, a, c, e)) i k t
