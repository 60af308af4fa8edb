-- The slots of a work that go into the image: how many there are, and that all taken ones are among them.
-- The highest taken slot is searched for from above, so no slot above it is taken.
use Prim.Native.Nat.{ℕ, zero, suc, ◌+◌, ◌≤◌, ◌<◌}
use Rattle.std.proofs.Common.{le_refl, sym, ◌∙◌, inl, inr, true≢false}
use native.Mathlib.Omega.{arith}
use Rattle.std.specs.Prelude.{◌≡◌, ◌↔◌, ◌≢◌, ◌⊎◌, List, Bool}
use Rattle.std.proofs.Math.Path.{refl, ap}
use Rattle.std.proofs.Math.Bool.{true, false}
use Rattle.lxtr_spec.specs.Ranges.{count_below}
use Rattle.lxtr_spec.specs.Placing.{check_at, is_taken_from2}
use Rattle.lxtr_spec.specs.Builds.{slots_used}
use Rattle.lxtr_laws.specs.Tests.{cond_within}
use Rattle.lxtr_laws.specs.RangeTests.{below_suc, tests}

module _ (w : List ℕ) where
  pub taken_is : (t : ℕ) → (is_taken_from2 w t ≡ true) ↔ ((2 ≤ t) × (check_at w t ≢ 0))
  unfolding is_taken_from2
  taken_is t = (λ e. simp tests at e, λ h. simp tests h)

  -- the search below n + 1
  pub used_hit : (n : ℕ) → is_taken_from2 w n ≡ true → slots_used w (suc n) ≡ suc n
  unfolding slots_used
  used_hit n e = ap (λ (a : Bool). elim a as (λ _. ℕ) [ true ↦ suc n | false ↦ slots_used w n ]) e

  pub used_miss : (n : ℕ) → is_taken_from2 w n ≡ false → slots_used w (suc n) ≡ slots_used w n
  unfolding slots_used
  used_miss n e = ap (λ (a : Bool). elim a as (λ _. ℕ) [ true ↦ suc n | false ↦ slots_used w n ]) e

  pub used_low : (n : ℕ) → 2 ≤ slots_used w n
  used_low zero = unfold slots_used in omega arith
  used_low (suc n) = go (used_low n) (is_taken_from2 w n) refl
    where
      go : 2 ≤ slots_used w n → (a : Bool) → is_taken_from2 w n ≡ a → 2 ≤ slots_used w (suc n)
      go ih true e = omega (arith, used_hit n e, ((taken_is n).0 e).0)
      go ih false e = omega (arith, used_miss n e)

  used_within : (n most : ℕ) → n ≤ most → 2 ≤ most → slots_used w n ≤ most
  used_within zero most h l = unfold slots_used in l
  used_within (suc n) most h l = go (used_within n most (omega arith) l) (is_taken_from2 w n) refl
    where
      go : slots_used w n ≤ most → (a : Bool) → is_taken_from2 w n ≡ a → slots_used w (suc n) ≤ most
      go ih true e = omega (arith, used_hit n e)
      go ih false e = omega (arith, used_miss n e)

  pub used_high : (n : ℕ) → 2 ≤ n → slots_used w n ≤ n
  used_high n h = used_within n n (le_refl n) h

  -- every taken slot is one of them
  pub taken_used : (n t : ℕ) → t < n → is_taken_from2 w t ≡ true → t < slots_used w n
  taken_used zero t h e = absurd (omega arith)
  taken_used (suc n) t h e = go (taken_used n t) (is_taken_from2 w n) refl (below_suc t n h)
    where
      go : (t < n → is_taken_from2 w t ≡ true → t < slots_used w n) → (a : Bool) → is_taken_from2 w n ≡ a → (t ≡ n) ⊎ (t < n) → t < slots_used w (suc n)
      go ih true f c = omega (arith, used_hit n f)
      go ih false f (inl q) = absurd (true≢false (sym e ∙ ap (is_taken_from2 w) q ∙ f))
      go ih false f (inr l) = omega (arith, used_miss n f, ih l e)

  -- the last of them is taken, if it is not slot 1
  pub used_last : (n s : ℕ) → slots_used w n ≡ suc s → 2 ≤ s → (s < n) × (is_taken_from2 w s ≡ true)
  used_last zero s e h = unfold slots_used in absurd (omega (arith, e))
  used_last (suc n) s e h = go (used_last n s) (is_taken_from2 w n) refl
    where
      go : (slots_used w n ≡ suc s → 2 ≤ s → (s < n) × (is_taken_from2 w s ≡ true)) → (a : Bool) → is_taken_from2 w n ≡ a → (s < suc n) × (is_taken_from2 w s ≡ true)
      go ih true f = let q : s ≡ n = omega (arith, e, used_hit n f) in (omega arith, ap (is_taken_from2 w) q ∙ f)
      go ih false f = let r = ih (sym (used_miss n f) ∙ e) h in (omega (arith, r.0), r.1)

  taken_most : (n : ℕ) → count_below (suc (suc n)) (is_taken_from2 w) ≤ n
  unfolding count_below is_taken_from2
  taken_most zero = omega arith
  taken_most (suc n) = omega (arith, taken_most n, cond_within (is_taken_from2 w (suc (suc n))) 1 0 1 (omega arith) (omega arith))

  -- slots 0 and 1 do not count
  pub taken_few : (n : ℕ) → 2 ≤ n → count_below n (is_taken_from2 w) + 2 ≤ n
  taken_few zero h = absurd (omega arith)
  taken_few (suc zero) h = absurd (omega arith)
  taken_few (suc (suc n)) h = omega (arith, taken_most n)
