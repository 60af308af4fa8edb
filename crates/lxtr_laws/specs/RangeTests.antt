-- Tests of all numbers below a bound: what the outcome says of each number.
-- And the joined lists of a range, taken apart at its last number.
use Prim.Native.Nat.{ℕ, zero, suc, ◌+◌, ◌-◌, ◌≤◌, ◌<◌}
use Rattle.std.specs.Prelude.{◌≡◌, ◌↔◌, ◌⊎◌, Bool, ◌||◌, length}
use Rattle.std.proofs.Math.Path.{refl, sym, ap}
use Rattle.std.proofs.Common.{◌∙◌, inl, inr, add-zero, le_refl, not-suc-le-zero}
use Rattle.std.proofs.Math.Logic.{⊎_elim}
use Rattle.std.proofs.Math.Bool.{true, false}
use Rattle.std.proofs.lemmas.Bool.{false≢true}
use mathlib.Core.List.{List, [], ◌++◌, append_assoc, append-nil}
use Rattle.std.proofs.Math.ListN.{length-append}
use native.Mathlib.Omega.{arith}
use Rattle.std.proofs.Math.Decide.{dec_lt}
use Rattle.lxtr_spec.specs.Ranges.{any_below, concat_from}
use Rattle.lxtr_laws.specs.Tests.{or_is_false, and_is_true, and_is_false, not_is_false, not_is_true, beq_is_true, ltb_is_true, ltb_is_false, leb_is_true, leb_is_false, eqb_is_true, eqb_is_false}

-- there is one number more from i up to n than from i + 1
pub more : (n i : ℕ) → i < n → n - i ≡ suc (n - (i + 1))
more n i h = omega arith

-- a number below n + 1 is n or below n
pub below_suc : (i n : ℕ) → i < suc n → (i ≡ n) ⊎ (i < n)
below_suc i n h = go (dec_lt i n)
  where
    go : Dec (i < n) → (i ≡ n) ⊎ (i < n)
    go (yes l) = inr l
    go (no g) = inl (omega arith)

module _ (f : ℕ → Bool) where
  none_at : (n : ℕ) → any_below n f ≡ false → (i : ℕ) → i < n → f i ≡ false
  unfolding any_below
  none_at zero e i h = absurd (not-suc-le-zero h)
  none_at (suc n) e i h = ⊎_elim (λ s. rw s ((or_is_false (any_below n f) (f n)).0 e).1) (none_at n ((or_is_false (any_below n f) (f n)).0 e).0 i) (below_suc i n h)

  none_of : (n : ℕ) → ((i : ℕ) → i < n → f i ≡ false) → any_below n f ≡ false
  unfolding any_below
  none_of zero h = refl
  none_of (suc n) h = rw (none_of n (λ i l. h i (omega arith)), h n (omega arith))

  some_at : (n : ℕ) → any_below n f ≡ true → (i : ℕ) × (i < n) × (f i ≡ true)
  unfolding any_below
  some_at zero e = absurd (false≢true e)
  some_at (suc n) e = go (some_at n) (any_below n f) refl e
    where
      go : (any_below n f ≡ true → (i : ℕ) × (i < n) × (f i ≡ true)) → (a : Bool) → any_below n f ≡ a → (a || f n) ≡ true → (i : ℕ) × (i < suc n) × (f i ≡ true)
      go ih true p t = let r = ih p in (r.0, omega arith, r.2)
      go ih false p t = (n, omega arith, t)

  some_of : (n i : ℕ) → i < n → f i ≡ true → any_below n f ≡ true
  some_of n i h t = go (any_below n f) refl
    where
      go : (a : Bool) → any_below n f ≡ a → any_below n f ≡ true
      go true p = p
      go false p = absurd (let z : f i ≡ false = none_at n p i h in false≢true (rw z at t))

-- `any_below` is false exactly when each number below n fails, and true exactly when one passes
pub any_false : (n : ℕ) (f : ℕ → Bool) → (any_below n f ≡ false) ↔ ((i : ℕ) → i < n → f i ≡ false)
any_false n f = (none_at f n, none_of f n)

pub any_true : (n : ℕ) (f : ℕ → Bool) → (any_below n f ≡ true) ↔ ((i : ℕ) × (i < n) × (f i ≡ true))
any_true n f = (some_at f n, λ p. some_of f n p.0 p.1 p.2)

-- every law of a test's outcome, for `simp`
pub ruleset tests = (or_is_false, and_is_true, and_is_false, not_is_false, not_is_true, beq_is_true, ltb_is_true, ltb_is_false, leb_is_true, leb_is_false, eqb_is_true, eqb_is_false, any_false)

-- the joined lists of a range
module _ {A : Type 0} (f : ℕ → List A) where
  -- one more number adds its list at the end
  pub concat_more : (n j : ℕ) → concat_from (suc n) j f ≡ concat_from n j f ++ f (j + n)
  unfolding concat_from
  concat_more zero j = rw (append-nil, add-zero)
  concat_more (suc n) j =
      let e : j + 1 + n ≡ j + suc n = omega arith in
      ap (λ (l : List A). f j ++ l) (concat_more n (j + 1) ∙ ap (λ (k : ℕ). concat_from n (j + 1) f ++ f k) e) ∙ sym (append_assoc (f j) (concat_from n (j + 1) f) (f (j + suc n)))

  -- numbers that give nothing add nothing
  pub concat_none : (n m j : ℕ) → ((k : ℕ) → n ≤ k → f (j + k) ≡ []) → concat_from (n + m) j f ≡ concat_from n j f
  concat_none n zero j h = rw add-zero
  concat_none n (suc m) j h =
      let e : n + suc m ≡ suc (n + m) = omega arith in
      ap (λ (k : ℕ). concat_from k j f) e ∙ concat_more (n + m) j ∙ rw (h (n + m) (omega arith), append-nil) (concat_none n m j h)

  pub concat_length : (n j : ℕ) → ((k : ℕ) → length (f k) ≤ 1) → length (concat_from n j f) ≤ n
  unfolding concat_from
  concat_length zero j h = omega arith
  concat_length (suc n) j h = omega (arith, length-append (f j) (concat_from n (j + 1) f), h j, concat_length n (j + 1) h)

  -- fewer numbers give a list that is no longer
  concat_grows : (m k j : ℕ) → length (concat_from m j f) ≤ length (concat_from (m + k) j f)
  concat_grows m zero j = rw (add-zero m) (le_refl (length (concat_from m j f)))
  concat_grows m (suc k) j =
      let e : m + suc k ≡ suc (m + k) = omega arith in
      rw e (omega (arith, concat_grows m k j, ap length (concat_more (m + k) j), length-append (concat_from (m + k) j f) (f (j + (m + k)))))

  pub concat_front : (j m n : ℕ) → m ≤ n → length (concat_from m j f) ≤ length (concat_from n j f)
  concat_front j m n h = let e : m + (n - m) ≡ n = omega arith in rw e at (concat_grows m (n - m) j)
