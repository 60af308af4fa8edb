-- Tests: each outcome of a test is a fact, and the fact is that outcome, stated both ways as `↔`.
-- So `simp tests` (of RangeTests) turns "this fault is not there", however the fault is composed, into facts, and back.
use Rattle.std.specs.Prelude.{ℕ, ◌≤◌, ◌<◌, ◌≡◌, refl, ◌↔◌, ◌≢◌, ◌⊎◌, Bool, true, false, ◌&&◌, ◌||◌, not, cond, leb, ltb, eqb}
use Rattle.std.proofs.Common.{sym, ◌∙◌, inl, inr, true≢false, ltb-true, ltb-false, leb-true, leb-false, eqb-true, lt-ltb, le-ltb, le-leb, eq-eqb, ne_eqb}
use Rattle.std.specs.Bool.{beq}
use Rattle.std.proofs.lemmas.Bool.{false≢true, eqb-false, lt-leb}

pub or_is_false : (s t : Bool) → ((s || t) ≡ false) ↔ ((s ≡ false) × (t ≡ false))
or_is_false true t = (λ e. absurd (true≢false e), λ p. p.0)
or_is_false false t = (λ e. (refl, e), λ p. p.1)

pub or_is_true : (s t : Bool) → ((s || t) ≡ true) ↔ ((s ≡ true) ⊎ (t ≡ true))
or_is_true true t = (λ e. inl refl, λ p. refl)
or_is_true false t = (λ e. inr e, one)
  where
    one : (false ≡ true) ⊎ (t ≡ true) → t ≡ true
    one (inl e) = absurd (false≢true e)
    one (inr e) = e

pub and_is_true : (s t : Bool) → ((s && t) ≡ true) ↔ ((s ≡ true) × (t ≡ true))
and_is_true true t = (λ e. (refl, e), λ p. p.1)
and_is_true false t = (λ e. absurd (false≢true e), λ p. p.0)

-- a fault `t` under a condition `s`
pub and_is_false : (s t : Bool) → ((s && t) ≡ false) ↔ (s ≡ true → t ≡ false)
and_is_false true t = (λ e _. e, λ f. f refl)
and_is_false false t = (λ e f. absurd (false≢true f), λ f. refl)

pub not_is_false : (t : Bool) → (not t ≡ false) ↔ (t ≡ true)
not_is_false true = (λ e. refl, λ e. refl)
not_is_false false = (λ e. sym e, λ e. sym e)

pub not_is_true : (t : Bool) → (not t ≡ true) ↔ (t ≡ false)
not_is_true true = (λ e. sym e, λ e. sym e)
not_is_true false = (λ e. refl, λ e. refl)

pub beq_is_true : (s t : Bool) → (beq s t ≡ true) ↔ (s ≡ t)
beq_is_true true true = (λ e. refl, λ e. refl)
beq_is_true true false = (λ e. sym e, λ e. sym e)
beq_is_true false true = (λ e. e, λ e. e)
beq_is_true false false = (λ e. refl, λ e. refl)

pub ltb_is_true : (m n : ℕ) → (ltb m n ≡ true) ↔ (m < n)
ltb_is_true m n = (ltb-true m n, lt-ltb m n)

pub ltb_is_false : (m n : ℕ) → (ltb m n ≡ false) ↔ (n ≤ m)
ltb_is_false m n = (ltb-false m n, le-ltb m n)

pub leb_is_true : (m n : ℕ) → (leb m n ≡ true) ↔ (m ≤ n)
leb_is_true m n = (leb-true m n, le-leb m n)

pub leb_is_false : (m n : ℕ) → (leb m n ≡ false) ↔ (n < m)
leb_is_false m n = (leb-false m n, lt-leb m n)

pub eqb_is_true : (m n : ℕ) → (eqb m n ≡ true) ↔ (m ≡ n)
eqb_is_true m n = (eqb-true m n, eq-eqb m n)

pub eqb_is_false : (m n : ℕ) → (eqb m n ≡ false) ↔ (m ≢ n)
eqb_is_false m n = (eqb-false m n, ne_eqb m n)

-- a test that cannot be true is false
pub is_false : (t : Bool) → (t ≡ true → ⊥) → t ≡ false
is_false true h = absurd (h refl)
is_false false h = refl

-- two tests that imply each other are equal
pub same_test : (s t : Bool) → (s ≡ true → t ≡ true) → (t ≡ true → s ≡ true) → s ≡ t
same_test true t f g = sym (f refl)
same_test false true f g = g refl
same_test false false f g = refl

-- what a call's result says of the test that it computes: for `search`
pub outcome : (r t a : Bool) → r ≡ t → r ≡ a → t ≡ a
outcome r t a e h = sym e ∙ h

-- what holds of each branch, by its outcome, holds of the choice
pub cond_holds : {A : Type 0} (P : A → Type 0) (t : Bool) {x y : A} → (t ≡ true → P x) → (t ≡ false → P y) → P (cond t x y)
cond_holds P true f g = f refl
cond_holds P false f g = g refl

-- a bound of both branches is a bound of the choice
pub cond_within : (t : Bool) (m n most : ℕ) → m ≤ most → n ≤ most → cond t m n ≤ most
cond_within t m n most h l = cond_holds (λ k. k ≤ most) t (λ _. h) (λ _. l)
