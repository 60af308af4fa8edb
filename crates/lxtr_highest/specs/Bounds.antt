-- The highest value as the code finds it. The loop keeps one more than the highest value so far, or 0 if there is none: the larger of
-- two such numbers is one more than the larger value. Results of calls are variables.
use Rattle.std.specs.Prelude.{ℕ, ◌+◌, ◌-◌, max, ◌≤◌, ◌<◌, ◌≡◌, List, Bool, true, false, cond, ltb, Option, Some, None, Result}
use Rattle.std.specs.Option.{SomeIff}
use Rattle.std.specs.Result.{IsErrAnd}
use Rattle.std.proofs.lemmas.Result.{err_from_is_err_and}
use Rattle.std.proofs.Math.Path.{refl}
use Rattle.std.proofs.Common.{sym, ap, add-one, arith, ltb-true, ltb-false}
use Rattle.lxtr_spec.specs.Image.{slot_count, value_number}
use Rattle.lxtr_spec.specs.Refusals.{unless_refused, image_refusal, is_end}
use Rattle.lxtr_spec.specs.HighestValues.{HighestAnswer, larger, highest_below, highest_of}
use Rattle.lxtr_spec.specs.declared.refusals.Refusal.{Refusal}
use Rattle.lxtr_spec.specs.Answers.{number, refusal_of, answer_or}
use Rattle.lxtr_laws.specs.Failures.{number_not_0}
use Rattle.lxtr_laws.specs.RefusalChains.{stands}

-- one more than a value, or 0 for none
abbrev pub bound : Option ℕ → ℕ
bound None = 0
bound (Some v) = v + 1

-- a slot with value v, by whether it is an end, after those whose highest value is h
bound_with : (t : Bool) (v : ℕ) (h : Option ℕ) → bound (cond t (Some (larger v h)) h) ≡ max (bound h) (cond t (v + 1) 0)
unfolding larger
bound_with false v h = omega arith
bound_with true v None = omega arith
bound_with true v (Some w) = go (ltb v w) refl
  where
    go : (s : Bool) → ltb v w ≡ s → cond s w v + 1 ≡ max (w + 1) (v + 1)
    go true e = omega (arith, ltb-true v w e)
    go false e = omega (arith, ltb-false v w e)

-- r is one less than the bound, if the bound is above 0
unbound : (h r : Option ℕ) → SomeIff r (1 ≤ bound h) (bound h - 1) → r ≡ h
unbound None None e = refl
unbound None (Some r) e = absurd (omega arith)
unbound (Some v) None e = absurd (e (omega arith))
unbound (Some v) (Some r) e = let same : r ≡ v = omega arith in ap Some same

-- the loop has come to slot s, and n is what it keeps
pub record HighestSoFar (b : List ℕ) (s slots n : ℕ) : Type 0 where
  pub to : s ≤ slots
  pub kept : n ≡ bound (highest_below b s)

module _ (b : List ℕ) (slots : ℕ) where
  pub highest_start : HighestSoFar b 0 slots 0
  unfolding highest_below
  highest_start = record { to = omega arith; kept = refl }

  module _ (s n : ℕ) (so_far : HighestSoFar b s slots n) where
    -- m is what slot s gives, and r the larger of both
    pub highest_next : (m r : ℕ) → s < slots → m ≡ cond (is_end b s) (value_number b s + 1) 0 → r ≡ max n m → HighestSoFar b (s + 1) slots r
    unfolding highest_below
    highest_next m r h e f = record { to = omega arith; kept = rw (add-one, highest_below, f, e, so_far.kept) (sym (bound_with (is_end b s) (value_number b s) (highest_below b s))) }

    module _ (count : slots ≡ slot_count b) (past : slots ≤ s) where
      all_kept : n ≡ bound (highest_below b (slot_count b))
      all_kept = let e : s ≡ slot_count b = omega (arith, so_far.to) in rw e at so_far.kept

      pub highest_all : (r : Option ℕ) → SomeIff r (1 ≤ n) (n - 1) → r ≡ highest_below b (slot_count b)
      highest_all r e = unbound (highest_below b (slot_count b)) r (rw all_kept at e)

module _ (b : List ℕ) where
  -- the refusal e is passed on
  pub highest_refused : (r : Result (Option ℕ) Refusal) (e : Refusal) → IsErrAnd r (λ y. y ≡ e) → number e ≡ image_refusal b
      → ◌≡◌ {A = HighestAnswer} (record { refusal = refusal_of r; value = answer_or None r }) (highest_of b)
  unfolding highest_of
  highest_refused r e h known = let p = err_from_is_err_and r h in rw (p.1, p.2, ← known, stands (number e) (highest_below b (slot_count b)) None (number_not_0 e))

  pub highest_passed : (f : Option ℕ) → 0 ≡ image_refusal b → f ≡ highest_below b (slot_count b) → ◌≡◌ {A = HighestAnswer} (record { refusal = 0; value = f }) (highest_of b)
  unfolding highest_of unless_refused
  highest_passed f z e = rw (← z, e)
