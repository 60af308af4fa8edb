-- A chain of refusals: what each test's outcome makes of the answer, and what the answer 0 says of all tests.
use Rattle.std.specs.Prelude.{ℕ, zero, suc, ◌≡◌, refl, ◌↔◌, Bool, true, false, ltb}
use Rattle.std.proofs.Common.{true≢false, arith, ltb-true}
use Rattle.lxtr_spec.specs.Refusals.{refuse_if, first_refusal, unless_refused}
use Rattle.lxtr_laws.specs.Tests.{outcome}

-- a fault that is there gives its number
pub refused : (t : Bool) (k later : ℕ) → t ≡ true → k ≡ refuse_if t k later
unfolding refuse_if
refused t k later e = rw e

-- one that is not there leaves the answer to what comes after it
pub goes_on : (t : Bool) (k later n : ℕ) → t ≡ false → n ≡ later → n ≡ refuse_if t k later
unfolding refuse_if
goes_on t k later n e h = rw e h

-- no refusal: the fault is not there, and nothing after it was refused (refusal numbers are above 0)
pub none_refused : (t : Bool) (k later : ℕ) → ltb 0 k ≡ true → (refuse_if t k later ≡ 0) ↔ ((t ≡ false) × (later ≡ 0))
unfolding refuse_if
none_refused true k later h = (λ e. absurd (omega (arith, ltb-true 0 k h)), λ p. absurd (true≢false p.0))
none_refused false k later h = (λ e. (refl, e), λ p. p.1)

pub none_first : (n later : ℕ) → (first_refusal n later ≡ 0) ↔ ((n ≡ 0) × (later ≡ 0))
unfolding first_refusal
none_first zero later = (λ e. (refl, e), λ p. p.1)
none_first (suc n) later = (λ e. absurd (omega arith), λ p. absurd (omega arith))

-- The laws for a `return` in a chain of tests, where r is what the code's test returned: faults that are not there, and one that
-- is. Each takes one refusal off the goal, so a search by them ends.
pub refused_by_lem : (r t : Bool) (k later : ℕ) → r ≡ t → r ≡ true → k ≡ refuse_if t k later
refused_by_lem r t k later e h = refused t k later (outcome r t true e h)

pub goes_on_by : (r t : Bool) (k later n : ℕ) → r ≡ t → r ≡ false → n ≡ later → n ≡ refuse_if t k later
goes_on_by r t k later n e h = goes_on t k later n (outcome r t false e h)

pub ruleset chain = (refused_by_lem, goes_on_by)

-- a refusal is answered whatever comes after it
pub first_stands : (n later : ℕ) → (n ≡ 0 → ⊥) → first_refusal n later ≡ n
unfolding first_refusal
first_stands zero later h = absurd (h refl)
first_stands (suc n) later h = refl

-- after a refusal the other answer is given
pub stands {ℓ} : {A : Type ℓ} (n : ℕ) (answer other : A) → (n ≡ 0 → ⊥) → unless_refused n answer other ≡ other
unfolding unless_refused
stands zero answer other h = absurd (h refl)
stands (suc n) answer other h = refl
