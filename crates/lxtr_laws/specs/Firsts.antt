-- The first number below a bound that passes a test, or the bound if none does: nothing before it passes.
-- There is only one such number. The same for the first number from i on, if there is one.
use Prim.Native.Nat.{ℕ, zero, suc, ◌+◌, ◌≤◌, ◌<◌}
use Rattle.std.specs.Prelude.{◌≡◌, Bool, Option, Some, None}
use Rattle.std.proofs.Math.Path.{refl, sym, ap}
use Rattle.std.proofs.Common.{◌∙◌, true≢false}
use Rattle.std.proofs.Math.Bool.{true, false}
use Rattle.std.proofs.Math.Nat.{le_refl}
use Rattle.std.proofs.Math.Decide.{ℕ_discrete, dec_lt}
use native.Mathlib.Omega.{arith}
use Rattle.lxtr_spec.specs.Ranges.{any_below, first_from, first_below}
use Rattle.lxtr_laws.specs.RangeTests.{any_true, any_false}

-- r is the first of the n numbers starting at i that passes f, or i + n if none does
record FirstFrom (f : ℕ → Bool) (n i r : ℕ) : Type 0 where
  from : i ≤ r
  to : r ≤ i + n
  here : r < i + n → f r ≡ true
  none : (j : ℕ) → i ≤ j → j < r → f j ≡ false

-- r is the first number below n that passes f, or n if none does
pub record FirstBelow (f : ℕ → Bool) (n r : ℕ) : Type 0 where
  pub to : r ≤ n
  pub here : r < n → f r ≡ true
  pub none : (j : ℕ) → j < r → f j ≡ false

module _ (f : ℕ → Bool) where
  first_from_lem : (n i : ℕ) → FirstFrom f n i (first_from n i f)
  unfolding first_from
  first_from_lem zero i = record { from = le_refl i; to = omega arith; here = λ h. absurd (omega arith); none = λ j h l. absurd (omega arith) }
  first_from_lem (suc n) i = go (first_from_lem n (i + 1)) (f i) refl
    where
      go : FirstFrom f n (i + 1) (first_from n (i + 1) f) → (t : Bool) → f i ≡ t → FirstFrom f (suc n) i (elim t as (λ _. ℕ) [ true ↦ i | false ↦ first_from n (i + 1) f ])
      go ih true e = record { from = le_refl i; to = omega arith; here = λ h. e; none = λ j h l. absurd (omega arith) }
      go ih false e = record { from = omega (arith, ih.from); to = omega (arith, ih.to); here = λ h. ih.here (omega arith); none = λ j h l. before j h l (ℕ_discrete j i) }
        where
          before : (j : ℕ) → i ≤ j → j < first_from n (i + 1) f → Dec (j ≡ i) → f j ≡ false
          before j h l (yes s) = rw s e
          before j h l (no g) = ih.none j (omega arith) l

  pub first_below_lem : (n : ℕ) → FirstBelow f n (first_below n f)
  unfolding first_below
  first_below_lem n =
      let r = first_from_lem n 0 in
      record { to = omega (arith, r.to); here = λ h. r.here (omega arith); none = λ j l. r.none j (omega arith) l }

  module _ (n : ℕ) where
    not_before : (r t : ℕ) → FirstBelow f n r → FirstBelow f n t → ¬ (r < t)
    not_before r t a c h = true≢false (sym (a.here (omega (arith, c.to))) ∙ c.none r h)

    pub one_first : (r t : ℕ) → FirstBelow f n r → FirstBelow f n t → r ≡ t
    one_first r t a c =
        let not-less = not_before r t a c in
        let not_more = not_before t r c a in
        omega arith

    -- some number below n passes exactly when the first is below n
    pub first_some : first_below n f < n → any_below n f ≡ true
    first_some h = (any_true n f).1 (first_below n f, h, (first_below_lem n).here h)

    pub first_none : n ≤ first_below n f → any_below n f ≡ false
    first_none h = (any_false n f).1 (λ i l. (first_below_lem n).none i (omega arith))

    pub some_first : any_below n f ≡ true → first_below n f < n
    some_first e = go (dec_lt (first_below n f) n)
      where
        go : Dec (first_below n f < n) → first_below n f < n
        go (yes h) = h
        go (no h) = absurd (true≢false (sym e ∙ first_none (omega arith)))

    pub first_past_bound : any_below n f ≡ false → n ≡ first_below n f
    first_past_bound e = one_first n (first_below n f) (record { to = le_refl n; here = λ h. absurd (omega arith); none = (any_false n f).0 e }) (first_below_lem n)

-- ---- the first from i on, or none

-- r is the first of the numbers from i up to n - 1 that passes f: none before it does
pub record First (f : ℕ → Bool) (i n r : ℕ) : Type 0 where
  pub from : i ≤ r
  pub to : r < n
  pub here : f r ≡ true
  pub none_before : (j : ℕ) → i ≤ j → j < r → f j ≡ false

-- none of these numbers passes
pub record NoneFrom (f : ℕ → Bool) (i n : ℕ) : Type 0 where
  pub none : (j : ℕ) → i ≤ j → j < n → f j ≡ false

-- an answer that gives the first, and none only if there is none
unfoldable pub FirstOf : (ℕ → Bool) → ℕ → ℕ → Option ℕ → Type 0
FirstOf f i n (Some r) = First f i n r
FirstOf f i n None = NoneFrom f i n

module _ (f : ℕ → Bool) (i n : ℕ) where
  not_sooner : (r t : ℕ) → First f i n r → First f i n t → ¬ (r < t)
  not_sooner r t a c h = true≢false (sym a.here ∙ c.none_before r a.from h)

  -- there is only one such answer
  pub one_answer : (o q : Option ℕ) → FirstOf f i n o → FirstOf f i n q → o ≡ q
  unfolding FirstOf
  one_answer (Some r) (Some t) a c =
      let not-less = not_sooner r t a c in
      let not_more = not_sooner t r c a in
      let same : r ≡ t = omega arith in
      ap Some same
  one_answer (Some r) None a c = absurd (true≢false (sym a.here ∙ c.none r a.from a.to))
  one_answer None (Some t) a c = absurd (true≢false (sym c.here ∙ a.none t c.from c.to))
  one_answer None None a c = refl

  -- a test with the same outcomes has the same answer
  pub first_same : (g : ℕ → Bool) → ((j : ℕ) → f j ≡ g j) → (o : Option ℕ) → FirstOf f i n o → FirstOf g i n o
  unfolding FirstOf
  first_same g e (Some r) a = record { from = a.from; to = a.to; here = sym (e r) ∙ a.here; none_before = λ j h l. sym (e j) ∙ a.none_before j h l }
  first_same g e None a = record { none = λ j h l. sym (e j) ∙ a.none j h l }

  -- from k on, if none of the numbers before k passes
  pub none_join : (k : ℕ) → NoneFrom f i k → NoneFrom f k n → NoneFrom f i n
  none_join k a c = record { none = λ j h l. go j h l (dec_lt j k) }
    where
      go : (j : ℕ) → i ≤ j → j < n → Dec (j < k) → f j ≡ false
      go j h l (yes b) = a.none j h b
      go j h l (no b) = c.none j (omega arith) l

pub first_lower : (f : ℕ → Bool) (i n k : ℕ) (o : Option ℕ) → i ≤ k → NoneFrom f i k → FirstOf f k n o → FirstOf f i n o
unfolding FirstOf
first_lower f i n k (Some r) h a c = record { from = omega (arith, c.from); to = c.to; here = c.here; none_before = (none_join f i r k a (record { none = c.none_before })).none }
first_lower f i n k None h a c = none_join f i n k a c
