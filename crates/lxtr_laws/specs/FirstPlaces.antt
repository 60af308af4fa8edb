-- The first number below a bound that passes a test, if there is one.
use Rattle.std.specs.Prelude.{ℕ, ◌≤◌, ◌<◌, ◌≡◌, Bool, true, false, cond, Option, Some, None, MatchOption}
use Rattle.std.proofs.Common.{arith, refl}
use Rattle.std.specs.Option.{is_some, unwrap_or}
use Rattle.lxtr_spec.specs.Ranges.{any_below, first_below}
use Rattle.lxtr_laws.specs.RangeTests.{any_true, any_false}
use Rattle.lxtr_laws.specs.Firsts.{first_below_lem, first_past_bound, one_first}

unfoldable pub first_in : ℕ → (ℕ → Bool) → Option ℕ
first_in n f = cond (any_below n f) (Some (first_below n f)) None

module _ (n : ℕ) (f : ℕ → Bool) where
  -- what it says of the numbers
  pub some_first_in : (r : ℕ) → Some r ≡ first_in n f → (any_below n f ≡ true) × (r ≡ first_below n f)
  unfolding first_in
  some_first_in r = go (any_below n f)
    where
      go : (t : Bool) → Some r ≡ cond t (Some (first_below n f)) None → (t ≡ true) × (r ≡ first_below n f)
      go true e = ((cc), (cc))
      go false e = absurd (cc)

  pub none_first_in : None ≡ first_in n f → any_below n f ≡ false
  unfolding first_in
  none_first_in = go (any_below n f)
    where
      go : (t : Bool) → None ≡ cond t (Some (first_below n f)) None → t ≡ false
      go true e = absurd (cc)
      go false e = (cc)

  -- whether there is one
  pub some_is_any : is_some (first_in n f) ≡ any_below n f
  unfolding first_in
  some_is_any = go (any_below n f)
    where
      go : (t : Bool) → is_some (cond t (Some (first_below n f)) None) ≡ t
      go true = refl
      go false = refl

  -- r says whether o, the first, is there
  pub some_below : (o : Option ℕ) (r : Bool) → o ≡ first_in n f → r ≡ is_some o → r ≡ any_below n f
  some_below o r e h = rw (h, e) some_is_any

  -- it, or the bound if there is none
  pub first_or_bound : unwrap_or (first_in n f) n ≡ first_below n f
  unfolding first_in
  first_or_bound = go (any_below n f) refl
    where
      go : (t : Bool) → any_below n f ≡ t → unwrap_or (cond t (Some (first_below n f)) None) n ≡ first_below n f
      go true e = refl
      go false e = first_past_bound f n e

  -- which number it is
  pub is_first_in : (r : ℕ) → r < n → f r ≡ true → ((k : ℕ) → k < r → f k ≡ false) → Some r ≡ first_in n f
  unfolding first_in
  is_first_in r h t none =
      let e : r ≡ first_below n f = one_first f n r (first_below n f) (record { to = omega arith; here = λ _. t; none = none }) (first_below_lem f n) in
      rw ((any_true n f).1 (r, h, t), e)

  pub no_first_in : ((k : ℕ) → k < n → f k ≡ false) → None ≡ first_in n f
  unfolding first_in
  no_first_in none = rw ((any_false n f).1 none)

  -- r is what a search of the numbers below n answers
  pub found : (r : Option ℕ) → MatchOption r ((k : ℕ) → 0 ≤ k → k < n → f k ≡ false) (λ i. (0 ≤ i) × (i < n) × (f i ≡ true) × ((k : ℕ) → 0 ≤ k → k < i → f k ≡ false)) → r ≡ first_in n f
  found None h = no_first_in (λ k l. h k (omega arith) l)
  found (Some i) (_, l, t, none) = is_first_in i l t (λ k u. none k (omega arith) u)
