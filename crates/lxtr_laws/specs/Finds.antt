-- What `find` and `any` answer over the numbers below a bound, with a closure that computes a test.
use Rattle.std.specs.Prelude.{ℕ, zero, suc, ◌+◌, ◌≡◌, refl, List, Bool, true, false, ◌||◌, Option, MatchOption}
use Rattle.std.proofs.Common.{sym, ap, ◌∙◌, arith, add-zero, zero-add}
use Rattle.std.proofs.Math.Bool.{or-false}
use Rattle.std.proofs.iter.Yields.{nat_range_steps}
use Rattle.std.proofs.lemmas.Iterator.{YieldsList-from_range, first_from_Range}
use Rattle.std.proofs.lemmas.Iterator.Search.{any_from_yields_List}
use Rattle.std.specs.Bool.{⊤}
use Rattle.std.specs.Fn.{Called, CalledAt}
use Rattle.std.specs.Iterator.{YieldsThen}
use Rattle.std.specs.List.{FoldsTo, list_any, range_with_len}
use denote.Param.Members.{Mut}
use denote.Ref.{Bor}
use Rattle.lxtr_spec.specs.Ranges.{any_below}
use Rattle.lxtr_laws.specs.FirstPlaces.{first_in, found}

-- r is the answer of `find`, p the closure, and f the test
pub found_by : {F : Type 0} {g : Mut F (Bor ℕ × Unit {0}) Bool} (n : ℕ) (f : ℕ → Bool) (u : _) (p : F) (r : Option ℕ)
    → (xs : List ℕ) × (j : F) × YieldsThen nat_range_steps (record { start = 0; end = n }) xs r u × FoldsTo (λ p x q. CalledAt g p x false q) p xs j × MatchOption r ⊤ (λ x. (h : F) × CalledAt g j x true h)
    → ((x : ℕ) (b : Bool) (q : F) → CalledAt g p x b q → (q ≡ p) × (b ≡ f x)) → r ≡ first_in n f
found_by n f u p r ran calls =
    found n f r
    (first_from_Range _ u p r (λ x. f x ≡ true) (λ x. f x ≡ false) ran
    (λ x q k. sym (calls x true q k).1)
    (λ x q k. ((calls x false q k).0, sym (calls x false q k).1)))

-- the test of 0 first, then the others
any_first : (n : ℕ) (f : ℕ → Bool) → any_below (suc n) f ≡ (f 0 || any_below n (λ k. f (suc k)))
unfolding any_below
any_first zero f = sym (or-false (f 0))
any_first (suc n) f = ap (λ b. b || f (suc n)) (any_first n f) ∙ assoc (f 0) (any_below n (λ k. f (suc k))) (f (suc n))
  where
    assoc : (a b c : Bool) → ((a || b) || c) ≡ (a || (b || c))
    assoc true b c = refl
    assoc false b c = refl

-- the numbers of a list, from i up
any_listed : (f g : ℕ → Bool) (n i : ℕ) → ((k : ℕ) → f (i + k) ≡ g k) → list_any f (range_with_len i n) ≡ any_below n g
unfolding any_below
any_listed f g zero i h = refl
any_listed f g (suc n) i h =
    let here : f i ≡ g 0 = rw add-zero at (h 0) in
    let rest : list_any f (range_with_len (i + 1) n) ≡ any_below n (λ k. g (suc k)) = any_listed f (λ k. g (suc k)) n (i + 1) (λ k. let e : i + 1 + k ≡ i + suc k = omega arith in rw e (h (suc k))) in
    rw (here, rest) (sym (any_first n g))

-- r is the answer of `any`
pub any_by : {F : Type 0} {g : Mut F (ℕ × Unit {0}) Bool} (n : ℕ) (f : ℕ → Bool) (u : _) (p : F) (r : Bool)
    → (xs : List ℕ) × (o : Option ℕ) × (j : F) × YieldsThen nat_range_steps (record { start = 0; end = n }) xs o u × FoldsTo (λ p x q. Called g p (x, tt) false q) p xs j × MatchOption o (r ≡ false) (λ x. (r ≡ true) × ((h : F) × Called g j (x, tt) true h))
    → ((x : ℕ) (b : Bool) (q : F) → Called g p (x, tt) b q → (q ≡ p) × (b ≡ f x)) → r ≡ any_below n f
any_by n f u p r ran calls = any_from_yields_List f u p r ran (YieldsList-from_range 0 n n refl (omega arith)) calls ∙ any_listed f f n 0 (λ k. ap f (zero-add k))
