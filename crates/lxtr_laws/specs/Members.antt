-- The members of a list by their places: each member has one, and in a sorted list it comes before the members at later places.
-- So a list of the numbers that pass a test, each once, is as long as their count.
use Prim.Native.Nat.{ℕ, zero, suc, ◌<◌}
use Rattle.std.proofs.Common.{not-suc-le-zero, arith, sym, inl, inr}
use Rattle.std.specs.Prelude.{◌≡◌, refl, ◌≢◌, ◌⊎◌, Bool, true, get_or, length}
use mathlib.Core.List.Memᴰ
use mathlib.Core.List.{List, [], ◌∷◌, Memᴰ}
use Rattle.lxtr_spec.specs.Ranges.{count_below}
use Rattle.lxtr_laws.specs.Bijections.{count_of_lem}
use Rattle.lxtr_laws.specs.Sorted.{Sorted}

-- z is the default for places past the end
module _ {A : Type 0} (z : A) where
  pub member_at : (l : List A) (i : ℕ) → i < length l → Memᴰ (get_or l i z) l
  member_at [] i h = absurd (not-suc-le-zero h)
  member_at (x ∷ l) zero h = Memᴰ.head refl
  member_at (x ∷ l) (suc i) h = Memᴰ.tail (member_at l i (omega arith))

  pub place_of_lem : (l : List A) (x : A) → Memᴰ x l → (i : ℕ) × (i < length l) × (get_or l i z ≡ x)
  place_of_lem [] x m = absurd (Memᴰ.not-nil m)
  place_of_lem (y ∷ l) x m = go (place_of_lem l x) (Memᴰ.cases_cons m)
    where
      go : (Memᴰ x l → (i : ℕ) × (i < length l) × (get_or l i z ≡ x)) → (x ≡ y) ⊎ Memᴰ x l → (i : ℕ) × (i < suc (length l)) × (get_or (y ∷ l) i z ≡ x)
      go ih (inl e) = (zero, omega arith, sym e)
      go ih (inr n) = let q = ih n in (suc q.0, omega arith, q.2)

  pub sorted_at : (R : A → A → Type 0) (l : List A) → Sorted R l → (i j : ℕ) → i < j → j < length l → R (get_or l i z) (get_or l j z)
  unfolding Sorted
  sorted_at R [] s i j h k = absurd (not-suc-le-zero k)
  sorted_at R (x ∷ l) s i zero h k = absurd (not-suc-le-zero h)
  sorted_at R (x ∷ l) s zero (suc j) h k = s.0 (get_or l j z) (member_at l j (omega arith))
  sorted_at R (x ∷ l) s (suc i) (suc j) h k = sorted_at R l s.1 i j (omega arith) (omega arith)

  -- no member has two places
  pub one_place : (l : List A) → Sorted ◌≢◌ l → (i j : ℕ) → i < length l → j < length l → get_or l i z ≡ get_or l j z → i ≡ j
  one_place l s i j h k e =
      let not-less : ¬ (i < j) = λ u. sorted_at ◌≢◌ l s i j u k e in
      let not_more : ¬ (j < i) = λ u. sorted_at ◌≢◌ l s j i u h (sym e) in
      omega arith

pub members_counted : (l : List ℕ) (n : ℕ) (f : ℕ → Bool) → Sorted ◌≢◌ l → ((t : ℕ) → Memᴰ t l → (t < n) × (f t ≡ true)) → ((t : ℕ) → t < n → f t ≡ true → Memᴰ t l)
    → length l ≡ count_below n f
members_counted l n f s only all = sym (count_of_lem (length l) n f (λ i. get_or l i 0) (record {
  lands = λ i h. only (get_or l i 0) (member_at 0 l i h);
  injective = one_place 0 l s;
  surjective = λ t h e. place_of_lem 0 l t (all t h e);
}))
