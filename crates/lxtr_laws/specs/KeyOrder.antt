-- The order of keys, label by label: it is strict, and a common prefix of two lists does not count.
use Rattle.std.specs.Prelude.{ℕ, ◌<◌, ◌≡◌, refl, ◌↔◌, ◌⊎◌, List, [], ◌∷◌, ◌++◌, true, ◌&&◌, ltb, eqb}
use Rattle.std.proofs.Common.{sym, ap, ◌∙◌, inl, inr, append-nil, le_refl, arith, le-ltb, eq-eqb}
use Rattle.std.proofs.lemmas.Bool.{false≢true}
use Rattle.lxtr_spec.specs.Labels.{comes_before}
use Rattle.lxtr_laws.specs.Tests.{or_is_true, and_is_true, ltb_is_true, eqb_is_true}

-- the first labels decide; if they are equal, the rest does
pub first_or_rest : (x y : ℕ) (k l : List ℕ) → (comes_before (x ∷ k) (y ∷ l) ≡ true) ↔ ((x < y) ⊎ ((x ≡ y) × (comes_before k l ≡ true)))
unfolding comes_before
first_or_rest x y k l = simp or_is_true (forth, back)
  where
    forth : (ltb x y ≡ true) ⊎ ((eqb x y && comes_before k l) ≡ true) → (x < y) ⊎ ((x ≡ y) × (comes_before k l ≡ true))
    forth (inl e) = inl ((ltb_is_true x y).0 e)
    forth (inr e) = let p = (and_is_true (eqb x y) (comes_before k l)).0 e in inr ((eqb_is_true x y).0 p.0, p.1)

    back : (x < y) ⊎ ((x ≡ y) × (comes_before k l ≡ true)) → (ltb x y ≡ true) ⊎ ((eqb x y && comes_before k l) ≡ true)
    back (inl h) = inl ((ltb_is_true x y).1 h)
    back (inr p) = inr ((and_is_true (eqb x y) (comes_before k l)).1 ((eqb_is_true x y).1 p.0, p.1))

-- a common prefix does not count
pub before_common : (k u w : List ℕ) → comes_before (k ++ u) (k ++ w) ≡ comes_before u w
unfolding comes_before
before_common [] u w = refl
before_common (x ∷ k) u w = rw (le-ltb x x (le_refl x), eq-eqb x x refl) (before_common k u w)

pub before_self : (k : List ℕ) → comes_before k k ≡ true → ⊥
unfolding comes_before
before_self k e = false≢true (sym (before_common k [] []) ∙ ap (λ (l : List ℕ). comes_before l l) (append-nil k) ∙ e)

pub before_trans : (k l m : List ℕ) → comes_before k l ≡ true → comes_before l m ≡ true → comes_before k m ≡ true
unfolding comes_before
before_trans [] [] m s t = absurd (false≢true s)
before_trans [] (y ∷ l) [] s t = absurd (false≢true t)
before_trans [] (y ∷ l) (z ∷ m) s t = refl
before_trans (x ∷ k) [] m s t = absurd (false≢true s)
before_trans (x ∷ k) (y ∷ l) [] s t = absurd (false≢true t)
before_trans (x ∷ k) (y ∷ l) (z ∷ m) s t = (first_or_rest x z k m).1 (go (before_trans k l m) ((first_or_rest x y k l).0 s) ((first_or_rest y z l m).0 t))
  where
    go : (comes_before k l ≡ true → comes_before l m ≡ true → comes_before k m ≡ true)
        → (x < y) ⊎ ((x ≡ y) × (comes_before k l ≡ true)) → (y < z) ⊎ ((y ≡ z) × (comes_before l m ≡ true)) → (x < z) ⊎ ((x ≡ z) × (comes_before k m ≡ true))
    go ih (inl p) (inl q) = inl (omega arith)
    go ih (inl p) (inr q) = inl (omega arith)
    go ih (inr p) (inl q) = inl (omega arith)
    go ih (inr p) (inr q) = inr (p.0 ∙ q.0, ih p.1 q.1)
