-- The groups below a group: which keys they have, in which order, and with which codes.
use Rattle.std.specs.Prelude.{ℕ, ◌≤◌, ◌≡◌, refl, Bool, true, false, eqb}
use Rattle.std.proofs.Common.{sym, ap, ◌∙◌, ⊎_elim, eqb-true}
use mathlib.Core.List.Memᴰ
use mathlib.Core.List.{List, [], ◌∷◌, Memᴰ}
use Rattle.lxtr_spec.specs.Labels.{comes_before, Pair}
use Rattle.lxtr_spec.specs.Placing.{below}
use Rattle.lxtr_laws.specs.KeyOrder.{before_common}
use Rattle.lxtr_build_laws.specs.KeyListFacts.{Ascending}

-- the pair of g that a pair below comes from
pub record Above (x : ℕ) (g : List Pair) (q : Pair) : Type 0 where
  pub whole : Pair
  pub is_in : Memᴰ whole g
  pub is : whole.0 ≡ x ∷ q.0
  pub value : whole.1 ≡ q.1

higher : (x : ℕ) (p : Pair) (g : List Pair) (q : Pair) → Above x g q → Above x (p ∷ g) q
higher x p g q a = record { whole = a.whole; is_in = Memᴰ.tail a.is_in; is = a.is; value = a.value }

pub below_mem : (x : ℕ) (g : List Pair) (q : Pair) → Memᴰ q (below x g) → Above x g q
unfolding below
below_mem x [] q m = absurd (Memᴰ.not-nil m)
below_mem x (p ∷ g) q m = go (below_mem x g q) p.0 refl m
  where
    then : (Memᴰ q (below x g) → Above x g q) → (y : ℕ) (r : List ℕ) → p.0 ≡ y ∷ r → (t : Bool) → eqb y x ≡ t
        → Memᴰ q (elim t as (λ _. List Pair) [ true ↦ (r, p.1) ∷ below x g | false ↦ below x g ]) → Above x (p ∷ g) q
    then rest y r e true h m = ⊎_elim
        (λ (z : q ≡ (r, p.1)). record { whole = p; is_in = Memᴰ.head refl; is = e ∙ ap (λ (k : ℕ). k ∷ r) (eqb-true y x h) ∙ ap (λ (k : Pair). x ∷ k.0) (sym z); value = ap (λ (k : Pair). k.1) (sym z) })
        (λ n. higher x p g q (rest n)) (Memᴰ.cases_cons m)
    then rest y r e false h m = higher x p g q (rest m)

    go : (Memᴰ q (below x g) → Above x g q) → (k : List ℕ) → p.0 ≡ k
        → Memᴰ q (elim k as (λ _. List Pair) [ [] ↦ below x g | y ∷ r ↦ elim (eqb y x) as (λ _. List Pair) [ true ↦ (r, p.1) ∷ below x g | false ↦ below x g ] ]) → Above x (p ∷ g) q
    go rest [] e m = higher x p g q (rest m)
    go rest (y ∷ r) e m = then rest y r e (eqb y x) refl m

pub ascending_below : (x : ℕ) (g : List Pair) → Ascending g → Ascending (below x g)
unfolding below Ascending
ascending_below x [] h = tt
ascending_below x (p ∷ g) h = go (ascending_below x g h.1) p.0 refl
  where
    then : Ascending (below x g) → (y : ℕ) (r : List ℕ) → p.0 ≡ y ∷ r → (t : Bool) → eqb y x ≡ t → Ascending (elim t as (λ _. List Pair) [ true ↦ (r, p.1) ∷ below x g | false ↦ below x g ])
    then rest y r e true k = (
      (λ q m.
          let a = below_mem x g q m in
          let same : p.0 ≡ x ∷ r = e ∙ ap (λ (z : ℕ). z ∷ r) (eqb-true y x k) in
          sym (before_common (x ∷ []) r q.0) ∙ ap (comes_before (x ∷ r)) (sym a.is) ∙ ap (λ (l : List ℕ). comes_before l a.whole.0) (sym same) ∙ h.0 a.whole a.is_in),
      rest,
    )
    then rest y r e false k = rest

    go : Ascending (below x g) → (k : List ℕ) → p.0 ≡ k
        → Ascending (elim k as (λ _. List Pair) [ [] ↦ below x g | y ∷ r ↦ elim (eqb y x) as (λ _. List Pair) [ true ↦ (r, p.1) ∷ below x g | false ↦ below x g ] ])
    go rest [] e = rest
    go rest (y ∷ r) e = then rest y r e (eqb y x) refl

-- ---- codes of the labels that are left

-- each label that is left has a code from 1 to n
unfoldable pub CodesIn : (ℕ → ℕ) → ℕ → List Pair → Type 0
CodesIn code n g = (p : Pair) → Memᴰ p g → (x : ℕ) → Memᴰ x p.0 → (1 ≤ code x) × (code x ≤ n)

-- a label that is left in a group below is left in the group
pub below_label : (x : ℕ) (g : List Pair) (q : Pair) (m : Memᴰ q (below x g)) (y : ℕ) → Memᴰ y q.0 → Memᴰ y (below_mem x g q m).whole.0
below_label x g q m y k = rw (below_mem x g q m).is (Memᴰ.tail k)

pub codes_below : (code : ℕ → ℕ) (n x : ℕ) (g : List Pair) → CodesIn code n g → CodesIn code n (below x g)
unfolding CodesIn
codes_below code n x g h q m y k = let a = below_mem x g q m in h a.whole a.is_in y (below_label x g q m y k)
