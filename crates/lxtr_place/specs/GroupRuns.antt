-- In an ascending group the keys that continue with the same label are together, and only the first key may be used up.
use Prim.Native.Nat.{ℕ, suc, ◌<◌}
use Rattle.std.specs.Prelude.{◌≡◌, Bool, eqb, take, drop}
use Rattle.std.proofs.Math.Path.{refl, ap}
use Rattle.std.proofs.Common.{sym, ◌∙◌, ⊎_elim, arith, eqb-true, ne_eqb}
use mathlib.Core.List.{List, [], ◌∷◌, Memᴰ}
use Rattle.std.proofs.Math.Bool.{true, false}
use Rattle.std.proofs.lemmas.Bool.{false≢true, eqb-false}
use Rattle.lxtr_spec.specs.Labels.{comes_before, Pair}
use Rattle.lxtr_spec.specs.Placing.{below, end_value}
use Rattle.lxtr_laws.specs.Tests.{ltb_is_true, ltb_is_false}
use Rattle.lxtr_laws.specs.KeyOrder.{first_or_rest}
use Rattle.lxtr_build_laws.specs.KeyListFacts.{Ascending}
use Rattle.lxtr_place.specs.GroupRanges.{goes_by, is_under, run_of}

-- what is left of the keys after one more label
unfoldable pub tails : List Pair → List Pair
tails [] = []
tails (p ∷ g) = (drop 1 p.0, p.1) ∷ tails g

-- ---- one pair

module _ (x : ℕ) (p : Pair) (g : List Pair) where
  abbrev then : List ℕ → List Pair
  then k = elim k as (λ _. List Pair) [ [] ↦ below x g | y ∷ r ↦ elim (eqb y x) as (λ _. List Pair) [ true ↦ (r, p.1) ∷ below x g | false ↦ below x g ] ]

  below_by : goes_by x p.0 ≡ true → below x (p ∷ g) ≡ (drop 1 p.0, p.1) ∷ below x g
  unfolding below goes_by
  below_by h = go p.0 h
    where
      go : (k : List ℕ) → goes_by x k ≡ true → then k ≡ (drop 1 k, p.1) ∷ below x g
      go [] h = absurd (false≢true h)
      go (y ∷ r) h = ap (λ (t : Bool). elim t as (λ _. List Pair) [ true ↦ (r, p.1) ∷ below x g | false ↦ below x g ]) h

  pub below_past : goes_by x p.0 ≡ false → below x (p ∷ g) ≡ below x g
  unfolding below goes_by
  below_past h = go p.0 h
    where
      go : (k : List ℕ) → goes_by x k ≡ false → then k ≡ below x g
      go [] h = refl
      go (y ∷ r) h = ap (λ (t : Bool). elim t as (λ _. List Pair) [ true ↦ (r, p.1) ∷ below x g | false ↦ below x g ]) h

  pub run_by : goes_by x p.0 ≡ true → run_of x (p ∷ g) ≡ suc (run_of x g)
  unfolding run_of
  run_by h = ap (λ (t : Bool). elim t as (λ _. ℕ) [ true ↦ suc (run_of x g) | false ↦ 0 ]) h

  pub run_past : goes_by x p.0 ≡ false → run_of x (p ∷ g) ≡ 0
  unfolding run_of
  run_past h = ap (λ (t : Bool). elim t as (λ _. ℕ) [ true ↦ suc (run_of x g) | false ↦ 0 ]) h

-- ---- after the run

-- a list that begins with a label above x
unfoldable Past : ℕ → List ℕ → Type 0
Past x [] = ⊥
Past x (y ∷ r) = x < y

not_by : (x : ℕ) (k : List ℕ) → Past x k → goes_by x k ≡ false
unfolding Past goes_by
not_by x [] h = absurd h
not_by x (y ∷ r) h = ne_eqb y x (λ e. omega arith)

-- what comes after something past x is past x too; and so is what comes after x ∷ r and does not begin with x
past_after : (x : ℕ) (k l : List ℕ) → Past x l → comes_before l k ≡ true → Past x k
unfolding Past comes_before
past_after x k [] h a = absurd h
past_after x [] (y ∷ l) h a = absurd (false≢true a)
past_after x (z ∷ k) (y ∷ l) h a = ⊎_elim (λ (q : y < z). omega arith) (λ q. omega (arith, q.0)) ((first_or_rest y z l k).0 a)

past_run : (x : ℕ) (k r : List ℕ) → comes_before (x ∷ r) k ≡ true → goes_by x k ≡ false → Past x k
unfolding Past comes_before goes_by
past_run x [] r a n = absurd (false≢true a)
past_run x (z ∷ k) r a n = ⊎_elim (λ (q : x < z). q) (λ q. absurd (eqb-false z x n (sym q.0))) ((first_or_rest x z r k).0 a)

no_more : (x : ℕ) (g : List Pair) → ((q : Pair) → Memᴰ q g → goes_by x q.0 ≡ false) → below x g ≡ []
unfolding below
no_more x [] h = refl
no_more x (p ∷ g) h = below_past x p g (h p (Memᴰ.head refl)) ∙ no_more x g (λ q m. h q (Memᴰ.tail m))

-- ---- the run

run_below : (x : ℕ) (r : List ℕ) (g : List Pair) → Ascending g → ((q : Pair) → Memᴰ q g → comes_before (x ∷ r) q.0 ≡ true) → below x g ≡ tails (take (run_of x g) g)
unfolding Ascending tails below run_of
run_below x r [] a h = refl
run_below x r (p ∷ g) a h = go (run_below x r g a.1 (λ q m. h q (Memᴰ.tail m))) (goes_by x p.0) refl
  where
    go : below x g ≡ tails (take (run_of x g) g) → (t : Bool) → goes_by x p.0 ≡ t → below x (p ∷ g) ≡ tails (take (run_of x (p ∷ g)) (p ∷ g))
    go rest true e = below_by x p g e ∙ ap (λ (l : List Pair). (drop 1 p.0, p.1) ∷ l) rest ∙ ap (λ (n : ℕ). tails (take n (p ∷ g))) (sym (run_by x p g e))
    go rest false e =
        let here = past_run x p.0 r (h p (Memᴰ.head refl)) e in
        below_past x p g e ∙ no_more x g (λ q m. not_by x q.0 (past_after x q.0 p.0 here (a.0 q m))) ∙ ap (λ (n : ℕ). tails (take n (p ∷ g))) (sym (run_past x p g e))

begins : (x : ℕ) (k : List ℕ) → goes_by x k ≡ true → k ≡ x ∷ drop 1 k
unfolding goes_by
begins x [] e = absurd (false≢true e)
begins x (y ∷ r) e = ap (λ (z : ℕ). z ∷ r) (eqb-true y x e)

-- ---- before the run

pub under_past : (x : ℕ) (k : List ℕ) → is_under x k ≡ true → goes_by x k ≡ false
unfolding is_under goes_by
under_past x [] u = refl
under_past x (y ∷ r) u = ne_eqb y x (λ e. omega (arith, (ltb_is_true y x).0 u))

-- what comes before something under x does not continue with x
pub under_before : (x : ℕ) (k l : List ℕ) → is_under x l ≡ true → comes_before k l ≡ true → goes_by x k ≡ false
unfolding is_under goes_by comes_before
under_before x [] l u a = refl
under_before x (y ∷ r) [] u a = absurd (false≢true a)
under_before x (y ∷ r) (z ∷ s) u a = ne_eqb y x (λ e. let l = (ltb_is_true z x).0 u in ⊎_elim (λ (q : y < z). omega arith) (λ q. omega (arith, q.0)) ((first_or_rest y z r s).0 a))

not_under : (x : ℕ) (k : List ℕ) → is_under x k ≡ false → goes_by x k ≡ false → Past x k
unfolding is_under goes_by Past
not_under x [] u n = absurd (false≢true (sym u))
not_under x (y ∷ r) u n = let l = (ltb_is_false y x).0 u in let o = eqb-false y x n in omega arith

-- if the first key is not under x, the run has all keys that continue with x
pub front_below : (x : ℕ) (p : Pair) (g : List Pair) → Ascending (p ∷ g) → is_under x p.0 ≡ false → below x (p ∷ g) ≡ tails (take (run_of x (p ∷ g)) (p ∷ g))
unfolding Ascending tails
front_below x p g a u = go (goes_by x p.0) refl
  where
    go : (t : Bool) → goes_by x p.0 ≡ t → below x (p ∷ g) ≡ tails (take (run_of x (p ∷ g)) (p ∷ g))
    go true e =
        below_by x p g e
        ∙ ap (λ (l : List Pair). (drop 1 p.0, p.1) ∷ l) (run_below x (drop 1 p.0) g a.1 (λ q m. ap (λ (k : List ℕ). comes_before k q.0) (sym (begins x p.0 e)) ∙ a.0 q m))
        ∙ ap (λ (n : ℕ). tails (take n (p ∷ g))) (sym (run_by x p g e))
    go false e =
        below_past x p g e ∙ no_more x g (λ q m. not_by x q.0 (past_after x q.0 p.0 (not_under x p.0 u e) (a.0 q m))) ∙ ap (λ (n : ℕ). tails (take n (p ∷ g))) (sym (run_past x p g e))

-- ---- the end

-- no key of the group is used up
none_ends : (g : List Pair) → ((q : Pair) → Memᴰ q g → q.0 ≡ [] → ⊥) → end_value g ≡ 0
unfolding end_value
none_ends [] h = refl
none_ends (p ∷ g) h = go (none_ends g (λ q m. h q (Memᴰ.tail m))) p.0 (h p (Memᴰ.head refl))
  where
    go : end_value g ≡ 0 → (k : List ℕ) → (k ≡ [] → ⊥) → ◌≡◌ {A = ℕ} (elim k as (λ _. ℕ) [ [] ↦ p.1 | x ∷ r ↦ end_value g ]) 0
    go rest [] n = absurd (n refl)
    go rest (x ∷ r) n = rest

pub end_none : (x : ℕ) (r : List ℕ) (i : ℕ) (g : List Pair) → Ascending ((x ∷ r, i) ∷ g) → end_value ((x ∷ r, i) ∷ g) ≡ 0
unfolding end_value Ascending comes_before
end_none x r i g a = none_ends g (λ q m e. false≢true (sym (ap (comes_before (x ∷ r)) e) ∙ a.0 q m))
