-- The set of a list of pairs in ascending order of their keys.
use Rattle.std.specs.Prelude.{ℕ, ◌≡◌, refl, ◌↔◌, Option, Some, None}
use Rattle.std.proofs.Math.Decide.{ℕ_discrete}
use Rattle.std.proofs.Common.{sym, ap, ap₂, ◌∙◌, ⊎_elim}
use mathlib.Core.List.Memᴰ
use mathlib.Core.List.{List, [], ◌∷◌, List-discrete, Memᴰ}
use Rattle.lxtr_spec.specs.Labels.{comes_before, Pair}
use Rattle.lxtr_spec.specs.Sets.{PairSet, Has}
use Rattle.lxtr_laws.specs.KeyOrder.{before_self}
use Rattle.lxtr_laws.specs.StepFacts.{none_not_some}
use Rattle.lxtr_build_laws.specs.KeyListFacts.{Ascending}

-- this value if the keys are the same
value_if : {k l : List ℕ} → Dec (k ≡ l) → ℕ → Option ℕ → Option ℕ
value_if (yes e) v later = Some v
value_if (no n) v later = later

unfoldable pub set_of : List Pair → PairSet
unfolding value_if
set_of [] k = None
set_of (p ∷ ps) k = value_if (List-discrete ℕ_discrete p.0 k) p.1 (set_of ps k)

some_injective : (u v : ℕ) → ◌≡◌ {A = Option ℕ} (Some u) (Some v) → u ≡ v
some_injective u v e = cc

set_mem : (ps : List Pair) (k : List ℕ) (v : ℕ) → Has (set_of ps) k v → Memᴰ (k, v) ps
unfolding set_of value_if
set_mem [] k v e = absurd (none_not_some e)
set_mem (p ∷ ps) k v e = go (set_mem ps k v) (List-discrete ℕ_discrete p.0 k) e
  where
    go : (Has (set_of ps) k v → Memᴰ (k, v) ps) → (o : Dec (p.0 ≡ k)) → value_if o p.1 (set_of ps k) ≡ Some v → Memᴰ (k, v) (p ∷ ps)
    go ih (yes q) e = Memᴰ.head (ap₂ {C = Pair} (λ (l : List ℕ) (u : ℕ). (l, u)) (sym q) (sym (some_injective p.1 v e)))
    go ih (no n) e = Memᴰ.tail (ih e)

set_has : (ps : List Pair) → Ascending ps → (k : List ℕ) (v : ℕ) → Memᴰ (k, v) ps → Has (set_of ps) k v
unfolding set_of value_if Ascending
set_has [] a k v m = absurd (Memᴰ.not-nil m)
set_has (p ∷ ps) a k v m = go (set_has ps a.1 k v) (List-discrete ℕ_discrete p.0 k)
  where
    go : (Memᴰ (k, v) ps → Has (set_of ps) k v) → (o : Dec (p.0 ≡ k)) → value_if o p.1 (set_of ps k) ≡ Some v
    go ih (yes q) = ⊎_elim (λ (e : (k, v) ≡ p). ap (λ (r : Pair). Some r.1) (sym e))
        (λ n. absurd (before_self k (ap (λ (l : List ℕ). comes_before l k) (sym q) ∙ a.0 (k, v) n))) (Memᴰ.cases_cons m)
    go ih (no n) = ⊎_elim (λ (e : (k, v) ≡ p). absurd (n (ap (λ (r : Pair). r.0) (sym e)))) ih (Memᴰ.cases_cons m)

pub set_members : (ps : List Pair) → Ascending ps → (k : List ℕ) (v : ℕ) → Has (set_of ps) k v ↔ Memᴰ (k, v) ps
set_members ps a k v = (set_mem ps k v, set_has ps a k v)

-- an empty set has no pairs
pub set_empty : (ps : List Pair) → Ascending ps → ((k : List ℕ) → set_of ps k ≡ None) → ps ≡ []
set_empty [] a h = refl
set_empty (p ∷ ps) a h = absurd (none_not_some (sym (h p.0) ∙ set_has (p ∷ ps) a p.0 p.1 (Memᴰ.head refl)))
