-- Placing looks up only the codes and labels of the group: two ways of looking them up that agree on these place the same.
use Rattle.std.specs.Prelude.{Option, Some, None}
use Prim.Native.Nat.{ℕ, zero, suc}
use Rattle.std.proofs.Math.Path.{◌≡◌, refl, ap}
use Rattle.std.proofs.Common.{sym, ◌∙◌, arith}
use mathlib.Core.List.{List, [], ◌∷◌, Memᴰ}
use Rattle.lxtr_spec.specs.Labels.{Pair}
use Rattle.lxtr_spec.specs.Joining.{slot_under}
use Rattle.lxtr_spec.specs.CodeMaps.{insert}
use Rattle.lxtr_spec.specs.Placing.{next_code, child_codes, below, end_value, settle, into_each, place}
use Rattle.lxtr_build_laws.specs.Groups.{below_mem, below_label}
use Rattle.lxtr_build_laws.specs.ChildCodes.{GoesOn, codes_mem}

each_same : (f f' : ℕ → List ℕ → Option (List ℕ)) (cs w : List ℕ) → ((c : ℕ) → Memᴰ (suc c) cs → (u : List ℕ) → f (suc c) u ≡ f' (suc c) u) → into_each f cs w ≡ into_each f' cs w
unfolding into_each
each_same f f' [] w h = refl
each_same f f' (zero ∷ cs) w h = each_same f f' cs w (λ c m. h c (Memᴰ.tail m))
each_same f f' (suc c ∷ cs) w h = go (λ u. each_same f f' cs u (λ e m. h e (Memᴰ.tail m))) (f (suc c) w) (f' (suc c) w) (h c (Memᴰ.head refl) w)
  where
    go : ((u : List ℕ) → into_each f cs u ≡ into_each f' cs u) → (o o' : Option (List ℕ)) → o ≡ o'
        → ◌≡◌ {A = Option (List ℕ)} (elim o as (λ _. Option (List ℕ)) [ None ↦ None | Some u ↦ into_each f cs u ]) (elim o' as (λ _. Option (List ℕ)) [ None ↦ None | Some u ↦ into_each f' cs u ])
    go ih None o' e = ap (λ (x : Option (List ℕ)). elim x as (λ _. Option (List ℕ)) [ None ↦ None | Some u ↦ into_each f' cs u ]) e
    go ih (Some u) o' e = ih u ∙ ap (λ (x : Option (List ℕ)). elim x as (λ _. Option (List ℕ)) [ None ↦ None | Some v ↦ into_each f' cs v ]) e

module _ (S : ℕ) (code code' label label' : ℕ → ℕ) where
  -- the two ways agree on the labels of a group
  pub record Agree (g : List Pair) : Type 0 where
    pub codes : (p : Pair) → Memᴰ p g → (x : ℕ) → Memᴰ x p.0 → code x ≡ code' x
    pub labels : (p : Pair) → Memᴰ p g → (x : ℕ) → Memᴰ x p.0 → label (code x) ≡ label' (code x)

  agree_below : (y : ℕ) (g : List Pair) → Agree g → Agree (below y g)
  agree_below y g a = record {
    codes = λ p m x k. let w = below_mem y g p m in a.codes w.whole w.is_in x (below_label y g p m x k);
    labels = λ p m x k. let w = below_mem y g p m in a.labels w.whole w.is_in x (below_label y g p m x k);
  }

  next_same : (l : List ℕ) → ((x : ℕ) → Memᴰ x l → code x ≡ code' x) → next_code code l ≡ next_code code' l
  unfolding next_code
  next_same [] h = refl
  next_same (x ∷ l) h = h x (Memᴰ.head refl)

  codes_same : (g : List Pair) (cs : List ℕ) → ((p : Pair) → Memᴰ p g → (x : ℕ) → Memᴰ x p.0 → code x ≡ code' x) → child_codes code g cs ≡ child_codes code' g cs
  unfolding child_codes
  codes_same [] cs h = refl
  codes_same (p ∷ g) cs h =
      ap (λ (c : ℕ). child_codes code g (insert c cs)) (next_same p.0 (h p (Memᴰ.head refl)))
      ∙ codes_same g (insert (next_code code' p.0) cs) (λ q m. h q (Memᴰ.tail m))

  label_same : (g : List Pair) → Agree g → (c : ℕ) → Memᴰ (suc c) (child_codes code g []) → label (suc c) ≡ label' (suc c)
  unfolding next_code
  label_same g a c m = let w = codes_mem code g (suc c) m in go w w.0.0 refl w.2
    where
      go : (w : GoesOn code g (suc c)) (l : List ℕ) → w.0.0 ≡ l → suc c ≡ next_code code w.0.0 → label (suc c) ≡ label' (suc c)
      go w [] e q = absurd (let z = q ∙ ap (next_code code) e in omega arith)
      go w (x ∷ l) e q =
          let is : suc c ≡ code x = q ∙ ap (next_code code) e in
          ap label is ∙ a.labels w.0 w.1 x (rw e (Memᴰ.head refl)) ∙ ap label' (sym is)

  pub place_same : (k p : ℕ) (g : List Pair) (w : List ℕ) → Agree g → place S code label k p g w ≡ place S code' label' k p g w
  unfolding place
  place_same zero p g w a = refl
  place_same (suc k) p g w a =
      step (λ q y u. place_same k q (below y g) u (agree_below y g a)) (settle S p (end_value g) (child_codes code g []) w)
      ∙ ap (λ (cs : List ℕ). elim (settle S p (end_value g) cs w) as (λ _. Option (List ℕ)) [ None ↦ None | Some s ↦ into_each (λ c u. place S code' label' k (slot_under s.0 c) (below (label' c) g) u) cs s.1 ]) (codes_same g [] a.codes)
    where
      step : ((q y : ℕ) (u : List ℕ) → place S code label k q (below y g) u ≡ place S code' label' k q (below y g) u) → (o : Option (ℕ × List ℕ))
          → ◌≡◌ {A = Option (List ℕ)}
          (elim o as (λ _. Option (List ℕ)) [ None ↦ None | Some s ↦ into_each (λ c u. place S code label k (slot_under s.0 c) (below (label c) g) u) (child_codes code g []) s.1 ])
          (elim o as (λ _. Option (List ℕ)) [ None ↦ None | Some s ↦ into_each (λ c u. place S code' label' k (slot_under s.0 c) (below (label' c) g) u) (child_codes code g []) s.1 ])
      step ih None = refl
      step ih (Some s) = each_same (λ c u. place S code label k (slot_under s.0 c) (below (label c) g) u) (λ c u. place S code' label' k (slot_under s.0 c) (below (label' c) g) u) (child_codes code g []) s.1
          (λ c m u. ap (λ (y : ℕ). place S code label k (slot_under s.0 (suc c)) (below y g) u) (label_same g a c m) ∙ ih (slot_under s.0 (suc c)) (label' (suc c)) u)
