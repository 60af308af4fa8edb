-- Placing takes only the slots of its tree.
use Rattle.std.specs.Prelude.{ℕ, zero, suc, ◌≤◌, ◌≡◌, ◌⊎◌, Option, Some, None}
use Rattle.std.proofs.Math.Path.{refl}
use Rattle.std.proofs.Common.{sym, ap, ◌∙◌, subst, ⊎_elim, inl, inr, arith}
use mathlib.Core.List.{List, [], ◌∷◌, Memᴰ}
use Rattle.lxtr_spec.specs.Labels.{Pair}
use Rattle.lxtr_spec.specs.Joining.{slot_under}
use Rattle.lxtr_spec.specs.Placing.{base_at, child_codes, below, end_value, into_each, place}
use Rattle.lxtr_build_laws.specs.CodeTables.{Rising}
use Rattle.lxtr_build_laws.specs.SlotWords.{Free, Taken, free_or_taken}
use Rattle.lxtr_build_laws.specs.PlacingSteps.{Step}
use Rattle.lxtr_build_laws.specs.ChildCodes.{codes_rise}
use Rattle.lxtr_build_laws.specs.SettledSlots.{settle_only}
use Rattle.lxtr_build_laws.specs.Placed.{Inner}
use Rattle.lxtr_build_laws.specs.Nodes.{Plain}
use Rattle.lxtr_build_laws.specs.Trees.{Tree, go_into, later_plain, later_step, later_taken, first_taken, first_other, placed_slot, placed_plain, placed_node, place_tree}

-- t is a slot of the tree of g below s, other than s
unfoldable pub Within : (ℕ → ℕ) → (ℕ → ℕ) → ℕ → List ℕ → ℕ → List Pair → ℕ → Type 0
Within code label zero w s g t = ⊥
Within code label (suc k) w s g t =
    (c : ℕ) × Memᴰ c (child_codes code g []) × ((t ≡ slot_under (base_at w s) c) ⊎ ((1 ≤ c) × Within code label k w (slot_under (base_at w s) c) (below (label c) g) t))

-- a step that leaves the tree as it is leaves its slots where they are
within_kept : (S : ℕ) (code label : ℕ → ℕ) (A : ℕ → Type 0) (w₀ w w' : List ℕ) → Step S A w w' → ((t : ℕ) → A t → Taken w₀ t)
    → (k s : ℕ) (g : List Pair) → Taken w s → (A s → ⊥) → Tree S code label w₀ k w s g → (t : ℕ) → Within code label k w s g t → Within code label k w' s g t
unfolding Tree Within
within_kept S code label A w₀ w w' st h zero s g tk n tr t i = i
within_kept S code label A w₀ w w' st h (suc k) s g tk n tr t i =
    let b = tr.0 in
    let nd = tr.1 in
    let same : base_at w' s ≡ base_at w s = (st.kept s tk n).0 in (
      i.0,
      i.1,
      ⊎_elim (λ (e : t ≡ slot_under (base_at w s) i.0). inl (e ∙ ap (λ (y : ℕ). slot_under y i.0) (sym same)))
          (λ (d : (1 ≤ i.0) × Within code label k w (slot_under (base_at w s) i.0) (below (label i.0) g) t).
          inr (
            d.0,
            subst (λ (y : ℕ). Within code label k w' (slot_under y i.0) (below (label i.0) g) t) (sym (same ∙ nd.base_is))
                (within_kept S code label A w₀ w w' st h k (slot_under b i.0) (below (label i.0) g) (nd.parent_is i.0 i.1).1 (λ a. h (slot_under b i.0) a (nd.new i.0 i.1).0) (tr.2 i.0 i.1 d.0) t
                (subst (λ (y : ℕ). Within code label k w (slot_under y i.0) (below (label i.0) g) t) nd.base_is d.1)),
          ))
          i.2,
    )

-- ---- going into the children takes only the slots of their trees

module _ (S : ℕ) (code label : ℕ → ℕ) (k b : ℕ) (g : List Pair) where
  abbrev WithinChild : ℕ → List ℕ → ℕ → Type 0
  WithinChild c u t = Within code label k u (slot_under b c) (below (label c) g) t

  abbrev WithinSome : List ℕ → List ℕ → ℕ → Type 0
  WithinSome cs u t = (c : ℕ) × Memᴰ c cs × (1 ≤ c) × WithinChild c u t

  into_each_only : (cs x u : List ℕ) → Rising cs → ((c : ℕ) → Memᴰ c cs → Plain S x (slot_under b c))
      → ((c : ℕ) (v y : List ℕ) → Plain S v (slot_under b c) → go_into S code label k b g c v ≡ Some y → (t : ℕ) → Free v t → Taken y t → WithinChild c y t)
      → into_each (go_into S code label k b g) cs x ≡ Some u → (t : ℕ) → Free x t → Taken u t → WithinSome cs u t
  unfolding into_each Rising
  into_each_only [] x u r ready ih e t f h = let q : x ≡ u = cc in absurd (h (subst (λ (y : List ℕ). Free y t) q f))
  into_each_only (zero ∷ cs) x u r ready ih e t f h =
      let a = into_each_only cs x u r.1 (λ d n. ready d (Memᴰ.tail n)) ih e t f h in
      (a.0, Memᴰ.tail a.1, a.2, a.3)
  into_each_only (suc d ∷ cs) x u r ready ih e t f h = go (λ y rd q. into_each_only cs y u r.1 rd ih q t) (go_into S code label k b g (suc d) x) refl e
    where
      here : Plain S x (slot_under b (suc d))
      here = ready (suc d) (Memᴰ.head refl)

      go : ((y : List ℕ) → ((a : ℕ) → Memᴰ a cs → Plain S y (slot_under b a)) → into_each (go_into S code label k b g) cs y ≡ Some u → Free y t → Taken u t → WithinSome cs u t)
          → (o : Option (List ℕ)) → go_into S code label k b g (suc d) x ≡ o
          → (elim o as (λ _. Option (List ℕ)) [ None ↦ None | Some v ↦ into_each (go_into S code label k b g) cs v ]) ≡ Some u → WithinSome (suc d ∷ cs) u t
      go rest None z q = absurd (let o : ◌≡◌ {A = ℕ} 0 1 = cc in omega arith)
      go rest (Some y) z q = ⊎_elim
          (λ (fy : Free y t). let a = rest y (later_plain S code label k b g d cs x y u r ready z q) q fy h in (a.0, Memᴰ.tail a.1, a.2, a.3))
          (λ (hy : Taken y t). (
            suc d,
            Memᴰ.head refl,
            omega arith,
            within_kept S code label (Inner b cs) x y u (later_step S code label k b g d cs x y u r ready z q) (later_taken S code label k b g d cs x y u r ready z q) k (slot_under b (suc d)) (below (label (suc d)) g)
                (first_taken S code label k b g d cs x y u r ready z q) (first_other S code label k b g d cs x y u r ready z q)
                (place_tree S code label k (slot_under b (suc d)) (below (label (suc d)) g) x y here z) t (ih (suc d) x y here z t f hy),
          ))
          (free_or_taken y t)

pub place_only : (S : ℕ) (code label : ℕ → ℕ) (k p : ℕ) (g : List Pair) (w u : List ℕ) → Plain S w p → place S code label k p g w ≡ Some u
    → (t : ℕ) → Free w t → Taken u t → Within code label k u p g t
unfolding Within
place_only S code label zero p g w u r e t f h = unfold place in let q : w ≡ u = cc in h (subst (λ (y : List ℕ). Free y t) q f)
place_only S code label (suc k) p g w u r e t f h =
    let n = placed_slot S code label k p g w u e in
    let base_is : base_at u p ≡ n.base = (placed_node S code label k p g w u r n).base_is in
    ⊎_elim
    (λ (fx : Free n.between t).
    let a = into_each_only S code label k n.base g (child_codes code g []) n.between u (codes_rise code g) (placed_plain S code label k p g w u r n)
    (λ d v y pv ev. place_only S code label k (slot_under n.base d) (below (label d) g) v y pv ev) n.into t fx h in
    (a.0, a.1, inr (a.2, subst (λ (y : ℕ). Within code label k u (slot_under y a.0) (below (label a.0) g) t) (sym base_is) a.3)))
    (λ (hx : Taken n.between t).
    let a = settle_only S p (end_value g) (child_codes code g []) w n.base n.between r.ready n.settled t f hx in
    (a.0, a.1, inl (a.2 ∙ ap (λ (y : ℕ). slot_under y a.0) (sym base_is))))
    (free_or_taken n.between t)
