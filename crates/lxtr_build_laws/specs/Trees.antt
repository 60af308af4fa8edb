-- What placing leaves: below each slot that it went into, the tree of that slot's group.
-- Going into a slot changes no words of the trees placed before, since their slots are taken and are not the slot itself.
use Rattle.std.specs.Prelude.{Option, Some, None}
use Prim.Native.Nat.{ℕ, zero, suc, ◌+◌, ◌≤◌}
use Rattle.std.proofs.Math.Path.{◌≡◌, refl, ap, subst}
use Rattle.std.proofs.Common.{sym, ◌∙◌, arith}
use mathlib.Core.List.Memᴰ
use mathlib.Core.List.{List, [], ◌∷◌, Memᴰ}
use Rattle.std.proofs.Math.Logic.{⊎_elim}
use Rattle.lxtr_spec.specs.Labels.{Pair}
use Rattle.lxtr_spec.specs.Joining.{slot_under}
use Rattle.lxtr_spec.specs.Placing.{child_codes, below, end_value, settle, into_each, place}
use Rattle.lxtr_build_laws.specs.CodeTables.{Rising}
use Rattle.lxtr_build_laws.specs.SlotWords.{Free, Taken, free_or_taken}
use Rattle.lxtr_build_laws.specs.PlacingSteps.{Step}
use Rattle.lxtr_build_laws.specs.FirstFit.{slot_injective}
use Rattle.lxtr_build_laws.specs.ChildCodes.{codes_rise}
use Rattle.lxtr_build_laws.specs.SettledSlots.{Settled, settle_some, settle_step}
use Rattle.lxtr_build_laws.specs.Placed.{Inner, into_each_step, place_step}
use Rattle.lxtr_build_laws.specs.Nodes.{flag_of, Node, Plain, plain_after, settle_plain, settle_node}

-- the tree of the group g below slot s, k labels deep
unfoldable pub Tree : ℕ → (ℕ → ℕ) → (ℕ → ℕ) → List ℕ → ℕ → List ℕ → ℕ → List Pair → Type 0
Tree S code label w₀ zero w s g = Unit {0}
Tree S code label w₀ (suc k) w s g =
    (b : ℕ) × Node S w₀ w s (child_codes code g []) (end_value g) b × ((c : ℕ) → Memᴰ c (child_codes code g []) → 1 ≤ c → Tree S code label w₀ k w (slot_under b c) (below (label c) g))

-- what is free after a step was free before it
free_before : {S : ℕ} {A : ℕ → Type 0} {w u : List ℕ} → Step S A w u → (t : ℕ) → Free u t → Free w t
free_before {w = w} s t f = ⊎_elim (λ (a : Free w t). a) (λ (a : Taken w t). absurd (s.stays t a f)) (free_or_taken w t)

module _ (S : ℕ) (code label : ℕ → ℕ) where
  tree_older : (w₀ w₁ : List ℕ) → ((t : ℕ) → Free w₁ t → Free w₀ t) → (k : ℕ) (w : List ℕ) (s : ℕ) (g : List Pair) → Tree S code label w₁ k w s g → Tree S code label w₀ k w s g
  unfolding Tree
  tree_older w₀ w₁ h zero w s g tr = tt
  tree_older w₀ w₁ h (suc k) w s g tr =
      let n = tr.1 in (
        tr.0,
        record { base_is = n.base_is; small = n.small; flag = n.flag; new = λ c m. (h _ (n.new c m).0, (n.new c m).1); parent_is = n.parent_is; leaf = n.leaf },
        λ c m l. tree_older w₀ w₁ h k w (slot_under tr.0 c) (below (label c) g) (tr.2 c m l),
      )

  -- a step that leaves s as it is, and whose slots were taken in w₀, leaves the tree as it is
  tree_kept : (A : ℕ → Type 0) (w₀ w w' : List ℕ) → Step S A w w' → ((t : ℕ) → A t → Taken w₀ t)
      → (k s : ℕ) (g : List Pair) → Taken w s → (A s → ⊥) → Tree S code label w₀ k w s g → Tree S code label w₀ k w' s g
  unfolding Tree
  tree_kept A w₀ w w' st h zero s g t n tr = tt
  tree_kept A w₀ w w' st h (suc k) s g t n tr =
      let b = tr.0 in
      let nd = tr.1 in
      let own = st.kept s t n in
      let out : (c : ℕ) → Memᴰ c (child_codes code g []) → A (slot_under b c) → ⊥ = λ c m a. h (slot_under b c) a (nd.new c m).0 in (
        b,
        record {
          base_is = own.0 ∙ nd.base_is;
          small = nd.small;
          flag = own.1 ∙ nd.flag ∙ ap (λ (x : ℕ). flag_of (child_codes code g []) + x) (sym (st.parent s t));
          new = nd.new;
          parent_is = λ c m. (st.parent (slot_under b c) (nd.parent_is c m).1 ∙ (nd.parent_is c m).0, st.stays (slot_under b c) (nd.parent_is c m).1);
          leaf = λ m. let kp = st.kept (slot_under b 0) (nd.parent_is 0 m).1 (out 0 m) in let l = nd.leaf m in (kp.0 ∙ l.0, kp.1 ∙ l.1);
        },
        λ c m l. tree_kept A w₀ w w' st h k (slot_under b c) (below (label c) g) (nd.parent_is c m).1 (out c m) (tr.2 c m l),
      )

-- ---- going into the children leaves their trees

module _ (S : ℕ) (code label : ℕ → ℕ) (k b : ℕ) (g : List Pair) where
  abbrev pub go_into : ℕ → List ℕ → Option (List ℕ)
  go_into c x = place S code label k (slot_under b c) (below (label c) g) x

  -- after the first of these codes, placing may still go into the others
  module _ (d : ℕ) (cs x y u : List ℕ) (rising : Rising (suc d ∷ cs)) (ready : (c : ℕ) → Memᴰ c (suc d ∷ cs) → Plain S x (slot_under b c))
      (here : go_into (suc d) x ≡ Some y) (there : into_each go_into cs y ≡ Some u) where
    first_step : Step S (λ t. t ≡ slot_under b (suc d)) x y
    first_step = place_step S code label k (slot_under b (suc d)) (below (label (suc d)) g) x y (ready (suc d) (Memᴰ.head refl)).ready here

    pub later_plain : (c : ℕ) → Memᴰ c cs → Plain S y (slot_under b c)
    unfolding Rising
    later_plain c m = plain_after (ready c (Memᴰ.tail m)) first_step (λ e. omega (arith, slot_injective b c (suc d) e, rising.0 c m))

    pub later_step : Step S (Inner b cs) y u
    later_step = into_each_step S b go_into cs y u (λ c v v' r e. place_step S code label k (slot_under b c) (below (label c) g) v v' r e) (λ c m. (later_plain c m).ready) there

    -- and that leaves the first one's tree as it is
    pub later_taken : (t : ℕ) → Inner b cs t → Taken x t
    later_taken t a = subst (λ (s : ℕ). Taken x s) (sym a.3) (ready a.0 (Memᴰ.tail a.1)).ready.taken

    pub first_taken : Taken y (slot_under b (suc d))
    first_taken = first_step.stays (slot_under b (suc d)) (ready (suc d) (Memᴰ.head refl)).ready.taken

    pub first_other : Inner b cs (slot_under b (suc d)) → ⊥
    unfolding Rising
    first_other a = omega (arith, slot_injective b (suc d) a.0 a.3, rising.0 a.0 a.1)

    first_tree_kept : (h : List Pair) → Tree S code label x k y (slot_under b (suc d)) h → Tree S code label x k u (slot_under b (suc d)) h
    first_tree_kept h tr = tree_kept S code label (Inner b cs) x y u later_step later_taken k (slot_under b (suc d)) h first_taken first_other tr

  abbrev ChildTree : List ℕ → List ℕ → ℕ → Type 0
  ChildTree x u c = Tree S code label x k u (slot_under b c) (below (label c) g)

  into_each_tree : (cs x u : List ℕ) → Rising cs → ((c : ℕ) → Memᴰ c cs → Plain S x (slot_under b c))
      → ((c : ℕ) (v y : List ℕ) → Plain S v (slot_under b c) → go_into c v ≡ Some y → ChildTree v y c)
      → into_each go_into cs x ≡ Some u → (c : ℕ) → Memᴰ c cs → 1 ≤ c → ChildTree x u c
  unfolding into_each Rising
  into_each_tree [] x u r ready ih e c m l = absurd (Memᴰ.not-nil m)
  into_each_tree (zero ∷ cs) x u r ready ih e c m l =
      ⊎_elim (λ (q : c ≡ 0). absurd (omega arith)) (λ n. into_each_tree cs x u r.1 (λ d n. ready d (Memᴰ.tail n)) ih e c n l) (Memᴰ.cases_cons m)
  into_each_tree (suc d ∷ cs) x u r ready ih e c m l = go (λ y rd q. into_each_tree cs y u r.1 rd ih q c) (go_into (suc d) x) refl e
    where
      go : ((y : List ℕ) → ((a : ℕ) → Memᴰ a cs → Plain S y (slot_under b a)) → into_each go_into cs y ≡ Some u → Memᴰ c cs → 1 ≤ c → ChildTree y u c)
          → (o : Option (List ℕ)) → go_into (suc d) x ≡ o → (elim o as (λ _. Option (List ℕ)) [ None ↦ None | Some v ↦ into_each go_into cs v ]) ≡ Some u → ChildTree x u c
      go rest None h q = absurd (let o : ◌≡◌ {A = ℕ} 0 1 = cc in omega arith)
      go rest (Some y) h q = ⊎_elim
          (λ (z : c ≡ suc d). subst (ChildTree x u) (sym z) (first_tree_kept d cs x y u r ready h q (below (label (suc d)) g) (ih (suc d) x y (ready (suc d) (Memᴰ.head refl)) h)))
          (λ n. tree_older S code label x y (free_before (first_step d cs x y u r ready h q)) k u (slot_under b c) (below (label c) g) (rest y (later_plain d cs x y u r ready h q) q n l))
          (Memᴰ.cases_cons m)

-- ---- placing leaves the tree of its group

-- what placing slot p went through: p was settled, and then placing went into its children
pub record PlacedSlot (S : ℕ) (code label : ℕ → ℕ) (k p : ℕ) (g : List Pair) (w u : List ℕ) : Type 0 where
  pub base : ℕ
  pub between : List ℕ
  pub settled : Settled S p (end_value g) (child_codes code g []) w base between
  pub into : into_each (go_into S code label k base g) (child_codes code g []) between ≡ Some u

pub placed_slot : (S : ℕ) (code label : ℕ → ℕ) (k p : ℕ) (g : List Pair) (w u : List ℕ) → place S code label (suc k) p g w ≡ Some u → PlacedSlot S code label k p g w u
unfolding place
placed_slot S code label k p g w u e = go (settle S p (end_value g) (child_codes code g []) w) refl e
  where
    go : (o : Option (ℕ × List ℕ)) → settle S p (end_value g) (child_codes code g []) w ≡ o
        → (elim o as (λ _. Option (List ℕ)) [ None ↦ None | Some s ↦ into_each (λ c w'. place S code label k (slot_under s.0 c) (below (label c) g) w') (child_codes code g []) s.1 ]) ≡ Some u
        → PlacedSlot S code label k p g w u
    go None h q = absurd (let o : ◌≡◌ {A = ℕ} 0 1 = cc in omega arith)
    go (Some s) h q = record { base = s.0; between = s.1; settled = settle_some S p (end_value g) (child_codes code g []) w s h; into = q }

module _ (S : ℕ) (code label : ℕ → ℕ) (k p : ℕ) (g : List Pair) (w u : List ℕ) (start : Plain S w p) (n : PlacedSlot S code label k p g w u) where
  abbrev codes : List ℕ
  codes = child_codes code g []

  rising : Rising codes
  rising = codes_rise code g

  pub placed_plain : (c : ℕ) → Memᴰ c codes → Plain S n.between (slot_under n.base c)
  placed_plain = settle_plain S p (end_value g) codes w n.base n.between start n.settled rising

  placed_second : Step S (Inner n.base codes) n.between u
  placed_second = into_each_step S n.base (go_into S code label k n.base g) codes n.between u
      (λ c v v' r e. place_step S code label k (slot_under n.base c) (below (label c) g) v v' r e) (λ c m. (placed_plain c m).ready) n.into

  pub placed_node : Node S w u p codes (end_value g) n.base
  placed_node = settle_node S p (end_value g) codes w n.base n.between start n.settled rising u placed_second

  placed_first : Step S (λ t. t ≡ p) w n.between
  placed_first = settle_step S p (end_value g) codes w n.base n.between start.ready n.settled rising

pub place_tree : (S : ℕ) (code label : ℕ → ℕ) (k p : ℕ) (g : List Pair) (w u : List ℕ) → Plain S w p → place S code label k p g w ≡ Some u → Tree S code label w k u p g
unfolding Tree
place_tree S code label zero p g w u r e = tt
place_tree S code label (suc k) p g w u r e =
    let n = placed_slot S code label k p g w u e in (
      n.base,
      placed_node S code label k p g w u r n,
      λ c m l. tree_older S code label w n.between (free_before (placed_first S code label k p g w u r n)) k u (slot_under n.base c) (below (label c) g)
          (into_each_tree S code label k n.base g (child_codes code g []) n.between u (codes_rise code g) (placed_plain S code label k p g w u r n)
          (λ d v y pv ev. place_tree S code label k (slot_under n.base d) (below (label d) g) v y pv ev) n.into c m l),
    )
