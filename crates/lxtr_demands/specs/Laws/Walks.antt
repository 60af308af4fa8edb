-- Walks over accepted bytes: the slots that they reach, and the children of these.
-- A child is the end of the walk's key, or the slot one label further; the steps to the parent bound how far this continues.
use Prim.Native.Nat.{ℕ, zero, suc, ◌+◌, ◌≤◌, ◌<◌}
use Rattle.std.proofs.Common.{le_refl, arith, ◌∙◌, inl, inr, eqb-true, ne_eqb}
use Rattle.std.specs.Prelude.{◌≡◌, ◌≢◌, Bool, true, length, eqb, Some}
use Rattle.std.proofs.Math.Path.{refl, sym, ap}
use mathlib.Core.List.{List, [], ◌∷◌, ◌++◌, append_assoc, append-nil}
use Rattle.std.proofs.Math.Bool.{false}
use Rattle.std.proofs.lemmas.Bool.{eqb-false}
use Rattle.lxtr_spec.specs.Labels.{max_labels, length_count}
use Rattle.lxtr_spec.specs.Image.{slot_from, slot_count, is_leaf, parent, base, value_number, offset, child, list_width, label_of_code}
use Rattle.lxtr_spec.specs.Refusals.{own_code}
use Rattle.lxtr_spec.specs.Walks.{walk, value_of}
use Rattle.lxtr_spec.specs.Sets.{Has, Listed}
use Rattle.lxtr_laws.specs.JoiningLaws.{slot_by_code, slot_of_base}
use Rattle.lxtr_laws.specs.Facts.{UsedFrom2, Used, UsedRight, EntryRight, ancestor, Accepted, unused_parent}
use Rattle.lxtr_laws.specs.Faults.{end_exists_lem}
use Rattle.lxtr_demands.specs.Laws.Codes.{code_listed, listed_code}
use Rattle.lxtr_laws.specs.KeyPrefixes.{Last, empty, snoc, last, length_snoc, GoesOn}
use Rattle.lxtr_laws.specs.StepFacts.{Stepped, own_code_lem, walk_ancestor, walk_empty, walk_snoc, value_of_is}
use Rattle.lxtr_laws.specs.ListPlaces.{in_list}
use Rattle.lxtr_demands.specs.Laws.Kinds.{}

-- a slot that a walk reaches
pub record WalkSlot (b : List ℕ) (n : ℕ) : Type 0 where
  pub from : 1 ≤ n
  pub to : n < slot_count b
  pub inner : is_leaf b n ≡ false

module _ {b : List ℕ} (ok : Accepted b) where
  -- slots 0 and 1 have no parent
  pub root_parent : parent b 1 ≡ 0
  root_parent = ((ok.slots 1 ok.framed.slots.0).root refl).1

  zero_parent : parent b 0 ≡ 0
  zero_parent = unused_parent ((ok.slots 0 (omega (arith, ok.framed.slots))).zero refl)

  pub has_parent_lem : (s : ℕ) → parent b s ≢ 0 → UsedFrom2 b s
  has_parent_lem zero h = absurd (h zero_parent)
  has_parent_lem (suc zero) h = absurd (h root_parent)
  has_parent_lem (suc (suc s)) h = (omega arith, h)

  -- a step from a slot from 1 up reaches a used slot, which is a leaf exactly when the step's code is 0
  module _ {n c t : ℕ} (from : 1 ≤ n) (s : Stepped b n c t) where
    pub step_used : UsedFrom2 b t
    step_used = has_parent_lem t (λ e. omega (arith, s.up))

    pub step_leaf : is_leaf b t ≡ eqb c 0
    step_leaf = rw (own_code_lem s) at ((ok.slots t s.below).used step_used).leaf_code

  reached_last : (p : List ℕ) → Last p → (n : ℕ) → walk b 1 p ≡ Some n → WalkSlot b n
  reached_last p empty n e =
      let two = ok.framed.slots.0 in
      rw (← ((walk_empty b n).0 e)) (record { from = le_refl 1; to = two; inner = ((ok.slots 1 two).root refl).0 })
  reached_last p (snoc q x l) n e =
      let r = (walk_snoc b q x n).0 e in
      let before = reached_last q l r.slot r.walked in
      record {
        from = omega (arith, step_used before.from r.stepped);
        to = r.stepped.below;
        inner = step_leaf before.from r.stepped ∙ ne_eqb r.code 0 (omega (arith, (code_listed b x r.code r.coded).from));
      }

  pub reached : (p : List ℕ) (n : ℕ) → walk b 1 p ≡ Some n → WalkSlot b n
  reached p = reached_last p (last p)

  ancestor_zero : (k : ℕ) → ancestor b k 0 ≡ 0
  unfolding ancestor
  ancestor_zero zero = refl
  ancestor_zero (suc k) = ap (ancestor b k) zero_parent ∙ ancestor_zero k

  -- above slot 1 there is only slot 0
  above_root : (k s : ℕ) → s ≡ 1 → ancestor b (suc k) s ≢ 1
  unfolding ancestor
  above_root k s e f = omega (arith, ancestor_zero k, sym (ap (ancestor b k) (ap (parent b) e ∙ root_parent)) ∙ f)

  -- so only one number of steps leads to slot 1
  steps_once : (i j s : ℕ) → ancestor b i s ≡ 1 → ancestor b j s ≡ 1 → i ≡ j
  unfolding ancestor
  steps_once zero zero s e f = refl
  steps_once zero (suc j) s e f = absurd (above_root j s e f)
  steps_once (suc i) zero s e f = absurd (above_root i s f e)
  steps_once (suc i) (suc j) s e f = ap suc (steps_once i j (parent b s) e f)

  -- a child t of the slot n to which the labels p lead
  module _ (p : List ℕ) (n t : ℕ) (w : walk b 1 p ≡ Some n) (l : t < slot_count b) (up : parent b t ≡ n) where
    pub child_used : UsedFrom2 b t
    child_used = has_parent_lem t (λ e. omega (arith, (reached p n w).from))

    child_step : Stepped b n (own_code b t) t
    unfolding own_code
    child_step = record { inner = (reached p n w).inner; below = l; up = up; at = rw up (sym (slot_by_code b n t)) }

    child_right : UsedRight b t
    child_right = (ok.slots t l).used child_used

    -- a walk to a slot that has a child is no longer than a key may be
    pub child_depth : length p ≤ max_labels
    unfolding ancestor
    child_depth =
        let r = ok.reach t l child_used in
        let same : suc (length p) ≡ r.steps = steps_once (suc (length p)) r.steps t (ap (ancestor b (length p)) up ∙ walk_ancestor b p n w) r.at_root in
        omega (arith, r.within)

    pub leaf_child : is_leaf b t ≡ true → Has (value_of b) p (value_number b t) × (t ≡ slot_from b n 0)
    leaf_child e =
        let c : own_code b t ≡ 0 = eqb-true (own_code b t) 0 (sym child_right.leaf_code ∙ e) in
        let s : Stepped b n 0 t = rw c at child_step in
        let z : base b n ≡ t = sym (s.at ∙ slot_of_base b n) in
        let r = reached p n w in
        let flag = (ok.slots n r.to).flag r.from ∙ (end_exists_lem b n).1 (rw z s) in
        ((value_of_is b p (value_number b t)).1 (n, w, record { flag = flag; slot = t; stepped = s; leaf = e; value = refl }), s.at)

    pub inner_child : is_leaf b t ≡ false → (x : ℕ) × (walk b 1 (p ++ x ∷ []) ≡ Some t)
    inner_child e =
        let c : own_code b t ≢ 0 = eqb-false (own_code b t) 0 (sym child_right.leaf_code ∙ e) in
        let x : ℕ = label_of_code b (own_code b t) in
        let g : Listed b x (own_code b t) = record { from = omega arith; to = child_right.code_listed; label = refl } in
        (x, (walk_snoc b p x t).1 (record { slot = n; code = own_code b t; walked = w; coded = listed_code b x (own_code b t) ok.framed g; stepped = child_step }))

  first_entry : (p : List ℕ) (n : ℕ) → walk b 1 p ≡ Some n → list_width b n ≢ 0 → EntryRight b n (offset b n)
  first_entry p n w h = ok.lists.entry n (offset b n) (reached p n w).to ((in_list b n (offset b n)).1 (omega arith))

  -- a slot that a walk reaches and that has a child is on the way to a key; f is how many labels are still allowed
  key_below : (f : ℕ) (p : List ℕ) (n : ℕ) → walk b 1 p ≡ Some n → list_width b n ≢ 0 → max_labels < length p + f → GoesOn (value_of b) p
  key_below zero p n w h k = let e = first_entry p n w h in absurd (omega (arith, child_depth p n (child b (offset b n)) w e.to e.up))
  key_below (suc f) p n w h k = let e = first_entry p n w h in by_child (child b (offset b n)) e.to e.up (key_below f) (is_leaf b (child b (offset b n))) refl
    where
      by_child : (t : ℕ) → t < slot_count b → parent b t ≡ n
          → ((q : List ℕ) (m : ℕ) → walk b 1 q ≡ Some m → list_width b m ≢ 0 → max_labels < length q + f → GoesOn (value_of b) q)
          → (a : Bool) → is_leaf b t ≡ a → GoesOn (value_of b) p
      by_child t l up ih true e = ([], value_number b t, rw append-nil (leaf_child p n t w l up e).0)
      by_child t l up ih false e =
          let x = inner_child p n t w l up e in
          let r = ih (p ++ x.0 ∷ []) t x.1 (ok.lists.parents t l (child_used p n t w l up) e) (omega (arith, length_snoc p x.0)) in
          (x.0 ∷ r.0, r.1, rw append_assoc at r.2)

  pub on_to_key : (p : List ℕ) (n : ℕ) → walk b 1 p ≡ Some n → list_width b n ≢ 0 → GoesOn (value_of b) p
  on_to_key p n w h = key_below length_count p n w h (omega arith)

  -- a walk reaches every used slot that is not a leaf and from which steps to the parent lead to slot 1
  walk_down : (k s : ℕ) → ancestor b k s ≡ 1 → s < slot_count b → Used b s → is_leaf b s ≡ false → (p : List ℕ) × (walk b 1 p ≡ Some s)
  unfolding ancestor
  walk_down zero s e l u i = ([], (walk_empty b s).1 (sym e))
  walk_down (suc k) s e l u i = go (walk_down k (parent b s) e) u
    where
      go : (parent b s < slot_count b → Used b (parent b s) → is_leaf b (parent b s) ≡ false → (p : List ℕ) × (walk b 1 p ≡ Some (parent b s))) → Used b s → (p : List ℕ) × (walk b 1 p ≡ Some s)
      go ih (inl z) = ([], (walk_empty b s).1 (sym z))
      go ih (inr u) =
          let r = (ok.slots s l).used u in
          let q = ih r.parent_below r.parent_used r.parent_inner in
          let x = inner_child q.0 (parent b s) s q.1 l refl i in
          (q.0 ++ x.0 ∷ [], x.1)

  pub parent_walk : (s : ℕ) → s < slot_count b → UsedFrom2 b s → (p : List ℕ) × (walk b 1 p ≡ Some (parent b s))
  unfolding ancestor
  parent_walk s l u = let r = ok.reach s l u in go r.steps r.at_root
    where
      go : (k : ℕ) → ancestor b k s ≡ 1 → (p : List ℕ) × (walk b 1 p ≡ Some (parent b s))
      go zero e = absurd (omega arith)
      go (suc k) e = let r = (ok.slots s l).used u in walk_down k (parent b s) e r.parent_below r.parent_used r.parent_inner
