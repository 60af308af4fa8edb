-- Steps, walks and values as facts: what holds when a step or a walk reaches a slot, and when there is a value.
-- A walk along two lists is two walks, so a walk can be taken apart at its last label.
use Rattle.std.specs.Prelude.{ℕ, ◌<◌, ◌≡◌, ◌↔◌, Bool, true, false, cond, length, Option, Some, None}
use Rattle.std.proofs.Math.Path.{refl, sym, ap}
use Rattle.std.proofs.Common.{◌∙◌}
use mathlib.Core.List.{List, [], ◌∷◌, ◌++◌}
use Rattle.std.proofs.lemmas.Bool.{false≢true}
use Rattle.lxtr_spec.specs.Image.{slot_from, code_to, slot_count, is_leaf, has_leaf, parent, has_parent, value_number, code_of}
use Rattle.lxtr_spec.specs.Refusals.{own_code}
use Rattle.lxtr_spec.specs.Walks.{step, step_by, walk, leaf_value, value_at, value_reached, value_of}
use Rattle.lxtr_laws.specs.RangeTests.{tests}
use Rattle.lxtr_laws.specs.JoiningLaws.{code_to_slot}
use Rattle.lxtr_laws.specs.Facts.{ancestor}
use Rattle.lxtr_laws.specs.KeyPrefixes.{Last, empty, snoc, last, length_snoc}

-- t is the slot that code c reaches from slot n
pub record Stepped (b : List ℕ) (n c t : ℕ) : Type 0 where
  pub inner : is_leaf b n ≡ false
  pub below : t < slot_count b
  pub up : parent b t ≡ n
  pub at : t ≡ slot_from b n c

pub step_code : {b : List ℕ} {n c t : ℕ} → Stepped b n c t → code_to b n t ≡ c
step_code {b} {n} {c} s = ap (code_to b n) s.at ∙ code_to_slot b n c

-- so only one code reaches a slot
pub one_code : {b : List ℕ} {n c e t : ℕ} → Stepped b n c t → Stepped b n e t → c ≡ e
one_code r s = sym (step_code r) ∙ step_code s

pub own_code_lem : {b : List ℕ} {n c t : ℕ} → Stepped b n c t → own_code b t ≡ c
unfolding own_code
own_code_lem s = rw s.up (step_code s)

-- v is the value at slot n
pub record Valued (b : List ℕ) (n v : ℕ) : Type 0 where
  pub flag : has_leaf b n ≡ true
  pub slot : ℕ
  pub stepped : Stepped b n 0 slot
  pub leaf : is_leaf b slot ≡ true
  pub value : value_number b slot ≡ v

-- a walk from slot 1 by p and one more label x to slot t: the slot before t, and the step from there
pub record LastStep (b p : List ℕ) (x t : ℕ) : Type 0 where
  pub slot : ℕ
  pub code : ℕ
  pub walked : walk b 1 p ≡ Some slot
  pub coded : code_of b x ≡ Some code
  pub stepped : Stepped b slot code t

pub none_not_some : {v : ℕ} → ◌≡◌ {A = Option ℕ} None (Some v) → ⊥
none_not_some e = cc

pub some_same : {m n : ℕ} → ◌≡◌ {A = Option ℕ} (Some m) (Some n) → m ≡ n
some_same e = cc

some_is : (m n : ℕ) → (◌≡◌ {A = Option ℕ} (Some m) (Some n)) ↔ (m ≡ n)
some_is m n = (some_same, ap {B = Option ℕ} Some)

-- two answers that give the same number, or none, are equal
pub same_answer : (o r : Option ℕ) → ((t : ℕ) → (o ≡ Some t) ↔ (r ≡ Some t)) → o ≡ r
same_answer None None h = refl
same_answer None (Some t) h = (h t).1 refl
same_answer (Some t) r h = sym ((h t).0 refl)

-- an answer under a condition, and an answer that needs an earlier one
pub cond_some : (a : Bool) (o : Option ℕ) (t : ℕ) → (cond a o None ≡ Some t) ↔ ((a ≡ true) × (o ≡ Some t))
cond_some true o t = (λ e. (refl, e), λ p. p.1)
cond_some false o t = (λ e. absurd (none_not_some e), λ p. absurd (false≢true p.0))

then_some : (o : Option ℕ) (f : ℕ → Option ℕ) (t : ℕ) → (elim o as (λ _. Option ℕ) [ None ↦ None | Some c ↦ f c ] ≡ Some t) ↔ ((c : ℕ) × (o ≡ Some c) × (f c ≡ Some t))
then_some None f t = (λ e. absurd (none_not_some e), λ p. absurd (none_not_some p.1))
then_some (Some c) f t = (λ e. (c, refl, e), λ p. ap f (some_same p.1) ∙ p.2)

module _ (b : List ℕ) where
  pub step_is : (n c t : ℕ) → (step b n c ≡ Some t) ↔ Stepped b n c t
  unfolding step has_parent
  step_is n c t = simp (cond_some, some_is, tests) (
    λ ((i, (l, u)), e). record { inner = i; below = rw e at l; up = rw e at u; at = sym e },
    λ s. ((s.inner, (rw s.at at s.below, rw s.at at s.up)), sym s.at),
  )

  pub step_by_is : (n x t : ℕ) → (step_by b n x ≡ Some t) ↔ ((c : ℕ) × (code_of b x ≡ Some c) × Stepped b n c t)
  unfolding step_by
  step_by_is n x t = let two = then_some (code_of b x) (step b n) t in (
    λ e. let r = two.0 e in (r.0, r.1, (step_is n r.0 t).0 r.2),
    λ r. two.1 (r.0, r.1, (step_is n r.0 t).1 r.2),
  )

  pub walk_empty : (t : ℕ) → (walk b 1 [] ≡ Some t) ↔ (1 ≡ t)
  unfolding walk
  walk_empty t = some_is 1 t

  walk_cons : (n x : ℕ) (p : List ℕ) (t : ℕ) → (walk b n (x ∷ p) ≡ Some t) ↔ ((m : ℕ) × (step_by b n x ≡ Some m) × (walk b m p ≡ Some t))
  unfolding walk
  walk_cons n x p t = then_some (step_by b n x) (λ m. walk b m p) t

  -- a walk along two lists
  pub walk_append : (n : ℕ) (p q : List ℕ) (t : ℕ) → (walk b n (p ++ q) ≡ Some t) ↔ ((m : ℕ) × (walk b n p ≡ Some m) × (walk b m q ≡ Some t))
  unfolding walk
  walk_append n [] q t = (λ e. (n, refl, e), λ r. rw (some_same r.1) r.2)
  walk_append n (x ∷ p) q t = (
    λ e.
        let r = (walk_cons n x (p ++ q) t).0 e in
        let s = (walk_append r.0 p q t).0 r.2 in
        (s.0, (walk_cons n x p s.0).1 (r.0, r.1, s.1), s.2),
    λ r.
        let s = (walk_cons n x p r.0).0 r.1 in
        (walk_cons n x (p ++ q) t).1 (s.0, s.1, (walk_append s.0 p q t).1 (r.0, s.2, r.2)),
  )

  pub walk_snoc : (p : List ℕ) (x t : ℕ) → (walk b 1 (p ++ x ∷ []) ≡ Some t) ↔ LastStep b p x t
  unfolding walk
  walk_snoc p x t = (
    λ e.
        let r = (walk_append 1 p (x ∷ []) t).0 e in
        let s = (walk_cons r.0 x [] t).0 r.2 in
        let u = (step_by_is r.0 x t).0 (s.1 ∙ s.2) in
        record { slot = r.0; code = u.0; walked = r.1; coded = u.1; stepped = u.2 },
    λ l. (walk_append 1 p (x ∷ []) t).1 (l.slot, l.walked, (walk_cons l.slot x [] t).1 (t, (step_by_is l.slot x t).1 (l.code, l.coded, l.stepped), refl)),
  )

  pub value_is : (n v : ℕ) → (value_at b n ≡ Some v) ↔ Valued b n v
  unfolding value_at leaf_value
  value_is n v = (
    go (has_leaf b n) refl,
    λ r. rw (r.flag, value_at) (two.1 (r.slot, (step_is n 0 r.slot).1 r.stepped, (cond_some (is_leaf b r.slot) (Some (value_number b r.slot)) v).1 (r.leaf, ap {B = Option ℕ} Some r.value))),
  )
    where
      two : (elim (step b n 0) as (λ _. Option ℕ) [ None ↦ None | Some t ↦ leaf_value b t ] ≡ Some v) ↔ ((t : ℕ) × (step b n 0 ≡ Some t) × (leaf_value b t ≡ Some v))
      two = then_some (step b n 0) (leaf_value b) v

      go : (a : Bool) → has_leaf b n ≡ a
          → elim a as (λ _. Option ℕ) [ false ↦ None | true ↦ elim (step b n 0) as (λ _. Option ℕ) [ None ↦ None | Some t ↦ leaf_value b t ] ] ≡ Some v
          → Valued b n v
      go false f g = absurd (none_not_some g)
      go true f g =
          let r = two.0 g in
          let s = (cond_some (is_leaf b r.0) (Some (value_number b r.0)) v).0 r.2 in
          record { flag = f; slot = r.0; stepped = (step_is n 0 r.0).0 r.1; leaf = s.0; value = some_same s.1 }

  pub value_of_is : (k : List ℕ) (v : ℕ) → (value_of b k ≡ Some v) ↔ ((n : ℕ) × (walk b 1 k ≡ Some n) × Valued b n v)
  unfolding value_of value_reached
  value_of_is k v = go (walk b 1 k)
    where
      go : (o : Option ℕ) → (value_reached b o ≡ Some v) ↔ ((n : ℕ) × (o ≡ Some n) × Valued b n v)
      go None = (λ e. absurd (none_not_some e), λ r. absurd (none_not_some r.1))
      go (Some n) = (λ e. (n, refl, (value_is n v).0 e), λ r. (value_is n v).1 (rw (some_same r.1) r.2))

  -- from the slot that a walk reaches, as many steps to the parent as the walk has labels lead back to slot 1
  ancestor_last : (p : List ℕ) → Last p → (n : ℕ) → walk b 1 p ≡ Some n → ancestor b (length p) n ≡ 1
  unfolding ancestor
  ancestor_last p empty n e = sym ((walk_empty n).0 e)
  ancestor_last p (snoc q x l) n e =
      let r = (walk_snoc q x n).0 e in
      ap (λ (k : ℕ). ancestor b k n) (length_snoc q x) ∙ ap (ancestor b (length q)) r.stepped.up ∙ ancestor_last q l r.slot r.walked

  pub walk_ancestor : (p : List ℕ) (n : ℕ) → walk b 1 p ≡ Some n → ancestor b (length p) n ≡ 1
  walk_ancestor p = ancestor_last p (last p)
