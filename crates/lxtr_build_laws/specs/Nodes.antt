-- A slot p whose children are placed: the words that it and they have, once placing has gone into the children.
-- That changes only free slots and the children's own words, not their parents; so p's words and the children's parents stay.
use Rattle.std.specs.Prelude.{ℕ, zero, suc, ◌+◌, ◌*◌, ◌^◌, ◌<◌, ◌≡◌, refl, ◌≢◌, length, set}
use Rattle.std.proofs.Common.{sym, ◌∙◌, subst, ⊎_elim, arith, length-set}
use Rattle.std.proofs.Math.Path.{ap}
use mathlib.Core.List.Memᴰ
use mathlib.Core.List.{List, [], ◌∷◌, Memᴰ}
use Rattle.lxtr_spec.specs.Joining.{slot_under}
use Rattle.lxtr_spec.specs.Placing.{base_at, check_at, base_count, put_child, put_children, put_parent}
use Rattle.lxtr_build_laws.specs.CodeTables.{Rising}
use Rattle.lxtr_build_laws.specs.SlotWords.{check_of_base, check_same, base_of_check, base_same, Same, Free, Taken, parent_at}
use Rattle.lxtr_build_laws.specs.PlacingSteps.{Step, Ready, ready_after}
use Rattle.lxtr_build_laws.specs.FirstFit.{AllFree, slot_injective}
use Rattle.lxtr_build_laws.specs.SettledSlots.{put_child_same, Settled, settle_free, settle_step, settle_parent, settle_ready, put_parent_size}
use Rattle.lxtr_build_laws.specs.Placed.{Inner}

-- HAS_LEAF, if an end is among the children, whose codes rise; otherwise 0
unfoldable pub flag_of : List ℕ → ℕ
flag_of [] = 0
flag_of (zero ∷ cs) = 2 ^ 31
flag_of (suc c ∷ cs) = 0

-- Slot s of w, whose children have the codes cs: its base is b, their slots under b were free in w₀, and the end has the value v.
pub record Node (S : ℕ) (w₀ w : List ℕ) (s : ℕ) (cs : List ℕ) (v b : ℕ) : Type 0 where
  pub base_is : base_at w s ≡ b
  pub small : b < base_count
  pub flag : check_at w s ≡ flag_of cs + parent_at w s
  pub new : AllFree S w₀ b cs
  pub parent_is : (c : ℕ) → Memᴰ c cs → (parent_at w (slot_under b c) ≡ s) × Taken w (slot_under b c)
  pub leaf : Memᴰ 0 cs → (base_at w (slot_under b 0) ≡ 2 ^ 31 + v) × (check_at w (slot_under b 0) ≡ s)

-- ---- the words that settling writes

children_same : (p v b : ℕ) (cs w : List ℕ) (t : ℕ) → ((c : ℕ) → Memᴰ c cs → t ≢ slot_under b c) → Same w (put_children p v b cs w) t
unfolding put_children Same
children_same p v b [] w t n = (refl, refl)
children_same p v b (c ∷ cs) w t n =
    let a = put_child_same p v b c w t (n c (Memᴰ.head refl)) in
    let r = children_same p v b cs (put_child p v b c w) t (λ e m. n e (Memᴰ.tail m)) in
    (r.0 ∙ a.0, r.1 ∙ a.1)

-- an end comes first among the children
children_leaf : (p v b : ℕ) (cs w : List ℕ) → Rising cs → 2 * slot_under b 0 < length w → Memᴰ 0 cs → base_at (put_children p v b cs w) (slot_under b 0) ≡ 2 ^ 31 + v
unfolding put_children put_child Rising Same
children_leaf p v b [] w r h m = absurd (Memᴰ.not-nil m)
children_leaf p v b (zero ∷ cs) w r h m =
    (children_same p v b cs (set (set w (2 * slot_under b 0) (2 ^ 31 + v)) (2 * slot_under b 0 + 1) p) (slot_under b 0) (λ e n q. omega (arith, r.0 e n, slot_injective b 0 e q))).0
    ∙ base_of_check (set w (2 * slot_under b 0) (2 ^ 31 + v)) (slot_under b 0) (slot_under b 0) p ∙ base_same w (slot_under b 0) (2 ^ 31 + v) h
children_leaf p v b (suc c ∷ cs) w r h m = ⊎_elim (λ (e : 0 ≡ suc c). absurd (omega arith)) (λ n. absurd (omega (arith, r.0 0 n))) (Memᴰ.cases_cons m)

parent_base : (p b : ℕ) (cs w : List ℕ) → 2 * p < length w → base_at (put_parent p b cs w) p ≡ b
unfolding put_parent
parent_base p b [] w h = base_same w p b h
parent_base p b (zero ∷ cs) w h = base_of_check (set w (2 * p) b) p p _ ∙ base_same w p b h
parent_base p b (suc c ∷ cs) w h = base_same w p b h

parent_flag : (p b : ℕ) (cs w : List ℕ) → 2 * p + 1 < length w → check_at w p < 2 ^ 31 → check_at (put_parent p b cs w) p ≡ flag_of cs + parent_at w p
unfolding put_parent flag_of
parent_flag p b [] w h l = check_of_base w p p b ∙ omega arith
parent_flag p b (zero ∷ cs) w h l = check_same (set w (2 * p) b) p _ (omega (arith, length-set w (2 * p) b))
parent_flag p b (suc c ∷ cs) w h l = check_of_base w p p b ∙ omega arith

-- ---- a slot that placing may go into, and its children

-- the slot's check is its parent alone, without HAS_LEAF
pub record Plain (S : ℕ) (w : List ℕ) (p : ℕ) : Type 0 where
  pub ready : Ready S w p
  pub plain : check_at w p < 2 ^ 31

-- that is still so after a step of other slots
pub plain_after : {S p : ℕ} {A : ℕ → Type 0} {w u : List ℕ} → Plain S w p → Step S A w u → (A p → ⊥) → Plain S u p
plain_after {p = p} r s n = record { ready = ready_after r.ready s; plain = omega (arith, r.plain, (s.kept p r.ready.taken n).1) }

module _ (S p v : ℕ) (cs w : List ℕ) (b : ℕ) (x : List ℕ) (start : Plain S w p) (up : Settled S p v cs w b x) (rising : Rising cs) where
  first : Step S (λ t. t ≡ p) w x
  first = settle_step S p v cs w b x start.ready up rising

  free : AllFree S w b cs
  free = settle_free S p v cs w b x start.ready up

  parent_is : (c : ℕ) → Memᴰ c cs → check_at x (slot_under b c) ≡ p
  parent_is = settle_parent S p v cs w b x start.ready up rising

  -- placing may go into the children
  pub settle_plain : (c : ℕ) → Memᴰ c cs → Plain S x (slot_under b c)
  settle_plain c m = record { ready = settle_ready S p v cs w b x start.ready up rising c m; plain = omega (arith, parent_is c m, start.ready.to, start.ready.slots) }

  -- once it has gone into them
  module _ (u : List ℕ) (second : Step S (Inner b cs) x u) where
    apart : (c : ℕ) → Memᴰ c cs → p ≢ slot_under b c
    apart c m e = start.ready.taken (subst (λ (y : ℕ). Free w y) (sym e) (free c m).0)

    held : (c : ℕ) → Memᴰ c cs → Taken x (slot_under b c)
    held c m = (settle_plain c m).ready.taken

    own : Same (put_parent p b cs w) x p
    own = subst (λ (y : List ℕ). Same (put_parent p b cs w) y p) (sym up.is) (children_same p v b cs (put_parent p b cs w) p apart)

    own_later : Same x u p
    unfolding Same
    own_later = second.kept p (first.stays p start.ready.taken) (λ a. apart a.0 a.1 a.3)

    leaf_later : Memᴰ 0 cs → Same x u (slot_under b 0)
    unfolding Same
    leaf_later m = second.kept (slot_under b 0) (held 0 m) (λ a. omega (arith, slot_injective b 0 a.0 a.3, a.2))

    pub settle_node : Node S w u p cs v b
    unfolding Same
    settle_node = record {
      base_is = own_later.0 ∙ own.0 ∙ parent_base p b cs w (omega (arith, start.ready.room, start.ready.to));
      small = up.small;
      flag =
          own_later.1 ∙ own.1 ∙ parent_flag p b cs w (omega (arith, start.ready.room, start.ready.to)) start.plain
          ∙ ap (λ (y : ℕ). flag_of cs + y) (sym (second.parent p (first.stays p start.ready.taken) ∙ first.parent p start.ready.taken));
      new = free;
      parent_is = λ c m. (second.parent (slot_under b c) (held c m) ∙ omega (arith, parent_is c m, start.ready.to, start.ready.slots), second.stays (slot_under b c) (held c m));
      leaf = λ m. (
        (leaf_later m).0 ∙ ap (λ (y : List ℕ). base_at y (slot_under b 0)) up.is
            ∙ children_leaf p v b cs (put_parent p b cs w) rising (omega (arith, start.ready.room, (free 0 m).1, put_parent_size p b cs w)) m,
        (leaf_later m).1 ∙ parent_is 0 m,
      );
    }
