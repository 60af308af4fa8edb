-- The words that are stored when a slot is settled.
use Prim.Native.Nat.{ℕ, zero, suc, ◌+◌, ◌*◌, ◌/◌, ◌^◌, ◌%◌, ◌≤◌, ◌<◌}
use Rattle.std.specs.Prelude.{◌≡◌, ◌≢◌, get_or, length, Option, Some, None}
use Rattle.std.proofs.Math.Path.{refl, sym, ap}
use Rattle.std.proofs.Common.{◌∙◌, arith}
use mathlib.Core.List.{List, [], ◌∷◌}
use Rattle.std.proofs.Math.ListN.{set}
use Rattle.lxtr_spec.specs.Labels.{max_slots}
use Rattle.lxtr_spec.specs.Joining.{slot_under}
use Rattle.lxtr_spec.specs.Placing.{check_at, first_fit, put_child, put_children, put_parent, settle}
use Rattle.lxtr_laws.specs.Members.{member_at}
use Rattle.lxtr_build_laws.specs.SlotWords.{check_of_base}
use Rattle.lxtr_build_laws.specs.PlacingSteps.{Ready}
use Rattle.lxtr_build_laws.specs.FirstFit.{first_fit_some, AllFree, fits_free}
use Rattle.lxtr_build_laws.specs.SettledSlots.{put_child_size}
use Rattle.lxtr_build_laws.specs.SlotLoops.{SlotsBelow, each_step, StepsSoFar, steps_next, steps_end, children_each}
use Rattle.lxtr_fit.specs.FreeMaps.{FreeMap, taken_by}
use Rattle.lxtr_fit.specs.TakenSlots.{settled_map}

-- the base that the code answers, and the work after that
unfoldable pub settled_as : Option ℕ → List ℕ → Option (ℕ × List ℕ)
settled_as (Some b) w = Some (b, w)
settled_as None w = None

-- ---- a slot's own words

module _ (p b : ℕ) (w : List ℕ) where
  pub parent_none : (cs : List ℕ) → length cs ≡ 0 → set w (2 * p) b ≡ put_parent p b cs w
  unfolding put_parent
  parent_none [] h = refl
  parent_none (c ∷ cs) h = absurd (omega arith)

  pub parent_plain : (cs : List ℕ) → length cs ≢ 0 → get_or cs 0 0 ≢ 0 → set w (2 * p) b ≡ put_parent p b cs w
  unfolding put_parent
  parent_plain [] h n = absurd (h refl)
  parent_plain (zero ∷ cs) h n = absurd (n refl)
  parent_plain (suc c ∷ cs) h n = refl

  pub parent_of_end : (cs : List ℕ) → length cs ≢ 0 → get_or cs 0 0 ≡ 0
      → set (set w (2 * p) b) (2 * p + 1) (2147483648 + get_or (set w (2 * p) b) (2 * p + 1) 0 % 2147483648) ≡ put_parent p b cs w
  unfolding put_parent check_at
  parent_of_end [] h z = absurd (h refl)
  parent_of_end (zero ∷ cs) h z = ap (λ (x : ℕ). set (set w (2 * p) b) (2 * p + 1) (2 ^ 31 + x % 2 ^ 31)) (check_of_base w p p b)
  parent_of_end (suc c ∷ cs) h z = absurd (omega arith)

-- ---- one child's words

module _ (p v b : ℕ) (w : List ℕ) (t : ℕ) where
  pub child_put : (c : ℕ) → t ≡ slot_under b c → c ≢ 0 → set w (2 * t + 1) p ≡ put_child p v b c w
  unfolding put_child
  child_put zero e n = absurd (n refl)
  child_put (suc c) e n = rw e refl

  pub end_put : (c : ℕ) → t ≡ slot_under b c → c ≡ 0 → set (set w (2 * t) (2147483648 + v)) (2 * t + 1) p ≡ put_child p v b c w
  unfolding put_child
  end_put zero e z = rw e refl
  end_put (suc c) e z = absurd (omega arith)

-- ---- all children's words: those of the first j are stored

module _ (p v b : ℕ) (cs w₀ w : List ℕ) (j : ℕ) (s : StepsSoFar (put_child p v b) cs w₀ w j) where
  pub put_inside : SlotsBelow (length w₀ / 2) b cs → j < length cs → 2 * slot_under b (get_or cs j 0) + 1 < length w
  put_inside i h = omega (arith, i.each j h, s.size)

  pub put_next : (u : List ℕ) → j < length cs → u ≡ put_child p v b (get_or cs j 0) w → StepsSoFar (put_child p v b) cs w₀ u (j + 1)
  put_next u h e = steps_next (put_child p v b) cs w₀ w j s u h e (put_child_size p v b (get_or cs j 0) w)

  pub put_end : length cs ≤ j → w ≡ put_children p v b cs w₀
  put_end h = steps_end (put_child p v b) cs w₀ w j s h ∙ children_each p v b cs w₀

-- ---- a slot's own words and all children's

-- ---- settling

module _ (S p v : ℕ) (cs w : List ℕ) (r : Option ℕ) (answer : r ≡ first_fit S w cs) where
  pub settle_none : r ≡ None → (u : List ℕ) → settled_as None u ≡ settle S p v cs w
  unfolding settled_as settle
  settle_none e u =
      let z : first_fit S w cs ≡ None = sym answer ∙ e in
      sym (ap (λ (o : Option ℕ). elim o as (λ _. Option (ℕ × List ℕ)) [ None ↦ None | Some b ↦ Some (b, put_children p v b cs (put_parent p b cs w)) ]) z)

  module _ (b : ℕ) (is : r ≡ Some b) where
    fit : first_fit S w cs ≡ Some b
    fit = sym answer ∙ is

    children_free : AllFree S w b cs
    children_free = fits_free S w cs b (first_fit_some S w cs b fit).0.fit

    -- the children's slots are below S, so they are in the work and in the map
    below : (n : ℕ) → S ≤ n → SlotsBelow n b cs
    below n h = record { each = λ j l. omega (arith, (children_free (get_or cs j 0) (member_at 0 cs j l)).1) }

    pub settle_inside : Ready S w p → SlotsBelow (length w / 2) b cs
    settle_inside ready = below (length w / 2) (omega (arith, ready.room))

    pub settle_in_map : Ready S w p → SlotsBelow max_slots b cs
    settle_in_map ready = below max_slots ready.slots

    module _ (m : List ℕ) (l : ℕ) (ready : Ready S w p) (map : FreeMap S w m l) where
      -- they are taken in the map too
      pub settle_map : (u n : List ℕ) → u ≡ put_children p v b cs (put_parent p b cs w) → n ≡ each_step (taken_by b) cs m → FreeMap S u n l
      settle_map u n e q = rw (e, q) (settled_map S p v cs w m l b ready children_free map)

    pub settle_base : (u : List ℕ) → u ≡ put_children p v b cs (put_parent p b cs w) → settled_as (Some b) u ≡ settle S p v cs w
    unfolding settled_as settle
    settle_base u e =
        ap (λ (y : List ℕ). Some (b, y)) e
        ∙ sym (ap (λ (o : Option ℕ). elim o as (λ _. Option (ℕ × List ℕ)) [ None ↦ None | Some b ↦ Some (b, put_children p v b cs (put_parent p b cs w)) ]) fit)
