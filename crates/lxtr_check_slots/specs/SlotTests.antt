-- Rule 10 as the code tests it. Results of calls are variables: each law says which definition equals what one return computes.
use Rattle.std.specs.Prelude.{ℕ, ◌≤◌, ◌<◌, ◌≡◌, ◌≢◌, List, Bool, ◌||◌, not, ltb, eqb}
use Rattle.std.proofs.Math.Bool.{true, false, or-false}
use Rattle.std.specs.Bool.{beq}
use Rattle.std.proofs.Common.{arith}
use borrow.Author.Tests.{le-leb, lt-leb, eq-eqb, ne_eqb}
use Rattle.lxtr_spec.specs.Image.{slot_count, is_leaf, parent, code_to, label_count}
use Rattle.lxtr_spec.specs.Refusals.{is_used_from2, is_used, own_code, both_zero, used_slot_wrong, flag_wrong, slot_wrong}
use Rattle.lxtr_laws.specs.Tests.{outcome, not_is_true, not_is_false}
use Rattle.lxtr_laws.specs.RangeTests.{tests}
use Rattle.lxtr_laws.specs.Faults.{used_from_2}

-- a slot from 2 up that is unused has parent 0
no_parent : (b : List ℕ) (s : ℕ) → 2 ≤ s → is_used_from2 b s ≡ false → parent b s ≡ 0
unfolding is_used_from2
no_parent b s h e = simp tests at e h

-- a used slot s from 2 up, whose parent is p
module _ (b : List ℕ) (s p slots : ℕ) (count : slots ≡ slot_count b) (up : p ≡ parent b s) where
  pub parent_past : slots ≤ p → true ≡ used_slot_wrong b s
  unfolding used_slot_wrong
  parent_past h = rw (← up, ← count, le-leb slots p h)

  -- c is its code
  pub parent_tested : (u l t : Bool) (c labels : ℕ) → p < slots → c ≡ code_to b p s → u ≡ is_used b p → l ≡ is_leaf b p → labels ≡ label_count b → t ≡ is_leaf b s
      → (not u || l || ltb labels c || not (beq t (eqb c 0))) ≡ used_slot_wrong b s
  unfolding used_slot_wrong own_code
  parent_tested u l t c labels h code used leaf listed own = rw (← up, ← count, lt-leb slots p h, ← code, ← used, ← leaf, ← listed, ← own)

-- slot s by its kind; f is whether its flag is wrong
module _ (b : List ℕ) (s : ℕ) where
  pub slot_zero : (z : Bool) → s ≡ 0 → z ≡ both_zero b s → not z ≡ slot_wrong b s
  unfolding slot_wrong is_used_from2
  slot_zero z h e = rw (← e, h, or-false, or-false, or-false, or-false)

  module _ (f : Bool) (flag : f ≡ flag_wrong b s) where
    pub slot_one : (l : Bool) (p : ℕ) → s ≡ 1 → l ≡ is_leaf b s → p ≡ parent b s → (l || not (eqb p 0) || f) ≡ slot_wrong b s
    unfolding slot_wrong is_used_from2
    slot_one l p h leaf up = rw (← flag, ← leaf, ← up, h, or-false, or-false)

    -- u is whether it is a used slot from 2 up
    module _ (u : Bool) (h : s ≢ 0) (k : s ≢ 1) (used : u ≡ is_used_from2 b s) where
      pub slot_unused : (z : Bool) → not u ≡ true → z ≡ both_zero b s → (not z || f) ≡ slot_wrong b s
      unfolding slot_wrong
      slot_unused z n e =
          let none : is_used_from2 b s ≡ false = outcome u _ _ used ((not_is_true u).0 n) in
          rw (none, eq-eqb (parent b s) 0 (no_parent b s (omega arith) none), ← flag, ← e, ne_eqb s 0 h, ne_eqb s 1 k, le-leb 2 s (omega arith), le-leb 1 s (omega arith), or-false)

      pub slot_used : (w : Bool) → not u ≡ false → w ≡ used_slot_wrong b s → (w || f) ≡ slot_wrong b s
      unfolding slot_wrong
      slot_used w n e =
          let is : is_used_from2 b s ≡ true = outcome u _ _ used ((not_is_false u).0 n) in
          rw (is, ne_eqb (parent b s) 0 ((used_from_2 b s).0 is).1, ← flag, ← e, ne_eqb s 0 h, ne_eqb s 1 k, le-leb 2 s (omega arith), le-leb 1 s (omega arith))
