-- A step and a value as the code finds them, test by test. Results of calls are variables, so that a proof can cite a law
-- without saying where in the code they come from.
use Rattle.std.specs.Prelude.{ℕ, ◌≤◌, ◌<◌, ◌≡◌, List, Bool, true, false, not, ltb, eqb, Option, Some, None}
use Rattle.std.proofs.Common.{sym, ap, ◌∙◌}
use borrow.Author.Tests.{lt-ltb, le-ltb}
use Rattle.lxtr_spec.specs.Image.{slot_count, is_leaf, has_leaf, parent, has_parent, value_number, slot_from, list_width, code_of}
use Rattle.lxtr_spec.specs.Walks.{step, step_by, leaf_value, value_at, longer_at}
use Rattle.lxtr_laws.specs.Tests.{outcome, not_is_true, not_is_false}
use Rattle.lxtr_laws.specs.StepFacts.{step_is}

-- what an answer says once it has been matched on
pub found_is : (f : Option ℕ) (t : ℕ) (o : Option ℕ) → f ≡ o → f ≡ Some t → o ≡ Some t
found_is f t o e h = sym e ∙ h

pub found_none : (f : Option ℕ) (o : Option ℕ) → f ≡ o → f ≡ None → o ≡ None
found_none f o e h = sym e ∙ h

-- whether slot t exists and has n as parent
module _ (b : List ℕ) (t n slots : ℕ) (count : slots ≡ slot_count b) where
  pub parent_outside : slots ≤ t → false ≡ has_parent b t n
  unfolding has_parent
  parent_outside h = rw (← count, le-ltb t slots h)

  pub parent_inside : (p : ℕ) → t < slots → p ≡ parent b t → eqb p n ≡ has_parent b t n
  unfolding has_parent
  parent_inside p h e = rw (← count, lt-ltb t slots h, e)

-- the step by code c from slot n
module _ (b : List ℕ) (n c : ℕ) where
  -- l is whether n is a leaf
  module _ (l : Bool) (leaf : l ≡ is_leaf b n) where
    pub step_from_leaf : l ≡ true → None ≡ step b n c
    unfolding step
    step_from_leaf h = rw (outcome l _ _ leaf h)

    -- t is the slot that the code joins to n, and r whether it exists and has n as parent
    module _ (t : ℕ) (r : Bool) (inner : l ≡ false) (at : t ≡ slot_from b n c) (child : r ≡ has_parent b t n) where
      pub step_to_other : not r ≡ true → None ≡ step b n c
      unfolding step
      step_to_other h = rw (outcome l _ _ leaf inner, ← at, outcome r _ _ child ((not_is_true r).0 h))

      pub step_to_child : not r ≡ false → Some t ≡ step b n c
      unfolding step
      step_to_child h = rw (outcome l _ _ leaf inner, ← at, outcome r _ _ child ((not_is_false r).0 h))

  -- f is what the step answered
  pub step_below : (f : Option ℕ) (t : ℕ) → f ≡ step b n c → f ≡ Some t → t < slot_count b
  step_below f t e h = ((step_is b n c t).0 (found_is f t (step b n c) e h)).below

-- a step by label x, for which the code map answered f
module _ (b : List ℕ) (n x : ℕ) (f : Option ℕ) (code : f ≡ code_of b x) where
  pub step_unlisted : f ≡ None → None ≡ step_by b n x
  unfolding step_by
  step_unlisted h = rw (step_by, found_none f (code_of b x) code h)

  pub step_listed : (c : ℕ) (r : Option ℕ) → f ≡ Some c → r ≡ step b n c → r ≡ step_by b n x
  unfolding step_by
  step_listed c r h e = rw (step_by, found_is f c (code_of b x) code h, e)

-- the value at slot n, whose HAS_LEAF is h
module _ (b : List ℕ) (n : ℕ) (h : Bool) (flag : h ≡ has_leaf b n) where
  pub value_no_flag : not h ≡ true → None ≡ value_at b n
  unfolding value_at
  value_no_flag k = rw (value_at, outcome h _ _ flag ((not_is_true h).0 k))

  -- f is what the step by 0 answered
  module _ (f : Option ℕ) (set : not h ≡ false) (end : f ≡ step b n 0) where
    pub value_no_end : f ≡ None → None ≡ value_at b n
    unfolding value_at
    value_no_end k = rw (value_at, outcome h _ _ flag ((not_is_false h).0 set), found_none f (step b n 0) end k)

    module _ (t : ℕ) (l : Bool) (is : f ≡ Some t) (leaf : l ≡ is_leaf b t) where
      pub value_no_leaf : not l ≡ true → None ≡ value_at b n
      unfolding value_at leaf_value
      value_no_leaf k = rw (value_at, outcome h _ _ flag ((not_is_false h).0 set), found_is f t (step b n 0) end is, outcome l _ _ leaf ((not_is_true l).0 k))

      pub value_at_leaf : (v : ℕ) → not l ≡ false → v ≡ value_number b t → Some v ≡ value_at b n
      unfolding value_at leaf_value
      value_at_leaf v k e = rw (value_at, outcome h _ _ flag ((not_is_false h).0 set), found_is f t (step b n 0) end is, outcome l _ _ leaf ((not_is_false l).0 k), e)

-- whether longer keys exist at slot n, whose HAS_LEAF is h and whose list has width w
module _ (b : List ℕ) (n : ℕ) (h : Bool) (w : ℕ) (flag : h ≡ has_leaf b n) (width : w ≡ list_width b n) where
  pub longer_with_leaf : h ≡ true → ltb 1 w ≡ longer_at b n
  unfolding longer_at
  longer_with_leaf k = rw (outcome h _ _ flag k, width)

  pub longer_without_leaf : h ≡ false → ltb 0 w ≡ longer_at b n
  unfolding longer_at
  longer_without_leaf k = rw (outcome h _ _ flag k, width)
