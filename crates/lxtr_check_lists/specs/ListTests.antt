-- Rule 11 as the code tests it. Results of calls are variables: each law says which definition equals what one return computes.
use Rattle.std.specs.Prelude.{ℕ, ◌+◌, ◌-◌, ◌≤◌, ◌<◌, ◌≡◌, List, Bool, true, false, ◌||◌, not, leb, ltb, eqb}
use Rattle.std.proofs.Math.Path.{refl}
use Rattle.std.proofs.Math.Bool.{or-true, or-false}
use Rattle.std.proofs.Common.{add-one, arith}
use borrow.Author.Tests.{lt-ltb, le-ltb, le-leb, lt-leb}
use Rattle.lxtr_spec.specs.Ranges.{any_below}
use Rattle.lxtr_spec.specs.Image.{slot_count, child_count, parent, code_to, offset, child, list_width}
use Rattle.lxtr_spec.specs.Refusals.{is_used, offset_falls, used_count, entry_wrong, code_not_above, entries_wrong, childless, root_wrong, lists_wrong}
use Rattle.lxtr_laws.specs.Passed.{Passed}
use Rattle.lxtr_laws.specs.ListPlaces.{in_list, in_children}
use Rattle.lxtr_laws.specs.Faults.{offsets_right}

-- a loop over all numbers below a bound m: r is whether one of those below i passes the test f
pub record AnySoFar (f : ℕ → Bool) (i m : ℕ) (r : Bool) : Type 0 where
  pub to : i ≤ m
  pub any : r ≡ any_below i f

module _ (f : ℕ → Bool) (m : ℕ) where
  pub any_start : AnySoFar f 0 m false
  unfolding any_below
  any_start = record { to = omega arith; any = refl }

  module _ (i : ℕ) (r : Bool) (s : AnySoFar f i m r) where
    pub any_next : (t : Bool) → i < m → t ≡ f i → AnySoFar f (i + 1) m (r || t)
    unfolding any_below
    any_next t h e = record { to = omega arith; any = rw (add-one, any_below, ← e, ← s.any) }

-- if no offset falls, entry i of the list of slot p, which is w wide, lies in the children array
pub entry_place : (b : List ℕ) (p i w : ℕ) → Passed b → any_below (slot_count b) (offset_falls b) ≡ false → p < slot_count b → w ≡ list_width b p → i < w → offset b p + i < child_count b
entry_place b p i w ok rising slot wide h = omega (arith, ok.last, in_children b ((offsets_right b).0 rising) p (offset b p + i) slot ((in_list b p (offset b p + i)).1 (omega arith)))

-- entry j, which is t
module _ (b : List ℕ) (p j t slots : ℕ) (count : slots ≡ slot_count b) (at : t ≡ child b j) where
  pub entry_past : slots ≤ t → true ≡ entry_wrong b p j
  unfolding entry_wrong
  entry_past h = rw (← at, ← count, le-leb slots t h, or-true)

  pub entry_tested : (u : Bool) (q : ℕ) → t < slots → u ≡ is_used b t → q ≡ parent b t → (ltb t 2 || not u || not (eqb q p)) ≡ entry_wrong b p j
  unfolding entry_wrong
  entry_tested u q h used up = rw (← at, ← count, lt-leb slots t h, or-false, ← used, ← up)

-- the code of entry j; o is where the list starts
module _ (b : List ℕ) (p j o : ℕ) (from : o ≡ offset b p) where
  pub code_first : j ≤ o → false ≡ code_not_above b p j
  unfolding code_not_above
  code_first h = rw (← from, le-ltb o j h)

  pub code_later : (c d t u : ℕ) → o < j → t ≡ child b j → u ≡ child b (j - 1) → c ≡ code_to b p t → d ≡ code_to b p u → leb c d ≡ code_not_above b p j
  unfolding code_not_above
  code_later c d t u h at before code last = rw (← from, lt-ltb o j h, ← at, ← before, ← code, ← last)

-- r is whether some offset falls
module _ (b : List ℕ) (r : Bool) (falls : r ≡ any_below (slot_count b) (offset_falls b)) where
  pub lists_fall : r ≡ true → true ≡ lists_wrong b
  unfolding lists_wrong
  lists_fall h = rw (← falls, h)

  pub lists_tested : (e u : ℕ) (w c o : Bool) → r ≡ false → e ≡ child_count b → u ≡ used_count b → w ≡ any_below (slot_count b) (entries_wrong b) → c ≡ any_below (slot_count b) (childless b) → o ≡ root_wrong b
      → (not (eqb e u) || w || c || o) ≡ lists_wrong b
  unfolding lists_wrong
  lists_tested e u w c o h children used entries lone root = rw (← falls, h, ← children, ← used, ← entries, ← lone, ← root)
