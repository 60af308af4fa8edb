-- An entry lies in the list of the slot that `list_of` gives. No list before it ends after the entry, and from one entry to the next
-- the slot does not go down: so one pass over the slots finds the slots of all entries.
use Prim.Native.Nat.{ℕ, zero, suc, ◌+◌, ◌≤◌, ◌<◌}
use Rattle.std.specs.Prelude.{◌≡◌, List, leb, ltb, Option, Some, None, MatchOption}
use Rattle.std.specs.Option.{unwrap_or}
use Rattle.std.proofs.Common.{add-one, arith}
use Rattle.std.proofs.Math.Decide.{dec_lt}
use borrow.Author.Tests.{le-leb, leb-true, ltb-true, ltb-false}
use Rattle.lxtr_spec.specs.Image.{slot_count, child_count, offset}
use Rattle.lxtr_laws.specs.Tests.{and_is_true, and_is_false}
use Rattle.lxtr_laws.specs.Passed.{Passed}
use Rattle.lxtr_laws.specs.Firsts.{FirstBelow, first_below_lem}
use Rattle.lxtr_command_spec.specs.Drawings.{lies_in, list_of}

module _ (b : List ℕ) (j : ℕ) where
  first_list : FirstBelow (lies_in b j) (slot_count b) (list_of b j)
  unfolding list_of
  first_list = first_below_lem (lies_in b j) (slot_count b)

  pub list_bounds : list_of b j < slot_count b → (offset b (list_of b j) ≤ j) × (j < offset b (list_of b j + 1))
  unfolding lies_in
  list_bounds h =
      let p = list_of b j in
      let e = (and_is_true (leb (offset b p) j) (ltb j (offset b (p + 1)))).0 (first_list.here h) in
      (leb-true (offset b p) j e.0, ltb-true j (offset b (p + 1)) e.1)

  module _ (passed : Passed b) where
    -- no list up to that one begins after the entry
    before : (p : ℕ) → p ≤ list_of b j → offset b p ≤ j
    unfolding lies_in
    before zero h = omega (arith, passed.first)
    before (suc p) h =
        let begins = le-leb (offset b p) j (before p (omega arith)) in
        let ends = (and_is_false (leb (offset b p) j) (ltb j (offset b (p + 1)))).0 (first_list.none p (omega arith)) begins in
        rw (add-one p) at (ltb-false j (offset b (p + 1)) ends)

    -- the lists together reach the number of children, so there is such a slot
    pub list_there : j < child_count b → list_of b j < slot_count b
    list_there h = go (dec_lt (list_of b j) (slot_count b))
      where
        go : Dec (list_of b j < slot_count b) → list_of b j < slot_count b
        go (yes l) = l
        go (no g) = absurd (omega (arith, before (slot_count b) (omega arith), passed.last))

    -- o is what a search for the first list that ends after the entry answers, which starts at slot `from`; n is the number of slots
    pub list_found : (from n : ℕ) (o : Option ℕ) → from ≤ list_of b j → j < child_count b → n ≡ slot_count b
        → MatchOption o ((k : ℕ) → from ≤ k → k < n → offset b (k + 1) ≤ j) (λ p. (from ≤ p) × (p < n) × (j < offset b (p + 1)) × ((k : ℕ) → from ≤ k → k < p → offset b (k + 1) ≤ j))
        → unwrap_or o n ≡ list_of b j
    list_found from n None h l e none =
        let there : list_of b j < slot_count b = list_there l in
        absurd (omega (arith, none (list_of b j) h (omega arith), (list_bounds there).1))
    list_found from n (Some p) h l e (at, slot, ends, none) = go (dec_lt p (list_of b j)) (dec_lt (list_of b j) p)
      where
        go : Dec (p < list_of b j) → Dec (list_of b j < p) → p ≡ list_of b j
        go (yes k) d = absurd (omega (arith, before (p + 1) (omega arith)))
        go (no g) (yes k) = absurd (omega (arith, none (list_of b j) h k, (list_bounds (list_there l)).1))
        go (no g) (no f) = omega arith

-- the slot of the next entry is not before that of this one
pub list_on : (b : List ℕ) (j p : ℕ) → Passed b → p ≡ list_of b j → p ≤ list_of b (j + 1)
list_on b j p passed e = go (dec_lt (list_of b (j + 1)) p)
  where
    go : Dec (list_of b (j + 1) < p) → p ≤ list_of b (j + 1)
    go (no g) = omega arith
    go (yes l) =
        let q = list_of b (j + 1) in
        absurd (omega (arith, before b j passed (q + 1) (omega arith), (list_bounds b (j + 1) (omega (arith, (first_list b j).to))).1))

-- so each entry lies in the list of the slot from which it is drawn, whatever the offsets between the first and the last are
pub in_its_list : (b : List ℕ) (j : ℕ) → Passed b → j < child_count b → (list_of b j < slot_count b) × (offset b (list_of b j) ≤ j) × (j < offset b (list_of b j + 1))
in_its_list b j passed h =
    let l = list_there b j passed h in
    (l, (list_bounds b j l).0, (list_bounds b j l).1)
