-- Every place of the children array is in the list of one slot.
-- Codes rise along a list, so no slot is listed twice.
use Rattle.std.specs.Prelude.{ℕ, zero, suc, ◌+◌, ◌-◌, ◌≤◌, ◌<◌, ◌≡◌, ◌≢◌, List}
use Rattle.std.proofs.Common.{le_refl, add-one, arith, sym, ap, ◌∙◌}
use Rattle.std.proofs.Math.Decide.{dec_lt}
use Rattle.lxtr_spec.specs.Image.{code_to, slot_count, parent, offset, child}
use Rattle.lxtr_spec.specs.Sets.{InList, ListsFit}
use Rattle.lxtr_laws.specs.ListPlaces.{in_children}

-- the lists hold children of their slots, by ascending code
pub record ListsSorted (b : List ℕ) : Type 0 where
  pub members : (p j : ℕ) → 1 ≤ p → p < slot_count b → InList b p j → (2 ≤ child b j) × (child b j < slot_count b) × (parent b (child b j) ≡ p)
  pub ascending : (p j : ℕ) → 1 ≤ p → p < slot_count b → InList b p j → InList b p (j + 1)
      → code_to b p (child b j) < code_to b p (child b (j + 1))
  pub none_of_zero : offset b 1 ≡ offset b 0
  pub first : offset b 0 ≡ 0
  pub rising : (p : ℕ) → p < slot_count b → offset b p ≤ offset b (p + 1)

pub lists_sorted : {b : List ℕ} → ListsFit b → ListsSorted b
lists_sorted l = record { members = l.members; ascending = l.ascending; none_of_zero = l.none_of_zero; first = l.first; rising = l.rising }

-- the slot in whose list place j is
pub record PlaceInList (b : List ℕ) (j : ℕ) : Type 0 where
  pub slot : ℕ
  pub from : 1 ≤ slot
  pub to : slot < slot_count b
  pub within : InList b slot j

module _ {b : List ℕ} (sorted_lists : ListsSorted b) where
  place_below : (n j : ℕ) → n ≤ slot_count b → j < offset b n → PlaceInList b j
  place_below zero j l h = absurd (omega (arith, sorted_lists.first))
  place_below (suc zero) j l h = absurd (omega (arith, sorted_lists.none_of_zero, sorted_lists.first))
  place_below (suc (suc n)) j l h = go (place_below (suc n) j (omega arith)) (dec_lt j (offset b (suc n)))
    where
      go : (j < offset b (suc n) → PlaceInList b j) → Dec (j < offset b (suc n)) → PlaceInList b j
      go ih (yes k) = ih k
      go ih (no k) = record { slot = suc n; from = omega arith; to = omega arith; within = record { from = omega arith; to = rw (add-one (suc n)) h } }

  pub list_of_place : (j : ℕ) → j < offset b (slot_count b) → PlaceInList b j
  list_of_place j h = place_below (slot_count b) j (le_refl (slot_count b)) h

  -- a place in a list is a place of the array
  pub in_array : (p j : ℕ) → p < slot_count b → InList b p j → j < offset b (slot_count b)
  in_array = in_children b sorted_lists.rising

  module _ (p : ℕ) (f : 1 ≤ p) (t : p < slot_count b) where
    codes_rise : (i m : ℕ) → InList b p i → InList b p (i + suc m) → code_to b p (child b i) < code_to b p (child b (i + suc m))
    codes_rise i zero u v = sorted_lists.ascending p i f t u v
    codes_rise i (suc m) u v =
        let w : InList b p (i + suc m) = record { from = omega (arith, u.from); to = omega (arith, v.to) } in
        let e : i + suc (suc m) ≡ i + suc m + 1 = omega arith in
        let c = codes_rise i m u w in
        let a = sorted_lists.ascending p (i + suc m) f t w (rw e at v) in
        rw e (omega arith)

    pub code_rises : (i j : ℕ) → InList b p i → InList b p j → i < j → code_to b p (child b i) < code_to b p (child b j)
    code_rises i j u v h = let e : i + suc (j - suc i) ≡ j = omega arith in rw e at (codes_rise i (j - suc i) u (rw e v))

    listed_later : (i j : ℕ) → InList b p i → InList b p j → i < j → child b i ≢ child b j
    listed_later i j u v h e = omega (arith, code_rises i j u v h, ap (code_to b p) e)

    listed_once : (i j : ℕ) → InList b p i → InList b p j → child b i ≡ child b j → i ≡ j
    listed_once i j u v e =
        let not-less : ¬ (i < j) = λ h. listed_later i j u v h e in
        let not_more : ¬ (j < i) = λ h. listed_later j i v u h (sym e) in
        omega arith

  -- no slot is listed twice
  pub children_differ : (i j : ℕ) → i < offset b (slot_count b) → j < offset b (slot_count b) → child b i ≡ child b j → i ≡ j
  children_differ i j h k e =
      let o = list_of_place i h in
      let q = list_of_place j k in
      let same : q.slot ≡ o.slot =
      sym (sorted_lists.members q.slot j q.from q.to q.within).2 ∙ ap (parent b) (sym e) ∙ (sorted_lists.members o.slot i o.from o.to o.within).2 in
      listed_once o.slot o.from o.to i j o.within (rw same at q.within) e
