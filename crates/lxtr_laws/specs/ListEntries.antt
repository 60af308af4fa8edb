-- What is known of the children lists of an accepted image: their places, entries and codes are within bounds.
use Rattle.std.specs.Prelude.{ℕ, ◌+◌, ◌-◌, ◌≤◌, ◌<◌, ◌≡◌, ◌≢◌, List, Bool, false}
use Rattle.std.proofs.Common.{sym, ◌∙◌, inl, inr, le_refl, arith}
use Rattle.lxtr_spec.specs.Image.{slot_count, child_count, is_leaf, code_to, offset, child, label_count}
use Rattle.lxtr_spec.specs.Refusals.{own_code}
use Rattle.lxtr_spec.specs.Sets.{InList}
use Rattle.lxtr_laws.specs.Tests.{outcome, eqb_is_false}
use Rattle.lxtr_laws.specs.Passed.{Whole, Passed}
use Rattle.lxtr_laws.specs.Facts.{UsedFrom2, Used, UsedRight, EntryRight, Accepted}
use Rattle.lxtr_laws.specs.EntryPlaces.{ListsSorted, list_of_place, in_array}

-- an entry is a used slot from 2 up
entry_used : {b : List ℕ} {p j : ℕ} → EntryRight b p j → UsedFrom2 b (child b j)
entry_used {b} {p} {j} e = go e.used
  where
    go : Used b (child b j) → UsedFrom2 b (child b j)
    go (inl z) = absurd (omega (arith, e.from))
    go (inr u) = u

-- Offsets that don't fall, and right entries: what is known once these two kinds of fault of rule 11 are ruled out.
pub record EntriesRight (b : List ℕ) : Type 0 where
  pub passed : Passed b
  pub rising : (p : ℕ) → p < slot_count b → offset b p ≤ offset b (p + 1)
  pub entry : (p j : ℕ) → p < slot_count b → InList b p j → EntryRight b p j

module _ {b : List ℕ} (right : EntriesRight b) where
  no_list_of_zero : offset b 1 ≡ offset b 0
  no_list_of_zero = omega (arith, right.rising 0 some_slot, no_entry)
    where
      some_slot : 0 < slot_count b
      some_slot = omega (arith, right.passed.whole.sized.slots_from)

      no_entry : ¬ (offset b 0 < offset b 1)
      no_entry h = let e = right.entry 0 (offset b 0) some_slot (record { from = le_refl (offset b 0); to = h }) in (entry_used e).1 e.up

  pub entries_sorted : ListsSorted b
  entries_sorted = record {
    members = λ p j f t i. let e = right.entry p j t i in (e.from, e.to, e.up);
    ascending = λ p j f t i k. let z : j + 1 - 1 ≡ j = omega arith in rw z at ((right.entry p (j + 1) t k).above (omega (arith, i.from)));
    none_of_zero = no_list_of_zero;
    first = right.passed.first;
    rising = right.rising;
  }

  pub listed_used : (j : ℕ) → j < child_count b → (child b j < slot_count b) × UsedFrom2 b (child b j)
  listed_used j h =
      let o = list_of_place entries_sorted j (omega (arith, right.passed.last)) in
      let e = right.entry o.slot j o.to o.within in
      (e.to, entry_used e)

module _ {b : List ℕ} (ok : Accepted b) where
  pub accepted_passed : Passed b
  accepted_passed =
      let f = ok.framed in
      record {
        whole = record { sized = record { header = omega (arith, f.size); slots_from = f.slots.0; slots_to = f.slots.1; children = f.children }; size = f.size };
        labels = f.labels;
        map_size = f.map_size;
        first = ok.first;
        last = ok.last;
      }

  pub accepted_whole : Whole b
  accepted_whole = accepted_passed.whole

  pub accepted_entries : EntriesRight b
  accepted_entries = record { passed = accepted_passed; rising = ok.lists.rising; entry = ok.lists.entry }

  pub sorted_lists : ListsSorted b
  sorted_lists = entries_sorted accepted_entries

  pub child_used : (j : ℕ) → j < child_count b → (child b j < slot_count b) × UsedFrom2 b (child b j)
  child_used = listed_used accepted_entries

  -- place j is in the list of slot n
  module _ (n j : ℕ) (slot : n < slot_count b) (place : InList b n j) where
    pub place_below : j < child_count b
    place_below = rw (← ok.last) (in_array sorted_lists n j slot place)

    -- s is the child there
    module _ (s : ℕ) (at : s ≡ child b j) where
      pub child_below : s < slot_count b
      child_below = rw at (ok.lists.entry n j slot place).to

      -- l is whether it is a leaf, and c the code to it
      module _ (l : Bool) (c : ℕ) (leaf : l ≡ is_leaf b s) (inner : l ≡ false) (code : c ≡ code_to b n s) where
        own_code_lem : c ≡ own_code b (child b j)
        unfolding own_code
        own_code_lem = code ∙ rw (at, (ok.lists.entry n j slot place).up)

        child_right : UsedRight b (child b j)
        child_right = let e = ok.lists.entry n j slot place in (ok.slots (child b j) e.to).used (entry_used e)

        -- the code is from 1 up to the number of labels
        pub code_from_lem : 1 ≤ c
        code_from_lem =
            let is : is_leaf b (child b j) ≡ false = rw (← at) (outcome l _ _ leaf inner) in
            let z : c ≢ 0 = λ e. (eqb_is_false (own_code b (child b j)) 0).0 (sym child_right.leaf_code ∙ is) (sym own_code_lem ∙ e) in
            omega arith

        pub code_below : c - 1 < label_count b
        code_below = omega (arith, code_from_lem, own_code_lem, child_right.code_listed)
