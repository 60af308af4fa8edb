-- The first wrong entry in all lists.
use Rattle.std.specs.Prelude.{ℕ, ◌+◌, ◌^◌, ◌<◌, ◌≡◌, refl, List, Bool, true, false, Option, Some, None, option_map, is_some}
use Rattle.std.proofs.Common.{arith, ◌∙◌}
use Rattle.lxtr_spec.specs.Ranges.{any_below, first_below}
use Rattle.lxtr_spec.specs.Image.{slot_count, offset, list_width}
use Rattle.lxtr_spec.specs.Refusals.{offset_falls, entry_wrong_in, entries_wrong}
use Rattle.lxtr_laws.specs.Passed.{Passed}
use Rattle.lxtr_laws.specs.Firsts.{some_first}
use Rattle.lxtr_laws.specs.FirstPlaces.{first_in, some_first_in, none_first_in, is_first_in, no_first_in, some_is_any}
use Rattle.lxtr_check_lists.specs.ListTests.{entry_place}

-- slot p, and the first wrong entry of its list, by its place in the children array
abbrev pub first_entry : List ℕ → ℕ → ℕ × ℕ
first_entry b p = (p, offset b p + first_below (list_width b p) (entry_wrong_in b p))

module _ (b : List ℕ) where
  -- i is the first wrong entry of the list of slot p
  module _ (p i : ℕ) (slot : p < slot_count b) (first : Some i ≡ first_in (list_width b p) (entry_wrong_in b p)) where
    is : (any_below (list_width b p) (entry_wrong_in b p) ≡ true) × (i ≡ first_below (list_width b p) (entry_wrong_in b p))
    is = some_first_in (list_width b p) (entry_wrong_in b p) i first

    pub entry_fits : Passed b → any_below (slot_count b) (offset_falls b) ≡ false → offset b p + i < 2 ^ 32
    entry_fits ok rising =
        let inside : i < list_width b p = omega (arith, is.1, some_first (entry_wrong_in b p) (list_width b p) is.0) in
        omega (arith, entry_place b p i (list_width b p) ok rising slot refl inside, ok.whole.sized.children, ok.whole.sized.slots_to)

    pub entry_found : ((k : ℕ) → k < p → entries_wrong b k ≡ false) → Some (p, offset b p + i) ≡ option_map (first_entry b) (first_in (slot_count b) (entries_wrong b))
    unfolding entries_wrong
    entry_found none = rw (← is_first_in (slot_count b) (entries_wrong b) p slot is.0 none, is.1)

  pub list_right : (p : ℕ) → None ≡ first_in (list_width b p) (entry_wrong_in b p) → entries_wrong b p ≡ false
  unfolding entries_wrong
  list_right p e = none_first_in (list_width b p) (entry_wrong_in b p) e

  pub entry_none : ((k : ℕ) → k < slot_count b → entries_wrong b k ≡ false) → None ≡ option_map (first_entry b) (first_in (slot_count b) (entries_wrong b))
  entry_none none = rw (← no_first_in (slot_count b) (entries_wrong b) none)

  -- r says whether o, the first, is there
  pub some_entry : (o : Option (ℕ × ℕ)) (r : Bool) → o ≡ option_map (first_entry b) (first_in (slot_count b) (entries_wrong b)) → r ≡ is_some o → r ≡ any_below (slot_count b) (entries_wrong b)
  some_entry o r e h = rw (h, e) (mapped (first_in (slot_count b) (entries_wrong b)) ∙ some_is_any (slot_count b) (entries_wrong b))
    where
      mapped : (f : Option ℕ) → is_some (option_map (first_entry b) f) ≡ is_some f
      mapped None = refl
      mapped (Some p) = refl
