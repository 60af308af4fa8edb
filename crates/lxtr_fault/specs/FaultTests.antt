-- Where a fault lies, as the code finds it. Results of calls are variables: each law says which definition equals what one return
-- computes.
use Rattle.std.specs.Prelude.{ℕ, ◌<◌, ◌≡◌, ◌≢◌, refl, List, Bool, true, false, not, Option, Some, None, option_map}
use Rattle.std.specs.Option.{unwrap_or}
use Rattle.std.proofs.Common.{sym, arith}
use borrow.Author.Tests.{eq-eqb, ne_eqb}
use Rattle.lxtr_spec.specs.Ranges.{any_below}
use Rattle.lxtr_spec.specs.Image.{slot_count, child_count, parent, list_width, label_count}
use Rattle.lxtr_spec.specs.Refusals.{header_refusal, label_wrong, labels_wrong, is_used_from2, slot_wrong, slots_wrong, offset_falls, used_count, entries_wrong, childless, lists_wrong, unreachable, some_unreachable, body_refusal}
use Rattle.lxtr_spec.specs.FaultPlaces.{fault_if, label_fault, slot_fault, offset_fault, entry_fault_of, entry_fault, is_entry, unlisted, unlisted_fault, childless_fault, list_fault, reach_fault, fault_by, fault_of}
use Rattle.lxtr_spec.specs.declared.Fault.{Fault}
use Rattle.lxtr_spec.specs.declared.Fault.TheVariants.{Label, Slot, Offset, Entry, Unlisted, Childless, RootBase, Unreachable}
use Rattle.lxtr_laws.specs.Tests.{outcome}
use Rattle.lxtr_laws.specs.RefusalChains.{refused, goes_on}
use Rattle.lxtr_laws.specs.FirstPlaces.{first_in, some_first_in, none_first_in, first_or_bound}
use Rattle.lxtr_laws.specs.Faults.{used_from_2, slots_right}
use Rattle.lxtr_laws.specs.Refused.{header_most, header_refused, body_refused}
use Rattle.lxtr_check_lists.specs.Entries.{first_entry}

-- slot s; u is whether it is a used one from 2 up
module _ (b : List ℕ) (s : ℕ) (u : Bool) (used : u ≡ is_used_from2 b s) where
  pub unused_listed : u ≡ false → false ≡ unlisted b s
  unfolding unlisted
  unused_listed h = rw (outcome u _ _ used h)

  module _ (h : u ≡ true) (p : ℕ) (up : p ≡ parent b s) where
    is : is_used_from2 b s ≡ true
    is = outcome u _ _ used h

    -- its parent is a slot, whose list has it or not
    pub parent_slot : slots_wrong b ≡ false → s < slot_count b → p < slot_count b
    parent_slot right l = rw up (((slots_right b).0 right s l).used ((used_from_2 b s).0 is)).parent_below

    pub listed_tested : (r : Bool) → r ≡ any_below (list_width b p) (is_entry b p s) → not r ≡ unlisted b s
    unfolding unlisted
    listed_tested r e = rw (is, ← up, ← e)

-- refusal 11
module _ (b : List ℕ) where
  pub list_offset : (p : ℕ) → Some p ≡ first_in (slot_count b) (offset_falls b) → Offset p ≡ list_fault b
  unfolding list_fault fault_if offset_fault
  list_offset p e = let first = some_first_in (slot_count b) (offset_falls b) p e in rw (first.0, first.1)

  module _ (rise : any_below (slot_count b) (offset_falls b) ≡ false) where
    -- q is the first slot with a wrong entry in its list, and that entry
    pub list_entry : (q : ℕ × ℕ) → Some q ≡ option_map (first_entry b) (first_in (slot_count b) (entries_wrong b)) → Entry q.0 q.1 ≡ list_fault b
    unfolding list_fault fault_if entry_fault entry_fault_of
    list_entry q = go (first_in (slot_count b) (entries_wrong b)) refl
      where
        go : (o : Option ℕ) → first_in (slot_count b) (entries_wrong b) ≡ o → Some q ≡ option_map (first_entry b) o → Entry q.0 q.1 ≡ list_fault b
        go None e h = absurd (cc)
        go (Some p) e h =
            let first = some_first_in (slot_count b) (entries_wrong b) p (sym e) in
            let same : q ≡ first_entry b p = cc in
            rw (rise, first.0, ← first.1, same)

    module _ (no_entry : None ≡ option_map (first_entry b) (first_in (slot_count b) (entries_wrong b))) where
      hold : any_below (slot_count b) (entries_wrong b) ≡ false
      hold = go (first_in (slot_count b) (entries_wrong b)) refl no_entry
        where
          go : (o : Option ℕ) → first_in (slot_count b) (entries_wrong b) ≡ o → None ≡ option_map (first_entry b) o → any_below (slot_count b) (entries_wrong b) ≡ false
          go None e h = none_first_in (slot_count b) (entries_wrong b) (sym e)
          go (Some p) e h = absurd (cc)

      -- e is E, and u the number of used slots from 2 up
      module _ (e u : ℕ) (children : e ≡ child_count b) (used : u ≡ used_count b) where
        -- s is the first unlisted slot, or N if there is none
        pub list_unlisted : e ≢ u → (o : Option ℕ) (n s : ℕ) → o ≡ first_in (slot_count b) (unlisted b) → n ≡ slot_count b → s ≡ unwrap_or o n → Unlisted s ≡ list_fault b
        unfolding list_fault fault_if unlisted_fault
        list_unlisted h o n s first count is = rw (rise, hold, ← children, ← used, ne_eqb e u h, is, first, count, first_or_bound (slot_count b) (unlisted b))

        pub list_childless : e ≡ u → (s : ℕ) → Some s ≡ first_in (slot_count b) (childless b) → Childless s ≡ list_fault b
        unfolding list_fault fault_if childless_fault
        list_childless h s is = let first = some_first_in (slot_count b) (childless b) s is in rw (rise, hold, ← children, ← used, eq-eqb e u h, first.0, first.1)

        pub list_root : e ≡ u → None ≡ first_in (slot_count b) (childless b) → RootBase ≡ list_fault b
        unfolding list_fault fault_if
        list_root h is = rw (rise, hold, ← children, ← used, eq-eqb e u h, none_first_in (slot_count b) (childless b) is)

-- any bytes
module _ (b : List ℕ) where
  -- r is a refusal of the header
  pub fault_nowhere : (r : ℕ) → r ≡ header_refusal b → r ≢ 0 → None ≡ fault_of b
  unfolding fault_of fault_by fault_if
  fault_nowhere r e h =
      let low : r < 9 = omega (arith, e, header_most b) in
      rw (← header_refused b r e h, ne_eqb r 9 (λ e. omega arith), ne_eqb r 10 (λ e. omega arith), ne_eqb r 11 (λ e. omega arith), ne_eqb r 12 (λ e. omega arith))

  module _ (header : 0 ≡ header_refusal b) where
    pub fault_label : (i : ℕ) → Some i ≡ first_in (label_count b) (label_wrong b) → Some (Label i) ≡ fault_of b
    unfolding fault_of fault_by fault_if label_fault body_refusal labels_wrong
    fault_label i e =
        let first = some_first_in (label_count b) (label_wrong b) i e in
        rw (← body_refused b 9 header (refused (labels_wrong b) 9 _ first.0), first.1)

    module _ (no_label : None ≡ first_in (label_count b) (label_wrong b)) where
      labels : labels_wrong b ≡ false
      unfolding labels_wrong
      labels = none_first_in (label_count b) (label_wrong b) no_label

      pub fault_slot : (s : ℕ) → Some s ≡ first_in (slot_count b) (slot_wrong b) → Some (Slot s) ≡ fault_of b
      unfolding fault_of fault_by fault_if slot_fault body_refusal slots_wrong
      fault_slot s e =
          let first = some_first_in (slot_count b) (slot_wrong b) s e in
          rw (← body_refused b 10 header (goes_on (labels_wrong b) 9 _ 10 labels (refused (slots_wrong b) 10 _ first.0)), first.1)

      module _ (slots : slots_wrong b ≡ false) (r : Bool) (lists : r ≡ lists_wrong b) where
        pub fault_list : r ≡ true → (f : Fault) → f ≡ list_fault b → Some f ≡ fault_of b
        unfolding fault_of fault_by fault_if body_refusal
        fault_list h f e =
            rw (← body_refused b 11 header (goes_on (labels_wrong b) 9 _ 11 labels (goes_on (slots_wrong b) 10 _ 11 slots (refused (lists_wrong b) 11 _ (outcome r _ _ lists h)))), e)

        -- o is the first unreachable slot
        pub fault_reach : r ≡ false → (o : Option ℕ) → o ≡ first_in (slot_count b) (unreachable b) → option_map Unreachable o ≡ fault_of b
        unfolding fault_of fault_by fault_if reach_fault body_refusal some_unreachable
        fault_reach h None e =
            rw (← body_refused b 0 header (goes_on (labels_wrong b) 9 _ 0 labels (goes_on (slots_wrong b) 10 _ 0 slots (goes_on (lists_wrong b) 11 _ 0 (outcome r _ _ lists h)
            (goes_on (some_unreachable b) 12 0 0 (none_first_in (slot_count b) (unreachable b) e) refl)))))
        fault_reach h (Some s) e =
            let first = some_first_in (slot_count b) (unreachable b) s e in
            rw (
              ← body_refused b 12 header (goes_on (labels_wrong b) 9 _ 12 labels (goes_on (slots_wrong b) 10 _ 12 slots (goes_on (lists_wrong b) 11 _ 12 (outcome r _ _ lists h)
                  (refused (some_unreachable b) 12 0 first.0)))),
              first.1,
            )
