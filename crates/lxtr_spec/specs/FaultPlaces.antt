-- Where a fault lies: for refusals 9 to 12 the first place at which the rule does not hold. Document 01 has the rules, not the places.
use Rattle.std.specs.Prelude.{ℕ, ◌+◌, List, Bool, true, false, ◌&&◌, not, eqb, Option, Some, None}
use Rattle.lxtr_spec.specs.Ranges.{any_below, first_below}
use Rattle.lxtr_spec.specs.Image.{slot_count, child_count, parent, offset, child, list_width, label_count}
use Rattle.lxtr_spec.specs.Refusals.{label_wrong, is_used_from2, slot_wrong, offset_falls, used_count, entry_wrong_in, entries_wrong, childless, unreachable, image_refusal}
use Rattle.lxtr_spec.specs.declared.Fault.{Fault}
use Rattle.lxtr_spec.specs.declared.Fault.TheVariants.{Label, Slot, Offset, Entry, Unlisted, Childless, RootBase, Unreachable}

-- the fault if it is there, and otherwise what comes after it
unfoldable pub fault_if : {A : Type 0} → Bool → A → A → A
fault_if true here later = here
fault_if false here later = later

-- 9: the first label that is no scalar value or is listed before
unfoldable pub label_fault : List ℕ → Fault
label_fault b = Label (first_below (label_count b) (label_wrong b))

-- 10: the first wrong slot
unfoldable pub slot_fault : List ℕ → Fault
slot_fault b = Slot (first_below (slot_count b) (slot_wrong b))

-- 11: the first slot p whose list ends before it begins (offset p + 1 is below offset p)
unfoldable pub offset_fault : List ℕ → Fault
offset_fault b = Offset (first_below (slot_count b) (offset_falls b))

-- the first wrong entry in the list of slot p, as its place in the children array
unfoldable pub entry_fault_of : List ℕ → ℕ → Fault
entry_fault_of b p = Entry p (offset b p + first_below (list_width b p) (entry_wrong_in b p))

-- the first wrong entry in all lists
unfoldable pub entry_fault : List ℕ → Fault
entry_fault b = entry_fault_of b (first_below (slot_count b) (entries_wrong b))

-- entry i of the list of slot p is slot s
unfoldable pub is_entry : List ℕ → ℕ → ℕ → ℕ → Bool
is_entry b p s i = eqb (child b (offset b p + i)) s

-- a used slot from 2 up that is not in the list of its parent
unfoldable pub unlisted : List ℕ → ℕ → Bool
unlisted b s = is_used_from2 b s && not (any_below (list_width b (parent b s)) (is_entry b (parent b s) s))

-- If no offset falls and no entry is wrong, E differs from the used slots from 2 up exactly when one of these is unlisted: the first
-- such slot.
unfoldable pub unlisted_fault : List ℕ → Fault
unlisted_fault b = Unlisted (first_below (slot_count b) (unlisted b))

-- the first used slot from 2 up that is no leaf and has no child
unfoldable pub childless_fault : List ℕ → Fault
childless_fault b = Childless (first_below (slot_count b) (childless b))

-- the first of these faults that is there; if none is, the fault is the base of slot 1
unfoldable pub list_fault : List ℕ → Fault
list_fault b =
    fault_if (any_below (slot_count b) (offset_falls b)) (offset_fault b)
    (fault_if (any_below (slot_count b) (entries_wrong b)) (entry_fault b)
    (fault_if (not (eqb (child_count b) (used_count b))) (unlisted_fault b)
    (fault_if (any_below (slot_count b) (childless b)) (childless_fault b)
    RootBase)))

-- 12: the first used slot from 2 up that does not reach slot 1
unfoldable pub reach_fault : List ℕ → Fault
reach_fault b = Unreachable (first_below (slot_count b) (unreachable b))

-- the one of these four that belongs to a refusal; for 1 to 8, or no refusal, there is no place
unfoldable pub fault_by : ℕ → Fault → Fault → Fault → Fault → Option Fault
fault_by k label slot list reach = fault_if (eqb k 9) (Some label) (fault_if (eqb k 10) (Some slot) (fault_if (eqb k 11) (Some list) (fault_if (eqb k 12) (Some reach) None)))

-- (What a `let` binds is computed only where it is used: each only after its refusal.)
unfoldable pub fault_of : List ℕ → Option Fault
fault_of b =
    let label = label_fault b in
    let slot = slot_fault b in
    let list = list_fault b in
    let reach = reach_fault b in
    fault_by (image_refusal b) label slot list reach
