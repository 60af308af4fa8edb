-- The drawing of an image, in the language of Graphviz: the lines for slots, for the steps from parents to children and for the entries
-- of the lists; and which of them are drawn.
use Rattle.std.specs.Prelude.{ℕ, ◌+◌, ◌-◌, List, [], ◌∷◌, ◌++◌, Bool, true, false, ◌&&◌, ◌||◌, not, cond, leb, ltb, eqb, Option, Some, None}
use Rattle.lxtr_spec.specs.Ranges.{first_below, concat_from}
use Rattle.lxtr_spec.specs.Image.{slot_count, child_count, is_leaf, has_leaf, value_number, base, parent, code_to, offset, child, label_count, label_at}
use Rattle.lxtr_spec.specs.Refusals.{both_zero}
use Rattle.lxtr_spec.specs.declared.Fault.{Fault}
use Rattle.lxtr_spec.specs.declared.Fault.TheVariants.{Label, Slot, Offset, Entry, Unlisted, Childless, RootBase, Unreachable}
use Rattle.lxtr_command_spec.specs.Forms.{filled}
use Rattle.lxtr_command_spec.specs.Commands.{ascii}

-- a slot or entry that is wrong is red, any other dark grey
unfoldable pub colour : Bool → ℕ
colour wrong = cond wrong 0xE00000 0x202020

-- a slot with its parent; an end also with its value, any other slot with its base, and with a second border if its prefix is a key
unfoldable pub slot_line : List ℕ → ℕ → Bool → List ℕ
slot_line b s wrong =
    elim (is_leaf b s) [
      | true ↦ filled (ascii "  s% [label=\"slot %\\nvalue %\\nparent %\", style=rounded, color=\"#$\", fontcolor=\"#$\"];\n") (s ∷ s ∷ value_number b s ∷ parent b s ∷ colour wrong ∷ colour wrong ∷ [])
      | false ↦ filled (ascii "  s% [label=\"slot %\\nbase %\\nparent %\", peripheries=%, color=\"#$\", fontcolor=\"#$\"];\n") (s ∷ s ∷ base b s ∷ parent b s ∷ cond (has_leaf b s) 2 1 ∷ colour wrong ∷ colour wrong ∷ [])
    ]

-- the step from slot p to slot s, with the label of its code; code 0 is the end of a key, and a code above L has no label
unfoldable pub step_line : List ℕ → ℕ → ℕ → List ℕ
step_line b p s =
    elim (eqb (code_to b p s) 0) [
      | true ↦ filled (ascii "  s% -> s% [label=\"end\"];\n") (p ∷ s ∷ [])
      | false ↦ elim (leb (code_to b p s) (label_count b)) [
        | true ↦ filled (ascii "  s% -> s% [label=\"@ $\"];\n") (p ∷ s ∷ label_at b (code_to b p s - 1) ∷ label_at b (code_to b p s - 1) ∷ [])
        | false ↦ filled (ascii "  s% -> s% [label=\"code %\"];\n") (p ∷ s ∷ code_to b p s ∷ [])
      ]
    ]

-- entry j of the children, in the list of slot p
unfoldable pub entry_line : List ℕ → ℕ → ℕ → Bool → List ℕ
entry_line b p j wrong =
    filled (ascii "  s% -> s% [label=\"entry %\", style=dashed, constraint=false, color=\"#$\", fontcolor=\"#$\"];\n")
    (p ∷ child b j ∷ j ∷ colour wrong ∷ colour wrong ∷ [])

-- ---- what is drawn; the place at fault is wrong

-- slot s is the one at fault
unfoldable pub is_wrong_slot : Option Fault → ℕ → Bool
is_wrong_slot None s = false
is_wrong_slot (Some (Label i)) s = false
is_wrong_slot (Some (Slot t)) s = eqb s t
is_wrong_slot (Some (Offset t)) s = eqb s t
is_wrong_slot (Some (Entry p j)) s = false
is_wrong_slot (Some (Unlisted t)) s = eqb s t
is_wrong_slot (Some (Childless t)) s = eqb s t
is_wrong_slot (Some RootBase) s = eqb s 1
is_wrong_slot (Some (Unreachable t)) s = eqb s t

-- entry j is the one at fault
unfoldable pub is_wrong_entry : Option Fault → ℕ → Bool
is_wrong_entry None j = false
is_wrong_entry (Some (Label i)) j = false
is_wrong_entry (Some (Slot t)) j = false
is_wrong_entry (Some (Offset t)) j = false
is_wrong_entry (Some (Entry p i)) j = eqb j i
is_wrong_entry (Some (Unlisted t)) j = false
is_wrong_entry (Some (Childless t)) j = false
is_wrong_entry (Some RootBase) j = false
is_wrong_entry (Some (Unreachable t)) j = false

-- drawn are slot 1, each slot that holds something, and the slot at fault
unfoldable pub is_drawn : List ℕ → Option Fault → ℕ → Bool
is_drawn b fault s = eqb s 1 || not (both_zero b s) || is_wrong_slot fault s

unfoldable pub slot_text : List ℕ → Option Fault → ℕ → List ℕ
slot_text b fault s = elim (is_drawn b fault s) [ true ↦ slot_line b s (is_wrong_slot fault s) | false ↦ [] ]

-- the step to a slot is drawn if its parent is a slot other than 0
unfoldable pub has_step : List ℕ → ℕ → Bool
has_step b s = not (eqb (parent b s) 0) && ltb (parent b s) (slot_count b)

unfoldable pub step_text : List ℕ → ℕ → List ℕ
step_text b s = elim (has_step b s) [ true ↦ step_line b (parent b s) s | false ↦ [] ]

-- entry j lies in the list of slot p
unfoldable pub lies_in : List ℕ → ℕ → ℕ → Bool
lies_in b j p = leb (offset b p) j && ltb j (offset b (p + 1))

-- the first slot in whose list entry j lies; if offsets fall, it may lie in other lists too, and is still drawn once
unfoldable pub list_of : List ℕ → ℕ → ℕ
list_of b j = first_below (slot_count b) (lies_in b j)

unfoldable pub entry_text : List ℕ → Option Fault → ℕ → List ℕ
entry_text b fault j = entry_line b (list_of b j) j (is_wrong_entry fault j)

-- the whole graph: each slot with the step to it, and then each entry
unfoldable pub slot_and_step : List ℕ → Option Fault → ℕ → List ℕ
slot_and_step b fault s = slot_text b fault s ++ step_text b s

unfoldable pub drawing : List ℕ → Option Fault → List ℕ
drawing b fault = concat_from (slot_count b) 0 (slot_and_step b fault) ++ concat_from (child_count b) 0 (entry_text b fault)
