-- Drawings of document 01's examples, computed on the definitions; also lines and decisions that do not occur in these.
use Rattle.std.specs.Prelude.{ℕ, ◌≡◌, refl, List, [], ◌∷◌, ◌++◌, Bool, true, false, set, Option, Some, None}
use Prim.Native.String.{String}
use Rattle.lxtr_spec.specs.Numbers.{le32, be32, le_bytes, be_bytes, le_words, be_words}
use Rattle.lxtr_spec.specs.Ranges.{first_from, first_below, concat_from}
use Rattle.lxtr_spec.specs.Labels.{is_scalar}
use Rattle.lxtr_spec.specs.Joining.{code_under}
use Rattle.lxtr_spec.specs.Image.{magic, slot_count, child_count, base_word, check_word, is_leaf, has_leaf, parent, base, value_number, code_to, offset, child, label_count, label_at}
use Rattle.lxtr_spec.specs.Refusals.{both_zero}
use Rattle.lxtr_spec.specs.Builds.{header_bytes, map_bytes, image_bytes}
use Rattle.lxtr_spec.specs.Samples.{p1, nodes3, offsets3, children3, labels3, p3, p7, p8_slot}
use Rattle.lxtr_spec.specs.Lines.{digit_of, numeral, decimal, hexadecimal}
use Rattle.lxtr_spec.specs.declared.Fault.{Fault}
use Rattle.lxtr_spec.specs.declared.Fault.TheVariants.{Label, Slot, Offset, Entry, Unlisted, Childless, RootBase, Unreachable}
use Rattle.lxtr_laws.specs.ExampleTables.{AllHold, ◌and◌}
use Rattle.lxtr_command_spec.specs.Utf8.{utf8}
use Rattle.lxtr_command_spec.specs.Commands.{ascii_from, ascii}
use Rattle.lxtr_command_spec.specs.Forms.{is_control, shown, quoted, next_number, piece, takes, filled}
use Rattle.lxtr_command_spec.specs.Drawings.{colour, slot_line, step_line, entry_line, is_wrong_slot, is_wrong_entry, is_drawn, slot_text, has_step, step_text, lies_in, list_of, entry_text, slot_and_step, drawing}

-- lines one after the other
unfoldable pub text : List String → List ℕ
text [] = []
text (l ∷ ls) = ascii l ++ text ls

-- the slots of P3 and the steps to them
unfoldable pub slots3 : List String
slots3 =
    "  s1 [label=\"slot 1\\nbase 2\\nparent 0\", peripheries=1, color=\"#202020\", fontcolor=\"#202020\"];\n"
    ∷ "  s2 [label=\"slot 2\\nvalue 1\\nparent 6\", style=rounded, color=\"#202020\", fontcolor=\"#202020\"];\n"
    ∷ "  s6 -> s2 [label=\"end\"];\n"
    ∷ "  s3 [label=\"slot 3\\nbase 4\\nparent 1\", peripheries=2, color=\"#202020\", fontcolor=\"#202020\"];\n"
    ∷ "  s1 -> s3 [label=\"n 6E\"];\n"
    ∷ "  s4 [label=\"slot 4\\nvalue 0\\nparent 3\", style=rounded, color=\"#202020\", fontcolor=\"#202020\"];\n"
    ∷ "  s3 -> s4 [label=\"end\"];\n"
    ∷ "  s6 [label=\"slot 6\\nbase 2\\nparent 3\", peripheries=2, color=\"#202020\", fontcolor=\"#202020\"];\n"
    ∷ "  s3 -> s6 [label=\"a 61\"];\n"
    ∷ []

-- the slot in whose list an entry lies, as a list of one number
unfoldable pub list_at : List ℕ → ℕ → List ℕ
list_at b j = list_of b j ∷ []

pub data Example : Type 0 where
  -- an image, the fault, and the whole drawing
  whole : List ℕ → Option Fault → List String → Example
  -- an image, the fault, a slot, and what is drawn of it and of the step to it
  slot : List ℕ → Option Fault → ℕ → List String → Example
  -- two slots of P3, and the line of a step from one to the other
  step : ℕ → ℕ → String → Example
  -- a fault, a number, and whether the slot and the entry of that number are at fault
  at_fault : Option Fault → ℕ → Bool → Bool → Example
  -- an image, and for each entry the slot in whose list it lies
  lists : List ℕ → List ℕ → Example

abbrev pub Holds : Example → Type 0
Holds (whole b fault lines) = drawing b fault ≡ text lines
Holds (slot b fault s lines) = slot_and_step b fault s ≡ text lines
Holds (step p s line) = step_line p3 p s ≡ ascii line
Holds (at_fault fault n s j) = (is_wrong_slot fault n ≡ s) × (is_wrong_entry fault n ≡ j)
Holds (lists b ps) = concat_from (child_count b) 0 (list_at b) ≡ ps

unfoldable pub examples : List Example
examples =
    -- P3 and P7 whole; P7 is refused for entry 2
    whole p3 None
    (slots3
    ++ "  s1 -> s3 [label=\"entry 0\", style=dashed, constraint=false, color=\"#202020\", fontcolor=\"#202020\"];\n"
    ∷ "  s3 -> s4 [label=\"entry 1\", style=dashed, constraint=false, color=\"#202020\", fontcolor=\"#202020\"];\n"
    ∷ "  s3 -> s6 [label=\"entry 2\", style=dashed, constraint=false, color=\"#202020\", fontcolor=\"#202020\"];\n"
    ∷ "  s6 -> s2 [label=\"entry 3\", style=dashed, constraint=false, color=\"#202020\", fontcolor=\"#202020\"];\n"
    ∷ [])
    ∷ whole p7 (Some (Entry 3 2))
    (slots3
    ++ "  s1 -> s3 [label=\"entry 0\", style=dashed, constraint=false, color=\"#202020\", fontcolor=\"#202020\"];\n"
    ∷ "  s3 -> s4 [label=\"entry 1\", style=dashed, constraint=false, color=\"#202020\", fontcolor=\"#202020\"];\n"
    ∷ "  s3 -> s4 [label=\"entry 2\", style=dashed, constraint=false, color=\"#E00000\", fontcolor=\"#E00000\"];\n"
    ∷ "  s6 -> s2 [label=\"entry 3\", style=dashed, constraint=false, color=\"#202020\", fontcolor=\"#202020\"];\n"
    ∷ [])
    -- slots 0 and 1 of P1 hold nothing: slot 1 is drawn anyway, slot 0 only if it is at fault
    ∷ whole p1 None ("  s1 [label=\"slot 1\\nbase 0\\nparent 0\", peripheries=1, color=\"#202020\", fontcolor=\"#202020\"];\n" ∷ [])
    ∷ slot p1 (Some (Slot 0)) 0 ("  s0 [label=\"slot 0\\nbase 0\\nparent 0\", peripheries=1, color=\"#E00000\", fontcolor=\"#E00000\"];\n" ∷ [])
    -- P8: an unused slot that holds something; no step is drawn to it, nor to a slot whose parent is not below N
    ∷ slot p8_slot None 5 ("  s5 [label=\"slot 5\\nbase 7\\nparent 0\", peripheries=1, color=\"#202020\", fontcolor=\"#202020\"];\n" ∷ [])
    ∷ slot (image_bytes (set nodes3 5 7) offsets3 children3 labels3) (Some (Slot 2)) 2
    ("  s2 [label=\"slot 2\\nvalue 1\\nparent 7\", style=rounded, color=\"#E00000\", fontcolor=\"#E00000\"];\n" ∷ [])
    -- a step by a code that has no label
    ∷ step 1 5 "  s1 -> s5 [label=\"code 7\"];\n"
    -- each kind of fault: a label is not a slot, and the slot in whose list a wrong entry lies is not at fault
    ∷ at_fault None 0 false false ∷ at_fault (Some (Label 2)) 2 false false ∷ at_fault (Some (Slot 2)) 2 true false ∷ at_fault (Some (Slot 2)) 3 false false
    ∷ at_fault (Some (Offset 2)) 2 true false ∷ at_fault (Some (Entry 3 2)) 3 false false ∷ at_fault (Some (Entry 3 2)) 2 false true
    ∷ at_fault (Some (Unlisted 2)) 2 true false ∷ at_fault (Some (Childless 2)) 2 true false ∷ at_fault (Some RootBase) 1 true false ∷ at_fault (Some (Unreachable 2)) 2 true false
    -- P3, and P3 with offsets that fall: entries 1 and 2 lie in the lists of slots 0 and 3, entry 3 in those of slots 1 and 6
    ∷ lists p3 (1 ∷ 3 ∷ 3 ∷ 6 ∷ [])
    ∷ lists (image_bytes nodes3 (0 ∷ 3 ∷ 4 ∷ 1 ∷ 3 ∷ 3 ∷ 3 ∷ 4 ∷ []) children3 labels3) (0 ∷ 0 ∷ 0 ∷ 1 ∷ [])
    ∷ []

pub drawing_examples_hold : AllHold Holds examples
unfolding examples text slots3 list_at first_from first_below concat_from le32 be32 le_bytes be_bytes le_words be_words is_scalar code_under magic slot_count child_count base_word check_word is_leaf has_leaf parent base value_number code_to offset child label_count label_at both_zero header_bytes map_bytes image_bytes p1 nodes3 offsets3 children3 labels3 p3 p7 p8_slot digit_of numeral decimal hexadecimal utf8 ascii_from ascii is_control shown quoted next_number piece takes filled colour slot_line step_line entry_line is_wrong_slot is_wrong_entry is_drawn slot_text has_step step_text lies_in list_of entry_text slot_and_step drawing
drawing_examples_hold =
    refl and refl
    and refl and refl and refl and refl
    and refl
    and (refl, refl) and (refl, refl) and (refl, refl) and (refl, refl) and (refl, refl) and (refl, refl) and (refl, refl) and (refl, refl) and (refl, refl) and (refl, refl) and (refl, refl)
    and refl and refl
    and tt
