-- The lines of a drawing fit wholly into a line of LINE_ROOM bytes, and so does what is drawn of a slot, of a step and of an entry.
use Rattle.std.specs.Prelude.{ℕ, ◌+◌, ◌*◌, ◌≤◌, ◌≡◌, refl, List, [], Bool, true, false, length, leb, eqb, Option}
use Rattle.std.proofs.Common.{arith, leb-true}
use Rattle.lxtr_spec.specs.Image.{is_leaf, parent, code_to, label_count}
use Rattle.lxtr_spec.specs.declared.Fault.{Fault}
use Rattle.lxtr_command_spec.specs.Forms.{takes, filled}
use Rattle.lxtr_command_spec.specs.Commands.{ascii_from, ascii}
use Rattle.lxtr_command_spec.specs.Drawings.{slot_line, step_line, entry_line, is_wrong_slot, is_wrong_entry, is_drawn, slot_text, has_step, step_text, list_of, entry_text}
use Rattle.lxtr_text.specs.Rooms.{form_room, line_room, marks, form_fits}

-- a form that fits with ten bytes for each mark fits whatever the numbers are
fits : (form ns : List ℕ) → leb (length form + 9 * marks form) form_room ≡ true → length (filled form ns) ≤ line_room
fits form ns e = form_fits form ns (leb-true (length form + 9 * marks form) form_room e)

pub slot_fits : (b : List ℕ) (s : ℕ) (wrong : Bool) → length (slot_line b s wrong) ≤ line_room
unfolding slot_line ascii_from ascii takes marks
slot_fits b s wrong = go (is_leaf b s) refl
  where
    go : (t : Bool) → is_leaf b s ≡ t → length (slot_line b s wrong) ≤ line_room
    go true e = rw (slot_line, e) (fits _ _ refl)
    go false e = rw (slot_line, e) (fits _ _ refl)

pub step_fits : (b : List ℕ) (p s : ℕ) → length (step_line b p s) ≤ line_room
unfolding step_line ascii_from ascii takes marks
step_fits b p s = go (eqb (code_to b p s) 0) (leb (code_to b p s) (label_count b)) refl refl
  where
    go : (t u : Bool) → eqb (code_to b p s) 0 ≡ t → leb (code_to b p s) (label_count b) ≡ u → length (step_line b p s) ≤ line_room
    go true u e f = rw (step_line, e) (fits _ _ refl)
    go false true e f = rw (step_line, e, f) (fits _ _ refl)
    go false false e f = rw (step_line, e, f) (fits _ _ refl)

pub entry_fits : (b : List ℕ) (p j : ℕ) (wrong : Bool) → length (entry_line b p j wrong) ≤ line_room
unfolding entry_line ascii_from ascii takes marks
entry_fits b p j wrong = fits _ _ refl

-- nothing, or a line
either : (t : Bool) (line : List ℕ) → length line ≤ line_room → length {A = ℕ} (elim t as (λ _. List ℕ) [ true ↦ line | false ↦ [] ]) ≤ line_room
either true line h = h
either false line h = omega arith

pub slot_text_fits : (b : List ℕ) (f : Option Fault) (s : ℕ) → length (slot_text b f s) ≤ line_room
unfolding slot_text
slot_text_fits b f s = either (is_drawn b f s) (slot_line b s (is_wrong_slot f s)) (slot_fits b s (is_wrong_slot f s))

pub step_text_fits : (b : List ℕ) (s : ℕ) → length (step_text b s) ≤ line_room
unfolding step_text
step_text_fits b s = either (has_step b s) (step_line b (parent b s) s) (step_fits b (parent b s) s)

pub entry_text_fits : (b : List ℕ) (f : Option Fault) (j : ℕ) → length (entry_text b f j) ≤ line_room
unfolding entry_text
entry_text_fits b f j = entry_fits b (list_of b j) j (is_wrong_entry f j)
