-- The lines fit wholly into a line of LINE_ROOM bytes: how long each may be.
use Rattle.std.specs.Prelude.{ℕ, ◌+◌, ◌*◌, ◌≤◌, ◌≡◌, List, [], ◌∷◌, ◌++◌, true, length}
use Rattle.std.proofs.Common.{arith, length-append}
use Rattle.lxtr_spec.specs.Labels.{max_labels, Pair}
use Rattle.lxtr_spec.specs.Lines.{space, line_end, decimal, hexadecimal, number_line, labels_text, pair_line}
use Rattle.lxtr_build_laws.specs.KeyReading.{key_size}
use Rattle.lxtr_command_spec.specs.Forms.{shown, shown_all, spaced, tab, key_text, completion_line, prefix_line, two_digits, bytes_text, entry_line}
use Rattle.lxtr_lines.specs.Records.{record_pair, is_whole_record, whole_record}
use Rattle.lxtr_text.specs.Rooms.{line_room, decimal_length, hexadecimal_length, shown_length}

text_length : (xs : List ℕ) → length (shown_all xs) ≤ 4 * length xs
unfolding shown_all
text_length [] = omega arith
text_length (x ∷ xs) = omega (arith, length-append (shown x) (shown_all xs), shown_length x, text_length xs)

labels_length : (xs : List ℕ) → length (labels_text xs) ≤ 9 * length xs
unfolding labels_text
labels_length [] = omega arith
labels_length (x ∷ xs) = omega (arith, length-append (hexadecimal x) (labels_text xs), hexadecimal_length x, labels_length xs)

spaced_length : (xs : List ℕ) → length (spaced xs) ≤ 9 * length xs
unfolding spaced
spaced_length [] = omega arith
spaced_length (x ∷ xs) = omega (arith, length-append (hexadecimal x) (labels_text xs), hexadecimal_length x, labels_length xs)

is_key_length : (xs : List ℕ) → length (key_text xs) ≤ 13 * length xs + 2
unfolding key_text
is_key_length xs =
    omega (arith, length-append (shown_all xs) (tab ∷ (spaced xs ++ (line_end ∷ []))), length-append (spaced xs) (line_end ∷ []), text_length xs, spaced_length xs)

completion_length : (p : Pair) → length (completion_line p) ≤ 13 * length p.0 + 13
unfolding completion_line
completion_length p = omega (arith, length-append (decimal p.1) (tab ∷ key_text p.0), decimal_length p.1, is_key_length p.0)

bytes_length : (xs : List ℕ) → length (bytes_text xs) ≤ 2 * length xs
unfolding two_digits bytes_text
bytes_length [] = omega arith
bytes_length (x ∷ xs) = omega (arith, length-append (two_digits x) (bytes_text xs), bytes_length xs)

-- ---- the lines

pub number_fits : (word : List ℕ) (n : ℕ) → length word ≤ 180 → length (number_line word n) ≤ line_room
unfolding number_line
number_fits word n h = omega (arith, length-append word (space ∷ (decimal n ++ (line_end ∷ []))), length-append (decimal n) (line_end ∷ []), decimal_length n)

pub prefix_fits : (count value : ℕ) (xs : List ℕ) → length xs ≤ max_labels → length (prefix_line count value xs) ≤ line_room
unfolding prefix_line
prefix_fits count value xs h = omega (arith, length-append (decimal count) (tab ∷ completion_line (xs, value)), decimal_length count, completion_length (xs, value))

few_labels : (b : List ℕ) (at : ℕ) → is_whole_record b at ≡ true → length (record_pair b at).0 ≤ max_labels
unfolding record_pair
few_labels b at whole = omega (arith, key_size b at, (whole_record b at whole).key.short)

pub pair_fits : (b : List ℕ) (at : ℕ) → is_whole_record b at ≡ true → length (pair_line (record_pair b at)) ≤ line_room
unfolding pair_line
pair_fits b at whole =
    let p = record_pair b at in
    omega (arith, length-append (decimal p.1) (labels_text p.0 ++ (line_end ∷ [])), length-append (labels_text p.0) (line_end ∷ []), decimal_length p.1, labels_length p.0, few_labels b at whole)

pub completion_fits : (b : List ℕ) (at : ℕ) → is_whole_record b at ≡ true → length (completion_line (record_pair b at)) ≤ line_room
completion_fits b at whole = omega (arith, completion_length (record_pair b at), few_labels b at whole)

pub entry_fits : (place : ℕ) (xs : List ℕ) → length xs ≤ 8 → length (entry_line place xs) ≤ line_room
unfolding entry_line
entry_fits place xs h =
    omega (arith, length-append (decimal place) (tab ∷ (bytes_text xs ++ (line_end ∷ []))), length-append (bytes_text xs) (line_end ∷ []), decimal_length place, bytes_length xs)
