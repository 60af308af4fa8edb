-- The lines that the command prints: keys with their values, entries, and forms. A form is text in which a mark stands for a number:
--     %  the next number in decimal,  $  the next number in upper-case hexadecimal,  @  the next number, a label, as quoted text.
use Rattle.std.specs.Prelude.{ℕ, ◌/◌, ◌%◌, List, [], ◌∷◌, ◌++◌, Bool, ◌&&◌, ◌||◌, not, cond, drop, get_or, leb, ltb, eqb}
use Rattle.lxtr_spec.specs.Labels.{is_scalar, Pair}
use Rattle.lxtr_spec.specs.Lines.{line_end, digit_of, decimal, hexadecimal, labels_text}
use Rattle.lxtr_command_spec.specs.Utf8.{utf8}

-- the control characters of Unicode, general category Cc
unfoldable pub is_control : ℕ → Bool
is_control x = ltb x 0x20 || (leb 0x7F x && ltb x 0xA0)

-- a label as text; a control character, or a number that is no scalar value, is shown as the replacement character U+FFFD
unfoldable pub shown : ℕ → List ℕ
shown x = cond (is_scalar x && not (is_control x)) (utf8 x) (utf8 0xFFFD)

-- the same between quotation marks: a backslash before a quotation mark and before a backslash
unfoldable pub quoted : ℕ → List ℕ
quoted x = cond (eqb x 0x22 || eqb x 0x5C) (0x5C ∷ x ∷ []) (shown x)

unfoldable pub shown_all : List ℕ → List ℕ
shown_all [] = []
shown_all (x ∷ xs) = shown x ++ shown_all xs

-- labels in hexadecimal, separated by spaces
unfoldable pub spaced : List ℕ → List ℕ
spaced [] = []
spaced (x ∷ xs) = hexadecimal x ++ labels_text xs

abbrev pub tab : ℕ
tab = 0x09

-- a key: its text and its labels
unfoldable pub key_text : List ℕ → List ℕ
key_text xs = shown_all xs ++ (tab ∷ (spaced xs ++ (line_end ∷ [])))

-- a completion: value, text and labels
unfoldable pub completion_line : Pair → List ℕ
completion_line p = decimal p.1 ++ (tab ∷ key_text p.0)

-- a prefix: length, value, text and labels
unfoldable pub prefix_line : ℕ → ℕ → List ℕ → List ℕ
prefix_line count value xs = decimal count ++ (tab ∷ completion_line (xs, value))

-- bytes in upper-case hexadecimal, two digits each, without a space between
unfoldable pub two_digits : ℕ → List ℕ
two_digits x = digit_of (x / 16) ∷ digit_of (x % 16) ∷ []

unfoldable pub bytes_text : List ℕ → List ℕ
bytes_text [] = []
bytes_text (x ∷ xs) = two_digits x ++ bytes_text xs

-- an entry of an entry table: its place among the entries, and its bytes
unfoldable pub entry_line : ℕ → List ℕ → List ℕ
entry_line place xs = decimal place ++ (tab ∷ (bytes_text xs ++ (line_end ∷ [])))

-- the next number; 0 where none is left
unfoldable pub next_number : List ℕ → ℕ
next_number ns = get_or ns 0 0

-- the text of a byte of a form, where ns are the numbers left; then whether the byte uses a number
unfoldable pub piece : ℕ → List ℕ → List ℕ
piece c ns =
    -- %
    cond (eqb c 0x25) (decimal (next_number ns))
    -- $
    (cond (eqb c 0x24) (hexadecimal (next_number ns))
    -- @
    (cond (eqb c 0x40) (quoted (next_number ns))
    -- any other byte stands for itself
    (c ∷ [])))

unfoldable pub takes : ℕ → Bool
takes c = eqb c 0x25 || (eqb c 0x24 || eqb c 0x40)

unfoldable pub filled : List ℕ → List ℕ → List ℕ
filled [] ns = []
filled (c ∷ f) ns = piece c ns ++ filled f (cond (takes c) (drop 1 ns) ns)
