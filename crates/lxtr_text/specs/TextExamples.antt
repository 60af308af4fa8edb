-- Labels as text, lines of keys and forms, computed on the definitions.
use Rattle.std.specs.Prelude.{ℕ, ◌≡◌, refl, List, [], ◌∷◌, ◌++◌}
use Prim.Native.String.{String}
use Rattle.lxtr_spec.specs.Labels.{is_scalar}
use Rattle.lxtr_spec.specs.Lines.{digit_of, numeral, decimal, hexadecimal, labels_text}
use Rattle.lxtr_laws.specs.ExampleTables.{AllHold, ◌and◌}
use Rattle.lxtr_command_spec.specs.Utf8.{utf8}
use Rattle.lxtr_command_spec.specs.Commands.{ascii_from, ascii}
use Rattle.lxtr_command_spec.specs.Forms.{is_control, shown, quoted, shown_all, spaced, key_text, completion_line, prefix_line, next_number, piece, takes, filled}

pub data Example : Type 0 where
  -- a label, and its text
  shows : ℕ → List ℕ → Example
  -- a label, and its text within quotation marks
  quotes : ℕ → List ℕ → Example
  -- a key, its value, and the line
  completes : List ℕ → ℕ → List ℕ → Example
  -- a prefix's length and value, its labels, and the line
  precedes : ℕ → ℕ → List ℕ → List ℕ → Example
  -- a form, numbers, and the text
  fills : String → List ℕ → List ℕ → Example

abbrev pub Holds : Example → Type 0
Holds (shows x t) = shown x ≡ t
Holds (quotes x t) = quoted x ≡ t
Holds (completes xs value t) = completion_line (xs, value) ≡ t
Holds (precedes length value xs t) = prefix_line length value xs ≡ t
Holds (fills form ns t) = filled (ascii form) ns ≡ t

-- U+FFFD
abbrev replacement : List ℕ
replacement = 0xEF ∷ 0xBF ∷ 0xBD ∷ []

-- か, な
abbrev ka : List ℕ
ka = 0xE3 ∷ 0x81 ∷ 0x8B ∷ []

abbrev na : List ℕ
na = 0xE3 ∷ 0x81 ∷ 0xAA ∷ []

unfoldable pub examples : List Example
examples =
    -- あ, a quotation mark, a backslash
    shows 0x3042 (0xE3 ∷ 0x81 ∷ 0x82 ∷ [])
    ∷ shows 0x22 (0x22 ∷ [])
    ∷ shows 0x5C (0x5C ∷ [])
    ∷ quotes 0x3042 (0xE3 ∷ 0x81 ∷ 0x82 ∷ [])
    ∷ quotes 0x22 (0x5C ∷ 0x22 ∷ [])
    ∷ quotes 0x5C (0x5C ∷ 0x5C ∷ [])
    -- control characters, and the characters beside them
    ∷ shows 0x00 replacement ∷ shows 0x0A replacement ∷ shows 0x1F replacement ∷ shows 0x20 (0x20 ∷ [])
    ∷ shows 0x7E (0x7E ∷ []) ∷ shows 0x7F replacement ∷ shows 0x9F replacement ∷ shows 0xA0 (0xC2 ∷ 0xA0 ∷ [])
    ∷ quotes 0x0A replacement
    -- surrogates, and above the scalar values
    ∷ shows 0xD800 replacement ∷ shows 0xDFFF replacement ∷ quotes 0xD800 replacement ∷ shows 0x110000 replacement ∷ shows 0xFFFFFFFF replacement
    -- か な, the empty key, a key with a control character
    ∷ completes (0x304B ∷ 0x306A ∷ []) 12 (ascii "12\t" ++ (ka ++ (na ++ ascii "\t304B 306A\n")))
    ∷ completes [] 0 (ascii "0\t\t\n")
    ∷ completes (0x61 ∷ 0x09 ∷ []) 4294967295 (ascii "4294967295\ta" ++ (replacement ++ ascii "\t61 9\n"))
    ∷ precedes 1 7 (0x304B ∷ []) (ascii "1\t7\t" ++ (ka ++ ascii "\t304B\n"))
    -- each mark, no mark, no form
    ∷ fills "slot %: $, \"@\"\n" (10 ∷ 0xE00000 ∷ 0x22 ∷ []) (ascii "slot 10: E00000, \"\\\"\"\n")
    ∷ fills "@@" (0x304B ∷ 0x306A ∷ []) (ka ++ na)
    ∷ fills "end\n" (1 ∷ []) (ascii "end\n")
    ∷ fills "" (1 ∷ []) []
    -- too few numbers: 0 is taken instead, which as a label is a control character
    ∷ fills "% $ %" (7 ∷ []) (ascii "7 0 0")
    ∷ fills "%@" (7 ∷ []) (ascii "7" ++ replacement)
    -- too many
    ∷ fills "%" (7 ∷ 8 ∷ []) (ascii "7")
    ∷ []

pub text_examples_hold : AllHold Holds examples
unfolding examples is_scalar digit_of numeral decimal hexadecimal labels_text utf8 ascii_from ascii is_control shown quoted shown_all spaced key_text completion_line prefix_line next_number piece takes filled
text_examples_hold =
    refl and refl and refl and refl and refl and refl
    and refl and refl and refl and refl and refl and refl and refl and refl and refl
    and refl and refl and refl and refl and refl
    and refl and refl and refl and refl
    and refl and refl and refl and refl and refl and refl and refl
    and tt
