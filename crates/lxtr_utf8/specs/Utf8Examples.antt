-- Texts with their labels, and texts that are not UTF-8, computed on the definitions.
use Rattle.std.specs.Prelude.{ℕ, ◌+◌, ◌*◌, ◌-◌, ◌≡◌, refl, List, [], ◌∷◌, ◌++◌, length, replicate}
use Rattle.lxtr_spec.specs.Numbers.{be_bytes, be_words}
use Rattle.lxtr_spec.specs.Labels.{is_scalar}
use Rattle.lxtr_laws.specs.ExampleTables.{AllHold, ◌and◌}
use Rattle.lxtr_command_spec.specs.Utf8.{utf8, text_of, front_number, begins_with, begins_right, option_cons, labels_within, labels_of_text, counted, count_of, decoding, decoding_of}

pub data Example : Type 0 where
  -- a text and its labels
  reads : List ℕ → List ℕ → Example
  -- a text that is not UTF-8
  refused : List ℕ → Example

-- n bytes of room before the call; no label is written as four such bytes
abbrev unwritten : ℕ → List ℕ
unwritten n = replicate n 0xFF

-- what an example says: the text of the labels; their number; room for them and one byte more; room that is one byte too small
abbrev pub Holds : Example → Type 0
Holds (reads t xs) =
    (text_of xs ≡ t)
    × (count_of t ≡ record { problem = 0; count = length xs })
    × (decoding_of t (unwritten (4 * length xs + 1)) ≡ record { answer = record { problem = 0; count = length xs }; room = be_words xs ++ unwritten 1 })
    × (decoding_of t (unwritten (4 * length xs - 1)) ≡ record { answer = record { problem = 4; count = 0 }; room = unwritten (4 * length xs - 1) })
Holds (refused t) = (count_of t ≡ record { problem = 1; count = 0 }) × (decoding_of t (unwritten 16) ≡ record { answer = record { problem = 1; count = 0 }; room = unwritten 16 })

unfoldable pub examples : List Example
examples =
    -- あ, é, U+1F600
    reads (0xE3 ∷ 0x81 ∷ 0x82 ∷ []) (0x3042 ∷ [])
    ∷ reads (0xC3 ∷ 0xA9 ∷ []) (0xE9 ∷ [])
    ∷ reads (0xF0 ∷ 0x9F ∷ 0x98 ∷ 0x80 ∷ []) (0x1F600 ∷ [])
    -- the limits of the four forms, and of the surrogates
    ∷ reads (0x00 ∷ []) (0x00 ∷ [])
    ∷ reads (0x7F ∷ []) (0x7F ∷ [])
    ∷ reads (0xC2 ∷ 0x80 ∷ []) (0x80 ∷ [])
    ∷ reads (0xDF ∷ 0xBF ∷ []) (0x7FF ∷ [])
    ∷ reads (0xE0 ∷ 0xA0 ∷ 0x80 ∷ []) (0x800 ∷ [])
    ∷ reads (0xED ∷ 0x9F ∷ 0xBF ∷ []) (0xD7FF ∷ [])
    ∷ reads (0xEE ∷ 0x80 ∷ 0x80 ∷ []) (0xE000 ∷ [])
    ∷ reads (0xEF ∷ 0xBF ∷ 0xBF ∷ []) (0xFFFF ∷ [])
    ∷ reads (0xF0 ∷ 0x90 ∷ 0x80 ∷ 0x80 ∷ []) (0x10000 ∷ [])
    ∷ reads (0xF4 ∷ 0x8F ∷ 0xBF ∷ 0xBF ∷ []) (0x10FFFF ∷ [])
    -- section 7
    ∷ reads (0x41 ∷ 0xE2 ∷ 0x89 ∷ 0xA2 ∷ 0xCE ∷ 0x91 ∷ 0x2E ∷ []) (0x41 ∷ 0x2262 ∷ 0x391 ∷ 0x2E ∷ [])
    ∷ reads (0xED ∷ 0x95 ∷ 0x9C ∷ 0xEA ∷ 0xB5 ∷ 0xAD ∷ 0xEC ∷ 0x96 ∷ 0xB4 ∷ []) (0xD55C ∷ 0xAD6D ∷ 0xC5B4 ∷ [])
    ∷ reads (0xE6 ∷ 0x97 ∷ 0xA5 ∷ 0xE6 ∷ 0x9C ∷ 0xAC ∷ 0xE8 ∷ 0xAA ∷ 0x9E ∷ []) (0x65E5 ∷ 0x672C ∷ 0x8A9E ∷ [])
    ∷ reads (0xEF ∷ 0xBB ∷ 0xBF ∷ 0xF0 ∷ 0xA3 ∷ 0x8E ∷ 0xB4 ∷ []) (0xFEFF ∷ 0x233B4 ∷ [])
    -- overlong forms of 0, 7F, 0, 7FF, 0 and FFFF; section 10: one in "/../"
    ∷ refused (0xC0 ∷ 0x80 ∷ []) ∷ refused (0xC1 ∷ 0xBF ∷ []) ∷ refused (0xE0 ∷ 0x80 ∷ 0x80 ∷ []) ∷ refused (0xE0 ∷ 0x9F ∷ 0xBF ∷ [])
    ∷ refused (0xF0 ∷ 0x80 ∷ 0x80 ∷ 0x80 ∷ []) ∷ refused (0xF0 ∷ 0x8F ∷ 0xBF ∷ 0xBF ∷ []) ∷ refused (0x2F ∷ 0xC0 ∷ 0xAE ∷ 0x2E ∷ 0x2F ∷ [])
    -- surrogates; above 10FFFF
    ∷ refused (0xED ∷ 0xA0 ∷ 0x80 ∷ []) ∷ refused (0xED ∷ 0xBF ∷ 0xBF ∷ []) ∷ refused (0xF4 ∷ 0x90 ∷ 0x80 ∷ 0x80 ∷ []) ∷ refused (0xF5 ∷ 0x80 ∷ 0x80 ∷ 0x80 ∷ [])
    -- bytes that begin no character
    ∷ refused (0x80 ∷ []) ∷ refused (0xBF ∷ []) ∷ refused (0xF8 ∷ 0x88 ∷ 0x80 ∷ 0x80 ∷ 0x80 ∷ []) ∷ refused (0xFE ∷ []) ∷ refused (0xFF ∷ []) ∷ refused (0x41 ∷ 0xFF ∷ [])
    -- cut sequences, and sequences with another byte in them
    ∷ refused (0xC3 ∷ []) ∷ refused (0xE3 ∷ 0x81 ∷ []) ∷ refused (0xF0 ∷ 0x9F ∷ 0x98 ∷ []) ∷ refused (0xC3 ∷ 0x29 ∷ []) ∷ refused (0xE3 ∷ 0x81 ∷ 0x02 ∷ []) ∷ refused (0xE3 ∷ 0xC1 ∷ 0x82 ∷ [])
    ∷ []

pub utf8_examples_hold : AllHold Holds examples
unfolding examples be_bytes be_words is_scalar utf8 text_of front_number begins_with begins_right option_cons labels_within labels_of_text counted count_of decoding decoding_of
utf8_examples_hold =
    (refl, refl, refl, refl) and (refl, refl, refl, refl) and (refl, refl, refl, refl)
    and (refl, refl, refl, refl) and (refl, refl, refl, refl) and (refl, refl, refl, refl) and (refl, refl, refl, refl) and (refl, refl, refl, refl)
    and (refl, refl, refl, refl) and (refl, refl, refl, refl) and (refl, refl, refl, refl) and (refl, refl, refl, refl) and (refl, refl, refl, refl)
    and (refl, refl, refl, refl) and (refl, refl, refl, refl) and (refl, refl, refl, refl) and (refl, refl, refl, refl)
    and (refl, refl) and (refl, refl) and (refl, refl) and (refl, refl) and (refl, refl) and (refl, refl) and (refl, refl)
    and (refl, refl) and (refl, refl) and (refl, refl) and (refl, refl)
    and (refl, refl) and (refl, refl) and (refl, refl) and (refl, refl) and (refl, refl) and (refl, refl)
    and (refl, refl) and (refl, refl) and (refl, refl) and (refl, refl) and (refl, refl) and (refl, refl)
    and tt
