-- Texts of words with the keys of their lists, and texts with a problem, computed on the definitions.
use Rattle.std.specs.Prelude.{ℕ, ◌+◌, ◌-◌, ◌≡◌, refl, List, [], ◌∷◌, ◌++◌, length, replicate}
use Rattle.lxtr_spec.specs.Numbers.{be_bytes, be_words}
use Rattle.lxtr_spec.specs.Labels.{is_scalar, max_labels, comes_before}
use Rattle.lxtr_spec.specs.Samples.{key_records, key_list}
use Rattle.lxtr_laws.specs.ExampleTables.{AllHold, ◌and◌}
use Rattle.lxtr_command_spec.specs.Utf8.{utf8, front_number, begins_with, begins_right, option_cons, labels_within, labels_of_text}
use Rattle.lxtr_command_spec.specs.WordLists.{lines_from, lines_of, word_of, labels_problem, word_problem, first_problem, insert_key, insert_labels, keys_of_lines, keys_of_text, refused_words, keyed, keyed_lines, keyed_of}

pub data Example : Type 0 where
  -- a text, and the keys of its list
  lists : List ℕ → List (List ℕ) → Example
  -- a text, its problem, and the line
  refuses : List ℕ → ℕ → ℕ → Example

-- n bytes of the output before the call
abbrev unwritten : ℕ → List ℕ
unwritten n = replicate n 0xFF

-- what an example says: the list in an output that has one byte more, and in one that is one byte too small
abbrev pub Holds : Example → Type 0
Holds (lists t ks) =
    (keyed_of t (unwritten (length (key_list ks) + 1)) ≡ record { answer = record { problem = 0; line = 0; count = length ks; length = length (key_list ks) }; output = key_list ks ++ unwritten 1 })
    × (keyed_of t (unwritten (length (key_list ks) - 1)) ≡ refused_words 4 0 (unwritten (length (key_list ks) - 1)))
Holds (refuses t problem line) = keyed_of t (unwritten 16) ≡ refused_words problem line (unwritten 16)

unfoldable pub examples : List Example
examples =
    -- no line but an empty one; two empty lines; a carriage return alone
    lists [] []
    ∷ lists (0x0A ∷ []) []
    ∷ lists (0x0D ∷ []) []
    -- not sorted, and a duplicate
    ∷ lists (0x62 ∷ 0x0A ∷ 0x61 ∷ 0x0A ∷ 0x62 ∷ 0x0A ∷ []) ((0x61 ∷ []) ∷ (0x62 ∷ []) ∷ [])
    -- lines that end with CR LF; of two carriage returns, one stays
    ∷ lists (0x62 ∷ 0x0D ∷ 0x0A ∷ 0x61 ∷ 0x0D ∷ 0x0A ∷ []) ((0x61 ∷ []) ∷ (0x62 ∷ []) ∷ [])
    ∷ lists (0x61 ∷ 0x0D ∷ 0x0D ∷ 0x0A ∷ []) ((0x61 ∷ 0x0D ∷ []) ∷ [])
    -- empty lines, and no line feed at the end
    ∷ lists (0x61 ∷ 0x0A ∷ 0x0A ∷ 0x0D ∷ 0x0A ∷ 0x62 ∷ []) ((0x61 ∷ []) ∷ (0x62 ∷ []) ∷ [])
    -- a prefix first; é after z
    ∷ lists (0x61 ∷ 0x62 ∷ 0x0A ∷ 0x61 ∷ 0x0A ∷ []) ((0x61 ∷ []) ∷ (0x61 ∷ 0x62 ∷ []) ∷ [])
    ∷ lists (0xC3 ∷ 0xA9 ∷ 0x0A ∷ 0x7A ∷ []) ((0x7A ∷ []) ∷ (0xE9 ∷ []) ∷ [])
    -- as many labels as a key may have
    ∷ lists (replicate max_labels 0x61) (replicate max_labels 0x61 ∷ [])
    -- line 2 is not UTF-8; line 1 has one label too many, and line 2 is not UTF-8
    ∷ refuses (0x61 ∷ 0x0A ∷ 0xFF ∷ 0x0A ∷ 0x62 ∷ []) 1 2
    ∷ refuses (replicate (max_labels + 1) 0x61 ++ (0x0A ∷ 0xFF ∷ [])) 2 1
    ∷ []

pub word_examples_hold : AllHold Holds examples
unfolding examples be_bytes be_words is_scalar max_labels comes_before key_records key_list utf8 front_number begins_with begins_right option_cons labels_within labels_of_text lines_from lines_of word_of labels_problem word_problem first_problem insert_key insert_labels keys_of_lines keys_of_text refused_words keyed keyed_lines keyed_of
word_examples_hold =
    (refl, refl) and (refl, refl) and (refl, refl) and (refl, refl) and (refl, refl) and (refl, refl) and (refl, refl) and (refl, refl)
    and (refl, refl) and (refl, refl) and refl and refl and tt
