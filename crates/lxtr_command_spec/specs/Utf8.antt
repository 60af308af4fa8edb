-- RFC 3629: text in UTF-8 and the labels that it stands for.
use Rattle.std.specs.Prelude.{ℕ, zero, suc, ◌+◌, ◌*◌, ◌/◌, ◌%◌, List, [], ◌∷◌, ◌++◌, Bool, true, false, ◌&&◌, cond, length, drop, ltb, eqb, Option, Some, None, Result}
use Rattle.lxtr_spec.specs.Numbers.{byte_at, be_words}
use Rattle.lxtr_spec.specs.Labels.{is_scalar}
use Rattle.lxtr_spec.specs.Answers.{number_by, answer_or}
use Rattle.lxtr_command_spec.specs.declared.TextProblem.{TextProblem}
use Rattle.lxtr_command_spec.specs.declared.TextProblem.TheVariants.{NotUtf8, NoRoom}

-- Section 3, the table: the bytes of a character number. A byte 10xxxxxx holds the six lowest bits of n.
abbrev pub tail_byte : ℕ → ℕ
tail_byte n = 0x80 + n % 64

unfoldable pub utf8 : ℕ → List ℕ
utf8 x =
    -- 0000 0000 to 0000 007F: 0xxxxxxx
    cond (ltb x 0x80) (x ∷ [])
    -- 0000 0080 to 0000 07FF: 110xxxxx 10xxxxxx
    (cond (ltb x 0x800) ((0xC0 + x / 64) ∷ tail_byte x ∷ [])
    -- 0000 0800 to 0000 FFFF: 1110xxxx 10xxxxxx 10xxxxxx
    (cond (ltb x 0x10000) ((0xE0 + x / 4096) ∷ tail_byte (x / 64) ∷ tail_byte x ∷ [])
    -- 0001 0000 to 0010 FFFF: 11110xxx 10xxxxxx 10xxxxxx 10xxxxxx
    ((0xF0 + x / 262144) ∷ tail_byte (x / 4096) ∷ tail_byte (x / 64) ∷ tail_byte x ∷ [])))

-- the text of labels
unfoldable pub text_of : List ℕ → List ℕ
text_of [] = []
text_of (x ∷ xs) = utf8 x ++ text_of xs

-- Section 3, decoding: the number that the bits x of the bytes at the front of a text give. The first byte tells how many bytes these
-- are. A byte with which no sequence begins gives a number that is no scalar value.
unfoldable pub front_number : List ℕ → ℕ
front_number t =
    let a = byte_at t 0 in
    let b = byte_at t 1 % 64 in
    let c = byte_at t 2 % 64 in
    let d = byte_at t 3 % 64 in
    cond (ltb a 0x80) a
    (cond (ltb a 0xC0) 0x110000
    (cond (ltb a 0xE0) (a % 32 * 64 + b)
    (cond (ltb a 0xF0) (a % 16 * 4096 + b * 64 + c)
    (cond (ltb a 0xF8) (a % 8 * 262144 + b * 4096 + c * 64 + d) 0x110000))))

-- the text begins with these bytes
unfoldable pub begins_with : List ℕ → List ℕ → Bool
begins_with t [] = true
begins_with [] (y ∷ ys) = false
begins_with (x ∷ t) (y ∷ ys) = eqb x y && begins_with t ys

-- The text begins with exactly the bytes of that number, and the number is a scalar value. So there is no overlong form, no surrogate,
-- nothing above 10FFFF, and no missing or wrong byte.
unfoldable pub begins_right : List ℕ → Bool
begins_right t = is_scalar (front_number t) && begins_with t (utf8 (front_number t))

unfoldable pub option_cons : ℕ → Option (List ℕ) → Option (List ℕ)
option_cons x None = None
option_cons x (Some xs) = Some (x ∷ xs)

-- the labels of a text of at most k characters; none if it is not UTF-8
unfoldable pub labels_within : ℕ → List ℕ → Option (List ℕ)
labels_within zero t = elim (eqb (length t) 0) [ true ↦ Some [] | false ↦ None ]
labels_within (suc k) t =
    elim (eqb (length t) 0) [
      | true ↦ Some []
      | false ↦ elim (begins_right t) [
        | true ↦ option_cons (front_number t) (labels_within k (drop (length (utf8 (front_number t))) t))
        | false ↦ None
      ]
    ]

-- the labels of a text: it has at most as many characters as bytes
unfoldable pub labels_of_text : List ℕ → Option (List ℕ)
labels_of_text t = labels_within (length t) t

-- how many labels there are; problem 1: the text is not UTF-8
pub record Decoded : Type 0 where
  pub problem : ℕ
  pub count : ℕ

unfoldable pub counted : Option (List ℕ) → Decoded
counted None = record { problem = 1; count = 0 }
counted (Some xs) = record { problem = 0; count = length xs }

unfoldable pub count_of : List ℕ → Decoded
count_of text = counted (labels_of_text text)

-- Decoding into lent room: the labels in four bytes each, big-endian, as in a query; the rest of the room stays. If the text is not
-- UTF-8 (problem 1) or the room is too small (problem 4), all of the room stays.
pub record DecodingAnswer : Type 0 where
  pub answer : Decoded
  pub room : List ℕ

unfoldable pub decoding : List ℕ → Option (List ℕ) → DecodingAnswer
decoding room None = record { answer = record { problem = 1; count = 0 }; room = room }
decoding room (Some xs) =
    elim (ltb (length room) (4 * length xs)) [
      | true ↦ record { answer = record { problem = 4; count = 0 }; room = room }
      | false ↦ record { answer = record { problem = 0; count = length xs }; room = be_words xs ++ drop (4 * length xs) room }
    ]

unfoldable pub decoding_of : List ℕ → List ℕ → DecodingAnswer
decoding_of text room = decoding room (labels_of_text text)

-- the number of a problem, and the same of the code's answer: how many labels there are, or a problem
abbrev pub text_number : TextProblem → ℕ
text_number NotUtf8 = 1
text_number NoRoom = 4

abbrev pub decoded_in : Result ℕ TextProblem → Decoded
decoded_in r = record { problem = number_by text_number r; count = answer_or 0 r }
