-- Document 02, request 1: typing and finishing, for all bytes as image, table and text, and for every state and room.
use Rattle.std.specs.Prelude.{ℕ, ◌-◌, ◌*◌, List, [], ◌++◌, Bool, true, false, length, take, drop, replicate, ltb, Option, Some, None}
use Rattle.lxtr_spec.specs.Numbers.{be_words}
use Rattle.lxtr_spec.specs.Answers.{number}
use Rattle.lxtr_spec.specs.Refusals.{refuse_if, first_refusal, unless_refused}
use Rattle.lxtr_spec.specs.Searches.{case_value, lookup_of}
use Rattle.lxtr_spec.specs.HighestValues.{highest_of}
use Rattle.romaji_spec.specs.KanaTables.{table_short}
use Rattle.romaji_spec.specs.Pieces.{max_kept, Cutting, cut, outgoing}
use Rattle.romaji_spec.specs.declared.State.{State}
use Rattle.romaji_spec.specs.declared.TypingRefusal.{TypingRefusal}
use Rattle.romaji_spec.specs.declared.TypingRefusal.TheVariants.{Image, TableTooShort, EmptyKey, NoRoom}

-- The bytes that a state keeps. (A state that counts more bytes than it has comes from no call, and document 02 leaves its answer free;
-- here all of its bytes are kept.)
unfoldable pub kept_in : State → List ℕ
kept_in s = take s.count s.kept

-- the state that keeps these bytes
unfoldable pub state_of : List ℕ → State
state_of r = record { count = length r; kept = r ++ replicate (max_kept - length r) 0 }

-- 25: the image has the empty key
unfoldable pub is_value : Option ℕ → Bool
is_value None = false
is_value (Some v) = true

unfoldable pub has_empty_key : List ℕ → Bool
has_empty_key b = is_value (case_value (lookup_of b []).case)

-- the number of a refusal
abbrev pub typing_number : TypingRefusal → ℕ
typing_number (Image refusal) = number refusal
typing_number TableTooShort = 24
typing_number EmptyKey = 25
typing_number NoRoom = 29

-- 24, 25, 29, tested after 1 to 12 in that order. 29: no room for the labels that go out.
unfoldable pub table_refusal : List ℕ → List ℕ → ℕ
table_refusal b kana =
    let later = refuse_if (table_short kana (highest_of b).value) 24 (refuse_if (has_empty_key b) 25 0) in
    first_refusal (highest_of b).refusal later

unfoldable pub room_refusal : List ℕ → List ℕ → ℕ
room_refusal room out = refuse_if (ltb (length room) (4 * length out)) 29 0

-- how many labels went out, and the next state; or a refusal
pub record Typed : Type 0 where
  pub refusal : ℕ
  pub count : ℕ
  pub state : State

-- the answer, with the room after the call
pub record TypingAnswer : Type 0 where
  pub answer : Typed
  pub room : List ℕ

-- state unchanged, nothing written
unfoldable pub refused_by : ℕ → State → List ℕ → TypingAnswer
refused_by k s room = record { answer = record { refusal = k; count = 0; state = s }; room = room }

-- labels go out in the same four-byte form, from the room's front, its rest untouched
unfoldable pub went_out : List ℕ → List ℕ → List ℕ → TypingAnswer
went_out room out rest =
    record { answer = record { refusal = 0; count = length out; state = state_of rest }; room = be_words out ++ drop (4 * length out) room }

-- what a cutting gives, if there is room
unfoldable pub answered : List ℕ → State → List ℕ → Cutting → TypingAnswer
answered kana s room c =
    let out = outgoing kana c.pieces in
    unless_refused (room_refusal room out) (went_out room out c.rest) (refused_by (room_refusal room out) s room)

-- The kept rest reads as typed just before: the text is the bytes kept and then those typed now.
unfoldable pub convert : Bool → List ℕ → List ℕ → State → List ℕ → List ℕ → TypingAnswer
convert keeping b kana s typed room =
    let done = answered kana s room (cut keeping b (kept_in s ++ typed)) in
    unless_refused (table_refusal b kana) done (refused_by (table_refusal b kana) s room)

-- Typing keeps a rest back; finishing does the same with nothing typed and nothing kept.
unfoldable pub type_of : List ℕ → List ℕ → State → List ℕ → List ℕ → TypingAnswer
type_of b kana s typed room = convert true b kana s typed room

unfoldable pub finish_of : List ℕ → List ℕ → State → List ℕ → TypingAnswer
finish_of b kana s room = convert false b kana s [] room
