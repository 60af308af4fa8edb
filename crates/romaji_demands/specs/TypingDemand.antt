-- What typing and finishing have to answer, of any program, in terms of the set of pairs of the image and the kana table.
-- Only the program that the statements are about, and the statements; that the definitions meet them is `typing_demand` in
-- Laws/Typing.antt, `typing_in_parts` and `finishing_after_typing` in Laws/Parts.antt, and `typing_in_many_parts` and
-- `finishing_after_parts` in Laws/ManyParts.antt.
use Rattle.std.specs.Prelude.{ℕ, suc, ◌+◌, ◌*◌, ◌≤◌, ◌<◌, ◌^◌, ◌≡◌, ◌≢◌, ◌⊎◌, List, [], ◌∷◌, ◌++◌, length, take, drop, get_or, None}
use Rattle.lxtr_spec.specs.Refusals.{image_refusal, unless_refused}
use Rattle.lxtr_spec.specs.Sets.{PairSet, Has, ImageOf}
use Rattle.lxtr_spec.specs.Meaning.{Longer}
use Rattle.romaji_spec.specs.KanaTables.{text_at}
use Rattle.romaji_spec.specs.Pieces.{max_kept, Piece, outgoing}
use Rattle.romaji_spec.specs.Typing.{kept_in, TypingAnswer, refused_by, went_out, type_of, finish_of}
use Rattle.romaji_spec.specs.declared.State.{State}
use Rattle.romaji_demands.specs.Cuts.{CutInto, OneCut, TypedAs, Never, FinishedAs}

-- A program: typing takes image, table, state, typed bytes and room; finishing takes the same without typed bytes. `defined` consists
-- of the definitions, with which the contracts equate what the code answers.
pub record Program : Type 0 where
  pub type : List ℕ → List ℕ → State → List ℕ → List ℕ → TypingAnswer
  pub finish : List ℕ → List ℕ → State → List ℕ → TypingAnswer

abbrev pub defined : Program
defined = record { type = type_of; finish = finish_of }

-- the text of every value of the set is whole: it ends where the next one begins, within the table
abbrev pub TableWhole : List ℕ → PairSet → Type 0
TableWhole kana d = (k : List ℕ) (v : ℕ) → Has d k v → text_at kana (suc v) ≤ length kana

-- image and table that nothing is refused of: an image of d, with a whole table and without the empty key
pub record Ready (b kana : List ℕ) (d : PairSet) : Type 0 where
  pub image : ImageOf b d
  pub whole : TableWhole kana d
  pub no_empty : d [] ≡ None

-- the others, with the number of the refusal
pub data RefusedBy (b kana : List ℕ) : ℕ → Type 0 where
  -- 1 to 12: of the image
  image_wrong : image_refusal b ≢ 0 → RefusedBy b kana (image_refusal b)
  -- 24: the table ends before the text of some value in the image is whole
  is_table_short : (d : PairSet) (k : List ℕ) (v : ℕ) → ImageOf b d → Has d k v → length kana < text_at kana (suc v) → RefusedBy b kana 24
  -- 25: the image has the empty key
  empty_key : (d : PairSet) (v : ℕ) → ImageOf b d → TableWhole kana d → Has d [] v → RefusedBy b kana 25

-- a list of bytes
abbrev pub Bytes : List ℕ → Type 0
Bytes t = (i : ℕ) → i < length t → get_or t i 0 < 2 ^ 8

-- What a is if the text is cut so: what goes out is, piece by piece, the kana of the key's value or the byte as a label; the rest is
-- kept. If that has no room, 29.
pub record Answers (d : PairSet) (Waits : List ℕ → Type 0) (kana : List ℕ) (s : State) (text room : List ℕ) (a : TypingAnswer) : Type 0 where
  pub is_goes_out : (ps : List Piece) (rest : List ℕ) → CutInto d Waits text ps rest → 4 * length (outgoing kana ps) ≤ length room → a ≡ went_out room (outgoing kana ps) rest
  pub no_room : (ps : List Piece) (rest : List ℕ) → CutInto d Waits text ps rest → length room < 4 * length (outgoing kana ps) → a ≡ refused_by 29 s room

-- the text that a call converts: the kept rest, then what is typed
abbrev pub text_of : State → List ℕ → List ℕ
text_of s typed = kept_in s ++ typed

pub record TypingDemand (o : Program) : Type 0 where
  -- Every image and table is refused by a number or is ready; state, text and room do not count here.
  pub decided : (b kana : List ℕ) → ((k : ℕ) × RefusedBy b kana k) ⊎ ((d : PairSet) × Ready b kana d)
  -- Not both, and not by two numbers.
  pub one_refusal : (b kana : List ℕ) (k j : ℕ) → RefusedBy b kana k → RefusedBy b kana j → k ≡ j
  pub not_both : (b kana : List ℕ) (k : ℕ) (d : PairSet) → RefusedBy b kana k → Ready b kana d → ⊥
  -- A refusal leaves state and room as they are.
  pub refused : (b kana : List ℕ) (k : ℕ) → RefusedBy b kana k → (s : State) (typed room : List ℕ)
      → (o.type b kana s typed room ≡ refused_by k s room) × (o.finish b kana s room ≡ refused_by k s room)
  -- Otherwise every text is cut in exactly one way, for typing and for finishing; finishing leaves no rest;
  pub some_cut : (b kana : List ℕ) (d : PairSet) → Ready b kana d → (t : List ℕ) → Bytes t
      → ((ps : List Piece) × (rest : List ℕ) × TypedAs d t ps rest) × ((ps : List Piece) × FinishedAs d t ps [])
  pub one_cut : (b kana : List ℕ) (d : PairSet) → Ready b kana d → OneCut d (Longer d) × OneCut d Never
  -- the rest fits into a state;
  pub few_kept : (b kana : List ℕ) (d : PairSet) → Ready b kana d → (t : List ℕ) (ps : List Piece) (rest : List ℕ) → TypedAs d t ps rest → length rest ≤ max_kept
  -- and what goes out and what is kept is that cutting's.
  pub typed : (b kana : List ℕ) (d : PairSet) → Ready b kana d → (s : State) (typed room : List ℕ) → Bytes (text_of s typed)
      → Answers d (Longer d) kana s (text_of s typed) room (o.type b kana s typed room)
  pub finished : (b kana : List ℕ) (d : PairSet) → Ready b kana d → (s : State) (room : List ℕ) → Bytes (text_of s [])
      → Answers d Never kana s (text_of s []) room (o.finish b kana s room)

-- The answer of two calls as one, if neither was refused. The second gets the state and the room that the first left.
abbrev pub room_left : TypingAnswer → List ℕ
room_left a = drop (4 * a.answer.count) a.room

abbrev pub together : TypingAnswer → TypingAnswer → TypingAnswer
together a c =
    record {
      answer = record { refusal = 0; count = a.answer.count + c.answer.count; state = c.answer.state };
      room = take (4 * a.answer.count) a.room ++ c.room;
    }

-- `whole` answers at once what a and then c answered, each into the room that was left; s and room are those before
pub record AtOnce (s : State) (room : List ℕ) (a c whole : TypingAnswer) : Type 0 where
  pub both : a.answer.refusal ≡ 0 → c.answer.refusal ≡ 0 → whole ≡ together a c
  pub first_refused : a.answer.refusal ≢ 0 → whole ≡ refused_by a.answer.refusal s room
  pub then_refused : a.answer.refusal ≡ 0 → c.answer.refusal ≢ 0 → whole ≡ refused_by c.answer.refusal s room

-- Typing in parts is typing at once, whatever the image and the table.
abbrev pub TypingInParts : Program → Type 0
TypingInParts o = (b kana : List ℕ) (s : State) (t u room : List ℕ) → Bytes (text_of s (t ++ u))
    → (let a = o.type b kana s t room in AtOnce s room a (o.type b kana a.answer.state u (room_left a)) (o.type b kana s (t ++ u) room))

-- So it is for any number of parts. The text of all of them; the answer of two calls as one, whether or not one was refused; and the
-- answer of all calls as one, where each gets the state and the room that the one before left. (The last call types the empty text.)
unfoldable pub all_of : List (List ℕ) → List ℕ
all_of [] = []
all_of (t ∷ ts) = t ++ all_of ts

unfoldable pub as_one : State → List ℕ → TypingAnswer → TypingAnswer → TypingAnswer
as_one s room a c =
    unless_refused a.answer.refusal (unless_refused c.answer.refusal (together a c) (refused_by c.answer.refusal s room)) (refused_by a.answer.refusal s room)

unfoldable pub parts_typed : Program → List ℕ → List ℕ → State → List (List ℕ) → List ℕ → TypingAnswer
parts_typed o b kana s [] room = o.type b kana s [] room
parts_typed o b kana s (t ∷ ts) room = let a = o.type b kana s t room in as_one s room a (parts_typed o b kana a.answer.state ts (room_left a))

abbrev pub TypingInManyParts : Program → Type 0
TypingInManyParts o = (b kana : List ℕ) (ts : List (List ℕ)) (s : State) (room : List ℕ) → Bytes (text_of s (all_of ts)) → parts_typed o b kana s ts room ≡ o.type b kana s (all_of ts) room

-- Finishing after typing is finishing the whole text: what both wrote is what one cutting of the whole text without a rest says.
abbrev pub FinishingAfterTyping : Program → Type 0
FinishingAfterTyping o = (b kana : List ℕ) (d : PairSet) → Ready b kana d → (s : State) (t room : List ℕ) → Bytes (text_of s t)
    → (let a = o.type b kana s t room in (whole : TypingAnswer) → Answers d Never kana s (text_of s t) room whole → AtOnce s room a (o.finish b kana a.answer.state (room_left a)) whole)

-- The same after any number of parts.
abbrev pub FinishingAfterParts : Program → Type 0
FinishingAfterParts o = (b kana : List ℕ) (d : PairSet) → Ready b kana d → (s : State) (ts : List (List ℕ)) (room : List ℕ) → Bytes (text_of s (all_of ts))
    → (let a = parts_typed o b kana s ts room in (whole : TypingAnswer) → Answers d Never kana s (text_of s (all_of ts)) room whole → AtOnce s room a (o.finish b kana a.answer.state (room_left a)) whole)
