-- Document 01, "Building": the image that a key list gives, or its refusal, and what the lent memory holds afterwards.
use Rattle.std.specs.Prelude.{ℕ, zero, suc, ◌+◌, ◌*◌, ◌/◌, min, List, [], ◌∷◌, ◌++◌, Bool, true, false, ◌&&◌, ◌||◌, cond, length, take, drop, replicate, leb, ltb, eqb, Option, Some, None}
use Rattle.lxtr_spec.specs.Ranges.{concat_from}
use Rattle.lxtr_spec.specs.Numbers.{be_bytes, le_words, be_words}
use Rattle.lxtr_spec.specs.Labels.{length_count, max_slots, max_listed, Pair}
use Rattle.lxtr_spec.specs.Joining.{slot_under}
use Rattle.lxtr_spec.specs.Image.{magic, top_bit, low31}
use Rattle.lxtr_spec.specs.KeyLists.{list_refusal, pairs_of}
use Rattle.lxtr_spec.specs.CodeMaps.{map_of, code_in, label_with}
use Rattle.lxtr_spec.specs.Placing.{base_at, check_at, is_taken_from2, place}

-- The bytes of an image: its header, its code map, and all of it, with these nodes (base and check of each slot), offsets, children and
-- labels. M = 5 + 4L.
unfoldable pub header_bytes : ℕ → ℕ → ℕ → List ℕ
header_bytes n e m = magic ++ (3 ∷ 0 ∷ 0 ∷ 0 ∷ le_words (n ∷ e ∷ m ∷ 0 ∷ []))

unfoldable pub map_bytes : List ℕ → List ℕ
map_bytes labels = 1 ∷ (be_bytes (length labels) ++ be_words labels)

unfoldable pub image_bytes : List ℕ → List ℕ → List ℕ → List ℕ → List ℕ
image_bytes nodes offsets children labels =
    header_bytes (length nodes / 2) (length children) (5 + 4 * length labels)
    ++ (le_words nodes ++ (le_words offsets ++ (le_words children ++ map_bytes labels)))

-- N is the highest taken slot plus 1: searched below n. (Slots 0 and 1 are taken.)
unfoldable pub slots_used : List ℕ → ℕ → ℕ
slots_used w zero = 2
slots_used w (suc n) = elim (is_taken_from2 w n) [ true ↦ suc n | false ↦ slots_used w n ]

-- slot t is one of slots 2 to N-1 and has p as parent
unfoldable pub is_child : List ℕ → ℕ → ℕ → ℕ → Bool
is_child w N p t = leb 2 t && ltb t N && eqb (low31 (check_at w t)) p

-- p's child by code c, if there is one
unfoldable pub child_by : List ℕ → ℕ → ℕ → ℕ → List ℕ
child_by w N p c = cond (is_child w N p (slot_under (base_at w p) c)) (slot_under (base_at w p) c ∷ []) []

-- p's children by ascending code, where the map lists L labels; slot 0 and an end have none
unfoldable pub children_of : List ℕ → ℕ → ℕ → ℕ → List ℕ
children_of w N L p = elim (eqb p 0 || top_bit (base_at w p)) [ true ↦ [] | false ↦ concat_from (L + 1) 0 (child_by w N p) ]

-- the children of all slots; then the offsets of the n slots starting at p, whose children start at place e, and the offset after the last
unfoldable pub children_in : List ℕ → ℕ → ℕ → List ℕ
children_in w N L = concat_from N 0 (children_of w N L)

unfoldable pub offsets_from : List ℕ → ℕ → ℕ → ℕ → ℕ → ℕ → List ℕ
offsets_from w N L zero p e = e ∷ []
offsets_from w N L (suc n) p e = e ∷ offsets_from w N L n (p + 1) (e + length (children_of w N L p))

-- the image of the first N slots of the work, with the labels of a code map
unfoldable pub image_in : List ℕ → ℕ → List ℕ → List ℕ
image_in w N labels = image_bytes (take (2 * N) w) (offsets_from w N (length labels) N 0 0) (children_in w N (length labels)) labels

-- Lent work of W words of 32 bits allows S slots, the lesser of 65,536 and W div 2.
unfoldable pub slots_in : ℕ → ℕ
slots_in W = min max_slots (W / 2)

-- Place slot 1's children, ..: all keys pass through slot 1, with all their labels remaining.
unfoldable pub placed_in : ℕ → List Pair → List ℕ → Option (List ℕ)
placed_in W ps labels = place (slots_in W) (code_in labels) (label_with labels) length_count 1 ps (replicate W 0)

-- the number of a refusal, or an image
pub data Outcome : Type 0 where
  refuses : ℕ → Outcome
  builds : List ℕ → Outcome

-- 23 output shorter than the image; the output has R bytes
unfoldable pub with_room : ℕ → List ℕ → Outcome
with_room R image = elim (ltb R (length image)) [ true ↦ refuses 23 | false ↦ builds image ]

-- 22 at some slot no base fits
unfoldable pub from_placed : ℕ → ℕ → List ℕ → Option (List ℕ) → Outcome
from_placed S R labels None = refuses 22
from_placed S R labels (Some w) = with_room R (image_in w (slots_used w S) labels)

-- 20 more than 4,095 distinct labels
unfoldable pub from_labels : ℕ → ℕ → List Pair → List ℕ → Outcome
from_labels W R ps labels = elim (ltb max_listed (length labels)) [ true ↦ refuses 20 | false ↦ from_placed (slots_in W) R labels (placed_in W ps labels) ]

-- 15 to 19 of the key list
unfoldable pub from_keys : ℕ → ℕ → List ℕ → Outcome
from_keys W R keys = elim (list_refusal keys) [ zero ↦ from_labels W R (pairs_of keys) (map_of (pairs_of keys)) | suc k ↦ refuses (suc k) ]

-- Refusals, in order: 21 W below 4; then those above.
unfoldable pub outcome_of : ℕ → ℕ → List ℕ → Outcome
outcome_of W R keys = elim (ltb W 4) [ true ↦ refuses 21 | false ↦ from_keys W R keys ]

-- the refusal, and the length of the image in bytes
pub record Built : Type 0 where
  pub refusal : ℕ
  pub length : ℕ

-- the answer, with output and work after the call
pub record BuildAnswer : Type 0 where
  pub answer : Built
  pub output : List ℕ
  pub work : List ℕ

-- A refusal answers length 0 and leaves the output untouched. Success writes the image at the front; the rest of the output stays.
unfoldable pub answered : Outcome → List ℕ → List ℕ → BuildAnswer
answered (refuses k) out work = record { answer = record { refusal = k; length = 0 }; output = out; work = work }
answered (builds image) out work = record { answer = record { refusal = 0; length = length image }; output = image ++ drop (length image) out; work = work }

-- Work words are zero afterwards, except after 21, which leaves them.
unfoldable pub work_after : List ℕ → List ℕ
work_after work = cond (ltb (length work) 4) work (replicate (length work) 0)

unfoldable pub build_of : List ℕ → List ℕ → List ℕ → BuildAnswer
build_of keys work out = answered (outcome_of (length work) (length out) keys) out (work_after work)
