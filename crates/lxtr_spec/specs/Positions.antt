-- Document 02, request 3: a typing position, for all images and positions. Where it says probe, request 6 put the lookup.
use Rattle.std.specs.Prelude.{ℕ, ◌+◌, ◌-◌, List, Bool, ◌&&◌, cond, ltb, eqb, Option, Some, None}
use Rattle.lxtr_spec.specs.Labels.{max_labels}
use Rattle.lxtr_spec.specs.Image.{slot_count, parent}
use Rattle.lxtr_spec.specs.Refusals.{unless_refused, header_refusal}
use Rattle.lxtr_spec.specs.Walks.{step_by}
use Rattle.lxtr_spec.specs.Searches.{case_at}
use Rattle.lxtr_spec.specs.declared.Case.TheVariants.{Neither}
use Rattle.lxtr_spec.specs.Searches.{Lookup}

-- A position takes one more label or takes the last one back, hands back the new position, and answers as probe would for the labels
-- typed so far. It is three numbers: how many labels were typed, how many of them were walked from slot 1 (all before the first that
-- failed, and no more than a key may have), and the slot that these reach, its place.
pub record TypingPosition : Type 0 where
  pub slot : ℕ
  pub walked : ℕ
  pub typed : ℕ

-- A fresh position: no labels.
unfoldable pub fresh_position : TypingPosition
fresh_position = record { slot = 1; walked = 0; typed = 0 }

-- all labels typed were walked
unfoldable pub all_walked : TypingPosition → Bool
all_walked p = eqb p.walked p.typed

-- After a failed step further labels only count. A label beyond 64 is answered none, no, and counts ..
-- (the slot that one more label reaches, or none if the label only counts)
unfoldable pub slot_by : List ℕ → TypingPosition → ℕ → Option ℕ
slot_by b p x = let t = step_by b p.slot x in cond (all_walked p && ltb p.typed max_labels) t None

unfoldable pub one_more : TypingPosition → Option ℕ → TypingPosition
one_more p None = record { slot = p.slot; walked = p.walked; typed = p.typed + 1 }
one_more p (Some t) = record { slot = t; walked = p.walked + 1; typed = p.typed + 1 }

-- .. up to 255, after which the position stays.
unfoldable pub max_typed : ℕ
max_typed = 255

unfoldable pub pushed : List ℕ → TypingPosition → ℕ → TypingPosition
pushed b p x = let next = one_more p (slot_by b p x) in cond (ltb p.typed max_typed) next p

-- Taking them back returns to the last good place. (If the last label was walked, that is the parent of the slot, because a step to t
-- exists only where t's parent is the slot before. If it only counted, the slot stays.)
unfoldable pub one_less : List ℕ → TypingPosition → TypingPosition
one_less b p =
    cond (all_walked p)
    (record { slot = parent b p.slot; walked = p.walked - 1; typed = p.typed - 1 })
    (record { slot = p.slot; walked = p.walked; typed = p.typed - 1 })

-- Taking back at no labels changes nothing.
unfoldable pub taken_back : List ℕ → TypingPosition → TypingPosition
taken_back b p = cond (eqb p.typed 0) p (one_less b p)

-- But a position whose place isn't below N answers none, no, and stays.
unfoldable pub is_placed : List ℕ → TypingPosition → Bool
is_placed b p = ltb p.slot (slot_count b)

-- Refusals: as for probe, 1 to 8, position unchanged.
pub record MoveAnswer : Type 0 where
  pub refusal : ℕ
  pub position : TypingPosition

unfoldable pub move_answer : ℕ → TypingPosition → MoveAnswer
move_answer k p = record { refusal = k; position = p }

-- the answer, if next is what the position becomes in an image that has its place
unfoldable pub moved_to : List ℕ → TypingPosition → TypingPosition → MoveAnswer
moved_to b p next = move_answer (header_refusal b) (unless_refused (header_refusal b) (cond (is_placed b p) next p) p)

unfoldable pub push_of : List ℕ → TypingPosition → ℕ → MoveAnswer
push_of b p x = let next = pushed b p x in moved_to b p next

unfoldable pub back_of : List ℕ → TypingPosition → MoveAnswer
back_of b p = let next = taken_back b p in moved_to b p next

-- the place, if all labels typed reach it, or none
unfoldable pub reached_slot : List ℕ → TypingPosition → Option ℕ
reached_slot b p = cond (is_placed b p && all_walked p) (Some p.slot) None

-- what a lookup would answer for the labels typed so far
unfoldable pub position_lookup_of : List ℕ → TypingPosition → Lookup
position_lookup_of b p =
    let case = case_at b (reached_slot b p) in
    record { refusal = header_refusal b; case = unless_refused (header_refusal b) case Neither }

-- For a position that no calls give, and in another image, document 02 leaves the answer free, unless its place isn't below N. The
-- definitions answer there too.
