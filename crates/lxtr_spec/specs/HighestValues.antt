-- Document 02, request 1, "some value in the image": the highest value number of an image's set. A table that holds a text or entries
-- for each value number from 0 is long enough for all values of the image if it is long enough for this one.
use Rattle.std.specs.Prelude.{ℕ, zero, suc, List, cond, ltb, Option, Some, None}
use Rattle.lxtr_spec.specs.Image.{slot_count, value_number}
use Rattle.lxtr_spec.specs.Refusals.{image_refusal, is_end, unless_refused}

-- the larger of a value and the highest one so far, if there is one
unfoldable pub larger : ℕ → Option ℕ → ℕ
larger v None = v
larger v (Some w) = cond (ltb v w) w v

-- the highest value of the ends among the slots below n, or none. (Each pair of the set has one end, with the pair's value.)
unfoldable pub highest_below : List ℕ → ℕ → Option ℕ
highest_below b zero = None
highest_below b (suc n) = cond (is_end b n) (Some (larger (value_number b n) (highest_below b n))) (highest_below b n)

-- Refusals 1 to 12, then the highest value, or none if the set is empty. A refusal answers none.
pub record HighestAnswer : Type 0 where
  pub refusal : ℕ
  pub value : Option ℕ

unfoldable pub highest_of : List ℕ → HighestAnswer
highest_of b =
    let value = highest_below b (slot_count b) in
    record { refusal = image_refusal b; value = unless_refused (image_refusal b) value None }
