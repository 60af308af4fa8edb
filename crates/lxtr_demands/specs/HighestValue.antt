-- The highest value number: over an image it is that of the image's set of pairs, and what is refused is what document 01 refuses.
-- Only the statement, of any program; that the definitions meet it is `highest_value` in Laws/HighestValue.antt.
use Rattle.std.specs.Prelude.{ℕ, ◌≡◌, ◌≢◌, List, Option, None}
use Rattle.lxtr_spec.specs.Refusals.{image_refusal}
use Rattle.lxtr_spec.specs.Sets.{PairSet, ImageOf}
use Rattle.lxtr_spec.specs.Meaning.{HighestIn}
use Rattle.lxtr_demands.specs.Operations.{Operations}

-- what holds of the program o and any bytes b
pub record HighestValue (o : Operations) (b : List ℕ) : Type 0 where
  -- The refusal is the one that document 01 gives these bytes: the first of 1 to 12 that holds, or 0.
  pub refusal : (o.highest b).refusal ≡ image_refusal b
  -- If it refuses, it answers none.
  pub refused : (o.highest b).refusal ≢ 0 → (o.highest b).value ≡ None
  -- A set of which the bytes are an image has a highest value, or none if it is empty,
  pub some_highest : (d : PairSet) → ImageOf b d → (h : Option ℕ) × HighestIn d h
  -- and only one.
  pub one_highest : (d : PairSet) (g h : Option ℕ) → HighestIn d g → HighestIn d h → g ≡ h
  -- This is the answer.
  pub answer : (d : PairSet) (h : Option ℕ) → ImageOf b d → HighestIn d h → o.highest b ≡ record { refusal = 0; value = h }
