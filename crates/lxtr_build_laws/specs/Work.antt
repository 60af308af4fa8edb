-- The lent work before placing, and what the code's answer after placing means.
use Rattle.std.specs.Prelude.{ℕ, ◌≤◌, ◌≡◌, List, length, replicate, Option, Some, None}

-- work of 4 words or more, all zero
pub record Cleared (w : List ℕ) : Type 0 where
  pub room : 4 ≤ length w
  pub zeros : w ≡ replicate (length w) 0

-- what the code answers: whether each slot found a base, and the work afterwards
unfoldable pub placed_as : Option (Unit {0}) → List ℕ → Option (List ℕ)
placed_as (Some u) w = Some w
placed_as None w = None
