-- Demand 3: the check accepts exactly the images, and it and completion answer what the set of the image says.
-- Only the statement, of any program; that the definitions meet it is `demand3` in Laws/Demand3.antt.
use Rattle.std.specs.Prelude.{ℕ, ◌≤◌, ◌≡◌, ◌≢◌, ◌↔◌, List, [], ◌++◌, false, length, drop}
use Rattle.lxtr_spec.specs.Labels.{Pair}
use Rattle.lxtr_spec.specs.Completions.{listing_of, room_for}
use Rattle.lxtr_spec.specs.Sets.{PairSet, ImageOf}
use Rattle.lxtr_spec.specs.Meaning.{Lists}
use Rattle.lxtr_demands.specs.Operations.{Operations}

-- what holds of the program o and any bytes b
pub record Demand3 (o : Operations) (b : List ℕ) : Type 0 where
  -- Bytes pass the check, that is, it answers no refusal, exactly when they are an image of a set of pairs.
  pub passes : ((o.check b).refusal ≡ 0) ↔ ((d : PairSet) × ImageOf b d)
  -- They are an image of one set only.
  pub one_set : (d e : PairSet) → ImageOf b d → ImageOf b e → d ≡ e
  -- The pairs of that set can be listed in code order, each once,
  pub listing : (d : PairSet) → ImageOf b d → (ps : List Pair) × Lists b d [] ps
  -- in one way only.
  pub one_listing : (d : PairSet) (ps rs : List Pair) → Lists b d [] ps → Lists b d [] rs → ps ≡ rs
  -- The check answers their number.
  pub answer : (d : PairSet) (ps : List Pair) → ImageOf b d → Lists b d [] ps → o.check b ≡ record { refusal = 0; pairs = length ps }
  -- If it refuses, it answers 0 pairs.
  pub refused : (o.check b).refusal ≢ 0 → (o.check b).pairs ≡ 0
  -- Completion of the empty prefix, in room enough for the set, refuses nothing, answers the same number, does not stop,
  -- and writes this list at the room's front: version byte 1, count, then the records. Bytes past the last record stay.
  pub completion : (d : PairSet) (ps : List Pair) (room : List ℕ) → ImageOf b d → Lists b d [] ps → room_for ps ≤ length room
      → o.complete b [] room ≡ record { answer = record { refusal = 0; count = length ps; stopped = false }; room = listing_of ps ++ drop (room_for ps) room }
