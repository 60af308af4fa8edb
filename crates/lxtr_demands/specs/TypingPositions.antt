-- What typing positions have to answer, of any program: after any sequence of moves, what lookup answers for the labels typed so
-- far. Which labels these are is said of a list alone; that the image may have cycles, or be refused, makes no difference.
-- Only the programs that the statements are about, and the statements; that the definitions meet them is proved in
-- Laws/TypingPositions.antt, for C in Laws/PositionNumbers.antt.
use Rattle.std.specs.Prelude.{ℕ, ◌*◌, ◌-◌, ◌%◌, ◌^◌, ◌≤◌, ◌<◌, ◌≡◌, ◌≢◌, List, [], ◌∷◌, ◌++◌, cond, ltb, length, take, get_or}
use Rattle.lxtr_spec.specs.Labels.{labels_of}
use Rattle.lxtr_spec.specs.Image.{slot_count}
use Rattle.lxtr_spec.specs.Refusals.{header_refusal}
use Rattle.lxtr_spec.specs.Searches.{lookup_of}
use Rattle.lxtr_spec.specs.Positions.{TypingPosition, fresh_position, max_typed, MoveAnswer, move_answer, push_of, back_of, position_lookup_of}
use Rattle.lxtr_spec.specs.HostNumbers.{probe_number, position_of, host_fresh, host_push_of, host_back_of, position_probe_number}
use Rattle.lxtr_spec.specs.Sets.{PairSet, ImageOf}
use Rattle.lxtr_spec.specs.Meaning.{CaseIn}
use Rattle.lxtr_spec.specs.declared.Case.TheVariants.{Neither}
use Rattle.lxtr_spec.specs.Searches.{Lookup}

-- A move: one more label, or the last one taken back.
pub data Move : Type 0 where
  push : ℕ → Move
  back : Move

-- The list of at most 255 labels: a push on a list of 255 changes nothing, a taking-back on an empty list changes nothing.
unfoldable pub held_after : List ℕ → Move → List ℕ
held_after xs (push x) = cond (ltb (length xs) max_typed) (xs ++ x ∷ []) xs
held_after xs back = take (length xs - 1) xs

unfoldable pub held_from : List ℕ → List Move → List ℕ
held_from xs [] = xs
held_from xs (m ∷ ms) = held_from (held_after xs m) ms

-- the labels typed so far: what the list holds after these moves, from no labels
abbrev pub held : List Move → List ℕ
held ms = held_from [] ms

-- A program, whatever its positions and its answers are: a fresh position, the position after a push and after a taking-back, what
-- a position answers, and what is answered for a query.
pub record PositionProgram : Type 1 where
  pub Position : Type 0
  pub Answer : Type 0
  pub fresh : Position
  pub pushed : List ℕ → Position → ℕ → Position
  pub taken_back : List ℕ → Position → Position
  pub answer : List ℕ → Position → Answer
  pub lookup : List ℕ → List ℕ → Answer

-- the position after one move, and after several, over one unchanged image
unfoldable pub moved : (o : PositionProgram) → List ℕ → o.Position → Move → o.Position
moved o b p (push x) = o.pushed b p x
moved o b p back = o.taken_back b p

unfoldable pub moved_by : (o : PositionProgram) → List ℕ → o.Position → List Move → o.Position
moved_by o b p [] = p
moved_by o b p (m ∷ ms) = moved_by o b (moved o b p m) ms

-- After any sequence of moves from a fresh position, the answer, refusals included, is what is answered for a query of the labels
-- typed so far.
abbrev pub AnswersAsLookup : PositionProgram → Type 0
AnswersAsLookup o = (b : List ℕ) (ms : List Move) (q : List ℕ) → length q % 4 ≡ 0 → labels_of q ≡ held ms → o.answer b (moved_by o b o.fresh ms) ≡ o.lookup b q

-- Moves that leave the same labels lead to the same position: a label that was typed and taken back makes no difference. (Document 02
-- asks it of the answers only.)
abbrev pub SamePosition : PositionProgram → Type 0
SamePosition o = (b : List ℕ) (ms ns : List Move) → held ms ≡ held ns → moved_by o b o.fresh ms ≡ moved_by o b o.fresh ns

-- The library's operations: push and take back answer a refusal beside the position. `defined_moves` consists of the definitions,
-- with which the contracts equate what the code answers.
pub record MoveOperations : Type 0 where
  pub fresh : TypingPosition
  pub push : List ℕ → TypingPosition → ℕ → MoveAnswer
  pub back : List ℕ → TypingPosition → MoveAnswer
  pub lookup : List ℕ → TypingPosition → Lookup

abbrev pub defined_moves : MoveOperations
defined_moves = record { fresh = fresh_position; push = push_of; back = back_of; lookup = position_lookup_of }

-- as a program with positions
abbrev pub library : MoveOperations → PositionProgram
library o = record { Position = TypingPosition; Answer = Lookup; fresh = o.fresh; pushed = λ b p x. (o.push b p x).position; taken_back = λ b p. (o.back b p).position; answer = o.lookup; lookup = lookup_of }

-- p stays, and its lookup finds nothing, with this refusal
pub record Stays (o : MoveOperations) (b : List ℕ) (p : TypingPosition) (k : ℕ) : Type 0 where
  pub pushed : (x : ℕ) → o.push b p x ≡ move_answer k p
  pub is_taken_back : o.back b p ≡ move_answer k p
  pub answer : o.lookup b p ≡ record { refusal = k; case = Neither }

-- labels are 32-bit numbers, so that a query can have them
abbrev pub Words : List ℕ → Type 0
Words xs = (i : ℕ) → i < length xs → get_or xs i 0 < 2 ^ 32

pub record PositionDemand (o : MoveOperations) : Type 0 where
  pub answers_as_lookup : AnswersAsLookup (library o)
  -- There is such a query if the labels are 32-bit numbers.
  pub some_query : (ms : List Move) → Words (held ms) → (q : List ℕ) × (length q % 4 ≡ 0) × (labels_of q ≡ held ms)
  pub same_position : SamePosition (library o)
  -- Over an image of the set d it is the case that the set says of the labels typed so far.
  pub in_set : (b : List ℕ) (d : PairSet) (ms : List Move) → ImageOf b d → Words (held ms)
      → (let a = o.lookup b (moved_by (library o) b o.fresh ms) in (a.refusal ≡ 0) × CaseIn d (held ms) a.case)
  -- Every position, given by calls or not: push and take back give the refusal that lookup gives, the first of 1 to 8 that holds,
  -- or 0.
  pub refusals : (b : List ℕ) (p : TypingPosition) (x : ℕ) → ((o.push b p x).refusal ≡ header_refusal b) × ((o.back b p).refusal ≡ header_refusal b)
  -- A refusal leaves the position unchanged. So does a place that isn't below N, where nothing is refused.
  pub refused : (b : List ℕ) (p : TypingPosition) → header_refusal b ≢ 0 → Stays o b p (header_refusal b)
  pub outside : (b : List ℕ) (p : TypingPosition) → header_refusal b ≡ 0 → slot_count b ≤ p.slot → Stays o b p 0

-- The functions for C: a position is a 64-bit number, and an answer is the number that C's probe gives. (What a set says of it
-- follows from what it says of the lookup.)
pub record HostMoves : Type 0 where
  pub fresh : ℕ
  pub push : List ℕ → ℕ → ℕ → ℕ
  pub back : List ℕ → ℕ → ℕ
  pub probe : List ℕ → ℕ → ℕ

abbrev pub defined_host_moves : HostMoves
defined_host_moves = record { fresh = host_fresh; push = host_push_of; back = host_back_of; probe = position_probe_number }

abbrev pub host : HostMoves → PositionProgram
host o = record { Position = ℕ; Answer = ℕ; fresh = o.fresh; pushed = o.push; taken_back = o.back; answer = o.probe; lookup = probe_number }

-- the number n stays, and its probe finds nothing, with this refusal
pub record HostStays (o : HostMoves) (b : List ℕ) (n k : ℕ) : Type 0 where
  pub pushed : (x : ℕ) → o.push b n x ≡ n
  pub is_taken_back : o.back b n ≡ n
  pub answer : o.probe b n ≡ k * 2 ^ 40

pub record HostPositionDemand (o : HostMoves) : Type 0 where
  pub answers_as_lookup : AnswersAsLookup (host o)
  pub same_position : SamePosition (host o)
  -- Push and take back accept every 64-bit number, and answer one.
  pub numbers : (b : List ℕ) (n x : ℕ) → n < 2 ^ 64 → (o.push b n x < 2 ^ 64) × (o.back b n < 2 ^ 64)
  pub refused : (b : List ℕ) (n : ℕ) → header_refusal b ≢ 0 → HostStays o b n (header_refusal b)
  pub outside : (b : List ℕ) (n : ℕ) → header_refusal b ≡ 0 → slot_count b ≤ (position_of n).slot → HostStays o b n 0
