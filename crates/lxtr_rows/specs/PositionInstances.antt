-- What the demand on typing positions rules out, for every possible program. In the module, o is any program that meets the demand,
-- whatever else it does: after any moves it answers what the definitions answer. So tempting mistakes fail, each over an image that
-- shows it.
use Rattle.std.specs.Prelude.{ℕ, ◌+◌, ◌%◌, ◌≤◌, ◌≡◌, ◌≢◌, ◌⊎◌, length, replicate, Option, Some, None}
use Rattle.std.proofs.Common.{arith, sym, ◌∙◌}
use Rattle.std.proofs.Math.Path.{refl, ap}
use Rattle.std.proofs.Math.Logic.{⊎_elim}
use mathlib.Core.List.{List, [], ◌∷◌}
use Rattle.lxtr_spec.specs.Numbers.{be_words}
use Rattle.lxtr_spec.specs.Labels.{max_labels, labels_of}
use Rattle.lxtr_spec.specs.Image.{slot_count}
use Rattle.lxtr_spec.specs.Refusals.{header_refusal}
use Rattle.lxtr_spec.specs.Searches.{case_value}
use Rattle.lxtr_spec.specs.Positions.{TypingPosition, MoveAnswer, move_answer, position_lookup_of}
use Rattle.lxtr_spec.specs.Samples.{p3}
use Rattle.lxtr_spec.specs.Searches.{Lookup}
use Rattle.lxtr_demands.specs.TypingPositions.{Move, back, held_after, held_from, held, moved, moved_by, MoveOperations, library, Stays, Words, PositionDemand}
use Rattle.lxtr_demands.specs.Laws.TypingPositions.{after, position_demand}
use Rattle.lxtr_demands.specs.Rows.{computing}
use Rattle.lxtr_rows.specs.PositionRows.{cycle, n, a, x}

-- one label more than a key may have
abbrev too_many : List Move
too_many = replicate (max_labels + 1) a

-- a value as a number, so that values can be compared; 9 stands for none
or_9 : Option ℕ → ℕ
or_9 None = 9
or_9 (Some v) = v

abbrev value_or_9 : Lookup → ℕ
value_or_9 r = or_9 (case_value r.case)

-- what the definitions answer over P3 and over the cycle
answered_3 : (ms : List Move) → ℕ
answered_3 ms = value_or_9 (position_lookup_of p3 (after p3 ms))

over_3 : (answered_3 [] ≡ 9) × (answered_3 (n ∷ []) ≡ 0) × (answered_3 (n ∷ x ∷ back ∷ []) ≡ 0) × (answered_3 (n ∷ a ∷ x ∷ back ∷ []) ≡ 1)
unfolding computing or_9 answered_3
over_3 = (refl, refl, refl, refl)

over_cycle : case_value (position_lookup_of cycle (after cycle too_many)).case ≡ None
unfolding computing cycle
over_cycle = refl

module _ (o : MoveOperations) (meets : PositionDemand o) where
  -- what o answers after these moves
  abbrev answer_of : List ℕ → List Move → Lookup
  answer_of b ms = o.lookup b (moved_by (library o) b o.fresh ms)

  answer_to : (b : List ℕ) (ms : List Move) (q : List ℕ) → length q % 4 ≡ 0 → labels_of q ≡ held ms → answer_of b ms ≡ position_lookup_of b (after b ms)
  answer_to b ms q whole labels = meets.answers_as_lookup b ms q whole labels ∙ sym (position_demand.answers_as_lookup b ms q whole labels)

  -- After moves with 32-bit labels no other answer meets the demand.
  pub only_answer : (b : List ℕ) (ms : List Move) → Words (held ms) → answer_of b ms ≡ position_lookup_of b (after b ms)
  only_answer b ms small = let (q, whole, labels) = position_demand.some_query ms small in answer_to b ms q whole labels

  -- what o answers over P3
  value_3 : (ms : List Move) (q : List ℕ) → length q % 4 ≡ 0 → labels_of q ≡ held ms → value_or_9 (answer_of p3 ms) ≡ answered_3 ms
  unfolding answered_3
  value_3 ms q whole labels = ap value_or_9 (answer_to p3 ms q whole labels)

  values_3 : (value_or_9 (answer_of p3 []) ≡ 9) × (value_or_9 (answer_of p3 (n ∷ [])) ≡ 0) × (value_or_9 (answer_of p3 (n ∷ x ∷ back ∷ [])) ≡ 0) × (value_or_9 (answer_of p3 (n ∷ a ∷ x ∷ back ∷ [])) ≡ 1)
  unfolding computing held_after held_from
  values_3 = (
    value_3 [] [] refl refl ∙ over_3.0,
    value_3 (n ∷ []) (be_words (0x6E ∷ [])) refl refl ∙ over_3.1,
    value_3 (n ∷ x ∷ back ∷ []) (be_words (0x6E ∷ [])) refl refl ∙ over_3.2,
    value_3 (n ∷ a ∷ x ∷ back ∷ []) (be_words (0x6E ∷ 0x61 ∷ [])) refl refl ∙ over_3.3,
  )

  -- A program for which a failed label loses the good place fails: after n, x, back it answers none.
  pub losing_the_place_fails : case_value (answer_of p3 (n ∷ x ∷ back ∷ [])).case ≡ None → ⊥
  unfolding or_9
  losing_the_place_fails lost = omega (arith, ap or_9 lost, values_3.2)

  -- One that moves up when it takes a failed label back fails: after n, a, x, back it answers as after n.
  pub moving_up_fails : case_value (answer_of p3 (n ∷ a ∷ x ∷ back ∷ [])).case ≡ case_value (answer_of p3 (n ∷ [])).case → ⊥
  moving_up_fails up = omega (arith, ap or_9 up, values_3.1, values_3.3)

  -- One that answers for more labels than a key may have fails, over the cycle.
  pub answering_too_many_fails : case_value (answer_of cycle too_many).case ≢ None → ⊥
  unfolding computing held_after held_from
  answering_too_many_fails answers =
      answers (ap (λ (r : Lookup). case_value r.case) (answer_to cycle too_many (be_words (replicate (max_labels + 1) 0x61)) refl refl) ∙ over_cycle)

  -- One that moves although it refuses, or although the place isn't below N, fails: by a push or by a taking-back.
  moves_fail : (b : List ℕ) (p : TypingPosition) (k y : ℕ) → Stays o b p k → ((o.push b p y).position ≢ p) ⊎ ((o.back b p).position ≢ p) → ⊥
  unfolding move_answer
  moves_fail b p k y stays = ⊎_elim (λ pushes. pushes (ap (λ (m : MoveAnswer). m.position) (stays.pushed y))) (λ takes. takes (ap (λ (m : MoveAnswer). m.position) stays.is_taken_back))

  pub moving_refused_fails : (b : List ℕ) (p : TypingPosition) (y : ℕ) → header_refusal b ≢ 0 → ((o.push b p y).position ≢ p) ⊎ ((o.back b p).position ≢ p) → ⊥
  moving_refused_fails b p y refused = moves_fail b p (header_refusal b) y (meets.refused b p refused)

  pub moving_outside_fails : (b : List ℕ) (p : TypingPosition) (y : ℕ) → header_refusal b ≡ 0 → slot_count b ≤ p.slot → ((o.push b p y).position ≢ p) ⊎ ((o.back b p).position ≢ p) → ⊥
  moving_outside_fails b p y passes above = moves_fail b p 0 y (meets.outside b p passes above)

  -- One that never moves fails, on n over P3.
  pub never_moving_fails : ((b : List ℕ) (p : TypingPosition) (y : ℕ) → (o.push b p y).position ≡ p) → ⊥
  unfolding moved moved_by
  never_moving_fails idle = omega (arith, ap (λ (p : TypingPosition). value_or_9 (o.lookup p3 p)) (idle p3 o.fresh 0x6E), values_3.0, values_3.1)
