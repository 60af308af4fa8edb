-- A position belongs to the list of labels typed: its labels walked are the longest front part of the list, within the limit of a
-- key, that reaches a slot. Every move keeps that, and a list has one such position. If all labels were walked, its place is the slot
-- that lookup's walk reaches; if not, that walk fails.
use Rattle.std.specs.Prelude.{ℕ, ◌+◌, ◌-◌, ◌%◌, ◌≤◌, ◌<◌, ◌≡◌, ◌≢◌, Bool, true, false, cond, ltb, eqb, take, Option, Some, None}
use Rattle.std.proofs.Math.Decide.{ℕ_discrete}
use native.Mathlib.Omega.{arith}
use Rattle.std.proofs.Math.Path.{refl, ap}
use Rattle.std.proofs.Common.{sym, ◌∙◌}
use Rattle.std.proofs.Math.Logic.{⊎_elim}
use mathlib.Core.List.{List, [], ◌∷◌, ◌++◌}
use Rattle.std.proofs.Math.ListN.{length}
use Rattle.std.proofs.Math.Seq.{take-append_seam}
use borrow.Author.Tests.{lt-ltb, le-ltb, eq-eqb, ne_eqb, eqb-true, eqb-false}
use Rattle.lxtr_spec.specs.Numbers.{be_words}
use Rattle.lxtr_spec.specs.Labels.{max_labels, labels_of}
use Rattle.lxtr_spec.specs.Image.{slot_count, parent}
use Rattle.lxtr_spec.specs.Refusals.{unless_refused, header_refusal}
use Rattle.lxtr_spec.specs.Walks.{walk, walk_within}
use Rattle.lxtr_spec.specs.Searches.{case_at, case_within, lookup_of}
use Rattle.lxtr_spec.specs.declared.Case.{Case}
use Rattle.lxtr_spec.specs.declared.Case.TheVariants.{Neither}
use Rattle.lxtr_spec.specs.Searches.{Lookup}
use Rattle.lxtr_spec.specs.Positions.{TypingPosition, fresh_position, all_walked, slot_by, one_more, max_typed, pushed, one_less, taken_back, is_placed, MoveAnswer, move_answer, moved_to, push_of, back_of, reached_slot, position_lookup_of}
use Rattle.lxtr_laws.specs.Tests.{cond_holds}
use Rattle.lxtr_laws.specs.RangeTests.{below_suc}
use Rattle.lxtr_laws.specs.RefusalChains.{stands}
use Rattle.lxtr_laws.specs.KeyPrefixes.{Last, empty, snoc, last, length_snoc}
use Rattle.lxtr_laws.specs.Passed.{Passed, header_passed}
use Rattle.lxtr_laws.specs.StepFacts.{none_not_some, some_same, same_answer, step_by_is, walk_snoc}
use Rattle.lxtr_laws.specs.PositionFacts.{slot_by_is, reached_is}
use Rattle.lxtr_laws.specs.Lengths.{words_length}
use Rattle.lxtr_laws.specs.QueryLabels.{labels_back}
use Rattle.lxtr_laws.specs.Walking.{Walked, walked_start, walk_ended, walked_whole, walked_part, within_is}
use Rattle.lxtr_laws.specs.SearchReturns.{header_stands, search_allowed, lookup_refused}
use Rattle.lxtr_demands.specs.TypingPositions.{Move, push, back, held_after, held_from, held, moved, moved_by, defined_moves, library, Stays, Words, PositionDemand}
use Rattle.lxtr_demands.specs.Laws.Demand2.{demand2}

-- p is the position of the labels xs
record At (b xs : List ℕ) (p : TypingPosition) : Type 0 where
  typed : p.typed ≡ length xs
  within : p.walked ≤ max_labels
  front : Walked b xs p.walked p.slot
  longest : (k t : ℕ) → k ≤ max_labels → Walked b xs k t → k ≤ p.walked

-- a front part that is the whole list
all_reach : {b xs : List ℕ} {k t : ℕ} → Walked b xs k t → length xs ≤ k → walk b 1 xs ≡ Some t
all_reach {b} {xs} {k} {t} w h = sym (walk_ended b xs (length xs) k t refl w h)

-- a list has one position
one_position : (b xs : List ℕ) (p q : TypingPosition) → At b xs p → At b xs q → p ≡ q
one_position b xs p q a c =
    let walked : p.walked ≡ q.walked = omega (arith, a.longest q.walked q.slot c.within c.front, c.longest p.walked p.slot a.within a.front) in
    let slot : p.slot ≡ q.slot = some_same (sym a.front.reached ∙ ap (λ (k : ℕ). walk b 1 (take k xs)) walked ∙ c.front.reached) in
    let typed : p.typed ≡ q.typed = a.typed ∙ sym c.typed in
    λ i. record { slot = slot i; walked = walked i; typed = typed i }

-- the position after these moves
abbrev pub after : List ℕ → List Move → TypingPosition
after b ms = moved_by (library defined_moves) b fresh_position ms

-- an image that passed 1 to 8
module _ (b : List ℕ) (passes : header_refusal b ≡ 0) where
  ok : Passed b
  ok = header_passed passes

  at_fresh : At b [] fresh_position
  unfolding fresh_position
  at_fresh = record { typed = refl; within = omega arith; front = walked_start b [] ok; longest = λ k t m w. w.so_far }

  -- one label more
  module _ (xs : List ℕ) (p : TypingPosition) (a : At b xs p) (x : ℕ) where
    -- the step reaches slot t
    more_walked : (t : ℕ) → slot_by b p x ≡ Some t → At b (xs ++ x ∷ []) (one_more p (Some t))
    unfolding one_more
    more_walked t e =
        let ((all, few), s) = (slot_by_is b p x t).0 e in
        let (c, coded, stepped) = (step_by_is b p.slot x t).0 s in
        let reached = (walk_snoc b xs x t).1 (record { slot = p.slot; code = c; walked = all_reach a.front (omega (arith, a.typed)); coded = coded; stepped = stepped }) in
        let size : length (xs ++ x ∷ []) ≡ p.walked + 1 = omega (arith, length_snoc xs x, a.typed) in
        record {
          typed = omega arith;
          within = omega arith;
          front = rw size at (walked_whole b (xs ++ x ∷ []) ok t reached);
          longest = λ k t m w. omega (arith, w.so_far);
        }

    -- a walk along all labels and this one, within the limit, ends with that step
    last_step : (t : ℕ) → length xs < max_labels → walk b 1 (xs ++ x ∷ []) ≡ Some t → slot_by b p x ≡ Some t
    last_step t few e =
        let l = (walk_snoc b xs x t).0 e in
        let up = a.longest (length xs) l.slot (omega arith) (walked_whole b xs ok l.slot l.walked) in
        let same : l.slot ≡ p.slot = some_same (sym l.walked ∙ all_reach a.front up) in
        (slot_by_is b p x t).1 ((omega (arith, a.typed, a.front.so_far), omega (arith, a.typed)), (step_by_is b p.slot x t).1 (l.code, l.coded, rw same at l.stepped))

    -- so a label without a step only counts
    more_counted : slot_by b p x ≡ None → At b (xs ++ x ∷ []) (one_more p None)
    unfolding one_more
    more_counted e =
        let size = length_snoc xs x in
        record {
          typed = omega (arith, a.typed);
          within = a.within;
          front = (walked_part b xs x p.walked p.slot a.front.so_far).1 a.front;
          longest = λ k t m w. ⊎_elim
              (λ whole. absurd (none_not_some (sym e ∙ last_step t (omega arith) (all_reach w (omega arith)))))
              (λ part. a.longest k t m ((walked_part b xs x k t (omega arith)).0 w))
              (below_suc k (length (xs ++ x ∷ [])) (omega (arith, w.so_far)));
        }

    push_at : At b (held_after xs (push x)) (pushed b p x)
    unfolding held_after pushed
    push_at = rw (← a.typed) (both (ltb p.typed max_typed))
      where
        more : (o : Option ℕ) → slot_by b p x ≡ o → At b (xs ++ x ∷ []) (one_more p o)
        more None = more_counted
        more (Some t) = more_walked t

        both : (t : Bool) → At b (cond t (xs ++ x ∷ []) xs) (cond t (one_more p (slot_by b p x)) p)
        both true = more (slot_by b p x) refl
        both false = a

  -- the last label taken back
  module _ (xs : List ℕ) (x : ℕ) (p : TypingPosition) (a : At b (xs ++ x ∷ []) p) where
    size : p.typed ≡ length xs + 1
    size = omega (arith, a.typed, length_snoc xs x)

    -- it was walked
    less_walked : p.walked ≡ p.typed → At b xs (record { slot = parent b p.slot; walked = p.walked - 1; typed = p.typed - 1 })
    less_walked all =
        let l = (walk_snoc b xs x p.slot).0 (all_reach a.front (omega (arith, a.typed))) in
        let count : p.walked - 1 ≡ length xs = omega (arith, size) in
        record {
          typed = omega (arith, size);
          within = omega (arith, a.within);
          front = rw (count, l.stepped.up) (walked_whole b xs ok l.slot l.walked);
          longest = λ k t m w. omega (arith, w.so_far);
        }

    -- it only counted
    less_counted : p.walked ≢ p.typed → At b xs (record { slot = p.slot; walked = p.walked; typed = p.typed - 1 })
    less_counted counted = record {
      typed = omega (arith, size);
      within = a.within;
      front = (walked_part b xs x p.walked p.slot (omega (arith, size, a.typed, a.front.so_far))).0 a.front;
      longest = λ k t m w. a.longest k t m ((walked_part b xs x k t w.so_far).1 w);
    }

    less_at : At b xs (one_less b p)
    unfolding one_less all_walked
    less_at = cond_holds (At b xs) (eqb p.walked p.typed) (λ e. less_walked (eqb-true p.walked p.typed e)) (λ e. less_counted (eqb-false p.walked p.typed e))

  back_at : (xs : List ℕ) → Last xs → (p : TypingPosition) → At b xs p → At b (held_after xs back) (taken_back b p)
  unfolding held_after taken_back
  back_at xs empty p a = rw (eq-eqb p.typed 0 a.typed) a
  back_at xs (snoc ys x l) p a =
      let size = length_snoc ys x in
      let one : length (ys ++ x ∷ []) - 1 ≡ length ys = omega arith in
      let some-typed : p.typed ≢ 0 = omega (arith, a.typed) in
      rw (one, take-append_seam ys (x ∷ []), ne_eqb p.typed 0 some-typed) (less_at ys x p a)

  -- any moves
  at_moved : (xs : List ℕ) (p : TypingPosition) → At b xs p → (m : Move) → At b (held_after xs m) (moved (library defined_moves) b p m)
  unfolding moved push_of back_of moved_to move_answer unless_refused is_placed
  at_moved xs p a (push x) = rw (passes, lt-ltb p.slot (slot_count b) a.front.below) (push_at xs p a x)
  at_moved xs p a back = rw (passes, lt-ltb p.slot (slot_count b) a.front.below) (back_at xs (last xs) p a)

  at_moves : (ms : List Move) (xs : List ℕ) (p : TypingPosition) → At b xs p → At b (held_from xs ms) (moved_by (library defined_moves) b p ms)
  unfolding held_from moved_by
  at_moves [] xs p a = a
  at_moves (m ∷ ms) xs p a = at_moves ms (held_after xs m) (moved (library defined_moves) b p m) (at_moved xs p a m)

  at_held : (ms : List Move) → At b (held ms) (after b ms)
  at_held ms = at_moves ms [] fresh_position at_fresh

  -- the slot that all labels reach, or none, is what lookup's walk gives
  reached_walked : (xs : List ℕ) (p : TypingPosition) → At b xs p → reached_slot b p ≡ walk_within b xs
  reached_walked xs p a = same_answer (reached_slot b p) (walk_within b xs) (λ t. (
    λ e.
        let ((below, all), same) = (reached_is b p t).0 e in
        (within_is b xs t).1 (omega (arith, a.typed, a.within), all_reach a.front (omega (arith, a.typed)) ∙ same),
    λ e.
        let (few, reached) = (within_is b xs t).0 e in
        let all = a.longest (length xs) t few (walked_whole b xs ok t reached) in
        (reached_is b p t).1 ((a.front.below, omega (arith, a.typed, a.front.so_far)), sym (all_reach a.front all) ∙ reached),
  ))

  answers : (xs : List ℕ) (p : TypingPosition) → At b xs p → (q : List ℕ) → length q % 4 ≡ 0 → labels_of q ≡ xs → position_lookup_of b p ≡ lookup_of b q
  unfolding position_lookup_of lookup_of case_within unless_refused
  answers xs p a q whole labels = rw (passes, ← (search_allowed b q 0 (sym passes) refl whole), labels, reached_walked xs p a)

-- a refused image: the position stays
module _ (b : List ℕ) (refused : header_refusal b ≢ 0) where
  stays_refused : (p : TypingPosition) → Stays defined_moves b p (header_refusal b)
  unfolding push_of back_of moved_to position_lookup_of
  stays_refused p = record {
    pushed = λ x. stay (pushed b p x);
    is_taken_back = stay (taken_back b p);
    answer = ap (λ (c : Case). record { refusal = header_refusal b; case = c }) (stands (header_refusal b) (case_at b (reached_slot b p)) Neither refused);
  }
    where
      stay : (next : TypingPosition) → move_answer (header_refusal b) (unless_refused (header_refusal b) (cond (is_placed b p) next p) p) ≡ move_answer (header_refusal b) p
      stay next = ap (move_answer (header_refusal b)) (stands (header_refusal b) (cond (is_placed b p) next p) p refused)

  unmoved : (p : TypingPosition) (m : Move) → moved (library defined_moves) b p m ≡ p
  unfolding moved move_answer
  unmoved p (push x) = ap (λ (a : MoveAnswer). a.position) ((stays_refused p).pushed x)
  unmoved p back = ap (λ (a : MoveAnswer). a.position) (stays_refused p).is_taken_back

  unmoved_by : (ms : List Move) (p : TypingPosition) → moved_by (library defined_moves) b p ms ≡ p
  unfolding moved_by
  unmoved_by [] p = refl
  unmoved_by (m ∷ ms) p = ap (λ (r : TypingPosition). moved_by (library defined_moves) b r ms) (unmoved p m) ∙ unmoved_by ms p

  lookup_refuses : (q : List ℕ) → ◌≡◌ {A = Lookup} (record { refusal = header_refusal b; case = Neither }) (lookup_of b q)
  lookup_refuses q = lookup_refused b q (header_refusal b) (header_stands b q (header_refusal b) refl refused) refused

-- a place that isn't below N
stays_outside : (b : List ℕ) (p : TypingPosition) → header_refusal b ≡ 0 → slot_count b ≤ p.slot → Stays defined_moves b p 0
unfolding push_of back_of moved_to position_lookup_of reached_slot is_placed case_at unless_refused
stays_outside b p passes h =
    let outside = le-ltb p.slot (slot_count b) h in
    record { pushed = λ x. rw (passes, outside); is_taken_back = rw (passes, outside); answer = rw (passes, outside) }

answers_as_lookup : (b : List ℕ) (ms : List Move) (q : List ℕ) → length q % 4 ≡ 0 → labels_of q ≡ held ms → position_lookup_of b (after b ms) ≡ lookup_of b q
answers_as_lookup b ms q whole labels = go (ℕ_discrete (header_refusal b) 0)
  where
    go : Dec (header_refusal b ≡ 0) → position_lookup_of b (after b ms) ≡ lookup_of b q
    go (yes passes) = answers b passes (held ms) (after b ms) (at_held b passes ms) q whole labels
    go (no refused) = (stays_refused b refused (after b ms)).answer ∙ lookup_refuses b refused q

same_position : (b : List ℕ) (ms ns : List Move) → held ms ≡ held ns → after b ms ≡ after b ns
same_position b ms ns same = go (ℕ_discrete (header_refusal b) 0)
  where
    go : Dec (header_refusal b ≡ 0) → after b ms ≡ after b ns
    go (yes passes) = one_position b (held ns) (after b ms) (after b ns) (rw same at (at_held b passes ms)) (at_held b passes ns)
    go (no refused) = unmoved_by b refused ms fresh_position ∙ sym (unmoved_by b refused ns fresh_position)

query_of : (ms : List Move) → Words (held ms) → (q : List ℕ) × (length q % 4 ≡ 0) × (labels_of q ≡ held ms)
query_of ms small = (be_words (held ms), omega (arith, words_length (held ms)), labels_back (held ms) small)

pub position_demand : PositionDemand defined_moves
unfolding push_of back_of moved_to move_answer
position_demand = record {
  answers_as_lookup = answers_as_lookup;
  same_position = same_position;
  some_query = query_of;
  in_set = λ b d ms image small.
      let (q, whole, labels) = query_of ms small in
      let a = demand2 b d q image whole in
      let (c, is) = a.some_case in
      rw (answers_as_lookup b ms q whole labels, ← labels, a.lookup c is) (refl, is);
  refusals = λ b p x. (refl, refl);
  refused = λ b p refused. stays_refused b refused p;
  outside = stays_outside;
}
