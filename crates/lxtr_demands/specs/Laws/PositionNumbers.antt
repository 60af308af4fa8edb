-- Positions as numbers, for a host program in C. Every move keeps a position's three numbers so small that they are read back from
-- the one number; so the host program's positions are the numbers of the library's, and its demand follows from the library's.
use Rattle.std.specs.Prelude.{ℕ, ◌+◌, ◌*◌, ◌/◌, ◌%◌, ◌^◌, ◌<◌, ◌≡◌, List, [], ◌∷◌, cond, ltb, eqb, Option, Some, None}
use Rattle.std.proofs.Math.Nat.{div-div-eq-div-mul}
use Rattle.std.proofs.Common.{div-add-mod', arith, sym, ◌∙◌, ltb-true}
use Rattle.std.proofs.Math.Decide.{ℕ_discrete}
use Rattle.std.proofs.Math.Path.{refl, ap}
use Rattle.lxtr_spec.specs.Image.{parent}
use Rattle.lxtr_spec.specs.Refusals.{unless_refused, header_refusal}
use Rattle.lxtr_spec.specs.Searches.{case_value, case_longer}
use Rattle.lxtr_spec.specs.Positions.{TypingPosition, fresh_position, all_walked, slot_by, one_more, max_typed, pushed, one_less, taken_back, is_placed, MoveAnswer, move_answer, moved_to, push_of, back_of, position_lookup_of}
use Rattle.lxtr_spec.specs.HostNumbers.{host_number, value_numbered, probe_numbered, probe_number, position_number, position_of, host_fresh, host_push_of, host_back_of, position_probe_number}
use Rattle.lxtr_laws.specs.Tests.{cond_holds}
use Rattle.lxtr_laws.specs.RefusalChains.{stands}
use Rattle.lxtr_laws.specs.Passed.{Passed, header_passed}
use Rattle.lxtr_laws.specs.StepFacts.{step_by_is}
use Rattle.lxtr_laws.specs.PositionFacts.{slot_by_is}
use Rattle.lxtr_demands.specs.TypingPositions.{Move, push, back, moved, moved_by, defined_moves, library, Stays, defined_host_moves, host, HostStays, HostPositionDemand}
use Rattle.lxtr_demands.specs.Laws.TypingPositions.{after, position_demand}

-- the three numbers fit their bits of the number
record Small (p : TypingPosition) : Type 0 where
  slot : p.slot < 2 ^ 32
  walked : p.walked < 2 ^ 16
  typed : p.typed < 2 ^ 16

-- the one law that depends on the value of the limit of labels typed
typed_fits : max_typed < 2 ^ 16
unfolding max_typed
typed_fits = omega arith

-- a small position's number has 64 bits, and such a number's position is small; each is read back from the other
number_small : (p : TypingPosition) → Small p → position_number p < 2 ^ 64
unfolding position_number
number_small p s = omega arith

small_of : (n : ℕ) → n < 2 ^ 64 → Small (position_of n)
unfolding position_of
small_of n h = omega arith

reads_back : (p : TypingPosition) → Small p → position_of (position_number p) ≡ p
unfolding position_of position_number
reads_back p small = λ i. record { slot = slot i; walked = walked i; typed = typed i }
  where
    n : ℕ
    n = p.slot + p.walked * 2 ^ 32 + p.typed * 2 ^ 48

    slot : n % 2 ^ 32 ≡ p.slot
    slot = omega (arith, small)

    above : n / 2 ^ 32 ≡ p.walked + p.typed * 2 ^ 16
    above = omega (arith, small)

    walked : n / 2 ^ 32 % 2 ^ 16 ≡ p.walked
    walked = rw above (omega (arith, small))

    typed : n / 2 ^ 48 ≡ p.typed
    typed = omega (arith, small)

number_back : (n : ℕ) → position_number (position_of n) ≡ n
unfolding position_of position_number
number_back n = add (n % 2 ^ 32) (n / 2 ^ 32) (n / 2 ^ 32 % 2 ^ 16) (n / 2 ^ 48) (div-add-mod' n (2 ^ 32))
    (sym (ap (λ (u : ℕ). u * 2 ^ 16 + n / 2 ^ 32 % 2 ^ 16) (div-div-eq-div-mul n (2 ^ 32) (2 ^ 16))) ∙ div-add-mod' (n / 2 ^ 32) (2 ^ 16))
  where
    add : (slot above walked typed : ℕ) → above * 2 ^ 32 + slot ≡ n → typed * 2 ^ 16 + walked ≡ above → slot + walked * 2 ^ 32 + typed * 2 ^ 48 ≡ n
    add slot above walked typed e f = omega arith

-- every move keeps any small position small, in any image
module _ (b : List ℕ) (p : TypingPosition) (small : Small p) where
  more_small : Passed b → (x : ℕ) → p.typed < max_typed → Small (one_more p (slot_by b p x))
  unfolding one_more
  more_small ok x few = go (slot_by b p x) refl
    where
      go : (o : Option ℕ) → slot_by b p x ≡ o → Small (one_more p o)
      go None e = record { slot = small.slot; walked = small.walked; typed = omega (arith, typed_fits) }
      go (Some t) e =
          let ((all, within), s) = (slot_by_is b p x t).0 e in
          let (c, coded, stepped) = (step_by_is b p.slot x t).0 s in
          record { slot = omega (arith, stepped.below, ok.whole.sized.slots_to); walked = omega (arith, typed_fits); typed = omega (arith, typed_fits) }

  pushed_small : Passed b → (x : ℕ) → Small (pushed b p x)
  unfolding pushed
  pushed_small ok x = cond_holds Small (ltb p.typed max_typed) (λ e. more_small ok x (ltb-true p.typed max_typed e)) (λ _. small)

  back_small : Small (taken_back b p)
  unfolding taken_back one_less parent
  back_small = cond_holds Small (eqb p.typed 0) (λ _. small) (λ _. cond_holds Small (all_walked p) (λ _. omega arith) (λ _. omega arith))

  to_small : (next : TypingPosition) → (Passed b → Small next) → Small (moved_to b p next).position
  unfolding moved_to move_answer unless_refused
  to_small next h = go (ℕ_discrete (header_refusal b) 0)
    where
      go : Dec (header_refusal b ≡ 0) → Small (unless_refused (header_refusal b) (cond (is_placed b p) next p) p)
      go (yes passes) = rw passes (cond_holds Small (is_placed b p) (λ _. h (header_passed passes)) (λ _. small))
      go (no refused) = rw (stands (header_refusal b) (cond (is_placed b p) next p) p refused) small

  moved_small : (m : Move) → Small (moved (library defined_moves) b p m)
  unfolding moved push_of back_of
  moved_small (push x) = to_small (pushed b p x) (λ ok. pushed_small ok x)
  moved_small back = to_small (taken_back b p) (λ ok. back_small)

  -- a move of the number is that of the position
  number_moved : (m : Move) → moved (host defined_host_moves) b (position_number p) m ≡ position_number (moved (library defined_moves) b p m)
  unfolding moved host_push_of host_back_of
  number_moved (push x) = ap (λ (r : TypingPosition). position_number (push_of b r x).position) (reads_back p small)
  number_moved back = ap (λ (r : TypingPosition). position_number (back_of b r).position) (reads_back p small)

-- after these moves the position is small, and the host program's is its number
record Numbered (b : List ℕ) (p : TypingPosition) (ms : List Move) : Type 0 where
  small : Small (moved_by (library defined_moves) b p ms)
  same : moved_by (host defined_host_moves) b (position_number p) ms ≡ position_number (moved_by (library defined_moves) b p ms)

numbered : (b : List ℕ) (ms : List Move) (p : TypingPosition) → Small p → Numbered b p ms
unfolding moved_by
numbered b [] p s = record { small = s; same = refl }
numbered b (m ∷ ms) p s =
    let r = numbered b ms (moved (library defined_moves) b p m) (moved_small b p s m) in
    record { small = r.small; same = ap (λ (n : ℕ). moved_by (host defined_host_moves) b n ms) (number_moved b p s m) ∙ r.same }

from_fresh : (b : List ℕ) (ms : List Move) → Numbered b fresh_position ms
unfolding fresh_position
from_fresh b ms = numbered b ms fresh_position (omega arith)

host_stays : (b : List ℕ) (n k : ℕ) → Stays defined_moves b (position_of n) k → HostStays defined_host_moves b n k
unfolding host_push_of host_back_of move_answer position_probe_number probe_numbered case_value case_longer value_numbered host_number
host_stays b n k s = record {
  pushed = λ x. ap (λ (a : MoveAnswer). position_number a.position) (s.pushed x) ∙ number_back n;
  is_taken_back = ap (λ (a : MoveAnswer). position_number a.position) s.is_taken_back ∙ number_back n;
  answer = ap probe_numbered s.answer ∙ (let e : k * 2 ^ 40 + 0 + 0 + 0 ≡ k * 2 ^ 40 = omega arith in e);
}

pub host_position_demand : HostPositionDemand defined_host_moves
unfolding host_fresh host_push_of host_back_of probe_number position_probe_number moved
host_position_demand = record {
  answers_as_lookup = λ b ms q whole labels.
      let r = from_fresh b ms in
      ap (λ (n : ℕ). probe_numbered (position_lookup_of b (position_of n))) r.same ∙ ap probe_numbered (ap (position_lookup_of b) (reads_back (after b ms) r.small) ∙ position_demand.answers_as_lookup b ms q whole labels);
  same_position = λ b ms ns same. (from_fresh b ms).same ∙ ap position_number (position_demand.same_position b ms ns same) ∙ sym (from_fresh b ns).same;
  numbers = λ b n x h. (
    number_small (push_of b (position_of n) x).position (moved_small b (position_of n) (small_of n h) (push x)),
    number_small (back_of b (position_of n)).position (moved_small b (position_of n) (small_of n h) back),
  );
  refused = λ b n refused. host_stays b n (header_refusal b) (position_demand.refused b (position_of n) refused);
  outside = λ b n passes above. host_stays b n 0 (position_demand.outside b (position_of n) passes above);
}
