-- A search through words of outcomes, one after the other, for the first number that passes a test.
-- A word that is 0 is passed; otherwise its lowest bit that is set is the first number that passes.
use Rattle.std.specs.Prelude.{ℕ, ◌+◌, ◌-◌, ◌/◌, ◌%◌, ◌≤◌, ◌<◌, ◌≡◌, ◌≢◌, List, Bool, false, length}
use Rattle.std.proofs.Common.{sym, ap, ◌∙◌, arith, pow_mono}
use Rattle.std.specs.Int.Count.{count_trailing_zeros}
use Rattle.std.proofs.Math.ListN.{get_or-eq_default}
use Rattle.lxtr_laws.specs.BinaryDigits.{bit, bit_of_zero, bit_inside, LowestBit, lowest_bit}
use Rattle.lxtr_laws.specs.SlotMaps.{word_bits, slot_bit, BitsOf}
use Rattle.lxtr_laws.specs.Firsts.{First, NoneFrom, none_join}

-- none from i up to at - 1 passes, and x has the outcomes for the k numbers from `at` on
module _ (f : ℕ → Bool) (i at k x : ℕ) (before : NoneFrom f i at) (word : BitsOf f at k x) where
  outcome_at : (j : ℕ) → at ≤ j → j < at + k → f j ≡ bit x (j - at)
  outcome_at j h l = let e : j ≡ at + (j - at) = omega arith in ap f e ∙ sym (word.each (j - at) (omega arith))

  pub word_passed : x ≡ 0 → NoneFrom f i (at + k)
  word_passed z = none_join f i (at + k) at before (record { none = λ j h l. outcome_at j h l ∙ ap (λ (y : ℕ). bit y (j - at)) z ∙ bit_of_zero (j - at) })

  pub word_hit : (n : ℕ) → i ≤ at → k ≤ word_bits → at + k ≤ n → x ≢ 0 → First f i n (at + count_trailing_zeros word_bits x)
  word_hit n low few to p = record {
    from = omega arith;
    to = omega (arith, inside);
    here = sym (word.each (count_trailing_zeros word_bits x) inside) ∙ lowest.set;
    none_before = (none_join f i (at + count_trailing_zeros word_bits x) at before (record { none = λ j h l. outcome_at j h (omega (arith, inside)) ∙ lowest.none_below (j - at) (omega arith) })).none;
  }
    where
      lowest : LowestBit word_bits x (count_trailing_zeros word_bits x)
      lowest = lowest_bit word_bits x (omega (arith, word.small, pow_mono {i = k} {j = word_bits} few)) p

      inside : count_trailing_zeros word_bits x < k
      inside = bit_inside x k (count_trailing_zeros word_bits x) word.small lowest.set

-- a slot past the map is not set
pub bit_past : (m : List ℕ) (t : ℕ) → length m ≤ t / word_bits → slot_bit m t ≡ false
unfolding slot_bit
bit_past m t h = ap (λ (x : ℕ). bit x (t % word_bits)) (get_or-eq_default m 0 {n = t / word_bits} h) ∙ bit_of_zero (t % word_bits)
