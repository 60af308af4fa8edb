-- The functions of the map of free slots, turn by turn.
use Rattle.std.specs.Prelude.{ℕ, zero, suc, ◌+◌, ◌*◌, ◌-◌, ◌/◌, ◌%◌, ◌^◌, ◌≤◌, ◌<◌, min, ◌≡◌, refl, ◌≢◌, Bool, true, false, ◌&&◌, Some, None}
use Rattle.std.proofs.Math.Path.{sym, ap, ap₂}
use Rattle.std.proofs.Common.{◌∙◌, subst, one-mul, length-set, shl_exact, get_or-set_same, get_or-set_other}
use mathlib.Core.List.{List}
use Rattle.std.proofs.Math.Bool.{not, and-true}
use Rattle.std.proofs.Math.Decide.{dec_lt, ℕ_discrete}
use native.Mathlib.Omega.{arith}
use Rattle.std.specs.Int.Bits.{bit_and}
use Rattle.std.specs.Int.Count.{count_trailing_zeros}
use Rattle.std.proofs.Math.Dec.{leb, ltb, eqb}
use Rattle.std.proofs.Math.ListN.{get_or, length, set}
use Rattle.std.proofs.Math.Pow.{shr_lt}
use borrow.Author.Tests.{lt-ltb, le-ltb, le-leb, ne_eqb}
use Rattle.lxtr_spec.specs.Labels.{max_slots}
use Rattle.lxtr_spec.specs.Joining.{slot_under}
use Rattle.lxtr_spec.specs.Placing.{check_at, is_free}
use Rattle.lxtr_laws.specs.BinaryDigits.{bit, bit_shr, bit_of_ones}
use Rattle.lxtr_laws.specs.SlotMaps.{word_bits, slot_bit, BitsOf}
use Rattle.lxtr_laws.specs.Firsts.{NoneFrom, FirstOf}
use Rattle.lxtr_laws.specs.WordSearch.{word_passed, word_hit, bit_past}
use Rattle.lxtr_build_laws.specs.Work.{Cleared}
use Rattle.lxtr_build_laws.specs.SlotWords.{zeros_check}
use Rattle.lxtr_build_laws.specs.SlotLoops.{StepsSoFar, steps_next}
use Rattle.lxtr_fit.specs.FreeMaps.{map_words, FreeMap, taken_in, taken_by}
use Rattle.lxtr_fit.specs.TakenSlots.{taken_size, taken_bit}

-- ---- one slot is taken

-- the shift does not pass the word
one_bit : (k : ℕ) → k < word_bits → 1 * 2 ^ k % 2 ^ word_bits ≡ 2 ^ k
one_bit k h = shl_exact {a = 1} 1 k word_bits (omega arith) (omega arith) ∙ one-mul (2 ^ k)

module _ (t : ℕ) (m : List ℕ) where
  pub take_done : set m (t / word_bits) (bit_and (get_or m (t / word_bits) 0) ((2 ^ word_bits - 1) - 1 * 2 ^ (t % word_bits) % 2 ^ word_bits)) ≡ taken_in t m
  unfolding taken_in
  take_done = ap (λ (x : ℕ). set m (t / word_bits) (bit_and (get_or m (t / word_bits) 0) ((2 ^ word_bits - 1) - x))) (one_bit (t % word_bits) (omega arith))

-- ---- the slots of the first j codes are taken

module _ (b : ℕ) (cs m₀ m : List ℕ) (j : ℕ) (s : StepsSoFar (taken_by b) cs m₀ m j) (t : ℕ) (h : j < length cs) (at : t ≡ slot_under b (get_or cs j 0)) where
  pub taking_next : (u : List ℕ) → u ≡ taken_in t m → StepsSoFar (taken_by b) cs m₀ u (j + 1)
  unfolding taken_by
  taking_next u e = steps_next (taken_by b) cs m₀ m j s u h (rw at at e) (taken_size (slot_under b (get_or cs j 0)) m)

-- ---- a map in which the slots below S are set

from_2 : (t : ℕ) (a : Bool) → (a && not (eqb t 0) && not (eqb t 1)) ≡ (leb 2 t && a)
from_2 zero true = refl
from_2 zero false = refl
from_2 (suc zero) true = refl
from_2 (suc zero) false = refl
from_2 (suc (suc t)) a =
    ap₂ (λ (x y : Bool). a && not x && not y) (ne_eqb (suc (suc t)) 0 (omega arith)) (ne_eqb (suc (suc t)) 1 (omega arith))
    ∙ and-true (a && true) ∙ and-true a ∙ ap (λ (x : Bool). x && a) (sym (le-leb 2 (suc (suc t)) (omega arith)))

-- the first i words are those of such a map
pub record SetSoFar (S : ℕ) (m : List ℕ) (i : ℕ) : Type 0 where
  pub size : length m ≡ map_words
  pub words : (k : ℕ) → k < i → get_or m k 0 ≡ 2 ^ min word_bits (S - word_bits * k) - 1

module _ (S : ℕ) where
  pub setting_start : (m : List ℕ) → length m ≡ map_words → SetSoFar S m 0
  setting_start m e = record { size = e; words = λ k h. absurd (omega arith) }

  module _ (m : List ℕ) (i : ℕ) (s : SetSoFar S m i) where
    pub setting_next : (x : ℕ) → i < length m → x ≡ 2 ^ min word_bits (S - word_bits * i) - 1 → SetSoFar S (set m i x) (i + 1)
    setting_next x h e = record { size = length-set m i x ∙ s.size; words = λ k l. go k l (ℕ_discrete k i) }
      where
        go : (k : ℕ) → k < i + 1 → Dec (k ≡ i) → get_or (set m i x) k 0 ≡ 2 ^ min word_bits (S - word_bits * k) - 1
        go k l (yes q) = rw q (get_or-set_same m i x 0 h ∙ e)
        go k l (no n) = get_or-set_other m i k x 0 n ∙ s.words k (omega arith)

    -- all words are: then slots 0 and 1 are taken
    module _ (end : length m ≤ i) (few : S ≤ max_slots) where
      below_bit : (t : ℕ) → slot_bit m t ≡ ltb t S
      unfolding slot_bit
      below_bit t = go (dec_lt (t / word_bits) map_words)
        where
          in_word : Dec (t < S) → ltb (t % word_bits) (min word_bits (S - word_bits * (t / word_bits))) ≡ ltb t S
          in_word (yes h) = lt-ltb (t % word_bits) (min word_bits (S - word_bits * (t / word_bits))) (omega arith) ∙ sym (lt-ltb t S h)
          in_word (no h) = le-ltb (t % word_bits) (min word_bits (S - word_bits * (t / word_bits))) (omega arith) ∙ sym (le-ltb t S (omega arith))

          go : Dec (t / word_bits < map_words) → slot_bit m t ≡ ltb t S
          go (yes h) = ap (λ (x : ℕ). bit x (t % word_bits)) (s.words (t / word_bits) (omega (arith, s.size))) ∙ bit_of_ones (min word_bits (S - word_bits * (t / word_bits))) (t % word_bits) ∙ in_word (dec_lt t S)
          go (no h) = bit_past m t (omega (arith, s.size)) ∙ sym (le-ltb t S (omega arith))

      pub setting_end : (w m₁ m₂ : List ℕ) → Cleared w → m₁ ≡ taken_in 0 m → m₂ ≡ taken_in 1 m₁ → FreeMap S w m₂ 0
      unfolding is_free
      setting_end w m₁ m₂ clear e q = record {
        size = ap length q ∙ taken_size 1 m₁ ∙ ap length e ∙ taken_size 0 m ∙ s.size;
        bits = λ t.
            ap (λ (l : List ℕ). slot_bit l t) q ∙ taken_bit 1 m₁ (omega (arith, ap length e, taken_size 0 m, s.size)) t
            ∙ ap (λ (a : Bool). a && not (eqb t 1)) (ap (λ (l : List ℕ). slot_bit l t) e ∙ taken_bit 0 m (omega (arith, s.size)) t ∙ ap (λ (a : Bool). a && not (eqb t 0)) (below_bit t))
            ∙ from_2 t (ltb t S) ∙ sym (and-true (leb 2 t && ltb t S)) ∙ ap (λ (x : ℕ). leb 2 t && ltb t S && eqb x 0) (sym (ap (λ (l : List ℕ). check_at l t) clear.zeros ∙ zeros_check (length w) t));
        none_below = record { none = λ j i k. absurd (omega arith) };
      }

-- ---- the search for a free slot: none is free from i up to `at`

pub record NoFreeSoFar (m : List ℕ) (i at : ℕ) : Type 0 where
  pub small : at < 2 ^ 32
  pub from : i ≤ at
  pub none : NoneFrom (slot_bit m) i at

module _ (m : List ℕ) (i : ℕ) where
  pub search_start : i < 2 ^ 32 → NoFreeSoFar m i i
  search_start h = record { small = h; from = omega arith; none = record { none = λ j h l. absurd (omega arith) } }

  module _ (at : ℕ) (s : NoFreeSoFar m i at) (size : length m ≡ map_words) where
    -- the slots from `at` up to the end of its word
    module _ (inside : at / word_bits < length m) (small : get_or m (at / word_bits) 0 < 2 ^ word_bits) where
      abbrev x : ℕ
      x = get_or m (at / word_bits) 0 / 2 ^ (at % word_bits)

      word : BitsOf (slot_bit m) at (word_bits - at % word_bits) x
      unfolding slot_bit
      word = record {
        each = λ j h.
            let same : at / word_bits ≡ (at + j) / word_bits = omega arith in
            let place : at % word_bits + j ≡ (at + j) % word_bits = omega arith in
            bit_shr (get_or m (at / word_bits) 0) (at % word_bits) j ∙ ap₂ (λ (k b : ℕ). bit (get_or m k 0) b) same place;
        small =
            let e : word_bits - at % word_bits + at % word_bits ≡ word_bits = omega arith in
            shr_lt {n = get_or m (at / word_bits) 0} (word_bits - at % word_bits) (at % word_bits) (subst (λ (k : ℕ). get_or m (at / word_bits) 0 < 2 ^ k) (sym e) small);
      }

      pub search_found : x ≢ 0 → FirstOf (slot_bit m) i max_slots (Some (at + count_trailing_zeros word_bits x))
      unfolding FirstOf
      search_found p = word_hit (slot_bit m) i at (word_bits - at % word_bits) x s.none word max_slots s.from (omega arith) (omega arith) p

      pub search_next : x ≡ 0 → NoFreeSoFar m i (at / word_bits * word_bits + word_bits)
      search_next z =
          let e : at + (word_bits - at % word_bits) ≡ at / word_bits * word_bits + word_bits = omega arith in
          record { small = omega arith; from = omega (arith, s.from); none = subst (NoneFrom (slot_bit m) i) e (word_passed (slot_bit m) i at (word_bits - at % word_bits) x s.none word z) }

    pub search_none : length m ≤ at / word_bits → FirstOf (slot_bit m) i max_slots None
    unfolding FirstOf
    search_none h = record { none = λ j k l. s.none.none j k (omega arith) }
