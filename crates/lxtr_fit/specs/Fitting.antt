-- The search for a base, turn by turn: over the codes for one block of bases, over the blocks, and from which block on.
-- The first base that passes in the map is the smallest that fits in the work.
use Rattle.std.specs.Prelude.{ℕ, ◌+◌, ◌*◌, ◌-◌, ◌/◌, ◌^◌, ◌≤◌, ◌<◌, ◌≡◌, ◌≢◌, Bool, false, ◌&&◌, length, Option, Some, None}
use Rattle.std.proofs.Math.Path.{refl, sym, ap, ap₂, subst}
use Rattle.std.proofs.Common.{◌∙◌, arith, add-one, drop_of_length-le, drop-cons, lt-ltb}
use mathlib.Core.List.{List, [], ◌∷◌}
use Rattle.std.proofs.Math.Bool.{and-true, and_assoc}
use Rattle.std.proofs.Math.Decide.{dec_lt}
use Rattle.std.specs.Int.Bits.{bit_and, and_lt}
use Rattle.std.specs.Int.Count.{count_trailing_zeros}
use Rattle.std.proofs.Math.ListN.{get_or, drop}
use Rattle.lxtr_spec.specs.Labels.{max_slots}
use Rattle.lxtr_spec.specs.Joining.{slot_under}
use Rattle.lxtr_spec.specs.Placing.{fits, first_fit, base_count}
use Rattle.lxtr_laws.specs.BinaryDigits.{bit, bit_and_lem, bit_of_zero, bit_of_ones}
use Rattle.lxtr_laws.specs.SlotMaps.{word_bits, slot_bit, BitsOf}
use Rattle.lxtr_laws.specs.Firsts.{First, NoneFrom, FirstOf, one_answer, first_same, none_join, first_lower}
use Rattle.lxtr_laws.specs.WordSearch.{word_passed, word_hit, bit_past}
use Rattle.lxtr_laws.specs.JoiningLaws.{slot_within}
use Rattle.lxtr_laws.specs.JoinedWords.{bit_under}
use Rattle.lxtr_build_laws.specs.FirstFit.{first_fit_first}
use Rattle.lxtr_fit.specs.FreeMaps.{FreeMap, all_under}

-- ---- one block of bases: x has the bits of those under which the slots of the first j codes are set

pub record BasesSoFar (m cs : List ℕ) (k x j : ℕ) : Type 0 where
  pub to : j ≤ length cs
  pub small : x < 2 ^ word_bits
  pub rest : (i : ℕ) → i < word_bits → (bit x i && all_under m (drop j cs) (word_bits * k + i)) ≡ all_under m cs (word_bits * k + i)

module _ (m cs : List ℕ) (k : ℕ) where
  pub bases_start : BasesSoFar m cs k (2 ^ word_bits - 1) 0
  bases_start = record {
    to = omega arith;
    small = omega arith;
    rest = λ i h. ap (λ (a : Bool). a && all_under m cs (word_bits * k + i)) (bit_of_ones word_bits i ∙ lt-ltb i word_bits h);
  }

  module _ (x j : ℕ) (s : BasesSoFar m cs k x j) where
    module _ (h : j < length cs) (y : ℕ) (word : BitsOf (bit_under m (get_or cs j 0)) (word_bits * k) word_bits y) where
      joined : (i : ℕ) → i < word_bits → (bit (bit_and x y) i && all_under m (drop (j + 1) cs) (word_bits * k + i)) ≡ all_under m cs (word_bits * k + i)
      unfolding all_under
      joined i l =
          ap (λ (a : Bool). a && all_under m (drop (j + 1) cs) (word_bits * k + i)) (bit_and_lem x y i ∙ ap (λ (a : Bool). bit x i && a) (word.each i l))
          ∙ and_assoc (bit x i) (bit_under m (get_or cs j 0) (word_bits * k + i)) (all_under m (drop (j + 1) cs) (word_bits * k + i))
          ∙ ap (λ (r : List ℕ). bit x i && all_under m r (word_bits * k + i)) (sym (drop-cons cs j 0 h ∙ ap (λ (n : ℕ). get_or cs j 0 ∷ drop n cs) (sym (add-one j)))) ∙ s.rest i l

      pub bases_next : BasesSoFar m cs k (bit_and x y) (j + 1)
      bases_next = record { to = omega arith; small = and_lt word_bits x y s.small word.small; rest = joined }

      pub bases_none : bit_and x y ≡ 0 → BitsOf (all_under m cs) (word_bits * k) word_bits 0
      bases_none z = record {
        each = λ i l.
            bit_of_zero i ∙ sym (sym (joined i l) ∙ ap (λ (n : ℕ). bit n i && all_under m (drop (j + 1) cs) (word_bits * k + i)) z ∙ ap (λ (a : Bool). a && all_under m (drop (j + 1) cs) (word_bits * k + i)) (bit_of_zero i));
        small = omega arith;
      }

    pub bases_end : length cs ≤ j → BitsOf (all_under m cs) (word_bits * k) word_bits x
    unfolding all_under
    bases_end h = record {
      each = λ i l. sym (and-true (bit x i)) ∙ ap (λ (r : List ℕ). bit x i && all_under m r (word_bits * k + i)) (sym (drop_of_length-le cs {i = j} h)) ∙ s.rest i l;
      small = s.small;
    }

-- ---- the blocks: no base from block k₀ on up to block k fits

pub record NoBaseSoFar (m cs : List ℕ) (k₀ k : ℕ) : Type 0 where
  pub from : k₀ ≤ k
  pub none : NoneFrom (all_under m cs) (word_bits * k₀) (word_bits * k)

module _ (m cs : List ℕ) (k₀ : ℕ) where
  module _ (k : ℕ) (s : NoBaseSoFar m cs k₀ k) where
    module _ (x : ℕ) (word : BitsOf (all_under m cs) (word_bits * k) word_bits x) where
      pub blocks_found : k < base_count / word_bits → x ≢ 0 → FirstOf (all_under m cs) (word_bits * k₀) base_count (Some (word_bits * k + count_trailing_zeros word_bits x))
      unfolding FirstOf
      blocks_found h p = word_hit (all_under m cs) (word_bits * k₀) (word_bits * k) word_bits x s.none word base_count (omega (arith, s.from)) (omega arith) (omega arith) p

      pub blocks_next : x ≡ 0 → NoBaseSoFar m cs k₀ (k + 1)
      blocks_next z =
          let e : word_bits * k + word_bits ≡ word_bits * (k + 1) = omega arith in
          record { from = omega (arith, s.from); none = subst (NoneFrom (all_under m cs) (word_bits * k₀)) e (word_passed (all_under m cs) (word_bits * k₀) (word_bits * k) word_bits x s.none word z) }

    pub blocks_none : base_count / word_bits ≤ k → FirstOf (all_under m cs) (word_bits * k₀) base_count None
    unfolding FirstOf
    blocks_none h = record { none = λ j i l. s.none.none j i (omega arith) }

-- ---- all bases

module _ (S : ℕ) (w m : List ℕ) (l : ℕ) (map : FreeMap S w m l) where
  under_fits : (cs : List ℕ) (b : ℕ) → all_under m cs b ≡ fits S w cs b
  unfolding all_under fits bit_under
  under_fits [] b = refl
  under_fits (c ∷ cs) b = ap₂ (λ (x y : Bool). x && y) (map.bits (slot_under b c)) (under_fits cs b)

  fit_is : (cs : List ℕ) (o : Option ℕ) → FirstOf (all_under m cs) 0 base_count o → o ≡ first_fit S w cs
  fit_is cs o f = one_answer (fits S w cs) 0 base_count o (first_fit S w cs) (first_same (all_under m cs) 0 base_count (fits S w cs) (under_fits cs) o f) (first_fit_first S w cs)

  -- no code: every base fits
  pub fit_no_codes : (cs : List ℕ) → length cs ≡ 0 → Some 0 ≡ first_fit S w cs
  unfolding all_under FirstOf
  fit_no_codes [] e = fit_is [] (Some 0) (record { from = omega arith; to = omega arith; here = refl; none_before = λ j h k. absurd (omega arith) })
  fit_no_codes (c ∷ cs) e = absurd (omega arith)

  -- a base does not fit if the slot of the first code is not free
  not_under : (cs : List ℕ) (b : ℕ) → length cs ≢ 0 → slot_bit m (slot_under b (get_or cs 0 0)) ≡ false → all_under m cs b ≡ false
  unfolding all_under bit_under
  not_under [] b n e = absurd (n refl)
  not_under (c ∷ cs) b n e = ap (λ (a : Bool). a && all_under m cs b) e

  -- no slot is free
  pub fit_none_left : (cs : List ℕ) (r : Option ℕ) → length cs ≢ 0 → FirstOf (slot_bit m) l max_slots r → r ≡ None → None ≡ first_fit S w cs
  unfolding FirstOf
  fit_none_left cs r n f e = fit_is cs None (record { none = λ b h k. not_under cs b n (none_free (slot_under b (get_or cs 0 0))) })
    where
      all : NoneFrom (slot_bit m) 0 max_slots
      all = none_join (slot_bit m) 0 max_slots l map.none_below (subst (λ (x : Option ℕ). FirstOf (slot_bit m) l max_slots x) e f)

      none_free : (t : ℕ) → slot_bit m t ≡ false
      none_free t = go (dec_lt t max_slots)
        where
          go : Dec (t < max_slots) → slot_bit m t ≡ false
          go (yes h) = all.none t (omega arith) h
          go (no h) = bit_past m t (omega (arith, map.size))

  -- t is the first free slot
  module _ (o : Option ℕ) (t : ℕ) (next : FirstOf (slot_bit m) l max_slots o) (is : o ≡ Some t) where
    first_free : First (slot_bit m) l max_slots t
    unfolding FirstOf
    first_free = subst (λ (x : Option ℕ). FirstOf (slot_bit m) l max_slots x) is next

    none_before : NoneFrom (slot_bit m) 0 t
    none_before = none_join (slot_bit m) 0 t l map.none_below (record { none = first_free.none_before })

    pub lowest_risen : FreeMap S w m t
    lowest_risen = record { size = map.size; bits = map.bits; none_below = none_before }

    -- no base fits with which the first code does not come up to t
    pub fit_found : (cs : List ℕ) (k : ℕ) (r : Option ℕ) → length cs ≢ 0 → word_bits * k ≤ t - get_or cs 0 0 → FirstOf (all_under m cs) (word_bits * k) base_count r → r ≡ first_fit S w cs
    fit_found cs k r n e f = fit_is cs r (first_lower (all_under m cs) 0 base_count (word_bits * k) r (omega arith) none_lower f)
      where
        none_lower : NoneFrom (all_under m cs) 0 (word_bits * k)
        none_lower = record { none = λ b h i. not_under cs b n (none_before.none (slot_under b (get_or cs 0 0)) (omega arith) (omega (arith, slot_within b (get_or cs 0 0)))) }
