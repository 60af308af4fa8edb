-- The joining rule for 64 bases at a time. Base and code are joined digit by digit, so the 64 bases from a multiple of 64 on lead
-- to the 64 slots of one word of a map, each to another one. Only these laws and JoiningLaws know that the rule is XOR.
use Rattle.std.specs.Prelude.{ℕ, ◌+◌, ◌*◌, ◌-◌, ◌/◌, ◌%◌, ◌^◌, ◌≤◌, ◌<◌, ◌≡◌, List, ◌≢◌, Bool, ◌&&◌, ◌||◌, not, cond, leb, eqb, get_or, length}
use Rattle.std.proofs.Math.Path.{refl, ap, ap₂}
use Rattle.std.proofs.Common.{sym, ◌∙◌, subst, mod-lt, mul_comm, zero-mul, zero-add, add-zero, zero-lt-suc, one-mul, mul-one, arith, le-leb, pow_pos}
use Rattle.std.proofs.Math.Bool.{true, false}
use Rattle.std.proofs.lemmas.Bool.{false≢true, lt-leb}
use Rattle.std.proofs.Math.Decide.{dec_le}
use Rattle.std.proofs.Math.Arith.{digits_div, digits_mod}
use Rattle.std.specs.Int.Bits.{bit_and, bit_or, bit_xor, xor_block, xor_lt, xor_zero_r}
use Rattle.std.proofs.Math.ListN.{get_or-eq_default}
use Rattle.std.proofs.Math.Pow.{pow_mono, shl_lt, split}
use Rattle.std.proofs.lemmas.Nat.{mod-pow-add}
use Rattle.lxtr_spec.specs.Ranges.{any_below}
use Rattle.lxtr_laws.specs.Tests.{and_is_true, eqb_is_true, not_is_false, not_is_true}
use Rattle.lxtr_laws.specs.RangeTests.{any_false}
use Rattle.lxtr_spec.specs.Joining.{slot_under}
use Rattle.lxtr_laws.specs.BinaryDigits.{bit, bit_and_lem, bit_or_lem, bit_shr, bit_shl, bit_shl_low, bit_mod, bit_of_zero}
use Rattle.lxtr_laws.specs.SlotMaps.{word_bits, slot_bit, BitsOf}

-- ---- the bits of one word in another order

-- bit j of y is the bit of x for the slot that code d reaches from base j
pub record Reordered (d x y : ℕ) : Type 0 where
  pub each : (j : ℕ) → j < word_bits → bit y j ≡ bit x (slot_under j d)

-- The mask m of the swap by w, at bit j. If the bit is set, code w leads from base j to j + w, and bit j - w is not set. If it is
-- not, code w leads from base j to j - w, and bit j - w is set.
unfoldable pub swaps_at : ℕ → ℕ → ℕ → Bool
swaps_at w m j = cond (bit m j) (eqb (slot_under j w) (w + j) && not (leb w j && bit m (j - w))) ((leb w j && bit m (j - w)) && eqb (slot_under j w) (j - w))

unfoldable pub wrong_at : ℕ → ℕ → ℕ → Bool
wrong_at w m j = not (swaps_at w m j)

-- m is such a mask at every bit
unfoldable pub is_swap_mask : ℕ → ℕ → Bool
is_swap_mask w m = not (any_below word_bits (wrong_at w m))

masked_off : (p q y z : Bool) → (q && z) ≡ false → ((p && true) || (q && (y && z))) ≡ p
masked_off true q y z e = refl
masked_off false false y z e = refl
masked_off false true true z e = e
masked_off false true false z e = refl

masked_on : (p q y z : Bool) → (q && z) ≡ true → ((p && false) || (q && (y && z))) ≡ y
masked_on true true true z e = e
masked_on true true false z e = refl
masked_on true false y z e = absurd (false≢true e)
masked_on false true true z e = e
masked_on false true false z e = refl
masked_on false false y z e = absurd (false≢true e)

-- the bits of the mask move w places up, and the others down
module _ (w m x : ℕ) (mask : is_swap_mask w m ≡ true) where
  swaps : (j : ℕ) → j < word_bits → swaps_at w m j ≡ true
  unfolding is_swap_mask wrong_at
  swaps j h = (not_is_false (swaps_at w m j)).0 ((any_false word_bits (wrong_at w m)).0 ((not_is_true (any_below word_bits (wrong_at w m))).0 mask) j h)

  high : (j : ℕ) → j < word_bits → bit (bit_and x m * 2 ^ w % 2 ^ word_bits) j ≡ (leb w j && (bit x (j - w) && bit m (j - w)))
  high j h = bit_mod (bit_and x m * 2 ^ w) word_bits j h ∙ go (dec_le w j)
    where
      go : Dec (w ≤ j) → bit (bit_and x m * 2 ^ w) j ≡ (leb w j && (bit x (j - w) && bit m (j - w)))
      go (yes l) =
          let e : j ≡ w + (j - w) = omega arith in
          ap (bit (bit_and x m * 2 ^ w)) e ∙ bit_shl (bit_and x m) w (j - w) ∙ bit_and_lem x m (j - w) ∙ ap (λ (t : Bool). t && (bit x (j - w) && bit m (j - w))) (sym (le-leb w j l))
      go (no g) = bit_shl_low (bit_and x m) w j (omega arith) ∙ ap (λ (t : Bool). t && (bit x (j - w) && bit m (j - w))) (sym (lt-leb w j (omega arith)))

  swap_reorders : Reordered w x (bit_or (bit_and (x / 2 ^ w) m) (bit_and x m * 2 ^ w % 2 ^ word_bits))
  unfolding swaps_at
  swap_reorders = record {
    each = λ j h.
        bit_or_lem (bit_and (x / 2 ^ w) m) (bit_and x m * 2 ^ w % 2 ^ word_bits) j
        ∙ ap₂ (λ (s t : Bool). s || t) (bit_and_lem (x / 2 ^ w) m j ∙ ap (λ (t : Bool). t && bit m j) (bit_shr x w j)) (high j h) ∙ go j (bit m j) refl (swaps j h);
  }
    where
      go : (j : ℕ) (t : Bool) → bit m j ≡ t → swaps_at w m j ≡ true → ((bit x (w + j) && t) || (leb w j && (bit x (j - w) && bit m (j - w)))) ≡ bit x (slot_under j w)
      go j true e s =
          let a = (and_is_true (eqb (slot_under j w) (w + j)) (not (leb w j && bit m (j - w)))).0 (rw e at s) in
          masked_off (bit x (w + j)) (leb w j) (bit x (j - w)) (bit m (j - w)) ((not_is_true (leb w j && bit m (j - w))).0 a.1) ∙ ap (bit x) (sym ((eqb_is_true (slot_under j w) (w + j)).0 a.0))
      go j false e s =
          let a = (and_is_true (leb w j && bit m (j - w)) (eqb (slot_under j w) (j - w))).0 (rw e at s) in
          masked_on (bit x (w + j)) (leb w j) (bit x (j - w)) (bit m (j - w)) a.0 ∙ ap (bit x) (sym ((eqb_is_true (slot_under j w) (j - w)).0 a.1))

-- code 0 leaves the order
reordered_none : (x : ℕ) → Reordered 0 x x
unfolding slot_under
reordered_none x = record { each = λ j h. ap (bit x) (sym (xor_zero_r j)) }

-- the swap of one digit d
module _ (d w m x : ℕ) where
  pub digit_none : d ≡ 0 → Reordered (d * w) x x
  digit_none e = subst (λ (n : ℕ). Reordered n x x) (sym (ap (λ (n : ℕ). n * w) e ∙ zero-mul w)) (reordered_none x)

  pub digit_one : d < 2 → d ≢ 0 → is_swap_mask w m ≡ true → Reordered (d * w) x (bit_or (bit_and (x / 2 ^ w) m) (bit_and x m * 2 ^ w % 2 ^ word_bits))
  digit_one h n mask = let e : d ≡ 1 = omega arith in subst (λ (k : ℕ). Reordered k x (bit_or (bit_and (x / 2 ^ w) m) (bit_and x m * 2 ^ w % 2 ^ word_bits))) (sym (ap (λ (k : ℕ). k * w) e ∙ one-mul w)) (swap_reorders w m x mask)

-- digit i of a code, after the lower ones
joined_twice : (i j d r : ℕ) → r < 2 ^ i → slot_under (slot_under j (d * 2 ^ i)) r ≡ slot_under j (d * 2 ^ i + r)
unfolding slot_under
joined_twice i j d r h =
    let q = j / 2 ^ i in
    let l = j % 2 ^ i in
    let low : l < 2 ^ i = mod-lt j (pow_pos i) in
    let first : bit_xor j (d * 2 ^ i) ≡ bit_xor q d * 2 ^ i + l =
    ap₂ bit_xor (sym (split j i)) (sym (add-zero (d * 2 ^ i))) ∙ xor_block i q d l 0 low (pow_pos i) ∙ ap (λ (n : ℕ). bit_xor q d * 2 ^ i + n) (xor_zero_r l) in
    let second : bit_xor (bit_xor q d * 2 ^ i + l) (0 * 2 ^ i + r) ≡ bit_xor q d * 2 ^ i + bit_xor l r =
    xor_block i (bit_xor q d) 0 l r low h ∙ ap (λ (n : ℕ). n * 2 ^ i + bit_xor l r) (xor_zero_r (bit_xor q d)) in
    let same : 0 * 2 ^ i + r ≡ r = ap (λ (n : ℕ). n + r) (zero-mul (2 ^ i)) ∙ zero-add r in
    ap₂ bit_xor first (sym same) ∙ second ∙ sym (ap (λ (n : ℕ). bit_xor n (d * 2 ^ i + r)) (sym (split j i)) ∙ xor_block i q d l r low h)

module _ (i c x y z : ℕ) where
  reordered_more : i < 6 → Reordered (c % 2 ^ i) x y → Reordered (c / 2 ^ i % 2 * 2 ^ i) y z → Reordered (c % 2 ^ (1 + i)) x z
  unfolding slot_under
  reordered_more h lower here = record {
    each = λ j l.
        here.each j l ∙ lower.each (slot_under j (c / 2 ^ i % 2 * 2 ^ i)) (inside j l)
        ∙ ap (bit x) (joined_twice i j (c / 2 ^ i % 2) (c % 2 ^ i) (mod-lt c (pow_pos i)) ∙ ap (slot_under j) (sym (mod-pow-add c 1 i)));
  }
    where
      inside : (j : ℕ) → j < word_bits → slot_under j (c / 2 ^ i % 2 * 2 ^ i) < word_bits
      inside j l = xor_lt 6 j (c / 2 ^ i % 2 * 2 ^ i) l (omega (arith, shl_lt {a = c / 2 ^ i % 2} 1 i (mod-lt (c / 2 ^ i) (zero-lt-suc 1)), pow_mono {i = 1 + i} {j = 6} (omega arith)))

-- the swaps of six digits, from the lowest up
pub all_reordered : (c x y₁ y₂ y₃ y₄ y₅ y₆ : ℕ) → Reordered (c % 2 * 1) x y₁ → Reordered (c / 2 % 2 * 2) y₁ y₂ → Reordered (c / 4 % 2 * 4) y₂ y₃ → Reordered (c / 8 % 2 * 8) y₃ y₄ → Reordered (c / 16 % 2 * 16) y₄ y₅ → Reordered (c / 32 % 2 * 32) y₅ y₆
    → Reordered (c % word_bits) x y₆
all_reordered c x y₁ y₂ y₃ y₄ y₅ y₆ m₁ m₂ m₃ m₄ m₅ m₆ =
    let one : Reordered (c % 2) x y₁ = subst (λ (n : ℕ). Reordered n x y₁) (mul-one (c % 2)) m₁ in
    reordered_more 5 c x y₅ y₆ (omega arith) (reordered_more 4 c x y₄ y₅ (omega arith) (reordered_more 3 c x y₃ y₄ (omega arith) (reordered_more 2 c x y₂ y₃ (omega arith) (reordered_more 1 c x y₁ y₂ (omega arith) one m₂) m₃) m₄) m₅) m₆

-- ---- a word of a map

module _ (k j c : ℕ) (h : j < word_bits) where
  joined : slot_under (word_bits * k + j) c ≡ slot_under k (c / word_bits) * word_bits + slot_under j (c % word_bits)
  unfolding slot_under
  joined = ap₂ bit_xor (ap (λ (n : ℕ). n + j) (mul_comm word_bits k)) (sym (split c 6)) ∙ xor_block 6 k (c / word_bits) j (c % word_bits) h (mod-lt c (pow_pos 6))

  low : slot_under j (c % word_bits) < word_bits
  unfolding slot_under
  low = xor_lt 6 j (c % word_bits) h (mod-lt c (pow_pos 6))

  joined_bit : (m : List ℕ) → slot_bit m (slot_under (word_bits * k + j) c) ≡ bit (get_or m (slot_under k (c / word_bits)) 0) (slot_under j (c % word_bits))
  unfolding slot_bit
  joined_bit m = ap₂ (λ (i b : ℕ). bit (get_or m i 0) b) (ap (λ (n : ℕ). n / word_bits) joined ∙ digits_div (slot_under k (c / word_bits)) low) (ap (λ (n : ℕ). n % word_bits) joined ∙ digits_mod (slot_under k (c / word_bits)) low)

-- the bit of the slot that the code c reaches from the base b
unfoldable pub bit_under : List ℕ → ℕ → ℕ → Bool
bit_under m c b = slot_bit m (slot_under b c)

-- for block k of bases the code c leads to word i
module _ (m : List ℕ) (k c i : ℕ) (is : i ≡ bit_xor k (c / word_bits)) where
  bit_at : (j : ℕ) → j < word_bits → bit_under m c (word_bits * k + j) ≡ bit (get_or m i 0) (slot_under j (c % word_bits))
  unfolding bit_under slot_under
  bit_at j h = joined_bit k j c h m ∙ ap (λ (n : ℕ). bit (get_or m n 0) (slot_under j (c % word_bits))) (sym is)

  pub under_some : (x y : ℕ) → x ≡ get_or m i 0 → Reordered (c % word_bits) x y → y < 2 ^ word_bits → BitsOf (bit_under m c) (word_bits * k) word_bits y
  under_some x y e order small = record { each = λ j h. order.each j h ∙ ap (λ (n : ℕ). bit n (slot_under j (c % word_bits))) e ∙ sym (bit_at j h); small = small }

  pub under_none : get_or m i 0 ≡ 0 → BitsOf (bit_under m c) (word_bits * k) word_bits 0
  under_none z = record { each = λ j h. bit_of_zero j ∙ sym (bit_at j h ∙ ap (λ (n : ℕ). bit n (slot_under j (c % word_bits))) z ∙ bit_of_zero (slot_under j (c % word_bits))); small = pow_pos word_bits }

  pub under_past : length m ≤ i → BitsOf (bit_under m c) (word_bits * k) word_bits 0
  under_past h = under_none (get_or-eq_default m 0 {n = i} h)
