-- The binary digits of a number. The operations on words change them digit by digit, and a word's trailing zeros lead to its lowest
-- digit that is set.
use Rattle.std.specs.Prelude.{ℕ, zero, suc, ◌+◌, ◌*◌, ◌-◌, ◌/◌, ◌%◌, ◌^◌, ◌<◌, min, max, ◌≡◌, refl, ◌≢◌, Bool, true, false, ◌&&◌, ◌||◌, not, eqb, ltb}
use Rattle.std.proofs.Common.{sym, ap, ◌∙◌, subst, true≢false, mod-lt, zero-lt-suc, add-mul, mul_assoc, div-one, div-lt_iff_lt-mul, one-mul, pow-suc, arith, pow-add, pow_pos, pow_mono, shr-shr, lt-ltb, le-ltb, eq-eqb, ne_eqb}
use Rattle.std.proofs.Math.Nat.{div-eq_of_lt}
use Rattle.std.proofs.Math.Decide.{dec_lt, ℕ_discrete}
use Rattle.std.proofs.Math.Arith.{digits_div, digits_mod}
use Rattle.std.proofs.Math.Pow.{pow-lt, split, field, mod-mod-pow, ones_split, ones_lt}
use Rattle.std.proofs.lemmas.Nat.{shl-shr, and_shr, or_shr}
use Rattle.std.specs.Int.Bits.{bit_and, bit_or, and_step, or_step, shifted_even}
use Rattle.std.specs.Int.Count.{count_trailing_zeros, under}

-- digit j of n is 1
unfoldable pub bit : ℕ → ℕ → Bool
bit n j = eqb (n / 2 ^ j % 2) 1

-- ---- one digit

two : 0 < 2
two = zero-lt-suc 1

both_digits : (x y : ℕ) → x < 2 → y < 2 → (min x y < 2) × (eqb (min x y) 1 ≡ (eqb x 1 && eqb y 1))
both_digits zero zero h k = (omega arith, refl)
both_digits zero (suc zero) h k = (omega arith, refl)
both_digits zero (suc (suc y)) h k = absurd (omega arith)
both_digits (suc zero) zero h k = (omega arith, refl)
both_digits (suc zero) (suc zero) h k = (omega arith, refl)
both_digits (suc zero) (suc (suc y)) h k = absurd (omega arith)
both_digits (suc (suc x)) y h k = absurd (omega arith)

either_digit : (x y : ℕ) → x < 2 → y < 2 → (max x y < 2) × (eqb (max x y) 1 ≡ (eqb x 1 || eqb y 1))
either_digit zero zero h k = (omega arith, refl)
either_digit zero (suc zero) h k = (omega arith, refl)
either_digit zero (suc (suc y)) h k = absurd (omega arith)
either_digit (suc zero) zero h k = (omega arith, refl)
either_digit (suc zero) (suc zero) h k = (omega arith, refl)
either_digit (suc zero) (suc (suc y)) h k = absurd (omega arith)
either_digit (suc (suc x)) y h k = absurd (omega arith)

-- ---- digit j of a result

pub bit_and_lem : (a b j : ℕ) → bit (bit_and a b) j ≡ (bit a j && bit b j)
unfolding bit
bit_and_lem a b j =
    let x = a / 2 ^ j in
    let y = b / 2 ^ j in
    let d = both_digits (x % 2) (y % 2) (mod-lt x two) (mod-lt y two) in
    ap (λ (n : ℕ). eqb (n % 2) 1) (and_shr a b j ∙ and_step x y) ∙ ap (λ (n : ℕ). eqb n 1) (digits_mod (bit_and (x / 2) (y / 2)) d.0) ∙ d.1

pub bit_or_lem : (a b j : ℕ) → bit (bit_or a b) j ≡ (bit a j || bit b j)
unfolding bit
bit_or_lem a b j =
    let x = a / 2 ^ j in
    let y = b / 2 ^ j in
    let d = either_digit (x % 2) (y % 2) (mod-lt x two) (mod-lt y two) in
    ap (λ (n : ℕ). eqb (n % 2) 1) (or_shr a b j ∙ or_step x y) ∙ ap (λ (n : ℕ). eqb n 1) (digits_mod (bit_or (x / 2) (y / 2)) d.0) ∙ d.1

pub bit_shr : (n k j : ℕ) → bit (n / 2 ^ k) j ≡ bit n (k + j)
unfolding bit
bit_shr n k j = ap (λ (x : ℕ). eqb (x % 2) 1) (shr-shr n k j)

-- a shift to the left: digit j of n moves to s + j, and zeros come below
pub bit_shl : (n s j : ℕ) → bit (n * 2 ^ s) (s + j) ≡ bit n j
bit_shl n s j = sym (bit_shr (n * 2 ^ s) s j) ∙ ap (λ (x : ℕ). bit x j) (shl-shr n s)

pub bit_shl_low : (n s j : ℕ) → j < s → bit (n * 2 ^ s) j ≡ false
unfolding bit
bit_shl_low n s j h =
    let k : s ≡ suc (s - j - 1) + j = omega arith in
    let e : n * 2 ^ s ≡ n * 2 ^ suc (s - j - 1) * 2 ^ j = ap (λ (x : ℕ). n * 2 ^ x) k ∙ ap (λ (x : ℕ). n * x) (pow-add 2 (suc (s - j - 1)) j) ∙ sym (mul_assoc n (2 ^ suc (s - j - 1)) (2 ^ j)) in
    ap (λ (x : ℕ). eqb (x / 2 ^ j % 2) 1) e ∙ ap (λ (x : ℕ). eqb (x % 2) 1) (shl-shr (n * 2 ^ suc (s - j - 1)) j) ∙ ap (λ (x : ℕ). eqb x 1) (shifted_even n (s - j - 1))

-- the digits above the k lowest are cut off
pub bit_mod : (n k j : ℕ) → j < k → bit (n % 2 ^ k) j ≡ bit n j
unfolding bit
bit_mod n k j h =
    let m = k - j - 1 in
    let e : k ≡ (m + 1) + j = omega arith in
    ap (λ (x : ℕ). eqb (n % 2 ^ x / 2 ^ j % 2) 1) e ∙ ap (λ (x : ℕ). eqb (x % 2) 1) (field n (m + 1) j) ∙ ap (λ (x : ℕ). eqb x 1) (mod-mod-pow (n / 2 ^ j) m 1)

-- a number has no digit that is set above its length
bit_above : (n j : ℕ) → n < 2 ^ j → bit n j ≡ false
unfolding bit
bit_above n j h = ap (λ (x : ℕ). eqb (x % 2) 1) (div-eq_of_lt h)

pub bit_inside : (n k j : ℕ) → n < 2 ^ k → bit n j ≡ true → j < k
bit_inside n k j h e = go (dec_lt j k)
  where
    go : Dec (j < k) → j < k
    go (yes l) = l
    go (no g) = absurd (true≢false (sym e ∙ bit_above n j (omega (arith, pow_mono {i = k} {j = j} (omega arith)))))

pub bit_of_zero : (j : ℕ) → bit 0 j ≡ false
bit_of_zero j = bit_above 0 j (pow_pos j)

-- ---- the complement

odd_even : (d q m : ℕ) → d + 1 + q ≡ m * 2 → eqb (d % 2) 1 ≡ not (eqb (q % 2) 1)
odd_even d q m e = go (q % 2) refl
  where
    go : (r : ℕ) → q % 2 ≡ r → eqb (d % 2) 1 ≡ not (eqb r 1)
    go zero z = let o : d % 2 ≡ 1 = omega arith in ap (λ (x : ℕ). eqb x 1) o
    go (suc zero) z = let o : d % 2 ≡ 0 = omega arith in ap (λ (x : ℕ). eqb x 1) o
    go (suc (suc r)) z = absurd (omega arith)

pub bit_not : (x k j : ℕ) → x < 2 ^ k → j < k → bit ((2 ^ k - 1) - x) j ≡ not (bit x j)
unfolding bit
bit_not x k j small h =
    let P = 2 ^ j in
    let H = 2 ^ (k - j - 1) in
    let q = x / P in
    let d = H * 2 - 1 - q in
    let e : k ≡ suc (k - j - 1) + j = omega arith in
    let whole : 2 ^ k ≡ H * 2 * P = ap (λ (n : ℕ). 2 ^ n) e ∙ pow-add 2 (suc (k - j - 1)) j ∙ ap (λ (n : ℕ). n * P) (pow-suc 2 (k - j - 1)) in
    let below : q < H * 2 = (div-lt_iff_lt-mul (pow_pos j)).1 (subst (λ (n : ℕ). x < n) whole small) in
    let sum : d + 1 + q ≡ H * 2 = omega arith in
    let parts : H * 2 * P ≡ d * P + P + q * P = ap (λ (n : ℕ). n * P) (sym sum) ∙ add-mul (d + 1) q P ∙ ap (λ (n : ℕ). n + q * P) (add-mul d 1 P ∙ ap (λ (n : ℕ). d * P + n) (one-mul P)) in
    let rest : x % P < P = mod-lt x (pow_pos j) in
    let value : (2 ^ k - 1) - x ≡ d * P + (P - 1 - x % P) = omega (arith, whole, parts, split x j, rest) in
    ap (λ (n : ℕ). eqb (n / P % 2) 1) value ∙ ap (λ (n : ℕ). eqb (n % 2) 1) (digits_div d {m = P} {r = P - 1 - x % P} (omega (arith, rest))) ∙ odd_even d q H sum

-- ---- a power of two, and one less

-- only digit b is set
pub bit_of_power : (b j : ℕ) → bit (2 ^ b) j ≡ eqb j b
unfolding bit
bit_of_power b j = go (dec_lt j b) (ℕ_discrete j b)
  where
    go : Dec (j < b) → Dec (j ≡ b) → bit (2 ^ b) j ≡ eqb j b
    go (yes h) s = ap (λ (x : ℕ). bit x j) (sym (one-mul (2 ^ b))) ∙ bit_shl_low 1 b j h ∙ sym (ne_eqb j b (omega arith))
    go (no g) (yes e) = ap (λ (x : ℕ). eqb (x % 2) 1) (ap (λ (n : ℕ). 2 ^ b / 2 ^ n) e ∙ ap (λ (x : ℕ). x / 2 ^ b) (sym (one-mul (2 ^ b))) ∙ shl-shr 1 b) ∙ sym (eq-eqb j b e)
    go (no g) (no n) = bit_above (2 ^ b) j (pow-lt {i = b} {j = j} (omega arith)) ∙ sym (ne_eqb j b n)

-- the k lowest digits are set
pub bit_of_ones : (k j : ℕ) → bit (2 ^ k - 1) j ≡ ltb j k
unfolding bit
bit_of_ones k j = go (dec_lt j k)
  where
    go : Dec (j < k) → bit (2 ^ k - 1) j ≡ ltb j k
    go (yes h) =
        let m = k - j - 1 in
        let e : k ≡ (m + 1) + j = omega arith in
        let odd : eqb ((2 ^ (m + 1) - 1) % 2) 1 ≡ true = eq-eqb ((2 ^ (m + 1) - 1) % 2) 1 (omega (arith, pow-add 2 m 1, pow_pos m)) in
        ap (λ (n : ℕ). eqb ((2 ^ n - 1) / 2 ^ j % 2) 1) e ∙ ap (λ (x : ℕ). eqb (x / 2 ^ j % 2) 1) (ones_split (m + 1) j)
        ∙ ap (λ (x : ℕ). eqb (x % 2) 1) (digits_div (2 ^ (m + 1) - 1) (ones_lt j)) ∙ odd ∙ sym (lt-ltb j k h)
    go (no g) = bit_above (2 ^ k - 1) j (omega (arith, ones_lt k, pow_mono {i = k} {j = j} (omega arith))) ∙ sym (le-ltb j k (omega arith))

-- ---- the lowest digit that is set

pub record LowestBit (k n t : ℕ) : Type 0 where
  pub to : t < k
  pub set : bit n t ≡ true
  pub none_below : (j : ℕ) → j < t → bit n j ≡ false

pub lowest_bit : (k n : ℕ) → n < 2 ^ k → n ≢ 0 → LowestBit k n (count_trailing_zeros k n)
unfolding count_trailing_zeros bit
lowest_bit zero n h p = absurd (p (omega arith))
lowest_bit (suc k) n h p = go (λ q. lowest_bit k (n / 2) (omega (arith, pow-suc 2 k)) q) (n % 2) refl
  where
    go : (n / 2 ≢ 0 → LowestBit k (n / 2) (count_trailing_zeros k (n / 2))) → (r : ℕ) → n % 2 ≡ r → LowestBit (suc k) n (under r (count_trailing_zeros k (n / 2)))
    go rest zero e =
        let low = rest (omega arith) in
        record {
          to = omega (arith, low.to);
          set = half (count_trailing_zeros k (n / 2)) ∙ low.set;
          none_below = below (λ j. low.none_below j);
        }
      where
        half : (j : ℕ) → bit n (suc j) ≡ bit (n / 2) j
        half j = let e : suc j ≡ 1 + j = omega arith in ap (bit n) e ∙ sym (bit_shr n 1 j)

        below : ((j : ℕ) → j < count_trailing_zeros k (n / 2) → bit (n / 2) j ≡ false) → (j : ℕ) → j < suc (count_trailing_zeros k (n / 2)) → bit n j ≡ false
        below none zero h = ap (λ (x : ℕ). eqb (x % 2) 1) (div-one n) ∙ ap (λ (x : ℕ). eqb x 1) e
        below none (suc j) h = half j ∙ none j (omega arith)
    go rest (suc r) e = record { to = omega arith; set = ap (λ (x : ℕ). eqb (x % 2) 1) (div-one n) ∙ eq-eqb (n % 2) 1 (omega arith); none_below = λ j h. absurd (omega arith) }
