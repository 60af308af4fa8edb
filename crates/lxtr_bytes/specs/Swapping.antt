-- Four bytes as a number, lowest first, and the same number with its bytes in the other order. Two numbers are equal exactly when they
-- are equal with their bytes in the other order.
use Rattle.std.specs.Prelude.{ℕ, ◌+◌, ◌*◌, ◌/◌, ◌%◌, ◌^◌, ◌<◌, ◌≡◌, eqb}
use Rattle.std.proofs.Common.{sym, ap, ◌∙◌, mod-eq_of_lt, mod-lt, zero-add, arith, lit<, eqb-true, eq-eqb}
use Rattle.std.proofs.Math.Nat.{add-mul-mod_self_right, add-mul-div_right, div-eq_of_lt}
use Rattle.std.specs.Int.{swap_bytes, w32}
use Rattle.std.specs.Prelude.{◌+◌, List, get_or}
use Rattle.lxtr_spec.specs.Numbers.{le32, be32}
use Rattle.lxtr_laws.specs.Tests.{same_test}
use Rattle.lxtr_laws.specs.ReadBack.{digits}

-- the digits of a number in base n, lowest first: the lowest digit, and the number that the others form
low : (n a q : ℕ) → a < n → (a + q * n) % n ≡ a
low n a q h = add-mul-mod_self_right a q n ∙ mod-eq_of_lt h

rest : (n a q : ℕ) → a < n → (a + q * n) / n ≡ q
rest n a q h = add-mul-div_right a q (omega arith) ∙ ap (λ (z : ℕ). z + q) (div-eq_of_lt h) ∙ zero-add q

below_16 : (a b : ℕ) → a < 2 ^ 8 → b < 2 ^ 8 → a + b * 2 ^ 8 < 2 ^ 16
below_16 a b h k = omega arith

below_24 : (m c : ℕ) → m < 2 ^ 16 → c < 2 ^ 8 → m + c * 2 ^ 16 < 2 ^ 24
below_24 m c h k = omega arith

-- x is the number of the bytes a to d, lowest first, and r is x with its bytes swapped
pub swapped_bytes : (a b c d x r : ℕ) → a < 2 ^ 8 → b < 2 ^ 8 → c < 2 ^ 8 → d < 2 ^ 8 → x ≡ a + b * 2 ^ 8 + c * 2 ^ 16 + d * 2 ^ 24 → r ≡ x % 2 ^ 8 * 2 ^ 24 + x / 2 ^ 8 % 2 ^ 8 * 2 ^ 16 + x / 2 ^ 16 % 2 ^ 8 * 2 ^ 8 + x / 2 ^ 24 → r ≡ a * 2 ^ 24 + b * 2 ^ 16 + c * 2 ^ 8 + d
swapped_bytes a b c d x r ha hb hc hd e s =
    let by_8 : x ≡ a + (b + (c + d * 2 ^ 8) * 2 ^ 8) * 2 ^ 8 = omega (arith, e) in
    let by-16 : x ≡ (a + b * 2 ^ 8) + (c + d * 2 ^ 8) * 2 ^ 16 = omega (arith, e) in
    let first = ap (λ (z : ℕ). z % 2 ^ 8) by_8 ∙ low (2 ^ 8) a (b + (c + d * 2 ^ 8) * 2 ^ 8) ha in
    let second = ap (λ (z : ℕ). z / 2 ^ 8) by_8 ∙ rest (2 ^ 8) a (b + (c + d * 2 ^ 8) * 2 ^ 8) ha in
    let third = ap (λ (z : ℕ). z / 2 ^ 16) by-16 ∙ rest (2 ^ 16) (a + b * 2 ^ 8) (c + d * 2 ^ 8) (below_16 a b ha hb) in
    let fourth = ap (λ (z : ℕ). z / 2 ^ 24) e ∙ rest (2 ^ 24) (a + b * 2 ^ 8 + c * 2 ^ 16) d (below_24 (a + b * 2 ^ 8) c (below_16 a b ha hb) hc) in
    rw (s, first, second, third, fourth, low (2 ^ 8) b (c + d * 2 ^ 8) hb, low (2 ^ 8) c d hc)

-- if a to d, lowest first, form the number that k to n form highest first, then so they do with both orders reversed
turned : (a b c d k l m n : ℕ) → a < 2 ^ 8 → b < 2 ^ 8 → c < 2 ^ 8 → d < 2 ^ 8 → k < 2 ^ 8 → l < 2 ^ 8 → m < 2 ^ 8 → n < 2 ^ 8 → a + b * 2 ^ 8 + c * 2 ^ 16 + d * 2 ^ 24 ≡ k * 2 ^ 24 + l * 2 ^ 16 + m * 2 ^ 8 + n → a * 2 ^ 24 + b * 2 ^ 16 + c * 2 ^ 8 + d ≡ k + l * 2 ^ 8 + m * 2 ^ 16 + n * 2 ^ 24
turned a b c d k l m n ha hb hc hd hk hl hm hn e = omega arith

same_equality : (m n p q : ℕ) → (m ≡ n → p ≡ q) → (p ≡ q → m ≡ n) → eqb m n ≡ eqb p q
same_equality m n p q f g = same_test (eqb m n) (eqb p q) (λ t. eq-eqb p q (f (eqb-true m n t))) (λ t. eq-eqb m n (g (eqb-true p q t)))

-- w is the number of the bytes a to d, lowest first, and r is x with its bytes swapped
pub swapped_equal : (a b c d x w r : ℕ) → a < 2 ^ 8 → b < 2 ^ 8 → c < 2 ^ 8 → d < 2 ^ 8 → x < 2 ^ 32 → w ≡ a + b * 2 ^ 8 + c * 2 ^ 16 + d * 2 ^ 24 → r ≡ x % 2 ^ 8 * 2 ^ 24 + x / 2 ^ 8 % 2 ^ 8 * 2 ^ 16 + x / 2 ^ 16 % 2 ^ 8 * 2 ^ 8 + x / 2 ^ 24 → eqb w r ≡ eqb (a * 2 ^ 24 + b * 2 ^ 16 + c * 2 ^ 8 + d) x
swapped_equal a b c d x w r ha hb hc hd hx e s =
    by (x % 2 ^ 8) (x / 2 ^ 8 % 2 ^ 8) (x / 2 ^ 16 % 2 ^ 8) (x / 2 ^ 24 % 2 ^ 8) (below x) (below (x / 2 ^ 8)) (below (x / 2 ^ 16)) (below (x / 2 ^ 24)) (sym (digits x hx))
  where
    below : (y : ℕ) → y % 2 ^ 8 < 2 ^ 8
    below y = mod-lt y (lit< tt)

    -- k to n are the bytes of x
    by : (k l m n : ℕ) → k < 2 ^ 8 → l < 2 ^ 8 → m < 2 ^ 8 → n < 2 ^ 8 → x ≡ k + l * 2 ^ 8 + m * 2 ^ 16 + n * 2 ^ 24 → eqb w r ≡ eqb (a * 2 ^ 24 + b * 2 ^ 16 + c * 2 ^ 8 + d) x
    by k l m n hk hl hm hn f =
        let other = swapped_bytes k l m n x r hk hl hm hn f s in
        same_equality w r (a * 2 ^ 24 + b * 2 ^ 16 + c * 2 ^ 8 + d) x
        (λ t. turned a b c d k l m n ha hb hc hd hk hl hm hn (sym e ∙ t ∙ other) ∙ sym f)
        (λ t. e ∙ sym (turned k l m n a b c d hk hl hm hn ha hb hc hd (sym (t ∙ f))) ∙ sym other)

-- the library's swap, as a sum
swapping : (x r : ℕ) → x < 2 ^ 32 → r ≡ swap_bytes w32 x → r ≡ x % 2 ^ 8 * 2 ^ 24 + x / 2 ^ 8 % 2 ^ 8 * 2 ^ 16 + x / 2 ^ 16 % 2 ^ 8 * 2 ^ 8 + x / 2 ^ 24
swapping x r h s = omega (arith, s)

-- a list of bytes b
module _ (b : List ℕ) (i : ℕ) (bytes : (k : ℕ) → get_or b k 0 < 2 ^ 8) where
  pub swapped_word : (w r : ℕ) → w ≡ le32 b i → r ≡ swap_bytes w32 w → r ≡ be32 b i
  unfolding le32 be32
  swapped_word w r e s =
      let h : w < 2 ^ 32 = omega (arith, e, bytes i, bytes (i + 1), bytes (i + 2), bytes (i + 3)) in
      swapped_bytes (get_or b i 0) (get_or b (i + 1) 0) (get_or b (i + 2) 0) (get_or b (i + 3) 0) w r (bytes i) (bytes (i + 1)) (bytes (i + 2)) (bytes (i + 3)) e (swapping w r h s)

  pub equal_words : (w r x : ℕ) → x < 2 ^ 32 → w ≡ le32 b i → r ≡ swap_bytes w32 x → eqb w r ≡ eqb (be32 b i) x
  unfolding le32 be32
  equal_words w r x h e s =
      swapped_equal (get_or b i 0) (get_or b (i + 1) 0) (get_or b (i + 2) 0) (get_or b (i + 3) 0) x w r (bytes i) (bytes (i + 1)) (bytes (i + 2)) (bytes (i + 3)) h e (swapping x r h s)
