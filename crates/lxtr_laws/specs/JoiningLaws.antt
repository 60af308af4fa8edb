-- The joining rule: under one base a code determines its slot, and a slot its code. Only these laws and those of JoinedWords know
-- that the rule is XOR.
use Rattle.std.specs.Prelude.{ℕ, zero, suc, ◌+◌, ◌*◌, ◌/◌, ◌%◌, ◌≤◌, ◌<◌, ◌≡◌, refl, List}
use Rattle.std.proofs.Common.{mod-lt, zero-lt-suc, div-add-mod', arith, ap, ap₂, ◌∙◌}
use Rattle.std.proofs.Math.Arith.{bin_ind, digits_div, digits_mod}
use Rattle.std.specs.Int.Bits.{bit_xor, differ, xor_step, xor_zero_r, xor_add_and}
use Rattle.lxtr_spec.specs.Joining.{slot_under, code_under}
use Rattle.lxtr_spec.specs.Image.{base, slot_from, code_to}

differ_lt : (x y : ℕ) → x < 2 → y < 2 → differ x y < 2
differ_lt zero y h k = k
differ_lt (suc x) zero h k = h
differ_lt (suc x) (suc y) h k = differ_lt x y (omega arith) (omega arith)

differ_back : (x y : ℕ) → x < 2 → y < 2 → differ x (differ x y) ≡ y
differ_back zero y h k = refl
differ_back (suc zero) zero h k = refl
differ_back (suc zero) (suc zero) h k = refl
differ_back (suc zero) (suc (suc y)) h k = absurd (omega arith)
differ_back (suc (suc x)) y h k = absurd (omega arith)

-- digit by digit
xor_back : (a c : ℕ) → bit_xor a (bit_xor a c) ≡ c
xor_back = bin_ind (λ (n : ℕ). (c : ℕ) → bit_xor n (bit_xor n c) ≡ c) (λ c. refl) step
  where
    step : (n : ℕ) → ((c : ℕ) → bit_xor (n / 2) (bit_xor (n / 2) c) ≡ c) → (c : ℕ) → bit_xor n (bit_xor n c) ≡ c
    step n ih c =
        let small : differ (n % 2) (c % 2) < 2 = differ_lt (n % 2) (c % 2) (mod-lt n (zero-lt-suc 1)) (mod-lt c (zero-lt-suc 1)) in
        let half : bit_xor n c / 2 ≡ bit_xor (n / 2) (c / 2) = ap (λ (x : ℕ). x / 2) (xor_step n c) ∙ digits_div (bit_xor (n / 2) (c / 2)) small in
        let odd : bit_xor n c % 2 ≡ differ (n % 2) (c % 2) = ap (λ (x : ℕ). x % 2) (xor_step n c) ∙ digits_mod (bit_xor (n / 2) (c / 2)) small in
        xor_step n (bit_xor n c)
        ∙ ap₂ (λ (x y : ℕ). x * 2 + y) (ap (bit_xor (n / 2)) half ∙ ih (c / 2))
        (ap (differ (n % 2)) odd ∙ differ_back (n % 2) (c % 2) (mod-lt n (zero-lt-suc 1)) (mod-lt c (zero-lt-suc 1)))
        ∙ div-add-mod' c 2

pub code_of_slot : (a c : ℕ) → code_under a (slot_under a c) ≡ c
unfolding code_under slot_under
code_of_slot a c = xor_back a c

pub slot_of_code : (a s : ℕ) → slot_under a (code_under a s) ≡ s
unfolding code_under slot_under
slot_of_code a s = xor_back a s

-- the slot of an end is the base
pub slot_of_end : (a : ℕ) → slot_under a 0 ≡ a
unfolding slot_under
slot_of_end a = xor_zero_r a

-- a base and a code reach no slot above their sum
pub slot_within : (a c : ℕ) → slot_under a c ≤ a + c
unfolding slot_under
slot_within a c = omega (arith, xor_add_and a c)

-- a code and its slot for the slots of an image
module _ (b : List ℕ) (n : ℕ) where
  pub code_to_slot : (c : ℕ) → code_to b n (slot_from b n c) ≡ c
  unfolding code_to slot_from
  code_to_slot c = code_of_slot (base b n) c

  pub slot_by_code : (s : ℕ) → slot_from b n (code_to b n s) ≡ s
  unfolding code_to slot_from
  slot_by_code s = slot_of_code (base b n) s

  pub slot_of_base : slot_from b n 0 ≡ base b n
  unfolding slot_from
  slot_of_base = slot_of_end (base b n)
