-- The bytes of a number, by its size, and the number at the front of a text, by its first byte.
use Rattle.std.specs.Prelude.{ℕ, ◌+◌, ◌*◌, ◌/◌, ◌%◌, ◌≤◌, ◌<◌, ◌≡◌, length}
use Rattle.std.proofs.Common.{arith}
use Rattle.std.proofs.Math.Decide.{dec_lt}
use Rattle.std.proofs.Math.Path.{sym}
use mathlib.Core.List.{List, [], ◌∷◌}
use borrow.Author.Tests.{lt-ltb, le-ltb}
use Rattle.lxtr_spec.specs.Numbers.{byte_at}
use Rattle.lxtr_command_spec.specs.Utf8.{tail_byte, utf8, front_number}

-- ---- the bytes of a number, by its size

pub data Size (x : ℕ) : Type 0 where
  one : x < 0x80 → Size x
  two : 0x80 ≤ x → x < 0x800 → Size x
  three : 0x800 ≤ x → x < 0x10000 → Size x
  four : 0x10000 ≤ x → Size x

pub size_of_lem : (x : ℕ) → Size x
size_of_lem x = go (dec_lt x 0x80) (dec_lt x 0x800) (dec_lt x 0x10000)
  where
    go : Dec (x < 0x80) → Dec (x < 0x800) → Dec (x < 0x10000) → Size x
    go (yes h) p q = one h
    go (no l) (yes h) q = two (omega arith) h
    go (no k) (no l) (yes h) = three (omega arith) h
    go (no k) (no m) (no l) = four (omega arith)

module _ (x : ℕ) where
  pub one_byte : x < 0x80 → utf8 x ≡ x ∷ []
  unfolding utf8
  one_byte h = rw (lt-ltb x 0x80 h)

  pub two_bytes : 0x80 ≤ x → x < 0x800 → utf8 x ≡ (0xC0 + x / 64) ∷ tail_byte x ∷ []
  unfolding utf8
  two_bytes l h = rw (le-ltb x 0x80 l, lt-ltb x 0x800 h)

  pub three_bytes : 0x800 ≤ x → x < 0x10000 → utf8 x ≡ (0xE0 + x / 4096) ∷ tail_byte (x / 64) ∷ tail_byte x ∷ []
  unfolding utf8
  three_bytes l h = rw (le-ltb x 0x80 (omega arith), le-ltb x 0x800 l, lt-ltb x 0x10000 h)

  pub four_bytes : 0x10000 ≤ x → utf8 x ≡ (0xF0 + x / 262144) ∷ tail_byte (x / 4096) ∷ tail_byte (x / 64) ∷ tail_byte x ∷ []
  unfolding utf8
  four_bytes l = rw (le-ltb x 0x80 (omega arith), le-ltb x 0x800 (omega arith), le-ltb x 0x10000 l)

  -- how many they are
  pub count_one_lem : x < 0x80 → 1 ≡ length (utf8 x)
  count_one_lem h = rw (one_byte h)

  pub count_two : 0x80 ≤ x → x < 0x800 → 2 ≡ length (utf8 x)
  count_two l h = rw (two_bytes l h)

  pub count_three : 0x800 ≤ x → x < 0x10000 → 3 ≡ length (utf8 x)
  count_three l h = rw (three_bytes l h)

  pub count_four : 0x10000 ≤ x → 4 ≡ length (utf8 x)
  count_four l = rw (four_bytes l)

-- ---- the number of the bits, by the first byte

module _ (t : List ℕ) (a : ℕ) (first : a ≡ byte_at t 0) where
  pub number_one : a < 0x80 → a ≡ front_number t
  unfolding front_number
  number_one h = rw (sym first, lt-ltb a 0x80 h)

  module _ (b : ℕ) (second : b ≡ byte_at t 1) where
    pub number_two : 0xC0 ≤ a → a < 0xE0 → a % 32 * 64 + b % 64 ≡ front_number t
    unfolding front_number
    number_two l h = rw (sym first, sym second, le-ltb a 0x80 (omega arith), le-ltb a 0xC0 l, lt-ltb a 0xE0 h)

    module _ (c : ℕ) (third : c ≡ byte_at t 2) where
      pub number_three : 0xE0 ≤ a → a < 0xF0 → a % 16 * 4096 + b % 64 * 64 + c % 64 ≡ front_number t
      unfolding front_number
      number_three l h = rw (sym first, sym second, sym third, le-ltb a 0x80 (omega arith), le-ltb a 0xC0 (omega arith), le-ltb a 0xE0 l, lt-ltb a 0xF0 h)

      pub number_four : (d : ℕ) → d ≡ byte_at t 3 → 0xF0 ≤ a → a < 0xF8 → a % 8 * 262144 + b % 64 * 4096 + c % 64 * 64 + d % 64 ≡ front_number t
      unfolding front_number
      number_four d fourth l h =
          rw (sym first, sym second, sym third, sym fourth, le-ltb a 0x80 (omega arith), le-ltb a 0xC0 (omega arith), le-ltb a 0xE0 (omega arith), le-ltb a 0xF0 l, lt-ltb a 0xF8 h)
