-- Maps with one bit for each slot, and words of outcomes. No laws: those are in BinaryDigits and WordSearch.
use Rattle.std.specs.Prelude.{ℕ, ◌+◌, ◌/◌, ◌%◌, ◌^◌, ◌<◌, ◌≡◌, List, Bool, get_or}
use Rattle.lxtr_laws.specs.BinaryDigits.{bit}

-- how many bits a word of a map has; that a key may have as many labels has nothing to do with it
abbrev pub word_bits : ℕ
word_bits = 64

-- the bit of slot t in the map m
unfoldable pub slot_bit : List ℕ → ℕ → Bool
slot_bit m t = bit (get_or m (t / word_bits) 0) (t % word_bits)

-- the word x has the outcomes of the test f for the n numbers from `at` on: bit j that for at + j; no other bit is set
pub record BitsOf (f : ℕ → Bool) (at n x : ℕ) : Type 0 where
  pub each : (j : ℕ) → j < n → bit x j ≡ f (at + j)
  pub small : x < 2 ^ n
