-- The joining rule: how a slot, the base of its parent and the code of the step belong together. No other definition uses XOR.
use Rattle.std.specs.Prelude.{ℕ}
use Rattle.std.specs.Int.Bits.{bit_xor}

-- the slot that a code reaches from a base
unfoldable pub slot_under : ℕ → ℕ → ℕ
slot_under base c = bit_xor base c

-- the code that leads from a base to a slot
unfoldable pub code_under : ℕ → ℕ → ℕ
code_under base s = bit_xor base s
