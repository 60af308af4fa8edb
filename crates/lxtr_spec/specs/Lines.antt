-- Document 01, "Examples": the lines that the listing program prints, as ASCII bytes.
use Rattle.std.specs.Prelude.{ℕ, zero, suc, ◌+◌, ◌/◌, ◌%◌, List, [], ◌∷◌, ◌++◌, cond, ltb}
use Rattle.lxtr_spec.specs.Labels.{Pair}

abbrev pub space : ℕ
space = 0x20

abbrev pub line_end : ℕ
line_end = 0x0A

-- the digits `0` to `9`, then `A` to `F`
unfoldable pub digit_of : ℕ → ℕ
digit_of d = cond (ltb d 10) (0x30 + d) (0x37 + d)

-- a number in a base, without leading zeros (0 as `0`), if k digits are enough
unfoldable pub numeral : ℕ → ℕ → ℕ → List ℕ
numeral base zero n = []
numeral base (suc k) n = cond (ltb n base) (digit_of n ∷ []) (numeral base k (n / base) ++ (digit_of (n % base) ∷ []))

-- numbers of 32 bits in decimal and in upper-case hexadecimal: how many digits are enough, and the digits
abbrev pub decimal_digits : ℕ
decimal_digits = 10

abbrev pub hexadecimal_digits : ℕ
hexadecimal_digits = 8

unfoldable pub decimal : ℕ → List ℕ
decimal n = numeral 10 decimal_digits n

unfoldable pub hexadecimal : ℕ → List ℕ
hexadecimal n = numeral 16 hexadecimal_digits n

-- a line `pairs` and the count; a refusal prints `refused` and its number
unfoldable pub number_line : List ℕ → ℕ → List ℕ
number_line word n = word ++ (space ∷ (decimal n ++ (line_end ∷ [])))

-- then per pair the value in decimal and each label in upper-case hexadecimal without leading zeros (0 as `0`), one space between
unfoldable pub labels_text : List ℕ → List ℕ
labels_text [] = []
labels_text (x ∷ k) = space ∷ (hexadecimal x ++ labels_text k)

unfoldable pub pair_line : Pair → List ℕ
pair_line p = decimal p.1 ++ (labels_text p.0 ++ (line_end ∷ []))
