-- The highest value of document 01's examples, of images with other values, and of images that are refused.
use Rattle.std.specs.Prelude.{ℕ, ◌+◌, refl, List, [], ◌∷◌, ◌++◌, replicate, set, Some, None}
use Rattle.lxtr_spec.specs.Builds.{image_bytes}
use Rattle.lxtr_spec.specs.Samples.{nodes3, offsets3, children3, labels3, p1, p2, p3, p7, p8_check, p9_longer, p10, p11}
use Rattle.lxtr_demands.specs.Rows.{Example, highest, highest_refused, AllHold, ◌and◌, computing}

-- P11 whose key 62 has value 300: bytes 40 and 41 are the lowest two of the base word of slot 2, its end
unfoldable pub p11_300 : List ℕ
p11_300 = set (set p11 40 0x2C) 41 0x01

-- P3 with these two values, for 6E 61 and for 6E
unfoldable pub p3_with : ℕ → ℕ → List ℕ
p3_with v w = image_bytes (set (set nodes3 4 (0x80000000 + v)) 8 (0x80000000 + w)) offsets3 children3 labels3

unfoldable pub highest_values : List Example
highest_values =
    -- P1 has no key
    highest p1 None 0 ∷ highest p2 (Some 0) 0x1_0000_0000 ∷ highest p3 (Some 1) 0x1_0000_0001
    -- in P11 the last end is slot 7, with value 0; with 300 the highest value is neither the last key's nor the number of keys less one
    ∷ highest p11 (Some 2) 0x1_0000_0002 ∷ highest p11_300 (Some 300) 0x1_0000_012C
    -- the first end has the highest value, the last one has, both have the same; the largest value number
    ∷ highest (p3_with 9 5) (Some 9) 0x1_0000_0009 ∷ highest (p3_with 5 9) (Some 9) 0x1_0000_0009 ∷ highest (p3_with 9 9) (Some 9) 0x1_0000_0009
    ∷ highest (p3_with 0 0x7FFFFFFF) (Some 0x7FFFFFFF) 0x1_7FFF_FFFF
    -- refused: no bytes, a header whose numbers are all the largest, one byte too many, P8, P7 and P10
    ∷ highest_refused [] 1
    ∷ highest_refused (0x4C ∷ 0x58 ∷ 0x54 ∷ 0x52 ∷ 3 ∷ 0 ∷ 0 ∷ 0 ∷ (replicate 12 0xFF ++ replicate 4 0)) 5
    ∷ highest_refused p9_longer 6 ∷ highest_refused p8_check 10 ∷ highest_refused p7 11 ∷ highest_refused p10 12
    -- two faults at once: 9 and 10, 10 and 11
    ∷ highest_refused (image_bytes (set nodes3 7 1) offsets3 children3 (set labels3 1 0x6E)) 9
    ∷ highest_refused (image_bytes (set nodes3 7 1) offsets3 (set children3 2 4) labels3) 10
    ∷ []

pub highest_values_hold : AllHold highest_values
unfolding highest_values p11_300 p3_with computing
highest_values_hold =
    (refl, refl) and (refl, refl) and (refl, refl)
    and (refl, refl) and (refl, refl)
    and (refl, refl) and (refl, refl) and (refl, refl) and (refl, refl)
    and (refl, refl) and (refl, refl)
    and (refl, refl) and (refl, refl) and (refl, refl) and (refl, refl)
    and (refl, refl) and (refl, refl)
    and tt
