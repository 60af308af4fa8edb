-- Typing positions, request 3 of document 02: over P3, at the limits, over an image with a cycle and one with a step to slot 0,
-- which pass 1 to 8 but not the check, over refused images, and outside the image.
use Rattle.std.specs.Prelude.{ℕ, ◌+◌, ◌-◌, refl, List, [], ◌∷◌, ◌++◌, replicate}
use Rattle.lxtr_spec.specs.Labels.{max_labels}
use Rattle.lxtr_spec.specs.Positions.{TypingPosition, fresh_position, max_typed}
use Rattle.lxtr_spec.specs.Builds.{image_bytes}
use Rattle.lxtr_spec.specs.Samples.{p3, p7, p9_longer}
use Rattle.lxtr_spec.specs.declared.Case.TheVariants.{Neither, PrefixOnly, ExactOnly, ExactAndPrefix}
use Rattle.lxtr_demands.specs.TypingPositions.{Move, push, back}
use Rattle.lxtr_demands.specs.Rows.{Example, typed, position_stays, AllHold, ◌and◌, computing}

-- Label 61 leads from slot 1 to slot 1. There the value is 7, and the width of the list is 2: every number of labels up to the limit of
-- a key is answered alike.
unfoldable pub cycle : List ℕ
cycle = image_bytes (0x80000007 ∷ 1 ∷ 0 ∷ 0x80000001 ∷ 0 ∷ 0 ∷ 0 ∷ 0 ∷ []) (0 ∷ 0 ∷ 2 ∷ 2 ∷ 2 ∷ []) (2 ∷ 3 ∷ []) (0x61 ∷ [])

-- Label 61 leads from slot 1 to slot 0, whose list has an entry, and from there to slot 2.
unfoldable pub to_zero : List ℕ
to_zero = image_bytes (3 ∷ 1 ∷ 1 ∷ 0 ∷ 0 ∷ 0 ∷ []) (0 ∷ 1 ∷ 1 ∷ 1 ∷ []) (2 ∷ []) (0x61 ∷ [])

abbrev pub n : Move
n = push 0x6E

abbrev pub a : Move
a = push 0x61

abbrev pub x : Move
x = push 0x78

-- so many labels 61, then so many taken back
abbrev pressed : ℕ → ℕ → List Move
pressed labels backs = replicate labels a ++ replicate backs back

-- a position at this slot, with one label
abbrev at : ℕ → TypingPosition
at s = record { slot = s; walked = 1; typed = 1 }

unfoldable pub positions : List Example
positions =
    -- n, a, x, and four times back
    typed p3 [] PrefixOnly 0x2_0000_0000
    ∷ typed p3 (n ∷ []) (ExactAndPrefix 0) 0x3_0000_0000
    ∷ typed p3 (n ∷ a ∷ []) (ExactOnly 1) 0x1_0000_0001
    ∷ typed p3 (n ∷ a ∷ x ∷ []) Neither 0
    ∷ typed p3 (n ∷ a ∷ x ∷ back ∷ []) (ExactOnly 1) 0x1_0000_0001
    ∷ typed p3 (n ∷ a ∷ x ∷ back ∷ back ∷ []) (ExactAndPrefix 0) 0x3_0000_0000
    ∷ typed p3 (n ∷ a ∷ x ∷ back ∷ back ∷ back ∷ []) PrefixOnly 0x2_0000_0000
    ∷ typed p3 (n ∷ a ∷ x ∷ back ∷ back ∷ back ∷ back ∷ []) PrefixOnly 0x2_0000_0000
    -- after a label that isn't listed, and after one without a step, labels only count
    ∷ typed p3 (x ∷ n ∷ []) Neither 0 ∷ typed p3 (x ∷ n ∷ back ∷ []) Neither 0 ∷ typed p3 (x ∷ n ∷ back ∷ back ∷ []) PrefixOnly 0x2_0000_0000
    ∷ typed p3 (n ∷ n ∷ a ∷ []) Neither 0 ∷ typed p3 (n ∷ n ∷ a ∷ back ∷ back ∷ a ∷ []) (ExactOnly 1) 0x1_0000_0001
    -- taking back at no labels changes nothing
    ∷ typed p3 (back ∷ n ∷ []) (ExactAndPrefix 0) 0x3_0000_0000
    -- P7, which the check refuses, is answered
    ∷ typed p7 (n ∷ a ∷ []) (ExactOnly 1) 0x1_0000_0001
    -- the limit of a key, from both sides
    ∷ typed cycle (pressed max_labels 0) (ExactAndPrefix 7) 0x3_0000_0007
    ∷ typed cycle (pressed (max_labels + 1) 0) Neither 0
    ∷ typed cycle (pressed (max_labels + 1) 1) (ExactAndPrefix 7) 0x3_0000_0007
    -- the number of labels that count, from both sides: one more is not counted
    ∷ typed cycle (pressed max_typed (max_typed - max_labels)) (ExactAndPrefix 7) 0x3_0000_0007
    ∷ typed cycle (pressed max_typed (max_typed - max_labels - 1)) Neither 0
    ∷ typed cycle (pressed (max_typed + 1) (max_typed - max_labels)) (ExactAndPrefix 7) 0x3_0000_0007
    -- the number of labels says when the root is reached, not the slot: at slot 1, too, a label is taken back, and then one more can be
    -- walked
    ∷ typed cycle (pressed max_labels 1 ++ a ∷ []) (ExactAndPrefix 7) 0x3_0000_0007
    ∷ typed cycle (pressed max_labels 1 ++ a ∷ a ∷ []) Neither 0
    ∷ typed cycle (pressed 3 2 ++ x ∷ back ∷ back ∷ []) (ExactAndPrefix 7) 0x3_0000_0007
    ∷ typed cycle (pressed 3 4) (ExactAndPrefix 7) 0x3_0000_0007
    -- slot 0 is a place like any other; a second label leads from there to slot 2, whose parent is 0
    ∷ typed to_zero (a ∷ []) PrefixOnly 0x2_0000_0000 ∷ typed to_zero (a ∷ a ∷ []) Neither 0
    ∷ typed to_zero (a ∷ a ∷ back ∷ []) PrefixOnly 0x2_0000_0000 ∷ typed to_zero (a ∷ a ∷ back ∷ back ∷ []) Neither 0
    -- P3 has the slots 0 to 6
    ∷ position_stays p3 (at 7) 0 ∷ position_stays p3 (at 0xFFFFFFFF) 0
    -- refused: no bytes, a header whose numbers are all the largest, one byte too many
    ∷ position_stays [] fresh_position 1
    ∷ position_stays (0x4C ∷ 0x58 ∷ 0x54 ∷ 0x52 ∷ 3 ∷ 0 ∷ 0 ∷ 0 ∷ (replicate 12 0xFF ++ replicate 4 0)) (at 3) 5
    ∷ position_stays p9_longer (at 3) 6
    -- refused, and outside the image
    ∷ position_stays p9_longer (at 7) 6
    ∷ []

pub positions_hold : AllHold positions
unfolding positions cycle to_zero computing
positions_hold =
    (refl, refl) and (refl, refl) and (refl, refl) and (refl, refl) and (refl, refl) and (refl, refl) and (refl, refl) and (refl, refl)
    and (refl, refl) and (refl, refl) and (refl, refl) and (refl, refl) and (refl, refl)
    and (refl, refl)
    and (refl, refl)
    and (refl, refl) and (refl, refl) and (refl, refl)
    and (refl, refl) and (refl, refl) and (refl, refl)
    and (refl, refl) and (refl, refl) and (refl, refl) and (refl, refl)
    and (refl, refl) and (refl, refl) and (refl, refl) and (refl, refl)
    and (refl, refl, refl, refl, refl, refl) and (refl, refl, refl, refl, refl, refl)
    and (refl, refl, refl, refl, refl, refl) and (refl, refl, refl, refl, refl, refl) and (refl, refl, refl, refl, refl, refl)
    and (refl, refl, refl, refl, refl, refl)
    and tt
