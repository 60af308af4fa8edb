-- Why a word is missing, request 5 of document 02: over P1, P2, P3 and P11, where two labels could be the reason, at the limit, over
-- images that pass 1 to 8 but not the check, and over refused images and queries.
use Rattle.std.specs.Prelude.{ℕ, ◌+◌, ◌-◌, ◌*◌, refl, List, [], ◌∷◌, ◌++◌, replicate, set}
use Rattle.lxtr_spec.specs.Labels.{max_labels}
use Rattle.lxtr_spec.specs.Builds.{image_bytes}
use Rattle.lxtr_spec.specs.Samples.{nodes3, offsets3, children3, labels3, p1, p2, p3, p7, p8_check, p9_labels, p9_longer, p11}
use Rattle.lxtr_spec.specs.declared.Reason.TheVariants.{IsFound, NotListed, NoStep, NoKeyEnds, TooLong}
use Rattle.lxtr_demands.specs.Rows.{Example, why, why_refused, AllHold, ◌and◌, computing}
use Rattle.lxtr_rows.specs.PositionRows.{cycle, to_zero}

-- P3 with another word of the nodes
abbrev p3_but : ℕ → ℕ → List ℕ
p3_but i w = image_bytes (set nodes3 i w) offsets3 children3 labels3

-- Slot 3 has HAS_LEAF set, but the slot that the step by 0 reaches is no leaf; or there is no such step, since slot 4 has parent 0.
unfoldable pub p3_no_leaf : List ℕ
p3_no_leaf = p3_but 8 0

unfoldable pub p3_no_end : List ℕ
p3_no_end = p3_but 9 0

-- Slot 6, the slot of 6E 61, is a leaf, from which there is no step.
unfoldable pub p3_leaf : List ℕ
p3_leaf = p3_but 12 0x80000002

unfoldable pub reasons : List Example
reasons =
    why p3 (0x6E ∷ []) IsFound 0x4_0000_0000 ∷ why p3 (0x6E ∷ 0x61 ∷ []) IsFound 0x4_0000_0000
    -- a label that isn't listed: first, after a key, and twice
    ∷ why p3 (0x78 ∷ []) (NotListed 0) 0x8_0000_0000 ∷ why p3 (0x6E ∷ 0x78 ∷ []) (NotListed 1) 0x8_0000_0001
    ∷ why p3 (0x6E ∷ 0x78 ∷ 0x78 ∷ []) (NotListed 1) 0x8_0000_0001
    -- a listed label with no step
    ∷ why p3 (0x61 ∷ []) (NoStep 0) 0xC_0000_0000 ∷ why p3 (0x6E ∷ 0x6E ∷ []) (NoStep 1) 0xC_0000_0001
    ∷ why p3 (0x6E ∷ 0x61 ∷ 0x6E ∷ []) (NoStep 2) 0xC_0000_0002
    -- listed, but in no key: 62 as a third label of P3
    ∷ why (image_bytes nodes3 offsets3 children3 (labels3 ++ 0x62 ∷ [])) (0x62 ∷ []) (NoStep 0) 0xC_0000_0000
    -- not listed and no step: the first one counts
    ∷ why p3 (0x61 ∷ 0x78 ∷ []) (NoStep 0) 0xC_0000_0000 ∷ why p3 (0x78 ∷ 0x61 ∷ []) (NotListed 0) 0x8_0000_0000
    ∷ why p3 (0x6E ∷ 0x6E ∷ 0x78 ∷ []) (NoStep 1) 0xC_0000_0001
    -- no key ends there: the empty text, where there are keys and where there are none; and in P2 the empty key
    ∷ why p3 [] NoKeyEnds 0x10_0000_0000 ∷ why p1 [] NoKeyEnds 0x10_0000_0000 ∷ why p2 [] IsFound 0x4_0000_0000 ∷ why p2 (0x6E ∷ []) (NotListed 0) 0x8_0000_0000
    -- P11 has the keys 61, 62 and 62 62
    ∷ why p11 (0x62 ∷ 0x62 ∷ []) IsFound 0x4_0000_0000 ∷ why p11 (0x61 ∷ 0x62 ∷ []) (NoStep 1) 0xC_0000_0001 ∷ why p11 (0x62 ∷ 0x62 ∷ 0x61 ∷ []) (NoStep 2) 0xC_0000_0002
    -- the limit: too long comes before walking; over the cycle every number of labels 61 up to the limit is found
    ∷ why p3 (replicate (max_labels + 1) 0x78) TooLong 0x14_0000_0000 ∷ why p3 (replicate max_labels 0x78) (NotListed 0) 0x8_0000_0000
    ∷ why cycle (replicate max_labels 0x61) IsFound 0x4_0000_0000 ∷ why cycle (replicate (max_labels + 1) 0x61) TooLong 0x14_0000_0000
    ∷ why cycle (replicate (max_labels - 1) 0x61 ++ 0x78 ∷ []) (NotListed (max_labels - 1)) (0x8_0000_0000 + (max_labels - 1))
    -- not accepted: P7, refused by 11; HAS_LEAF clear before a leaf, and set with no leaf behind it; a walk to a leaf; a walk through slot 0
    ∷ why p7 (0x6E ∷ 0x61 ∷ []) IsFound 0x4_0000_0000 ∷ why p8_check (0x6E ∷ []) NoKeyEnds 0x10_0000_0000
    ∷ why p3_no_leaf (0x6E ∷ []) NoKeyEnds 0x10_0000_0000 ∷ why p3_no_end (0x6E ∷ []) NoKeyEnds 0x10_0000_0000
    ∷ why p3_leaf (0x6E ∷ 0x61 ∷ []) NoKeyEnds 0x10_0000_0000 ∷ why p3_leaf (0x6E ∷ 0x61 ∷ 0x6E ∷ []) (NoStep 2) 0xC_0000_0002
    ∷ why to_zero (0x61 ∷ 0x61 ∷ []) NoKeyEnds 0x10_0000_0000
    -- 6E is listed twice, and its first code counts: the second one would have a step
    ∷ why p9_labels (0x6E ∷ 0x6E ∷ []) (NoStep 1) 0xC_0000_0001
    -- refused: no bytes; one byte too many; a query that ends within a label: 13 comes after the refusals of the image and before too long
    ∷ why_refused [] [] 1 ∷ why_refused p9_longer [] 6
    ∷ why_refused p3 (0 ∷ 0 ∷ 0 ∷ []) 13 ∷ why_refused p9_longer (0 ∷ []) 6 ∷ why_refused p3 (replicate (4 * (max_labels + 1) + 1) 0) 13
    ∷ []

pub reasons_hold : AllHold reasons
unfolding reasons p3_no_leaf p3_no_end p3_leaf cycle to_zero computing
reasons_hold =
    (refl, refl) and (refl, refl)
    and (refl, refl) and (refl, refl)
    and (refl, refl)
    and (refl, refl) and (refl, refl)
    and (refl, refl)
    and (refl, refl)
    and (refl, refl) and (refl, refl)
    and (refl, refl)
    and (refl, refl) and (refl, refl) and (refl, refl) and (refl, refl)
    and (refl, refl) and (refl, refl) and (refl, refl)
    and (refl, refl) and (refl, refl)
    and (refl, refl) and (refl, refl)
    and (refl, refl)
    and (refl, refl) and (refl, refl)
    and (refl, refl) and (refl, refl)
    and (refl, refl) and (refl, refl)
    and (refl, refl)
    and (refl, refl)
    and (refl, refl) and (refl, refl)
    and (refl, refl) and (refl, refl) and (refl, refl)
    and tt
