-- Document 01's examples P1 to P11 as one table: the definitions compute what the rows say. P1 to P3 and P11 are also built.
-- Added to the document's examples are the bytes of these four images and of all listings, the pairs of P1 to P3, the number of
-- pairs of all four, the last three rows of P5, that completion refuses P8 to P10 too, and the numbers for the host program.
use Rattle.std.specs.Prelude.{ℕ, refl, List, [], ◌∷◌}
use Rattle.lxtr_spec.specs.Samples.{p1, p2, p3, p7, p8_check, p8_slot, p9_labels, p9_longer, p10, p11}
use Rattle.lxtr_spec.specs.declared.Case.TheVariants.{Neither, PrefixOnly, ExactOnly, ExactAndPrefix}
use Rattle.lxtr_demands.specs.Rows.{Example, is_image_bytes, is_image_length, accepted, refused, lookup, prefixes, prefix_words, longest, completes, builds, AllHold, ◌and◌, computing}

-- The bytes of the images: header with N, E and M; slots from 0, base and check; offsets; children; code map.
unfoldable pub p1_bytes : List ℕ
p1_bytes =
    0x4C ∷ 0x58 ∷ 0x54 ∷ 0x52 ∷ 3 ∷ 0 ∷ 0 ∷ 0
    ∷ 2 ∷ 0 ∷ 0 ∷ 0 ∷ 0 ∷ 0 ∷ 0 ∷ 0 ∷ 5 ∷ 0 ∷ 0 ∷ 0 ∷ 0 ∷ 0 ∷ 0 ∷ 0
    ∷ 0 ∷ 0 ∷ 0 ∷ 0 ∷ 0 ∷ 0 ∷ 0 ∷ 0
    ∷ 0 ∷ 0 ∷ 0 ∷ 0 ∷ 0 ∷ 0 ∷ 0 ∷ 0
    ∷ 0 ∷ 0 ∷ 0 ∷ 0 ∷ 0 ∷ 0 ∷ 0 ∷ 0 ∷ 0 ∷ 0 ∷ 0 ∷ 0
    ∷ 1 ∷ 0 ∷ 0 ∷ 0 ∷ 0 ∷ []

unfoldable pub p2_bytes : List ℕ
p2_bytes =
    0x4C ∷ 0x58 ∷ 0x54 ∷ 0x52 ∷ 3 ∷ 0 ∷ 0 ∷ 0
    ∷ 3 ∷ 0 ∷ 0 ∷ 0 ∷ 1 ∷ 0 ∷ 0 ∷ 0 ∷ 5 ∷ 0 ∷ 0 ∷ 0 ∷ 0 ∷ 0 ∷ 0 ∷ 0
    ∷ 0 ∷ 0 ∷ 0 ∷ 0 ∷ 0 ∷ 0 ∷ 0 ∷ 0
    ∷ 2 ∷ 0 ∷ 0 ∷ 0 ∷ 0 ∷ 0 ∷ 0 ∷ 0x80
    ∷ 0 ∷ 0 ∷ 0 ∷ 0x80 ∷ 1 ∷ 0 ∷ 0 ∷ 0
    ∷ 0 ∷ 0 ∷ 0 ∷ 0 ∷ 0 ∷ 0 ∷ 0 ∷ 0 ∷ 1 ∷ 0 ∷ 0 ∷ 0 ∷ 1 ∷ 0 ∷ 0 ∷ 0
    ∷ 2 ∷ 0 ∷ 0 ∷ 0
    ∷ 1 ∷ 0 ∷ 0 ∷ 0 ∷ 0 ∷ []

unfoldable pub p3_bytes : List ℕ
p3_bytes =
    0x4C ∷ 0x58 ∷ 0x54 ∷ 0x52 ∷ 3 ∷ 0 ∷ 0 ∷ 0
    ∷ 7 ∷ 0 ∷ 0 ∷ 0 ∷ 4 ∷ 0 ∷ 0 ∷ 0 ∷ 0x0D ∷ 0 ∷ 0 ∷ 0 ∷ 0 ∷ 0 ∷ 0 ∷ 0
    ∷ 0 ∷ 0 ∷ 0 ∷ 0 ∷ 0 ∷ 0 ∷ 0 ∷ 0
    ∷ 2 ∷ 0 ∷ 0 ∷ 0 ∷ 0 ∷ 0 ∷ 0 ∷ 0
    ∷ 1 ∷ 0 ∷ 0 ∷ 0x80 ∷ 6 ∷ 0 ∷ 0 ∷ 0
    ∷ 4 ∷ 0 ∷ 0 ∷ 0 ∷ 1 ∷ 0 ∷ 0 ∷ 0x80
    ∷ 0 ∷ 0 ∷ 0 ∷ 0x80 ∷ 3 ∷ 0 ∷ 0 ∷ 0
    ∷ 0 ∷ 0 ∷ 0 ∷ 0 ∷ 0 ∷ 0 ∷ 0 ∷ 0
    ∷ 2 ∷ 0 ∷ 0 ∷ 0 ∷ 3 ∷ 0 ∷ 0 ∷ 0x80
    ∷ 0 ∷ 0 ∷ 0 ∷ 0 ∷ 0 ∷ 0 ∷ 0 ∷ 0 ∷ 1 ∷ 0 ∷ 0 ∷ 0 ∷ 1 ∷ 0 ∷ 0 ∷ 0
    ∷ 3 ∷ 0 ∷ 0 ∷ 0 ∷ 3 ∷ 0 ∷ 0 ∷ 0 ∷ 3 ∷ 0 ∷ 0 ∷ 0 ∷ 4 ∷ 0 ∷ 0 ∷ 0
    ∷ 3 ∷ 0 ∷ 0 ∷ 0 ∷ 4 ∷ 0 ∷ 0 ∷ 0 ∷ 6 ∷ 0 ∷ 0 ∷ 0 ∷ 2 ∷ 0 ∷ 0 ∷ 0
    ∷ 1 ∷ 0 ∷ 0 ∷ 0 ∷ 2 ∷ 0 ∷ 0 ∷ 0 ∷ 0x6E ∷ 0 ∷ 0 ∷ 0 ∷ 0x61 ∷ []

unfoldable pub p11_bytes : List ℕ
p11_bytes =
    0x4C ∷ 0x58 ∷ 0x54 ∷ 0x52 ∷ 3 ∷ 0 ∷ 0 ∷ 0
    ∷ 8 ∷ 0 ∷ 0 ∷ 0 ∷ 6 ∷ 0 ∷ 0 ∷ 0 ∷ 0x0D ∷ 0 ∷ 0 ∷ 0 ∷ 0 ∷ 0 ∷ 0 ∷ 0
    ∷ 0 ∷ 0 ∷ 0 ∷ 0 ∷ 0 ∷ 0 ∷ 0 ∷ 0
    ∷ 4 ∷ 0 ∷ 0 ∷ 0 ∷ 0 ∷ 0 ∷ 0 ∷ 0
    ∷ 1 ∷ 0 ∷ 0 ∷ 0x80 ∷ 5 ∷ 0 ∷ 0 ∷ 0
    ∷ 4 ∷ 0 ∷ 0 ∷ 0 ∷ 5 ∷ 0 ∷ 0 ∷ 0x80
    ∷ 2 ∷ 0 ∷ 0 ∷ 0x80 ∷ 3 ∷ 0 ∷ 0 ∷ 0
    ∷ 2 ∷ 0 ∷ 0 ∷ 0 ∷ 1 ∷ 0 ∷ 0 ∷ 0x80
    ∷ 7 ∷ 0 ∷ 0 ∷ 0 ∷ 1 ∷ 0 ∷ 0 ∷ 0x80
    ∷ 0 ∷ 0 ∷ 0 ∷ 0x80 ∷ 6 ∷ 0 ∷ 0 ∷ 0
    ∷ 0 ∷ 0 ∷ 0 ∷ 0 ∷ 0 ∷ 0 ∷ 0 ∷ 0 ∷ 2 ∷ 0 ∷ 0 ∷ 0 ∷ 2 ∷ 0 ∷ 0 ∷ 0
    ∷ 3 ∷ 0 ∷ 0 ∷ 0 ∷ 3 ∷ 0 ∷ 0 ∷ 0 ∷ 5 ∷ 0 ∷ 0 ∷ 0 ∷ 6 ∷ 0 ∷ 0 ∷ 0
    ∷ 6 ∷ 0 ∷ 0 ∷ 0
    ∷ 5 ∷ 0 ∷ 0 ∷ 0 ∷ 6 ∷ 0 ∷ 0 ∷ 0 ∷ 4 ∷ 0 ∷ 0 ∷ 0 ∷ 2 ∷ 0 ∷ 0 ∷ 0
    ∷ 3 ∷ 0 ∷ 0 ∷ 0 ∷ 7 ∷ 0 ∷ 0 ∷ 0
    ∷ 1 ∷ 0 ∷ 0 ∷ 0 ∷ 2 ∷ 0 ∷ 0 ∷ 0 ∷ 0x62 ∷ 0 ∷ 0 ∷ 0 ∷ 0x61 ∷ []

unfoldable pub examples : List Example
examples =
    -- P1
    builds [] 4 p1 ∷ is_image_bytes p1 p1_bytes ∷ is_image_length p1 57 ∷ accepted p1 0 ∷ completes p1 [] [] (1 ∷ 0 ∷ 0 ∷ 0 ∷ 0 ∷ [])
    -- P2
    ∷ builds ([] ∷ []) 6 p2 ∷ is_image_bytes p2 p2_bytes ∷ is_image_length p2 73 ∷ accepted p2 1 ∷ completes p2 [] (([], 0) ∷ []) (1 ∷ 0 ∷ 0 ∷ 0 ∷ 1 ∷ 0 ∷ 0 ∷ 0 ∷ 0 ∷ 0 ∷ [])
    -- P3
    ∷ builds ((0x6E ∷ []) ∷ (0x6E ∷ 0x61 ∷ []) ∷ []) 14 p3 ∷ is_image_bytes p3 p3_bytes ∷ is_image_length p3 141 ∷ accepted p3 2
    ∷ completes p3 [] ((0x6E ∷ [], 0) ∷ (0x6E ∷ 0x61 ∷ [], 1) ∷ [])
    (1 ∷ 0 ∷ 0 ∷ 0 ∷ 2 ∷ 1 ∷ 0 ∷ 0 ∷ 0 ∷ 0x6E ∷ 0 ∷ 0 ∷ 0 ∷ 0 ∷ 2 ∷ 0 ∷ 0 ∷ 0 ∷ 0x6E ∷ 0 ∷ 0 ∷ 0 ∷ 0x61 ∷ 0 ∷ 0 ∷ 0 ∷ 1 ∷ [])
    -- P4 and P6, restated by request 6 of document 02: exact's number, then probe's
    ∷ lookup p3 (0x6E ∷ []) (ExactAndPrefix 0) 0x1_0000_0000 0x3_0000_0000 ∷ lookup p3 (0x6E ∷ 0x61 ∷ []) (ExactOnly 1) 0x1_0000_0001 0x1_0000_0001
    ∷ lookup p3 (0x61 ∷ []) Neither 0 0 ∷ lookup p3 [] PrefixOnly 0 0x2_0000_0000 ∷ lookup p3 (0x78 ∷ []) Neither 0 0
    -- P5
    ∷ prefixes p3 (0x6E ∷ 0x61 ∷ 0x6E ∷ []) (1 ∷ 2 ∷ []) (0 ∷ 1 ∷ [])
    ∷ prefixes p3 (0x6E ∷ 0x61 ∷ []) (1 ∷ 2 ∷ []) (0 ∷ 1 ∷ [])
    ∷ prefix_words p3 (0x6E ∷ 0x61 ∷ 0x6E ∷ []) 3 (1 ∷ 0 ∷ 2 ∷ []) 2
    ∷ longest p3 (0x6E ∷ 0x61 ∷ 0x6E ∷ []) (0x6E ∷ 0x61 ∷ [])
    -- P7, restated
    ∷ refused p7 11 ∷ lookup p7 (0x6E ∷ 0x61 ∷ []) (ExactOnly 1) 0x1_0000_0001 0x1_0000_0001
    -- P8, P9, P10
    ∷ refused p8_check 10 ∷ refused p8_slot 10 ∷ refused p9_labels 9 ∷ refused p9_longer 6 ∷ refused p10 12
    -- P11
    ∷ builds ((0x61 ∷ []) ∷ (0x62 ∷ []) ∷ (0x62 ∷ 0x62 ∷ []) ∷ []) 16 p11 ∷ is_image_bytes p11 p11_bytes ∷ accepted p11 3
    ∷ completes p11 [] ((0x62 ∷ [], 1) ∷ (0x62 ∷ 0x62 ∷ [], 2) ∷ (0x61 ∷ [], 0) ∷ [])
    (1 ∷ 0 ∷ 0 ∷ 0 ∷ 3 ∷ 1 ∷ 0 ∷ 0 ∷ 0 ∷ 0x62 ∷ 0 ∷ 0 ∷ 0 ∷ 1 ∷ 2 ∷ 0 ∷ 0 ∷ 0 ∷ 0x62 ∷ 0 ∷ 0 ∷ 0 ∷ 0x62 ∷ 0 ∷ 0 ∷ 0 ∷ 2 ∷ 1 ∷ 0 ∷ 0 ∷ 0 ∷ 0x61 ∷ 0 ∷ 0 ∷ 0 ∷ 0 ∷ [])
    ∷ []

pub examples_hold : AllHold examples
unfolding examples p1_bytes p2_bytes p3_bytes p11_bytes computing
examples_hold =
    (refl, refl) and refl and refl and (refl, refl) and (refl, refl, refl)
    and (refl, refl) and refl and refl and (refl, refl) and (refl, refl, refl)
    and (refl, refl) and refl and refl and (refl, refl) and (refl, refl, refl)
    and (refl, refl, refl) and (refl, refl, refl) and (refl, refl, refl) and (refl, refl, refl) and (refl, refl, refl)
    and refl and refl and refl and (refl, refl)
    and (refl, refl, refl) and (refl, refl, refl)
    and (refl, refl, refl) and (refl, refl, refl) and (refl, refl, refl) and (refl, refl, refl) and (refl, refl, refl)
    and (refl, refl) and refl and (refl, refl) and (refl, refl, refl)
    and tt
