-- Readings of document 01 that none of its examples shows: the order of refusals, a stop for want of room, the limit, and walks
-- over images that pass only 1 to 8.
use Rattle.std.specs.Prelude.{ℕ, ◌+◌, ◌-◌, ◌*◌, refl, List, [], ◌∷◌, ◌++◌, replicate, set}
use Rattle.lxtr_spec.specs.Numbers.{be_words}
use Rattle.lxtr_spec.specs.Labels.{length_count}
use Rattle.lxtr_spec.specs.Builds.{image_bytes}
use Rattle.lxtr_spec.specs.Samples.{nodes3, offsets3, children3, labels3, p3, p7, p9_labels, p9_longer, p11}
use Rattle.lxtr_spec.specs.declared.Case.TheVariants.{Neither, PrefixOnly, ExactOnly, ExactAndPrefix}
use Rattle.lxtr_demands.specs.Rows.{Example, refused, lookup, prefixes, prefix_words, longest, query_refused, completion_refused, completion_stops, AllHold, ◌and◌, computing}

-- slot 1 is its own child by code 1, and slot 0 is its end: a walk can take any number of labels 61
unfoldable pub own_child : List ℕ
own_child = image_bytes (0x80000005 ∷ 1 ∷ 0 ∷ 0x80000001 ∷ []) (0 ∷ 0 ∷ 0 ∷ []) [] (0x61 ∷ [])

unfoldable pub readings : List Example
readings =
    -- the searches: 6 before 13
    query_refused p9_longer (0 ∷ []) 6 ∷ query_refused p3 (0 ∷ []) 13
    -- completion: 6, 13, 11, 14 in this order, and 14 for an absent prefix too
    ∷ completion_refused p9_longer (0 ∷ []) 4 6 ∷ completion_refused p7 (0 ∷ []) 4 13 ∷ completion_refused p7 [] 4 11 ∷ completion_refused p3 [] 4 14
    ∷ completion_refused p3 (be_words (0x78 ∷ [])) 4 14
    -- completion stops before the second record of P11, and does not go on to the third, which is shorter
    ∷ completion_stops p11 [] 23 1 (1 ∷ 0 ∷ 0 ∷ 0 ∷ 1 ∷ 1 ∷ 0 ∷ 0 ∷ 0 ∷ 0x62 ∷ 0 ∷ 0 ∷ 0 ∷ 1 ∷ replicate 9 0xFF)
    -- the limit of 64 labels
    ∷ lookup own_child (replicate 64 0x61) (ExactOnly 5) 0x1_0000_0005 0x1_0000_0005 ∷ lookup own_child (replicate 65 0x61) Neither 0 0
    ∷ longest own_child (replicate 66 0x61) (replicate 64 0x61)
    ∷ prefixes own_child (replicate 2 0x61) (0 ∷ 1 ∷ 2 ∷ []) (5 ∷ 5 ∷ 5 ∷ [])
    -- the prefixes of P5 into more words than there are places: two for each place, and the rest stay
    ∷ prefix_words p3 (0x6E ∷ 0x61 ∷ 0x6E ∷ []) (2 * length_count + 2) (1 ∷ 0 ∷ 2 ∷ 1 ∷ (replicate (2 * length_count - 4) 0 ++ 7 ∷ 7 ∷ [])) 2
    -- slot 0 not zero; then two faults at once: 9 and 10, 10 and 11, 11 and 12
    ∷ refused own_child 10
    ∷ refused (image_bytes (set nodes3 7 1) offsets3 children3 (set labels3 1 0x6E)) 9
    ∷ refused (image_bytes (set nodes3 7 1) offsets3 (set children3 2 4) labels3) 10
    ∷ refused (image_bytes (0 ∷ 0 ∷ 0 ∷ 0 ∷ 2 ∷ 3 ∷ 3 ∷ 2 ∷ []) (0 ∷ 0 ∷ 0 ∷ 1 ∷ 2 ∷ []) (2 ∷ 3 ∷ []) (0x61 ∷ [])) 11
    -- an end without HAS_LEAF, whose own place in the list makes the prefix; HAS_LEAF before an end that is not a leaf, alone in
    -- the list and with another entry; HAS_LEAF with nothing behind it; a value whose list is empty; a leaf has no steps, but its
    -- list counts; offsets that fall, and offsets past E; a label that is not listed; one listed twice
    ∷ lookup (image_bytes (0 ∷ 0 ∷ 2 ∷ 0 ∷ 0x80000005 ∷ 1 ∷ []) (0 ∷ 0 ∷ 1 ∷ 1 ∷ []) (2 ∷ []) []) [] PrefixOnly 0 0x2_0000_0000
    ∷ lookup (image_bytes (0 ∷ 0 ∷ 2 ∷ 0x80000000 ∷ 5 ∷ 1 ∷ []) (0 ∷ 0 ∷ 1 ∷ 1 ∷ []) (2 ∷ []) []) [] Neither 0 0
    ∷ lookup (image_bytes (0 ∷ 0 ∷ 2 ∷ 0x80000000 ∷ 5 ∷ 1 ∷ 0 ∷ 0 ∷ []) (0 ∷ 0 ∷ 2 ∷ 2 ∷ 2 ∷ []) (2 ∷ 3 ∷ []) []) [] PrefixOnly 0 0x2_0000_0000
    ∷ lookup (image_bytes (0 ∷ 0 ∷ 2 ∷ 0x80000000 ∷ 0 ∷ 0 ∷ []) (0 ∷ 0 ∷ 0 ∷ 1 ∷ []) (2 ∷ []) []) [] Neither 0 0
    ∷ lookup (image_bytes (0 ∷ 0 ∷ 2 ∷ 0x80000000 ∷ 0x80000005 ∷ 1 ∷ []) (0 ∷ 0 ∷ 0 ∷ 1 ∷ []) (2 ∷ []) []) [] (ExactOnly 5) 0x1_0000_0005 0x1_0000_0005
    ∷ lookup (image_bytes (0 ∷ 0 ∷ 0x80000002 ∷ 0 ∷ 0 ∷ 0 ∷ 0 ∷ 1 ∷ []) (0 ∷ 0 ∷ 0 ∷ 0 ∷ 1 ∷ []) (2 ∷ []) (0x61 ∷ [])) (0x61 ∷ []) Neither 0 0
    ∷ lookup (image_bytes (0 ∷ 0 ∷ 2 ∷ 0 ∷ 0 ∷ 0 ∷ 0x80000005 ∷ 1 ∷ []) (0 ∷ 0 ∷ 0 ∷ 0 ∷ 1 ∷ []) (2 ∷ []) (0x61 ∷ [])) (0x61 ∷ []) PrefixOnly 0 0x2_0000_0000
    ∷ lookup (image_bytes (0 ∷ 0 ∷ 0 ∷ 0 ∷ []) (0 ∷ 5 ∷ 0 ∷ []) [] []) [] Neither 0 0
    ∷ lookup (image_bytes (0 ∷ 0 ∷ 0 ∷ 0 ∷ 0 ∷ 0 ∷ []) (0 ∷ 7 ∷ 9 ∷ 1 ∷ []) (2 ∷ []) []) [] PrefixOnly 0 0x2_0000_0000
    ∷ lookup (image_bytes (0 ∷ 0 ∷ 2 ∷ 0x80000000 ∷ 0x80000000 ∷ 1 ∷ []) (0 ∷ 0 ∷ 0 ∷ 1 ∷ []) (2 ∷ []) []) (0x78 ∷ []) Neither 0 0
    ∷ lookup p9_labels (0x6E ∷ []) (ExactAndPrefix 0) 0x1_0000_0000 0x3_0000_0000
    ∷ []

pub readings_hold : AllHold readings
unfolding readings own_child computing
readings_hold =
    (refl, refl, refl, refl, refl, refl, refl) and (refl, refl, refl, refl, refl, refl, refl)
    and (refl, refl) and (refl, refl) and (refl, refl) and (refl, refl) and (refl, refl)
    and (refl, refl)
    and (refl, refl, refl) and (refl, refl, refl) and (refl, refl) and refl and refl
    and (refl, refl, refl) and (refl, refl, refl) and (refl, refl, refl) and (refl, refl, refl)
    and (refl, refl, refl) and (refl, refl, refl) and (refl, refl, refl) and (refl, refl, refl) and (refl, refl, refl) and (refl, refl, refl)
    and (refl, refl, refl) and (refl, refl, refl) and (refl, refl, refl) and (refl, refl, refl) and (refl, refl, refl)
    and tt
