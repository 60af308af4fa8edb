-- Document 01's example "Run", what a frequency counts, then the builder's refusals and the order of two that hold at once.
-- (Not 20 and 22, which take long to compute: the program `run_examples` runs them.)
use Rattle.std.specs.Prelude.{ℕ, refl, List, [], ◌∷◌, ◌++◌, replicate}
use Rattle.lxtr_spec.specs.Builds.{image_bytes}
use Rattle.lxtr_spec.specs.Samples.{key_list}
use Rattle.lxtr_demands.specs.Rows.{Example, lists_labels, builds, build_length, build_refused, AllHold, ◌and◌, computing}

unfoldable pub run_examples : List Example
run_examples =
    -- Run: 64 labels in a key build; length 65 gives 17. Label D7FF builds, D800 gives 18. Equal keys: 19.
    build_length (replicate 64 0x61 ∷ []) 300 1101 ∷ build_refused (key_list (replicate 65 0x61 ∷ [])) 300 0 17
    ∷ build_length ((0xD7FF ∷ []) ∷ []) 8 93 ∷ build_refused (key_list ((0xD800 ∷ []) ∷ [])) 8 93 18
    ∷ build_refused (key_list ((0x61 ∷ []) ∷ (0x61 ∷ []) ∷ [])) 8 93 19
    ∷ []

pub run_examples_hold : AllHold run_examples
unfolding run_examples computing
run_examples_hold = refl and refl and refl and refl and refl and tt

-- Document 02, request 2: every occurrence of a label counts, also a second one in the same key. The image of the keys 61 and 62 62:
-- 62 occurs twice, so it has code 1 and slot 5; if a key counted each of its labels once, 61 would have both.
unfoldable pub doubled : List ℕ
doubled =
    image_bytes (0 ∷ 0 ∷ 4 ∷ 0 ∷ 0x80000001 ∷ 3 ∷ 2 ∷ 0x80000005 ∷ 0x80000000 ∷ 6 ∷ 2 ∷ 1 ∷ 4 ∷ 0x80000001 ∷ [])
    (0 ∷ 0 ∷ 2 ∷ 2 ∷ 3 ∷ 3 ∷ 4 ∷ 5 ∷ []) (5 ∷ 6 ∷ 2 ∷ 3 ∷ 4 ∷ []) (0x62 ∷ 0x61 ∷ [])

unfoldable pub frequency_examples : List Example
frequency_examples =
    -- keys 61 61, 62, 62 63: 61 and 62 tie at two
    lists_labels ((0x61 ∷ 0x61 ∷ []) ∷ (0x62 ∷ []) ∷ (0x62 ∷ 0x63 ∷ []) ∷ []) (0x61 ∷ 0x62 ∷ 0x63 ∷ [])
    -- 62 occurs twice, not next to each other; 61 and 63 once
    ∷ lists_labels ((0x61 ∷ []) ∷ (0x62 ∷ 0x63 ∷ 0x62 ∷ []) ∷ []) (0x62 ∷ 0x61 ∷ 0x63 ∷ [])
    -- 62 occurs three times in one key, 61 once in each of two keys
    ∷ lists_labels ((0x61 ∷ []) ∷ (0x61 ∷ 0x63 ∷ []) ∷ (0x62 ∷ 0x62 ∷ 0x62 ∷ []) ∷ []) (0x62 ∷ 0x61 ∷ 0x63 ∷ [])
    ∷ builds ((0x61 ∷ []) ∷ (0x62 ∷ 0x62 ∷ []) ∷ []) 14 doubled
    ∷ []

pub frequency_examples_hold : AllHold frequency_examples
unfolding frequency_examples doubled computing
frequency_examples_hold = refl and refl and refl and (refl, refl) and tt

unfoldable pub build_refusals : List Example
build_refusals =
    -- 21 before 15: fewer than 4 words; 15: under 5 bytes, version 2; 16
    build_refused [] 3 10 21 ∷ build_refused (1 ∷ 0 ∷ 0 ∷ 0 ∷ []) 4 10 15 ∷ build_refused (2 ∷ 0 ∷ 0 ∷ 0 ∷ 0 ∷ []) 4 10 15
    ∷ build_refused (1 ∷ 0 ∷ 0 ∷ 0x80 ∷ 1 ∷ []) 4 10 16
    -- 15: no length byte, labels cut short, bytes left over; 17 before labels cut short
    ∷ build_refused (1 ∷ 0 ∷ 0 ∷ 0 ∷ 1 ∷ []) 4 10 15 ∷ build_refused (1 ∷ 0 ∷ 0 ∷ 0 ∷ 1 ∷ 1 ∷ 0 ∷ 0 ∷ 0 ∷ []) 4 10 15
    ∷ build_refused (1 ∷ 0 ∷ 0 ∷ 0 ∷ 0 ∷ 0 ∷ []) 4 10 15 ∷ build_refused (1 ∷ 0 ∷ 0 ∷ 0 ∷ 1 ∷ 65 ∷ []) 4 10 17
    -- 18 before 19 in a key; 19 of a key before 18 of the next; 19 before bytes left over: falling keys, a prefix second
    ∷ build_refused (key_list ((0x61 ∷ []) ∷ (0x60 ∷ 0x110000 ∷ []) ∷ [])) 8 10 18
    ∷ build_refused (key_list ((0x61 ∷ []) ∷ (0x60 ∷ []) ∷ (0xDFFF ∷ []) ∷ [])) 8 10 19
    ∷ build_refused (key_list ((0x61 ∷ 0x61 ∷ []) ∷ (0x61 ∷ []) ∷ []) ++ (0 ∷ [])) 8 10 19
    -- 23: one byte too little
    ∷ build_refused (key_list ((0xD7FF ∷ []) ∷ [])) 8 92 23
    ∷ []

pub build_refusals_hold : AllHold build_refusals
unfolding build_refusals computing
build_refusals_hold =
    refl and refl and refl and refl and refl and refl and refl and refl and refl and refl and refl and refl and tt
