-- The examples of document 02's request 1, and readings of it that none of them shows, as one table: the definitions compute what the
-- rows say. In P3, 6E (n) has the value 0 and 6E 61 (na) the value 1.
use Rattle.std.specs.Prelude.{ℕ, ◌+◌, ◌*◌, ◌-◌, ◌^◌, refl, List, [], ◌∷◌, ◌++◌, replicate}
use Rattle.lxtr_spec.specs.Numbers.{be_words}
use Rattle.lxtr_spec.specs.Labels.{max_labels}
use Rattle.lxtr_spec.specs.Builds.{image_bytes}
use Rattle.lxtr_spec.specs.Samples.{p1, p2, p3, p7, p8_check, p9_longer}
use Rattle.romaji_spec.specs.Pieces.{max_kept}
use Rattle.romaji_demands.specs.TypingRows.{Example, types, finishes, type_refused, finish_refused, state_finishes, host_types, host_finishes, AllHold, ◌and◌, romaji_computing}

-- U+3093 for n and U+306A for na
unfoldable pub kana3 : List ℕ
kana3 = 1 ∷ 0 ∷ 0 ∷ 0x30 ∷ 0x93 ∷ 1 ∷ 0 ∷ 0 ∷ 0x30 ∷ 0x6A ∷ []

-- a text of length 0 for n
unfoldable pub kana3_empty : List ℕ
kana3_empty = 0 ∷ 1 ∷ 0 ∷ 0 ∷ 0x30 ∷ 0x6A ∷ []

-- the last byte of the second text is missing
unfoldable pub kana3_short : List ℕ
kana3_short = 1 ∷ 0 ∷ 0 ∷ 0x30 ∷ 0x93 ∷ 1 ∷ 0 ∷ 0 ∷ 0x30 ∷ []

-- an image with one key, 6E x, whose value is v
unfoldable pub one_key : ℕ → ℕ → List ℕ
one_key x v = image_bytes (0 ∷ 0 ∷ 3 ∷ 0 ∷ 1 ∷ 1 ∷ 4 ∷ 0x80000002 ∷ (0x80000000 + v) ∷ 3 ∷ []) (0 ∷ 0 ∷ 1 ∷ 2 ∷ 3 ∷ 3 ∷ []) (2 ∷ 3 ∷ 4 ∷ []) (0x6E ∷ x ∷ [])

-- its second label is no byte
unfoldable pub wide_label : List ℕ
wide_label = one_key 0x3042 0

-- no key has the values 0 and 1
unfoldable pub sparse : List ℕ
sparse = one_key 0x61 2

unfoldable pub examples : List Example
examples =
    -- `n` waits, `na` gives U+306A, and `n` then finish gives U+3093
    types p3 kana3 [] (0x6E ∷ []) 8 [] (0x6E ∷ []) ∷ types p3 kana3 [] (0x6E ∷ 0x61 ∷ []) 8 (0x306A ∷ []) [] ∷ finishes p3 kana3 (0x6E ∷ []) 8 (0x3093 ∷ [])
    -- the kept rest reads as typed just before
    ∷ types p3 kana3 (0x6E ∷ []) (0x61 ∷ []) 8 (0x306A ∷ []) [] ∷ types p3 kana3 (0x6E ∷ []) (0x78 ∷ []) 8 (0x3093 ∷ 0x78 ∷ []) []
    -- no key begins with `nn`, so the first n goes out; finishing cuts it in the same places, and keeps nothing
    ∷ types p3 kana3 [] (0x6E ∷ 0x6E ∷ []) 8 (0x3093 ∷ []) (0x6E ∷ []) ∷ finishes p3 kana3 (0x6E ∷ 0x6E ∷ []) 8 (0x3093 ∷ 0x3093 ∷ [])
    -- bytes without a key between keys: `nxna`, `xyn`
    ∷ types p3 kana3 [] (0x6E ∷ 0x78 ∷ 0x6E ∷ 0x61 ∷ []) 12 (0x3093 ∷ 0x78 ∷ 0x306A ∷ []) []
    ∷ types p3 kana3 [] (0x78 ∷ 0x79 ∷ 0x6E ∷ []) 12 (0x78 ∷ 0x79 ∷ []) (0x6E ∷ [])
    -- the kept rest `ky` of another image
    ∷ types p3 kana3 (0x6B ∷ 0x79 ∷ []) (0x6E ∷ []) 12 (0x6B ∷ 0x79 ∷ []) (0x6E ∷ []) ∷ finishes p3 kana3 (0x6B ∷ 0x79 ∷ []) 8 (0x6B ∷ 0x79 ∷ [])
    -- an empty text, and nothing kept
    ∷ types p3 kana3 [] [] 4 [] [] ∷ types p3 kana3 (0x6E ∷ []) [] 4 [] (0x6E ∷ []) ∷ finishes p3 kana3 [] 4 []
    -- an image without keys needs no table, and every byte passes
    ∷ types p1 [] [] (0x6E ∷ 0xFF ∷ []) 8 (0x6E ∷ 0xFF ∷ []) [] ∷ finishes p1 [] (0x6E ∷ []) 8 (0x6E ∷ [])
    -- a text of length 0 is whole, and nothing goes out for it; a table may go on after the text of the highest value
    ∷ types p3 kana3_empty (0x6E ∷ []) (0x78 ∷ []) 4 (0x78 ∷ []) [] ∷ finishes p3 kana3_empty (0x6E ∷ []) 0 [] ∷ finishes p3 (kana3 ++ 9 ∷ []) (0x6E ∷ []) 4 (0x3093 ∷ [])
    -- a text of as many labels as a length byte can say
    ∷ types (one_key 0x61 0) (255 ∷ be_words (replicate 255 0x3042)) [] (0x6E ∷ 0x61 ∷ []) (4 * 255) (replicate 255 0x3042) []
    -- a key with a label that is no byte is never typed, but its front part waits
    ∷ types wide_label (0 ∷ []) [] (0x6E ∷ []) 8 [] (0x6E ∷ []) ∷ types wide_label (0 ∷ []) [] (0x6E ∷ 0x61 ∷ []) 8 (0x6E ∷ 0x61 ∷ []) [] ∷ finishes wide_label (0 ∷ []) (0x6E ∷ []) 4 (0x6E ∷ [])
    -- a text longer than a key may be
    ∷ types p3 kana3 [] (replicate (max_labels + 2) 0x6E) (4 * (max_labels + 2)) (replicate (max_labels + 1) 0x3093) (0x6E ∷ [])
    -- room just enough, and one byte less: 29, also where a part of what goes out had room; no room is needed where nothing goes out
    ∷ types p3 kana3 [] (0x6E ∷ 0x61 ∷ []) 4 (0x306A ∷ []) [] ∷ type_refused p3 kana3 [] (0x6E ∷ 0x61 ∷ []) 3 29
    ∷ type_refused p3 kana3 (0x6E ∷ []) (0x78 ∷ []) 7 29 ∷ finish_refused p3 kana3 (0x6E ∷ []) 3 29 ∷ types p3 kana3 [] (0x6E ∷ []) 0 [] (0x6E ∷ [])
    -- refusals of the image
    ∷ type_refused [] [] (0x6E ∷ []) (0x61 ∷ []) 8 1 ∷ type_refused p9_longer kana3 (0x6E ∷ []) (0x61 ∷ []) 8 6 ∷ finish_refused p8_check kana3 (0x6E ∷ []) 8 10
    -- 24: a text that is not whole, though it is not needed here; no table at all
    ∷ type_refused p3 kana3_short (0x6E ∷ []) (0x78 ∷ []) 8 24 ∷ finish_refused p3 [] [] 8 24
    -- values may be sparse: the text of 2 lies behind those of 0 and 1
    ∷ type_refused sparse (0 ∷ 0 ∷ []) [] (0x78 ∷ []) 8 24 ∷ types sparse (0 ∷ 0 ∷ 1 ∷ 0 ∷ 0 ∷ 0x30 ∷ 0x6A ∷ []) [] (0x6E ∷ 0x61 ∷ []) 8 (0x306A ∷ []) []
    -- 25: the empty key, with a table that is whole
    ∷ type_refused p2 (0 ∷ []) [] (0x61 ∷ []) 8 25 ∷ finish_refused p2 (0 ∷ []) [] 8 25
    -- two at once: 11 and 24, 24 and 25, 24 and 29, 25 and 29
    ∷ type_refused p7 [] [] (0x61 ∷ []) 8 11 ∷ type_refused p2 [] [] (0x61 ∷ []) 8 24 ∷ type_refused p3 kana3_short [] (0x6E ∷ 0x61 ∷ []) 0 24 ∷ type_refused p2 (0 ∷ []) [] (0x61 ∷ []) 0 25
    -- a state that counts more bytes than it has: all of them are kept
    ∷ state_finishes p3 kana3 (record { count = 255; kept = 0x6E ∷ replicate (max_kept - 1) 0 }) (4 * max_kept) (0x3093 ∷ replicate (max_kept - 1) 0)
    -- for C: a state of 64 bytes; `n`, then `a`, then a refusal, whose state stays as it is
    ∷ host_types p3 kana3 (replicate 64 0) (0x6E ∷ []) 4 0 (1 ∷ 0x6E ∷ replicate (max_kept - 1) 0) (replicate 4 0xFF)
    ∷ host_types p3 kana3 (1 ∷ 0x6E ∷ replicate (max_kept - 1) 0) (0x61 ∷ []) 6 1 (replicate (1 + max_kept) 0) (0 ∷ 0 ∷ 0x30 ∷ 0x6A ∷ 0xFF ∷ 0xFF ∷ [])
    ∷ host_finishes p3 kana3 (1 ∷ 0x6E ∷ replicate (max_kept - 1) 0) 4 1 (replicate (1 + max_kept) 0) (0 ∷ 0 ∷ 0x30 ∷ 0x93 ∷ [])
    ∷ host_finishes p3 [] (1 ∷ 0x6E ∷ replicate (max_kept - 1) 7) 4 (24 * 2 ^ 40) (1 ∷ 0x6E ∷ replicate (max_kept - 1) 7) (replicate 4 0xFF)
    ∷ []

pub examples_hold : AllHold examples
unfolding examples kana3 kana3_empty kana3_short one_key wide_label sparse romaji_computing
examples_hold =
    (refl, refl) and (refl, refl) and (refl, refl)
    and (refl, refl) and (refl, refl)
    and (refl, refl) and (refl, refl)
    and (refl, refl)
    and (refl, refl)
    and (refl, refl) and (refl, refl)
    and (refl, refl) and (refl, refl) and (refl, refl)
    and (refl, refl) and (refl, refl)
    and (refl, refl) and (refl, refl) and (refl, refl)
    and (refl, refl)
    and (refl, refl) and (refl, refl) and (refl, refl)
    and (refl, refl)
    and (refl, refl) and (refl, refl)
    and (refl, refl) and (refl, refl) and (refl, refl)
    and (refl, refl) and (refl, refl) and (refl, refl)
    and (refl, refl) and (refl, refl)
    and (refl, refl) and (refl, refl)
    and (refl, refl) and (refl, refl)
    and (refl, refl) and (refl, refl) and (refl, refl) and (refl, refl)
    and refl
    and refl
    and refl
    and refl
    and refl
    and tt
