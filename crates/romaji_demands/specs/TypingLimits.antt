-- Examples at the limit, as C gets them: a key of as many labels as a key may have, and a state that keeps as many bytes as it may.
use Rattle.std.specs.Prelude.{ℕ, ◌+◌, ◌*◌, ◌-◌, ◌%◌, refl, List, [], ◌∷◌, ◌++◌, replicate}
use Rattle.lxtr_spec.specs.Numbers.{be_words}
use Rattle.lxtr_spec.specs.Ranges.{concat_from}
use Rattle.lxtr_spec.specs.Labels.{max_labels}
use Rattle.lxtr_spec.specs.Builds.{image_bytes}
use Rattle.romaji_spec.specs.Pieces.{max_kept}
use Rattle.romaji_demands.specs.TypingRows.{Example, host_types, host_finishes, AllHold, ◌and◌, romaji_computing}

-- n numbers from i on
unfoldable pub single : ℕ → List ℕ
single i = i ∷ []

unfoldable pub numbers : ℕ → ℕ → List ℕ
numbers n i = concat_from n i single

-- base and check of a slot whose parent is the slot before it and whose child, by code 1, is the slot after it
unfoldable pub linked : ℕ → List ℕ
linked s = (s + 2 * (s % 2)) ∷ (s - 1) ∷ []

-- An image with one key, of max_labels labels 61, whose value is 0: each slot from the root on is linked so, up to the one where the key
-- ends, and the end is the slot after that one.
unfoldable pub long_key : List ℕ
long_key =
    image_bytes (0 ∷ 0 ∷ (concat_from max_labels 1 linked ++ (max_labels + 2) ∷ (0x80000000 + max_labels) ∷ 0x80000000 ∷ (max_labels + 1) ∷ [])) (0 ∷ (numbers (max_labels + 2) 0 ++ (max_labels + 1) ∷ []))
    (numbers (max_labels + 1) 2) (0x61 ∷ [])

-- U+3042 for it
unfoldable pub kana_long : List ℕ
kana_long = 1 ∷ 0 ∷ 0 ∷ 0x30 ∷ 0x42 ∷ []

-- the bytes of a state that keeps nothing, and of one that keeps as many bytes as it may
unfoldable pub empty : List ℕ
empty = replicate (1 + max_kept) 0

unfoldable pub full : List ℕ
full = max_kept ∷ replicate max_kept 0x61

unfoldable pub limits : List Example
limits =
    -- one byte less than the key waits; with one byte more the kana goes out
    host_types long_key kana_long empty (replicate max_kept 0x61) 0 0 full []
    ∷ host_types long_key kana_long full (0x61 ∷ []) 4 1 empty (0 ∷ 0 ∷ 0x30 ∷ 0x42 ∷ [])
    -- after the key a byte waits again
    ∷ host_types long_key kana_long empty (replicate (max_labels + 1) 0x61) 4 1 (1 ∷ 0x61 ∷ replicate (max_kept - 1) 0) (0 ∷ 0 ∷ 0x30 ∷ 0x42 ∷ [])
    -- finishing passes the bytes that waited
    ∷ host_finishes long_key kana_long full (4 * max_kept) max_kept empty (be_words (replicate max_kept 0x61))
    ∷ []

pub limits_hold : AllHold limits
unfolding limits single numbers linked long_key kana_long empty full romaji_computing
limits_hold = refl and refl and refl and refl and tt
