-- The images of document 01's examples, and the key list of given keys.
use Rattle.std.specs.Prelude.{ℕ, List, [], ◌∷◌, ◌++◌, length, set}
use Rattle.lxtr_spec.specs.Numbers.{be_bytes, be_words}
use Rattle.lxtr_spec.specs.Builds.{image_bytes}

-- P1: no keys
unfoldable pub p1 : List ℕ
p1 = image_bytes (0 ∷ 0 ∷ 0 ∷ 0 ∷ []) (0 ∷ 0 ∷ 0 ∷ []) [] []

-- P2: the empty key alone
unfoldable pub p2 : List ℕ
p2 = image_bytes (0 ∷ 0 ∷ 2 ∷ 0x80000000 ∷ 0x80000000 ∷ 1 ∷ []) (0 ∷ 0 ∷ 1 ∷ 1 ∷ []) (2 ∷ []) []

-- P3: keys 6E and 6E 61; base and check of slot s are the words 2 s and 2 s + 1 of the nodes
unfoldable pub nodes3 : List ℕ
nodes3 = 0 ∷ 0 ∷ 2 ∷ 0 ∷ 0x80000001 ∷ 6 ∷ 4 ∷ 0x80000001 ∷ 0x80000000 ∷ 3 ∷ 0 ∷ 0 ∷ 2 ∷ 0x80000003 ∷ []

unfoldable pub offsets3 : List ℕ
offsets3 = 0 ∷ 0 ∷ 1 ∷ 1 ∷ 3 ∷ 3 ∷ 3 ∷ 4 ∷ []

unfoldable pub children3 : List ℕ
children3 = 3 ∷ 4 ∷ 6 ∷ 2 ∷ []

unfoldable pub labels3 : List ℕ
labels3 = 0x6E ∷ 0x61 ∷ []

unfoldable pub p3 : List ℕ
p3 = image_bytes nodes3 offsets3 children3 labels3

-- P7: P3 with children 3 4 4 2
unfoldable pub p7 : List ℕ
p7 = image_bytes nodes3 offsets3 (set children3 2 4) labels3

-- P8: P3 with slot 3's check 1; with slot 5 = (7,0)
unfoldable pub p8_check : List ℕ
p8_check = image_bytes (set nodes3 7 1) offsets3 children3 labels3

unfoldable pub p8_slot : List ℕ
p8_slot = image_bytes (set nodes3 10 7) offsets3 children3 labels3

-- P9: P3 with both labels 6E; one byte longer
unfoldable pub p9_labels : List ℕ
p9_labels = image_bytes nodes3 offsets3 children3 (set labels3 1 0x6E)

unfoldable pub p9_longer : List ℕ
p9_longer = p3 ++ 0 ∷ []

-- P10: N=4, one label, slots (0,0) (0,0) (2,3) (3,2), offsets 0 0 0 1 2, children 3 2
unfoldable pub p10 : List ℕ
p10 = image_bytes (0 ∷ 0 ∷ 0 ∷ 0 ∷ 2 ∷ 3 ∷ 3 ∷ 2 ∷ []) (0 ∷ 0 ∷ 0 ∷ 1 ∷ 2 ∷ []) (3 ∷ 2 ∷ []) (0x61 ∷ [])

-- P11: keys 61, 62, 62 62
unfoldable pub p11 : List ℕ
p11 =
    image_bytes (0 ∷ 0 ∷ 4 ∷ 0 ∷ 0x80000001 ∷ 5 ∷ 4 ∷ 0x80000005 ∷ 0x80000002 ∷ 3 ∷ 2 ∷ 0x80000001 ∷ 7 ∷ 0x80000001 ∷ 0x80000000 ∷ 6 ∷ [])
    (0 ∷ 0 ∷ 2 ∷ 2 ∷ 3 ∷ 3 ∷ 5 ∷ 6 ∷ 6 ∷ []) (5 ∷ 6 ∷ 4 ∷ 2 ∷ 3 ∷ 7 ∷ []) (0x62 ∷ 0x61 ∷ [])

-- the bytes of a key list with these keys
unfoldable pub key_records : List (List ℕ) → List ℕ
key_records [] = []
key_records (k ∷ ks) = length k ∷ (be_words k ++ key_records ks)

unfoldable pub key_list : List (List ℕ) → List ℕ
key_list ks = 1 ∷ (be_bytes (length ks) ++ key_records ks)
