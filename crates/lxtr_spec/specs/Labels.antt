-- Document 01, "Labels, keys and sizes".
use Rattle.std.specs.Prelude.{ℕ, zero, suc, ◌+◌, ◌*◌, ◌/◌, ◌^◌, List, [], ◌∷◌, Bool, true, false, ◌&&◌, ◌||◌, not, length, leb, ltb, eqb}
use Rattle.lxtr_spec.specs.Numbers.{be32}

-- A label is a Unicode scalar value: 0 to 0x10FFFF without 0xD800 to 0xDFFF. Byte keys use 0 to 255.
-- (These are scalar values too, so byte keys need no definition of their own.)
unfoldable pub is_scalar : ℕ → Bool
is_scalar x = leb x 0x10FFFF && not (leb 0xD800 x && leb x 0xDFFF)

-- A key has 0 to 64 labels; the empty key is a key. All numbers that follow from this limit are written with this name.
unfoldable pub max_labels : ℕ
max_labels = 64

-- the number of possible lengths of a key, from 0 to 64
abbrev pub length_count : ℕ
length_count = max_labels + 1

-- A value number is below 2^31. A slot count N is 2 to 65,536; a code map lists 0 to 4,095 labels.
abbrev pub value_limit : ℕ
value_limit = 2 ^ 31

abbrev pub min_slots : ℕ
min_slots = 2

abbrev pub max_slots : ℕ
max_slots = 65536

abbrev pub max_listed : ℕ
max_listed = 4095

-- Keys compare label by label as numbers, a proper prefix first. (Code order is the same order of the lists of codes.)
unfoldable pub comes_before : List ℕ → List ℕ → Bool
comes_before [] [] = false
comes_before [] (y ∷ l) = true
comes_before (x ∷ k) [] = false
comes_before (x ∷ k) (y ∷ l) = ltb x y || (eqb x y && comes_before k l)

-- A query is bytes, four to a label, big-endian: first its n labels starting at place i, then all of them.
unfoldable pub labels_from : List ℕ → ℕ → ℕ → List ℕ
labels_from q zero i = []
labels_from q (suc n) i = be32 q (4 * i) ∷ labels_from q n (i + 1)

unfoldable pub labels_of : List ℕ → List ℕ
labels_of q = labels_from q (length q / 4) 0

-- a key with its value number
abbrev pub Pair : Type 0
Pair = List ℕ × ℕ
