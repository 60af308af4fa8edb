-- Document 01, "The image": header, nodes, offsets, children, code map.
use Rattle.std.specs.Prelude.{ℕ, zero, suc, ◌+◌, ◌*◌, ◌-◌, ◌%◌, ◌^◌, List, [], ◌∷◌, Bool, true, false, ◌&&◌, leb, ltb, eqb, Option, Some, None}
use Rattle.lxtr_spec.specs.Numbers.{byte_at, le32, be32}
use Rattle.lxtr_spec.specs.Joining.{slot_under, code_under}

-- Header of 24 bytes: the four bytes `LXTR`, version 3, three zeros, then three numbers N, E, M, then four zeros.
abbrev pub header_length : ℕ
header_length = 24

unfoldable pub magic : List ℕ
magic = 0x4C ∷ 0x58 ∷ 0x54 ∷ 0x52 ∷ []

unfoldable pub version : List ℕ → ℕ
version b = byte_at b 4

-- N
unfoldable pub slot_count : List ℕ → ℕ
slot_count b = le32 b 8

-- E
unfoldable pub child_count : List ℕ → ℕ
child_count b = le32 b 12

-- M
unfoldable pub map_length : List ℕ → ℕ
map_length b = le32 b 16

-- Then N nodes (base, check), N+1 offsets, E children, M bytes of code map: where each part starts.
abbrev pub nodes_at : ℕ
nodes_at = header_length

abbrev pub offsets_at : List ℕ → ℕ
offsets_at b = nodes_at + 8 * slot_count b

abbrev pub children_at : List ℕ → ℕ
children_at b = offsets_at b + 4 * (slot_count b + 1)

abbrev pub map_at : List ℕ → ℕ
map_at b = children_at b + 4 * child_count b

-- Length = 24 + 8N + 4(N+1) + 4E + M.
abbrev pub image_length : List ℕ → ℕ
image_length b = map_at b + map_length b

-- the two words of slot s
unfoldable pub base_word : List ℕ → ℕ → ℕ
base_word b s = le32 b (nodes_at + 8 * s)

unfoldable pub check_word : List ℕ → ℕ → ℕ
check_word b s = le32 b (nodes_at + 8 * s + 4)

-- The top bit of base is IS_LEAF, the top bit of check is HAS_LEAF.
abbrev pub top_bit : ℕ → Bool
top_bit word = leb (2 ^ 31) word

abbrev pub low31 : ℕ → ℕ
low31 word = word % 2 ^ 31

unfoldable pub is_leaf : List ℕ → ℕ → Bool
is_leaf b s = top_bit (base_word b s)

unfoldable pub has_leaf : List ℕ → ℕ → Bool
has_leaf b s = top_bit (check_word b s)

-- The other 31 bits of check are the parent; of base, the value number of a leaf or the base of another slot.
unfoldable pub parent : List ℕ → ℕ → ℕ
parent b s = low31 (check_word b s)

unfoldable pub base : List ℕ → ℕ → ℕ
base b s = low31 (base_word b s)

unfoldable pub value_number : List ℕ → ℕ → ℕ
value_number b s = low31 (base_word b s)

-- slot t exists and has n as parent
unfoldable pub has_parent : List ℕ → ℕ → ℕ → Bool
has_parent b t n = ltb t (slot_count b) && eqb (parent b t) n

-- the slot that code c reaches from slot n, and the code that leads from slot n to slot s: the joining rule with the base of slot n
unfoldable pub slot_from : List ℕ → ℕ → ℕ → ℕ
slot_from b n c = slot_under (base b n) c

unfoldable pub code_to : List ℕ → ℕ → ℕ → ℕ
code_to b n s = code_under (base b n) s

-- offset p, and child j of the children array; the list of slot p is the children from offset p up to offset p + 1
unfoldable pub offset : List ℕ → ℕ → ℕ
offset b p = le32 b (offsets_at b + 4 * p)

unfoldable pub child : List ℕ → ℕ → ℕ
child b j = le32 b (children_at b + 4 * j)

-- how many these are. A falling offset pair has width 0. (A difference of natural numbers is 0 where it would be negative.)
unfoldable pub list_width : List ℕ → ℕ → ℕ
list_width b p = offset b (p + 1) - offset b p

-- Code map, house form, big-endian: a version byte 1, a count L in four bytes, then L labels of four bytes.
unfoldable pub map_version : List ℕ → ℕ
map_version b = byte_at b (map_at b)

unfoldable pub label_count : List ℕ → ℕ
label_count b = be32 b (map_at b + 1)

-- the label at place i, counted from 0
unfoldable pub label_at : List ℕ → ℕ → ℕ
label_at b i = be32 b (map_at b + 5 + 4 * i)

-- The first label has code 1, the next 2; code 0 ends a key.
unfoldable pub label_of_code : List ℕ → ℕ → ℕ
label_of_code b c = label_at b (c - 1)

-- The code of a label is its first place in the map: first among the n places starting at i, then among all places.
unfoldable pub code_from : List ℕ → ℕ → ℕ → ℕ → Option ℕ
code_from b x zero i = None
code_from b x (suc n) i = elim (eqb (label_at b i) x) [ true ↦ Some (i + 1) | false ↦ code_from b x n (i + 1) ]

unfoldable pub code_of : List ℕ → ℕ → Option ℕ
code_of b x = code_from b x (label_count b) 0
