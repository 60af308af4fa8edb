-- Document 01, "Refusal numbers for an image, in this order": each fault as a test, and the check.
use Rattle.std.specs.Prelude.{ℕ, zero, suc, ◌+◌, ◌*◌, ◌-◌, List, Bool, true, false, ◌&&◌, ◌||◌, not, length, leb, ltb, eqb}
use Rattle.std.specs.Bool.{beq}
use Rattle.lxtr_spec.specs.Ranges.{any_below, count_below}
use Rattle.lxtr_spec.specs.Numbers.{byte_at}
use Rattle.lxtr_spec.specs.Labels.{is_scalar, length_count, min_slots, max_slots, max_listed}
use Rattle.lxtr_spec.specs.Image.{header_length, magic, version, slot_count, child_count, map_length, image_length, base_word, check_word, is_leaf, has_leaf, parent, has_parent, base, code_to, offset, child, list_width, map_version, label_count, label_at}

-- A refusal is given exactly when its condition holds and no earlier one holds: refusal k if the fault is there, and otherwise what
-- comes after it; 0 is no refusal.
unfoldable pub refuse_if : Bool → ℕ → ℕ → ℕ
refuse_if true k later = k
refuse_if false k later = later

-- a refusal, or what comes after it if there is none
unfoldable pub first_refusal : ℕ → ℕ → ℕ
first_refusal zero later = later
first_refusal (suc k) later = suc k

-- 1: fewer than 24 bytes
unfoldable pub too_short : List ℕ → Bool
too_short b = ltb (length b) header_length

-- 2: first four bytes differ from `LXTR`
unfoldable pub byte_differs : List ℕ → ℕ → Bool
byte_differs b i = not (eqb (byte_at b i) (byte_at magic i))

unfoldable pub magic_differs : List ℕ → Bool
magic_differs b = any_below 4 (byte_differs b)

-- 3: version is not 3
unfoldable pub version_wrong : List ℕ → Bool
version_wrong b = not (eqb (version b) 3)

-- 4: a reserved byte is not 0 (the three after the version, and the four at the header's end)
abbrev pub byte_set : List ℕ → ℕ → Bool
byte_set b i = not (eqb (byte_at b i) 0)

unfoldable pub reserved_set : List ℕ → Bool
reserved_set b = (byte_set b 5 || byte_set b 6 || byte_set b 7) || (byte_set b 20 || byte_set b 21 || byte_set b 22 || byte_set b 23)

-- 5: N outside 2 to 65,536, or E above N-2
unfoldable pub sizes_wrong : List ℕ → Bool
sizes_wrong b = ltb (slot_count b) min_slots || ltb max_slots (slot_count b) || ltb (slot_count b - 2) (child_count b)

-- 6: length differs from the sum
unfoldable pub length_wrong : List ℕ → Bool
length_wrong b = not (eqb (length b) (image_length b))

-- 7: M below 5, map version not 1, L above 4,095, or M not 5+4L
unfoldable pub map_wrong : List ℕ → Bool
map_wrong b = ltb (map_length b) 5 || not (eqb (map_version b) 1) || ltb max_listed (label_count b) || not (eqb (map_length b) (5 + 4 * label_count b))

-- 8: first offset not 0 or last not E
unfoldable pub offset_ends_wrong : List ℕ → Bool
offset_ends_wrong b = not (eqb (offset b 0) 0) || not (eqb (offset b (slot_count b)) (child_count b))

-- the first of 1 to 8 that holds, or 0
unfoldable pub header_refusal : List ℕ → ℕ
header_refusal b =
    refuse_if (too_short b) 1
    (refuse_if (magic_differs b) 2
    (refuse_if (version_wrong b) 3
    (refuse_if (reserved_set b) 4
    (refuse_if (sizes_wrong b) 5
    (refuse_if (length_wrong b) 6
    (refuse_if (map_wrong b) 7
    (refuse_if (offset_ends_wrong b) 8
    0)))))))

-- 9: a listed label is no scalar value or is listed twice
unfoldable pub same_label : List ℕ → ℕ → ℕ → Bool
same_label b i j = eqb (label_at b j) (label_at b i)

unfoldable pub label_wrong : List ℕ → ℕ → Bool
label_wrong b i = not (is_scalar (label_at b i)) || any_below i (same_label b i)

unfoldable pub labels_wrong : List ℕ → Bool
labels_wrong b = any_below (label_count b) (label_wrong b)

-- Used are slot 1 and every slot from 2 up whose parent is not 0; the rest are unused.
unfoldable pub is_used_from2 : List ℕ → ℕ → Bool
is_used_from2 b s = leb 2 s && not (eqb (parent b s) 0)

unfoldable pub is_used : List ℕ → ℕ → Bool
is_used b s = eqb s 1 || is_used_from2 b s

-- the parent's base XOR the slot number
unfoldable pub own_code : List ℕ → ℕ → ℕ
own_code b s = code_to b (parent b s) s

-- both words of the slot are zero
unfoldable pub both_zero : List ℕ → ℕ → Bool
both_zero b s = eqb (base_word b s) 0 && eqb (check_word b s) 0

-- of a used slot from 2 up, ..
unfoldable pub used_slot_wrong : List ℕ → ℕ → Bool
used_slot_wrong b s =
    -- a parent that isn't below N, is unused or is a leaf,
    leb (slot_count b) (parent b s) || not (is_used b (parent b s)) || is_leaf b (parent b s)
    -- the parent's base XOR the slot number above L,
    || ltb (label_count b) (own_code b s)
    -- IS_LEAF set and that code not 0, or the reverse
    || not (beq (is_leaf b s) (eqb (own_code b s) 0))

-- not a leaf, and the slot at its base exists and has it as parent
unfoldable pub end_exists : List ℕ → ℕ → Bool
end_exists b s = not (is_leaf b s) && has_parent b (base b s) s

-- HAS_LEAF differing from that
unfoldable pub flag_wrong : List ℕ → ℕ → Bool
flag_wrong b s = not (beq (has_leaf b s) (end_exists b s))

-- 10: a slot is wrong
unfoldable pub slot_wrong : List ℕ → ℕ → Bool
slot_wrong b s =
    -- slot 0 not zero;
    eqb s 0 && not (both_zero b s)
    -- slot 1 a leaf or with a parent;
    || eqb s 1 && (is_leaf b s || not (eqb (parent b s) 0))
    -- from 2 up, parent 0 but a word not zero;
    || leb 2 s && eqb (parent b s) 0 && not (both_zero b s)
    -- of a used slot from 2 up, ..;
    || is_used_from2 b s && used_slot_wrong b s
    -- HAS_LEAF of a slot from 1 up differing from "not a leaf, and the slot at its base exists and has it as parent"
    || leb 1 s && flag_wrong b s

unfoldable pub slots_wrong : List ℕ → Bool
slots_wrong b = any_below (slot_count b) (slot_wrong b)

-- 11: offsets fall; here offset p + 1 is below offset p
unfoldable pub offset_falls : List ℕ → ℕ → Bool
offset_falls b p = ltb (offset b (p + 1)) (offset b p)

-- E differs from the used slots from 2 up: the number of these
unfoldable pub used_count : List ℕ → ℕ
used_count b = count_below (slot_count b) (is_used_from2 b)

-- an entry is outside 2 to N-1, unused or has another parent: entry j of the list of slot p
unfoldable pub entry_wrong : List ℕ → ℕ → ℕ → Bool
entry_wrong b p j =
    ltb (child b j) 2 || leb (slot_count b) (child b j) || not (is_used b (child b j)) || not (eqb (parent b (child b j)) p)

-- codes don't rise strictly: the code of entry j is not above that of the entry before it in the list of slot p
unfoldable pub code_not_above : List ℕ → ℕ → ℕ → Bool
code_not_above b p j = ltb (offset b p) j && leb (code_to b p (child b j)) (code_to b p (child b (j - 1)))

-- one of these two faults, at entry i of the list of slot p
unfoldable pub entry_wrong_in : List ℕ → ℕ → ℕ → Bool
entry_wrong_in b p i = entry_wrong b p (offset b p + i) || code_not_above b p (offset b p + i)

unfoldable pub entries_wrong : List ℕ → ℕ → Bool
entries_wrong b p = any_below (list_width b p) (entry_wrong_in b p)

-- a used slot from 2 up that is no leaf has no child
unfoldable pub childless : List ℕ → ℕ → Bool
childless b s = is_used_from2 b s && not (is_leaf b s) && eqb (list_width b s) 0

-- slot 1 has none and its base is not 0
unfoldable pub root_wrong : List ℕ → Bool
root_wrong b = eqb (list_width b 1) 0 && not (eqb (base b 1) 0)

-- 11: a children list is wrong
unfoldable pub lists_wrong : List ℕ → Bool
lists_wrong b =
    any_below (slot_count b) (offset_falls b)
    || not (eqb (child_count b) (used_count b))
    || any_below (slot_count b) (entries_wrong b)
    || any_below (slot_count b) (childless b)
    || root_wrong b

-- s reaches slot 1 by k or fewer steps to the parent
unfoldable pub reaches : List ℕ → ℕ → ℕ → Bool
reaches b zero s = eqb s 1
reaches b (suc k) s = eqb s 1 || reaches b k (parent b s)

-- 12: some used slot from 2 up doesn't reach slot 1 by 65 or fewer steps to the parent
unfoldable pub unreachable : List ℕ → ℕ → Bool
unreachable b s = is_used_from2 b s && not (reaches b length_count s)

unfoldable pub some_unreachable : List ℕ → Bool
some_unreachable b = any_below (slot_count b) (unreachable b)

-- the first of 9 to 12 that holds, or 0
unfoldable pub body_refusal : List ℕ → ℕ
body_refusal b = refuse_if (labels_wrong b) 9 (refuse_if (slots_wrong b) 10 (refuse_if (lists_wrong b) 11 (refuse_if (some_unreachable b) 12 0)))

-- the first of 1 to 12 that holds, or 0. (What a `let` binds is computed only where it is used: 9 to 12 only after 1 to 8, where N
-- is small.)
unfoldable pub image_refusal : List ℕ → ℕ
image_refusal b = let later = body_refusal b in first_refusal (header_refusal b) later

-- a slot that is the end of a key, and the number of such slots
unfoldable pub is_end : List ℕ → ℕ → Bool
is_end b s = is_used_from2 b s && is_leaf b s

unfoldable pub end_count : List ℕ → ℕ
end_count b = count_below (slot_count b) (is_end b)

-- the answer if nothing is refused, and the other one if something is
unfoldable pub unless_refused {ℓ} : {A : Type ℓ} → ℕ → A → A → A
unless_refused zero answer other = answer
unless_refused (suc k) answer other = other

-- what the check answers
pub record Verdict : Type 0 where
  pub refusal : ℕ
  pub pairs : ℕ

-- The check answers the number of pairs in the set of which the bytes are an image, or a refusal and 0. (Each pair has one end.)
-- Bytes pass it, and an image is accepted, when it answers no refusal.
unfoldable pub check_of : List ℕ → Verdict
check_of b = let pairs = end_count b in record { refusal = image_refusal b; pairs = unless_refused (image_refusal b) pairs 0 }
