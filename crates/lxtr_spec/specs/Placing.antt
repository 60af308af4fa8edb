-- Document 01, "Building": slots placed by first fit. The lent work is the state: words 2 s and 2 s + 1 are base and check of slot s.
use Rattle.std.specs.Prelude.{ℕ, zero, suc, ◌+◌, ◌*◌, ◌^◌, List, [], ◌∷◌, Bool, true, false, ◌&&◌, not, get_or, set, leb, ltb, eqb, Option, Some, None}
use Rattle.lxtr_spec.specs.Labels.{Pair}
use Rattle.lxtr_spec.specs.Joining.{slot_under}
use Rattle.lxtr_spec.specs.Image.{low31}
use Rattle.lxtr_spec.specs.CodeMaps.{insert}

-- base and check of slot s in the work w
unfoldable pub base_at : List ℕ → ℕ → ℕ
base_at w s = get_or w (2 * s) 0

unfoldable pub check_at : List ℕ → ℕ → ℕ
check_at w s = get_or w (2 * s + 1) 0

-- a slot from 2 up is taken once it has a parent
unfoldable pub is_taken_from2 : List ℕ → ℕ → Bool
is_taken_from2 w s = leb 2 s && not (eqb (check_at w s) 0)

-- Slots 0 and 1 are taken. A slot is free and lies in 2 to S-1.
unfoldable pub is_free : ℕ → List ℕ → ℕ → Bool
is_free S w t = leb 2 t && ltb t S && eqb (check_at w t) 0

-- every child's slot is free and lies in 2 to S-1, where b is the base and the children have these codes
unfoldable pub fits : ℕ → List ℕ → List ℕ → ℕ → Bool
fits S w [] b = true
fits S w (c ∷ cs) b = is_free S w (slot_under b c) && fits S w cs b

-- A slot's base is the smallest number from 0 to 65,535 for which every child's slot is free and lies in 2 to S-1:
-- first among the n numbers starting at b, then among all.
unfoldable pub first_fit_from : ℕ → List ℕ → List ℕ → ℕ → ℕ → Option ℕ
first_fit_from S w cs zero b = None
first_fit_from S w cs (suc n) b = elim (fits S w cs b) [ true ↦ Some b | false ↦ first_fit_from S w cs n (b + 1) ]

abbrev pub base_count : ℕ
base_count = 65536

unfoldable pub first_fit : ℕ → List ℕ → List ℕ → Option ℕ
first_fit S w cs = first_fit_from S w cs base_count 0

-- A group is the keys that pass through a slot. Each is given as its remaining labels there, with its value number.
-- `code` gives the code of a label, `label` the label of a code.

-- the code of the next label of what is left of a key; code 0 ends a key
unfoldable pub next_code : (ℕ → ℕ) → List ℕ → ℕ
next_code code [] = 0
next_code code (x ∷ r) = code x

-- inserts the codes of a group's children into the ascending list cs
unfoldable pub child_codes : (ℕ → ℕ) → List Pair → List ℕ → List ℕ
child_codes code [] cs = cs
child_codes code (p ∷ g) cs = child_codes code g (insert (next_code code p.0) cs)

-- the group of the child by label x: the keys whose next label is x, with what is left of them after it
unfoldable pub below : ℕ → List Pair → List Pair
below x [] = []
below x (p ∷ g) = elim p.0 [ [] ↦ below x g | y ∷ r ↦ elim (eqb y x) [ true ↦ (r, p.1) ∷ below x g | false ↦ below x g ] ]

-- the value number of the key that ends at the slot, of which no label is left; 0 if none does
unfoldable pub end_value : List Pair → ℕ
end_value [] = 0
end_value (p ∷ g) = elim p.0 [ [] ↦ p.1 | x ∷ r ↦ end_value g ]

-- writes the words of p's child by code c under base b: its parent is p; an end, which has code 0, also has IS_LEAF and the value v
unfoldable pub put_child : ℕ → ℕ → ℕ → ℕ → List ℕ → List ℕ
put_child p v b zero w = set (set w (2 * slot_under b 0) (2 ^ 31 + v)) (2 * slot_under b 0 + 1) p
put_child p v b (suc c) w = set w (2 * slot_under b (suc c) + 1) p

unfoldable pub put_children : ℕ → ℕ → ℕ → List ℕ → List ℕ → List ℕ
put_children p v b [] w = w
put_children p v b (c ∷ cs) w = put_children p v b cs (put_child p v b c w)

-- writes p's own words: its base, and HAS_LEAF beside its parent if one of its children is an end; their codes ascend
unfoldable pub put_parent : ℕ → ℕ → List ℕ → List ℕ → List ℕ
put_parent p b [] w = set w (2 * p) b
put_parent p b (zero ∷ cs) w = set (set w (2 * p) b) (2 * p + 1) (2 ^ 31 + low31 (check_at w p))
put_parent p b (suc c ∷ cs) w = set w (2 * p) b

-- p's base by first fit, and the work with p's children placed under it; none if no base fits
unfoldable pub settle : ℕ → ℕ → ℕ → List ℕ → List ℕ → Option (ℕ × List ℕ)
settle S p v cs w = elim (first_fit S w cs) [ None ↦ None | Some b ↦ Some (b, put_children p v b cs (put_parent p b cs w)) ]

-- applies f for each of these codes in turn, until it gives none; an end, which has code 0, has nothing below it
unfoldable pub into_each : (ℕ → List ℕ → Option (List ℕ)) → List ℕ → List ℕ → Option (List ℕ)
into_each f [] w = Some w
into_each f (zero ∷ cs) w = into_each f cs w
into_each f (suc c ∷ cs) w = elim (f (suc c) w) [ None ↦ None | Some w' ↦ into_each f cs w' ]

-- Place slot 1's children, then go into each child by ascending code, down to its end, before the next. The same for any slot p:
-- the work after slot p with its group g is placed, with k labels still allowed; none if at some slot no base fits.
unfoldable pub place : ℕ → (ℕ → ℕ) → (ℕ → ℕ) → ℕ → ℕ → List Pair → List ℕ → Option (List ℕ)
place S code label zero p g w = Some w
place S code label (suc k) p g w =
    let cs = child_codes code g [] in
    elim (settle S p (end_value g) cs w) [
      | None ↦ None
      | Some s ↦ into_each (λ c w'. place S code label k (slot_under s.0 c) (below (label c) g) w') cs s.1
    ]
