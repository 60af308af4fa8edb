-- Document 01, "The searches": the walk that they share.
use Rattle.std.specs.Prelude.{ℕ, List, [], ◌∷◌, Bool, true, false, ◌&&◌, not, cond, length, ltb, Option, Some, None}
use Rattle.lxtr_spec.specs.Labels.{max_labels}
use Rattle.lxtr_spec.specs.Image.{is_leaf, has_leaf, has_parent, value_number, slot_from, list_width, code_of}

-- A step from n by code c exists when n is no leaf, t = base XOR c is below N and t's parent is n.
unfoldable pub step : List ℕ → ℕ → ℕ → Option ℕ
step b n c = let t = slot_from b n c in cond (not (is_leaf b n) && has_parent b t n) (Some t) None

-- A query label that isn't listed stops the walk.
unfoldable pub step_by : List ℕ → ℕ → ℕ → Option ℕ
step_by b n x = elim (code_of b x) [ None ↦ None | Some c ↦ step b n c ]

-- The others walk any image that passed so far (1 to 8 and 13), accepted or not: the slot that the labels reach from slot n.
unfoldable pub walk : List ℕ → ℕ → List ℕ → Option ℕ
walk b n [] = Some n
walk b n (x ∷ xs) = elim (step_by b n x) [ None ↦ None | Some t ↦ walk b t xs ]

-- the slot that at most 64 labels reach from slot 1; beyond 64 labels, none
unfoldable pub walk_within : List ℕ → List ℕ → Option ℕ
walk_within b xs = cond (ltb max_labels (length xs)) None (walk b 1 xs)

-- There is a value at n when HAS_LEAF is set and the step by 0 reaches a leaf.
unfoldable pub leaf_value : List ℕ → ℕ → Option ℕ
leaf_value b t = cond (is_leaf b t) (Some (value_number b t)) None

unfoldable pub value_at : List ℕ → ℕ → Option ℕ
value_at b n = elim (has_leaf b n) [ false ↦ None | true ↦ elim (step b n 0) [ None ↦ None | Some t ↦ leaf_value b t ] ]

-- the value at the slot that a walk reached
unfoldable pub value_reached : List ℕ → Option ℕ → Option ℕ
value_reached b None = None
value_reached b (Some n) = value_at b n

-- the value of these labels, of any number
unfoldable pub value_of : List ℕ → List ℕ → Option ℕ
value_of b xs = value_reached b (walk b 1 xs)

-- whether longer keys exist: the width of the slot's children list is above 1 with HAS_LEAF set, above 0 without. A falling offset
-- pair has width 0.
unfoldable pub longer_at : List ℕ → ℕ → Bool
longer_at b n = ltb (cond (has_leaf b n) 1 0) (list_width b n)
