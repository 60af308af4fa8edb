-- What the tables of the code map give: a code from 1 up for each label of a key, and the label of each code.
use Rattle.std.specs.Prelude.{ℕ, zero, suc, ◌-◌, ◌≤◌, ◌<◌, ◌≡◌, refl, length}
use Rattle.std.proofs.Math.Path.{sym, ap}
use Rattle.std.proofs.Common.{◌∙◌, arith}
use mathlib.Core.List.{List, [], ◌∷◌}
use Rattle.std.proofs.Math.ListN.{get_or}
use Rattle.lxtr_spec.specs.Labels.{Pair}
use Rattle.lxtr_spec.specs.CodeMaps.{map_of, label_with}
use Rattle.lxtr_build_laws.specs.CodeTables.{place_in, code_by, label_by, picked, CodeTables}
use Rattle.lxtr_build_laws.specs.Maps.{map_members, label_place, coded}
use Rattle.lxtr_build_laws.specs.Groups.{CodesIn}

-- the numbers of a table at given places
pub picked_length : (table l : List ℕ) → length (picked table l) ≡ length l
unfolding picked
picked_length table [] = refl
picked_length table (i ∷ l) = ap suc (picked_length table l)

pub picked_at : (table l : List ℕ) (i : ℕ) → i < length l → get_or (picked table l) i 0 ≡ get_or table (get_or l i 0) 0
unfolding picked
picked_at table [] i h = absurd (omega arith)
picked_at table (j ∷ l) zero h = refl
picked_at table (j ∷ l) (suc i) h = picked_at table l i (omega arith)

module _ (ps : List Pair) (labels codes order : List ℕ) (t : CodeTables ps labels codes order) where
  pub codes_in : CodesIn (code_by labels codes) (length labels) ps
  unfolding CodesIn code_by
  codes_in p m x k = (
    omega (arith, t.code_is p m x k, (coded (map_of ps) x ((map_members ps x).1 (p, m, k))).from),
    t.codes_in (place_in labels x),
  )

  pub label_is : (c : ℕ) → 1 ≤ c → c ≤ length labels → label_by labels order c ≡ label_with (map_of ps) c
  unfolding label_by
  label_is c f l =
      sym (picked_at labels order (c - 1) (omega (arith, t.order_size)))
      ∙ ap (λ (m : List ℕ). get_or m (c - 1) 0) t.map_is
      ∙ sym (label_place (map_of ps) c f)
