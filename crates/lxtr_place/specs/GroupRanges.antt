-- Groups of keys as the code holds them: consecutive keys of the list, starting at some place.
use Rattle.std.specs.Prelude.{ℕ, zero, suc, ◌+◌, ◌≤◌, ◌<◌, ◌≡◌, List, [], ◌∷◌, Bool, true, false, get_or, length, drop, eqb, ltb}
use Rattle.lxtr_spec.specs.Labels.{length_count, Pair}
use Rattle.lxtr_spec.specs.KeyLists.{max_keys, next_key, key_at}
use Rattle.lxtr_build_laws.specs.KeyListFacts.{WholeKeys, Ascending}
use Rattle.lxtr_build_laws.specs.CodeTables.{code_by}
use Rattle.lxtr_build_laws.specs.Groups.{CodesIn}
use Rattle.lxtr_place.specs.declared.groups.Group.{Group}

-- where the key starts that comes i keys after the one at a place
unfoldable pub place_of : List ℕ → ℕ → ℕ → ℕ
place_of b zero at = at
place_of b (suc i) at = place_of b i (next_key b at)

-- the group of the n keys that start at a place, after d labels; the first of them has value number i
unfoldable pub group_from : List ℕ → ℕ → ℕ → ℕ → ℕ → List Pair
group_from b d zero i at = []
group_from b d (suc n) i at = (drop d (key_at b at), i) ∷ group_from b d n (i + 1) (next_key b at)

abbrev pub group_of : List ℕ → Group → List Pair
group_of b g = group_from b g.depth g.count g.first g.at

-- its keys are keys of the list
pub record Grouped (b : List ℕ) (g : Group) : Type 0 where
  pub whole : WholeKeys b g.count g.at
  pub values : g.first + g.count ≤ max_keys
  pub shallow : g.depth ≤ length_count

-- a table says where its keys start, by their value numbers
pub record Indexed (b starts : List ℕ) (g : Group) : Type 0 where
  pub inside : g.first + g.count < length starts
  pub each : (i : ℕ) → i ≤ g.count → get_or starts (g.first + i) 0 ≡ place_of b i g.at

-- the group may be placed
pub record Placeable (b labels codes : List ℕ) (g : Group) : Type 0 where
  pub grouped : Grouped b g
  pub ascending : Ascending (group_of b g)
  pub codes_in : CodesIn (code_by labels codes) (length labels) (group_of b g)

-- what is left of a key continues with label x
unfoldable pub goes_by : ℕ → List ℕ → Bool
goes_by x [] = false
goes_by x (y ∷ r) = eqb y x

-- what is left of a key is nothing, or continues with a smaller label than x
unfoldable pub is_under : ℕ → List ℕ → Bool
is_under x [] = true
is_under x (y ∷ r) = ltb y x

-- how many keys at a group's front continue with x
unfoldable pub run_of : ℕ → List Pair → ℕ
run_of x [] = 0
run_of x (p ∷ g) = elim (goes_by x p.0) [ true ↦ suc (run_of x g) | false ↦ 0 ]

-- what is lent to place the group with `left` labels still allowed: where its keys start, and room for codes
pub record Lent (b starts : List ℕ) (g : Group) (left : ℕ) (room : List ℕ) : Type 0 where
  pub indexed : Indexed b starts g
  pub long : g.count + left ≤ length room
