-- What `place` knows while it goes into the children of a slot, and what it has to show of each child.
use Rattle.std.specs.Prelude.{ℕ, ◌+◌, ◌*◌, ◌-◌, ◌^◌, ◌≤◌, ◌<◌, ◌≡◌, ◌≢◌, List, [], ◌++◌, get_or, length, take, drop, Some, None, Option}
use Rattle.std.proofs.Common.{arith, Fits}
use Rattle.std.specs.Int.{w64}
use borrow.Author.Rules.{Fits-under}
use Rattle.lxtr_spec.specs.Labels.{length_count, Pair}
use Rattle.lxtr_spec.specs.KeyLists.{pairs_of}
use Rattle.lxtr_spec.specs.Joining.{slot_under}
use Rattle.lxtr_spec.specs.Placing.{child_codes, end_value, settle, below, place}
use Rattle.lxtr_build_laws.specs.CodeTables.{code_by, label_by, CodeTables}
use Rattle.lxtr_build_laws.specs.Work.{placed_as}
use Rattle.lxtr_place.specs.declared.groups.Group.{Group}
use Rattle.lxtr_place.specs.GroupRanges.{group_of, Grouped, Indexed, Placeable, Lent}
use Rattle.lxtr_place.specs.GroupLoops.{group_size, child_placeable}
use Rattle.lxtr_place.specs.SettlingWords.{settled_as}
use Rattle.lxtr_place.specs.Children.{Fresh}
use Rattle.lxtr_place.specs.Turns.{Started, Going, start, going_start, going_end, turn_small, turn_past, turn_fresh, turn_room, turn_on, turn_refused}

module _ (keys starts labels codes order : List ℕ) (S left p : ℕ) (g : Group) (w r : List ℕ) where
  -- what holds when `place` is called
  pub record Called : Type 0 where
    pub tables : CodeTables (pairs_of keys) labels codes order
    pub placeable : Placeable keys labels codes g
    pub fresh : Fresh S w p
    pub deep : left + g.depth ≡ length_count
    pub lent : Lent keys starts g left r

  -- and p's children, whose codes are the first k numbers of the room, were placed under b: the work was w before and is u after
  pub record Within (k b : ℕ) (u room : List ℕ) : Type 0 where
    pub called : Called
    pub few : k ≤ g.count
    pub size : length room ≡ length r
    pub codes_are : take k room ≡ child_codes (code_by labels codes) (group_of keys g) []
    pub started : Started S (code_by labels codes) (label_by labels order) left (group_of keys g) (length labels) p w b u

module _ {keys starts labels codes order : List ℕ} {S left p : ℕ} {g : Group} {w r : List ℕ} where
  pub within : Called keys starts labels codes order S left p g w r → (k : ℕ) (u room : List ℕ) → k ≤ g.count → length room ≡ length r → take k room ≡ child_codes (code_by labels codes) (group_of keys g) []
      → (f : Option ℕ) (b : ℕ) → settled_as f u ≡ settle S p (end_value (group_of keys g)) (take k room) w → f ≡ Some b → left ≢ 0 → Within keys starts labels codes order S left p g w r k b u room
  within c k u room few size are f b answer is some = record {
    called = c;
    few = few;
    size = size;
    codes_are = are;
    started = start S (code_by labels codes) (label_by labels order) left (group_of keys g) p w f u (take k room) are answer some (length labels) b is c.fresh c.placeable.codes_in;
  }

-- indices into the room
module _ {S : ℕ} {code label : ℕ → ℕ} {left : ℕ} {g : List Pair} {k b : ℕ} {u room₀ room : List ℕ} {j : ℕ} {x : List ℕ} (going : Going S code label left g k b u room₀ room j x) where
  pub codes_inside : k ≤ length room
  codes_inside = omega (arith, going.few, going.size)

  module _ (h : j < k) where
    pub code_fits : Fits w64 (j * 4)
    code_fits = Fits-under w64 (j * 4) (2 ^ 32) (omega (arith, going.small)) tt

    pub code_inside : j < length room
    code_inside = omega (arith, codes_inside)

    pub next_fits : Fits w64 (j + 1)
    next_fits = Fits-under w64 (j + 1) (2 ^ 32) (omega (arith, going.small)) tt

-- the loop over the codes
module _ {keys starts labels codes order : List ℕ} {S left p : ℕ} {g : Group} {w r : List ℕ} {k b : ℕ} {u room₀ : List ℕ} (s : Within keys starts labels codes order S left p g w r k b u room₀) where
  abbrev GoingOn : List ℕ → ℕ → List ℕ → Type 0
  GoingOn room j x = Going S (code_by labels codes) (label_by labels order) left (group_of keys g) k b u room₀ room j x

  pub loop_first : {j : ℕ} → j ≡ 0 → GoingOn room₀ j u
  loop_first e = rw e (going_start s.started (omega (arith, s.few, s.called.placeable.grouped.values)) (omega (arith, s.few, s.size, s.called.lent.long)) s.codes_are)

  module _ {room : List ℕ} {j : ℕ} {x : List ℕ} (going : GoingOn room j x) where
    pub loop_end : k ≤ j → placed_as (Some tt) x ≡ place S (code_by labels codes) (label_by labels order) left p (group_of keys g) w
    loop_end = going_end s.started going

    -- the next code is c
    module _ (h : j < k) {c : ℕ} (e : c ≡ get_or room j 0) where
      pub past_end : c ≡ 0 → (room' y : List ℕ) → room' ≡ room → y ≡ x → GoingOn room' (j + 1) y
      past_end = turn_past s.started going h e

      -- c is not the code of an end
      module _ (some : c ≢ 0) where
        pub small : c ≤ length labels
        small = turn_small s.started going h e

        -- its slot is t and its group f
        module _ {t : ℕ} (at : t ≡ slot_under b c) {f : Group} (group : group_of keys f ≡ below (label_by labels order c) (group_of keys g)) where
          -- what `place` requires for it
          pub child_called : Grouped keys f → f.depth ≡ g.depth + 1 → Indexed keys starts f → Called keys starts labels codes order S (left - 1) t f x (take (length room - k) (drop k room))
          child_called whole deeper ix = record {
            tables = s.called.tables;
            placeable = child_placeable _ _ _ _ _ _ s.called.placeable whole group;
            fresh = turn_fresh s.started going h e at;
            deep = omega (arith, s.called.deep, deeper, s.started.some_left);
            lent = record { indexed = ix; long = turn_room s.started going h e at _ _ _ (group_size keys g) (group_size keys f) group (omega (arith, s.called.lent.long, s.size)) };
          }

        -- f are its keys, o is the answer, and z the work after it
        module _ {t : ℕ} (at : t ≡ slot_under b c) {f : List Pair} (group : f ≡ below (label_by labels order c) (group_of keys g)) (o : Option (Unit {0})) (z : List ℕ) (placed : placed_as o z ≡ place S (code_by labels codes) (label_by labels order) (left - 1) t f x) where
          pub child_placed : o ≡ Some tt → (ys room' y : List ℕ) → room' ≡ take k room ++ ys → length room' ≡ length room → y ≡ z → GoingOn room' (j + 1) y
          child_placed = turn_on s.started going h e at some group o z placed

          pub child_refused : o ≡ None → (v : List ℕ) → placed_as None v ≡ place S (code_by labels codes) (label_by labels order) left p (group_of keys g) w
          child_refused = turn_refused s.started going h e at some group o z placed
