-- The children lists together have as many entries as there are taken slots from 2 up: each of these is listed, and listed once.
use Rattle.std.specs.Prelude.{ℕ, ◌≤◌, ◌<◌, ◌≡◌, ◌≢◌, true, length, Some}
use Rattle.std.proofs.Common.{arith, ap}
use mathlib.Core.List.{List, Memᴰ}
use Rattle.lxtr_spec.specs.Ranges.{count_below}
use Rattle.lxtr_spec.specs.Labels.{Pair}
use Rattle.lxtr_spec.specs.Image.{low31}
use Rattle.lxtr_spec.specs.Placing.{check_at, is_taken_from2}
use Rattle.lxtr_spec.specs.CodeMaps.{map_of}
use Rattle.lxtr_spec.specs.Builds.{slots_used, children_in, slots_in, placed_in}
use Rattle.lxtr_laws.specs.Members.{members_counted}
use Rattle.lxtr_build_laws.specs.ChildLists.{TakenListed, all_mem, all_has, all_differ}
use Rattle.lxtr_build_laws.specs.UsedSlots.{taken_is}
use Rattle.lxtr_build_laws.specs.KeyListFacts.{KeysRight}
use Rattle.lxtr_build_laws.specs.Filling.{filling}
use Rattle.lxtr_build_laws.specs.FilledWork.{filled}

pub children_counted : (w : List ℕ) (N L : ℕ) → TakenListed w N L → length (children_in w N L) ≡ count_below N (is_taken_from2 w)
children_counted w N L listed = members_counted (children_in w N L) N (is_taken_from2 w) (all_differ w N L) only all
  where
    only : (t : ℕ) → Memᴰ t (children_in w N L) → (t < N) × (is_taken_from2 w t ≡ true)
    only t m =
        let k = (all_mem w N L t m).2 in
        let up : check_at w t ≢ 0 = λ z. omega (arith, ap low31 z, k.child.of, k.parent_from) in
        (k.child.to, (taken_is w t).1 (k.child.from, up))

    all : (t : ℕ) → t < N → is_taken_from2 w t ≡ true → Memᴰ t (children_in w N L)
    all t h e =
        let (from, up) = (taken_is w t).0 e in
        let k = listed t from up in
        all_has w N L t k.0 k.1 k.2

-- the same for the work in which the pairs of a key list are placed
pub children_count : (W : ℕ) (ps : List Pair) (w : List ℕ) → 4 ≤ W → KeysRight ps → placed_in W ps (map_of ps) ≡ Some w
    → length (children_in w (slots_used w (slots_in W)) (length (map_of ps))) ≡ count_below (slots_used w (slots_in W)) (is_taken_from2 w)
children_count W ps w h right e =
    let f = filled (filling W ps w h right e) in
    children_counted w (slots_used w (slots_in W)) (length (map_of ps)) f.listed
