-- The loops over the keys of a group. What is left of the group completes the whole.
use Prim.Native.Nat.{ℕ, zero, suc, ◌+◌, ◌*◌, ◌-◌, ◌/◌, ◌^◌, ◌≤◌, ◌<◌}
use Rattle.std.specs.Prelude.{◌≡◌, refl, ◌≢◌, ◌⊎◌, Bool, true, false, get_or, length, take, drop}
use Rattle.std.proofs.Math.Path.{sym, ap}
use Rattle.std.proofs.Common.{ap₂, ◌∙◌, subst, ⊎_elim, inl, inr, add-zero, zero-add, add-one, Fits, drop-drop}
use mathlib.Core.List.{List, [], ◌∷◌, Memᴰ}
use Rattle.std.proofs.Math.Nat.{sub-zero}
use Rattle.std.proofs.Math.Decide.{dec_lt}
use native.Mathlib.Omega.{arith}
use Rattle.std.specs.Int.{w64}
use borrow.Author.Rules.{Fits-under}
use Rattle.std.proofs.Math.Dec.{eqb, ltb}
use Rattle.lxtr_spec.specs.Labels.{length_count, value_limit, Pair}
use Rattle.lxtr_spec.specs.KeyLists.{key_length, key_label, next_key, key_at}
use Rattle.lxtr_spec.specs.Placing.{below, end_value}
use Rattle.lxtr_laws.specs.RangeTests.{more}
use Rattle.lxtr_build_laws.specs.KeyListFacts.{WholeKey, WholeKeys, Ascending}
use Rattle.lxtr_build_laws.specs.CodeTables.{code_by}
use Rattle.lxtr_build_laws.specs.Groups.{ascending_below, codes_below}
use Rattle.lxtr_build_laws.specs.KeyReading.{key_ends, key_goes, whole_on}
use Rattle.lxtr_place.specs.declared.groups.Group.{Group}
use Rattle.lxtr_place.specs.GroupRanges.{place_of, group_from, group_of, Grouped, Indexed, Placeable, goes_by, is_under, run_of}
use Rattle.lxtr_place.specs.GroupRuns.{tails, below_past, run_by, run_past, under_past, under_before, front_below, end_none}

-- ---- one key

module _ (b : List ℕ) (at d x len : ℕ) (e : len ≡ key_length b at) where
  pub goes_end : len ≤ d → false ≡ goes_by x (drop d (key_at b at))
  unfolding goes_by
  goes_end h = sym (ap (goes_by x) (key_ends b at d (omega arith)))

  pub goes_on : (y : ℕ) → d < len → y ≡ key_label b at d → eqb y x ≡ goes_by x (drop d (key_at b at))
  unfolding goes_by
  goes_on y h q = ap (λ (z : ℕ). eqb z x) q ∙ sym (ap (goes_by x) (key_goes b at d (omega arith)))

-- ---- a group's keys

keys_count : (b : List ℕ) (d n i at : ℕ) → n ≡ length (group_from b d n i at)
unfolding group_from
keys_count b d zero i at = refl
keys_count b d (suc n) i at = ap suc (keys_count b d n (i + 1) (next_key b at))

pub group_size : (b : List ℕ) (g : Group) → g.count ≡ length (group_of b g)
group_size b g = keys_count b g.depth g.count g.first g.at

-- ---- what a loop has left of a group after i keys, where the next key starts at place `at`

abbrev pub left : List ℕ → Group → ℕ → ℕ → List Pair
left b g at i = group_from b g.depth (g.count - i) (g.first + i) at

abbrev pub next : List ℕ → Group → ℕ → ℕ → Pair
next b g at i = (drop g.depth (key_at b at), g.first + i)

module _ (b : List ℕ) (g : Group) where
  pub left_start : left b g g.at 0 ≡ group_of b g
  left_start = ap₂ (λ (k j : ℕ). group_from b g.depth k j g.at) (sub-zero g.count) (add-zero g.first)

  module _ (at i : ℕ) where
    pub left_on : i < g.count → left b g at i ≡ next b g at i ∷ left b g (next_key b at) (i + 1)
    unfolding group_from
    left_on h =
        let e : g.first + i + 1 ≡ g.first + (i + 1) = omega arith in
        ap (λ (k : ℕ). group_from b g.depth k (g.first + i) at) (more g.count i h) ∙ ap (λ (m : ℕ). next b g at i ∷ group_from b g.depth (g.count - (i + 1)) m (next_key b at)) e

    pub left_end : g.count ≤ i → left b g at i ≡ []
    unfolding group_from
    left_end h = let e : g.count - i ≡ 0 = omega arith in ap (λ (k : ℕ). group_from b g.depth k (g.first + i) at) e

-- ---- `run_of`

pub record Running (b : List ℕ) (g : Group) (x at i : ℕ) : Type 0 where
  pub passed : i ≤ g.count
  pub whole : WholeKeys b (g.count - i) at
  pub run : run_of x (group_of b g) ≡ i + run_of x (left b g at i)

module _ (b : List ℕ) (g : Group) (x : ℕ) where
  module _ (at i : ℕ) (r : Running b g x at i) where
    module _ (t : Bool) (h : i < g.count) (e : t ≡ goes_by x (drop g.depth (key_at b at))) where
      pub running_turn : (at' : ℕ) → t ≡ true → at' ≡ next_key b at → Running b g x at' (i + 1)
      running_turn at' q n = rw n (record {
        passed = omega arith;
        whole = whole_on b g.count i at h r.whole;
        run = omega (arith, r.run, ap (run_of x) (left_on b g at i h), run_by x (next b g at i) (left b g (next_key b at) (i + 1)) (sym e ∙ q));
      })

      pub running_stop : t ≡ false → i ≡ run_of x (group_of b g)
      running_stop q = omega (arith, r.run, ap (run_of x) (left_on b g at i h), run_past x (next b g at i) (left b g (next_key b at) (i + 1)) (sym e ∙ q))

    pub running_end : g.count ≤ i → g.count ≡ run_of x (group_of b g)
    unfolding run_of
    running_end h = omega (arith, r.passed, r.run, ap (run_of x) (left_end b g at i h))

-- ---- keys by their place in a group

member : (b : List ℕ) (d n f at i : ℕ) → i < n → Memᴰ (drop d (key_at b (place_of b i at)), f + i) (group_from b d n f at)
unfolding group_from place_of
member b d zero f at i h = absurd (omega arith)
member b d (suc n) f at zero h = Memᴰ.head (ap (λ (m : ℕ). (drop d (key_at b at), m)) (add-zero f))
member b d (suc n) f at (suc i) h =
    let e : f + 1 + i ≡ f + suc i = omega arith in
    Memᴰ.tail (subst (λ (m : ℕ). Memᴰ (drop d (key_at b (place_of b i (next_key b at))), m) (group_from b d n (f + 1) (next_key b at))) e (member b d n (f + 1) (next_key b at) i (omega arith)))

-- the keys from the i-th up
abbrev onward : List ℕ → ℕ → ℕ → ℕ → ℕ → ℕ → List Pair
onward b d n f at i = group_from b d (n - i) (f + i) (place_of b i at)

onward_start : (b : List ℕ) (d n f at : ℕ) → onward b d n f at 0 ≡ group_from b d n f at
unfolding place_of
onward_start b d n f at = ap₂ (λ (k j : ℕ). group_from b d k j at) (sub-zero n) (add-zero f)

onward_suc : (b : List ℕ) (d n f at i : ℕ) → onward b d n (f + 1) (next_key b at) i ≡ onward b d (suc n) f at (suc i)
unfolding place_of
onward_suc b d n f at i =
    let e : n - i ≡ suc n - suc i = omega arith in
    let o : f + 1 + i ≡ f + suc i = omega arith in
    ap₂ (λ (k j : ℕ). group_from b d k j (place_of b i (next_key b at))) e o

whole_onward : (b : List ℕ) (n at i : ℕ) → i ≤ n → WholeKeys b n at → WholeKeys b (n - i) (place_of b i at)
unfolding WholeKeys place_of
whole_onward b n at zero h w = rw sub-zero w
whole_onward b zero at (suc i) h w = absurd (omega arith)
whole_onward b (suc n) at (suc i) h w = let e : n - i ≡ suc n - suc i = omega arith in subst (λ (k : ℕ). WholeKeys b k (place_of b i (next_key b at))) e (whole_onward b n (next_key b at) i (omega arith) w.1)

ascending_onward : (b : List ℕ) (d n f at i : ℕ) → i ≤ n → Ascending (group_from b d n f at) → Ascending (onward b d n f at i)
unfolding group_from Ascending
ascending_onward b d n f at zero h a = rw (onward_start b d n f at) a
ascending_onward b d zero f at (suc i) h a = absurd (omega arith)
ascending_onward b d (suc n) f at (suc i) h a = subst Ascending (onward_suc b d n f at i) (ascending_onward b d n (f + 1) (next_key b at) i (omega arith) a.1)

-- no key before one that is under x continues with x
below_onward : (b : List ℕ) (d n f at x i : ℕ) → i < n → Ascending (group_from b d n f at) → is_under x (drop d (key_at b (place_of b i at))) ≡ true → below x (group_from b d n f at) ≡ below x (onward b d n f at (suc i))
unfolding group_from Ascending place_of
below_onward b d zero f at x i h a u = absurd (omega arith)
below_onward b d (suc n) f at x zero h a u =
    below_past x (drop d (key_at b at), f) (group_from b d n (f + 1) (next_key b at)) (under_past x (drop d (key_at b at)) u) ∙ ap (below x) (sym (onward_start b d n (f + 1) (next_key b at)) ∙ onward_suc b d n f at 0)
below_onward b d (suc n) f at x (suc i) h a u =
    below_past x (drop d (key_at b at), f) (group_from b d n (f + 1) (next_key b at)) (under_before x (drop d (key_at b at)) _ u (a.0 _ (member b d n (f + 1) (next_key b at) i (omega arith))))
    ∙ below_onward b d n (f + 1) (next_key b at) x i (omega arith) a.1 u ∙ ap (below x) (onward_suc b d n f at (suc i))

place_add : (b : List ℕ) (i j at : ℕ) → place_of b (i + j) at ≡ place_of b j (place_of b i at)
unfolding place_of
place_add b zero j at = ap (λ (k : ℕ). place_of b k at) (zero-add j)
place_add b (suc i) j at = let e : suc i + j ≡ suc (i + j) = omega arith in ap (λ (k : ℕ). place_of b k at) e ∙ place_add b i j (next_key b at)

-- ---- `skip_to`

module _ (b : List ℕ) (at d x len : ℕ) (e : len ≡ key_length b at) where
  pub under_end : len ≤ d → true ≡ is_under x (drop d (key_at b at))
  unfolding is_under
  under_end h = sym (ap (is_under x) (key_ends b at d (omega arith)))

  pub under_on : (y : ℕ) → d < len → y ≡ key_label b at d → ltb y x ≡ is_under x (drop d (key_at b at))
  unfolding is_under
  under_on y h q = ap (λ (z : ℕ). ltb z x) q ∙ sym (ap (is_under x) (key_goes b at d (omega arith)))

abbrev from : Group → ℕ → ℕ → Group
from g at i = record { at = at; first = g.first + i; count = g.count - i; depth = g.depth }

-- no key before the low-th continues with x, and the high-th key, if there is one, is not under x
pub record Searching (b : List ℕ) (g : Group) (x low high : ℕ) : Type 0 where
  pub between : low ≤ high
  pub to : high ≤ g.count
  pub passed : below x (group_of b g) ≡ below x (group_of b (from g (place_of b low g.at) low))
  pub reached : (high ≡ g.count) ⊎ (is_under x (drop g.depth (key_at b (place_of b high g.at))) ≡ false)

-- where key i starts
module _ (b starts : List ℕ) (g : Group) (s : Indexed b starts g) (w : Grouped b g) (i : ℕ) (h : i ≤ g.count) where
  pub start_fits : Fits w64 ((g.first + i) * 4)
  start_fits = Fits-under w64 ((g.first + i) * 4) (2 ^ 32) (omega (arith, w.values)) tt

-- the low-th key is the first that is not under x
pub record Skipped (b : List ℕ) (g : Group) (x low : ℕ) : Type 0 where
  pub to : low ≤ g.count
  pub rest : below x (group_of b g) ≡ tails (take (run_of x (group_of b (from g (place_of b low g.at) low))) (group_of b (from g (place_of b low g.at) low)))

-- the group from the low-th key up, which starts at place a
module _ (b : List ℕ) (g : Group) (w : Grouped b g) (low : ℕ) (inside : low ≤ g.count) (a : ℕ) (at_low : a ≡ place_of b low g.at) where
  pub found_group : Grouped b (from g a low)
  found_group = record { whole = rw at_low (whole_onward b g.count g.at low inside w.whole); values = omega (arith, w.values, inside); shallow = w.shallow }

  pub found_started : (starts : List ℕ) → Indexed b starts g → Indexed b starts (from g a low)
  found_started starts s = record {
    inside = omega (arith, s.inside, inside);
    each = λ i h.
        let e : g.first + low + i ≡ g.first + (low + i) = omega arith in
        ap (λ (k : ℕ). get_or starts k 0) e ∙ s.each (low + i) (omega (arith, inside)) ∙ place_add b low i g.at ∙ ap (place_of b i) (sym at_low);
  }

module _ (b : List ℕ) (g : Group) (x : ℕ) (w : Grouped b g) where
  pub search_start : Searching b g x 0 g.count
  search_start = record { between = omega arith; to = omega arith; passed = sym (ap (below x) (onward_start b g.depth g.count g.first g.at)); reached = inl refl }

  module _ (low high : ℕ) (r : Searching b g x low high) where
    -- the key in the middle of those that are left, which starts at place a
    module _ (h : low < high) where
      abbrev mid : ℕ
      mid = low + (high - low) / 2

      module _ (a : ℕ) (at_mid : a ≡ place_of b mid g.at) where
        pub mid_whole : WholeKey b a
        unfolding WholeKeys
        mid_whole =
            let e : g.count - mid ≡ suc (g.count - mid - 1) = omega (arith, r.to) in
            rw at_mid (subst (λ (k : ℕ). WholeKeys b k (place_of b mid g.at)) e (whole_onward b g.count g.at mid (omega (arith, r.to)) w.whole)).0

        module _ (t : Bool) (is : t ≡ is_under x (drop g.depth (key_at b a))) where
          here : t ≡ is_under x (drop g.depth (key_at b (place_of b mid g.at)))
          here = is ∙ ap (λ (y : ℕ). is_under x (drop g.depth (key_at b y))) at_mid

          pub search_low : Ascending (group_of b g) → t ≡ true → Searching b g x (mid + 1) high
          search_low asc u = record {
            between = omega arith;
            to = r.to;
            passed = rw (add-one mid) (below_onward b g.depth g.count g.first g.at x mid (omega (arith, r.to)) asc (sym here ∙ u));
            reached = r.reached;
          }

          pub search_high : t ≡ false → Searching b g x low mid
          search_high u = record { between = omega arith; to = omega (arith, r.to); passed = r.passed; reached = inr (sym here ∙ u) }

    -- no key is left
    module _ (stop : high ≤ low) where
      inside : low ≤ g.count
      inside = omega (arith, r.between, r.to)

      pub found_below : Ascending (group_of b g) → Skipped b g x low
      unfolding group_from below tails run_of
      found_below asc = record { to = inside; rest = r.passed ∙ go (dec_lt low g.count) }
        where
          rest : List Pair
          rest = group_of b (from g (place_of b low g.at) low)

          go : Dec (low < g.count) → below x rest ≡ tails (take (run_of x rest) rest)
          go (no h) = let e : g.count - low ≡ 0 = omega arith in ap (λ (k : ℕ). below x (group_from b g.depth k (g.first + low) (place_of b low g.at))) e ∙ sym (ap (λ (k : ℕ). let l = group_from b g.depth k (g.first + low) (place_of b low g.at) in tails (take (run_of x l) l)) e)
          go (yes h) =
              let same : high ≡ low = omega (arith, r.between) in
              let not_under : is_under x (drop g.depth (key_at b (place_of b low g.at))) ≡ false = ⊎_elim (λ (e : high ≡ g.count). absurd (omega arith)) (λ u. ap (λ (i : ℕ). is_under x (drop g.depth (key_at b (place_of b i g.at)))) (sym same) ∙ u) r.reached in
              let e : g.count - low ≡ suc (g.count - low - 1) = omega arith in
              let cut : rest ≡ (drop g.depth (key_at b (place_of b low g.at)), g.first + low) ∷ group_from b g.depth (g.count - low - 1) (g.first + low + 1) (next_key b (place_of b low g.at)) =
              ap (λ (k : ℕ). group_from b g.depth k (g.first + low) (place_of b low g.at)) e in
              rw cut (front_below x _ _ (subst Ascending cut (ascending_onward b g.depth g.count g.first g.at low inside asc)) not_under)

-- ---- `below`

whole_front : (b : List ℕ) (k n at : ℕ) → k ≤ n → WholeKeys b n at → WholeKeys b k at
unfolding WholeKeys
whole_front b zero n at h w = tt
whole_front b (suc k) zero at h w = absurd (omega arith)
whole_front b (suc k) (suc n) at h w = (w.0, whole_front b k n (next_key b at) (omega arith) w.1)

tails_front : (b : List ℕ) (d k n f at : ℕ) → k ≤ n → group_from b (d + 1) k f at ≡ tails (take k (group_from b d n f at))
unfolding group_from tails
tails_front b d zero n f at h = refl
tails_front b d (suc k) zero f at h = absurd (omega arith)
tails_front b d (suc k) (suc n) f at h = ap₂ {C = List Pair} (λ (l : List ℕ) (g : List Pair). (l, f) ∷ g) (sym (drop-drop 1 d (key_at b at))) (tails_front b d k n (f + 1) (next_key b at) (omega arith))

-- h is g without the keys under x at its front, and k is how many of its first keys continue with x
module _ (b : List ℕ) (x : ℕ) (g h : Group) (k : ℕ) (few : k ≤ h.count) (deep : h.depth ≡ g.depth) where
  pub below_group : Grouped b h → g.depth < length_count → Grouped b (record { at = h.at; first = h.first; count = k; depth = h.depth + 1 })
  below_group w l = record { whole = whole_front b k h.count h.at few w.whole; values = omega (arith, w.values); shallow = omega arith }

  pub below_started : (starts : List ℕ) → Indexed b starts h → Indexed b starts (record { at = h.at; first = h.first; count = k; depth = h.depth + 1 })
  below_started starts s = record { inside = omega (arith, s.inside); each = λ i l. s.each i (omega arith) }

  pub below_is : below x (group_of b g) ≡ tails (take (run_of x (group_of b h)) (group_of b h)) → k ≡ run_of x (group_of b h) → group_from b (h.depth + 1) k h.first h.at ≡ below x (group_of b g)
  below_is s r =
      tails_front b h.depth k h.count h.first h.at few
      ∙ ap (λ (m : ℕ). tails (take m (group_of b h))) r
      ∙ sym s

-- a child's group may be placed if its parent's may
pub child_placeable : (b labels codes : List ℕ) (g h : Group) (x : ℕ) → Placeable b labels codes g → Grouped b h → group_of b h ≡ below x (group_of b g) → Placeable b labels codes h
child_placeable b labels codes g h x r w e = record {
  grouped = w;
  ascending = rw e (ascending_below x (group_of b g) r.ascending);
  codes_in = rw e (codes_below (code_by labels codes) (length labels) x (group_of b g) r.codes_in);
}

-- ---- `end_value`

module _ (b : List ℕ) (g : Group) where
  pub no_keys : g.count ≡ 0 → 0 ≡ end_value (group_of b g)
  unfolding group_from end_value
  no_keys e = sym (ap (λ (n : ℕ). end_value (group_from b g.depth n g.first g.at)) e)

  module _ (some : g.count ≢ 0) where
    one : g.count ≡ suc (g.count - 1)
    one = omega arith

    behind : List Pair
    behind = group_from b g.depth (g.count - 1) (g.first + 1) (next_key b g.at)

    split : group_of b g ≡ (drop g.depth (key_at b g.at), g.first) ∷ behind
    unfolding group_from behind
    split = ap (λ (n : ℕ). group_from b g.depth n g.first g.at) one

    pub first_starts : Grouped b g → g.at < length b
    unfolding WholeKeys
    first_starts w = (subst (λ (n : ℕ). WholeKeys b n g.at) one w.whole).0.starts

    module _ (len : ℕ) (e : len ≡ key_length b g.at) where
      pub first_goes : Ascending (group_of b g) → g.depth < len → 0 ≡ end_value (group_of b g)
      first_goes a h =
          let s = split ∙ ap (λ (l : List ℕ). (l, g.first) ∷ behind) (key_goes b g.at g.depth (omega arith)) in
          sym (ap end_value s ∙ end_none _ _ _ _ (subst Ascending s a))

      pub first_ends : len ≤ g.depth → g.first ≡ end_value (group_of b g)
      unfolding end_value
      first_ends h = sym (ap end_value (split ∙ ap (λ (l : List ℕ). (l, g.first) ∷ behind) (key_ends b g.at g.depth (omega arith))))

-- a value number of the group is one of the list
end_within : (b : List ℕ) (d n i at : ℕ) → end_value (group_from b d n i at) ≤ i + n
unfolding group_from end_value
end_within b d zero i at = omega arith
end_within b d (suc n) i at = go (end_within b d n (i + 1) (next_key b at)) (drop d (key_at b at))
  where
    go : end_value (group_from b d n (i + 1) (next_key b at)) ≤ i + 1 + n → (k : List ℕ) → (elim k as (λ _. ℕ) [ [] ↦ i | x ∷ r ↦ end_value (group_from b d n (i + 1) (next_key b at)) ]) ≤ i + suc n
    go rest [] = omega arith
    go rest (x ∷ r) = omega arith

pub value_small : (b : List ℕ) (g : Group) (v : ℕ) → Grouped b g → v ≡ end_value (group_of b g) → v < value_limit
value_small b g v w e = omega (arith, end_within b g.depth g.count g.first g.at, w.values)
