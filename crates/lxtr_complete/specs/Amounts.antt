-- How many pairs an accepted image can list: below a slot, with k labels allowed, at most k times as many as there are children.
-- This bound even holds for the sum over all slots, because no slot is listed twice.
use Prim.Native.Nat.{ℕ, zero, suc, ◌+◌, ◌*◌, ◌-◌, ◌^◌, ◌≤◌, ◌<◌}
use Rattle.std.specs.Prelude.{◌≡◌, refl, Bool}
use Rattle.std.proofs.Common.{sym, ◌∙◌, le_refl, le_trans, mul-le-mul, length-append}
use Rattle.std.proofs.Math.Path.{ap}
use mathlib.Core.List.{List}
use Rattle.std.proofs.Math.Bool.{true, false}
use Rattle.std.proofs.Math.Numerals.{add-one}
use native.Mathlib.Omega.{arith}
use Rattle.std.proofs.Math.ListN.{length}
use Rattle.lxtr_spec.specs.Ranges.{concat_from}
use Rattle.lxtr_spec.specs.Labels.{length_count, Pair}
use Rattle.lxtr_spec.specs.Image.{slot_count, child_count, is_leaf, offset, child, list_width}
use Rattle.lxtr_spec.specs.Completions.{entry_pairs, list_from}
use Rattle.lxtr_laws.specs.RangeTests.{concat_more}
use Rattle.lxtr_laws.specs.Limit.{length_fits_byte}
use Rattle.lxtr_laws.specs.Facts.{Accepted}
use Rattle.lxtr_laws.specs.EntryPlaces.{children_differ}
use Rattle.lxtr_laws.specs.ListEntries.{sorted_lists, child_used}
use Rattle.lxtr_complete.specs.Sums.{total, total_none, total_has, total_one_more, total_split, total_part}

module _ (b : List ℕ) where
  -- an upper bound on the pairs below slot n, with k labels allowed
  most : ℕ → ℕ → ℕ
  most zero n = 0
  most (suc k) n = total (list_width b n) (λ i. 1 + most k (child b (offset b n + i)))

  concat_most : (w j : ℕ) (f : ℕ → List Pair) (g : ℕ → ℕ) → ((i : ℕ) → length (f i) ≤ g i) → length (concat_from w j f) ≤ total w (λ i. g (j + i))
  unfolding concat_from total
  concat_most zero j f g h = omega arith
  concat_most (suc w) j f g h = rw (concat_more f w j, length-append) (omega (arith, concat_most w j f g h, h (j + w)))

  list_most : (k n : ℕ) (key : List ℕ) → length (list_from b k n key) ≤ most k n
  unfolding list_from most entry_pairs
  list_most zero n key = omega arith
  list_most (suc k) n key =
      concat_most (list_width b n) (offset b n) (entry_pairs b (list_from b k) n key) (λ j. 1 + most k (child b j)) (λ j. go (list_most k) j (is_leaf b (child b j)) refl)
    where
      go : ((n : ℕ) (key : List ℕ) → length (list_from b k n key) ≤ most k n) → (j : ℕ) (l : Bool) → is_leaf b (child b j) ≡ l → length (entry_pairs b (list_from b k) n key j) ≤ 1 + most k (child b j)
      go ih j true e = rw (entry_pairs, e) (omega arith)
      go ih j false e = rw (entry_pairs, e) (le_trans (ih (child b j) _) (omega arith))

  module _ (a : Accepted b) where
    -- the lists are one after the other in the children array
    lists_all : (f : ℕ → ℕ) (m : ℕ) → m ≤ slot_count b → total m (λ n. total (list_width b n) (λ i. f (offset b n + i))) ≡ total (offset b m) f
    unfolding total list_width
    lists_all f zero h = rw a.first
    lists_all f (suc m) h =
        let e : offset b m + (offset b (m + 1) - offset b m) ≡ offset b (suc m) = rw (← add-one m) (omega (arith, a.lists.rising m (omega arith))) in
        rw (lists_all f m (omega arith)) (sym (total_split (offset b m) (offset b (m + 1) - offset b m) f) ∙ ap (λ (k : ℕ). total k f) e)

    most_all : (k : ℕ) → total (slot_count b) (most k) ≤ k * child_count b
    unfolding most
    most_all zero = omega (arith, total_none (slot_count b))
    most_all (suc k) =
        let lists = lists_all (λ j. 1 + most k (child b j)) (slot_count b) (le_refl (slot_count b)) in
        let part = total_part (child_count b) (slot_count b) (child b) (most k) (λ j h. (child_used a j h).0) (λ i j h k e. children_differ (sorted_lists a) i j (rw a.last h) (rw a.last k) e) in
        omega (arith, rw (a.last, total_one_more (child_count b) (λ j. most k (child b j))) at lists, part, most_all k)

    pub list_few : (k n : ℕ) (key : List ℕ) → n < slot_count b → k ≤ length_count → length (list_from b k n key) < 2 ^ 24
    list_few k n key h l =
        let f = a.framed in
        let labels : k ≤ 2 ^ 8 = omega (arith, length_fits_byte) in
        let children : child_count b ≤ 2 ^ 16 - 2 = omega (arith, f.children, f.slots) in
        let all : k * child_count b ≤ 2 ^ 8 * (2 ^ 16 - 2) = mul-le-mul labels children in
        omega (arith, list_most k n key, total_has (slot_count b) n (most k) h, most_all k)
