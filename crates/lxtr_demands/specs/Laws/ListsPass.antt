-- The lists of an image pass rules 11 and 12.
-- Every used slot from 2 up has one place in the children array, so there are as many such slots as places.
use Prim.Native.Nat.{ℕ, zero, suc, ◌+◌, ◌-◌, ◌<◌}
use Rattle.std.proofs.Common.{arith, ◌∙◌, inr, true≢false}
use Rattle.std.specs.Prelude.{◌≡◌, refl, ◌≢◌, true, false, Option, Some, None}
use Rattle.std.proofs.Math.Path.{sym, ap}
use mathlib.Core.List.{List, [], ◌∷◌, ◌++◌, append-nil}
use Rattle.std.proofs.Math.ListN.{length, length-append}
use Rattle.lxtr_spec.specs.Labels.{length_count}
use Rattle.lxtr_spec.specs.Image.{slot_count, child_count, is_leaf, base, parent, child, list_width}
use Rattle.lxtr_spec.specs.Refusals.{is_used_from2, used_count}
use Rattle.lxtr_spec.specs.Sets.{PairSet, Has, InList}
use Rattle.lxtr_laws.specs.Facts.{UsedFrom2, EntryRight, ListsRight, ancestor, Reaches, unused_parent}
use Rattle.lxtr_laws.specs.Faults.{used_from_2}
use Rattle.lxtr_laws.specs.Bijections.{count_of_lem}
use Rattle.lxtr_laws.specs.KeyPrefixes.{snoc_cons, prefix_key, prefix_on}
use Rattle.lxtr_laws.specs.StepFacts.{walk_ancestor}
use Rattle.lxtr_laws.specs.ListPlaces.{in_list}
use Rattle.lxtr_laws.specs.EntryPlaces.{ListsSorted, lists_sorted, list_of_place, in_array, children_differ}
use Rattle.lxtr_demands.specs.Laws.Kinds.{KindIn, root, inner, leaf, unused, KnownImage}
use Rattle.lxtr_demands.specs.Laws.Entries.{ended_place, longer_place}
use Rattle.lxtr_demands.specs.Laws.SlotsPass.{slot_right}
use Rattle.lxtr_demands.specs.Laws.Slots.{walk_prefix}

module _ {b : List ℕ} {d : PairSet} (known : KnownImage b d) where
  open known use {image, kinds}

  -- 11
  sorted_lists : ListsSorted b
  sorted_lists = lists_sorted image.lists

  entry_right : (p j : ℕ) → p < slot_count b → InList b p j → EntryRight b p j
  entry_right zero j t i = absurd (omega (arith, i.from, i.to, image.lists.none_of_zero))
  entry_right (suc p) j t i =
      let m = image.lists.members (suc p) j (omega arith) t i in
      record {
        from = m.0;
        to = m.1;
        used = inr (m.0, λ z. omega (arith, m.2));
        up = m.2;
        above = λ l.
            let e : j - 1 + 1 ≡ j = omega arith in
            let before : InList b (suc p) (j - 1) = record { from = omega arith; to = omega (arith, i.to) } in
            rw e at (image.lists.ascending (suc p) (j - 1) (omega arith) t before (rw e i));
      }

  -- the place of a used slot in the array
  place : (s : ℕ) → s < slot_count b → is_used_from2 b s ≡ true → (j : ℕ) × (j < child_count b) × (child b j ≡ s)
  place s l e =
      let u = (used_from_2 b s).0 e in
      let below = ((slot_right known (kinds s l)).used u).parent_below in
      let r = image.lists.whole (parent b s) s (omega (arith, u.1)) below u.0 l refl in
      (r.0, omega (arith, in_array sorted_lists (parent b s) r.0 below r.1, image.lists.last), r.2)

  children_counted : child_count b ≡ used_count b
  unfolding used_count
  children_counted = sym (count_of_lem (child_count b) (slot_count b) (is_used_from2 b) (child b) (record {
    lands = λ j l.
        let o = list_of_place sorted_lists j (omega (arith, image.lists.last)) in
        let m = image.lists.members o.slot j o.from o.to o.within in
        (m.1, (used_from_2 b (child b j)).1 (m.0, λ z. omega (arith, m.2, o.from)));
    injective = λ i j l m e. children_differ sorted_lists i j (omega (arith, image.lists.last)) (omega (arith, image.lists.last)) e;
    surjective = place;
  }))

  -- if some key begins with p, the slot of p has a child
  has_child : (p r : List ℕ) (v : ℕ) → Has d (p ++ r) v → list_width b (image.slot p) ≢ 0
  has_child p [] v h = let c = ended_place image p v (rw append-nil at h) in λ e. omega (arith, (in_list b (image.slot p) c.0).0 c.1)
  has_child p (x ∷ r) v h = let c = longer_place image p x (record { is = inr (r, v, rw snoc_cons at h) }) in λ e. omega (arith, (in_list b (image.slot p) c.0).0 c.1)

  inner_has_child : {s : ℕ} → KindIn image s → UsedFrom2 b s → is_leaf b s ≡ false → list_width b s ≢ 0
  inner_has_child root u e = absurd (omega arith)
  inner_has_child (inner p x f) u e = let k = prefix_on d p x f in has_child (p ++ x ∷ []) k.0 k.1 k.2
  inner_has_child (leaf k v h) u e = absurd (true≢false (sym (image.placed.end_leaf k v h).0 ∙ e))
  inner_has_child (unused s z) u e = absurd (u.1 (unused_parent z))

  childless_root : list_width b 1 ≡ 0 → base b 1 ≡ 0
  childless_root e = image.placed.empty_root (λ k. go k (d k) refl)
    where
      go : (k : List ℕ) → (o : Option ℕ) → d k ≡ o → d k ≡ None
      go k None h = h
      go k (Some v) h = absurd (has_child [] k v h (rw image.placed.root e))

  pub lists_right : ListsRight b
  lists_right = record { rising = image.lists.rising; count = children_counted; entry = entry_right; parents = λ s l. inner_has_child (kinds s l); root = childless_root }

  -- 12

  pub slot_reaches : {s : ℕ} → KindIn image s → UsedFrom2 b s → Reaches b length_count s
  unfolding ancestor
  slot_reaches root u = absurd (omega arith)
  slot_reaches (inner p x f) u =
      let k = prefix_on d p x f in
      let q : List ℕ = p ++ x ∷ [] in
      record { steps = length q; within = omega (arith, image.keys.is_key_length (q ++ k.0) k.1 k.2, length-append q k.0); at_root = walk_ancestor b q (image.slot q) (walk_prefix image q f) }
  slot_reaches (leaf k v h) u = record {
    steps = suc (length k);
    within = omega (arith, image.keys.is_key_length k v h);
    at_root = ap (ancestor b (length k)) (image.placed.end_parent k v h) ∙ walk_ancestor b k (image.slot k) (walk_prefix image k (prefix_key d k v h));
  }
  slot_reaches (unused s z) u = absurd (u.1 (unused_parent z))
