-- The check counts the pairs: there are as many ends among the slots as pairs in a list of the set.
-- The end of a key is the slot that stands for the pair; different keys have different ends, and every end counted is a key's.
use Rattle.std.specs.Prelude.{ℕ, ◌<◌, ◌≡◌, refl, ◌≢◌, true, get_or}
use Rattle.std.proofs.Common.{arith, sym, ◌∙◌, true≢false}
use Rattle.std.proofs.Math.Path.{ap}
use mathlib.Core.List.{List, [], ◌∷◌, ◌++◌, Memᴰ}
use Rattle.std.proofs.Math.ListN.{length}
use Rattle.lxtr_spec.specs.Labels.{Pair}
use Rattle.lxtr_spec.specs.Image.{slot_count, is_leaf}
use Rattle.lxtr_spec.specs.Refusals.{is_end, end_count}
use Rattle.lxtr_spec.specs.Sets.{PairSet, Has}
use Rattle.lxtr_spec.specs.Meaning.{before_by_code, CodeBefore, Lists}
use Rattle.lxtr_laws.specs.Facts.{UsedFrom2, unused_parent}
use Rattle.lxtr_laws.specs.Faults.{end_is}
use Rattle.lxtr_laws.specs.Bijections.{count_of_lem}
use Rattle.lxtr_laws.specs.Members.{member_at, place_of_lem, sorted_at}
use Rattle.lxtr_laws.specs.KeyPrefixes.{prefix_key}
use Rattle.lxtr_demands.specs.Laws.Kinds.{KindIn, root, inner, leaf, unused, KnownImage}
use Rattle.lxtr_demands.specs.Laws.Slots.{prefix_slot_lem}
use Rattle.lxtr_laws.specs.Sorted.{Sorted, adjacent_sorted, sorted_weaker}
use Rattle.lxtr_demands.specs.Laws.CodeOrder.{code_self, code_trans}

-- the pair at place i
abbrev pair_at : List Pair → ℕ → Pair
pair_at ps i = get_or ps i ([], 0)

abbrev KeysDiffer : Pair → Pair → Type 0
KeysDiffer p r = p.0 ≢ r.0

module _ {b : List ℕ} {d : PairSet} (known : KnownImage b d) where
  open known use {image, kinds}

  pub end_counted : (k : List ℕ) (v : ℕ) → Has d k v → (image.end k < slot_count b) × (is_end b (image.end k) ≡ true)
  end_counted k v h =
      let i = image.placed.end_in k v h in
      let used : UsedFrom2 b (image.end k) = (i.0, λ z. omega (arith, image.placed.end_parent k v h, (prefix_slot_lem image k (prefix_key d k v h)).from)) in
      (i.1, (end_is b (image.end k)).1 (used, (image.placed.end_leaf k v h).0))

  pub counted_end : {s : ℕ} → KindIn image s → UsedFrom2 b s → is_leaf b s ≡ true → (k : List ℕ) × (v : ℕ) × Has d k v × (image.end k ≡ s)
  counted_end root u t = absurd (omega arith)
  counted_end (inner p x f) u t = absurd (true≢false (sym t ∙ image.placed.slot_inner (p ++ x ∷ []) f))
  counted_end (leaf k v h) u t = (k, v, h, refl)
  counted_end (unused s z) u t = absurd (u.1 (unused_parent z))

  -- for any list of the set's pairs that has each key once
  pub pairs_counted : (ps : List Pair) → Sorted KeysDiffer ps → ((k : List ℕ) (v : ℕ) → Has d k v → Memᴰ (k, v) ps) → ((k : List ℕ) (v : ℕ) → Memᴰ (k, v) ps → Has d k v)
      → end_count b ≡ length ps
  unfolding end_count
  pairs_counted ps differ all only = count_of_lem (length ps) (slot_count b) (is_end b) (λ i. image.end (pair_at ps i).0) (record {
    lands = λ i h. end_counted (pair_at ps i).0 (pair_at ps i).1 (is_key i h);
    injective = λ i j h k e. one_key i j h k (image.placed.ends_differ (pair_at ps i).0 (pair_at ps j).0 (pair_at ps i).1 (pair_at ps j).1 (is_key i h) (is_key j k) e);
    surjective = λ s h e.
        let u = (end_is b s).0 e in
        let c = counted_end (kinds s h) u.0 u.1 in
        let m = place_of_lem ([], 0) ps (c.0, c.1) (all c.0 c.1 c.2) in
        (m.0, m.1, ap (λ (z : Pair). image.end z.0) m.2 ∙ c.3);
  })
    where
      is_key : (i : ℕ) → i < length ps → Has d (pair_at ps i).0 (pair_at ps i).1
      is_key i h = only (pair_at ps i).0 (pair_at ps i).1 (member_at ([], 0) ps i h)

      one_key : (i j : ℕ) → i < length ps → j < length ps → (pair_at ps i).0 ≡ (pair_at ps j).0 → i ≡ j
      one_key i j h k e =
          let not-less : ¬ (i < j) = λ l. sorted_at ([], 0) KeysDiffer ps differ i j l k e in
          let not_more : ¬ (j < i) = λ l. sorted_at ([], 0) KeysDiffer ps differ j i l h (sym e) in
          omega arith

  pub listing_counted : (ps : List Pair) → Lists b d [] ps → end_count b ≡ length ps
  listing_counted ps l = pairs_counted ps
      (sorted_weaker (CodeBefore b) KeysDiffer (λ p r h e. code_self b r (ap (λ (k : List ℕ). before_by_code b k r.0) (sym e) ∙ h)) ps (adjacent_sorted (CodeBefore b) (code_trans b) ps l.ordered))
      l.all (λ k v m. (l.only k v m).2)
