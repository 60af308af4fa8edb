-- Lists that pass rule 11 are the children lists of document 01's image.
-- The main step is a count: if offsets don't fall and entries are right, every used slot from 2 up is listed exactly when as many
-- slots are listed as are used, since none is listed twice.
use Rattle.std.specs.Prelude.{ℕ, ◌<◌, ◌≡◌, refl, List, Bool, true}
use Rattle.std.proofs.Common.{arith, ap, ◌∙◌}
use Rattle.std.proofs.Math.Path.{sym}
use Rattle.std.proofs.Math.Dec.{eqb}
use borrow.Author.Tests.{eqb-true, eq-eqb}
use Rattle.lxtr_spec.specs.Ranges.{any_below, count_below}
use Rattle.lxtr_spec.specs.Image.{slot_count, child_count, parent, child}
use Rattle.lxtr_spec.specs.Refusals.{is_used_from2, used_count}
use Rattle.lxtr_spec.specs.Sets.{InList, ListsFit}
use Rattle.lxtr_laws.specs.Tests.{same_test}
use Rattle.lxtr_laws.specs.RangeTests.{any_true}
use Rattle.lxtr_laws.specs.Facts.{UsedFrom2, Accepted}
use Rattle.lxtr_laws.specs.Faults.{used_from_2}
use Rattle.lxtr_laws.specs.ListEntries.{EntriesRight, entries_sorted, listed_used, accepted_entries, sorted_lists}
use Rattle.lxtr_laws.specs.Bijections.{count_same, count_of_lem, count_filled}
use Rattle.lxtr_laws.specs.EntryPlaces.{list_of_place, children_differ}

module _ {b : List ℕ} (right : EntriesRight b) where
  -- whether slot s is listed
  listed : ℕ → Bool
  listed s = any_below (child_count b) (λ j. eqb (child b j) s)

  listed_is : (s : ℕ) → listed s ≡ true → (j : ℕ) × (j < child_count b) × (child b j ≡ s)
  unfolding listed
  listed_is s e = let r = (any_true (child_count b) (λ j. eqb (child b j) s)).0 e in (r.0, r.1, eqb-true _ _ r.2)

  is_listed : (j : ℕ) → j < child_count b → listed (child b j) ≡ true
  unfolding listed
  is_listed j h = (any_true (child_count b) (λ i. eqb (child b i) (child b j))).1 (j, h, eq-eqb (child b j) (child b j) refl)

  -- only used slots from 2 up are listed, each once
  only : (t : ℕ) → t < slot_count b → listed t ≡ true → is_used_from2 b t ≡ true
  only t l e = let r = listed_is t e in rw r.2 at ((used_from_2 b (child b r.0)).1 (listed_used right r.0 r.1).1)

  as_many : count_below (slot_count b) listed ≡ child_count b
  as_many = count_of_lem (child_count b) (slot_count b) listed (child b) (record {
    lands = λ j l. ((listed_used right j l).0, is_listed j l);
    injective = λ i j l m e. children_differ (entries_sorted right) i j (omega (arith, right.passed.last)) (omega (arith, right.passed.last)) e;
    surjective = λ t l e. listed_is t e;
  })

  -- E is the number of used slots from 2 up exactly when each is listed
  pub used_listed : child_count b ≡ used_count b → (s : ℕ) → s < slot_count b → UsedFrom2 b s → (j : ℕ) × (j < child_count b) × (child b j ≡ s)
  unfolding used_count
  used_listed e s h u = listed_is s (count_filled listed (is_used_from2 b) (slot_count b) only (as_many ∙ e) s h ((used_from_2 b s).1 u))

  pub listed_counted : ((s : ℕ) → s < slot_count b → UsedFrom2 b s → (j : ℕ) × (j < child_count b) × (child b j ≡ s)) → child_count b ≡ used_count b
  unfolding used_count
  listed_counted all = sym as_many ∙ count_same (slot_count b) listed (is_used_from2 b) (λ s l. same_test (listed s) (is_used_from2 b s) (only s l) (λ t. let r = all s l ((used_from_2 b s).0 t) in rw r.2 at (is_listed r.0 r.1)))

  -- the place at which a slot is listed is in its parent's list
  pub own_list : (p s j : ℕ) → j < child_count b → child b j ≡ s → parent b s ≡ p → InList b p j
  own_list p s j h e up =
      let o = list_of_place (entries_sorted right) j (omega (arith, right.passed.last)) in
      let same : o.slot ≡ p = sym ((entries_sorted right).members o.slot j o.from o.to o.within).2 ∙ ap (parent b) e ∙ up in
      rw same at o.within

module _ {b : List ℕ} (ok : Accepted b) where
  pub lists_fit : ListsFit b
  lists_fit = record {
    members = (sorted_lists ok).members;
    whole = λ p s f t g l e.
        let r = used_listed (accepted_entries ok) ok.lists.count s l (g, λ z. omega arith) in
        (r.0, own_list (accepted_entries ok) p s r.0 r.1 r.2 e, r.2);
    ascending = (sorted_lists ok).ascending;
    none_of_zero = (sorted_lists ok).none_of_zero;
    first = ok.first;
    last = ok.last;
    rising = ok.lists.rising;
  }
