-- The check over an image: what it refuses, by the lists of the table and by the highest value of the set.
-- Bytes are the form of some lists exactly when version, lengths and offsets are right.
use Rattle.std.specs.Prelude.{ℕ, ◌≤◌, ◌≡◌, ◌≢◌, ◌⊎◌, ◌↔◌, Bool, length, Option, Some}
use Rattle.std.proofs.Common.{arith, sym, ◌∙◌, inl, inr, true≢false}
use Rattle.std.proofs.Math.Path.{refl}
use mathlib.Core.List.{List, flatten}
use Rattle.std.proofs.Math.Bool.{true, false}
use borrow.Author.Tests.{leb-true, leb-false, le-leb, lt-leb}
use Rattle.lxtr_spec.specs.Refusals.{refuse_if, first_refusal, unless_refused, image_refusal}
use Rattle.lxtr_spec.specs.HighestValues.{highest_of}
use Rattle.lxtr_spec.specs.Sets.{PairSet, ImageOf}
use Rattle.lxtr_spec.specs.Meaning.{HighestIn}
use Rattle.lxtr_laws.specs.RefusalChains.{first_stands, stands}
use Rattle.lxtr_demands.specs.Operations.{Bytes}
use Rattle.lxtr_demands.specs.Laws.HighestValue.{highest_value, holds_of_some, holds_of_none}
use Rattle.lxtr_entries_spec.specs.EntryTables.{value_count, entry_count, form_wrong, value_beyond, offsets_wrong, table_refusal, table_verdict_of}
use Rattle.lxtr_entries_laws.specs.TableFacts.{form_right, offsets_right, later_refusal}
use Rattle.lxtr_entries_demands.specs.EntryDemand.{EntryLists, TableOf, EveryValue, SomeBeyond, Malformed}
use Rattle.lxtr_entries_demands.specs.Laws.TableForms.{value_count_lem, entry_count_lem, form_is, offsets_are}
use Rattle.lxtr_entries_demands.specs.Laws.TableLists.{lists_in, table_of}

-- a value that is not below V; so are those above it
beyond_rises : (t : List ℕ) (v w : ℕ) → v ≤ w → value_beyond t (Some v) ≡ true → value_beyond t (Some w) ≡ true
unfolding value_beyond
beyond_rises t v w l e = le-leb (value_count t) w (omega (arith, leb-true (value_count t) v e))

module _ {d : PairSet} {t : List ℕ} {lists : EntryLists} (table : TableOf t lists) (h : Option ℕ) (is : HighestIn d h) where
  every_value : (value_beyond t h ≡ false) ↔ EveryValue d lists
  unfolding value_beyond
  every_value =
      let all = holds_of_none (value_beyond t) refl (beyond_rises t) h is in (
        λ e k v has. omega (arith, value_count_lem table, leb-false (value_count t) v (all.0 e k v has)),
        λ every. all.1 (λ k v has. lt-leb (value_count t) v (omega (arith, value_count_lem table, every k v has))),
      )

  some_beyond : (value_beyond t h ≡ true) ↔ SomeBeyond d lists
  unfolding value_beyond
  some_beyond =
      let one = holds_of_some (value_beyond t) refl (beyond_rises t) h is in (
        λ e. let (k, v, has, f) = one.0 e in (k, v, has, omega (arith, value_count_lem table, leb-true (value_count t) v f)),
        λ (k, v, has, above). one.1 (k, v, has, le-leb (value_count t) v (omega (arith, value_count_lem table))),
      )

-- the answer that a refusal gives, or none
verdict_by : (b t : List ℕ) (k : ℕ) → table_refusal b t ≡ k → table_verdict_of b t ≡ record { refusal = k; entries = unless_refused k (entry_count t) 0 }
unfolding table_verdict_of
verdict_by b t k e = rw e

pub image_refused : (b t : List ℕ) → image_refusal b ≢ 0 → table_verdict_of b t ≡ record { refusal = image_refusal b; entries = 0 }
unfolding table_refusal highest_of
image_refused b t wrong = verdict_by b t (image_refusal b) (first_stands (image_refusal b) _ wrong) ∙ rw (stands (image_refusal b) (entry_count t) 0 wrong)

module _ {b : List ℕ} {d : PairSet} (image : ImageOf b d) (t : List ℕ) where
  refusal_is : (h : Option ℕ) → HighestIn d h → table_refusal b t ≡ later_refusal t h
  unfolding table_refusal first_refusal
  refusal_is h is = rw ((highest_value b).answer d h image is)

  module _ (lists : EntryLists) (table : TableOf t lists) where
    pub accepted : EveryValue d lists → table_verdict_of b t ≡ record { refusal = 0; entries = length (flatten lists) }
    unfolding refuse_if unless_refused
    accepted every =
        let (h, is) = (highest_value b).some_highest d image in
        verdict_by b t 0 (refusal_is h is ∙ rw (form_is table, offsets_are table, (every_value table h is).1 every)) ∙ rw (entry_count_lem table)

    pub beyond : SomeBeyond d lists → table_verdict_of b t ≡ record { refusal = 27; entries = 0 }
    unfolding refuse_if unless_refused
    beyond above =
        let (h, is) = (highest_value b).some_highest d image in
        verdict_by b t 27 (refusal_is h is ∙ rw (form_is table, offsets_are table, (some_beyond table h is).1 above))

  -- by the outcomes of the tests
  abbrev Decision : Type 0
  Decision = Malformed t ⊎ ((lists : EntryLists) × TableOf t lists × (EveryValue d lists ⊎ SomeBeyond d lists))

  module _ (small : Bytes t) where
    pub decided : Decision
    decided = by_form (form_wrong t) refl
      where
        by_value : TableOf t (lists_in t) → (h : Option ℕ) → HighestIn d h → (x : Bool) → value_beyond t h ≡ x → Decision
        by_value table h is false e = inr (lists_in t, table, inl ((every_value table h is).0 e))
        by_value table h is true e = inr (lists_in t, table, inr ((some_beyond table h is).0 e))

        by_offsets : form_wrong t ≡ false → (x : Bool) → offsets_wrong t ≡ x → Decision
        by_offsets form true e = inl (λ lists table. true≢false (sym e ∙ offsets_are table))
        by_offsets form false e = let (h, is) = (highest_value b).some_highest d image in by_value (table_of small ((form_right t).0 form) ((offsets_right t).0 e)) h is (value_beyond t h) refl

        by_form : (x : Bool) → form_wrong t ≡ x → Decision
        by_form true e = inl (λ lists table. true≢false (sym e ∙ form_is table))
        by_form false e = by_offsets e (offsets_wrong t) refl

    pub malformed : Malformed t → table_verdict_of b t ≡ record { refusal = 26; entries = 0 }
    unfolding refuse_if unless_refused
    malformed wrong = verdict_by b t 26 (let (h, is) = (highest_value b).some_highest d image in refusal_is h is ∙ by_form (value_beyond t h) (form_wrong t) (offsets_wrong t) refl refl)
      where
        by_form : (z x y : Bool) → form_wrong t ≡ x → offsets_wrong t ≡ y → refuse_if x 26 (refuse_if y 26 (refuse_if z 27 0)) ≡ 26
        by_form z true y e f = refl
        by_form z false true e f = refl
        by_form z false false e f = absurd (wrong (lists_in t) (table_of small ((form_right t).0 e) ((offsets_right t).0 f)))
