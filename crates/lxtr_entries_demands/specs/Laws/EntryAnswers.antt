-- The lookups over an image and a table: the value of the query is what the set says, and the list of that value reads back.
-- So there are three outcomes: the list of the value, no value, and a value that has no list.
use Rattle.std.specs.Prelude.{ℕ, suc, ◌%◌, ◌≤◌, ◌<◌, ◌≡◌, ◌⊎◌, ◌↔◌, true, false, cond, eqb, take, Option, Some, None}
use Rattle.std.proofs.Common.{arith, sym, ◌∙◌, inl, ne_eqb, le-leb}
use Rattle.std.proofs.Math.Decide.{dec_lt}
use Rattle.std.proofs.Math.Path.{refl, ap}
use Rattle.std.proofs.Math.Logic.{inr, ⊎_elim}
use mathlib.Core.List.{List, [], ◌∷◌, flatten}
use Rattle.std.proofs.Math.ListN.{length}
use Rattle.std.proofs.lemmas.Bool.{lt-leb}
use Rattle.lxtr_spec.specs.Labels.{labels_of}
use Rattle.lxtr_spec.specs.Refusals.{refuse_if, first_refusal, unless_refused}
use Rattle.lxtr_spec.specs.Searches.{search_refusal, lookup_of}
use Rattle.lxtr_spec.specs.Sets.{PairSet, Has, ImageOf}
use Rattle.lxtr_demands.specs.Laws.Demand2.{demand2}
use Rattle.lxtr_entries_spec.specs.EntryTables.{value_count, value_beyond}
use Rattle.lxtr_entries_spec.specs.EntryLookups.{EntriesAnswer, query_value, pair_refusal, entries_refusal, part_for, entries_of, located_by, nowhere, located_of}
use Rattle.lxtr_entries_demands.specs.EntryDemand.{Entry, EntryLists, TableOf, ListAt, EntriesAnswered, defined}
use Rattle.lxtr_entries_demands.specs.Laws.ListsAt.{list_here, list_below}
use Rattle.lxtr_entries_demands.specs.Laws.TableForms.{value_count_lem, form_is, list_offset, own_count_lem, pair_is, value_bytes_lem, none_joined}

-- both answers, by the query's value and the refusal
module _ (b q t : List ℕ) (o : Option ℕ) (value : query_value b q ≡ o) (k : ℕ) (refusal : entries_refusal b q t ≡ k) where
  entries_by : entries_of b q t ≡ record { refusal = k; part = unless_refused k (part_for t o) [] }
  unfolding entries_of
  entries_by = rw (refusal, value)

  located_by_lem : located_of b q t ≡ unless_refused k (located_by t o) (nowhere k)
  unfolding located_of
  located_by_lem = rw (refusal, value)

module _ {b : List ℕ} {d : PairSet} {t : List ℕ} {lists : EntryLists} (image : ImageOf b d) (table : TableOf t lists) (q : List ℕ) (whole : length q % 4 ≡ 0) where
  abbrev xs : List ℕ
  xs = labels_of q

  value_is : query_value b q ≡ d xs
  unfolding query_value
  value_is = (demand2 b d q image whole).searched.lookup_value.value

  passes : search_refusal b q ≡ 0
  unfolding lookup_of
  passes = (demand2 b d q image whole).searched.lookup_value.refusal

  refusal_is : (o : Option ℕ) → d xs ≡ o → entries_refusal b q t ≡ refuse_if (value_beyond t o) 27 (pair_refusal t o)
  unfolding entries_refusal first_refusal refuse_if
  refusal_is o e = rw (passes, value_is, e, form_is table)

  -- the three outcomes
  found : (v n : ℕ) (es : List Entry) → Has d xs v → ListAt lists v n es → entries_refusal b q t ≡ 0
  unfolding value_beyond pair_refusal refuse_if
  found v n es has at = refusal_is (Some v) has ∙ rw (lt-leb (value_count t) v (omega (arith, value_count_lem table, list_below at)), pair_is table at)

  missing : d xs ≡ None → entries_refusal b q t ≡ 0
  unfolding value_beyond pair_refusal refuse_if
  missing e = refusal_is None e

  beyond : (v : ℕ) → Has d xs v → length lists ≤ v → entries_refusal b q t ≡ 27
  unfolding value_beyond refuse_if
  beyond v has above = refusal_is (Some v) has ∙ rw (le-leb (value_count t) v (omega (arith, value_count_lem table)))

  entries_found : (v n : ℕ) (es : List Entry) → Has d xs v → ListAt lists v n es → entries_of b q t ≡ record { refusal = 0; part = flatten es }
  unfolding unless_refused part_for
  entries_found v n es has at = entries_by b q t (Some v) (value_is ∙ has) 0 (found v n es has at) ∙ rw (value_bytes_lem table at)

  entries_missing : d xs ≡ None → entries_of b q t ≡ record { refusal = 0; part = [] }
  unfolding unless_refused part_for
  entries_missing e = entries_by b q t None (value_is ∙ e) 0 (missing e)

  entries_beyond : (v : ℕ) → Has d xs v → length lists ≤ v → entries_of b q t ≡ record { refusal = 27; part = [] }
  unfolding unless_refused
  entries_beyond v has above = entries_by b q t (Some v) (value_is ∙ has) 27 (beyond v has above)

  located_at : (v n : ℕ) (es : List Entry) → Has d xs v → ListAt lists v n es
      → located_of b q t ≡ record { refusal = 0; valued = true; first = cond (eqb (length es) 0) 0 n; count = length es }
  unfolding unless_refused located_by
  located_at v n es has at = located_by_lem b q t (Some v) (value_is ∙ has) 0 (found v n es has at) ∙ rw (own_count_lem table at, list_offset table at)

  not_located : d xs ≡ None → located_of b q t ≡ record { refusal = 0; valued = false; first = 0; count = 0 }
  unfolding unless_refused located_by
  not_located e = located_by_lem b q t None (value_is ∙ e) 0 (missing e)

  located_beyond : (v : ℕ) → Has d xs v → length lists ≤ v → located_of b q t ≡ record { refusal = 27; valued = false; first = 0; count = 0 }
  unfolding unless_refused nowhere
  located_beyond v has above = located_by_lem b q t (Some v) (value_is ∙ has) 27 (beyond v has above)

  -- the query is no key, or its list is empty
  abbrev NoEntries : Type 0
  NoEntries = (d xs ≡ None) ⊎ ((v : ℕ) × (n : ℕ) × Has d xs v × ListAt lists v n [])

  abbrev part : EntriesAnswer → List ℕ
  part a = a.part

  empty : (entries_of b q t).refusal ≡ 0 → ((entries_of b q t).part ≡ []) ↔ NoEntries
  unfolding flatten
  empty accepted = (
    λ e. go e (d xs) refl,
    ⊎_elim (λ e. ap part (entries_missing e)) (λ (v, n, has, at). ap part (entries_found v n [] has at)),
  )
    where
      by_list : (entries_of b q t).part ≡ [] → (v : ℕ) → Has d xs v → Dec (v < length lists) → NoEntries
      by_list e v has (yes h) =
          let at = list_here lists v h in
          let none_there = none_joined table at (sym (ap part (entries_found v _ _ has at)) ∙ e) in
          inr (v, length (flatten (take v lists)), has, rw none_there at at)
      by_list e v has (no h) = absurd (omega (arith, accepted, ap (λ (a : EntriesAnswer). a.refusal) (entries_beyond v has (omega arith))))

      go : (entries_of b q t).part ≡ [] → (o : Option ℕ) → d xs ≡ o → NoEntries
      go e None f = inl f
      go e (Some v) f = by_list e v f (dec_lt v (length lists))

  pub entries_answered : EntriesAnswered defined b d t lists q xs
  entries_answered = record {
    entries = entries_found;
    no_key = entries_missing;
    beyond = entries_beyond;
    empty = empty;
    located = λ v n e es has at. located_at v n (e ∷ es) has at ∙ rw (ne_eqb (suc (length es)) 0 (λ z. omega (arith, z)));
    located_none = λ v n. located_at v n [];
    not_located = not_located;
    located_beyond = located_beyond;
  }
