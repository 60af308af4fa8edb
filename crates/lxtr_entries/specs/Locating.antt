-- Where the entries of a query lie, as the code finds it: first the refusals, then the pair of offsets. The part that is handed back
-- lies there. Results of calls are variables: each law says that what one return computes is the definition's answer.
use Rattle.std.specs.Prelude.{ℕ, ◌+◌, ◌*◌, ◌-◌, ◌≤◌, ◌<◌, ◌≡◌, ◌≢◌, List, [], Result, Ok, Err, Bool, true, false, ◌||◌, cond, length, ltb, eqb, Some, None, Option}
use Rattle.std.proofs.Common.{arith, ◌∙◌, zero, suc, refl}
use Rattle.std.proofs.Math.Path.{sym, ap}
use borrow.Author.Tests.{lt-ltb, le-ltb, le-leb, lt-leb, eq-eqb, ne_eqb}
use Rattle.lxtr_spec.specs.Refusals.{refuse_if, first_refusal, unless_refused}
use Rattle.lxtr_spec.specs.Searches.{search_refusal, case_value, lookup_of}
use Rattle.lxtr_spec.specs.Searches.{Lookup}
use Rattle.lxtr_spec.specs.Answers.{number}
use Rattle.lxtr_spec.specs.declared.Case.{Case}
use Rattle.lxtr_spec.specs.declared.Case.TheVariants.{Neither}
use Rattle.lxtr_spec.specs.declared.refusals.Refusal.{Refusal}
use Rattle.lxtr_laws.specs.Failures.{number_not_0}
use Rattle.lxtr_laws.specs.RefusalChains.{first_stands}
use Rattle.lxtr_entries_spec.specs.declared.Entries.{Entries}
use Rattle.lxtr_entries_spec.specs.declared.EntryRefusal.{EntryRefusal}
use Rattle.lxtr_entries_spec.specs.EntryTables.{entry_number, entry_size, value_count, table_offset, entries_at, entry_count, entry_bytes, own_count, form_wrong, falls, pair_wrong, value_beyond}
use Rattle.lxtr_entries_spec.specs.EntryLookups.{query_value, pair_refusal, entries_refusal, EntriesAnswer, entries_of, located_by, nowhere, located_of}
use Rattle.lxtr_entries_spec.specs.EntryLookups.{Located}
use Rattle.lxtr_entries_laws.specs.TableFacts.{entries_start}
use Rattle.lxtr_entries_laws.specs.Parts.{same_part, LiesIn, located_within}

-- the place of the first entry, by whether there is one
module _ (first count : ℕ) where
  pub first_none : count ≡ 0 → 0 ≡ cond (eqb count 0) 0 first
  first_none h = rw (eq-eqb count 0 h)

  pub first_some : count ≢ 0 → first ≡ cond (eqb count 0) 0 first
  first_some h = rw (ne_eqb count 0 h)

-- the same of the code's answer for a query with a value: a refusal, or the entries
abbrev pub found_in : Result Entries EntryRefusal → Located
found_in (Err r) = nowhere (entry_number r)
found_in (Ok e) = record { refusal = 0; valued = true; first = e.first; count = e.count }

-- the refusals of image, query and the table's form
unfoldable pub asked_refusal : List ℕ → List ℕ → List ℕ → ℕ
asked_refusal b q t = first_refusal (search_refusal b q) (refuse_if (form_wrong t) 26 0)

-- the answer for a value whose offset is `from` and whose next offset is `to`, if both can be read
abbrev pub pair_refused : List ℕ → ℕ → ℕ → ℕ
pair_refused t from to = refuse_if (ltb to from || ltb (entry_count t) to) 26 0

abbrev pub pair_answer : ℕ → ℕ → Located
pair_answer from to = record { refusal = 0; valued = true; first = cond (eqb (to - from) 0) 0 from; count = to - from }

abbrev pub located_pair : List ℕ → ℕ → ℕ → Located
located_pair t from to = unless_refused (pair_refused t from to) (pair_answer from to) (nowhere (pair_refused t from to))

module _ (t : List ℕ) (from to : ℕ) where
  pub pair_falls : (r : Located) → to < from → r ≡ nowhere 26 → r ≡ located_pair t from to
  unfolding refuse_if unless_refused
  pair_falls r h e = rw (lt-ltb to from h) e

  -- m is the number of entries
  module _ (rises : from ≤ to) (m : ℕ) (entries : m ≡ entry_count t) where
    pub pair_past : (r : Located) → m < to → r ≡ nowhere 26 → r ≡ located_pair t from to
    unfolding refuse_if unless_refused
    pair_past r h e = rw (le-ltb to from rises, ← entries, lt-ltb m to h) e

    pub pair_told : (p : ℕ) → to ≤ m → p ≡ cond (eqb (to - from) 0) 0 from
        → ◌≡◌ {A = Located} (record { refusal = 0; valued = true; first = p; count = to - from }) (located_pair t from to)
    unfolding refuse_if unless_refused
    pair_told p h e = rw (le-ltb to from rises, ← entries, le-ltb m to h, e)

-- the answer for a query with value v, if the table's form is right: 27, then the pair
abbrev pub value_refusal : List ℕ → ℕ → ℕ
value_refusal t v = refuse_if (value_beyond t (Some v)) 27 (pair_refusal t (Some v))

abbrev pub located_value : List ℕ → ℕ → Located
located_value t v = unless_refused (value_refusal t v) (located_by t (Some v)) (nowhere (value_refusal t v))

-- n is V
module _ (t : List ℕ) (v n : ℕ) (count : n ≡ value_count t) where
  pub value_refused : (r : Located) → n ≤ v → r ≡ nowhere 27 → r ≡ located_value t v
  unfolding value_beyond refuse_if unless_refused
  value_refused r h e = rw (le-leb (value_count t) v (omega arith)) e

  pub pair_read : v < n → (from to : ℕ) (r : Located) → from ≡ table_offset t v → to ≡ table_offset t (v + 1) → r ≡ located_pair t from to → r ≡ located_value t v
  unfolding value_beyond pair_refusal pair_wrong falls refuse_if located_by own_count
  pair_read below from to r first next e = rw (lt-leb (value_count t) v (omega arith), ← first, ← next) e

-- ---- the refusals of image, query and form

module _ (b q t : List ℕ) where
  -- e is the refusal of the lookup
  pub ask_refused : (e : Refusal) → ◌≡◌ {A = Lookup} (record { refusal = number e; case = Neither }) (lookup_of b q) → number e ≡ asked_refusal b q t
  unfolding asked_refusal lookup_of
  ask_refused e known = rw (← ap (λ (l : Lookup). l.refusal) known) (sym (first_stands (number e) (refuse_if (form_wrong t) 26 0) (number_not_0 e)))

  -- a is the case that the lookup found
  module _ (a : Case) (known : ◌≡◌ {A = Lookup} (record { refusal = 0; case = a }) (lookup_of b q)) where
    pub ask_told : (k : ℕ) → k ≡ refuse_if (form_wrong t) 26 0 → k ≡ asked_refusal b q t
    unfolding asked_refusal lookup_of first_refusal
    ask_told k e = rw (← ap (λ (l : Lookup). l.refusal) known) e

    pub ask_value : case_value a ≡ query_value b q
    unfolding query_value
    ask_value = ap (λ (l : Lookup). case_value l.case) known

-- ---- where the entries lie

stops_by : (n : ℕ) (w : Bool) (later k : ℕ) (there : Located) → k ≡ first_refusal n (refuse_if w 26 0) → k ≢ 0
    → nowhere k ≡ unless_refused (first_refusal n (refuse_if w 26 later)) there (nowhere (first_refusal n (refuse_if w 26 later)))
unfolding first_refusal refuse_if unless_refused
stops_by zero true later k there e h = rw e
stops_by zero false later k there e h = absurd (h e)
stops_by (suc n) w later k there e h = rw e

goes_by : (n : ℕ) (w : Bool) (later : ℕ) → 0 ≡ first_refusal n (refuse_if w 26 0) → (w ≡ false) × (first_refusal n (refuse_if w 26 later) ≡ later)
unfolding first_refusal refuse_if
goes_by zero true later e = absurd (omega arith)
goes_by zero false later e = (refl, refl)
goes_by (suc n) w later e = absurd (omega arith)

starts_at_0 : (t : List ℕ) (o : Option ℕ) (k : ℕ) → (unless_refused k (located_by t o) (nowhere k)).count ≡ 0 → (unless_refused k (located_by t o) (nowhere k)).first ≡ 0
unfolding unless_refused located_by nowhere
starts_at_0 t None zero h = refl
starts_at_0 t (Some v) zero h = rw (eq-eqb (own_count t v) 0 h)
starts_at_0 t o (suc k) h = refl

module _ (b q t : List ℕ) where
  pub ask_stops : (k : ℕ) → k ≡ asked_refusal b q t → k ≢ 0 → nowhere k ≡ located_of b q t
  unfolding asked_refusal located_of entries_refusal
  ask_stops k e h = stops_by (search_refusal b q) (form_wrong t) (refuse_if (value_beyond t (query_value b q)) 27 (pair_refusal t (query_value b q))) k (located_by t (query_value b q)) e h

  module _ (fine : 0 ≡ asked_refusal b q t) where
    pub form_known : form_wrong t ≡ false
    unfolding asked_refusal
    form_known = (goes_by (search_refusal b q) (form_wrong t) 0 fine).0

    refusal_left : entries_refusal b q t ≡ refuse_if (value_beyond t (query_value b q)) 27 (pair_refusal t (query_value b q))
    unfolding asked_refusal entries_refusal
    refusal_left = (goes_by (search_refusal b q) (form_wrong t) (refuse_if (value_beyond t (query_value b q)) 27 (pair_refusal t (query_value b q))) fine).1

    pub no_value : None ≡ query_value b q → ◌≡◌ {A = Located} (record { refusal = 0; valued = false; first = 0; count = 0 }) (located_of b q t)
    unfolding located_of unless_refused value_beyond pair_refusal located_by refuse_if
    no_value h = rw (refusal_left, ← h)

    pub value_located : (v : ℕ) (r : Located) → Some v ≡ query_value b q → r ≡ located_value t v → r ≡ located_of b q t
    unfolding located_of
    value_located v r h e = rw (refusal_left, ← h) e

  -- a is where the part lies
  module _ (a : Located) (known : a ≡ located_of b q t) where
    pub entries_told : (part : List ℕ) → part ≡ entry_bytes t a.first a.count → ◌≡◌ {A = EntriesAnswer} (record { refusal = a.refusal; part = part }) (entries_of b q t)
    entries_told part e = sym (same_part b q t ∙ rw (← known, e))

    first_of_none : a.count ≡ 0 → a.first ≡ 0
    unfolding located_of
    first_of_none h = rw known (starts_at_0 t (query_value b q) (entries_refusal b q t) (rw known at h))

    pub part_within : form_wrong t ≡ false → entries_at t + entry_size * (a.first + a.count) ≤ length t
    part_within formed = go a.count refl
      where
        go : (n : ℕ) → a.count ≡ n → entries_at t + entry_size * (a.first + n) ≤ length t
        go zero z = rw (first_of_none z) (omega (arith, entries_start t formed))
        go (suc n) z =
            let some : a.count ≢ 0 = omega arith in
            let lies : LiesIn t a = rw known (located_within b q t (rw known at some)) in
            rw (← z) lies.1

  -- after a refusal
  pub no_part : (k : ℕ) → nowhere k ≡ located_of b q t → ◌≡◌ {A = EntriesAnswer} (record { refusal = k; part = [] }) (entries_of b q t)
  unfolding nowhere entry_bytes
  no_part k known = entries_told (nowhere k) known [] refl
