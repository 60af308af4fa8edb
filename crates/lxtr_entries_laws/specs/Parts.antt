-- The part that a lookup hands back is the one that is located, and it lies in the table: both go by the query's value, and a pair that
-- is not refused does not pass the entries.
use Rattle.std.specs.Prelude.{ℕ, zero, suc, ◌+◌, ◌*◌, ◌≤◌, ◌≡◌, refl, ◌≢◌, List, [], Bool, true, false, cond, length, eqb, Option, Some, None}
use Rattle.std.proofs.Common.{arith, ap, eqb-true, ne_eqb}
use Rattle.lxtr_spec.specs.Refusals.{refuse_if, unless_refused}
use Rattle.lxtr_spec.specs.Searches.{search_refusal}
use Rattle.lxtr_laws.specs.RefusalChains.{none_refused, none_first}
use Rattle.lxtr_entries_spec.specs.EntryTables.{entry_size, table_offset, entries_at, entry_bytes, own_count, value_bytes, form_wrong, pair_wrong, value_beyond}
use Rattle.lxtr_entries_spec.specs.EntryLookups.{query_value, pair_refusal, entries_refusal, part_for, EntriesAnswer, entries_of, Located, located_by, nowhere, located_of}
use Rattle.lxtr_entries_laws.specs.TableFacts.{pair_right, entries_within}

-- no entries have no bytes, wherever they begin
none_there : (t : List ℕ) (i j : ℕ) → entry_bytes t i 0 ≡ entry_bytes t j 0
unfolding entry_bytes
none_there t i j = refl

same_start : (t : List ℕ) (i n : ℕ) (e : Bool) → eqb n 0 ≡ e → entry_bytes t i n ≡ entry_bytes t (cond e 0 i) n
same_start t i n true h = let z = eqb-true n 0 h in rw z (none_there t i 0)
same_start t i n false h = refl

-- the part by where it lies
abbrev located_part : List ℕ → Located → EntriesAnswer
located_part t a = record { refusal = a.refusal; part = entry_bytes t a.first a.count }

by_value : (t : List ℕ) (o : Option ℕ) → ◌≡◌ {A = EntriesAnswer} (record { refusal = 0; part = part_for t o }) (located_part t (located_by t o))
unfolding part_for value_bytes located_by entry_bytes
by_value t None = refl
by_value t (Some v) = ap {B = EntriesAnswer} (λ (p : List ℕ). record { refusal = 0; part = p }) (same_start t (table_offset t v) (own_count t v) (eqb (own_count t v) 0) refl)

by_refusal : (t : List ℕ) (o : Option ℕ) (k : ℕ) → ◌≡◌ {A = EntriesAnswer} (record { refusal = k; part = unless_refused k (part_for t o) [] }) (located_part t (unless_refused k (located_by t o) (nowhere k)))
unfolding unless_refused nowhere entry_bytes
by_refusal t o zero = by_value t o
by_refusal t o (suc k) = refl

pub same_part : (b q t : List ℕ) → entries_of b q t ≡ located_part t (located_of b q t)
unfolding entries_of located_of
same_part b q t = by_refusal t (query_value b q) (entries_refusal b q t)

-- ---- it lies in the table

own_end : (t : List ℕ) (v : ℕ) → table_offset t v ≤ table_offset t (v + 1) → table_offset t v + own_count t v ≡ table_offset t (v + 1)
unfolding own_count
own_end t v h = omega arith

pair_within : (t : List ℕ) (o : Option ℕ) → form_wrong t ≡ false → pair_refusal t o ≡ 0 → (located_by t o).count ≢ 0
    → entries_at t + entry_size * ((located_by t o).first + (located_by t o).count) ≤ length t
unfolding pair_refusal located_by
pair_within t None formed right more = absurd (more refl)
pair_within t (Some v) formed right more =
    let pair = (pair_right t v).0 ((none_refused (pair_wrong t v) 26 0 refl).0 right).0 in
    rw (ne_eqb (own_count t v) 0 more, own_end t v pair.0) (entries_within t formed (table_offset t (v + 1)) pair.1)

-- the lookup refuses nothing: neither the form nor the pair is wrong
none_wrong : (b q t : List ℕ) → entries_refusal b q t ≡ 0 → (form_wrong t ≡ false) × (pair_refusal t (query_value b q) ≡ 0)
unfolding entries_refusal
none_wrong b q t e =
    let o = query_value b q in
    let values = refuse_if (value_beyond t o) 27 (pair_refusal t o) in
    let form = (none_refused (form_wrong t) 26 values refl).0 ((none_first (search_refusal b q) (refuse_if (form_wrong t) 26 values)).0 e).1 in
    (form.0, ((none_refused (value_beyond t o) 27 (pair_refusal t o) refl).0 form.1).1)

-- the part a lies in the table, whose form is right
abbrev pub LiesIn : List ℕ → Located → Type 0
LiesIn t a = (form_wrong t ≡ false) × (entries_at t + entry_size * (a.first + a.count) ≤ length t)

within_by : (t : List ℕ) (o : Option ℕ) (k : ℕ) → (k ≡ 0 → (form_wrong t ≡ false) × (pair_refusal t o ≡ 0)) → (unless_refused k (located_by t o) (nowhere k)).count ≢ 0
    → LiesIn t (unless_refused k (located_by t o) (nowhere k))
unfolding unless_refused nowhere
within_by t o zero fine more = let right = fine refl in (right.0, pair_within t o right.0 right.1 more)
within_by t o (suc k) fine more = absurd (more refl)

pub located_within : (b q t : List ℕ) → (located_of b q t).count ≢ 0 → LiesIn t (located_of b q t)
unfolding located_of
located_within b q t = within_by t (query_value b q) (entries_refusal b q t) (none_wrong b q t)
