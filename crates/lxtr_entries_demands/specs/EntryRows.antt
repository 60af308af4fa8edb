-- Rows of a table of examples for entry tables: what is run on the definitions, and what it has to give.
use Rattle.std.specs.Prelude.{ℕ, ◌+◌, ◌*◌, ◌^◌, ◌≡◌, true, false, length}
use mathlib.Core.List.{List, [], ◌∷◌, flatten}
use Rattle.lxtr_spec.specs.Numbers.{be_words}
use Rattle.lxtr_laws.specs.ExampleTables as tables
pub use Rattle.lxtr_laws.specs.ExampleTables.{◌and◌}
use Rattle.lxtr_demands.specs.Rows.{computing}
use Rattle.lxtr_entries_spec.specs.EntryTables.{table_version, value_count, table_offset, entries_at, entry_count, entry_bytes, own_count, value_bytes, form_wrong, falls, pair_wrong, value_beyond, offsets_wrong, table_refusal, table_verdict_of}
use Rattle.lxtr_entries_spec.specs.EntryLookups.{query_value, pair_refusal, entries_refusal, part_for, entries_of, located_by, nowhere, located_of}
use Rattle.lxtr_entries_spec.specs.HostEntries.{table_number, host_located, host_entries_of}
use Rattle.lxtr_entries_demands.specs.EntryDemand.{Entry, EntryLists, offsets_of, table_bytes}

-- What is run, and what it gives. A query is given by its labels, or where its length matters by its bytes.
pub data Example : Type 0 where
  -- lists of entries, the bytes of their table
  form : EntryLists → List ℕ → Example
  -- image, table, the number of entries; and the refusal of the check
  accepted : List ℕ → List ℕ → ℕ → Example
  refused : List ℕ → List ℕ → ℕ → Example
  -- image, labels of a key, table; the place of its first entry, and its entries
  finds : List ℕ → List ℕ → List ℕ → ℕ → List Entry → Example
  -- image, labels that are no key, table
  no_key : List ℕ → List ℕ → List ℕ → Example
  -- image, bytes of a query, table; the refusal of the lookup
  not_looked_up : List ℕ → List ℕ → List ℕ → ℕ → Example
  -- for a host program in C: image, labels, table, lent words; number, words afterwards
  host_words : List ℕ → List ℕ → List ℕ → List ℕ → ℕ → List ℕ → Example

-- lent words that show where nothing was written
abbrev unset : List ℕ
unset = 7 ∷ 7 ∷ []

-- what an example says about the answers, the numbers for the host program and the lent words
abbrev pub Holds : Example → Type 0
Holds (form lists bytes) = table_bytes lists ≡ bytes
Holds (accepted b t n) = (table_verdict_of b t ≡ record { refusal = 0; entries = n }) × (table_number b t ≡ n)
Holds (refused b t k) = (table_verdict_of b t ≡ record { refusal = k; entries = 0 }) × (table_number b t ≡ k * 2 ^ 40)
Holds (finds b xs t first es) =
    (entries_of b (be_words xs) t ≡ record { refusal = 0; part = flatten es })
    × (located_of b (be_words xs) t ≡ record { refusal = 0; valued = true; first = first; count = length es })
    × (host_entries_of b (be_words xs) t unset ≡ record { number = 2 ^ 32 + length es; first = first ∷ 7 ∷ [] })
Holds (no_key b xs t) =
    (entries_of b (be_words xs) t ≡ record { refusal = 0; part = [] })
    × (located_of b (be_words xs) t ≡ record { refusal = 0; valued = false; first = 0; count = 0 })
    × (host_entries_of b (be_words xs) t unset ≡ record { number = 0; first = 0 ∷ 7 ∷ [] })
Holds (not_looked_up b q t k) =
    (entries_of b q t ≡ record { refusal = k; part = [] }) × (located_of b q t ≡ record { refusal = k; valued = false; first = 0; count = 0 })
    × (host_entries_of b q t unset ≡ record { number = k * 2 ^ 40; first = unset })
Holds (host_words b xs t lent number words) = host_entries_of b (be_words xs) t lent ≡ record { number = number; first = words }

-- every row of a table holds
abbrev pub AllHold : List Example → Type 0
AllHold es = tables.AllHold Holds es

-- every definition that a row runs, those of the library too
unfoldable pub entries_computing : Unit {0}
unfolding computing flatten table_version value_count table_offset entries_at entry_count entry_bytes own_count value_bytes form_wrong falls pair_wrong value_beyond offsets_wrong table_refusal table_verdict_of query_value pair_refusal entries_refusal part_for entries_of located_by nowhere located_of table_number host_located host_entries_of offsets_of table_bytes
entries_computing = tt
