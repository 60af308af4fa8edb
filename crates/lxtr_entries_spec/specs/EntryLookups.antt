-- Document 02, request 7: the lookup of a query's entries, for all bytes as image, query and table.
use Rattle.std.specs.Prelude.{ℕ, List, [], Bool, true, false, cond, eqb, Option, Some, None, Result, Ok, Err}
use Rattle.lxtr_spec.specs.Refusals.{refuse_if, first_refusal, unless_refused}
use Rattle.lxtr_spec.specs.Searches.{search_refusal, case_value, lookup_of}
use Rattle.lxtr_entries_spec.specs.EntryTables.{entry_number, table_offset, own_count, value_bytes, form_wrong, pair_wrong, value_beyond}
use Rattle.lxtr_entries_spec.specs.declared.Entries.{Entries}
use Rattle.lxtr_entries_spec.specs.declared.EntryRefusal.{EntryRefusal}

-- the value of the query, or none
unfoldable pub query_value : List ℕ → List ℕ → Option ℕ
query_value b q = case_value (lookup_of b q).case

-- .. then its pair (26: falling or past the entries)
unfoldable pub pair_refusal : List ℕ → Option ℕ → ℕ
pair_refusal t None = 0
pair_refusal t (Some v) = refuse_if (pair_wrong t v) 26 0

-- Before them stand .. 1 to 8 and 13 for the lookup. The lookup tests version and length (26 ..), then 27, then its pair
unfoldable pub entries_refusal : List ℕ → List ℕ → List ℕ → ℕ
entries_refusal b q t =
    let value = query_value b q in
    let later = refuse_if (form_wrong t) 26 (refuse_if (value_beyond t value) 27 (pair_refusal t value)) in
    first_refusal (search_refusal b q) later

-- A lookup takes image, query and table and hands back that part of the lent table, an empty part where there are none or the query
-- has no value.
unfoldable pub part_for : List ℕ → Option ℕ → List ℕ
part_for t None = []
part_for t (Some v) = value_bytes t v

-- a refused lookup gives an empty part
pub record EntriesAnswer : Type 0 where
  pub refusal : ℕ
  pub part : List ℕ

unfoldable pub entries_of : List ℕ → List ℕ → List ℕ → EntriesAnswer
entries_of b q t = let part = part_for t (query_value b q) in record { refusal = entries_refusal b q t; part = unless_refused (entries_refusal b q t) part [] }

-- where a part of the table lies
pub record Located : Type 0 where
  pub refusal : ℕ
  pub valued : Bool
  pub first : ℕ
  pub count : ℕ

-- Not in document 02: where that part lies, for a caller that cannot be handed a part of the table. The place of its first entry
-- among the entries, 0 if it has none, and how many it has; and whether the query has a value, which an empty part does not tell.
unfoldable pub located_by : List ℕ → Option ℕ → Located
located_by t None = record { refusal = 0; valued = false; first = 0; count = 0 }
located_by t (Some v) = record { refusal = 0; valued = true; first = cond (eqb (own_count t v) 0) 0 (table_offset t v); count = own_count t v }

unfoldable pub nowhere : ℕ → Located
nowhere k = record { refusal = k; valued = false; first = 0; count = 0 }

unfoldable pub located_of : List ℕ → List ℕ → List ℕ → Located
located_of b q t = let there = located_by t (query_value b q) in unless_refused (entries_refusal b q t) there (nowhere (entries_refusal b q t))

-- the same of the code's answer: a refusal, or the entries if the query has a value
abbrev pub located_in : Result (Option Entries) EntryRefusal → Located
located_in (Err r) = nowhere (entry_number r)
located_in (Ok None) = record { refusal = 0; valued = false; first = 0; count = 0 }
located_in (Ok (Some e)) = record { refusal = 0; valued = true; first = e.first; count = e.count }
