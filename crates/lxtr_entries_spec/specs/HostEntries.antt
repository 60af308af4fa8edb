-- Not in document 02: the check of a table and the lookup of entries as a host program in C has them, each answering one 64-bit number.
use Rattle.std.specs.Prelude.{ℕ, List, [], ◌∷◌, false}
use Rattle.lxtr_spec.specs.Refusals.{unless_refused}
use Rattle.lxtr_spec.specs.HostNumbers.{host_number, at_front}
use Rattle.lxtr_entries_spec.specs.EntryTables.{table_verdict_of}
use Rattle.lxtr_entries_spec.specs.EntryLookups.{Located, located_of}

-- The check: how many entries the table has.
unfoldable pub table_number : List ℕ → List ℕ → ℕ
table_number b t = host_number (table_verdict_of b t).refusal false false (table_verdict_of b t).entries

-- The lookup: how many entries the part has, plus 2^32 if the query has a value; word 0 of the lent words is the place of its first
-- entry among the entries. A refusal writes nothing.
pub record HostEntries : Type 0 where
  pub number : ℕ
  pub first : List ℕ

unfoldable pub host_located : List ℕ → Located → HostEntries
host_located first a =
    record {
      number = host_number a.refusal false a.valued a.count;
      first = unless_refused a.refusal (at_front (a.first ∷ []) first) first;
    }

unfoldable pub host_entries_of : List ℕ → List ℕ → List ℕ → List ℕ → HostEntries
host_entries_of b q t first = host_located first (located_of b q t)
