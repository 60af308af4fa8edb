-- Document 02, request 7: the table of goods entries, which holds a list of entries for each value number, and its check.
use Rattle.std.specs.Prelude.{ℕ, ◌+◌, ◌*◌, ◌-◌, ◌/◌, ◌%◌, List, Bool, false, ◌||◌, not, length, take, drop, leb, ltb, eqb, Option, Some, None}
use Rattle.lxtr_spec.specs.Ranges.{any_below}
use Rattle.lxtr_spec.specs.Numbers.{byte_at, be32}
use Rattle.lxtr_spec.specs.Answers.{number}
use Rattle.lxtr_spec.specs.Refusals.{refuse_if, first_refusal, unless_refused}
use Rattle.lxtr_spec.specs.HighestValues.{highest_of}
use Rattle.lxtr_entries_spec.specs.declared.EntryRefusal.{EntryRefusal}
use Rattle.lxtr_entries_spec.specs.declared.EntryRefusal.TheVariants.{Image, TableMalformed, ValueBeyond}

-- A table in our form (version byte 1, V in four bytes, V+1 offsets of four, then entries of eight bytes, big-endian)
unfoldable pub table_version : List ℕ → ℕ
table_version t = byte_at t 0

-- V
unfoldable pub value_count : List ℕ → ℕ
value_count t = be32 t 1

-- where the offsets begin; offset i; where the entries begin
abbrev pub table_offsets_at : ℕ
table_offsets_at = 5

unfoldable pub table_offset : List ℕ → ℕ → ℕ
table_offset t i = be32 t (table_offsets_at + 4 * i)

unfoldable pub entries_at : List ℕ → ℕ
entries_at t = table_offsets_at + 4 * (value_count t + 1)

-- the number of bytes of an entry, and how many entries there are
abbrev pub entry_size : ℕ
entry_size = 8

unfoldable pub entry_count : List ℕ → ℕ
entry_count t = (length t - entries_at t) / entry_size

-- gives for value i the entries from offset i up to offset i+1: the bytes of n entries, starting at entry j; those of value v
unfoldable pub entry_bytes : List ℕ → ℕ → ℕ → List ℕ
entry_bytes t j n = take (entry_size * n) (drop (entries_at t + entry_size * j) t)

unfoldable pub own_count : List ℕ → ℕ → ℕ
own_count t v = table_offset t (v + 1) - table_offset t v

unfoldable pub value_bytes : List ℕ → ℕ → List ℕ
value_bytes t v = entry_bytes t (table_offset t v) (own_count t v)

-- the number of a refusal
abbrev pub entry_number : EntryRefusal → ℕ
entry_number (Image refusal) = number refusal
entry_number TableMalformed = 26
entry_number ValueBeyond = 27

-- version and length (26: too short for the offsets, or a rest not of whole entries). (A table that is too short for version and V
-- is too short for the offsets, whatever is read as V.)
unfoldable pub form_wrong : List ℕ → Bool
form_wrong t = not (eqb (table_version t) 1) || ltb (length t) (entries_at t) || not (eqb ((length t - entries_at t) % entry_size) 0)

-- (26: falling or past the entries)
unfoldable pub falls : List ℕ → ℕ → Bool
falls t v = ltb (table_offset t (v + 1)) (table_offset t v)

unfoldable pub pair_wrong : List ℕ → ℕ → Bool
pair_wrong t v = falls t v || ltb (entry_count t) (table_offset t (v + 1))

-- 27 value not below V
unfoldable pub value_beyond : List ℕ → Option ℕ → Bool
value_beyond t None = false
value_beyond t (Some v) = leb (value_count t) v

-- A checker first confirms that offsets start at 0, never fall and end at the entry count,
unfoldable pub offsets_wrong : List ℕ → Bool
offsets_wrong t = not (eqb (table_offset t 0) 0) || any_below (value_count t) (falls t) || not (eqb (table_offset t (value_count t)) (entry_count t))

-- and that every value in the image is below V. (It is enough to look at the highest value, if there is one.) Before them stand 1 to 12
-- for the checker. The checker gives 26 first.
unfoldable pub table_refusal : List ℕ → List ℕ → ℕ
table_refusal b t =
    let offsets = refuse_if (offsets_wrong t) 26 (refuse_if (value_beyond t (highest_of b).value) 27 0) in
    let form = refuse_if (form_wrong t) 26 offsets in
    first_refusal (highest_of b).refusal form

-- what the check of a table answers
pub record TableVerdict : Type 0 where
  pub refusal : ℕ
  pub entries : ℕ

-- The answer is the number of entries. A refusal answers 0.
unfoldable pub table_verdict_of : List ℕ → List ℕ → TableVerdict
table_verdict_of b t = record { refusal = table_refusal b t; entries = unless_refused (table_refusal b t) (entry_count t) 0 }
