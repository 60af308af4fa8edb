-- An entry table as the code reads it: version and length, values and offsets.
-- Results of calls are variables: each law says which definition equals what one return computes.
use Rattle.std.specs.Prelude.{ℕ, ◌+◌, ◌-◌, ◌%◌, ◌^◌, ◌≤◌, ◌<◌, ◌≡◌, List, true, false, not, length, ltb, eqb}
use Rattle.std.proofs.Common.{arith}
use Rattle.std.proofs.Math.Bool.{or-true}
use borrow.Author.Tests.{lt-ltb, le-ltb, ne_eqb}
use Rattle.lxtr_spec.specs.Ranges.{any_below}
use Rattle.lxtr_spec.specs.Numbers.{byte_at}
use Rattle.lxtr_laws.specs.Scans.{NoneSoFar, scan_start, scan_next, scan_hit, scan_end}
use Rattle.lxtr_entries_spec.specs.EntryTables.{entry_size, table_version, value_count, table_offset, entries_at, form_wrong, falls}

-- ---- version and length

module _ (t : List ℕ) where
  pub no_head : length t < 5 → true ≡ form_wrong t
  unfolding form_wrong entries_at
  no_head h = rw (lt-ltb (length t) (entries_at t) (omega arith), or-true)

  -- v is the version, s where the entries begin
  module _ (v : ℕ) (version : v ≡ byte_at t 0) where
    pub other_version : (v ≡ 1 → ⊥) → true ≡ form_wrong t
    unfolding form_wrong table_version
    other_version h = rw (← version, ne_eqb v 1 h)

    module _ (s : ℕ) (start : (s ≡ entries_at t) × (s < 2 ^ 35)) where
      pub no_offsets : length t < s → true ≡ form_wrong t
      unfolding form_wrong
      no_offsets h = rw (lt-ltb (length t) (entries_at t) (omega (arith, start.0)), or-true)

      pub rest_told : v ≡ 1 → s ≤ length t → not (eqb ((length t - s) % entry_size) 0) ≡ form_wrong t
      unfolding form_wrong table_version
      rest_told one h = rw (← version, one, ← start.0, le-ltb (length t) s h)

-- ---- offsets

-- the loop has come to offset i, whose number is `before`: none before it falls
pub record RisesSoFar (t : List ℕ) (count i before : ℕ) : Type 0 where
  pub none : NoneSoFar (falls t) i count
  pub last : before ≡ table_offset t i

module _ (t : List ℕ) (count : ℕ) where
  pub rises_start : (before : ℕ) → before ≡ table_offset t 0 → RisesSoFar t count 0 before
  rises_start before e = record { none = scan_start (falls t) count; last = e }

  module _ (i before : ℕ) (so_far : RisesSoFar t count i before) where
    module _ (next : ℕ) (turn : i < count) (read : next ≡ table_offset t (i + 1)) where
      here : ltb next before ≡ falls t i
      unfolding falls
      here = rw (read, so_far.last)

      pub rises_next : before ≤ next → RisesSoFar t count (i + 1) next
      rises_next h = record { none = scan_next (falls t) count i so_far.none (ltb next before) turn here (le-ltb next before h); last = read }

      pub rises_fails : next < before → count ≡ value_count t → true ≡ any_below (value_count t) (falls t)
      rises_fails h e = scan_hit (falls t) count i so_far.none (value_count t) e (ltb next before) turn here (lt-ltb next before h)

    pub rises_all : count ≤ i → count ≡ value_count t → false ≡ any_below (value_count t) (falls t)
    rises_all h e = scan_end (falls t) count i so_far.none (value_count t) e h
