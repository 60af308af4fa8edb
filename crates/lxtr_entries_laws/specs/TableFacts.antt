-- What holds of a table whose form is right: version and length fit, so that every offset up to offset V lies in it, and the entries of
-- a pair that is right do too. A table that the check accepts has such a form and such offsets.
use Rattle.std.specs.Prelude.{ℕ, ◌+◌, ◌*◌, ◌-◌, ◌%◌, ◌≤◌, ◌≡◌, refl, ◌↔◌, List, false, length, Option}
use Rattle.std.proofs.Common.{arith}
use Rattle.lxtr_spec.specs.Refusals.{refuse_if}
use Rattle.lxtr_spec.specs.HighestValues.{highest_of}
use Rattle.lxtr_laws.specs.RangeTests.{tests}
use Rattle.lxtr_laws.specs.RefusalChains.{none_refused, none_first}
use Rattle.lxtr_entries_spec.specs.EntryTables.{entry_size, table_version, value_count, table_offset, entries_at, entry_count, form_wrong, falls, pair_wrong, value_beyond, offsets_wrong, table_refusal}

-- version and length are right
pub record Formed (t : List ℕ) : Type 0 where
  pub version : table_version t ≡ 1
  pub within : entries_at t ≤ length t
  pub whole : (length t - entries_at t) % entry_size ≡ 0

-- the offsets start at 0, never fall and end at the entry count
pub record Rising (t : List ℕ) : Type 0 where
  pub first : table_offset t 0 ≡ 0
  pub rises : (i : ℕ) → i + 1 ≤ value_count t → table_offset t i ≤ table_offset t (i + 1)
  pub last : table_offset t (value_count t) ≡ entry_count t

module _ (t : List ℕ) where
  pub form_right : (form_wrong t ≡ false) ↔ Formed t
  unfolding form_wrong
  form_right = simp tests (λ p. record { version = p.0.0; within = p.0.1; whole = p.1 }, λ f. ((f.version, f.within), f.whole))

  pub offsets_right : (offsets_wrong t ≡ false) ↔ Rising t
  unfolding offsets_wrong falls
  offsets_right = simp tests (λ p. record { first = p.0.0; rises = λ i h. p.0.1 i (omega arith); last = p.1 }, λ r. ((r.first, λ i h. r.rises i (omega arith)), r.last))

  -- the pair of value v does not fall and does not pass the entries
  pub pair_right : (v : ℕ) → (pair_wrong t v ≡ false) ↔ ((table_offset t v ≤ table_offset t (v + 1)) × (table_offset t (v + 1) ≤ entry_count t))
  unfolding pair_wrong falls
  pair_right v = simp tests (λ p. p, λ p. p)

  module _ (formed : form_wrong t ≡ false) where
    pub has_head : 5 ≤ length t
    unfolding entries_at
    has_head = omega (arith, (form_right.0 formed).within)

    pub offset_within : (i : ℕ) → i ≤ value_count t → 5 + 4 * i + 4 ≤ length t
    unfolding entries_at
    offset_within i h = omega (arith, (form_right.0 formed).within)

    -- the entries begin in the table
    pub entries_start : entries_at t ≤ length t
    entries_start = (form_right.0 formed).within

    -- as many entries as there are lie in the table
    pub entries_within : (n : ℕ) → n ≤ entry_count t → entries_at t + entry_size * n ≤ length t
    unfolding entry_count
    entries_within n h = omega (arith, (form_right.0 formed).within)

-- 26 and 27 of the check, for an image with this highest value: those that come after the form, and all
abbrev pub offsets_refusal : List ℕ → Option ℕ → ℕ
offsets_refusal t highest = refuse_if (offsets_wrong t) 26 (refuse_if (value_beyond t highest) 27 0)

abbrev pub later_refusal : List ℕ → Option ℕ → ℕ
later_refusal t highest = refuse_if (form_wrong t) 26 (offsets_refusal t highest)

-- the check refuses nothing exactly when no fault is there
pub none_later : (t : List ℕ) (h : Option ℕ) → (later_refusal t h ≡ 0) ↔ ((form_wrong t ≡ false) × (offsets_wrong t ≡ false) × (value_beyond t h ≡ false))
none_later t h =
    let values = none_refused (value_beyond t h) 27 0 refl in
    let offsets = none_refused (offsets_wrong t) 26 (refuse_if (value_beyond t h) 27 0) refl in
    let form = none_refused (form_wrong t) 26 (offsets_refusal t h) refl in (
      λ e. let later = (form.0 e).1 in ((form.0 e).0, (offsets.0 later).0, (values.0 (offsets.0 later).1).0),
      λ p. form.1 (p.0, offsets.1 (p.1, values.1 (p.2, refl))),
    )

pub table_passes : (b t : List ℕ) → (table_refusal b t ≡ 0) ↔ (((highest_of b).refusal ≡ 0) × (later_refusal t (highest_of b).value ≡ 0))
unfolding table_refusal
table_passes b t = none_first (highest_of b).refusal (later_refusal t (highest_of b).value)
