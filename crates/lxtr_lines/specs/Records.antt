-- The records of a listing: a key as in a key list, then the value in four bytes.
use Rattle.std.specs.Prelude.{ℕ, ◌+◌, ◌*◌, ◌-◌, ◌≤◌, ◌<◌, ◌≡◌, List, Bool, true, false, ◌&&◌, not, length, take, drop, leb, ltb}
use native.Mathlib.Omega.{arith}
use Rattle.std.proofs.Math.Path.{refl, sym, ap}
use Rattle.std.proofs.Common.{◌∙◌}
use borrow.Author.Tests.{not-false}
use Rattle.std.proofs.Math.ListN.{get_or, length-drop}
use Rattle.std.proofs.Math.Seq.{length-take-le, get_or-take, get_or-drop, ext_get_or}
use Rattle.std.specs.Prelude.{Option, MatchOption}
use Rattle.lxtr_spec.specs.Numbers.{be32}
use Rattle.lxtr_spec.specs.Labels.{max_labels, labels_of, Pair}
use Rattle.lxtr_spec.specs.KeyLists.{key_length, key_label, key_at, next_key}
use Rattle.lxtr_laws.specs.RangeTests.{tests}
use Rattle.lxtr_laws.specs.QueryLabels.{label_count_lem, label_read}
use Rattle.lxtr_build_laws.specs.KeyListFacts.{WholeKey}
use Rattle.lxtr_build_laws.specs.KeyReading.{key_size, key_at_lem}
use Rattle.lxtr_lines.specs.declared.records.Record.{Record}
use Rattle.lxtr_lines.specs.declared.records.Records.{Records}

-- the pair of the record at a place, and the place after it
unfoldable pub record_pair : List ℕ → ℕ → Pair
record_pair b at = (key_at b at, be32 b (next_key b at))

unfoldable pub record_end : List ℕ → ℕ → ℕ
record_end b at = next_key b at + 4

-- the record lies wholly in the listing, and its key has no more labels than a key may have: as a test, and as facts
unfoldable pub is_whole_record : List ℕ → ℕ → Bool
is_whole_record b at = ltb at (length b) && (leb (key_length b at) max_labels && leb (record_end b at) (length b))

pub record WholeRecord (b : List ℕ) (at : ℕ) : Type 0 where
  pub key : WholeKey b at
  pub ends : next_key b at + 4 ≤ length b

module _ (b : List ℕ) (at : ℕ) where
  pub whole_record : is_whole_record b at ≡ true → WholeRecord b at
  unfolding is_whole_record record_end
  whole_record e = let f = simp tests at e in record { key = record { starts = f.0; ends = (let h = f.1.1 in omega arith); short = f.1.0 }; ends = f.1.1 }

  -- a test that was passed
  pub is_whole : (r : Bool) → r ≡ is_whole_record b at → not r ≡ false → is_whole_record b at ≡ true
  is_whole r e h = sym e ∙ not-false r h

  pub next_record : is_whole_record b at ≡ true → (at < length b) × (at < record_end b at)
  unfolding record_end next_key
  next_record e = let w = whole_record e in (w.key.starts, omega arith)

-- what a record holds
module _ (b : List ℕ) (at : ℕ) (whole : is_whole_record b at ≡ true) where
  pub record_starts : at < length b
  record_starts = (whole_record b at whole).key.starts

  module _ (next : ℕ) (is : next ≡ next_key b at) where
    pub value_place : next + 4 ≤ length b
    value_place = omega (arith, (whole_record b at whole).ends)

    pub labels_start : at + 1 ≤ next
    unfolding next_key
    labels_start = omega (arith, is)

    pub labels_inside : next ≤ length b
    labels_inside = omega (arith, value_place)

    pub start_fits : at + 1 ≤ length b
    start_fits = omega (arith, record_starts)

    part : List ℕ
    part = take (next - (at + 1)) (drop (at + 1) b)

    part_length : length part ≡ 4 * key_length b at
    unfolding part next_key
    part_length = length-take-le (next - (at + 1)) (drop (at + 1) b) (omega (arith, length-drop (at + 1) b, labels_inside)) ∙ omega (arith, is)

    part_byte : (i : ℕ) → i < 4 * key_length b at → get_or part i 0 ≡ get_or b (at + 1 + i) 0
    unfolding part next_key
    part_byte i h = get_or-take (next - (at + 1)) (drop (at + 1) b) i 0 (omega (arith, is)) ∙ get_or-drop (at + 1) b i 0

    part_label : (j : ℕ) → j < key_length b at → be32 part (4 * j) ≡ key_label b at j
    unfolding be32 key_label
    part_label j h =
        let place : (i : ℕ) → at + 1 + (4 * j + i) ≡ at + 1 + 4 * j + i = λ i. omega arith in
        let byte : (i : ℕ) → i < 4 → get_or part (4 * j + i) 0 ≡ get_or b (at + 1 + 4 * j + i) 0 = λ i l. part_byte (4 * j + i) (omega arith) ∙ ap (λ (k : ℕ). get_or b k 0) (place i) in
        rw (part_byte (4 * j) (omega arith), byte 1 (omega arith), byte 2 (omega arith), byte 3 (omega arith)) refl

    pub labels_read : labels_of (take (next - (at + 1)) (drop (at + 1) b)) ≡ (record_pair b at).0
    unfolding record_pair part
    labels_read =
        ext_get_or 0 (labels_of part) (key_at b at) (omega (arith, label_count_lem part, part_length, key_size b at)) (λ j l.
        let h : j < key_length b at = omega (arith, label_count_lem part, part_length) in
        sym (label_read part j l (be32 part (4 * j)) refl) ∙ part_label j h ∙ sym (key_at_lem b at j h))

    pub record_read : (v : ℕ) → v ≡ be32 b next → (labels_of (take (next - (at + 1)) (drop (at + 1) b)), v) ≡ record_pair b at
    unfolding record_pair
    record_read v e = rw (labels_read, e, is) refl

-- ---- the records one after the other: s, what is given, and t are the rest before, the record and the rest after

abbrev pub NextRecord : Records → Option Record → Records → Type 0
NextRecord s r t = MatchOption r (is_whole_record s.listing.now s.at ≡ false)
    (λ p. (is_whole_record s.listing.now s.at ≡ true) × ((labels_of p.labels.now, p.value) ≡ record_pair s.listing.now s.at) × (t.listing.now ≡ s.listing.now) × (t.at ≡ record_end s.listing.now s.at))
