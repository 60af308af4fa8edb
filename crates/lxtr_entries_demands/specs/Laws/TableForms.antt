-- The form of lists read back: version, V, offsets and entries are found where the definitions read them.
-- V and the offsets are one row of numbers behind the version byte, and number j of a row reads back.
use Prim.Native.Nat.{ℕ, suc, ◌+◌, ◌*◌, ◌≤◌, ◌<◌, ◌^◌}
use Rattle.std.proofs.Math.Nat.{zero-add}
use native.Mathlib.Omega.{arith}
use Rattle.std.specs.Prelude.{◌≡◌, refl, false, drop}
use Rattle.std.proofs.Math.Path.{sym, ap}
use Rattle.std.proofs.Common.{◌∙◌, subst, drop_at, ext_get_or}
use mathlib.Core.List.{List, [], ◌∷◌, ◌++◌, append_assoc, append-nil, flatten}
use Rattle.std.proofs.Math.ListN.{length, get_or, take, length-append}
use Rattle.std.proofs.Math.Seq.{take_at}
use Rattle.lxtr_spec.specs.Numbers.{be32, be_bytes, be_words}
use Rattle.lxtr_laws.specs.Lengths.{words_length}
use Rattle.lxtr_laws.specs.ReadBack.{be_past, be_words_lem}
use Rattle.lxtr_entries_spec.specs.EntryTables.{table_version, value_count, table_offsets_at, table_offset, entries_at, entry_size, entry_count, entry_bytes, own_count, value_bytes, form_wrong, pair_wrong, offsets_wrong}
use Rattle.lxtr_entries_laws.specs.TableFacts.{form_right, offsets_right, pair_right}
use Rattle.lxtr_entries_demands.specs.EntryDemand.{Entry, EntryLists, offsets_of, table_bytes, TableOf, ListAt}
use Rattle.lxtr_entries_demands.specs.Laws.CutEntries.{flatten_append, Sized, sized_front, sized_rest, cut_entries, joined_size, joined_cut}
use Rattle.lxtr_entries_demands.specs.Laws.ListsAt.{list_here, offsets_count, offset_after, next_parts, next_count}

-- V and the offsets
abbrev pub head_words : EntryLists → List ℕ
head_words lists = length lists ∷ offsets_of 0 lists

pub table_row : (lists : EntryLists) → table_bytes lists ≡ 1 ∷ (be_words (head_words lists) ++ flatten (flatten lists))
unfolding table_bytes be_words
table_row lists = ap (λ (l : List ℕ). 1 ∷ l) (sym (append_assoc (be_bytes (length lists)) (be_words (offsets_of 0 lists)) (flatten (flatten lists))))

module _ {t : List ℕ} {lists : EntryLists} (is : TableOf t lists) where
  row : t ≡ 1 ∷ (be_words (head_words lists) ++ flatten (flatten lists))
  row = is.form ∙ table_row lists

  number : (j : ℕ) → j < length (head_words lists) → get_or (head_words lists) j 0 < 2 ^ 32 → be32 t (1 + 4 * j) ≡ get_or (head_words lists) j 0
  number j h l =
      ap (λ (b : List ℕ). be32 b (1 + 4 * j)) row ∙ be_past (1 ∷ []) (be_words (head_words lists) ++ flatten (flatten lists)) (4 * j)
      ∙ be_words_lem (head_words lists) (flatten (flatten lists)) j h l

  pub value_count_lem : value_count t ≡ length lists
  unfolding value_count
  value_count_lem = number 0 (omega arith) is.values_few

  offset_at : (before after : EntryLists) → lists ≡ before ++ after → table_offset t (length before) ≡ length (flatten before)
  unfolding table_offset
  offset_at before after parts =
      let place : table_offsets_at + 4 * length before ≡ 1 + 4 * suc (length before) = omega arith in
      let offset : get_or (offsets_of 0 lists) (length before) 0 ≡ length (flatten before) =
      ap (λ (l : EntryLists). get_or (offsets_of 0 l) (length before) 0) parts ∙ offset_after 0 before after ∙ zero-add (length (flatten before)) in
      let few = ap (λ (l : EntryLists). length (flatten l)) parts ∙ ap length (flatten_append before after) ∙ length-append (flatten before) (flatten after) in
      let within : suc (length before) < length (head_words lists) = omega (arith, offsets_count 0 lists, ap length parts, length-append before after) in
      ap (be32 t) place ∙ number (suc (length before)) within (omega (arith, few, offset, is.entries_few)) ∙ offset

  entries_at_lem : entries_at t ≡ length (1 ∷ be_words (head_words lists))
  unfolding entries_at
  entries_at_lem = omega (arith, value_count_lem, words_length (head_words lists), offsets_count 0 lists)

  size : length t ≡ entries_at t + entry_size * length (flatten lists)
  size = ap length row ∙ omega (arith, entries_at_lem, length-append (be_words (head_words lists)) (flatten (flatten lists)), joined_size (flatten lists) is.is_entry_size)

  pub entry_count_lem : entry_count t ≡ length (flatten lists)
  unfolding entry_count
  entry_count_lem = omega (arith, size)

  pub form_is : form_wrong t ≡ false
  unfolding table_version
  form_is = (form_right t).1 (record { version = ap (λ (b : List ℕ). get_or b 0 0) row; within = omega (arith, size); whole = omega (arith, size) })

  module _ {v n : ℕ} {es : List Entry} (at : ListAt lists v n es) where
    pub list_offset : table_offset t v ≡ n
    list_offset = ap (table_offset t) (sym at.place) ∙ offset_at at.before (es ∷ at.after) at.parts ∙ at.earlier

    next_offset : table_offset t (v + 1) ≡ n + length es
    next_offset =
        let place : v + 1 ≡ length (at.before ++ (es ∷ [])) = omega (arith, at.place, length-append at.before (es ∷ [])) in
        ap (table_offset t) place ∙ offset_at (at.before ++ (es ∷ [])) at.after (at.parts ∙ next_parts at.before es at.after)
        ∙ next_count at.before es ∙ ap (λ (k : ℕ). k + length es) at.earlier

    pub own_count_lem : own_count t v ≡ length es
    unfolding own_count
    own_count_lem = omega (arith, list_offset, next_offset)

    list_rises : table_offset t v ≤ table_offset t (v + 1)
    list_rises = omega (arith, list_offset, next_offset)

    -- the entries before the list, its own, and those after it
    entries_parts : flatten lists ≡ flatten at.before ++ (es ++ flatten at.after)
    unfolding flatten
    entries_parts = ap flatten at.parts ∙ flatten_append at.before (es ∷ at.after)

    entries_count : length (flatten lists) ≡ n + (length es + length (flatten at.after))
    entries_count = ap length entries_parts ∙ omega (arith, length-append (flatten at.before) (es ++ flatten at.after), length-append es (flatten at.after), at.earlier)

    pub pair_is : pair_wrong t v ≡ false
    pair_is = (pair_right t v).1 (list_rises, omega (arith, next_offset, entry_count_lem, entries_count))

    own_sized : Sized es
    own_sized = sized_front es (flatten at.after) (sized_rest (flatten at.before) (es ++ flatten at.after) (subst Sized entries_parts is.is_entry_size))

    before_sized : Sized (flatten at.before)
    before_sized = sized_front (flatten at.before) (es ++ flatten at.after) (subst Sized entries_parts is.is_entry_size)

    -- t in three parts: what comes before the list's entries, these, and the others
    front : List ℕ
    front = (1 ∷ be_words (head_words lists)) ++ flatten (flatten at.before)

    three_parts : t ≡ front ++ (flatten es ++ flatten (flatten at.after))
    unfolding front
    three_parts =
        row ∙ ap (λ (l : List Entry). 1 ∷ (be_words (head_words lists) ++ flatten l)) entries_parts
        ∙ ap (λ (l : List ℕ). 1 ∷ (be_words (head_words lists) ++ l)) (flatten_append (flatten at.before) (es ++ flatten at.after) ∙ ap (λ (l : List ℕ). flatten (flatten at.before) ++ l) (flatten_append es (flatten at.after)))
        ∙ sym (append_assoc (1 ∷ be_words (head_words lists)) (flatten (flatten at.before)) (flatten es ++ flatten (flatten at.after)))

    front_size : length front ≡ entries_at t + entry_size * n
    unfolding front
    front_size = omega (arith, entries_at_lem, length-append (1 ∷ be_words (head_words lists)) (flatten (flatten at.before)), joined_size (flatten at.before) before_sized, at.earlier)

    pub value_bytes_lem : value_bytes t v ≡ flatten es
    unfolding value_bytes entry_bytes
    value_bytes_lem =
        rw (list_offset, own_count_lem)
        (ap (λ (l : List ℕ). take (entry_size * length es) (drop (entries_at t + entry_size * n) l)) three_parts
        ∙ ap (take (entry_size * length es)) (drop_at front (flatten es ++ flatten (flatten at.after)) (entries_at t + entry_size * n) front_size)
        ∙ take_at (flatten es) (flatten (flatten at.after)) (entry_size * length es) (joined_size es own_sized))

    list_cut : es ≡ cut_entries (own_count t v) (value_bytes t v)
    list_cut = sym (ap (λ (k : ℕ). cut_entries k (value_bytes t v)) own_count_lem ∙ ap (cut_entries (length es)) value_bytes_lem ∙ joined_cut es own_sized)

    -- an empty part has no entries
    pub none_joined : flatten es ≡ [] → es ≡ []
    none_joined e = none_of es (omega (arith, joined_size es own_sized, ap length e))
      where
        none_of : (fs : List Entry) → length fs ≡ 0 → fs ≡ []
        none_of [] z = refl
        none_of (f ∷ fs) z = absurd (omega arith)

  pub offsets_are : offsets_wrong t ≡ false
  unfolding flatten
  offsets_are = (offsets_right t).1 (record {
    first = offset_at [] lists refl;
    rises = λ v h. list_rises (list_here lists v (omega (arith, value_count_lem)));
    last = ap (table_offset t) value_count_lem ∙ offset_at lists [] (sym (append-nil lists)) ∙ sym entry_count_lem;
  })

-- the lists of a table are the only ones
pub one_table : (t : List ℕ) (lists others : EntryLists) → TableOf t lists → TableOf t others → lists ≡ others
one_table t lists others a c =
    let same : length lists ≡ length others = sym (value_count_lem a) ∙ value_count_lem c in
    ext_get_or [] lists others same (λ v h. list_cut a (list_here lists v h) ∙ sym (list_cut c (list_here others v (omega arith))))
