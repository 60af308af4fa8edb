-- A table without fault has lists: for each value, its bytes cut into entries. The offsets rise, so these lists have them as their
-- offsets, and joined they are all that lies behind the offsets.
use Prim.Native.Nat.{ℕ, zero, suc, ◌+◌, ◌*◌, ◌≤◌, ◌<◌, ◌^◌}
use Rattle.std.proofs.Common.{zero-add, add-zero, ◌∙◌, get_or-drop}
use Rattle.std.proofs.Math.Decide.{dec_lt}
use native.Mathlib.Omega.{arith}
use Rattle.std.specs.Prelude.{◌≡◌, refl}
use Rattle.std.proofs.Math.Path.{sym, ap, ap₂}
use Rattle.std.proofs.Math.Logic.{⊎_elim}
use mathlib.Core.List.Memᴰ
use mathlib.Core.List.{List, [], ◌∷◌, ◌++◌, append_assoc, append-nil, flatten}
use Rattle.std.proofs.Math.ListN.{length, get_or, drop, length-drop, take-append-drop, drop_of_length-le, get_or-eq_default}
use Rattle.std.proofs.Math.Seq.{length-take-le, drop-drop}
use Rattle.lxtr_spec.specs.Numbers.{byte_at, be32, be_words}
use Rattle.lxtr_laws.specs.ReadBack.{be_past, be_back}
use Rattle.lxtr_demands.specs.Operations.{Bytes}
use Rattle.lxtr_entries_spec.specs.EntryTables.{table_version, value_count, table_offsets_at, table_offset, entries_at, entry_size, entry_count, entry_bytes, own_count, value_bytes}
use Rattle.lxtr_entries_laws.specs.TableFacts.{Formed, Rising}
use Rattle.lxtr_entries_demands.specs.EntryDemand.{Entry, EntryLists, offsets_of, TableOf}
use Rattle.lxtr_entries_demands.specs.Laws.CutEntries.{flatten_append, Sized, cut_entries, cut_count, cut_sized, cut_joined}
use Rattle.lxtr_entries_demands.specs.Laws.ListsAt.{offsets_count, offset_after}
use Rattle.lxtr_entries_demands.specs.Laws.TableForms.{head_words, table_row}

-- the lists of n values, starting at value i
unfoldable pub lists_from : List ℕ → ℕ → ℕ → EntryLists
lists_from t zero i = []
lists_from t (suc n) i = cut_entries (own_count t i) (value_bytes t i) ∷ lists_from t n (i + 1)

lists_count : (t : List ℕ) (n i : ℕ) → length (lists_from t n i) ≡ n
unfolding lists_from
lists_count t zero i = refl
lists_count t (suc n) i = ap suc (lists_count t n (i + 1))

module _ {t : List ℕ} (formed : Formed t) (rising : Rising t) where
  -- n values, starting at value i, are the last ones
  below_last : (n i : ℕ) → i + n ≡ value_count t → table_offset t i ≤ entry_count t
  below_last zero i e = let z : i ≡ value_count t = omega arith in rw z (omega (arith, rising.last))
  below_last (suc n) i e = omega (arith, rising.rises i (omega arith), below_last n (i + 1) (omega arith))

  size : length t ≡ entries_at t + entry_size * entry_count t
  unfolding entry_count
  size = omega (arith, formed.within, formed.whole)

  -- what lies behind offset i
  abbrev behind : ℕ → List ℕ
  behind i = drop (entries_at t + entry_size * table_offset t i) t

  module _ (n i : ℕ) (e : i + suc n ≡ value_count t) where
    next : table_offset t i + own_count t i ≡ table_offset t (i + 1)
    unfolding own_count
    next = omega (arith, rising.rises i (omega arith))

    bytes_size : length (value_bytes t i) ≡ entry_size * own_count t i
    unfolding value_bytes entry_bytes
    bytes_size = length-take-le (entry_size * own_count t i) (drop (entries_at t + entry_size * table_offset t i) t)
        (omega (arith, length-drop (entries_at t + entry_size * table_offset t i) t, size, next, below_last n (i + 1) (omega arith)))

    behind_next : drop (entry_size * own_count t i) (behind i) ≡ behind (i + 1)
    behind_next =
        let place : entries_at t + entry_size * table_offset t i + entry_size * own_count t i ≡ entries_at t + entry_size * table_offset t (i + 1) = omega (arith, next) in
        drop-drop (entry_size * own_count t i) (entries_at t + entry_size * table_offset t i) t ∙ ap (λ (k : ℕ). drop k t) place

  offsets_are : (n i : ℕ) → i + n ≡ value_count t → (j : ℕ) → j ≤ n → get_or (offsets_of (table_offset t i) (lists_from t n i)) j 0 ≡ table_offset t (i + j)
  unfolding offsets_of lists_from
  offsets_are zero i e zero h = rw (add-zero i)
  offsets_are zero i e (suc j) h = absurd (omega arith)
  offsets_are (suc n) i e zero h = rw (add-zero i)
  offsets_are (suc n) i e (suc j) h =
      let step : table_offset t i + length (cut_entries (own_count t i) (value_bytes t i)) ≡ table_offset t (i + 1) = omega (arith, cut_count (own_count t i) (value_bytes t i), next n i e) in
      let place : i + 1 + j ≡ i + suc j = omega arith in
      rw step (offsets_are n (i + 1) (omega arith) j (omega arith) ∙ ap (table_offset t) place)

  all_sized : (n i : ℕ) → i + n ≡ value_count t → Sized (flatten (lists_from t n i))
  unfolding lists_from flatten
  all_sized zero i e x m = absurd (Memᴰ.not-nil m)
  all_sized (suc n) i e x m = ⊎_elim
      (cut_sized (own_count t i) (value_bytes t i) (bytes_size n i e) x)
      (all_sized n (i + 1) (omega arith) x)
      (Memᴰ.append_cases (cut_entries (own_count t i) (value_bytes t i)) m)

  -- joined, they are what lies behind their first offset, up to the entries of later values
  joined : (n i : ℕ) → i + n ≡ value_count t → flatten (flatten (lists_from t n i)) ++ behind (i + n) ≡ behind i
  unfolding lists_from flatten value_bytes entry_bytes
  joined zero i e = rw (add-zero i)
  joined (suc n) i e =
      let es : List Entry = cut_entries (own_count t i) (value_bytes t i) in
      let others : List Entry = flatten (lists_from t n (i + 1)) in
      let place : i + suc n ≡ i + 1 + n = omega arith in
      let later : flatten others ++ behind (i + suc n) ≡ drop (entry_size * own_count t i) (behind i) =
      ap (λ (k : ℕ). flatten others ++ behind k) place ∙ joined n (i + 1) (omega arith) ∙ sym (behind_next n i e) in
      ap (λ (l : List ℕ). l ++ behind (i + suc n)) (flatten_append es others) ∙ append_assoc (flatten es) (flatten others) (behind (i + suc n))
      ∙ ap₂ (λ (k l : List ℕ). k ++ l) (cut_joined (own_count t i) (value_bytes t i) (bytes_size n i e)) later
      ∙ take-append-drop (entry_size * own_count t i) (behind i)

-- the lists of all values
abbrev pub lists_in : List ℕ → EntryLists
lists_in t = lists_from t (value_count t) 0

-- the first byte, and the rest
first_byte : (t : List ℕ) → byte_at t 0 ≡ 1 → t ≡ 1 ∷ drop 1 t
first_byte [] e = absurd (omega arith)
first_byte (x ∷ t) e = ap (λ (y : ℕ). y ∷ t) e

-- a number that is read from bytes
read_small : (t : List ℕ) → Bytes t → (i : ℕ) → be32 t i < 2 ^ 32
unfolding be32
read_small t small i = omega (arith, byte i, byte (i + 1), byte (i + 2), byte (i + 3))
  where
    byte : (j : ℕ) → byte_at t j < 2 ^ 8
    byte j = go (dec_lt j (length t))
      where
        go : Dec (j < length t) → byte_at t j < 2 ^ 8
        go (yes h) = small j h
        go (no h) = rw (get_or-eq_default t 0 {n = j} (omega arith)) (omega arith)

module _ {t : List ℕ} (small : Bytes t) (formed : Formed t) (rising : Rising t) where
  abbrev lists : EntryLists
  lists = lists_in t

  count : length lists ≡ value_count t
  count = lists_count t (value_count t) 0

  -- V and the offsets are what is read behind the version byte
  words_read : (j : ℕ) → j < length (head_words lists) → be32 t (1 + 4 * j) ≡ get_or (head_words lists) j 0
  unfolding value_count table_offset
  words_read zero h = sym count
  words_read (suc j) h =
      let place : 1 + 4 * suc j ≡ table_offsets_at + 4 * (0 + j) = omega arith in
      ap (be32 t) place ∙ sym (offsets_are formed rising (value_count t) 0 (zero-add (value_count t)) j (omega (arith, offsets_count 0 lists, count)))
      ∙ ap (λ (k : ℕ). get_or (offsets_of k lists) j 0) rising.first

  row : t ≡ 1 ∷ (be_words (head_words lists) ++ drop (4 * length (head_words lists)) (drop 1 t))
  unfolding entries_at table_version
  row =
      let split = first_byte t formed.version in
      split ∙ ap (λ (l : List ℕ). 1 ∷ l) (be_back (head_words lists) (drop 1 t)
      (λ i h. rw (get_or-drop 1 t i 0) (small (1 + i) (omega (arith, length-drop 1 t))))
      (omega (arith, length-drop 1 t, formed.within, count, offsets_count 0 lists))
      (λ j h. sym (be_past (1 ∷ []) (drop 1 t) (4 * j)) ∙ ap (λ (b : List ℕ). be32 b (1 + 4 * j)) (sym split) ∙ words_read j h))

  -- what lies behind them are the entries
  rest : drop (4 * length (head_words lists)) (drop 1 t) ≡ flatten (flatten lists)
  unfolding entries_at
  rest =
      let place : 1 + 4 * length (head_words lists) ≡ entries_at t + entry_size * table_offset t 0 = omega (arith, count, offsets_count 0 lists, rising.first) in
      let end : behind formed rising (0 + value_count t) ≡ [] =
      drop_of_length-le t {i = entries_at t + entry_size * table_offset t (0 + value_count t)} (omega (arith, size formed rising, rising.last, ap (table_offset t) (zero-add (value_count t)))) in
      drop-drop (4 * length (head_words lists)) 1 t ∙ ap (λ (k : ℕ). drop k t) place
      ∙ sym (joined formed rising (value_count t) 0 (zero-add (value_count t)))
      ∙ ap (λ (l : List ℕ). flatten (flatten lists) ++ l) end ∙ append-nil (flatten (flatten lists))

  entries_are : length (flatten lists) ≡ entry_count t
  entries_are =
      sym (zero-add (length (flatten lists))) ∙ sym (offset_after 0 lists [])
      ∙ ap (λ (l : EntryLists). get_or (offsets_of 0 l) (length lists) 0) (append-nil lists) ∙ ap (λ (k : ℕ). get_or (offsets_of k lists) (length lists) 0) (sym rising.first)
      ∙ offsets_are formed rising (value_count t) 0 (zero-add (value_count t)) (length lists) (omega (arith, count))
      ∙ ap (table_offset t) (zero-add (length lists) ∙ count) ∙ rising.last

  pub table_of : TableOf t lists
  unfolding value_count table_offset
  table_of = record {
    form = row ∙ ap (λ (l : List ℕ). 1 ∷ (be_words (head_words lists) ++ l)) rest ∙ sym (table_row lists);
    is_entry_size = all_sized formed rising (value_count t) 0 (zero-add (value_count t));
    values_few = omega (arith, count, read_small t small 1);
    entries_few = omega (arith, entries_are, rising.last, read_small t small (table_offsets_at + 4 * value_count t));
  }
