-- What the check of an entry table and the lookup of entries have to answer, of any program, in terms of the set of pairs of the image
-- and of the lists of entries of which the table is the form.
-- Only the program that the statements are about, and the statements; that the definitions meet them is `entry_demand` in
-- Laws/EntryDemand.antt.
use Rattle.std.specs.Prelude.{ℕ, ◌+◌, ◌%◌, ◌≤◌, ◌<◌, ◌^◌, ◌≡◌, ◌≢◌, ◌↔◌, ◌⊎◌, true, false, length, None}
use mathlib.Core.List.{List, [], ◌∷◌, ◌++◌, Memᴰ, flatten}
use Rattle.lxtr_spec.specs.Numbers.{be_bytes, be_words}
use Rattle.lxtr_spec.specs.Labels.{labels_of}
use Rattle.lxtr_spec.specs.Refusals.{image_refusal}
use Rattle.lxtr_spec.specs.Sets.{PairSet, Has, ImageOf}
use Rattle.lxtr_demands.specs.Operations.{Bytes}
use Rattle.lxtr_entries_spec.specs.EntryTables.{entry_size, entry_bytes, table_verdict_of}
use Rattle.lxtr_entries_spec.specs.EntryLookups.{EntriesAnswer, entries_of, located_of}
use Rattle.lxtr_entries_spec.specs.EntryTables.{TableVerdict}
use Rattle.lxtr_entries_spec.specs.EntryLookups.{Located}

-- A program: the check takes image and table; the two lookups take image, query and table. `defined` consists of the definitions, with
-- which the contracts equate what the code answers.
pub record EntryProgram : Type 0 where
  pub check : List ℕ → List ℕ → TableVerdict
  pub entries : List ℕ → List ℕ → List ℕ → EntriesAnswer
  pub locate : List ℕ → List ℕ → List ℕ → Located

abbrev pub defined : EntryProgram
defined = record { check = table_verdict_of; entries = entries_of; locate = located_of }

-- An entry is its bytes. One reading has several goods: for each value number, from 0 on, there is a list of entries.
abbrev pub Entry : Type 0
Entry = List ℕ

abbrev pub EntryLists : Type 0
EntryLists = List (List Entry)

-- the offsets of these lists, if n entries come before them: how many come before each list, and then how many there are
unfoldable pub offsets_of : ℕ → EntryLists → List ℕ
offsets_of n [] = n ∷ []
offsets_of n (es ∷ lists) = n ∷ offsets_of (n + length es) lists

-- version byte 1, V in four bytes, V+1 offsets of four, then entries of eight bytes, big-endian
unfoldable pub table_bytes : EntryLists → List ℕ
table_bytes lists = 1 ∷ (be_bytes (length lists) ++ (be_words (offsets_of 0 lists) ++ flatten (flatten lists)))

-- the bytes t are the form of these lists
pub record TableOf (t : List ℕ) (lists : EntryLists) : Type 0 where
  pub form : t ≡ table_bytes lists
  pub is_entry_size : (e : Entry) → Memᴰ e (flatten lists) → length e ≡ entry_size
  -- V, and all entries together, below 2^32
  pub values_few : length lists < 2 ^ 32
  pub entries_few : length (flatten lists) < 2 ^ 32

-- es is the list of value v, and n entries come before it
pub record ListAt (lists : EntryLists) (v n : ℕ) (es : List Entry) : Type 0 where
  pub before : EntryLists
  pub after : EntryLists
  pub parts : lists ≡ before ++ es ∷ after
  pub place : length before ≡ v
  pub earlier : length (flatten before) ≡ n

-- every value of the set has a list
abbrev pub EveryValue : PairSet → EntryLists → Type 0
EveryValue d lists = (k : List ℕ) (v : ℕ) → Has d k v → v < length lists

-- some value of the set has none
abbrev pub SomeBeyond : PairSet → EntryLists → Type 0
SomeBeyond d lists = (k : List ℕ) × (v : ℕ) × Has d k v × (length lists ≤ v)

-- the bytes are the form of no lists
abbrev pub Malformed : List ℕ → Type 0
Malformed t = (lists : EntryLists) → TableOf t lists → ⊥

-- what the lookups of the program o answer for the query q with the labels xs, over an image of d and a table of these lists
pub record EntriesAnswered (o : EntryProgram) (b : List ℕ) (d : PairSet) (t : List ℕ) (lists : EntryLists) (q xs : List ℕ) : Type 0 where
  -- exactly the entries of the query's value, as they lie in the table
  pub entries : (v n : ℕ) (es : List Entry) → Has d xs v → ListAt lists v n es → o.entries b q t ≡ record { refusal = 0; part = flatten es }
  pub no_key : d xs ≡ None → o.entries b q t ≡ record { refusal = 0; part = [] }
  -- 27: its value has no list
  pub beyond : (v : ℕ) → Has d xs v → length lists ≤ v → o.entries b q t ≡ record { refusal = 27; part = [] }
  -- an empty part exactly when the query is no key or its list is empty (or it is refused)
  pub empty : (o.entries b q t).refusal ≡ 0 → ((o.entries b q t).part ≡ []) ↔ ((d xs ≡ None) ⊎ ((v : ℕ) × (n : ℕ) × Has d xs v × ListAt lists v n []))
  -- where they lie: how many come before them, 0 if there are none, and how many they are
  pub located : (v n : ℕ) (e : Entry) (es : List Entry) → Has d xs v → ListAt lists v n (e ∷ es)
      → o.locate b q t ≡ record { refusal = 0; valued = true; first = n; count = length (e ∷ es) }
  pub located_none : (v n : ℕ) → Has d xs v → ListAt lists v n [] → o.locate b q t ≡ record { refusal = 0; valued = true; first = 0; count = 0 }
  pub not_located : d xs ≡ None → o.locate b q t ≡ record { refusal = 0; valued = false; first = 0; count = 0 }
  pub located_beyond : (v : ℕ) → Has d xs v → length lists ≤ v → o.locate b q t ≡ record { refusal = 27; valued = false; first = 0; count = 0 }

pub record EntryDemand (o : EntryProgram) : Type 0 where
  -- The lists of a table are the only ones; so is the list of a value, and each value below V has one.
  pub one_table : (t : List ℕ) (lists others : EntryLists) → TableOf t lists → TableOf t others → lists ≡ others
  pub some_list : (lists : EntryLists) (v : ℕ) → v < length lists → (n : ℕ) × (es : List Entry) × ListAt lists v n es
  pub one_list : (lists : EntryLists) (v n m : ℕ) (es fs : List Entry) → ListAt lists v n es → ListAt lists v m fs → (n ≡ m) × (es ≡ fs)
  -- Over an image, the check accepts bytes exactly when they are the form of some lists, and every value of the set has one.
  pub accepts : (b : List ℕ) (d : PairSet) (t : List ℕ) → ImageOf b d → Bytes t → ((o.check b t).refusal ≡ 0) ↔ ((lists : EntryLists) × TableOf t lists × EveryValue d lists)
  -- It then answers how many entries there are.
  pub accepted : (b : List ℕ) (d : PairSet) (t : List ℕ) (lists : EntryLists) → ImageOf b d → TableOf t lists → EveryValue d lists
      → o.check b t ≡ record { refusal = 0; entries = length (flatten lists) }
  -- Otherwise the image is refused, or the table is malformed, or it has a value too few; in this order.
  pub image_refused : (b t : List ℕ) → image_refusal b ≢ 0 → o.check b t ≡ record { refusal = image_refusal b; entries = 0 }
  pub malformed : (b : List ℕ) (d : PairSet) (t : List ℕ) → ImageOf b d → Bytes t → Malformed t → o.check b t ≡ record { refusal = 26; entries = 0 }
  pub beyond : (b : List ℕ) (d : PairSet) (t : List ℕ) (lists : EntryLists) → ImageOf b d → TableOf t lists → SomeBeyond d lists
      → o.check b t ≡ record { refusal = 27; entries = 0 }
  -- One of these holds of all bytes.
  pub decided : (b : List ℕ) (d : PairSet) (t : List ℕ) → ImageOf b d → Bytes t
      → Malformed t ⊎ ((lists : EntryLists) × TableOf t lists × (EveryValue d lists ⊎ SomeBeyond d lists))
  -- The lookups of every query of whole labels.
  pub answered : (b : List ℕ) (d : PairSet) (t : List ℕ) (lists : EntryLists) (q : List ℕ) → ImageOf b d → TableOf t lists → length q % 4 ≡ 0
      → EntriesAnswered o b d t lists q (labels_of q)
  -- For all bytes, accepted or not, the part that is handed back is the one that is located, with the same refusal.
  pub same_part : (b q t : List ℕ) → o.entries b q t ≡ record { refusal = (o.locate b q t).refusal; part = entry_bytes t (o.locate b q t).first (o.locate b q t).count }
