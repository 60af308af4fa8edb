-- What the demand rules out, for every possible program. Here o is any program that meets the demand, whatever else it does: its check
-- answers what the definition answers, for every image and every table of bytes, and so do its lookups, over an image and the table of
-- some lists. So the programs named below fail.
use Rattle.std.specs.Prelude.{ℕ, ◌%◌, ◌<◌, ◌^◌, ◌≡◌, ◌≢◌, Bool, false, leb, Option, Some, None}
use Rattle.std.proofs.Common.{arith, ◌∙◌, leb-false}
use Rattle.std.proofs.Math.Decide.{ℕ_discrete, dec_lt}
use Rattle.std.proofs.Math.Path.{refl, sym, ap}
use Rattle.std.proofs.Math.Logic.{⊎_elim}
use mathlib.Core.List.{List, [], ◌∷◌, ◌++◌}
use Rattle.std.proofs.Math.ListN.{length, get_or}
use Rattle.lxtr_spec.specs.Ranges.{any_below}
use Rattle.lxtr_spec.specs.Numbers.{byte_at, be_words}
use Rattle.lxtr_spec.specs.Labels.{labels_of}
use Rattle.lxtr_spec.specs.Refusals.{image_refusal, check_of}
use Rattle.lxtr_spec.specs.Sets.{PairSet, Has, ImageOf}
use Rattle.lxtr_spec.specs.Samples.{p3}
use Rattle.lxtr_laws.specs.RangeTests.{any_false}
use Rattle.lxtr_demands.specs.Operations.{Bytes}
use Rattle.lxtr_demands.specs.Laws.Demand3.{demand3}
use Rattle.lxtr_entries_spec.specs.EntryTables.{entry_size, table_verdict_of}
use Rattle.lxtr_entries_spec.specs.EntryLookups.{EntriesAnswer, entries_of, located_of}
use Rattle.lxtr_entries_spec.specs.EntryTables.{TableVerdict}
use Rattle.lxtr_entries_spec.specs.EntryLookups.{Located}
use Rattle.lxtr_entries_demands.specs.EntryDemand.{EntryProgram, defined, Entry, EntryLists, TableOf, ListAt, EntriesAnswered, EntryDemand}
use Rattle.lxtr_entries_demands.specs.Laws.EntryDemand.{entry_demand}
use Rattle.lxtr_entries_demands.specs.EntryRows.{entries_computing}
use Rattle.lxtr_entries_demands.specs.EntryExamples.{soap, rice, table, table3}

-- ---- the tables that show it, over P3

-- a list of bytes, by a test
unfoldable no_byte : List ℕ → ℕ → Bool
no_byte t i = leb (2 ^ 8) (byte_at t i)

bytes_by : (t : List ℕ) → any_below (length t) (no_byte t) ≡ false → Bytes t
unfolding no_byte
bytes_by t e i h = leb-false (2 ^ 8) (byte_at t i) ((any_false (length t) (no_byte t)).0 e i h)

-- an entry for n and one for na; the table with an entry more than the offsets tell; and one of two values with two offsets
unfoldable each_one : List ℕ
each_one = table 1 2 (0 ∷ 1 ∷ 2 ∷ []) (soap ∷ rice ∷ [])

unfoldable one_more_lem : List ℕ
one_more_lem = table3 ++ soap

unfoldable two_offsets : List ℕ
two_offsets = table 1 2 (0 ∷ 2 ∷ []) (soap ∷ rice ∷ [])

all_bytes : Bytes table3 × Bytes each_one × Bytes one_more_lem × Bytes two_offsets
unfolding no_byte table3 each_one one_more_lem two_offsets table soap rice entries_computing
all_bytes = (bytes_by table3 refl, bytes_by each_one refl, bytes_by one_more_lem refl, bytes_by two_offsets refl)

-- queries: n, and na
abbrev q_n : List ℕ
q_n = be_words (0x6E ∷ [])

abbrev q_na : List ℕ
q_na = be_words (0x6E ∷ 0x61 ∷ [])

p3_passes : (check_of p3).refusal ≡ 0
unfolding entries_computing
p3_passes = refl

-- what the definitions answer: check, parts, and the place of the entry of na
verdicts : ((table_verdict_of p3 table3).refusal ≡ 0) × ((table_verdict_of p3 each_one).refusal ≡ 0) × ((table_verdict_of p3 one_more_lem).refusal ≡ 26)
    × ((table_verdict_of p3 two_offsets).refusal ≡ 26) × ((table_verdict_of p3 []).refusal ≡ 26)
unfolding table3 each_one one_more_lem two_offsets table soap rice entries_computing
verdicts = (refl, refl, refl, refl, refl)

parts : (length (entries_of p3 q_n table3).part ≡ 16) × (get_or (entries_of p3 q_na each_one).part 0 0 ≡ 0xA2) × (get_or soap 0 0 ≡ 0xA1) × ((located_of p3 q_na each_one).first ≡ 1)
unfolding table3 each_one table soap rice entries_computing
parts = (refl, refl, refl, refl)

-- ---- programs

module _ (o : EntryProgram) (meets : EntryDemand o) where
  -- No other verdict meets the demand, whether or not the bytes b are an image and t is a table.
  pub only_check : (b t : List ℕ) → Bytes t → o.check b t ≡ table_verdict_of b t
  unfolding check_of
  only_check b t small = by_image (ℕ_discrete (image_refusal b) 0)
    where
      by_image : Dec (image_refusal b ≡ 0) → o.check b t ≡ table_verdict_of b t
      by_image (no wrong) = meets.image_refused b t wrong ∙ sym (entry_demand.image_refused b t wrong)
      by_image (yes passes) =
          let (d, image) = (demand3 b).passes.0 passes in
          ⊎_elim
          (λ wrong. meets.malformed b d t image small wrong ∙ sym (entry_demand.malformed b d t image small wrong))
          (λ (lists, table, values). ⊎_elim
          (λ every. meets.accepted b d t lists image table every ∙ sym (entry_demand.accepted b d t lists image table every))
          (λ beyond. meets.beyond b d t lists image table beyond ∙ sym (entry_demand.beyond b d t lists image table beyond))
          values)
          (meets.decided b d t image small)

  -- Over an image and the table of some lists, no other lookups meet the demand.
  module _ (b : List ℕ) (d : PairSet) (t : List ℕ) (lists : EntryLists) (q : List ℕ) (image : ImageOf b d) (table : TableOf t lists) (whole : length q % 4 ≡ 0) where
    given : EntriesAnswered o b d t lists q (labels_of q)
    given = meets.answered b d t lists q image table whole

    expected : EntriesAnswered defined b d t lists q (labels_of q)
    expected = entry_demand.answered b d t lists q image table whole

    pub only_entries : o.entries b q t ≡ entries_of b q t
    only_entries = by_value (d (labels_of q)) refl
      where
        by_place : (v : ℕ) → Has d (labels_of q) v → Dec (v < length lists) → o.entries b q t ≡ entries_of b q t
        by_place v has (yes h) = let (n, es, at) = meets.some_list lists v h in given.entries v n es has at ∙ sym (expected.entries v n es has at)
        by_place v has (no h) = given.beyond v has (omega arith) ∙ sym (expected.beyond v has (omega arith))

        by_value : (a : Option ℕ) → d (labels_of q) ≡ a → o.entries b q t ≡ entries_of b q t
        by_value None e = given.no_key e ∙ sym (expected.no_key e)
        by_value (Some v) e = by_place v e (dec_lt v (length lists))

    pub only_locate : o.locate b q t ≡ located_of b q t
    only_locate = by_value (d (labels_of q)) refl
      where
        by_list : (v n : ℕ) (es : List Entry) → Has d (labels_of q) v → ListAt lists v n es → o.locate b q t ≡ located_of b q t
        by_list v n [] has at = given.located_none v n has at ∙ sym (expected.located_none v n has at)
        by_list v n (e ∷ es) has at = given.located v n e es has at ∙ sym (expected.located v n e es has at)

        by_place : (v : ℕ) → Has d (labels_of q) v → Dec (v < length lists) → o.locate b q t ≡ located_of b q t
        by_place v has (yes h) = let (n, es, at) = meets.some_list lists v h in by_list v n es has at
        by_place v has (no h) = given.located_beyond v has (omega arith) ∙ sym (expected.located_beyond v has (omega arith))

        by_value : (a : Option ℕ) → d (labels_of q) ≡ a → o.locate b q t ≡ located_of b q t
        by_value None e = given.not_located e ∙ sym (expected.not_located e)
        by_value (Some v) e = by_place v e (dec_lt v (length lists))

    -- One that hands back a part although the query is no key fails.
    pub part_without_key_fails : d (labels_of q) ≡ None → (o.entries b q t).part ≢ [] → ⊥
    part_without_key_fails no_key more = more (ap (λ (a : EntriesAnswer). a.part) (given.no_key no_key))

  refusal_of : (t : List ℕ) → Bytes t → (o.check p3 t).refusal ≡ (table_verdict_of p3 t).refusal
  refusal_of t small = ap (λ (a : TableVerdict). a.refusal) (only_check p3 t small)

  -- A check that accepts all fails, on a table without bytes, and one that refuses all, on the table of two lists.
  pub accepts_all_fails : ((b t : List ℕ) → (o.check b t).refusal ≡ 0) → ⊥
  accepts_all_fails accepts = omega (arith, accepts p3 [], refusal_of [] (λ i h. absurd (omega arith)), verdicts.4)

  pub refuses_all_fails : ((b t : List ℕ) → (o.check b t).refusal ≢ 0) → ⊥
  refuses_all_fails refuses = refuses p3 table3 (refusal_of table3 all_bytes.0 ∙ verdicts.0)

  -- One that does not compare the last offset with the number of entries fails: it accepts a table with an entry more.
  pub last_offset_unread_fails : ((b t : List ℕ) (e : Entry) → length e ≡ entry_size → (o.check b t).refusal ≡ 0 → (o.check b (t ++ e)).refusal ≡ 0) → ⊥
  unfolding one_more_lem soap
  last_offset_unread_fails accepts =
      omega (arith, accepts p3 table3 soap refl (refusal_of table3 all_bytes.0 ∙ verdicts.0), refusal_of one_more_lem all_bytes.2, verdicts.2)

  -- One that takes V offsets instead of V+1 fails: it accepts two offsets for two values.
  pub too_few_offsets_fail : (o.check p3 (table 1 2 (0 ∷ 2 ∷ []) (soap ∷ rice ∷ []))).refusal ≡ 0 → ⊥
  unfolding two_offsets
  too_few_offsets_fail accepts = omega (arith, accepts, refusal_of two_offsets all_bytes.3, verdicts.3)

  over_3 : (t q : List ℕ) → Bytes t → (table_verdict_of p3 t).refusal ≡ 0 → length q % 4 ≡ 0 → (o.entries p3 q t ≡ entries_of p3 q t) × (o.locate p3 q t ≡ located_of p3 q t)
  over_3 t q small accepted whole =
      let (d, image) = (demand3 p3).passes.0 p3_passes in
      let (lists, table, every) = (entry_demand.accepts p3 d t image small).0 accepted in
      (only_entries p3 d t lists q image table whole, only_locate p3 d t lists q image table whole)

  -- A lookup that always hands back an empty part fails, on n.
  pub always_empty_fails : ((b q t : List ℕ) → (o.entries b q t).part ≡ []) → ⊥
  unfolding entries_computing
  always_empty_fails empty =
      omega (arith, parts.0, ap length (empty p3 q_n table3), ap (λ (a : EntriesAnswer). length a.part) (over_3 table3 q_n all_bytes.0 verdicts.0 refl).0)

  -- One that answers the entries of the value before fails: it hands back those of n for na.
  pub value_before_fails : (o.entries p3 (be_words (0x6E ∷ 0x61 ∷ [])) (table 1 2 (0 ∷ 1 ∷ 2 ∷ []) (soap ∷ rice ∷ []))).part ≡ soap → ⊥
  unfolding each_one entries_computing
  value_before_fails before =
      omega (arith, parts.1, parts.2, ap (λ (l : List ℕ). get_or l 0 0) before, ap (λ (a : EntriesAnswer). get_or a.part 0 0) (over_3 each_one q_na all_bytes.1 verdicts.1 refl).0)

  -- One that locates the part by bytes and not by entries fails.
  pub place_in_bytes_fails : (o.locate p3 (be_words (0x6E ∷ 0x61 ∷ [])) (table 1 2 (0 ∷ 1 ∷ 2 ∷ []) (soap ∷ rice ∷ []))).first ≡ entry_size → ⊥
  unfolding each_one entries_computing
  place_in_bytes_fails in_bytes = omega (arith, in_bytes, parts.3, ap (λ (a : Located). a.first) (over_3 each_one q_na all_bytes.1 verdicts.1 refl).1)
