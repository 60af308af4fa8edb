-- What the demands rule out, for every possible program. In each module, o is any program that meets the demand, whatever else it
-- does: over an image it answers what the definitions answer, and from any key list it builds what they build, or refuses as they
-- do. So the programs that document 01 names under "What the promises rule out" fail, and so do builders with three mistakes that
-- request 2 of document 02 tempts to. Then what is ruled out for the highest value, for code maps and for places of faults.
use Rattle.std.specs.Prelude.{ℕ, zero, suc, ◌+◌, ◌-◌, ◌%◌, ◌≤◌, ◌<◌, ◌≡◌, refl, ◌≢◌, true, false, ◌&&◌, not, cond, ltb, eqb, length, take, replicate, Option, Some, None}
use Rattle.std.proofs.Common.{arith, ◌∙◌, subst, ⊎_elim, inr, true≢false}
use Rattle.std.proofs.Math.Decide.{ℕ_discrete}
use Rattle.std.proofs.Math.Path.{sym, ap}
use mathlib.Core.List.{List, [], ◌∷◌, ◌++◌, Memᴰ, append-nil}
use Rattle.std.proofs.lemmas.Option.{none-some}
use Rattle.std.proofs.lemmas.Bool.{false≢true}
use Rattle.std.proofs.Math.ListN.{drop, get_or}
use Rattle.std.proofs.Math.Seq.{take-append_seam}
use Rattle.lxtr_spec.specs.Labels.{labels_of, Pair}
use Rattle.lxtr_spec.specs.Image.{magic, slot_count, parent, value_number, label_of_code}
use Rattle.lxtr_spec.specs.Refusals.{used_count, image_refusal, is_end, check_of}
use Rattle.lxtr_spec.specs.HighestValues.{HighestAnswer, highest_of}
use Rattle.lxtr_spec.specs.Searches.{LongestAnswer, case_value, case_longer, lookup_of, prefixes_of, longest_of}
use Rattle.lxtr_spec.specs.Completions.{CompletionAnswer, completion_of}
use Rattle.lxtr_spec.specs.KeyLists.{pairs_of}
use Rattle.lxtr_spec.specs.Builds.{BuildAnswer, build_of}
use Rattle.lxtr_spec.specs.CodeMaps.{occurrences, frequency, map_of}
use Rattle.lxtr_spec.specs.FaultPlaces.{fault_of}
use Rattle.lxtr_spec.specs.Sets.{PairSet, Prefix, Has, ImageOf}
use Rattle.lxtr_spec.specs.Meaning.{Longer, Lists, FittingFront}
use Rattle.lxtr_spec.specs.Samples.{p1, p2, p3, p7, p8_check, p8_slot, p9_labels, p9_longer, p10, p11}
use Rattle.lxtr_spec.specs.Refusals.{Verdict}
use Rattle.lxtr_spec.specs.declared.Case.{Case}
use Rattle.lxtr_spec.specs.declared.Case.TheVariants.{Neither, PrefixOnly, ExactOnly, ExactAndPrefix}
use Rattle.lxtr_spec.specs.Searches.{Lookup}
use Rattle.lxtr_spec.specs.Searches.{Prefixes}
use Rattle.lxtr_spec.specs.declared.Fault.{Fault}
use Rattle.lxtr_spec.specs.declared.Fault.TheVariants.{Entry}
use Rattle.lxtr_demands.specs.Operations.{Operations}
use Rattle.lxtr_demands.specs.Demand2.{Demand2}
use Rattle.lxtr_demands.specs.Demand3.{Demand3}
use Rattle.lxtr_demands.specs.Builder.{ByFrequency, RefusedBy, few_words, list_wrong, many_labels, no_base, short_output, Buildable, Demand2Builder}
use Rattle.lxtr_demands.specs.RightPlaces.{Right}
use Rattle.lxtr_demands.specs.HighestValue.{HighestValue}
use Rattle.lxtr_demands.specs.Rows.{computing}
use Rattle.lxtr_demands.specs.Laws.Lookups.{Says, case_says}
use Rattle.lxtr_demands.specs.Laws.Demand2.{demand2}
use Rattle.lxtr_demands.specs.Laws.Demand3.{demand3}
use Rattle.lxtr_demands.specs.Laws.Builder.{codes_by_frequency, demand2_builder}
use Rattle.lxtr_demands.specs.Laws.RightPlaces.{fault_right}
use Rattle.lxtr_demands.specs.Laws.HighestValue.{highest_value}
use Rattle.lxtr_rows.specs.HighestRows.{p11_300}

-- ---- images: P1, P2, P3 and P11 are images of a set, and P7 to P10 of none

abbrev pub IsImage : List ℕ → Type 0
IsImage b = (d : PairSet) × ImageOf b d

pub p3_is_image : IsImage p3
unfolding computing
p3_is_image = (demand3 p3).passes.0 refl

pub p11_is_image : IsImage p11
unfolding computing
p11_is_image = (demand3 p11).passes.0 refl

pub more_images : IsImage p1 × IsImage p2
unfolding computing
more_images = ((demand3 p1).passes.0 refl, (demand3 p2).passes.0 refl)

-- bytes that the check refuses are an image of no set
refused_is_none : (b : List ℕ) (k : ℕ) → (check_of b).refusal ≡ k → 1 ≤ k → IsImage b → ⊥
refused_is_none b k e h image = omega (arith, e, (demand3 b).passes.1 image)

pub p10_is_none : IsImage p10 → ⊥
unfolding computing
p10_is_none = refused_is_none p10 12 refl (omega arith)

pub more_are_none : (IsImage p7 → ⊥) × (IsImage p8_check → ⊥) × (IsImage p8_slot → ⊥) × (IsImage p9_labels → ⊥) × (IsImage p9_longer → ⊥)
unfolding computing
more_are_none = (
  refused_is_none p7 11 refl (omega arith),
  refused_is_none p8_check 10 refl (omega arith),
  refused_is_none p8_slot 10 refl (omega arith),
  refused_is_none p9_labels 9 refl (omega arith),
  refused_is_none p9_longer 6 refl (omega arith),
)

-- ---- demand 3

p3_counts : ((check_of p3).pairs ≡ 2) × (used_count p3 ≡ 4)
unfolding computing
p3_counts = (refl, refl)

p11_counts : (check_of p11).pairs ≡ 3
unfolding computing
p11_counts = refl

module _ (o : Operations) (meets : (b : List ℕ) → Demand3 o b) where
  -- Over an image no other verdict meets the demand.
  pub only_check : (b : List ℕ) → IsImage b → o.check b ≡ check_of b
  only_check b (d, image) = let (ps, are) = (meets b).listing d image in (meets b).answer d ps image are ∙ sym ((demand3 b).answer d ps image are)

  -- A check that refuses an image, or accepts what is not an image, fails. So does one that refuses all, on P3, and one that
  -- accepts all, on P10.
  pub refused_image_fails : (b : List ℕ) → IsImage b → (o.check b).refusal ≢ 0 → ⊥
  refused_image_fails b image refuses = refuses ((meets b).passes.1 image)

  pub accepted_other_fails : (b : List ℕ) → (IsImage b → ⊥) → (o.check b).refusal ≡ 0 → ⊥
  accepted_other_fails b no-image accepts = no-image ((meets b).passes.0 accepts)

  pub refuses_all_fails : ((b : List ℕ) → (o.check b).refusal ≢ 0) → ⊥
  refuses_all_fails refuses = refused_image_fails p3 p3_is_image (refuses p3)

  pub accepts_all_fails : ((b : List ℕ) → (o.check b).refusal ≡ 0) → ⊥
  accepts_all_fails accepts = accepted_other_fails p10 p10_is_none (accepts p10)

  -- A made-up pair count fails: any number that is not that of the set's pairs or, with a refusal, is not 0. So does the same number
  -- for every image, and the number of used slots from 2 up.
  pub made_up_count_fails : (b : List ℕ) (d : PairSet) (ps : List Pair) → ImageOf b d → Lists b d [] ps → (o.check b).pairs ≢ length ps → ⊥
  made_up_count_fails b d ps image are other = other (ap (λ (v : Verdict). v.pairs) ((meets b).answer d ps image are))

  pub refused_count_fails : (b : List ℕ) → (o.check b).refusal ≢ 0 → (o.check b).pairs ≢ 0 → ⊥
  refused_count_fails b refuses other = other ((meets b).refused refuses)

  pairs_of_lem : (b : List ℕ) → IsImage b → (o.check b).pairs ≡ (check_of b).pairs
  pairs_of_lem b image = ap (λ (v : Verdict). v.pairs) (only_check b image)

  pub constant_count_fails : (n : ℕ) → ((b : List ℕ) → IsImage b → (o.check b).pairs ≡ n) → ⊥
  constant_count_fails n same = omega (arith, pairs_of_lem p3 p3_is_image, pairs_of_lem p11 p11_is_image, same p3 p3_is_image, same p11 p11_is_image, p3_counts.0, p11_counts)

  pub counted_slots_fail : ((b : List ℕ) → IsImage b → (o.check b).pairs ≡ used_count b) → ⊥
  counted_slots_fail same = omega (arith, pairs_of_lem p3 p3_is_image, same p3 p3_is_image, p3_counts.0, p3_counts.1)

-- ---- demand 2: the searches and completions

-- three queries of P4 to P6: 6E; 6E 61; and 61, which is no key
abbrev q6e : List ℕ
q6e = 0 ∷ 0 ∷ 0 ∷ 0x6E ∷ []

abbrev q6e61 : List ℕ
q6e61 = 0 ∷ 0 ∷ 0 ∷ 0x6E ∷ 0 ∷ 0 ∷ 0 ∷ 0x61 ∷ []

abbrev q61 : List ℕ
q61 = 0 ∷ 0 ∷ 0 ∷ 0x61 ∷ []

or_1 : Option ℕ → ℕ
or_1 None = 1
or_1 (Some v) = v

value_differs : case_value (lookup_of p3 q6e).case ≡ case_value (lookup_of p3 q61).case → ⊥
unfolding computing or_1
value_differs e = let z : ◌≡◌ {A = ℕ} 0 1 = ap or_1 e in omega arith

longer_differs : case_longer (lookup_of p3 q6e).case ≡ case_longer (lookup_of p3 q6e61).case → ⊥
unfolding computing
longer_differs e = true≢false e

-- the two last cases exchanged
pub exchanged : Case → Case
exchanged Neither = Neither
exchanged PrefixOnly = PrefixOnly
exchanged (ExactOnly v) = ExactAndPrefix v
exchanged (ExactAndPrefix v) = ExactOnly v

exchange_differs : exchanged (lookup_of p3 q6e).case ≡ (lookup_of p3 q6e).case → ⊥
unfolding computing exchanged
exchange_differs e = false≢true (ap case_longer e)

prefixes_differ : (prefixes_of p3 q6e).count ≡ (prefixes_of p3 q61).count → ⊥
unfolding computing
prefixes_differ e = let z : ◌≡◌ {A = ℕ} 1 0 = e in omega arith

longest_differs : length (longest_of p3 q6e).part ≡ length (longest_of p3 q61).part → ⊥
unfolding computing
longest_differs e = let z : ◌≡◌ {A = ℕ} 4 0 = e in omega arith

-- the same answer to all queries of whole labels
abbrev pub Constant : {A : Type 0} → (List ℕ → A) → Type 0
Constant f = (q r : List ℕ) → length q % 4 ≡ 0 → length r % 4 ≡ 0 → f q ≡ f r

-- a part of the answer is not constant, if the answers are those of the definition and it tells two queries apart by this part
constant_fails : {X A : Type 0} (part : X → A) (mine theirs : List ℕ → X) → ((q : List ℕ) → length q % 4 ≡ 0 → mine q ≡ theirs q)
    → (q r : List ℕ) → length q % 4 ≡ 0 → length r % 4 ≡ 0 → (part (theirs q) ≡ part (theirs r) → ⊥) → Constant (λ q. part (mine q)) → ⊥
constant_fails part mine theirs only q r whole whole' differ same = differ (sym (ap part (only q whole)) ∙ same q r whole whole' ∙ ap part (only r whole'))

-- two lent rooms over P11: one for all pairs, and one for none
abbrev blank : ℕ → List ℕ
blank n = replicate n 0xFF

version_written : get_or (completion_of p11 [] (blank 40)).room 0 0 ≡ 1
unfolding computing
version_written = refl

counts_differ : ((completion_of p11 [] (blank 40)).answer.count ≡ 3) × ((completion_of p11 [] (blank 5)).answer.count ≡ 0)
unfolding computing
counts_differ = (refl, refl)

module _ (o : Operations) (meets : Demand2 o) where
  -- Over an image no other answer to a query of whole labels meets the demand.
  pub only_lookup : (b q : List ℕ) → IsImage b → length q % 4 ≡ 0 → o.lookup b q ≡ lookup_of b q
  only_lookup b q (d, image) whole = let (c, is) = (demand2 b d q image whole).some_case in (meets b d q image whole).lookup c is ∙ sym ((demand2 b d q image whole).lookup c is)

  pub only_prefixes : (b q : List ℕ) → IsImage b → length q % 4 ≡ 0 → o.prefixes b q ≡ prefixes_of b q
  only_prefixes b q (d, image) whole =
      let (ms, are) = (demand2 b d q image whole).searched.some_prefixes in
      (meets b d q image whole).searched.prefixes ms are ∙ sym ((demand2 b d q image whole).searched.prefixes ms are)

  pub only_longest : (b q : List ℕ) → IsImage b → length q % 4 ≡ 0 → o.longest b q ≡ longest_of b q
  only_longest b q (d, image) whole =
      let (n, is) = (demand2 b d q image whole).searched.some_longest in
      (meets b d q image whole).searched.longest n is ∙ sym ((demand2 b d q image whole).searched.longest n is)

  pub only_complete : (b q room : List ℕ) → IsImage b → length q % 4 ≡ 0 → 5 ≤ length room → o.complete b q room ≡ completion_of b q room
  only_complete b q room (d, image) whole h =
      let answered = demand2 b d q image whole in
      let (ps, are) = answered.some_listing in
      let (fit, front) = answered.some_front ps room h in
      (meets b d q image whole).completion ps fit room are h front ∙ sym (answered.completion ps fit room are h front)

  -- A search with a constant answer fails, on P4 to P6: both parts of lookup, prefixes, longest.
  pub constant_value_fails : Constant (λ q. case_value (o.lookup p3 q).case) → ⊥
  constant_value_fails = constant_fails (λ (a : Lookup). case_value a.case) (o.lookup p3) (lookup_of p3) (λ q. only_lookup p3 q p3_is_image) q6e q61 refl refl value_differs

  pub constant_longer_fails : Constant (λ q. case_longer (o.lookup p3 q).case) → ⊥
  constant_longer_fails = constant_fails (λ (a : Lookup). case_longer a.case) (o.lookup p3) (lookup_of p3) (λ q. only_lookup p3 q p3_is_image) q6e q6e61 refl refl longer_differs

  pub constant_prefixes_fail : Constant (λ q. (o.prefixes p3 q).count) → ⊥
  constant_prefixes_fail = constant_fails (λ (a : Prefixes). a.count) (o.prefixes p3) (prefixes_of p3) (λ q. only_prefixes p3 q p3_is_image) q6e q61 refl refl prefixes_differ

  pub constant_longest_fails : Constant (λ q. length (o.longest p3 q).part) → ⊥
  constant_longest_fails = constant_fails (λ (a : LongestAnswer). length a.part) (o.longest p3) (longest_of p3) (λ q. only_longest p3 q p3_is_image) q6e q61 refl refl longest_differs

  -- What the case says of longer keys and of the value is true. So these fail: prefix where only the end of the query's own key
  -- follows; no prefix where longer keys exist; another value, or none, than the set has; the two last cases exchanged, on P3.
  case_true : (b : List ℕ) (d : PairSet) (q : List ℕ) → ImageOf b d → length q % 4 ≡ 0 → Says d (labels_of q) (o.lookup b q).case
  case_true b d q image whole = let (c, is) = (demand2 b d q image whole).some_case in rw ((meets b d q image whole).lookup c is) (case_says d (labels_of q) c is)

  pub prefix_by_its_end_fails : (b : List ℕ) (d : PairSet) (q : List ℕ) → ImageOf b d → length q % 4 ≡ 0 → (Longer d (labels_of q) → ⊥) → case_longer (o.lookup b q).case ≡ true → ⊥
  prefix_by_its_end_fails b d q image whole no_longer says = no_longer ((case_true b d q image whole).longer.0 says)

  pub longer_keys_missed_fail : (b : List ℕ) (d : PairSet) (q : List ℕ) → ImageOf b d → length q % 4 ≡ 0 → Longer d (labels_of q) → case_longer (o.lookup b q).case ≡ false → ⊥
  longer_keys_missed_fail b d q image whole l says = false≢true (sym says ∙ (case_true b d q image whole).longer.1 l)

  pub other_value_fails : (b : List ℕ) (d : PairSet) (q : List ℕ) → ImageOf b d → length q % 4 ≡ 0 → case_value (o.lookup b q).case ≢ d (labels_of q) → ⊥
  other_value_fails b d q image whole other = other (case_true b d q image whole).value

  pub exchanged_cases_fail : ((q : List ℕ) → length q % 4 ≡ 0 → (o.lookup p3 q).case ≡ exchanged (lookup_of p3 q).case) → ⊥
  exchanged_cases_fail swaps = exchange_differs (sym (swaps q6e refl) ∙ ap (λ (a : Lookup). a.case) (only_lookup p3 q6e p3_is_image refl))

  -- A completion that writes nothing fails, on P11.
  pub idle_completion_fails : ((room : List ℕ) → 5 ≤ length room → (o.complete p11 [] room).room ≡ room) → ⊥
  idle_completion_fails idle =
      omega (arith, version_written, ap (λ (r : List ℕ). get_or r 0 0) (idle (blank 40) (omega arith)), ap (λ (a : CompletionAnswer). get_or a.room 0 0) (only_complete p11 [] (blank 40) p11_is_image refl (omega arith)))

  -- A made-up completion count fails: any number that is not that of the records that fit. So does the same number whatever the
  -- room. (The count that is written into the room is part of what only_complete says.)
  pub made_up_completion_count_fails : (b : List ℕ) (d : PairSet) (q room : List ℕ) (ps fit : List Pair) → ImageOf b d → length q % 4 ≡ 0 → Lists b d (labels_of q) ps
      → 5 ≤ length room → FittingFront (length room) ps fit → (o.complete b q room).answer.count ≢ length fit → ⊥
  made_up_completion_count_fails b d q room ps fit image whole are h front other =
      other (ap (λ (a : CompletionAnswer). a.answer.count) ((meets b d q image whole).completion ps fit room are h front))

  pub constant_completion_count_fails : (n : ℕ) → ((room : List ℕ) → 5 ≤ length room → (o.complete p11 [] room).answer.count ≡ n) → ⊥
  constant_completion_count_fails n same =
      omega (arith, same (blank 40) (omega arith), same (blank 5) (omega arith), count (blank 40) (omega arith), count (blank 5) (omega arith), counts_differ.0, counts_differ.1)
    where
      count : (room : List ℕ) → 5 ≤ length room → (o.complete p11 [] room).answer.count ≡ (completion_of p11 [] room).answer.count
      count room h = ap (λ (a : CompletionAnswer). a.answer.count) (only_complete p11 [] room p11_is_image refl h)

-- ---- demand 2: the builder

-- what begins with bytes that begin with `L` begins with `L`
begins_with_lem : (image rest : List ℕ) → get_or image 0 0 ≡ 0x4C → get_or (image ++ rest) 0 0 ≡ 0x4C
begins_with_lem [] rest e = absurd (omega arith)
begins_with_lem (x ∷ image) rest e = e

-- P3's keys, in work and output of just the size that they need
abbrev keys3 : List ℕ
keys3 = 1 ∷ 0 ∷ 0 ∷ 0 ∷ 2 ∷ 1 ∷ 0 ∷ 0 ∷ 0 ∷ 0x6E ∷ 2 ∷ 0 ∷ 0 ∷ 0 ∷ 0x6E ∷ 0 ∷ 0 ∷ 0 ∷ 0x61 ∷ []

abbrev pairs3 : List Pair
pairs3 = (0x6E ∷ [], 0) ∷ (0x6E ∷ 0x61 ∷ [], 1) ∷ []

builds3 : ((build_of keys3 (blank 14) (blank 141)).answer.refusal ≡ 0) × (pairs_of keys3 ≡ pairs3)
unfolding computing
builds3 = (refl, refl)

-- Keys 61 61, 62 and 62 63, in which 61 and 62 occur twice: 61 has code 1.
abbrev keys_doubled : List ℕ
keys_doubled = 1 ∷ 0 ∷ 0 ∷ 0 ∷ 3 ∷ 2 ∷ 0 ∷ 0 ∷ 0 ∷ 0x61 ∷ 0 ∷ 0 ∷ 0 ∷ 0x61 ∷ 1 ∷ 0 ∷ 0 ∷ 0 ∷ 0x62 ∷ 2 ∷ 0 ∷ 0 ∷ 0 ∷ 0x62 ∷ 0 ∷ 0 ∷ 0 ∷ 0x63 ∷ []

abbrev front : BuildAnswer → List ℕ
front a = take a.answer.length a.output

builds_doubled : ((build_of keys_doubled (blank 20) (blank 250)).answer.refusal ≡ 0) × (label_of_code (front (build_of keys_doubled (blank 20) (blank 250))) 1 ≡ 0x61)
unfolding computing
builds_doubled = (refl, refl)

-- Wrong counts of a label in a key: 1 if it occurs at all; and its occurrences, where equal labels next to each other count once.
pub once : List ℕ → ℕ → ℕ
once k x = cond (ltb 0 (occurrences k x)) 1 0

pub runs : List ℕ → ℕ → ℕ
runs [] x = 0
runs (y ∷ []) x = cond (eqb y x) 1 0
runs (y ∷ z ∷ k) x = cond (eqb y x && not (eqb z x)) 1 0 + runs (z ∷ k) x

-- such a count, of all keys together
pub in_all : (List ℕ → ℕ → ℕ) → List Pair → ℕ → ℕ
in_all count [] x = 0
in_all count (p ∷ ps) x = count p.0 x + in_all count ps x

-- By both counts 62 comes before 61.
wrong_counts : (in_all once (pairs_of keys_doubled) 0x61 ≡ 1) × (in_all once (pairs_of keys_doubled) 0x62 ≡ 2) × (in_all runs (pairs_of keys_doubled) 0x61 ≡ 1) × (in_all runs (pairs_of keys_doubled) 0x62 ≡ 2)
unfolding once runs in_all computing
wrong_counts = (refl, refl, refl, refl)

-- no label has a higher count than y
abbrev pub HighestBy : (List Pair → ℕ → ℕ) → List Pair → ℕ → Type 0
HighestBy count ps y = (x : ℕ) → count ps x ≤ count ps y

-- y is the largest of the used labels that have its frequency
abbrev pub LargestOfEqual : List Pair → ℕ → Type 0
LargestOfEqual ps y = (x : ℕ) → 0 < frequency ps x → frequency ps x ≡ frequency ps y → x ≤ y

twice : (frequency (pairs_of keys_doubled) 0x62 ≡ 2) × (frequency (pairs_of keys_doubled) 0x61 ≡ 2)
unfolding computing
twice = (refl, refl)

-- refusal numbers are above 0
refusal_above_0 : (keys work out : List ℕ) (k : ℕ) → RefusedBy keys work out k → k ≢ 0
refusal_above_0 keys work out k (few_words h) e = omega (arith, e)
refusal_above_0 keys work out k (list_wrong h n) e = n e
refusal_above_0 keys work out k (many_labels labels p by h) e = omega (arith, e)
refusal_above_0 keys work out k (no_base labels p by h n) e = omega (arith, e)
refusal_above_0 keys work out k (short_output image f p h l) e = omega (arith, e)

module _ (o : Operations) (meets : Demand2Builder o) where
  -- No other answer, output or work meets the demand, for any key list, work and output.
  pub only_build : (keys work out : List ℕ) → o.build keys work out ≡ build_of keys work out
  only_build keys work out = ⊎_elim
      (λ (image, can). meets.built keys work out image can ∙ sym (demand2_builder.built keys work out image can))
      (λ (k, is). meets.refused keys work out k is ∙ sym (demand2_builder.refused keys work out k is))
      (demand2_builder.decided keys work out)

  -- What is not refused can be built.
  can_build : (keys work out : List ℕ) → (o.build keys work out).answer.refusal ≡ 0 → (image : List ℕ) × Buildable keys work out image
  can_build keys work out e = ⊎_elim
      (λ (c : (image : List ℕ) × Buildable keys work out image). c)
      (λ (k, is). absurd (refusal_above_0 keys work out k is (sym (ap (λ (a : BuildAnswer). a.answer.refusal) (meets.refused keys work out k is)) ∙ e)))
      (demand2_builder.decided keys work out)

  -- If nothing is refused, something is written: the output begins with `L`, as an image does.
  pub unwritten_fails : (keys work out : List ℕ) → get_or out 0 0 ≢ 0x4C → (o.build keys work out).answer.refusal ≡ 0 → (o.build keys work out).output ≡ out → ⊥
  unfolding magic
  unwritten_fails keys work out other e idle =
      let (image, can) = can_build keys work out e in
      let begins : get_or image 0 0 ≡ 0x4C = (meets.reads_back keys work out image can).image_of.framed.magic_bytes 0 (omega arith) in
      let written : (o.build keys work out).output ≡ image ++ drop (length image) out = ap (λ (a : BuildAnswer). a.output) (meets.built keys work out image can) in
      other (ap (λ (l : List ℕ). get_or l 0 0) (sym idle ∙ written) ∙ begins_with_lem image (drop (length image) out) begins)

  -- the bytes at the front of the output, of the length that is answered
  abbrev writes : List ℕ → List ℕ → List ℕ → List ℕ
  writes keys work out = front (o.build keys work out)

  -- If a key has a label, some slot has a parent other than slot 1: the key's end, for one.
  pub one_level_fails : (keys work out k : List ℕ) (x v : ℕ) → Memᴰ (k ++ x ∷ [], v) (pairs_of keys) → (o.build keys work out).answer.refusal ≡ 0
      → ((s : ℕ) → 2 ≤ s → s < slot_count (writes keys work out) → parent (writes keys work out) s ≤ 1) → ⊥
  one_level_fails keys work out k x v m e low =
      let (image, can) = can_build keys work out e in
      let is : writes keys work out ≡ image = ap (λ (a : BuildAnswer). take a.answer.length a.output) (meets.built keys work out image can) ∙ take-append_seam image (drop (length image) out) in
      let back = meets.reads_back keys work out image can in
      let placed = back.image_of.placed in
      let key = k ++ x ∷ [] in
      let has : Has back.pair_set key v = back.pair_set_is.each key v m in
      let is-prefix : Prefix back.pair_set key = record { is = inr ([], v, subst (λ (l : List ℕ). Has back.pair_set l v) (sym (append-nil key)) has) } in
      let end = placed.end_in key v has in
      let low-image : (s : ℕ) → 2 ≤ s → s < slot_count image → parent image s ≤ 1 = subst (λ (l : List ℕ). (s : ℕ) → 2 ≤ s → s < slot_count l → parent l s ≤ 1) is low in
      omega (arith, low-image (back.image_of.end key) end.0 end.1, placed.end_parent key v has, (placed.slot_in k x is-prefix).0)

  -- So a builder that refuses all fails, on P3's keys, and so does one that writes nothing, and one that places slot 1's children
  -- and no more.
  builds : (o.build keys3 (blank 14) (blank 141)).answer.refusal ≡ 0
  builds = ap (λ (a : BuildAnswer). a.answer.refusal) (only_build keys3 (blank 14) (blank 141)) ∙ builds3.0

  pub refusing_builder_fails : ((keys work out : List ℕ) → (o.build keys work out).answer.refusal ≢ 0) → ⊥
  refusing_builder_fails refuses = refuses keys3 (blank 14) (blank 141) builds

  pub idle_builder_fails : ((keys work out : List ℕ) → (o.build keys work out).answer.refusal ≡ 0 → (o.build keys work out).output ≡ out) → ⊥
  idle_builder_fails idle = unwritten_fails keys3 (blank 14) (blank 141) (λ e. omega (arith, e)) builds (idle keys3 (blank 14) (blank 141) builds)

  pub one_level_builder_fails : ((keys work out : List ℕ) → (o.build keys work out).answer.refusal ≡ 0 → (s : ℕ) → 2 ≤ s → s < slot_count (writes keys work out) → parent (writes keys work out) s ≤ 1) → ⊥
  one_level_builder_fails low =
      let first : Memᴰ {A = Pair} (0x6E ∷ [], 0) (pairs_of keys3) = subst (Memᴰ {A = Pair} (0x6E ∷ [], 0)) (sym builds3.1) (mathlib.Core.List.Memᴰ.head refl) in
      one_level_fails keys3 (blank 14) (blank 141) [] 0x6E 0 first builds (low keys3 (blank 14) (blank 141) builds)

  -- the label of code 1 in what is built always has property P
  abbrev FirstLabel : (List Pair → ℕ → Type 0) → Type 0
  FirstLabel P = (keys work out : List ℕ) → (o.build keys work out).answer.refusal ≡ 0 → P (pairs_of keys) (label_of_code (writes keys work out) 1)

  code_1 : (P : List Pair → ℕ → Type 0) → FirstLabel P → P (pairs_of keys_doubled) 0x61
  code_1 P first =
      let same : o.build keys_doubled (blank 20) (blank 250) ≡ build_of keys_doubled (blank 20) (blank 250) = only_build keys_doubled (blank 20) (blank 250) in
      subst (P (pairs_of keys_doubled)) (ap (λ (a : BuildAnswer). label_of_code (front a) 1) same ∙ builds_doubled.1)
      (first keys_doubled (blank 20) (blank 250) (ap (λ (a : BuildAnswer). a.answer.refusal) same ∙ builds_doubled.0))

  -- A builder fails if code 1 always goes to a label with the highest count, by a count that is higher for 62 than for 61 in the keys
  -- 61 61, 62 and 62 63. Both wrong counts are.
  pub other_count_fails : (count : List Pair → ℕ → ℕ) → count (pairs_of keys_doubled) 0x61 < count (pairs_of keys_doubled) 0x62 → FirstLabel (HighestBy count) → ⊥
  other_count_fails count fewer highest = omega (arith, fewer, code_1 (HighestBy count) highest 0x62)

  pub keys_counted_fails : FirstLabel (HighestBy (in_all once)) → ⊥
  keys_counted_fails = other_count_fails (in_all once) (omega (arith, wrong_counts.0, wrong_counts.1))

  pub neighbours_once_fails : FirstLabel (HighestBy (in_all runs)) → ⊥
  neighbours_once_fails = other_count_fails (in_all runs) (omega (arith, wrong_counts.2, wrong_counts.3))

  -- A builder also fails if the label of code 1 is always the largest of its frequency.
  pub larger_label_first_fails : FirstLabel LargestOfEqual → ⊥
  larger_label_first_fails largest = omega (arith, code_1 LargestOfEqual largest 0x62 (omega (arith, twice.0)) (twice.0 ∙ sym twice.1))

-- ---- the highest value

-- the value of the last end among the slots below n
unfoldable pub last_end : List ℕ → ℕ → Option ℕ
last_end b zero = None
last_end b (suc n) = cond (is_end b n) (Some (value_number b n)) (last_end b n)

values1 : ((highest_of p1).value ≡ None) × ((check_of p1).pairs ≡ 0)
unfolding computing
values1 = (refl, refl)

values11 : ((highest_of p11).value ≡ Some 2) × (last_end p11 (slot_count p11) ≡ Some 0)
unfolding computing last_end
values11 = (refl, refl)

p11_300_is_image : IsImage p11_300
unfolding computing p11_300
p11_300_is_image = (demand3 p11_300).passes.0 refl

values11_300 : ((highest_of p11_300).value ≡ Some 300) × ((check_of p11_300).pairs ≡ 3)
unfolding computing p11_300
values11_300 = (refl, refl)

same_highest : (a b : HighestAnswer) → a.refusal ≡ b.refusal → a.value ≡ b.value → a ≡ b
same_highest a b k v = λ i. record { refusal = k i; value = v i }

module _ (o : Operations) (meets : (b : List ℕ) → HighestValue o b) where
  -- No other answer meets the demand, whatever the bytes are.
  pub only_highest : (b : List ℕ) → o.highest b ≡ highest_of b
  unfolding check_of
  only_highest b = go (ℕ_discrete (image_refusal b) 0)
    where
      go : Dec (image_refusal b ≡ 0) → o.highest b ≡ highest_of b
      go (yes z) =
          let (d, image) = (demand3 b).passes.0 z in
          let (h, is) = (meets b).some_highest d image in
          (meets b).answer d h image is ∙ sym ((highest_value b).answer d h image is)
      go (no n) =
          let mine = (meets b).refusal in
          let theirs = (highest_value b).refusal in
          same_highest (o.highest b) (highest_of b) (mine ∙ sym theirs) ((meets b).refused (λ z. n (sym mine ∙ z)) ∙ sym ((highest_value b).refused (λ z. n (sym theirs ∙ z))))

  value_of_lem : (b : List ℕ) → (o.highest b).value ≡ (highest_of b).value
  value_of_lem b = ap (λ (a : HighestAnswer). a.value) (only_highest b)

  -- two values that are both said to be the highest
  same_value : (b : List ℕ) (v w : ℕ) → (highest_of b).value ≡ Some v → (o.highest b).value ≡ Some w → v ≡ w
  unfolding or_1
  same_value b v w e f = ap or_1 (sym e ∙ sym (value_of_lem b) ∙ f)

  -- So these fail: the value of the last end, on P11; the number of pairs less one, on P11 with value 300; the same value for all
  -- images that have one; a value where there is no pair, on P1; and a value beside a refusal.
  pub last_end_fails : ((b : List ℕ) → IsImage b → (o.highest b).value ≡ last_end b (slot_count b)) → ⊥
  last_end_fails same = omega (arith, same_value p11 2 0 values11.0 (same p11 p11_is_image ∙ values11.1))

  pub pairs_less_one_fail : ((b : List ℕ) → IsImage b → (check_of b).pairs ≢ 0 → (o.highest b).value ≡ Some ((check_of b).pairs - 1)) → ⊥
  pairs_less_one_fail same =
      let is = same p11_300 p11_300_is_image (λ e. omega (arith, e, values11_300.1)) in
      omega (arith, same_value p11_300 300 ((check_of p11_300).pairs - 1) values11_300.0 is, values11_300.1)

  pub constant_highest_fails : (v : ℕ) → ((b : List ℕ) → IsImage b → (check_of b).pairs ≢ 0 → (o.highest b).value ≡ Some v) → ⊥
  constant_highest_fails v same =
      let is = same p11 p11_is_image (λ e. omega (arith, e, p11_counts)) in
      let other = same p11_300 p11_300_is_image (λ e. omega (arith, e, values11_300.1)) in
      omega (arith, same_value p11 2 v values11.0 is, same_value p11_300 300 v values11_300.0 other)

  pub value_of_none_fails : (v : ℕ) → ((b : List ℕ) → IsImage b → (check_of b).pairs ≡ 0 → (o.highest b).value ≡ Some v) → ⊥
  value_of_none_fails v same = none-some v (sym values1.0 ∙ sym (value_of_lem p1) ∙ same p1 more_images.0 values1.1)

  pub refused_value_fails : (b : List ℕ) (v : ℕ) → (o.highest b).refusal ≢ 0 → (o.highest b).value ≡ Some v → ⊥
  refused_value_fails b v refuses e = none-some v (sym ((meets b).refused refuses) ∙ e)

-- ---- code maps

-- Codes by label alone fail, on P3's keys: 6E occurs twice in them, 61 once.
codes3 : map_of pairs3 ≡ 0x6E ∷ 0x61 ∷ []
unfolding computing
codes3 = refl

pub codes_by_label_fail : ByFrequency pairs3 (0x61 ∷ 0x6E ∷ []) → ⊥
codes_by_label_fail by_label =
    let same : (0x61 ∷ 0x6E ∷ []) ≡ map_of pairs3 = codes_by_frequency.one_map pairs3 (0x61 ∷ 0x6E ∷ []) (map_of pairs3) by_label (codes_by_frequency.listed pairs3) in
    let heads : ◌≡◌ {A = ℕ} 0x61 0x6E = ap (λ (l : List ℕ). get_or l 0 0) (same ∙ codes3) in
    omega (arith, heads)

-- ---- the place of a fault: P7's is entry 2 of the children, in the list of slot 3, and no other
fault7 : fault_of p7 ≡ Some (Entry 3 2)
unfolding computing
fault7 = refl

pub only_fault_of_p7 : (f : Option Fault) → Right p7 f → f ≡ Some (Entry 3 2)
only_fault_of_p7 f right = (fault_right p7).only f right ∙ fault7
