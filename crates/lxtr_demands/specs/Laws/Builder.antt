-- Demand 2 for the builder, from its parts: the definitions place exactly the first-fit image, each of their refusals is one of the
-- statement, and what is built reads back.
use Rattle.std.specs.Prelude.{ℕ, zero, suc, ◌<◌, ◌≤◌, ◌≡◌, refl, ◌⊎◌, length, replicate, Option, Some, None}
use Rattle.std.proofs.Common.{arith, sym, ap, ap₂, ◌∙◌, subst, inl, inr}
use Rattle.std.proofs.Math.Decide.{dec_lt, ℕ_discrete}
use mathlib.Core.List.{List}
use Rattle.std.proofs.lemmas.Option.{none-some}
use Rattle.lxtr_spec.specs.Labels.{length_count, max_listed, Pair}
use Rattle.lxtr_spec.specs.KeyLists.{pairs_of, list_refusal}
use Rattle.lxtr_spec.specs.CodeMaps.{frequency, map_of, code_in, label_with}
use Rattle.lxtr_spec.specs.Builds.{slots_used, image_in, slots_in, placed_in, refuses, builds, outcome_of}
use Rattle.lxtr_spec.specs.Sets.{ImageOf}
use Rattle.lxtr_spec.specs.Meaning.{Ordered}
use Rattle.lxtr_laws.specs.Sorted.{ordered_weaker, one_list}
use Rattle.lxtr_build_laws.specs.KeyListFacts.{KeysRight}
use Rattle.lxtr_build_laws.specs.Passing.{list_passed}
use Rattle.lxtr_build_laws.specs.Maps.{Before, before_is, is_before, before_trans, before_apart, map_members, map_ordered}
use Rattle.lxtr_build_laws.specs.PairSets.{set_of}
use Rattle.lxtr_build_laws.specs.Outcomes.{words_few, list_refused, labels_many, none_placed, room_short, room_enough, call_refuses, call_builds}
use Rattle.lxtr_demands.specs.Operations.{defined}
use Rattle.lxtr_demands.specs.Builder.{ReadsBack, PlacedByFit, FrequencyBefore, ByFrequency, CodesByFrequency, FirstFitImage, ListPasses, RefusedBy, few_words, list_wrong, many_labels, no_base, short_output, Buildable, Demand2Builder}
use Rattle.lxtr_demands.specs.Laws.Placings.{placed_by_fit, fit_placed, used_highest, one_highest}
use Rattle.lxtr_demands.specs.Laws.BuiltImages.{image_of_work}
use Rattle.lxtr_demands.specs.Laws.KeysBack.{reads_back}

-- ---- the code map

pub codes_by_frequency : CodesByFrequency
codes_by_frequency = record {
  listed = λ ps. record { used = map_members ps; ordered = ordered_weaker (Before (frequency ps)) (FrequencyBefore ps) (before_is (frequency ps)) (map_of ps) (map_ordered ps) };
  one_map = λ ps xs ys l m. one_list (Before (frequency ps)) (before_trans (frequency ps)) (λ x b. before_apart (frequency ps) x x b refl)
      xs ys (rank_ordered ps xs l) (rank_ordered ps ys m) (λ x i. (m.used x).1 ((l.used x).0 i)) (λ x i. (l.used x).1 ((m.used x).0 i));
}
  where
    rank_ordered : (ps : List Pair) (labels : List ℕ) → ByFrequency ps labels → Ordered (Before (frequency ps)) labels
    rank_ordered ps labels l = ordered_weaker (FrequencyBefore ps) (Before (frequency ps)) (is_before (frequency ps)) labels l.ordered

-- ---- the demand

module _ (keys work out : List ℕ) where
  abbrev W : ℕ
  W = length work

  abbrev ps : List Pair
  ps = pairs_of keys

  abbrev map : List ℕ
  map = map_of ps

  -- the code map is the only one by frequency
  same_map : (labels : List ℕ) → ByFrequency ps labels → labels ≡ map
  same_map labels by = codes_by_frequency.one_map ps labels map by (codes_by_frequency.listed ps)

  -- what the definitions place is a first-fit image,
  placed_image : (w : List ℕ) → placed_in W ps map ≡ Some w → FirstFitImage keys W (image_in w (slots_used w (slots_in W)) map)
  unfolding placed_in
  placed_image w e = record {
    labels = map;
    by_frequency = codes_by_frequency.listed ps;
    work = w;
    placed = placed_by_fit (slots_in W) (code_in map) (label_with map) length_count 1 ps (replicate W 0) w e;
    slots = slots_used w (slots_in W);
    highest = used_highest (slots_in W) w;
    is = refl;
  }

  -- and every first-fit image is what they place
  module _ (image : List ℕ) (f : FirstFitImage keys W image) where
    image_placed : placed_in W ps map ≡ Some f.work
    unfolding placed_in
    image_placed = fit_placed (slots_in W) (code_in map) (label_with map) length_count 1 ps (replicate W 0) f.work
        (subst (λ (l : List ℕ). PlacedByFit (slots_in W) (code_in l) (label_with l) length_count 1 ps (replicate W 0) f.work) (same_map f.labels f.by_frequency) f.placed)

    image_is : image ≡ image_in f.work (slots_used f.work (slots_in W)) map
    image_is = f.is ∙ ap₂ (image_in f.work) (one_highest (slots_in W) f.work f.slots (slots_used f.work (slots_in W)) f.highest (used_highest (slots_in W) f.work)) (same_map f.labels f.by_frequency)

    map_few : length f.labels ≤ max_listed → length map ≤ max_listed
    map_few = subst (λ (l : List ℕ). length l ≤ max_listed) (same_map f.labels f.by_frequency)

  outcome_built : (image : List ℕ) → Buildable keys work out image → outcome_of W (length out) keys ≡ builds image
  outcome_built image b =
      let f = b.by_first_fit in
      room_enough W (length out) keys b.passes.0 b.passes.1 (map_few image f b.few_labels) f.work image (image_placed image f) (image_is image f) b.room

  outcome_refused : (k : ℕ) → RefusedBy keys work out k → outcome_of W (length out) keys ≡ refuses k
  outcome_refused k (few_words h) = words_few W (length out) keys h
  outcome_refused k (list_wrong h n) = go (list_refusal keys) refl
    where
      go : (m : ℕ) → list_refusal keys ≡ m → outcome_of W (length out) keys ≡ refuses (list_refusal keys)
      go zero e = absurd (n e)
      go (suc m) e = list_refused W (length out) keys h m e ∙ ap refuses (sym e)
  outcome_refused k (many_labels labels p by h) = labels_many W (length out) keys p.0 p.1 (subst (λ (l : List ℕ). max_listed < length l) (same_map labels by) h)
  outcome_refused k (no_base labels p by h n) =
      none_placed W (length out) keys p.0 p.1 (subst (λ (l : List ℕ). length l ≤ max_listed) (same_map labels by) h) (go (placed_in W ps map) refl)
    where
      go : (o : Option (List ℕ)) → placed_in W ps map ≡ o → placed_in W ps map ≡ None
      go None e = e
      go (Some w) e = absurd (n (image_in w (slots_used w (slots_in W)) map) (placed_image w e))
  outcome_refused k (short_output image f p h l) =
      room_short W (length out) keys p.0 p.1 (map_few image f h) f.work image (image_placed image f) (image_is image f) l

  -- each test decides
  decided : ((image : List ℕ) × Buildable keys work out image) ⊎ ((k : ℕ) × RefusedBy keys work out k)
  decided = by_words (dec_lt W 4)
    where
      Decision : Type 0
      Decision = ((image : List ℕ) × Buildable keys work out image) ⊎ ((k : ℕ) × RefusedBy keys work out k)

      by_room : ListPasses keys work → (image : List ℕ) (f : FirstFitImage keys W image) → length f.labels ≤ max_listed → Dec (length out < length image) → Decision
      by_room p image f h (yes l) = inr (23, short_output image f p h l)
      by_room p image f h (no n) = inl (image, record { passes = p; by_first_fit = f; few_labels = h; room = omega arith })

      by_place : ListPasses keys work → length map ≤ max_listed → (o : Option (List ℕ)) → placed_in W ps map ≡ o → Decision
      by_place p h None e = inr (22, no_base map p (codes_by_frequency.listed ps) h (λ image f. none-some f.work (sym e ∙ image_placed image f)))
      by_place p h (Some w) e =
          let f = placed_image w e in
          let image : List ℕ = image_in w (slots_used w (slots_in W)) map in
          by_room p image f (subst (λ (l : List ℕ). length l ≤ max_listed) (sym (same_map f.labels f.by_frequency)) h) (dec_lt (length out) (length image))

      by_labels : ListPasses keys work → Dec (max_listed < length map) → Decision
      by_labels p (yes h) = inr (20, many_labels map p (codes_by_frequency.listed ps) h)
      by_labels p (no n) = by_place p (omega arith) (placed_in W ps map) refl

      by_list : 4 ≤ W → Dec (list_refusal keys ≡ 0) → Decision
      by_list h (yes e) = by_labels (h, e) (dec_lt max_listed (length map))
      by_list h (no n) = inr (list_refusal keys, list_wrong h n)

      by_words : Dec (W < 4) → Decision
      by_words (yes h) = inr (21, few_words h)
      by_words (no n) = by_list (omega arith) (ℕ_discrete (list_refusal keys) 0)

built_reads_back : (keys work out image : List ℕ) → Buildable keys work out image → ReadsBack defined keys image
built_reads_back keys work out image b =
    let f = b.by_first_fit in
    let right : KeysRight (pairs_of keys) = (list_passed keys b.passes.1).right in
    reads_back keys image right (subst (λ (i : List ℕ). ImageOf i (set_of (pairs_of keys))) (sym (image_is keys work out image f))
    (image_of_work (length work) (pairs_of keys) f.work b.passes.0 right (map_few keys work out image f b.few_labels) (image_placed keys work out image f)))

pub demand2_builder : Demand2Builder defined
demand2_builder = record {
  decided = decided;
  one_image = λ keys work out image other b c. let q : builds image ≡ builds other = sym (outcome_built keys work out image b) ∙ outcome_built keys work out other c in cc;
  built = λ keys work out image b. call_builds keys work out image (outcome_built keys work out image b);
  reads_back = built_reads_back;
  refused = λ keys work out k r. call_refuses keys work out k (outcome_refused keys work out k r);
}
