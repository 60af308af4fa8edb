-- What is refused of image and table, by the set of pairs: 1 to 12 where the bytes are no image, 24 by the highest value, 25 by the
-- empty key. Texts lie one after the other, so if the text of the highest value is whole, all are.
use Rattle.std.specs.Prelude.{ℕ, suc, ◌<◌, ◌≡◌, ◌≢◌, ◌⊎◌, Bool, true, false, length, Option, Some, None}
use Rattle.std.proofs.Common.{arith, sym, ◌∙◌}
use Rattle.std.proofs.Math.Decide.{ℕ_discrete}
use Rattle.std.proofs.Math.Path.{refl}
use Rattle.std.proofs.Math.Logic.{inl, inr}
use mathlib.Core.List.{List, []}
use Rattle.std.proofs.lemmas.Bool.{false≢true}
use borrow.Author.Tests.{ltb-true, ltb-false, lt-ltb, le-ltb}
use Rattle.lxtr_spec.specs.Labels.{labels_of, labels_from}
use Rattle.lxtr_spec.specs.Refusals.{refuse_if, first_refusal, image_refusal, check_of}
use Rattle.lxtr_spec.specs.HighestValues.{highest_of}
use Rattle.lxtr_spec.specs.Sets.{PairSet, Has, ImageOf}
use Rattle.lxtr_spec.specs.Meaning.{HighestIn}
use Rattle.lxtr_laws.specs.RefusalChains.{first_stands}
use Rattle.lxtr_demands.specs.Laws.Demand2.{demand2}
use Rattle.lxtr_demands.specs.Laws.Demand3.{demand3}
use Rattle.lxtr_demands.specs.Laws.HighestValue.{highest_value}
use Rattle.romaji_spec.specs.KanaTables.{text_end, text_at, text_cut, table_short}
use Rattle.romaji_spec.specs.Typing.{is_value, has_empty_key, table_refusal}
use Rattle.romaji_laws.specs.TextPlaces.{text_rises}
use Rattle.romaji_demands.specs.TypingDemand.{TableWhole, Ready, RefusedBy, image_wrong, is_table_short, empty_key}

-- the table against the highest value
module _ (kana : List ℕ) (d : PairSet) where
  whole_passes : (h : Option ℕ) → HighestIn d h → TableWhole kana d → table_short kana h ≡ false
  unfolding table_short text_cut text_at
  whole_passes None is whole = refl
  whole_passes (Some w) is whole = let (k, has) = is.is w refl in le-ltb (length kana) (text_end kana (text_at kana w)) (whole k w has)

  short_refused : (h : Option ℕ) → HighestIn d h → (k : List ℕ) (v : ℕ) → Has d k v → length kana < text_at kana (suc v) → table_short kana h ≡ true
  unfolding table_short text_cut text_at
  short_refused h is k v has short =
      let (w, e, l) = is.most k v has in
      rw e (lt-ltb (length kana) (text_end kana (text_at kana w)) (omega (arith, text_rises kana (suc v) (suc w) (omega arith))))

  passes_whole : (h : Option ℕ) → HighestIn d h → table_short kana h ≡ false → TableWhole kana d
  unfolding table_short text_cut text_at
  passes_whole h is passes k v has =
      let (w, e, l) = is.most k v has in
      omega (arith, text_rises kana (suc v) (suc w) (omega arith), ltb-false (length kana) (text_end kana (text_at kana w)) (rw e at passes))

  -- the highest value's key is one whose text is cut
  refused_short : (h : Option ℕ) → HighestIn d h → table_short kana h ≡ true → (k : List ℕ) × (v : ℕ) × Has d k v × (length kana < text_at kana (suc v))
  unfolding table_short text_cut text_at
  refused_short None is short = absurd (false≢true short)
  refused_short (Some w) is short = let (k, has) = is.is w refl in (k, w, has, ltb-true (length kana) (text_end kana (text_at kana w)) short)

module _ (b kana : List ℕ) where
  -- over an image
  refusal_is : (d : PairSet) (h : Option ℕ) → ImageOf b d → HighestIn d h → table_refusal b kana ≡ refuse_if (table_short kana h) 24 (refuse_if (is_value (d [])) 25 0)
  unfolding table_refusal has_empty_key first_refusal labels_of labels_from
  refusal_is d h image is = rw ((highest_value b).answer d h image is, (demand2 b d [] image refl).searched.lookup_value.value)

  pub ready_passes : (d : PairSet) → Ready b kana d → table_refusal b kana ≡ 0
  unfolding refuse_if is_value
  ready_passes d ready =
      let (h, is) = (highest_value b).some_highest d ready.image in
      refusal_is d h ready.image is ∙ rw (whole_passes kana d h is ready.whole, ready.no_empty)

  pub refused_is : (k : ℕ) → RefusedBy b kana k → table_refusal b kana ≡ k
  unfolding refuse_if is_value table_refusal check_of
  refused_is k (image_wrong n) = first_stands (highest_of b).refusal _ (λ e. n (sym (highest_value b).refusal ∙ e)) ∙ (highest_value b).refusal
  refused_is k (is_table_short d l v image has short) =
      let (h, is) = (highest_value b).some_highest d image in
      refusal_is d h image is ∙ rw (short_refused kana d h is l v has short)
  refused_is k (empty_key d v image whole has) =
      let (h, is) = (highest_value b).some_highest d image in
      refusal_is d h image is ∙ rw (whole_passes kana d h is whole, has)

  pub refusal_above_0 : (k : ℕ) → RefusedBy b kana k → k ≢ 0
  refusal_above_0 k (image_wrong n) e = n e
  refusal_above_0 k (is_table_short d l v image has short) e = omega (arith, e)
  refusal_above_0 k (empty_key d v image whole has) e = omega (arith, e)

  pub one_refusal : (k j : ℕ) → RefusedBy b kana k → RefusedBy b kana j → k ≡ j
  one_refusal k j r q = sym (refused_is k r) ∙ refused_is j q

  pub not_both : (k : ℕ) (d : PairSet) → RefusedBy b kana k → Ready b kana d → ⊥
  not_both k d r ready = refusal_above_0 k r (sym (refused_is k r) ∙ ready_passes d ready)

  abbrev Decision : Type 0
  Decision = ((k : ℕ) × RefusedBy b kana k) ⊎ ((d : PairSet) × Ready b kana d)

  pub decided : Decision
  unfolding check_of
  decided = by_image (ℕ_discrete (image_refusal b) 0)
    where
      by_empty : (d : PairSet) → ImageOf b d → TableWhole kana d → (o : Option ℕ) → d [] ≡ o → Decision
      by_empty d image whole None e = inr (d, record { image = image; whole = whole; no_empty = e })
      by_empty d image whole (Some v) e = inl (25, empty_key d v image whole e)

      by_table : (d : PairSet) → ImageOf b d → (h : Option ℕ) → HighestIn d h → (t : Bool) → table_short kana h ≡ t → Decision
      by_table d image h is true e = let (k, v, has, short) = refused_short kana d h is e in inl (24, is_table_short d k v image has short)
      by_table d image h is false e = by_empty d image (passes_whole kana d h is e) (d []) refl

      by_image : Dec (image_refusal b ≡ 0) → Decision
      by_image (no n) = inl (image_refusal b, image_wrong n)
      by_image (yes e) =
          let (d, image) = (demand3 b).passes.0 e in
          let (h, is) = (highest_value b).some_highest d image in
          by_table d image h is (table_short kana h) refl
