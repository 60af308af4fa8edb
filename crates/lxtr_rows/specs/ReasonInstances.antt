-- What the demand on reasons rules out, for every possible program. In the module, why is any program that meets the demand, whatever
-- else it does: it answers what the definitions answer, for all bytes. So tempting mistakes fail, each on a query that shows it.
use Rattle.std.specs.Prelude.{ℕ, ◌+◌, ◌≡◌, refl, ◌≢◌, List, [], ◌∷◌, replicate, Option, Some, None}
use Rattle.std.proofs.Math.Decide.{ℕ_discrete}
use Rattle.std.proofs.Common.{arith, sym, ap, ◌∙◌}
use Rattle.lxtr_spec.specs.Numbers.{be_words}
use Rattle.lxtr_spec.specs.Labels.{max_labels, labels_of}
use Rattle.lxtr_spec.specs.Searches.{search_refusal}
use Rattle.lxtr_spec.specs.Reasons.{why_of, reason_number, reason_place}
use Rattle.lxtr_spec.specs.Samples.{p3}
use Rattle.lxtr_spec.specs.declared.Reason.{Reason}
use Rattle.lxtr_spec.specs.declared.Reason.TheVariants.{IsFound, NotListed, NoStep}
use Rattle.lxtr_spec.specs.Reasons.{Why}
use Rattle.lxtr_demands.specs.TrueReasons.{TrueReason, WhyDemand}
use Rattle.lxtr_demands.specs.Laws.TrueReasons.{why_demand}
use Rattle.lxtr_demands.specs.Rows.{computing}
use Rattle.lxtr_rows.specs.ReasonRows.{p3_no_leaf}

-- what the definitions answer: over P3 for 61 78, for 78, and for too many labels; and for 6E where HAS_LEAF is set without a leaf
over_3 : (reason_place (why_of p3 (be_words (0x61 ∷ 0x78 ∷ []))).reason ≡ 0) × (reason_number (why_of p3 (be_words (0x78 ∷ []))).reason ≡ 2)
    × (reason_number (why_of p3 (be_words (replicate (max_labels + 1) 0x78))).reason ≡ 5) × (reason_number (why_of p3_no_leaf (be_words (0x6E ∷ []))).reason ≡ 4)
unfolding computing p3_no_leaf
over_3 = (refl, refl, refl, refl)

module _ (why : List ℕ → List ℕ → Why) (meets : WhyDemand why) where
  -- No other answer meets the demand, refused or not.
  pub only_answer : (b q : List ℕ) → why b q ≡ why_of b q
  only_answer b q = go (ℕ_discrete (search_refusal b q) 0)
    where
      go : Dec (search_refusal b q ≡ 0) → why b q ≡ why_of b q
      go (yes passes) = let (r, t) = why_demand.some_reason b (labels_of q) in meets.answer b q r passes t ∙ sym (why_demand.answer b q r passes t)
      go (no h) = meets.refused b q h ∙ sym (why_demand.refused b q h)

  -- so what is told by a number of the reason, f, is what the definitions tell by it
  told : (f : Option Reason → ℕ) (b q : List ℕ) (r : Option Reason) → (why b q).reason ≡ r → f r ≡ f (why_of b q).reason
  told f b q r e = ap f (sym e) ∙ ap (λ (a : Why). f a.reason) (only_answer b q)

  -- It gives a reason, and what it says is true.
  pub reason_is_true : (b q : List ℕ) → search_refusal b q ≡ 0 → (r : Reason) × ((why b q).reason ≡ Some r) × TrueReason b (labels_of q) r
  reason_is_true b q passes =
      let (r, t) = why_demand.some_reason b (labels_of q) in
      (r, ap (λ (a : Why). a.reason) (meets.answer b q r passes t), t)

  -- A program that gives the last place, or looks for labels that aren't listed before it walks, fails: of 61 78 it says that 78
  -- isn't listed.
  pub later_place_fails : (why p3 (be_words (0x61 ∷ 0x78 ∷ []))).reason ≡ Some (NotListed 1) → ⊥
  unfolding reason_place
  later_place_fails e = omega (arith, told reason_place p3 (be_words (0x61 ∷ 0x78 ∷ [])) (Some (NotListed 1)) e, over_3.0)

  -- One that says "no step" of a label that isn't listed fails.
  pub no_step_for_unlisted_fails : (why p3 (be_words (0x78 ∷ []))).reason ≡ Some (NoStep 0) → ⊥
  unfolding reason_number
  no_step_for_unlisted_fails e = omega (arith, told reason_number p3 (be_words (0x78 ∷ [])) (Some (NoStep 0)) e, over_3.1)

  -- One that walks before it counts fails: of one label more than a key may have it says that the first isn't listed.
  pub walking_first_fails : (why p3 (be_words (replicate (max_labels + 1) 0x78))).reason ≡ Some (NotListed 0) → ⊥
  unfolding reason_number
  walking_first_fails e = omega (arith, told reason_number p3 (be_words (replicate (max_labels + 1) 0x78)) (Some (NotListed 0)) e, over_3.2)

  -- One that answers found where HAS_LEAF is set, although no leaf is there, fails.
  pub flag_without_leaf_fails : (why p3_no_leaf (be_words (0x6E ∷ []))).reason ≡ Some IsFound → ⊥
  unfolding reason_number
  flag_without_leaf_fails e = omega (arith, told reason_number p3_no_leaf (be_words (0x6E ∷ [])) (Some IsFound) e, over_3.3)

  -- One that gives a reason although it refuses fails.
  pub reason_though_refused_fails : (b q : List ℕ) → search_refusal b q ≢ 0 → (why b q).reason ≢ None → ⊥
  reason_though_refused_fails b q refused given = given (ap (λ (a : Why). a.reason) (meets.refused b q refused))
