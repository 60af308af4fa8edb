-- Typing positions as facts: when one more label is walked, and when all labels typed reach a slot.
use Rattle.std.specs.Prelude.{ℕ, ◌<◌, ◌≡◌, ◌↔◌, List, Some}
use Rattle.std.proofs.Math.Logic.Iff as Iff
use Rattle.lxtr_spec.specs.Labels.{max_labels}
use Rattle.lxtr_spec.specs.Image.{slot_count}
use Rattle.lxtr_spec.specs.Walks.{step_by}
use Rattle.lxtr_spec.specs.Positions.{TypingPosition, all_walked, slot_by, is_placed, reached_slot}
use Rattle.lxtr_laws.specs.RangeTests.{tests}
use Rattle.lxtr_laws.specs.StepFacts.{cond_some}

module _ (b : List ℕ) (p : TypingPosition) where
  pub slot_by_is : (x t : ℕ) → (slot_by b p x ≡ Some t) ↔ (((p.walked ≡ p.typed) × (p.typed < max_labels)) × (step_by b p.slot x ≡ Some t))
  unfolding slot_by all_walked
  slot_by_is x t = simp (cond_some, tests) Iff.rfl

  pub reached_is : (t : ℕ) → (reached_slot b p ≡ Some t) ↔ (((p.slot < slot_count b) × (p.walked ≡ p.typed)) × (Some p.slot ≡ Some t))
  unfolding reached_slot is_placed all_walked
  reached_is t = simp (cond_some, tests) Iff.rfl
