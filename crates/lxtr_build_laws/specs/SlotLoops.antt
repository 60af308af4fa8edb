-- A loop over the codes of a slot's children that changes a list at each of them: the steps for the codes that are left lead from
-- the present list to the last one.
use Rattle.std.specs.Prelude.{ℕ, ◌+◌, ◌≤◌, ◌<◌, ◌≡◌, get_or, drop}
use Rattle.std.proofs.Math.Path.{refl, sym, ap}
use Rattle.std.proofs.Common.{◌∙◌, arith, add-one, drop_of_length-le, drop-cons}
use mathlib.Core.List.{List, [], ◌∷◌}
use Rattle.std.proofs.Math.ListN.{length}
use Rattle.lxtr_spec.specs.Joining.{slot_under}
use Rattle.lxtr_spec.specs.Placing.{put_child, put_children}

-- the slots of these codes under b are below n
pub record SlotsBelow (n b : ℕ) (cs : List ℕ) : Type 0 where
  pub each : (j : ℕ) → j < length cs → slot_under b (get_or cs j 0) < n

-- the list after the step for each of these codes
unfoldable pub each_step : (ℕ → List ℕ → List ℕ) → List ℕ → List ℕ → List ℕ
each_step step [] w = w
each_step step (c ∷ cs) w = each_step step cs (step c w)

-- the step was made for the first j codes
pub record StepsSoFar (step : ℕ → List ℕ → List ℕ) (cs w₀ w : List ℕ) (j : ℕ) : Type 0 where
  pub to : j ≤ length cs
  pub size : length w ≡ length w₀
  pub rest : each_step step cs w₀ ≡ each_step step (drop j cs) w

module _ (step : ℕ → List ℕ → List ℕ) (cs w₀ : List ℕ) where
  pub steps_start : StepsSoFar step cs w₀ w₀ 0
  steps_start = record { to = omega arith; size = refl; rest = refl }

  module _ (w : List ℕ) (j : ℕ) (s : StepsSoFar step cs w₀ w j) where
    pub steps_next : (u : List ℕ) → j < length cs → u ≡ step (get_or cs j 0) w → length (step (get_or cs j 0) w) ≡ length w → StepsSoFar step cs w₀ u (j + 1)
    unfolding each_step
    steps_next u h e same = record { to = omega arith; size = ap length e ∙ same ∙ s.size; rest = s.rest ∙ rw (drop-cons cs j 0 h, e, add-one) refl }

    pub steps_end : length cs ≤ j → w ≡ each_step step cs w₀
    unfolding each_step
    steps_end h = sym (s.rest ∙ ap (λ (l : List ℕ). each_step step l w) (drop_of_length-le cs {i = j} h))

-- the children's words are written by such a loop
pub children_each : (p v b : ℕ) (cs w : List ℕ) → each_step (put_child p v b) cs w ≡ put_children p v b cs w
unfolding each_step put_children
children_each p v b [] w = refl
children_each p v b (c ∷ cs) w = children_each p v b cs (put_child p v b c w)
