-- Document 02, request 5: why a word is missing, for all images and queries. Where it says exact match, request 6 put the lookup.
use Rattle.std.specs.Prelude.{ℕ, ◌+◌, List, [], ◌∷◌, cond, length, ltb, Option, Some, None}
use Rattle.lxtr_spec.specs.Labels.{max_labels, labels_of}
use Rattle.lxtr_spec.specs.Image.{code_of}
use Rattle.lxtr_spec.specs.Refusals.{unless_refused}
use Rattle.lxtr_spec.specs.Walks.{step_by, value_at}
use Rattle.lxtr_spec.specs.Searches.{search_refusal}
use Rattle.lxtr_spec.specs.declared.Reason.{Reason}
use Rattle.lxtr_spec.specs.declared.Reason.TheVariants.{IsFound, NotListed, NoStep, NoKeyEnds, TooLong}

-- A tool takes an image and a query and gives one reason: found; .. all labels walked but no key ends there; ..
-- It answers found exactly when exact match gives a value.
-- (the walk ended at a slot with this value, or none)
unfoldable pub ended_with : Option ℕ → Reason
ended_with None = NoKeyEnds
ended_with (Some v) = IsFound

-- .. a label that isn't listed, with its place; a listed label with no step, with its place; ..
-- (the walk stopped at the label x, whose place is i)
unfoldable pub stopped_at : List ℕ → ℕ → ℕ → Reason
stopped_at b i x = elim (code_of b x) [ None ↦ NotListed i | Some c ↦ NoStep i ]

-- .. the place, counted from 0, is the first at which the walk stops ..
-- (the walk goes on from slot n with the labels that are left, the first of which has place i)
unfoldable pub reason_from : List ℕ → ℕ → ℕ → List ℕ → Reason
reason_from b i n [] = ended_with (value_at b n)
reason_from b i n (x ∷ xs) = elim (step_by b n x) [ None ↦ stopped_at b i x | Some t ↦ reason_from b (i + 1) t xs ]

-- .. too long. Too long comes before walking.
unfoldable pub reason_of : List ℕ → List ℕ → Reason
reason_of b xs = cond (ltb max_labels (length xs)) TooLong (reason_from b 0 1 xs)

-- what is answered: a refusal, or a reason
pub record Why : Type 0 where
  pub refusal : ℕ
  pub reason : Option Reason

-- Refusals: 1 to 8, then 13, no reason and place 0;
unfoldable pub why_of : List ℕ → List ℕ → Why
why_of b q = let reason = reason_of b (labels_of q) in record { refusal = search_refusal b q; reason = unless_refused (search_refusal b q) (Some reason) None }

-- .. the reasons without a place give 0 too.
-- (the number and the place of each reason; document 02 does not number the reasons)
unfoldable pub reason_number : Option Reason → ℕ
reason_number None = 0
reason_number (Some IsFound) = 1
reason_number (Some (NotListed i)) = 2
reason_number (Some (NoStep i)) = 3
reason_number (Some NoKeyEnds) = 4
reason_number (Some TooLong) = 5

unfoldable pub reason_place : Option Reason → ℕ
reason_place None = 0
reason_place (Some IsFound) = 0
reason_place (Some (NotListed i)) = i
reason_place (Some (NoStep i)) = i
reason_place (Some NoKeyEnds) = 0
reason_place (Some TooLong) = 0
