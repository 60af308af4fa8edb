-- Demand 2 for the searches and completions, from its parts.
-- The set of an image is what lookup finds in it, and on that the searches agree even without the check.
use Rattle.std.specs.Prelude.{ℕ, ◌+◌, ◌-◌, ◌≡◌, List, length}
use Rattle.std.proofs.Common.{arith, ◌∙◌, subst}
use Rattle.std.proofs.Math.Path.{fun_ext}
use Rattle.lxtr_spec.specs.Labels.{labels_of}
use Rattle.lxtr_spec.specs.Refusals.{unless_refused}
use Rattle.lxtr_spec.specs.Searches.{case_within, value_within, lookup_of}
use Rattle.lxtr_spec.specs.Completions.{pairs_below, fitting}
use Rattle.lxtr_spec.specs.Sets.{PairSet}
use Rattle.lxtr_demands.specs.Operations.{defined}
use Rattle.lxtr_demands.specs.Demand2.{Searched, Demand2}
use Rattle.lxtr_demands.specs.Laws.Kinds.{KnownImage}
use Rattle.lxtr_demands.specs.Laws.Images.{known_image}
use Rattle.lxtr_demands.specs.Laws.Queries.{leads, value_led}
use Rattle.lxtr_demands.specs.Laws.Lookups.{one_case, true_case}
use Rattle.lxtr_demands.specs.Laws.Searches.{value_reached_lem, searches_agree}
use Rattle.lxtr_demands.specs.Laws.CodeOrder.{one_listing}
use Rattle.lxtr_demands.specs.Laws.Rooms.{some_front, one_front}
use Rattle.lxtr_demands.specs.Laws.Completions.{pairs_listed, search_passes, completes}

-- the set of an image is what lookup finds
pub lookup_set : {b : List ℕ} {d : PairSet} → KnownImage b d → value_within b ≡ d
lookup_set {b} known = fun_ext (λ xs. value_reached_lem b xs ∙ value_led known xs (leads known xs))

pub demand2 : Demand2 defined
unfolding lookup_of unless_refused
demand2 b d q image whole =
    let passes = search_passes image q whole in
    let known = known_image image in
    record {
      searched = subst (λ e. Searched defined b e q (labels_of q)) (lookup_set known) (searches_agree b q passes);
      lookup = λ c is. rw (passes, one_case d (labels_of q) (case_within b (labels_of q)) c (true_case known (labels_of q)) is);
      one_case = one_case d (labels_of q);
      some_case = (case_within b (labels_of q), true_case known (labels_of q));
      one_listing = one_listing b d (labels_of q);
      some_listing = (pairs_below b (labels_of q), pairs_listed known (labels_of q));
      completion = λ ps fit room l h f. completes image q whole room ps fit h l f;
      some_front = λ ps room h. (fitting (length room - 5) ps, let all : 5 + (length room - 5) ≡ length room = omega arith in rw all at (some_front (length room - 5) ps));
      one_front = λ ps fit other room. one_front (length room) ps fit other;
    }
