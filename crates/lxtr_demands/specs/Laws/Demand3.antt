-- Demand 3, from its parts: bytes that pass are an image of the set that walks find in them, and an image has no other set.
-- The answers of the check and of completion both follow from the one list of its pairs in code order.
use Rattle.std.specs.Prelude.{ℕ, refl, List, [], length}
use Rattle.std.proofs.Common.{arith, sym, ◌∙◌, le_refl, le-ltb}
use Rattle.lxtr_spec.specs.Labels.{labels_of, labels_from}
use Rattle.lxtr_spec.specs.Refusals.{unless_refused, image_refusal, end_count, check_of}
use Rattle.lxtr_spec.specs.Walks.{value_of}
use Rattle.lxtr_spec.specs.Completions.{pairs_below}
use Rattle.lxtr_demands.specs.Operations.{defined}
use Rattle.lxtr_demands.specs.Demand3.{Demand3}
use Rattle.lxtr_demands.specs.Laws.Images.{image_passes, image_set, known_image, passed_image}
use Rattle.lxtr_demands.specs.Laws.CodeOrder.{one_listing}
use Rattle.lxtr_demands.specs.Laws.Counts.{listing_counted}
use Rattle.lxtr_laws.specs.RefusalChains.{stands}
use Rattle.lxtr_laws.specs.Lengths.{room_from}
use Rattle.lxtr_demands.specs.Laws.Rooms.{whole_front}
use Rattle.lxtr_demands.specs.Laws.Completions.{pairs_listed, completes}

pub demand3 : (b : List ℕ) → Demand3 defined b
unfolding check_of unless_refused labels_of labels_from
demand3 b = record {
  passes = (λ e. (value_of b, passed_image b e), λ i. image_passes i.1);
  one_set = λ d e i j. image_set i ∙ sym (image_set j);
  listing = λ d i. (pairs_below b [], pairs_listed (known_image i) []);
  one_listing = λ d ps rs. one_listing b d [] ps rs;
  answer = λ d ps i l. rw (image_passes i, listing_counted (known_image i) ps l);
  refused = λ h. stands (image_refusal b) (end_count b) 0 h;
  completion = λ d ps room i l h. rw (completes i [] refl room ps ps (omega (arith, room_from ps)) l (whole_front (length room) ps h), le-ltb (length ps) (length ps) (le_refl (length ps)));
}
