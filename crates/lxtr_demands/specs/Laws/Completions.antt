-- Completion over an image lists, for any query, the pairs of the set whose keys begin with its labels, as far as there is room.
-- If the labels lead nowhere, there are none.
use Rattle.std.specs.Prelude.{ℕ, ◌+◌, ◌-◌, ◌%◌, ◌≤◌, ◌≡◌, List, ◌++◌, drop, ltb, Option}
use native.Mathlib.Omega.{arith}
use Rattle.std.proofs.Common.{inr}
use mathlib.Core.List.Memᴰ
use Rattle.std.proofs.Math.ListN.{length}
use borrow.Author.Tests.{le-ltb}
use Rattle.lxtr_spec.specs.Labels.{length_count, labels_of, Pair}
use Rattle.lxtr_spec.specs.Refusals.{refuse_if, first_refusal, unless_refused}
use Rattle.lxtr_spec.specs.Searches.{search_refusal}
use Rattle.lxtr_spec.specs.Completions.{pairs_at, pairs_below, fitting, listing_of, listed_in, room_for, completion_answer, written, completion_refusal, completion_of}
use Rattle.lxtr_spec.specs.Sets.{PairSet, ImageOf}
use Rattle.lxtr_spec.specs.Meaning.{Ordered, Lists, FittingFront}
use Rattle.lxtr_laws.specs.Faults.{parts_pass}
use Rattle.lxtr_laws.specs.SearchReturns.{query_passes}
use Rattle.lxtr_demands.specs.Laws.Kinds.{KnownImage}
use Rattle.lxtr_demands.specs.Laws.Images.{image_passes, known_image}
use Rattle.lxtr_demands.specs.Laws.CodeOrder.{one_listing}
use Rattle.lxtr_demands.specs.Laws.Listings.{listing}
use Rattle.lxtr_laws.specs.Lengths.{listing_length}
use Rattle.lxtr_demands.specs.Laws.Rooms.{fitting_is}
use Rattle.lxtr_demands.specs.Laws.Queries.{Leads, to_slot, nowhere, leads}

pub pairs_listed : {b : List ℕ} {d : PairSet} (known : KnownImage b d) (xs : List ℕ) → Lists b d xs (pairs_below b xs)
unfolding pairs_below pairs_at Ordered
pairs_listed {b} {d} known xs = go (leads known xs)
  where
    go : {o : Option ℕ} → Leads d known.image.slot xs o → Lists b d xs (pairs_at b xs o)
    go (to_slot f) = listing known xs f (length_count - length xs) (omega arith)
    go (nowhere n) = record { ordered = tt; all = λ r v h. absurd (n (record { is = inr (r, v, h) })); only = λ k v m. absurd (Memᴰ.not-nil m) }

module _ {b : List ℕ} {d : PairSet} (image : ImageOf b d) where
  module _ (q : List ℕ) (whole : length q % 4 ≡ 0) where
    pub search_passes : search_refusal b q ≡ 0
    unfolding search_refusal first_refusal
    search_passes = rw (parts_pass b (image_passes image)).0 ((query_passes q).1 whole)

    completion_passes : (room : List ℕ) → 5 ≤ length room → completion_refusal b q room ≡ 0
    unfolding completion_refusal first_refusal refuse_if
    completion_passes room h = rw (search_passes, (parts_pass b (image_passes image)).1, le-ltb (length room) 5 h)

    -- the front part of the pairs that has room
    pub completes : (room : List ℕ) (ps fit : List Pair) → 5 ≤ length room → Lists b d (labels_of q) ps → FittingFront (length room) ps fit
        → completion_of b q room ≡ record { answer = record { refusal = 0; count = length fit; stopped = ltb (length fit) (length ps) }; room = listing_of fit ++ drop (room_for fit) room }
    unfolding completion_of completion_answer unless_refused written listed_in
    completes room ps fit h l f =
        let same : pairs_below b (labels_of q) ≡ ps = one_listing b d (labels_of q) (pairs_below b (labels_of q)) ps (pairs_listed (known_image image) (labels_of q)) l in
        let all : 5 + (length room - 5) ≡ length room = omega arith in
        let front : fitting (length room - 5) ps ≡ fit = fitting_is (length room - 5) ps fit (rw all f) in
        rw (completion_passes room h, same, front, listing_length fit)
