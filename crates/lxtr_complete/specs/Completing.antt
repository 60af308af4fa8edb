-- Completion as the code makes it: the refusals, the labels of the prefix in a path, the listing below the slot that they reach.
use Rattle.std.specs.Prelude.{ℕ, ◌-◌, ◌^◌, ◌≤◌, ◌<◌, ◌≡◌, refl, List, [], ◌∷◌, length, take, Some, None, Option, is_none}
use Rattle.std.proofs.Math.Path.{sym, ap}
use Rattle.std.proofs.Common.{◌∙◌, arith, lit<}
use Rattle.std.proofs.Math.Bool.{false}
use borrow.Author.Tests.{lt-ltb, le-ltb}
use Rattle.lxtr_spec.specs.Numbers.{be_bytes}
use Rattle.lxtr_spec.specs.Labels.{max_labels, length_count, labels_of}
use Rattle.lxtr_spec.specs.Image.{slot_count}
use Rattle.lxtr_spec.specs.Refusals.{refuse_if, first_refusal, unless_refused, body_refusal}
use Rattle.lxtr_spec.specs.Walks.{walk_within}
use Rattle.lxtr_spec.specs.Searches.{search_refusal}
use Rattle.lxtr_spec.specs.Completions.{list_from, pairs_at, pairs_below, CompletionAnswer, completion_answer, written, completion_refusal, completion_of}
use Rattle.lxtr_laws.specs.RefusalChains.{first_stands, stands}
use Rattle.lxtr_laws.specs.Facts.{Accepted}
use Rattle.lxtr_laws.specs.Stepping.{found_is, found_none}
use Rattle.lxtr_spec.specs.declared.Listing.{Listing}
use Rattle.lxtr_laws.specs.Overlays.{over}
use Rattle.lxtr_laws.specs.Walking.{within_allowed, within_below}
use Rattle.lxtr_laws.specs.ListEntries.{accepted_passed}
use Rattle.lxtr_complete.specs.RecordWriting.{State, state, place, place_told, after, room_after}
use Rattle.lxtr_complete.specs.declared.records.Records.{Records}
use Rattle.lxtr_complete.specs.Answers.{listing_given, state_of}
use Rattle.lxtr_complete.specs.Written.{after_count, written_done}
use Rattle.lxtr_complete.specs.Amounts.{list_few}
use Rattle.lxtr_complete.specs.Listing.{ListReady}

-- the pairs below the slot that the walk reached; f is the walk's answer
module _ (b xs : List ℕ) (f : Option ℕ) (answer : f ≡ walk_within b xs) where
  pub pairs_none : f ≡ None → pairs_below b xs ≡ []
  unfolding pairs_below pairs_at
  pairs_none h = rw (found_none f (walk_within b xs) answer h)

  module _ (n : ℕ) (reached : f ≡ Some n) where
    pairs_some : pairs_below b xs ≡ list_from b (length_count - length xs) n xs
    unfolding pairs_below pairs_at
    pairs_some = rw (found_is f n (walk_within b xs) answer reached)

    pub few_labels : length xs ≤ max_labels
    few_labels = within_allowed b xs f n answer reached

    -- m is how many labels there are, and the path has them at its front
    module _ (m : ℕ) (path : List ℕ) (count : m ≡ length xs) where
      pub list_ready : n < slot_count b → length path ≡ length_count → ListReady b (length_count - m) n path
      list_ready slot long = record { slot_below = slot; labels_left = omega arith; path_long = long }

      pub pairs_listed : take (length xs) path ≡ xs → list_from b (length_count - m) n (take (length_count - (length_count - m)) path) ≡ pairs_below b xs
      pairs_listed labels = let z : length_count - (length_count - m) ≡ length xs = omega (arith, few_labels) in rw (z, labels, count) (sym pairs_some)

-- there are few of them
pub pairs_few : (b xs : List ℕ) → Accepted b → length (pairs_below b xs) < 2 ^ 24
pairs_few b xs ok = go (walk_within b xs) refl
  where
    go : (f : Option ℕ) → walk_within b xs ≡ f → length (pairs_below b xs) < 2 ^ 24
    go None e = rw (pairs_none b xs None (sym e) refl) (lit< tt)
    go (Some n) e = rw (pairs_some b xs (Some n) (sym e) n refl) (list_few b ok (length_count - length xs) n xs (within_below b xs (Some n) n (sym e) (accepted_passed ok) refl) (omega arith))

-- the listing: r is the records before any is written, and r' once all are
module _ (b xs room : List ℕ) (r r' : Records) (enough : 5 ≤ length room) (at : r.room.now ≡ room) (end : r.end ≡ Some 5) (none : r.count ≡ 0) (listed : state_of r' ≡ after (state_of r) (pairs_below b xs)) where
  all_listed : state_of r' ≡ after (state room 5 0) (pairs_below b xs)
  all_listed = listed ∙ rw (at, end, none)

  pub room_left : 5 ≤ length r'.room.now
  room_left = omega (arith, ap (λ (t : State). length t.room) all_listed, room_after (state room 5 0) (pairs_below b xs) (record { at_in = enough; count_in = λ _. omega arith }))

  pub count_fits : Accepted b → r'.count < 2 ^ 32
  count_fits ok = omega (arith, pairs_few b xs ok, after_count room r'.room.now (pairs_below b xs) (place r'.end) r'.count enough all_listed)

  -- the room is room' once version and count are written, and l is the answer
  pub pairs_done : (room' : List ℕ) (s : Records) (l : Listing) → s.room.now ≡ over r'.room.now 0 (1 ∷ be_bytes r'.count) → l.count ≡ r'.count → l.stopped ≡ is_none r'.end → room' ≡ s.room.now
      → ◌≡◌ {A = CompletionAnswer} (record { answer = listing_given l; room = room' }) (written room (pairs_below b xs))
  unfolding completion_answer
  pairs_done room' s l head count stopped same =
      rw (count, stopped ∙ place_told r'.end (length r'.room.now) r'.count r'.in_room) (written_done room r'.room.now room' (pairs_below b xs) (place r'.end) r'.count enough all_listed (same ∙ head))

module _ (b q room : List ℕ) where
  -- r is the refusal of the search, and k that of 9 to 12
  module _ (r : ℕ) (first : r ≡ search_refusal b q) where
    pub search_stands : (r ≡ 0 → ⊥) → r ≡ completion_refusal b q room
    unfolding completion_refusal
    search_stands h = rw (← first) (sym (first_stands r _ h))

    module _ (k : ℕ) (z : r ≡ 0) (body : k ≡ body_refusal b) where
      pub body_stands : (k ≡ 0 → ⊥) → k ≡ completion_refusal b q room
      unfolding completion_refusal first_refusal
      body_stands h = rw (sym first ∙ z, ← body) (sym (first_stands k _ h))

      pub room_refused : k ≡ 0 → length room < 5 → 14 ≡ completion_refusal b q room
      unfolding completion_refusal first_refusal refuse_if
      room_refused y h = rw (sym first ∙ z, sym body ∙ y, lt-ltb (length room) 5 h)

      pub completion_allowed : k ≡ 0 → 5 ≤ length room → 0 ≡ completion_refusal b q room
      unfolding completion_refusal first_refusal refuse_if
      completion_allowed y h = rw (sym first ∙ z, sym body ∙ y, le-ltb (length room) 5 h)

  -- r is the refusal of completion
  module _ (r : ℕ) (known : r ≡ completion_refusal b q room) where
    pub completion_refused : (r ≡ 0 → ⊥) → completion_answer r 0 false room ≡ completion_of b q room
    unfolding completion_of
    completion_refused h = rw (← known, stands r (written room (pairs_below b (labels_of q))) (completion_answer r 0 false room) h)

    pub completion_passed : (a : CompletionAnswer) → r ≡ 0 → a ≡ written room (pairs_below b (labels_of q)) → a ≡ completion_of b q room
    unfolding completion_of unless_refused
    completion_passed a z e = rw (sym known ∙ z) e
