-- What a build comes to, refusal by refusal: one that is given ends it, and one that is not given leaves it to the next.
use Rattle.std.specs.Prelude.{ℕ, zero, suc, ◌≤◌, ◌<◌, ◌≡◌, List, ◌++◌, Bool, true, false, length, drop, Some, None}
use Rattle.std.proofs.Common.{sym, ◌∙◌, lt-ltb, le-ltb}
use Rattle.std.proofs.Math.Path.{ap}
use Rattle.lxtr_spec.specs.Labels.{max_listed}
use Rattle.lxtr_spec.specs.KeyLists.{list_refusal, pairs_of}
use Rattle.lxtr_spec.specs.CodeMaps.{map_of}
use Rattle.lxtr_spec.specs.Builds.{slots_used, image_in, slots_in, placed_in, Outcome, refuses, builds, with_room, from_placed, from_labels, from_keys, outcome_of, answered, work_after, build_of}

module _ (W R : ℕ) (keys : List ℕ) where
  abbrev labels : List ℕ
  labels = map_of (pairs_of keys)

  abbrev after_words : Bool → Outcome
  after_words t = elim t as (λ _. Outcome) [ true ↦ refuses 21 | false ↦ from_keys W R keys ]

  pub words_few : W < 4 → outcome_of W R keys ≡ refuses 21
  unfolding outcome_of
  words_few h = ap after_words (lt-ltb W 4 h)

  words_enough : 4 ≤ W → outcome_of W R keys ≡ from_keys W R keys
  unfolding outcome_of
  words_enough h = ap after_words (le-ltb W 4 h)

  abbrev after_list : ℕ → Outcome
  after_list n = elim n as (λ _. Outcome) [ zero ↦ from_labels W R (pairs_of keys) labels | suc k ↦ refuses (suc k) ]

  pub list_refused : 4 ≤ W → (k : ℕ) → list_refusal keys ≡ suc k → outcome_of W R keys ≡ refuses (suc k)
  unfolding from_keys
  list_refused h k e = words_enough h ∙ ap after_list e

  module _ (words : 4 ≤ W) (right : list_refusal keys ≡ 0) where
    list_right : outcome_of W R keys ≡ from_labels W R (pairs_of keys) labels
    unfolding from_keys
    list_right = words_enough words ∙ ap after_list right

    abbrev after_labels : Bool → Outcome
    after_labels t = elim t as (λ _. Outcome) [ true ↦ refuses 20 | false ↦ from_placed (slots_in W) R labels (placed_in W (pairs_of keys) labels) ]

    pub labels_many : max_listed < length labels → outcome_of W R keys ≡ refuses 20
    unfolding from_labels
    labels_many h = list_right ∙ ap after_labels (lt-ltb max_listed (length labels) h)

    module _ (few : length labels ≤ max_listed) where
      labels_few : outcome_of W R keys ≡ from_placed (slots_in W) R labels (placed_in W (pairs_of keys) labels)
      unfolding from_labels
      labels_few = list_right ∙ ap after_labels (le-ltb max_listed (length labels) few)

      pub none_placed : placed_in W (pairs_of keys) labels ≡ None → outcome_of W R keys ≡ refuses 22
      unfolding from_placed
      none_placed e = labels_few ∙ ap (from_placed (slots_in W) R labels) e

      module _ (w image : List ℕ) (placed : placed_in W (pairs_of keys) labels ≡ Some w) (is : image ≡ image_in w (slots_used w (slots_in W)) labels) where
        all_placed : outcome_of W R keys ≡ with_room R image
        unfolding from_placed
        all_placed = labels_few ∙ ap (from_placed (slots_in W) R labels) placed ∙ ap (with_room R) (sym is)

        abbrev after_room : Bool → Outcome
        after_room t = elim t as (λ _. Outcome) [ true ↦ refuses 23 | false ↦ builds image ]

        pub room_short : R < length image → outcome_of W R keys ≡ refuses 23
        unfolding with_room
        room_short h = all_placed ∙ ap after_room (lt-ltb R (length image) h)

        pub room_enough : length image ≤ R → outcome_of W R keys ≡ builds image
        unfolding with_room
        room_enough h = all_placed ∙ ap after_room (le-ltb R (length image) h)

-- ---- the call

module _ (keys work out : List ℕ) where
  pub call_refuses : (k : ℕ) → outcome_of (length work) (length out) keys ≡ refuses k
      → build_of keys work out ≡ record { answer = record { refusal = k; length = 0 }; output = out; work = work_after work }
  unfolding build_of answered
  call_refuses k e = rw (e, answered)

  pub call_builds : (image : List ℕ) → outcome_of (length work) (length out) keys ≡ builds image
      → build_of keys work out ≡ record { answer = record { refusal = 0; length = length image }; output = image ++ drop (length image) out; work = work_after work }
  unfolding build_of answered
  call_builds image e = rw (e, answered)
