-- The prefixes of a query that have a value, as one walk finds them: each slot on the way adds its own match. If the walk stops, no
-- longer prefix has a value.
use Rattle.std.specs.Prelude.{ℕ, Bool, true, false, ltb, suc, ◌+◌, ◌*◌, min, ◌≤◌, ◌≡◌, refl, List, [], ◌∷◌, ◌++◌, map, length, take, Option, Some, None}
use Rattle.std.proofs.Common.{sym, ◌∙◌, arith, le_refl, append-nil, append_assoc, length-append, take_all, length-take}
use Rattle.std.proofs.lemmas.List.{map-append, take-append-le}
use borrow.Author.Tests.{ltb-true, ltb-false}
use Rattle.lxtr_spec.specs.Ranges.{concat_from}
use Rattle.lxtr_spec.specs.Labels.{max_labels, length_count, labels_of}
use Rattle.lxtr_spec.specs.Walks.{step_by, walk, value_at, value_reached, value_of}
use Rattle.lxtr_spec.specs.Searches.{length_match, match_at, matches, prefix_matches}
use Rattle.lxtr_spec.specs.declared.Match.{Match}
use Rattle.lxtr_laws.specs.QueryLabels.{label_count_lem, front_labels}

abbrev pub pair_of : Match → ℕ × ℕ
pair_of m = (m.length, m.value)

-- the match of length k, if there is a value
unfoldable pub match_of : ℕ → Option ℕ → List Match
match_of k None = []
match_of k (Some v) = record { length = k; value = v } ∷ []

-- the slot that a walk reaches from this slot, if any, by the next label, if any
abbrev pub slot_after : List ℕ → Option ℕ → Option ℕ → Option ℕ
slot_after b None l = None
slot_after b (Some n) None = None
slot_after b (Some n) (Some x) = step_by b n x

-- the matches of a walk that has reached this slot, if any, by k labels, and has the labels xs left
unfoldable pub matches_on : List ℕ → Option ℕ → ℕ → List ℕ → List Match
matches_on b None k xs = []
matches_on b (Some n) k [] = match_of k (value_at b n)
matches_on b (Some n) k (x ∷ xs) = match_of k (value_at b n) ++ matches_on b (step_by b n x) (k + 1) xs

-- those after the one at the slot
unfoldable pub matches_after : List ℕ → ℕ → ℕ → List ℕ → List Match
matches_after b n k [] = []
matches_after b n k (x ∷ xs) = matches_on b (step_by b n x) (k + 1) xs

-- the labels of a query that count
abbrev pub counted : List ℕ → List ℕ
counted q = take max_labels (labels_of q)

-- the matches of a query
unfoldable pub all_matches : List ℕ → List ℕ → List Match
all_matches b q = matches_on b (Some 1) 0 (counted q)

one_pair : (k : ℕ) (o : Option ℕ) → map pair_of (match_of k o) ≡ length_match k o
unfolding match_of length_match
one_pair k None = refl
one_pair k (Some v) = refl

module _ (b : List ℕ) where
  one_label : (o : Option ℕ) (x : ℕ) (f : ℕ → Option ℕ) → f ≡ (λ t. Some t) → elim o as (λ _. Option ℕ) [ None ↦ None | Some t ↦ f t ] ≡ o
  one_label None x f e = refl
  one_label (Some t) x f e = rw e

  later_labels : (o : Option ℕ) (x : ℕ) (f g : ℕ → Option ℕ) → ((t : ℕ) → f t ≡ slot_after b (g t) (Some x))
      → elim o as (λ _. Option ℕ) [ None ↦ None | Some t ↦ f t ] ≡ slot_after b (elim o as (λ _. Option ℕ) [ None ↦ None | Some t ↦ g t ]) (Some x)
  later_labels None x f g h = refl
  later_labels (Some t) x f g h = h t

  walk_longer : (n : ℕ) (ys : List ℕ) (x : ℕ) → walk b n (ys ++ x ∷ []) ≡ slot_after b (walk b n ys) (Some x)
  unfolding walk
  walk_longer n [] x = one_label (step_by b n x) x (λ t. Some t) refl
  walk_longer n (y ∷ ys) x = later_labels (step_by b n y) x (λ t. walk b t (ys ++ x ∷ [])) (λ t. walk b t ys) (λ t. walk_longer t ys x)

  at_end : (k : ℕ) (o : Option ℕ) → map pair_of (matches_on b o k []) ≡ length_match k (value_reached b o)
  unfolding matches_on value_reached length_match
  at_end k None = refl
  at_end k (Some n) = one_pair k (value_at b n)

  at_label : (k : ℕ) (o : Option ℕ) (x : ℕ) (xs : List ℕ) → map pair_of (matches_on b o k (x ∷ xs)) ≡ length_match k (value_reached b o) ++ map pair_of (matches_on b (slot_after b o (Some x)) (k + 1) xs)
  unfolding matches_on value_reached length_match
  at_label k None x xs = refl
  at_label k (Some n) x xs = rw (map-append, one_pair)

  -- the matches of a walk that has reached what the labels ys reach, with the labels xs left
  on_pairs : (ys xs : List ℕ) → map pair_of (matches_on b (walk b 1 ys) (length ys) xs) ≡ concat_from (length xs + 1) (length ys) (match_at (value_of b) (ys ++ xs))
  unfolding concat_from match_at value_of
  on_pairs ys [] = rw (append-nil ys, take_all (length ys) ys (le_refl (length ys)), append-nil (length_match (length ys) (value_reached b (walk b 1 ys)))) (at_end (length ys) (walk b 1 ys))
  on_pairs ys (x ∷ xs) =
      let more : length (x ∷ xs) + 1 ≡ suc (length xs + 1) = omega arith in
      let count : length (ys ++ x ∷ []) ≡ length ys + 1 = omega (arith, length-append ys (x ∷ [])) in
      let front : take (length ys) (ys ++ x ∷ xs) ≡ ys = take-append-le (length ys) ys (x ∷ xs) (le_refl (length ys)) ∙ take_all (length ys) ys (le_refl (length ys)) in
      let rest = rw (walk_longer 1 ys x, count, append_assoc) at (on_pairs (ys ++ x ∷ []) xs) in
      rw (at_label, more, front, rest)

module _ (b q : List ℕ) where
  pub all_pairs : map pair_of (all_matches b q) ≡ prefix_matches b q
  unfolding all_matches prefix_matches matches walk
  all_pairs = on_pairs b [] (counted q)

-- the match at the slot, and then those after it
on_slot : (b : List ℕ) (n k : ℕ) (xs : List ℕ) → matches_on b (Some n) k xs ≡ match_of k (value_at b n) ++ matches_after b n k xs
unfolding matches_on matches_after
on_slot b n k [] = sym (append-nil (match_of k (value_at b n)))
on_slot b n k (x ∷ xs) = refl

-- the labels that are left are x and then ys; r is what the step by x answered
module _ (b : List ℕ) (n k x : ℕ) (xs ys : List ℕ) (all : List Match) (r : Option ℕ) (before : matches_after b n k xs ≡ all) (next : xs ≡ x ∷ ys) (step : r ≡ step_by b n x) where
  pub turn_stopped : r ≡ None → all ≡ []
  unfolding matches_after matches_on
  turn_stopped e = rw (← before, next, ← step, e)

  turn_on : (t : ℕ) → r ≡ Some t → match_of (k + 1) (value_at b t) ++ matches_after b t (k + 1) ys ≡ all
  unfolding matches_after
  turn_on t e = rw (← before, next, ← step, e) (sym (on_slot b t (k + 1) ys))

  -- v is the value at the slot that is reached
  module _ (t : ℕ) (v : Option ℕ) (reached : r ≡ Some t) (value : v ≡ value_at b t) where
    pub turn_found : (w : ℕ) → v ≡ Some w → all ≡ record { length = k + 1; value = w } ∷ matches_after b t (k + 1) ys
    unfolding match_of
    turn_found w e = rw (← turn_on t reached, ← value, e)

    pub turn_passed : v ≡ None → matches_after b t (k + 1) ys ≡ all
    unfolding match_of
    turn_passed e = rw (← turn_on t reached, ← value, e)

at_most_one : (k : ℕ) (o : Option ℕ) → length (match_of k o) ≤ 1
unfolding match_of
at_most_one k None = omega arith
at_most_one k (Some v) = omega arith

pub on_count : (b : List ℕ) (o : Option ℕ) (k : ℕ) (xs : List ℕ) → length (matches_on b o k xs) ≤ length xs + 1
unfolding matches_on
on_count b None k xs = omega arith
on_count b (Some n) k [] = at_most_one k (value_at b n)
on_count b (Some n) k (x ∷ xs) = simp length-append (omega (arith, at_most_one k (value_at b n), on_count b (step_by b n x) (k + 1) xs))

-- the labels that count are those of the front part of the query
module _ (q : List ℕ) (e : ℕ) (end : e ≡ min (length q) (4 * max_labels)) where
  pub counted_front : labels_of (take e q) ≡ counted q
  counted_front = go (ltb (4 * max_labels) (length q)) refl
    where
      go : (long : Bool) → ltb (4 * max_labels) (length q) ≡ long → labels_of (take e q) ≡ counted q
      go true l = let same : e ≡ 4 * max_labels = omega (arith, ltb-true (4 * max_labels) (length q) l) in rw same (front_labels q max_labels (omega (arith, ltb-true (4 * max_labels) (length q) l)))
      go false l =
          let few = ltb-false (4 * max_labels) (length q) l in
          let same : e ≡ length q = omega arith in
          rw (same, take_all (length q) q (le_refl (length q)), take_all max_labels (labels_of q) (omega (arith, label_count_lem q)))

  pub counted_few : length (labels_of (take e q)) ≤ max_labels
  counted_few = rw counted_front (omega (arith, length-take max_labels (labels_of q)))

-- the matches of a query are that of the empty prefix and those after it, with the labels xs that count; there are no more than possible
-- lengths
module _ (b q xs : List ℕ) (counts : xs ≡ counted q) where
  pub all_after : match_of 0 (value_at b 1) ++ matches_after b 1 0 xs ≡ all_matches b q
  unfolding all_matches
  all_after = rw (← on_slot, counts)

  pub all_limit : length (all_matches b q) ≤ length_count
  unfolding all_matches
  all_limit = omega (arith, on_count b (Some 1) 0 (counted q), length-take max_labels (labels_of q))
