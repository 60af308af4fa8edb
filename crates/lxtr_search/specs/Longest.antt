-- The longest match: how long it may be, and how the last of the matches gives it.
use Rattle.std.specs.Prelude.{ℕ, zero, suc, ◌+◌, ◌*◌, ◌-◌, ◌≤◌, ◌≡◌, refl, List, [], ◌∷◌, ◌++◌, map, length, take, Option, Some, None}
use Rattle.std.proofs.Common.{zero-add, le_refl, sym, arith}
use Rattle.std.proofs.Math.ListN.{length-take}
use Rattle.lxtr_spec.specs.Ranges.{concat_from}
use Rattle.lxtr_spec.specs.Labels.{max_labels, labels_of}
use Rattle.lxtr_spec.specs.Refusals.{unless_refused}
use Rattle.lxtr_spec.specs.Walks.{value_of}
use Rattle.lxtr_spec.specs.Searches.{search_refusal, longest_length, length_match, match_at, matches, prefix_matches, last_length}
use Rattle.lxtr_spec.specs.declared.Match.{Match}
use Rattle.lxtr_laws.specs.RangeTests.{concat_more}
use Rattle.lxtr_laws.specs.QueryLabels.{label_count_lem}
use Rattle.lxtr_search.specs.Matches.{pair_of, counted, all_matches, all_pairs}

-- the length of the last match; n if there is none
abbrev pub last_of : ℕ → List Match → ℕ
last_of n [] = n
last_of n (m ∷ ms) = last_of m.length ms

last_pairs : (ms : List Match) → last_length (map pair_of ms) ≡ last_of 0 ms
unfolding last_length
last_pairs [] = refl
last_pairs (m ∷ []) = refl
last_pairs (m ∷ l ∷ ms) = last_pairs (l ∷ ms)

-- length k if it has a value, otherwise the length before
abbrev later_length : ℕ → ℕ → Option ℕ → ℕ
later_length before k None = before
later_length before k (Some v) = k

last_more : (ms : List (ℕ × ℕ)) (k : ℕ) (o : Option ℕ) → last_length (ms ++ length_match k o) ≡ later_length (last_length ms) k o
unfolding last_length length_match
last_more [] k None = refl
last_more [] k (Some v) = refl
last_more (m ∷ []) k None = refl
last_more (m ∷ []) k (Some v) = refl
last_more (m ∷ l ∷ ms) k o = last_more (l ∷ ms) k o

later_within : (before k n : ℕ) (o : Option ℕ) → before ≤ n → k ≤ n → later_length before k o ≤ n
later_within before k n None h l = h
later_within before k n (Some v) h l = l

-- among the lengths below n, the last match is at most n - 1
last_within : (f : List ℕ → Option ℕ) (xs : List ℕ) (n : ℕ) → last_length (concat_from n 0 (match_at f xs)) ≤ n - 1
unfolding concat_from last_length match_at
last_within f xs zero = omega arith
last_within f xs (suc n) =
    let before = last_length (concat_from n 0 (match_at f xs)) in
    let h : later_length before n (f (take n xs)) ≤ n = later_within before n n (f (take n xs)) (omega (arith, last_within f xs n)) (le_refl n) in
    rw (concat_more (match_at f xs) n 0, zero-add, last_more) (omega (arith, h))

zero_or_less : (k n : ℕ) → unless_refused k n 0 ≤ n
unfolding unless_refused
zero_or_less zero n = le_refl n
zero_or_less (suc k) n = omega arith

module _ (b q : List ℕ) where
  -- the longest match is a part of the query
  longest_within : 4 * last_length (prefix_matches b q) ≤ length q
  unfolding prefix_matches matches
  longest_within = omega (arith, last_within (value_of b) (counted q) (length (counted q) + 1), length-take max_labels (labels_of q), label_count_lem q)

  -- and it has no more labels than those that count
  longest_counted : last_length (prefix_matches b q) ≤ max_labels
  unfolding prefix_matches matches
  longest_counted = omega (arith, last_within (value_of b) (counted q) (length (counted q) + 1), length-take max_labels (labels_of q))

  -- both hold after a refusal too, when the length is 0
  pub longest_bytes : 4 * longest_length b q ≤ length q
  unfolding longest_length
  longest_bytes = omega (arith, zero_or_less (search_refusal b q) (last_length (prefix_matches b q)), longest_within)

  pub longest_limit : longest_length b q ≤ max_labels
  unfolding longest_length
  longest_limit = omega (arith, zero_or_less (search_refusal b q) (last_length (prefix_matches b q)), longest_counted)

  -- n is what the loop over all matches leaves
  module _ (n : ℕ) (last : n ≡ last_of 0 (all_matches b q)) where
    pub longest_is : n ≡ last_length (prefix_matches b q)
    longest_is = rw (last, ← all_pairs b q) (sym (last_pairs (all_matches b q)))

    pub longest_end : 4 * n ≤ length q
    longest_end = omega (arith, longest_is, longest_within)
