-- If 1 to 8 and 13 refuse nothing, the searches agree on the pairs that lookup finds.
-- Within the limit no walk is cut short, so the values by which prefixes are defined are lookup's.
use Rattle.std.specs.Prelude.{ℕ, ◌+◌, ◌*◌, ◌%◌, ◌≤◌, ◌≡◌, refl, List, Option, Some, None}
use Rattle.std.proofs.Common.{arith, sym, ◌∙◌}
use Rattle.std.proofs.Math.Path.{ap, fun_ext}
use Rattle.std.proofs.Math.ListN.{length, take, length-take}
use Rattle.std.proofs.Math.Seq.{length-take-le}
use Rattle.lxtr_spec.specs.Ranges.{concat_from}
use Rattle.lxtr_spec.specs.Labels.{max_labels, labels_of}
use Rattle.lxtr_spec.specs.Refusals.{unless_refused, header_refusal}
use Rattle.lxtr_spec.specs.Walks.{walk_within, value_reached, value_of}
use Rattle.lxtr_spec.specs.Searches.{query_refusal, search_refusal, case_within, value_within, lookup_of, length_match, match_at, matches, prefix_matches, prefixes_of, last_length, longest_length, longest_of}
use Rattle.lxtr_spec.specs.Sets.{Has}
use Rattle.lxtr_spec.specs.Meaning.{PrefixesIn, LongestIn}
use Rattle.lxtr_laws.specs.RefusalChains.{none_first}
use Rattle.lxtr_laws.specs.StepFacts.{none_not_some}
use Rattle.lxtr_laws.specs.QueryLabels.{front_labels}
use Rattle.lxtr_laws.specs.Cases.{value_there}
use Rattle.lxtr_laws.specs.SearchReturns.{query_passes}
use Rattle.lxtr_laws.specs.Walking.{within, within_is}
use Rattle.lxtr_demands.specs.Demand2.{GivesValue, SearchesAgree}
use Rattle.lxtr_demands.specs.Operations.{defined}
use Rattle.lxtr_demands.specs.Laws.Prefixes.{prefixes_in, one_prefixes, longest_in, one_longest}

module _ (b : List ℕ) where
  pub value_reached_lem : (k : List ℕ) → value_within b k ≡ value_reached b (walk_within b k)
  unfolding value_within case_within
  value_reached_lem k = value_there b (walk_within b k)

  -- lookup finds no value beyond the limit
  reached_limit : (k : List ℕ) (v : ℕ) (o : Option ℕ) → walk_within b k ≡ o → value_reached b o ≡ Some v → length k ≤ max_labels
  unfolding value_reached
  reached_limit k v None e h = absurd (none_not_some h)
  reached_limit k v (Some t) e h = ((within_is b k t).0 e).0

  pub value_limit_lem : (k : List ℕ) (v : ℕ) → Has (value_within b) k v → length k ≤ max_labels
  value_limit_lem k v h = reached_limit k v (walk_within b k) refl (sym (value_reached_lem k) ∙ h)

  -- and within the limit it finds what the walk gives
  pub value_within_lem : (k : List ℕ) → length k ≤ max_labels → value_within b k ≡ value_of b k
  unfolding value_of
  value_within_lem k h = value_reached_lem k ∙ ap (value_reached b) (within b k h)

  same_matches : (xs : List ℕ) → matches (value_within b) (take max_labels xs) ≡ matches (value_of b) (take max_labels xs)
  unfolding matches match_at
  same_matches xs =
      let ys = take max_labels xs in
      ap (concat_from (length ys + 1) 0) (fun_ext (λ k. ap (length_match k) (value_within_lem (take k ys) (omega (arith, length-take k ys, length-take max_labels xs)))))

  module _ (q : List ℕ) where
    matches_in : PrefixesIn (value_within b) (labels_of q) (prefix_matches b q)
    unfolding prefix_matches
    matches_in = rw (← (same_matches (labels_of q))) (prefixes_in (value_within b) value_limit_lem (labels_of q))

    longest_found : LongestIn (value_within b) (labels_of q) (last_length (prefix_matches b q))
    longest_found = longest_in (value_within b) (labels_of q) (prefix_matches b q) matches_in

    -- a front part of a query that is not refused is not refused either
    front_passes : (n : ℕ) → 4 * n ≤ length q → search_refusal b q ≡ 0 → search_refusal b (take (4 * n) q) ≡ 0
    unfolding search_refusal
    front_passes n h e =
        let whole : length (take (4 * n) q) % 4 ≡ 0 = omega (arith, length-take-le (4 * n) q h) in
        (none_first (header_refusal b) (query_refusal (take (4 * n) q))).1 (((none_first (header_refusal b) (query_refusal q)).0 e).0, (query_passes (take (4 * n) q)).1 whole)

    gives_value : search_refusal b q ≡ 0 → GivesValue defined b q (value_within b (labels_of q))
    unfolding lookup_of value_within unless_refused
    gives_value passes = record { refusal = passes; value = rw passes }

pub searches_agree : SearchesAgree
unfolding prefixes_of longest_length longest_of unless_refused
searches_agree b q passes =
    let d = value_within b in
    let xs = labels_of q in
    record {
      lookup_value = gives_value b q passes;
      front_value = λ n h. rw (front_labels q n h) at (gives_value b (take (4 * n) q) (front_passes b q n h passes));
      prefixes = λ ms p. rw (passes, one_prefixes d xs (prefix_matches b q) ms (matches_in b q) p);
      one_prefixes = one_prefixes d xs;
      some_prefixes = (prefix_matches b q, matches_in b q);
      longest = λ n l. rw (passes, one_longest d xs (last_length (prefix_matches b q)) n (longest_found b q) l);
      one_longest = one_longest d xs;
      some_longest = (last_length (prefix_matches b q), longest_found b q);
    }
