-- The matches found, and those that are left, are all matches.
use Rattle.std.proofs.Common.{◌≡◌, ◌≤◌, ◌++◌, length}
use Rattle.lxtr_spec.specs.Labels.{length_count}
use Rattle.lxtr_search.specs.Matches.{all_matches}
use Rattle.lxtr_search.proofs.matches.put_prefixes.Given as goal

abbrev pub invariant-loop-m : goal.invariant-loop-m
invariant-loop-m l = (l.found ++ l.m-iterator ≡ all_matches l.image l.query) × (length (all_matches l.image l.query) ≤ length_count)
