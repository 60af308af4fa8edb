-- The last of the matches that are left, or the length so far, is the last of all.
use Rattle.std.proofs.Common.{◌≡◌}
use Rattle.lxtr_search.specs.Matches.{all_matches}
use Rattle.lxtr_search.specs.Longest.{last_of}
use Rattle.lxtr_search.proofs.longest.Given as goal

abbrev pub invariant-loop-m : goal.invariant-loop-m
invariant-loop-m l = last_of l.length l.m-iterator ≡ last_of 0 (all_matches l.image l.query)
