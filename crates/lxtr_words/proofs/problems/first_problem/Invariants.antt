-- No line before this one has a problem, so the lines starting here decide.
use Rattle.std.proofs.Common.{◌+◌, ◌-◌, length}
use Rattle.lxtr_words.specs.Problems.{NoneBefore}
use Rattle.lxtr_words.proofs.problems.first_problem.Given as goal

abbrev pub invariant-loop-at : goal.invariant-loop-at
invariant-loop-at l = NoneBefore l.text l.number l.at

abbrev pub decreases-loop-at : goal.decreases-loop-at
decreases-loop-at l = length l.text + 1 - l.at
