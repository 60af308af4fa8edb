-- `found` says whether a slot before this one lacks a child that it must have.
use Rattle.lxtr_spec.specs.Refusals.{childless}
use Rattle.lxtr_check_lists.specs.ListTests.{AnySoFar}
use Rattle.lxtr_check_lists.proofs.some_childless.Given as goal

abbrev pub invariant-loop-s : goal.invariant-loop-s
invariant-loop-s l = AnySoFar (childless l.image) l.s l.s-end l.found
