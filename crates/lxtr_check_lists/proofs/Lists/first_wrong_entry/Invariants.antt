-- No list before this one has a wrong entry.
use Rattle.std.proofs.Common.{◌≡◌, ◌<◌, ℕ, false}
use Rattle.lxtr_spec.specs.Refusals.{entries_wrong}
use Rattle.lxtr_check_lists.proofs.Lists.first_wrong_entry.Given as goal

abbrev pub invariant-loop-p : goal.invariant-loop-p
invariant-loop-p l = (k : ℕ) → k < l.p → entries_wrong l.self k ≡ false
