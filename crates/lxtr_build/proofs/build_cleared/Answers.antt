-- A refusal of the list, or what its keys give.
use Rattle.std.proofs.lemmas.Result.{err_from_is_err_and}
use Rattle.lxtr_build.specs.BuildReturns.{keys_refused, keys_built}
use Rattle.lxtr_build.proofs.build_cleared.Goals as goal

pub returns-in_err-read : goal.returns-in_err-read
returns-in_err-read c = let p = err_from_is_err_and c.from_residual.result c.from_residual.ensures.1 in rw (p.1, p.2) (keys_refused _ _ _ _ _ (c.in_err-read.ensures).refusal)

pub returns : goal.returns
returns c = keys_built _ _ _ _ _ _ (c.in_ok-read.ensures).refusal (rw (c.in_ok-read.ensures).value at c.build_keys.ensures)
