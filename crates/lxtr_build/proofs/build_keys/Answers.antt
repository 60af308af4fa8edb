-- Refusal 20 for too many labels; otherwise what the filled part of the tables gives.
use Rattle.std.proofs.lemmas.Result.{err_from_is_err_and}
use Rattle.lxtr_build.specs.BuildReturns.{labels_many, labels_built}
use Rattle.lxtr_build.proofs.build_keys.Goals as goal

pub returns-in_err-count : goal.returns-in_err-count
returns-in_err-count c = let p = err_from_is_err_and c.from_residual.result c.from_residual.ensures.1 in rw (p.1, p.2, (c.in_err-count.ensures.mapped).0) (labels_many _ _ _ _ (c.in_err-count.ensures.mapped).1)

pub returns : goal.returns
returns c = labels_built _ _ _ _ _ _ _ _ c.in_ok-count.ensures.mapped _ _ c.build_mapped.ensures
