-- Too many labels are noticed while they are gathered; otherwise the gathered labels get their codes.
use Rattle.std.proofs.lemmas.Result.{err_from_is_err_and}
use Rattle.lxtr_codes.specs.Mapping.{too_many}
use Rattle.lxtr_codes.proofs.code_map.Goals as goal

pub returns-in_err-n-clause-mapped : goal.returns-in_err-n-clause-mapped
returns-in_err-n-clause-mapped c = let p = err_from_is_err_and c.from_residual.result c.from_residual.ensures.1 in rw (p.1, p.2) ((c.in_err-n.ensures).0, too_many _ (c.in_err-n.ensures).1)
