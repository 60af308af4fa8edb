-- A number is 0 exactly when its bytes are 0, and equal to its lowest byte exactly when the other three are 0.
use Rattle.std.proofs.Common.{rules}
use Rattle.lxtr_header.specs.Bytes.{reserved_numbers}
use Rattle.lxtr_header.proofs.reserved_set.Goals as goal

pub returns : goal.returns
returns c = search (reserved_numbers, rules)
