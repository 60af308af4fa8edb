-- The part has four bytes for each label, and no more labels than a key may have.
use Rattle.std.proofs.Common.{arith}
use Rattle.lxtr_c.specs.EntryNumbers.{longest_fits, longest_number_lem}
use Rattle.lxtr_c.proofs.lxtr_longest.Goals as goal

pub overflow_cast-part : goal.overflow_cast-part
overflow_cast-part c = omega (arith, longest_fits _ _ _ _ c.in-Ok.ensures)

pub returns-in-Ok : goal.returns-in-Ok
returns-in-Ok c = longest_number_lem _ _ _ _ c.in-Ok.ensures _ c.host_number.ensures

pub returns-in-Err : goal.returns-in-Err
returns-in-Err c = longest_number_lem _ _ _ _ c.in-Err.ensures _ (rw c.number.ensures at c.host_number-in-Err.ensures)
