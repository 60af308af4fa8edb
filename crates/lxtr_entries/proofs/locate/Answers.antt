-- A refusal stands; otherwise the answer goes by the query's value.
use Rattle.std.proofs.Common.{◌∙◌, sym}
use Rattle.lxtr_laws.specs.SearchReturns.{passed_err}
use Rattle.lxtr_entries.specs.Errors.{entry_number_not_0}
use Rattle.lxtr_entries.specs.Locating.{ask_stops, no_value, value_located}
use Rattle.lxtr_entries.proofs.locate.Goals as goal

pub returns-in_err-table : goal.returns-in_err-table
returns-in_err-table c = rw (passed_err _ _ c.from_residual.ensures.1) (ask_stops _ _ _ _ c.in_err-table.ensures.refusal (entry_number_not_0 _))

pub returns-in_err-locate-in-Some : goal.returns-in_err-locate-in-Some
returns-in_err-locate-in-Some c =
    let asked = c.in_ok-table.ensures.asked in
    let known = rw asked.0 at c.in_err-locate-in-Some.ensures in
    rw (passed_err _ _ c.from_residual-in_err-locate-in-Some.ensures.1)
    (value_located _ _ _ c.in_ok-table.ensures.refusal _ _ (sym c.in-Some.is ∙ asked.1) known)

pub returns-in_ok-locate-in-Some : goal.returns-in_ok-locate-in-Some
returns-in_ok-locate-in-Some c =
    let asked = c.in_ok-table.ensures.asked in
    let known = rw asked.0 at c.in_ok-locate-in-Some.ensures in
    value_located _ _ _ c.in_ok-table.ensures.refusal _ _ (sym c.in-Some.is ∙ asked.1) known

pub returns-in-None : goal.returns-in-None
returns-in-None c = no_value _ _ _ c.in_ok-table.ensures.refusal (sym c.in-None.is ∙ c.in_ok-table.ensures.asked.1)
