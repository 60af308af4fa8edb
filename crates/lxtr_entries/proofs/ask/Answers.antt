-- A refusal of the lookup stands; then the table's form is tested.
use Rattle.std.proofs.Common.{◌∙◌, refl}
use Rattle.lxtr_laws.specs.RefusalChains.{refused, goes_on}
use Rattle.lxtr_laws.specs.SearchReturns.{passed_err}
use Rattle.lxtr_entries.specs.Locating.{ask_refused, ask_told, ask_value}
use Rattle.lxtr_entries.proofs.ask.Goals as goal

pub returns-in_err-case-clause-refusal : goal.returns-in_err-case-clause-refusal
returns-in_err-case-clause-refusal c = rw (passed_err _ _ c.from_residual.ensures.1) (ask_refused _ _ _ _ c.in_err-case.ensures)

pub returns-in_err-table-clause-refusal : goal.returns-in_err-table-clause-refusal
returns-in_err-table-clause-refusal c =
    let form = c.in_err-table.ensures in
    rw (passed_err _ _ c.from_residual-in_err-table.ensures.1) (ask_told _ _ _ _ c.in_ok-case.ensures _ (form.0 ∙ refused _ 26 _ form.1))

pub returns-clause-refusal : goal.returns-clause-refusal
returns-clause-refusal c = ask_told _ _ _ _ c.in_ok-case.ensures _ (goes_on _ 26 0 0 c.in_ok-table.ensures.1 refl)

pub returns-clause-asked : goal.returns-clause-asked
returns-clause-asked c = (c.in_ok-table.ensures.0, c.value.ensures ∙ ask_value _ _ c.args.table.now _ c.in_ok-case.ensures)
