-- A refusal of the image stands; then the table's form is tested, then its offsets.
use Rattle.std.proofs.Common.{◌∙◌, Err}
use Rattle.lxtr_laws.specs.RefusalChains.{refused, goes_on}
use Rattle.lxtr_entries_spec.specs.declared.EntryRefusal.TheVariants.{Image}
use Rattle.lxtr_laws.specs.SearchReturns.{passed_err}
use Rattle.lxtr_entries.specs.Verdicts.{image_refused, later_told, verdict_told}
use Rattle.lxtr_entries.proofs.check_table.Goals as goal

pub returns-in_err-top : goal.returns-in_err-top
returns-in_err-top c =
    rw (passed_err _ _ c.from_residual.ensures.1) (verdict_told _ _ (Err (Image c.in_err-top.field-0.0)) (image_refused _ _ _ c.in_err-top.ensures) tt)

pub returns-in_err-table : goal.returns-in_err-table
returns-in_err-table c =
    let form = c.in_err-table.ensures in
    rw (passed_err _ _ c.from_residual-in_err-table.ensures.1)
    (verdict_told _ _ (Err _) (later_told _ _ _ c.in_ok-top.ensures _ (form.0 ∙ refused _ 26 _ form.1)) tt)

pub returns : goal.returns
returns c =
    let same = c.in_ok-table.ensures.0 in
    let formed = c.in_ok-table.ensures.1 in
    let refusal = rw same at c.check.ensures.refusal in
    let count = rw same at c.check.ensures.count in
    verdict_told _ _ _ (later_told _ _ _ c.in_ok-top.ensures _ (goes_on _ 26 _ _ formed refusal)) count
