-- A refusal has an empty part; otherwise the part is where the entries lie, which is in the table.
use Rattle.std.proofs.Common.{◌∙◌, sym, refl}
use Rattle.lxtr_entries_spec.specs.EntryTables.{entry_bytes}
use Rattle.lxtr_laws.specs.SearchReturns.{passed_err}
use Rattle.lxtr_entries.specs.Errors.{entry_number_not_0}
use Rattle.lxtr_entries.specs.Locating.{ask_stops, form_known, no_value, value_located, no_part, part_within, entries_told}
use Rattle.lxtr_entries.proofs.entries.Goals as goal

pub returns-in_err-table : goal.returns-in_err-table
returns-in_err-table c =
    rw (passed_err _ _ c.from_residual.ensures.1) (no_part _ _ _ _ (ask_stops _ _ _ _ c.in_err-table.ensures.refusal (entry_number_not_0 _)))

pub returns-in_err-there-in-Some : goal.returns-in_err-there-in-Some
returns-in_err-there-in-Some c =
    let asked = c.in_ok-table.ensures.asked in
    let known = rw asked.0 at c.in_err-there-in-Some.ensures in
    rw (passed_err _ _ c.from_residual-in_err-there-in-Some.ensures.1)
    (no_part _ _ _ _ (value_located _ _ _ c.in_ok-table.ensures.refusal _ _ (sym c.in-Some.is ∙ asked.1) known))

pub part-requires : goal.part-requires
part-requires c =
    let asked = c.in_ok-table.ensures.asked in
    let known = rw asked.0 at c.in_ok-there-in-Some.ensures in
    let refusal = c.in_ok-table.ensures.refusal in
    rw asked.0 (part_within _ _ _ _ (value_located _ _ _ refusal _ _ (sym c.in-Some.is ∙ asked.1) known) (form_known _ _ _ refusal))

pub returns-in_ok-there-in-Some : goal.returns-in_ok-there-in-Some
returns-in_ok-there-in-Some c =
    let asked = c.in_ok-table.ensures.asked in
    let known = rw asked.0 at c.in_ok-there-in-Some.ensures in
    let part = rw asked.0 at c.part.ensures in
    entries_told _ _ _ _ (value_located _ _ _ c.in_ok-table.ensures.refusal _ _ (sym c.in-Some.is ∙ asked.1) known) _ part

pub returns-in-None : goal.returns-in-None
unfolding entry_bytes
returns-in-None c = entries_told _ _ _ _ (no_value _ _ _ c.in_ok-table.ensures.refusal (sym c.in-None.is ∙ c.in_ok-table.ensures.asked.1)) _ refl
