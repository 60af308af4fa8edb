-- The definitions meet the demand. That the check accepts exactly the tables of enough lists follows from what it answers in each case.
use Rattle.std.specs.Prelude.{ℕ, ◌≡◌, ◌↔◌, length, get_or, take}
use Rattle.std.proofs.Common.{arith, ap, ⊎_elim}
use mathlib.Core.List.{List, [], flatten}
use Rattle.lxtr_spec.specs.Sets.{PairSet, ImageOf}
use Rattle.lxtr_demands.specs.Operations.{Bytes}
use Rattle.lxtr_entries_spec.specs.EntryTables.{table_verdict_of}
use Rattle.lxtr_entries_spec.specs.EntryTables.{TableVerdict}
use Rattle.lxtr_entries_laws.specs.Parts.{same_part}
use Rattle.lxtr_entries_demands.specs.EntryDemand.{EntryLists, TableOf, EveryValue, EntryDemand, defined}
use Rattle.lxtr_entries_demands.specs.Laws.ListsAt.{list_here, one_list}
use Rattle.lxtr_entries_demands.specs.Laws.TableForms.{one_table}
use Rattle.lxtr_entries_demands.specs.Laws.TableChecks.{image_refused, accepted, beyond, malformed, decided}
use Rattle.lxtr_entries_demands.specs.Laws.EntryAnswers.{entries_answered}

abbrev refusal : TableVerdict → ℕ
refusal v = v.refusal

accepts : (b : List ℕ) (d : PairSet) (t : List ℕ) → ImageOf b d → Bytes t
    → ((table_verdict_of b t).refusal ≡ 0) ↔ ((lists : EntryLists) × TableOf t lists × EveryValue d lists)
accepts b d t image small = (
  λ e. ⊎_elim
      (λ wrong. absurd (omega (arith, e, ap refusal (malformed image t small wrong))))
      (λ (lists, table, values). ⊎_elim
      (λ every. (lists, table, every))
      (λ some_beyond. absurd (omega (arith, e, ap refusal (beyond image t lists table some_beyond))))
      values)
      (decided image t small),
  λ (lists, table, every). ap refusal (accepted image t lists table every),
)

pub entry_demand : EntryDemand defined
entry_demand = record {
  one_table = one_table;
  some_list = λ lists v h. (length (flatten (take v lists)), get_or lists v [], list_here lists v h);
  one_list = one_list;
  accepts = accepts;
  accepted = λ b d t lists image. accepted image t lists;
  image_refused = image_refused;
  malformed = λ b d t image. malformed image t;
  beyond = λ b d t lists image. beyond image t lists;
  decided = λ b d t image. decided image t;
  answered = λ b d t lists q image table whole. entries_answered image table q whole;
  same_part = same_part;
}
