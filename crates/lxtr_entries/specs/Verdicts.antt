-- The check of a table as the code makes it: the refusals in their order, then the last offset, which is the number of entries.
-- Results of calls are variables: each law says that what one return computes is the definition's answer.
use Rattle.std.specs.Prelude.{ℕ, ◌≡◌, List, Option, None, Result, Ok, Err, IfOk}
use Rattle.std.proofs.Common.{sym}
use Rattle.lxtr_spec.specs.Refusals.{first_refusal, unless_refused}
use Rattle.lxtr_spec.specs.HighestValues.{HighestAnswer, highest_of}
use Rattle.lxtr_laws.specs.RefusalChains.{first_stands, stands}
use Rattle.lxtr_entries_spec.specs.EntryTables.{entry_number, entry_count, table_refusal, table_verdict_of}
use Rattle.lxtr_entries_spec.specs.EntryTables.{TableVerdict}
use Rattle.lxtr_spec.specs.Answers.{number, number_by, answer_or}
use Rattle.lxtr_spec.specs.declared.refusals.Refusal.{Refusal}
use Rattle.lxtr_laws.specs.Failures.{number_not_0}
use Rattle.lxtr_entries_spec.specs.declared.EntryRefusal.{EntryRefusal}
use Rattle.lxtr_entries_laws.specs.TableFacts.{later_refusal}
use Rattle.lxtr_entries.specs.Errors.{entry_number_not_0}

module _ (b t : List ℕ) where
  -- e is the refusal of the image
  pub image_refused : (e : Refusal) → ◌≡◌ {A = HighestAnswer} (record { refusal = number e; value = None }) (highest_of b) → number e ≡ table_refusal b t
  unfolding table_refusal
  image_refused e known = rw (← known) (sym (first_stands (number e) (later_refusal t None) (number_not_0 e)))

  -- h is the highest value
  pub later_told : (h : Option ℕ) → ◌≡◌ {A = HighestAnswer} (record { refusal = 0; value = h }) (highest_of b) → (k : ℕ) → k ≡ later_refusal t h → k ≡ table_refusal b t
  unfolding table_refusal first_refusal
  later_told h known k e = rw (← known) e

  -- r is the code's answer
  pub verdict_told : (r : Result ℕ EntryRefusal) → number_by entry_number r ≡ table_refusal b t → IfOk r (λ n. n ≡ entry_count t)
      → ◌≡◌ {A = TableVerdict} (record { refusal = number_by entry_number r; entries = answer_or 0 r }) (table_verdict_of b t)
  unfolding table_verdict_of unless_refused
  verdict_told (Ok n) known count = rw (← known, count)
  verdict_told (Err e) known count = rw (← known, stands (entry_number e) (entry_count t) 0 (entry_number_not_0 e))
