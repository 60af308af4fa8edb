-- A refusal leaves no matches; otherwise those that are put are all.
use Rattle.std.proofs.Common.{refl, [], append-nil, ◌∙◌}
use Rattle.lxtr_laws.specs.Failures.{number_not_0}
use Rattle.lxtr_laws.specs.SearchReturns.{passed_err, prefixes_refused, prefixes_passed}
use Rattle.lxtr_search.specs.Answers.{found_answer}
use Rattle.lxtr_search.specs.Matches.{all_pairs}
use Rattle.lxtr_search.proofs.matches.put_prefixes.Goals as goal

pub returns-in_err-opened : goal.returns-in_err-opened
returns-in_err-opened c =
    rw (passed_err _ _ c.from_residual.ensures.1, c.new.ensures) (prefixes_refused _ _ _ c.in_err-opened.ensures.refusal (number_not_0 _) _ (found_answer _ []))

pub returns : goal.returns
returns c =
    let all = rw (c.in-None.ensures.steps.0, append-nil) at c.loop-m.invariant.0 in
    prefixes_passed _ _ _ c.in_ok-opened.ensures.refusal refl _ (found_answer _ _ ∙ rw (all, all_pairs))
