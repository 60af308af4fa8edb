-- No code: every base fits. Otherwise the first code's slot has to be free, so none is below the first free slot.
use Rattle.std.proofs.Common.{arith, ◌≡◌, length}
use Rattle.std.proofs.lemmas.Bool.Decides.{nat_tests}
use Rattle.lxtr_fit.specs.Fitting.{fit_no_codes, fit_none_left, fit_found, lowest_risen}
use Rattle.lxtr_fit.proofs.free_map.FreeSlots.first_fit.Goals as goal

pub returns-then-is_empty-clause-result_value : goal.returns-then-is_empty-clause-result_value
returns-then-is_empty-clause-result_value c = λ S w f. let none : length c.args.codes.now ≡ 0 = grind (arith, nat_tests) in fit_no_codes S w _ _ f _ none

pub returns-in_err-t-clause-result_value : goal.returns-in_err-t-clause-result_value
returns-in_err-t-clause-result_value c = λ S w f. rw c.from_residual.ensures (fit_none_left S w _ _ f c.args.codes.now _ (λ e. grind (arith, nat_tests)) c.next_free.ensures c.in_err-t.was)

pub returns-clause-result_value : goal.returns-clause-result_value
returns-clause-result_value c = λ S w f. fit_found S w _ _ f _ c.in_ok-t.t c.next_free.ensures c.in_ok-t.was c.args.codes.now _ _ (λ e. grind (arith, nat_tests)) c.first_block.ensures c.fit_from.ensures

pub returns-clause-free_map : goal.returns-clause-free_map
returns-clause-free_map c = λ S w f. lowest_risen S w _ _ f _ c.in_ok-t.t c.next_free.ensures c.in_ok-t.was
