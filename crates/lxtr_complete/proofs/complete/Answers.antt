-- The first refusal that holds is the answer, and leaves the room as it was; otherwise the pairs are listed.
use Rattle.std.proofs.Common.{refl, arith, ◌∙◌}
use Rattle.lxtr_spec.specs.Completions.{completion_answer}
use Rattle.lxtr_laws.specs.Failures.{number_not_0}
use Rattle.lxtr_laws.specs.SearchReturns.{passed_err, header_passes}
use Rattle.lxtr_complete.specs.Completing.{search_stands, body_stands, room_refused, completion_allowed, completion_refused, completion_passed}
use Rattle.lxtr_complete.proofs.complete.Goals as goal

pub returns-in_err-opened : goal.returns-in_err-opened
unfolding completion_answer
returns-in_err-opened c =
    let z = number_not_0 c.in_err-opened.field-0.0 in
    rw (passed_err _ _ c.from_residual.ensures.1) (completion_refused _ _ _ _ (search_stands _ _ _ _ c.in_err-opened.ensures.refusal z) z)

pub returns-in_err-accepted : goal.returns-in_err-accepted
unfolding completion_answer
returns-in_err-accepted c =
    let z = number_not_0 c.in_err-accepted.field-0.0 in
    let k = rw c.in_ok-opened.ensures.bytes at c.in_err-accepted.ensures.refusal in
    rw (passed_err _ _ c.from_residual-in_err-accepted.ensures.1) (completion_refused _ _ _ _ (body_stands _ _ _ _ c.in_ok-opened.ensures.refusal _ refl k z) z)

pub returns-then-room-lt-HEAD_LENGTH : goal.returns-then-room-lt-HEAD_LENGTH
unfolding completion_answer
returns-then-room-lt-HEAD_LENGTH c =
    let k = rw c.in_ok-opened.ensures.bytes at c.in_ok-accepted.ensures.refusal in
    completion_refused _ _ _ _ (room_refused _ _ _ _ c.in_ok-opened.ensures.refusal _ refl k refl c.if-room-lt-HEAD_LENGTH.true) (λ z. omega arith)

pub returns : goal.returns
returns c =
    let k = rw c.in_ok-opened.ensures.bytes at c.in_ok-accepted.ensures.refusal in
    let b = c.in_ok-accepted.ensures.bytes ∙ c.in_ok-opened.ensures.bytes in
    completion_passed _ _ _ _ (completion_allowed _ _ _ _ c.in_ok-opened.ensures.refusal _ refl k refl c.if-room-lt-HEAD_LENGTH.false) _ refl (rw b at c.list_pairs.ensures)

pub check-requires : goal.check-requires
check-requires c = rw c.in_ok-opened.ensures.bytes (header_passes _ _ _ c.in_ok-opened.ensures.refusal refl)
