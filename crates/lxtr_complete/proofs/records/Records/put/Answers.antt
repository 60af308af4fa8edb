-- After a stop nothing is written; a record that does not fit stops the listing; one that fits is written.
use Rattle.std.proofs.Common.{◌≡◌, ◌∙◌, length, length-set, ap, sym, arith}
use Rattle.lxtr_laws.specs.StepFacts.{some_same}
use Rattle.lxtr_laws.specs.Limit.{length_fits_byte}
use Rattle.lxtr_complete.specs.RecordWriting.{place, put_stopped, record_in, record_not}
use Rattle.lxtr_complete.proofs.records.Records.put.Goals as goal

pub returns-in_err-end-clause-state : goal.returns-in_err-end-clause-state
returns-in_err-end-clause-state c = sym (put_stopped _ _ (ap place c.in_err-end.was))

pub returns-then-self-end-clause-state : goal.returns-then-self-end-clause-state
returns-then-self-end-clause-state c =
    let h = c.args.self.now.in_room _ c.in_ok-end.was in
    rw c.in_ok-end.was (record_not _ _ _ _ _ (λ z. omega (arith, h.1)) (omega arith))

pub overflow_cast-self : goal.overflow_cast-self
overflow_cast-self c = omega (arith, length_fits_byte)

pub overflow_add-self-2 : goal.overflow_add-self-2
overflow_add-self-2 c = let h = c.args.self.now.in_room _ c.in_ok-end.was in omega (arith, h.0, h.1)

pub invariant_of-self-4 : goal.invariant_of-self-4
invariant_of-self-4 c =
    let h = c.args.self.now.in_room _ c.in_ok-end.was in
    let l : length c.put_be32.new.room ≡ length c.args.self.now.room.now = c.put_be32.auto.room ∙ c.put_words.auto.room ∙ length-set _ _ _ in
    record { in_room = λ at e. let s = some_same e in (omega (arith, s, h.0), omega (arith, s, h.1)) }

pub returns-clause-state : goal.returns-clause-state
returns-clause-state c =
    let h = c.args.self.now.in_room _ c.in_ok-end.was in
    rw c.in_ok-end.was (record_in _ _ _ _ _ (λ z. omega (arith, h.1)) _ _ h.0 (omega arith) c.put_words.ensures c.put_be32.ensures)
