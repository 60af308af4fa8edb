-- The first rule that does not hold gives the place.
use Rattle.lxtr_laws.specs.Failures.{number_not_0}
use Rattle.std.proofs.Common.{◌≡◌, ◌∙◌, rules}
use Rattle.std.specs.Option.{option_map}
use Rattle.lxtr_spec.specs.declared.Fault.TheVariants.{Unreachable}
use Rattle.lxtr_fault.specs.FaultTests.{fault_nowhere, fault_label, fault_slot, fault_list, fault_reach}
use Rattle.lxtr_fault.proofs.fault.Goals as goal

pub returns-in_default : goal.returns-in_default
returns-in_default c = fault_nowhere _ _ c.in_default.ensures.refusal (number_not_0 _)

pub returns-in-Some : goal.returns-in-Some
returns-in-Some c = let first = rw c.in-Ok.ensures.bytes at c.in-Some.ensures in fault_label _ c.in-Ok.ensures.refusal _ first

pub returns-in-Err : goal.returns-in-Err
returns-in-Err c =
    let none = rw c.in-Ok.ensures.bytes at c.in_default-first_wrong_label.ensures in
    let first = rw c.in-Ok.ensures.bytes at c.in-Err.ensures in
    fault_slot _ c.in-Ok.ensures.refusal none _ first

pub returns-then-lists_wrong : goal.returns-then-lists_wrong
returns-then-lists_wrong c =
    let none = rw c.in-Ok.ensures.bytes at c.in_default-first_wrong_label.ensures in
    let same : c.in-Ok-check.slots ≡ c.args.image.now = c.in-Ok-check.ensures.0 ∙ c.in-Ok.ensures.bytes in
    let right = rw c.in-Ok.ensures.bytes at c.in-Ok-check.ensures.1 in
    let lists = rw same at c.lists_wrong.ensures in
    let place = rw same at c.list_fault.ensures in
    fault_list _ c.in-Ok.ensures.refusal none right _ lists c.if-lists_wrong.true _ place

pub returns : goal.returns
returns c =
    let none = rw c.in-Ok.ensures.bytes at c.in_default-first_wrong_label.ensures in
    let same : c.in-Ok-check.slots ≡ c.args.image.now = c.in-Ok-check.ensures.0 ∙ c.in-Ok.ensures.bytes in
    let right = rw c.in-Ok.ensures.bytes at c.in-Ok-check.ensures.1 in
    let lists = rw same at c.lists_wrong.ensures in
    let first = rw same at c.first_unreachable.ensures in
    let mapped : c.map.result ≡ option_map Unreachable c.first_unreachable.result = search rules in
    mapped ∙ fault_reach _ c.in-Ok.ensures.refusal none right _ lists c.if-lists_wrong.false _ first
