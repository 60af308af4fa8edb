-- Each return is a chain of faults that are not there, ended by one that is or by none; after refusal 5 the sizes are known.
use Rattle.std.proofs.Common.{◌≡◌, ◌∙◌, sym, arith}
use borrow.Author.Tests.{lt-ltb, le-ltb}
use Rattle.lxtr_spec.specs.Refusals.{too_short, header_refusal}
use Rattle.lxtr_spec.specs.Answers.{number}
use Rattle.lxtr_laws.specs.Failures.{passed_on}
use Rattle.lxtr_laws.specs.RefusalChains.{refused, goes_on, chain}
use Rattle.lxtr_laws.specs.Passed.{sized_by, header_passed}
use Rattle.lxtr_header.proofs.read.Goals as goal

pub returns-then-image-lt-HEADER_LENGTH-clause-refusal : goal.returns-then-image-lt-HEADER_LENGTH-clause-refusal
unfolding header_refusal too_short
returns-then-image-lt-HEADER_LENGTH-clause-refusal c = search (refused, lt-ltb)

pub returns-then-magic_differs-clause-refusal : goal.returns-then-magic_differs-clause-refusal
unfolding header_refusal too_short
returns-then-magic_differs-clause-refusal c = search (chain, goes_on, le-ltb)

pub returns-then-version_wrong-clause-refusal : goal.returns-then-version_wrong-clause-refusal
unfolding header_refusal too_short
returns-then-version_wrong-clause-refusal c = search (chain, goes_on, le-ltb)

pub returns-then-reserved_set-clause-refusal : goal.returns-then-reserved_set-clause-refusal
unfolding header_refusal too_short
returns-then-reserved_set-clause-refusal c = search (chain, goes_on, le-ltb)

pub returns-then-sizes_wrong-clause-refusal : goal.returns-then-sizes_wrong-clause-refusal
unfolding header_refusal too_short
returns-then-sizes_wrong-clause-refusal c = search (chain, goes_on, le-ltb)

pub returns-in_err-check_parts-clause-refusal : goal.returns-in_err-check_parts-clause-refusal
unfolding header_refusal too_short
returns-in_err-check_parts-clause-refusal c =
    let e = c.in_err-check_parts.ensures in
    let all : number c.in_err-check_parts.field-0.0 ≡ header_refusal c.args.image.now = search (e, chain, goes_on, le-ltb) in
    passed_on _ _ c.from_residual.ensures.1 ∙ all

pub new-requires : goal.new-requires
unfolding header_refusal too_short
new-requires c =
    let e = c.in_ok-check_parts.ensures in
    let all : 0 ≡ header_refusal c.args.image.now = search (e, chain, goes_on, le-ltb) in
    header_passed (sym all)

pub check_parts-requires : goal.check_parts-requires
check_parts-requires c = sized_by _ (omega arith) c.sizes_wrong.ensures c.if-sizes_wrong.false

pub returns-clause-refusal : goal.returns-clause-refusal
unfolding header_refusal too_short
returns-clause-refusal c =
    let e = c.in_ok-check_parts.ensures in
    search (e, chain, goes_on, le-ltb)
