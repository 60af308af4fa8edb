-- The refusals of image and table; otherwise the bytes that the state keeps are the front of the text.
use Rattle.std.proofs.Common.{◌≡◌, ◌∙◌, sym, refl, length, arith}
use Rattle.lxtr_spec.specs.Labels.{max_labels}
use Rattle.romaji_spec.specs.Pieces.{max_kept}
use Rattle.lxtr_laws.specs.Failures.{number_not_0}
use Rattle.lxtr_laws.specs.RefusalChains.{refused, goes_on}
use Rattle.lxtr_laws.specs.SearchReturns.{passed_err}
use Rattle.romaji.specs.Errors.{not_0}
use Rattle.romaji.specs.Answering.{image_refused, later_tested, convert_refused, convert_goes}
use Rattle.romaji.proofs.convert.Goals as goal

pub returns-in_err-top : goal.returns-in_err-top
returns-in_err-top c = rw (passed_err _ _ c.from_residual.ensures.1) (convert_refused _ _ _ _ _ _ _ (image_refused _ _ _ c.in_err-top.ensures) (number_not_0 _))

pub returns-then-is_short : goal.returns-then-is_short
returns-then-is_short c =
    let short = rw c.new-kana.ensures at c.if-is_short.ensures in
    convert_refused _ _ _ _ _ _ _ (later_tested _ _ _ c.in_ok-top.ensures _ (refused _ 24 _ (sym short))) (not_0 24 23 refl)

pub returns-in_err-keys : goal.returns-in_err-keys
returns-in_err-keys c =
    let short = rw c.new-kana.ensures at c.if-is_short.ensures in
    let key = c.in_err-keys.ensures in
    rw (passed_err _ _ c.from_residual-in_err-keys.ensures.1)
    (convert_refused _ _ _ _ _ _ _ (later_tested _ _ _ c.in_ok-top.ensures _ (goes_on _ 24 _ _ (sym short) (key.0 ∙ refused _ 25 0 key.1))) (not_0 _ 24 key.0))

pub returns : goal.returns
unfolding max_kept max_labels
returns c =
    let short = rw c.new-kana.ensures at c.if-is_short.ensures in
    let key = c.in_ok-keys.ensures in
    let fine = later_tested _ _ _ c.in_ok-top.ensures _ (goes_on _ 24 _ 0 (sym short) (goes_on _ 25 0 0 key.1 refl)) in
    let sized : length c.args.state.now.kept ≡ 63 = omega arith in
    let ran = rw (c.new-kana.ensures, key.0, c.new-text.ensures) at c.run.ensures in
    convert_goes _ _ _ _ _ _ fine sized _ c.min-count.ensures _ ran
