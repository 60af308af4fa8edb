-- Refusal 22 if some slot has no base; otherwise the image of the work that the placing filled.
use Rattle.std.specs.Prelude.{◌≡◌, Some, None}
use Rattle.std.proofs.Common.{arith}
use Rattle.std.proofs.lemmas.Result.{err_from_is_err_and}
use Rattle.lxtr_spec.specs.declared.refusals.Refusal.TheVariants.{TooFewSlots}
use Rattle.lxtr_build.specs.BuildReturns.{placed_not, image_ready, placed_built}
use Rattle.lxtr_build.proofs.build_mapped.Goals as goal

pub returns-in_err-ok_or : goal.returns-in_err-ok_or
returns-in_err-ok_or c =
    let p = err_from_is_err_and c.from_residual.result c.from_residual.ensures.1 in
    let none : c.place_all.result ≡ None = grind arith in
    let e : c.in_err-ok_or.field-0.0 ≡ TooFewSlots = grind arith in
    rw (p.1, p.2, e) (placed_not _ _ _ _ _ _ c.place_all.ensures none)

pub put_image-requires : goal.put_image-requires
put_image-requires c =
    let some : c.place_all.result ≡ Some tt = grind arith in
    image_ready _ _ _ 0 c.args.out.now _ c.place_all.ensures some _ c.args.tables.now.codes.now _ c.args.tables.now.right c.place_all.auto.work c.args.tables.now.keys.passed c.requires.room

pub returns : goal.returns
returns c =
    let some : c.place_all.result ≡ Some tt = grind arith in
    placed_built _ _ _ _ _ _ c.place_all.ensures some _ c.args.tables.now.codes.now _ c.args.tables.now.right c.place_all.auto.work _ _ c.put_image.ensures
