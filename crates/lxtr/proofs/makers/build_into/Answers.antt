-- The image whose length the builder answers lies within the output.
use Rattle.std.proofs.Common.{arith}
use Rattle.std.proofs.lemmas.Grind.{common_steps}
use Rattle.lxtr_build_laws.specs.BuiltAnswers.{built_within}
use Rattle.lxtr.proofs.makers.build_into.Goals as goal

pub slice_bounds-save-end : goal.slice_bounds-save-end
slice_bounds-save-end c = let h = built_within _ _ _ _ _ _ c.build.ensures in rw c.in-Ok.is at h

pub slice_bounds-save-end-in-Ok : goal.slice_bounds-save-end-in-Ok
slice_bounds-save-end-in-Ok c = let h = rw c.in-Ok.is at (built_within _ _ _ _ _ _ c.build.ensures) in grind (arith, common_steps)
