-- The image whose length the builder answers lies within the output.
use Rattle.std.proofs.Common.{arith}
use Rattle.std.proofs.lemmas.Grind.{common_steps}
use Rattle.lxtr_build_laws.specs.BuiltAnswers.{built_within}
use Rattle.list_pairs.proofs.list_keys.Goals as goal

pub slice_bounds-out-end : goal.slice_bounds-out-end
slice_bounds-out-end c = let h = rw c.in-Ok.is at (built_within _ _ _ _ _ _ c.build.ensures) in grind (arith, common_steps)

pub slice_bounds-list_image-end : goal.slice_bounds-list_image-end
slice_bounds-list_image-end c = let h = rw c.in-Ok.is at (built_within _ _ _ _ _ _ c.build.ensures) in grind (arith, common_steps)
