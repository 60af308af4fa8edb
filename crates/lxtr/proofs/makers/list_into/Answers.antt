-- The key list whose length is answered lies within the output.
use Rattle.std.proofs.Common.{arith, refl}
use Rattle.std.proofs.lemmas.Grind.{common_steps}
use Rattle.lxtr_words.specs.Listed.{list_within}
use Rattle.lxtr.proofs.makers.list_into.Goals as goal

pub slice_bounds-save-end : goal.slice_bounds-save-end
slice_bounds-save-end c = list_within _ _ _ _ (rw c.in-Ok.is at c.key_list.ensures) refl

pub slice_bounds-save-end-in-Ok : goal.slice_bounds-save-end-in-Ok
slice_bounds-save-end-in-Ok c = let h = list_within _ _ _ _ (rw c.in-Ok.is at c.key_list.ensures) refl in grind (arith, common_steps)
