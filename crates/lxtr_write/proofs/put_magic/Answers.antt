use Rattle.lxtr_spec.specs.Image.{magic}
use Rattle.lxtr_laws.specs.Overlays.{over}
use Rattle.lxtr_write.proofs.put_magic.Goals as goal

pub returns : goal.returns
unfolding over magic
returns c = rw c.copy_from_slice.ensures.after
