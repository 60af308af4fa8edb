-- Version and count, and the labels after them.
use Rattle.lxtr_write.specs.SectionWriting.{map_put}
use Rattle.lxtr_write.proofs.put_map.Goals as goal

pub returns : goal.returns
returns c = search map_put
