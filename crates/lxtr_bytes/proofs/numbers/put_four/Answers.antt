-- Four stores, one after the other, lay the four bytes over the room.
use Rattle.lxtr_laws.specs.Overlays.{four_put}
use Rattle.lxtr_bytes.proofs.numbers.put_four.Goals as goal

pub returns : goal.returns
returns c = four_put _ _ _ _ _ _ c.requires
