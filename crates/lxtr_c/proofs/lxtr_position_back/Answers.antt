-- The position is read, moved, and given back as a number; after a refusal it is the one that was read.
use Rattle.lxtr_spec.specs.HostNumbers.{host_back_of}
use Rattle.lxtr_c.specs.Positions.{unwrapped}
use Rattle.lxtr_c.proofs.lxtr_position_back.Goals as goal

pub returns : goal.returns
unfolding host_back_of
returns c =
    let left = rw (c.unwrap_or-moved.ensures, unwrapped) at c.from.ensures in
    rw (← c.from-before.ensures, ← c.back.ensures) left
