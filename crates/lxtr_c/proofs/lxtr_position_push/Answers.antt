-- The position is read, moved, and given back as a number; after a refusal it is the one that was read.
use Rattle.lxtr_spec.specs.HostNumbers.{host_push_of}
use Rattle.lxtr_c.specs.Positions.{unwrapped}
use Rattle.lxtr_c.proofs.lxtr_position_push.Goals as goal

pub returns : goal.returns
unfolding host_push_of
returns c =
    let left = rw (c.unwrap_or-moved.ensures, unwrapped) at c.from.ensures in
    rw (← c.from-before.ensures, ← c.push.ensures) left
