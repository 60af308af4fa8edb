use Rattle.lxtr_keys.specs.Walking.{whole_first, whole_others}
use Rattle.lxtr_keys.proofs.walk.KeysIterator.next.Goals as goal

pub invariant_of-key : goal.invariant_of-key
invariant_of-key c = record { whole = search whole_first }

pub invariant_of-self : goal.invariant_of-self
invariant_of-self c = record { whole = search whole_others }
