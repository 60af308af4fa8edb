-- The table says where the first i keys start.
use Rattle.std.proofs.Common.{◌≡◌, ◌+◌}
use Rattle.lxtr_spec.specs.KeyLists.{key_count}
use Rattle.lxtr_place.specs.AllKeys.{Starting}
use Rattle.lxtr_place.proofs.put_starts.Given as goal

abbrev pub invariant-loop-i : goal.invariant-loop-i
invariant-loop-i l = (l.i-iterator.iter.keys.now ≡ l.keys.bytes.now) × (l.i-iterator.count + l.i-iterator.iter.left ≡ key_count l.keys.bytes.now) × (l.end ≡ l.i-iterator.iter.at)
    × Starting l.keys.bytes.now l.initial.starts l.starts l.i-iterator.iter.at l.i-iterator.count
