-- Each count, plus the label's frequency in the keys that are left, is its frequency in all keys.
use Rattle.std.proofs.Common.{◌≡◌, ◌≤◌, ◌-◌}
use Rattle.lxtr_spec.specs.KeyLists.{key_count}
use Rattle.lxtr_codes.specs.LabelCounting.{Counting}
use Rattle.lxtr_codes.proofs.counts.count_keys.Given as goal

abbrev pub invariant-loop-key : goal.invariant-loop-key
invariant-loop-key l = (l.key-iterator.keys.now ≡ l.keys.bytes.now) × (l.key-iterator.left ≤ key_count l.keys.bytes.now)
    × Counting l.keys.bytes.now (key_count l.keys.bytes.now) l.labels l.counts l.key-iterator.at (key_count l.keys.bytes.now - l.key-iterator.left)
