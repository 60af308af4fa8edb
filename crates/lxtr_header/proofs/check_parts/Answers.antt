-- Each return is a chain of faults that are not there, ended by one that is or by none. What the tests so far establish is what
-- the next one reads.
use Rattle.lxtr_laws.specs.RefusalChains.{chain}
use Rattle.lxtr_laws.specs.Passed.{whole_by}
use Rattle.lxtr_header.proofs.check_parts.Goals as goal

pub returns-then-length_wrong : goal.returns-then-length_wrong
returns-then-length_wrong c = search chain

pub returns-then-map_wrong : goal.returns-then-map_wrong
returns-then-map_wrong c = search chain

pub returns-then-offset_ends_wrong : goal.returns-then-offset_ends_wrong
returns-then-offset_ends_wrong c = search chain

pub returns : goal.returns
returns c = search chain

pub map_wrong-requires : goal.map_wrong-requires
map_wrong-requires c = search whole_by

pub offset_ends_wrong-requires : goal.offset_ends_wrong-requires
offset_ends_wrong-requires c = search whole_by
