-- Only the first key of an ascending group can be used up.
use Rattle.lxtr_place.specs.GroupLoops.{no_keys, first_starts, first_goes, first_ends, value_small}
use Rattle.lxtr_place.proofs.groups.KeyGroup.end_value.Goals as goal

pub returns-then-self-eq0-clause-value : goal.returns-then-self-eq0-clause-value
returns-then-self-eq0-clause-value c = search no_keys

pub key_length-requires : goal.key_length-requires
key_length-requires c = search first_starts

pub returns-then-self-key_length-clause-value : goal.returns-then-self-key_length-clause-value
returns-then-self-key_length-clause-value c = search first_goes

pub returns-clause-value : goal.returns-clause-value
returns-clause-value c = search first_ends

pub returns-clause-small : goal.returns-clause-small
returns-clause-small c = value_small _ _ _ c.args.self.now.placeable.grouped (first_ends _ _ c.if-self-eq0.false _ c.key_length.ensures c.if-self-key_length.false)
