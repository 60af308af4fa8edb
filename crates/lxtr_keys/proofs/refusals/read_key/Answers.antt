-- Each return is one of the laws of `KeyRefusals`. After the first three tests the key is known to lie wholly in the list.
use Rattle.lxtr_spec.specs.Labels.{max_labels}
use Rattle.lxtr_keys.specs.KeyRefusals.{no_length, too_long, cut_short, whole_key, no_scalar, out_of_order, key_right}
use Rattle.lxtr_keys.proofs.refusals.read_key.Goals as goal

pub returns-then-keys-at-clause-refusal : goal.returns-then-keys-at-clause-refusal
returns-then-keys-at-clause-refusal c = search no_length

pub returns-then-key_length-gt-MAX_LABELS-clause-refusal : goal.returns-then-key_length-gt-MAX_LABELS-clause-refusal
unfolding max_labels
returns-then-key_length-gt-MAX_LABELS-clause-refusal c = search too_long

pub returns-then-keys-next_key-clause-refusal : goal.returns-then-keys-next_key-clause-refusal
unfolding max_labels
returns-then-keys-next_key-clause-refusal c = search cut_short

pub invariant_of-key : goal.invariant_of-key
unfolding max_labels
invariant_of-key c = record { whole = search whole_key }

pub returns-then-some_no_scalar-clause-refusal : goal.returns-then-some_no_scalar-clause-refusal
unfolding max_labels
returns-then-some_no_scalar-clause-refusal c = search no_scalar

pub returns-then-not_above-clause-refusal : goal.returns-then-not_above-clause-refusal
unfolding max_labels
returns-then-not_above-clause-refusal c = search out_of_order

pub returns-clause-refusal : goal.returns-clause-refusal
unfolding max_labels
returns-clause-refusal c = search key_right
