-- The list is too short, has another version or too many keys, or its keys decide.
use Rattle.lxtr_keys.specs.KeyRefusals.{list_short, list_version_lem, list_many, list_keys}
use Rattle.lxtr_keys.proofs.list_refusal.Goals as goal

pub returns-then-keys-lt-KEYS_AT : goal.returns-then-keys-lt-KEYS_AT
returns-then-keys-lt-KEYS_AT c = search list_short

pub returns-then-version_at-ne-VERSION : goal.returns-then-version_at-ne-VERSION
returns-then-version_at-ne-VERSION c = search list_version_lem

pub returns-then-count-gt-MAX_KEYS : goal.returns-then-count-gt-MAX_KEYS
returns-then-count-gt-MAX_KEYS c = search list_many

pub returns : goal.returns
returns c = search list_keys
