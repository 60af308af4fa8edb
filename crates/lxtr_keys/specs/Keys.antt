-- What a key stands for.
use Rattle.std.specs.Prelude.{ℕ, List, Option, Some, None}
use Rattle.lxtr_spec.specs.KeyLists.{key_at}
use Rattle.lxtr_keys.specs.declared.key.Key.{Key}

-- its labels
abbrev pub labels_in : Key → List ℕ
labels_in k = key_at k.keys.now k.at

-- whether there is a key before, as a number, and where it is
abbrev pub later : Option Key → ℕ
later None = 0
later (Some k) = 1

abbrev pub place_before : Option Key → ℕ
place_before None = 0
place_before (Some k) = k.at
