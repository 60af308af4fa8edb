-- What a group of a plan stands for.
use Rattle.std.specs.Prelude.{ℕ, List}
use Rattle.lxtr_spec.specs.Labels.{Pair}
use Rattle.lxtr_build_laws.specs.CodeTables.{code_by, label_by}
use Rattle.lxtr_place.specs.declared.groups.Plan.{Plan}
use Rattle.lxtr_place.specs.declared.groups.KeyGroup.{KeyGroup}
use Rattle.lxtr_place.specs.GroupRanges.{group_of}

-- the code of a label, and the label of a code, by the tables of a plan
abbrev pub code_in : Plan → ℕ → ℕ
code_in p = code_by p.tables.now.labels.now p.tables.now.codes.now

abbrev pub label_in : Plan → ℕ → ℕ
label_in p = label_by p.tables.now.labels.now p.tables.now.order.now

-- what is left of its keys, with their value numbers
abbrev pub pairs_in : KeyGroup → List Pair
pairs_in g = group_of g.plan.now.tables.now.keys.bytes.now g.span
