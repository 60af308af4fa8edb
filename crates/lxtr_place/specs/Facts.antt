-- Each fact that a type keeps of a group or of the work has at most one proof.
use Rattle.std.specs.Prelude.{ℕ, List}
use Rattle.std.proofs.Props.{props}
use Rattle.lxtr_build_laws.specs.OneProof.{WholeKeys-prop, Ascending-prop, CodesIn-prop}
use Rattle.lxtr_fit.specs.FreeMaps.{FreeMap}
use Rattle.lxtr_place.specs.declared.groups.Group.{Group}
use Rattle.lxtr_place.specs.GroupRanges.{Grouped, Indexed, Placeable}

pub FreeMap-prop : (S : ℕ) (w m : List ℕ) (l : ℕ) → IsProp (FreeMap S w m l)
FreeMap-prop S w m l = hlevel props

Grouped-prop : (b : List ℕ) (g : Group) → IsProp (Grouped b g)
Grouped-prop b g = hlevel (props, WholeKeys-prop)

pub Indexed-prop : (b starts : List ℕ) (g : Group) → IsProp (Indexed b starts g)
Indexed-prop b starts g = hlevel props

pub Placeable-prop : (b labels codes : List ℕ) (g : Group) → IsProp (Placeable b labels codes g)
Placeable-prop b labels codes g = hlevel (props, Grouped-prop, Ascending-prop, CodesIn-prop)
