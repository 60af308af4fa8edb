-- Each fact that a type keeps of a key list and its tables has at most one proof.
use Rattle.std.specs.Prelude.{ℕ, zero, suc, List, [], ◌∷◌}
use Rattle.std.specs.Coded.{×_prop, Unit-prop}
use Rattle.std.proofs.Props.{props}
use Rattle.lxtr_spec.specs.Labels.{Pair}
use Rattle.lxtr_spec.specs.KeyLists.{next_key}
use Rattle.lxtr_laws.specs.Sorted.{Sorted}
use Rattle.lxtr_build_laws.specs.KeyListFacts.{WholeKey, WholeKeys, Ascending, KeysRight, KeysPassed}
use Rattle.lxtr_build_laws.specs.CodeTables.{Rising, CodeTables}
use Rattle.lxtr_build_laws.specs.Groups.{CodesIn}

WholeKey-prop : (b : List ℕ) (at : ℕ) → IsProp (WholeKey b at)
WholeKey-prop b at = hlevel props

pub WholeKeys-prop : (b : List ℕ) (n at : ℕ) → IsProp (WholeKeys b n at)
unfolding WholeKeys
WholeKeys-prop b zero at = Unit-prop
WholeKeys-prop b (suc n) at = ×_prop (WholeKey-prop b at) (WholeKeys-prop b n (next_key b at))

pub Ascending-prop : (g : List Pair) → IsProp (Ascending g)
unfolding Ascending
Ascending-prop [] = Unit-prop
Ascending-prop (p ∷ g) = ×_prop (hlevel props) (Ascending-prop g)

Rising-prop : (l : List ℕ) → IsProp (Rising l)
unfolding Rising Sorted
Rising-prop [] = Unit-prop
Rising-prop (x ∷ l) = ×_prop (hlevel props) (Rising-prop l)

pub CodesIn-prop : (code : ℕ → ℕ) (n : ℕ) (g : List Pair) → IsProp (CodesIn code n g)
unfolding CodesIn
CodesIn-prop code n g = hlevel props

KeysRight-prop : (ps : List Pair) → IsProp (KeysRight ps)
KeysRight-prop ps = hlevel (props, Ascending-prop)

pub KeysPassed-prop : (b : List ℕ) → IsProp (KeysPassed b)
KeysPassed-prop b = hlevel (props, WholeKeys-prop, KeysRight-prop)

pub CodeTables-prop : (ps : List Pair) (labels codes order : List ℕ) → IsProp (CodeTables ps labels codes order)
CodeTables-prop ps labels codes order = hlevel (props, Rising-prop)
