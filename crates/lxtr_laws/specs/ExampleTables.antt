-- Tables of examples: what a row says is computed on the definitions, and the rows are proved one after the other.
use Rattle.std.specs.Prelude.{List, [], ◌∷◌}

-- every row of a table holds
abbrev pub AllHold : {A : Type 0} → (A → Type 0) → List A → Type 0
AllHold holds [] = Unit {0}
AllHold holds (e ∷ es) = holds e × AllHold holds es

-- a row, and the rest of the table
infixr 20 ◌and◌
pub ◌and◌ : {A B : Type 0} → A → B → A × B
a and b = (a, b)
