-- The cases of a lookup: each is known by its value and by whether longer keys exist.
-- So a program that finds both finds the case, and two cases that agree on both are equal.
use Rattle.std.specs.Prelude.{ℕ, ◌≡◌, refl, List, Bool, true, false, Option, Some, None}
use Rattle.std.proofs.Common.{sym, ap₂, ◌∙◌}
use Rattle.lxtr_spec.specs.Walks.{value_at, value_reached, longer_at}
use Rattle.lxtr_spec.specs.Searches.{case_value, case_longer, case_of, case_at}
use Rattle.lxtr_spec.specs.declared.Case.{Case}
use Rattle.lxtr_spec.specs.declared.Case.TheVariants.{Neither, PrefixOnly, ExactOnly, ExactAndPrefix}

case_value_lem : (o : Option ℕ) (l : Bool) → case_value (case_of o l) ≡ o
unfolding case_value case_of
case_value_lem None false = refl
case_value_lem None true = refl
case_value_lem (Some v) false = refl
case_value_lem (Some v) true = refl

pub case_longer_lem : (o : Option ℕ) (l : Bool) → case_longer (case_of o l) ≡ l
unfolding case_longer case_of
case_longer_lem None false = refl
case_longer_lem None true = refl
case_longer_lem (Some v) false = refl
case_longer_lem (Some v) true = refl

case_back : (c : Case) → case_of (case_value c) (case_longer c) ≡ c
unfolding case_value case_longer case_of
case_back Neither = refl
case_back PrefixOnly = refl
case_back (ExactOnly v) = refl
case_back (ExactAndPrefix v) = refl

pub same_case : (c e : Case) → case_value c ≡ case_value e → case_longer c ≡ case_longer e → c ≡ e
same_case c e v l = sym (case_back c) ∙ ap₂ case_of v l ∙ case_back e

-- the value of the case at a slot is the slot's
pub value_there : (b : List ℕ) (o : Option ℕ) → case_value (case_at b o) ≡ value_reached b o
unfolding case_at value_reached case_value
value_there b None = refl
value_there b (Some n) = case_value_lem (value_at b n) (longer_at b n)
