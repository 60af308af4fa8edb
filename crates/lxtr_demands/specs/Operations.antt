-- A program as the demands see it: what each operation answers, and what lent memory holds afterwards, for every input.
-- Demands 2 and 3 and that of the highest value are about any such program. `defined` consists of the definitions, with which the
-- contracts equate what the code answers.
use Rattle.std.specs.Prelude.{ℕ, ◌<◌, ◌^◌, List, length}
use Rattle.lxtr_spec.specs.Numbers.{byte_at}
use Rattle.lxtr_spec.specs.Refusals.{check_of}
use Rattle.lxtr_spec.specs.HighestValues.{HighestAnswer, highest_of}
use Rattle.lxtr_spec.specs.Searches.{LongestAnswer, lookup_of, prefixes_of, longest_of}
use Rattle.lxtr_spec.specs.Completions.{CompletionAnswer, completion_of}
use Rattle.lxtr_spec.specs.Builds.{BuildAnswer, build_of}
use Rattle.lxtr_spec.specs.Refusals.{Verdict}
use Rattle.lxtr_spec.specs.Searches.{Lookup}
use Rattle.lxtr_spec.specs.Searches.{Prefixes}

pub record Operations : Type 0 where
  -- take an image
  pub check : List ℕ → Verdict
  pub highest : List ℕ → HighestAnswer
  -- take image and query
  pub lookup : List ℕ → List ℕ → Lookup
  pub prefixes : List ℕ → List ℕ → Prefixes
  pub longest : List ℕ → List ℕ → LongestAnswer
  -- takes image, prefix and lent room
  pub complete : List ℕ → List ℕ → List ℕ → CompletionAnswer
  -- takes key list, lent work and lent output
  pub build : List ℕ → List ℕ → List ℕ → BuildAnswer

abbrev pub defined : Operations
defined = record { check = check_of; highest = highest_of; lookup = lookup_of; prefixes = prefixes_of; longest = longest_of; complete = completion_of; build = build_of }

-- a list of bytes, for what holds of bytes but not of all lists of numbers
abbrev pub Bytes : List ℕ → Type 0
Bytes b = (i : ℕ) → i < length b → byte_at b i < 2 ^ 8
