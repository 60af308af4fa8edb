-- What a Result of the searches means, as the definitions' records.
use Rattle.std.specs.Prelude.{ℕ, ◌≡◌, List, [], map, length, Result, Ok, Err}
use Rattle.std.proofs.Common.{Bor, ap}
use Rattle.std.proofs.lemmas.List.{length-map}
use Rattle.lxtr_spec.specs.declared.Match.{Match}
use Rattle.lxtr_spec.specs.declared.refusals.Refusal.{Refusal}
use Rattle.lxtr_spec.specs.Answers.{refusal_of, answer_or}
use Rattle.lxtr_spec.specs.Searches.{Prefixes, search_refusal, prefixes_answer, prefixes_of}
use Rattle.lxtr_search.specs.Matches.{pair_of}
use Rattle.lxtr_search.specs.Places.{length_places, value_places}

-- a refusal and the matches that were found, as refusal, count and both arrays
abbrev pub prefixes_found : ℕ → List Match → Prefixes
prefixes_found k ms = record { refusal = k; count = length ms; lengths = length_places ms; values = value_places ms }

-- (as the definitions make it of pairs; and the refusal is that of a search)
pub found_answer : (k : ℕ) (ms : List Match) → prefixes_found k ms ≡ prefixes_answer k (map pair_of ms)
unfolding prefixes_answer
found_answer k ms = rw (length-map ms pair_of)

pub found_refusal : (b q : List ℕ) (k : ℕ) (ms : List Match) → prefixes_found k ms ≡ prefixes_of b q → k ≡ search_refusal b q
unfolding prefixes_of prefixes_answer
found_refusal b q k ms e = ap (λ (p : Prefixes). p.refusal) e

-- the answer of prefixes: no matches after a refusal
abbrev pub prefixes_given : Result (List Match) Refusal → Prefixes
prefixes_given r = prefixes_found (refusal_of r) (answer_or [] r)

-- the part, empty after a refusal
abbrev pub part_given : {E : Type 0} → Result (Bor (List ℕ)) E → List ℕ
part_given (Ok p) = p.now
part_given (Err e) = []
