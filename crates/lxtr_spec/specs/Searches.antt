-- Document 01, "The searches", and document 02, request 6: lookup, prefixes and longest, for all bytes.
use Rattle.std.specs.Prelude.{ℕ, ◌+◌, ◌*◌, ◌-◌, ◌%◌, List, [], ◌∷◌, ◌++◌, map, Bool, true, false, not, length, take, replicate, eqb, Option, Some, None}
use Rattle.lxtr_spec.specs.Ranges.{concat_from}
use Rattle.lxtr_spec.specs.Labels.{max_labels, length_count, labels_of}
use Rattle.lxtr_spec.specs.Refusals.{refuse_if, first_refusal, unless_refused, header_refusal}
use Rattle.lxtr_spec.specs.Walks.{walk_within, value_at, value_of, longer_at}
use Rattle.lxtr_spec.specs.declared.Case.{Case}
use Rattle.lxtr_spec.specs.declared.Case.TheVariants.{Neither, PrefixOnly, ExactOnly, ExactAndPrefix}

-- All first test 1 to 8, then give 13 if the query length is no multiple of four.
unfoldable pub query_refusal : List ℕ → ℕ
query_refusal q = refuse_if (not (eqb (length q % 4) 0)) 13 0

unfoldable pub search_refusal : List ℕ → List ℕ → ℕ
search_refusal b q = first_refusal (header_refusal b) (query_refusal q)

-- Refusals answer zero, no value, an empty part, and write nothing in lent room. Each answer below says so by `unless_refused`.

-- Document 02, request 6: merge them (exact and probe) into one operation with four cases: nothing, prefix, exact, exact and
-- prefix, the last two with the value.
-- (of each case, its value or none; ..
unfoldable pub case_value : Case → Option ℕ
case_value Neither = None
case_value PrefixOnly = None
case_value (ExactOnly v) = Some v
case_value (ExactAndPrefix v) = Some v

-- .. whether longer keys exist; ..
unfoldable pub case_longer : Case → Bool
case_longer Neither = false
case_longer PrefixOnly = true
case_longer (ExactOnly v) = false
case_longer (ExactAndPrefix v) = true

-- .. and the case that has these two)
unfoldable pub case_of : Option ℕ → Bool → Case
case_of None false = Neither
case_of None true = PrefixOnly
case_of (Some v) false = ExactOnly v
case_of (Some v) true = ExactAndPrefix v

-- Document 01, Probe: value or none, and whether longer keys exist. If the walk fails or the query passes 64 labels: none, no.
unfoldable pub case_at : List ℕ → Option ℕ → Case
case_at b None = Neither
case_at b (Some n) = case_of (value_at b n) (longer_at b n)

-- the case of the labels xs; beyond 64 labels, nothing; and its value
unfoldable pub case_within : List ℕ → List ℕ → Case
case_within b xs = case_at b (walk_within b xs)

unfoldable pub value_within : List ℕ → List ℕ → Option ℕ
value_within b xs = case_value (case_within b xs)

-- what a lookup answers
pub record Lookup : Type 0 where
  pub refusal : ℕ
  pub case : Case

-- Refusals: 1 to 8 and 13 as before, beside the cases.
unfoldable pub lookup_of : List ℕ → List ℕ → Lookup
lookup_of b q =
    let case = case_within b (labels_of q) in
    record { refusal = search_refusal b q; case = unless_refused (search_refusal b q) case Neither }

-- Prefixes: length and value, shortest first, of each prefix of xs to which f gives a value. match_at gives the match of length k, if any.
unfoldable pub length_match : ℕ → Option ℕ → List (ℕ × ℕ)
length_match k None = []
length_match k (Some v) = (k, v) ∷ []

unfoldable pub match_at : (List ℕ → Option ℕ) → List ℕ → ℕ → List (ℕ × ℕ)
match_at f xs k = length_match k (f (take k xs))

unfoldable pub matches : (List ℕ → Option ℕ) → List ℕ → List (ℕ × ℕ)
matches f xs = concat_from (length xs + 1) 0 (match_at f xs)

-- Only the first 64 query labels count.
unfoldable pub prefix_matches : List ℕ → List ℕ → List (ℕ × ℕ)
prefix_matches b q = matches (value_of b) (take max_labels (labels_of q))

-- a count and 65 places, one for each possible length from 0 to 64; length and value, shortest first, unused places zero
abbrev pub padded : List ℕ → List ℕ
padded xs = xs ++ replicate (length_count - length xs) 0

abbrev pub match_length : ℕ × ℕ → ℕ
match_length m = m.0

abbrev pub match_value : ℕ × ℕ → ℕ
match_value m = m.1

pub record Prefixes : Type 0 where
  pub refusal : ℕ
  pub count : ℕ
  pub lengths : List ℕ
  pub values : List ℕ

unfoldable pub prefixes_answer : ℕ → List (ℕ × ℕ) → Prefixes
prefixes_answer k ms = record { refusal = k; count = length ms; lengths = padded (map match_length ms); values = padded (map match_value ms) }

unfoldable pub prefixes_of : List ℕ → List ℕ → Prefixes
prefixes_of b q = let ms = prefix_matches b q in prefixes_answer (search_refusal b q) (unless_refused (search_refusal b q) ms [])

-- Longest: the matched front part of the caller's query, the longest that Prefixes reports, handed back as a part of that query;
-- empty if none.
pub record LongestAnswer : Type 0 where
  pub refusal : ℕ
  pub part : List ℕ

unfoldable pub last_length : List (ℕ × ℕ) → ℕ
last_length [] = 0
last_length (m ∷ []) = m.0
last_length (m ∷ m' ∷ ms) = last_length (m' ∷ ms)

-- its length in labels
unfoldable pub longest_length : List ℕ → List ℕ → ℕ
longest_length b q = let longest = last_length (prefix_matches b q) in unless_refused (search_refusal b q) longest 0

unfoldable pub longest_of : List ℕ → List ℕ → LongestAnswer
longest_of b q = record { refusal = search_refusal b q; part = take (4 * longest_length b q) q }
