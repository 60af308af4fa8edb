-- Demand 2 for the searches and completions: what each answers over an image is what the image's set of pairs says.
-- Only the statements, of any program; that the definitions meet them is `demand2` in Laws/Demand2.antt and `searches_agree` in
-- Laws/Searches.antt.
use Rattle.std.specs.Prelude.{ℕ, ◌*◌, ◌%◌, ◌≤◌, ◌≡◌, List, ◌++◌, length, take, drop, ltb, Option}
use Rattle.lxtr_spec.specs.Labels.{labels_of, Pair}
use Rattle.lxtr_spec.specs.Searches.{search_refusal, case_value, value_within, prefixes_answer}
use Rattle.lxtr_spec.specs.Completions.{listing_of, room_for}
use Rattle.lxtr_spec.specs.Sets.{PairSet, ImageOf}
use Rattle.lxtr_spec.specs.Meaning.{CaseIn, PrefixesIn, LongestIn, Lists, FittingFront}
use Rattle.lxtr_spec.specs.declared.Case.{Case}
use Rattle.lxtr_demands.specs.Operations.{Operations, defined}

-- the lookup of the query q is not refused, and gives this value or none
pub record GivesValue (o : Operations) (b q : List ℕ) (v : Option ℕ) : Type 0 where
  pub refusal : (o.lookup b q).refusal ≡ 0
  pub value : case_value (o.lookup b q).case ≡ v

-- what the program o answers for the query q, whose labels are xs, in terms of the set d: lookup's value, prefixes, longest
pub record Searched (o : Operations) (b : List ℕ) (d : PairSet) (q xs : List ℕ) : Type 0 where
  -- Lookup: the value number or none.
  pub lookup_value : GivesValue o b q (d xs)
  -- The same for each front part of the query.
  pub front_value : (n : ℕ) → 4 * n ≤ length q → GivesValue o b (take (4 * n) q) (d (take n xs))
  -- Prefixes: length and value of each prefix that is a key, shortest first. There is one such list.
  pub prefixes : (ms : List (ℕ × ℕ)) → PrefixesIn d xs ms → o.prefixes b q ≡ prefixes_answer 0 ms
  pub some_prefixes : (ms : List (ℕ × ℕ)) × PrefixesIn d xs ms
  pub one_prefixes : (ms ns : List (ℕ × ℕ)) → PrefixesIn d xs ms → PrefixesIn d xs ns → ms ≡ ns
  -- Longest: the longest of these, as the front part of the query; empty if none. There is one such length.
  pub longest : (n : ℕ) → LongestIn d xs n → o.longest b q ≡ record { refusal = 0; part = take (4 * n) q }
  pub some_longest : (n : ℕ) × LongestIn d xs n
  pub one_longest : (m n : ℕ) → LongestIn d xs m → LongestIn d xs n → m ≡ n

-- these answers and the others, over an image b of the set d
pub record Answered (o : Operations) (b : List ℕ) (d : PairSet) (q xs : List ℕ) : Type 0 where
  pub searched : Searched o b d q xs
  -- Lookup: the case that is true of the labels. There is one such case.
  pub lookup : (c : Case) → CaseIn d xs c → o.lookup b q ≡ record { refusal = 0; case = c }
  pub some_case : (c : Case) × CaseIn d xs c
  pub one_case : (c e : Case) → CaseIn d xs c → CaseIn d xs e → c ≡ e
  -- Completions: the pairs whose keys begin with the labels, in code order. There is one such list.
  pub some_listing : (ps : List Pair) × Lists b d xs ps
  pub one_listing : (ps rs : List Pair) → Lists b d xs ps → Lists b d xs rs → ps ≡ rs
  -- Into lent room of 5 bytes or more it writes the front part of this list that has room, and says whether it stopped
  -- before the end. There is one such part.
  pub completion : (ps fit : List Pair) (room : List ℕ) → Lists b d xs ps → 5 ≤ length room → FittingFront (length room) ps fit
      → o.complete b q room ≡ record { answer = record { refusal = 0; count = length fit; stopped = ltb (length fit) (length ps) }; room = listing_of fit ++ drop (room_for fit) room }
  pub some_front : (ps : List Pair) (room : List ℕ) → 5 ≤ length room → (fit : List Pair) × FittingFront (length room) ps fit
  pub one_front : (ps fit other : List Pair) (room : List ℕ) → FittingFront (length room) ps fit → FittingFront (length room) ps other → fit ≡ other

-- for every image, and every query whose length is a multiple of four
abbrev pub Demand2 : Operations → Type 0
Demand2 o = (b : List ℕ) (d : PairSet) (q : List ℕ) → ImageOf b d → length q % 4 ≡ 0 → Answered o b d q (labels_of q)

-- What holds without the check: if 1 to 8 and 13 refuse nothing, then, whether or not the image is accepted, the searches agree on
-- the pairs that lookup finds. So prefixes are the lengths and values at which lookup finds a value, and longest is the last of
-- them. (Whether lookup says prefix is decided by the width of a list, and no other search reads it.)
abbrev pub SearchesAgree : Type 0
SearchesAgree = (b q : List ℕ) → search_refusal b q ≡ 0 → Searched defined b (value_within b) q (labels_of q)
