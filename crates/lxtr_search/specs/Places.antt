-- The matches that were found, as two arrays with a place for each possible length: lengths and values are at the front, shortest
-- first, and the places after them are zero.
use Rattle.std.specs.Prelude.{ℕ, ◌+◌, ◌<◌, ◌≤◌, ◌≡◌, refl, List, [], ◌∷◌, ◌++◌, map, length, take, set, replicate}
use Rattle.std.proofs.Common.{sym, ap, ◌∙◌, arith, append_assoc, length-append, length-set}
use Rattle.std.proofs.lemmas.List.{take_more_set, length-take-le, length-replicate}
use Rattle.std.proofs.Math.Seq.{set-append_seam}
use native.Mathlib.Nat.{sub-zero}
use Rattle.lxtr_spec.specs.Labels.{length_count}
use Rattle.lxtr_spec.specs.Searches.{padded, match_length, match_value}
use Rattle.lxtr_spec.specs.declared.Match.{Match}
use Rattle.lxtr_laws.specs.RangeTests.{more}
use Rattle.lxtr_search.specs.Matches.{pair_of}

-- the matches that have these lengths and values
abbrev pub paired : List ℕ → List ℕ → List Match
paired [] vs = []
paired (k ∷ ks) [] = []
paired (k ∷ ks) (v ∷ vs) = record { length = k; value = v } ∷ paired ks vs

-- the two arrays of matches
abbrev pub length_places : List Match → List ℕ
length_places ms = padded (map match_length (map pair_of ms))

abbrev pub value_places : List Match → List ℕ
value_places ms = padded (map match_value (map pair_of ms))

-- the first n places of an array are used
pub record FrontUsed (n : ℕ) (xs : List ℕ) : Type 0 where
  pub all : length xs ≡ length_count
  pub unused : xs ≡ padded (take n xs)

-- the first n places of both arrays are used
pub record Filled (n : ℕ) (ls vs : List ℕ) : Type 0 where
  pub within : n ≤ length_count
  pub lengths : FrontUsed n ls
  pub values : FrontUsed n vs

padded_set : (xs : List ℕ) (x : ℕ) → length xs < length_count → set (padded xs) (length xs) x ≡ padded (xs ++ x ∷ [])
padded_set xs x h = rw (length-append, append_assoc, more length_count (length xs) h, set-append_seam)

zeros : FrontUsed 0 (replicate length_count 0)
zeros = record { all = length-replicate length_count 0; unused = rw (sub-zero length_count) }

-- no place is used
pub filled_none : Filled 0 (replicate length_count 0) (replicate length_count 0)
filled_none = record { within = omega arith; lengths = zeros; values = zeros }

-- one more place of an array is used
module _ (n : ℕ) (xs : List ℕ) (x : ℕ) (room : n < length_count) (f : FrontUsed n xs) where
  used : length (take n xs) ≡ n
  used = length-take-le n xs (omega (arith, f.all))

  front_take : take (n + 1) (set xs n x) ≡ take n xs ++ x ∷ []
  front_take = take_more_set xs n x (omega (arith, f.all))

  front_set : set xs n x ≡ padded (take n xs ++ x ∷ [])
  front_set =
      ap (λ (l : List ℕ). set l n x) f.unused
      ∙ ap (λ (i : ℕ). set (padded (take n xs)) i x) (sym used)
      ∙ padded_set (take n xs) x (omega (arith, used))

  front_more : FrontUsed (n + 1) (set xs n x)
  front_more = record { all = length-set xs n x ∙ f.all; unused = front_set ∙ ap (λ (l : List ℕ). padded l) (sym front_take) }

paired_count : (ks vs : List ℕ) → length ks ≡ length vs → length (paired ks vs) ≡ length ks
paired_count [] vs h = refl
paired_count (k ∷ ks) [] h = absurd (omega (arith, h))
paired_count (k ∷ ks) (v ∷ vs) h = let e : length (paired ks vs) ≡ length ks = paired_count ks vs (omega (arith, h)) in omega (arith, e)

paired_more : (ks vs : List ℕ) (m : Match) → length ks ≡ length vs → paired (ks ++ m.length ∷ []) (vs ++ m.value ∷ []) ≡ paired ks vs ++ m ∷ []
paired_more [] [] m h = refl
paired_more [] (v ∷ vs) m h = absurd (omega (arith, h))
paired_more (k ∷ ks) [] m h = absurd (omega (arith, h))
paired_more (k ∷ ks) (v ∷ vs) m h = rw (paired_more ks vs m (omega (arith, h)))

paired_lengths : (ks vs : List ℕ) → length ks ≡ length vs → map match_length (map pair_of (paired ks vs)) ≡ ks
paired_lengths [] vs h = refl
paired_lengths (k ∷ ks) [] h = absurd (omega (arith, h))
paired_lengths (k ∷ ks) (v ∷ vs) h = rw (paired_lengths ks vs (omega (arith, h)))

paired_values : (ks vs : List ℕ) → length ks ≡ length vs → map match_value (map pair_of (paired ks vs)) ≡ vs
paired_values [] [] h = refl
paired_values [] (v ∷ vs) h = absurd (omega (arith, h))
paired_values (k ∷ ks) [] h = absurd (omega (arith, h))
paired_values (k ∷ ks) (v ∷ vs) h = rw (paired_values ks vs (omega (arith, h)))

-- the matches of filled arrays
module _ (n : ℕ) (ls vs : List ℕ) (f : Filled n ls vs) where
  lengths_used : length (take n ls) ≡ n
  lengths_used = length-take-le n ls (omega (arith, f.within, f.lengths.all))

  values_used : length (take n vs) ≡ n
  values_used = length-take-le n vs (omega (arith, f.within, f.values.all))

  as_many : length (take n ls) ≡ length (take n vs)
  as_many = lengths_used ∙ sym values_used

  -- how many there are
  pub used_count : length (paired (take n ls) (take n vs)) ≡ n
  used_count = paired_count (take n ls) (take n vs) as_many ∙ lengths_used

  -- the arrays are those of the matches
  pub filled_lengths : ls ≡ length_places (paired (take n ls) (take n vs))
  filled_lengths = f.lengths.unused ∙ ap (λ (l : List ℕ). padded l) (sym (paired_lengths (take n ls) (take n vs) as_many))

  pub filled_values : vs ≡ value_places (paired (take n ls) (take n vs))
  filled_values = f.values.unused ∙ ap (λ (l : List ℕ). padded l) (sym (paired_values (take n ls) (take n vs) as_many))

  -- one more match
  module _ (m : Match) (room : n < length_count) where
    pub filled_take : paired (take (n + 1) (set ls n m.length)) (take (n + 1) (set vs n m.value)) ≡ paired (take n ls) (take n vs) ++ m ∷ []
    filled_take = rw (front_take n ls m.length room f.lengths, front_take n vs m.value room f.values) (paired_more (take n ls) (take n vs) m as_many)

    pub filled_more : Filled (n + 1) (set ls n m.length) (set vs n m.value)
    filled_more = record { within = omega arith; lengths = front_more n ls m.length room f.lengths; values = front_more n vs m.value room f.values }
