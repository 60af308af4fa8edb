-- What each search answers in terms of the set of pairs d of an image, where xs are the labels of the query.
use Rattle.std.specs.Prelude.{ℕ, ◌≤◌, ◌<◌, ◌≡◌, ◌⊎◌, Bool, true, length, Option, Some, None, unwrap_or}
use mathlib.Core.List.{List, [], ◌∷◌, ◌++◌, map, Memᴰ}
use Rattle.lxtr_spec.specs.Labels.{comes_before, Pair}
use Rattle.lxtr_spec.specs.Image.{code_of}
use Rattle.lxtr_spec.specs.Completions.{room_for}
use Rattle.lxtr_spec.specs.Sets.{PairSet, Has}
use Rattle.lxtr_spec.specs.declared.Case.{Case}
use Rattle.lxtr_spec.specs.declared.Case.TheVariants.{Neither, PrefixOnly, ExactOnly, ExactAndPrefix}

-- each member comes before the next one, by the order R
unfoldable pub Ordered : {A : Type 0} → (A → A → Type 0) → List A → Type 0
Ordered R [] = Unit {0}
Ordered R (x ∷ []) = Unit {0}
Ordered R (x ∷ y ∷ l) = R x y × Ordered R (y ∷ l)

abbrev pub Shorter : ℕ × ℕ → ℕ × ℕ → Type 0
Shorter m n = m.0 < n.0

-- The highest value number of the set: h is some key's value that no other is above, or none if there is no key.
pub record HighestIn (d : PairSet) (h : Option ℕ) : Type 0 where
  pub most : (k : List ℕ) (v : ℕ) → Has d k v → (w : ℕ) × (h ≡ Some w) × (v ≤ w)
  pub is : (w : ℕ) → h ≡ Some w → (k : List ℕ) × Has d k w

-- Prefixes: ms are length and value of exactly those prefixes of the labels that are keys, shortest first.
pub record PrefixesIn (d : PairSet) (xs : List ℕ) (ms : List (ℕ × ℕ)) : Type 0 where
  pub rising : Ordered Shorter ms
  pub all : (p r : List ℕ) (v : ℕ) → xs ≡ p ++ r → Has d p v → Memᴰ (length p, v) ms
  pub only : (n v : ℕ) → Memᴰ (n, v) ms → (p : List ℕ) × (r : List ℕ) × (xs ≡ p ++ r) × (length p ≡ n) × Has d p v

-- Longest: n is the greatest length of a prefix of the labels that is a key, or 0 if there is none.
pub record LongestIn (d : PairSet) (xs : List ℕ) (n : ℕ) : Type 0 where
  pub most : (p r : List ℕ) (v : ℕ) → xs ≡ p ++ r → Has d p v → length p ≤ n
  pub is : (n ≡ 0) ⊎ ((p : List ℕ) × (r : List ℕ) × (v : ℕ) × (xs ≡ p ++ r) × (length p ≡ n) × Has d p v)

-- Longer keys exist: the labels are a proper front part of a key of the set.
pub record Longer (d : PairSet) (xs : List ℕ) : Type 0 where
  pub next : ℕ
  pub rest : List ℕ
  pub value : ℕ
  pub is : Has d (xs ++ next ∷ rest) value

-- Lookup, by its four cases. Nothing: no key begins with the labels. Prefix: they are a proper front part of a key, and no key.
-- Exact: they are a key with this value, and no proper front part of one. Exact and prefix: they are both.
abbrev pub CaseIn : PairSet → List ℕ → Case → Type 0
CaseIn d xs Neither = (r : List ℕ) (v : ℕ) → Has d (xs ++ r) v → ⊥
CaseIn d xs PrefixOnly = Longer d xs × (d xs ≡ None)
CaseIn d xs (ExactOnly v) = Has d xs v × (Longer d xs → ⊥)
CaseIn d xs (ExactAndPrefix v) = Has d xs v × Longer d xs

-- Code order compares keys by their labels' codes, one after the other, a proper prefix first. (Every label of a key is listed, so
-- the 0 for a missing code is never used.)
unfoldable pub label_code : List ℕ → ℕ → ℕ
label_code b x = unwrap_or (code_of b x) 0

unfoldable pub before_by_code : List ℕ → List ℕ → List ℕ → Bool
before_by_code b k l = comes_before (map (label_code b) k) (map (label_code b) l)

abbrev pub CodeBefore : List ℕ → Pair → Pair → Type 0
CodeBefore b p r = before_by_code b p.0 r.0 ≡ true

-- Completions: ps are exactly the pairs of the set whose keys begin with the labels, in code order.
pub record Lists (b : List ℕ) (d : PairSet) (xs : List ℕ) (ps : List Pair) : Type 0 where
  pub ordered : Ordered (CodeBefore b) ps
  pub all : (r : List ℕ) (v : ℕ) → Has d (xs ++ r) v → Memᴰ (xs ++ r, v) ps
  pub only : (k : List ℕ) (v : ℕ) → Memᴰ (k, v) ps → (r : List ℕ) × (k ≡ xs ++ r) × Has d k v

-- It stops before the first record without room: fit is a front part of ps for which r bytes are enough, and with the next pair they
-- are not enough.
pub record FittingFront (r : ℕ) (ps fit : List Pair) : Type 0 where
  pub rest : List Pair
  pub parts : ps ≡ fit ++ rest
  pub fits : room_for fit ≤ r
  pub full : (p : Pair) (later : List Pair) → rest ≡ p ∷ later → r < room_for (fit ++ p ∷ [])
