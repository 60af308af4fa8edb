-- Why a query is found or not: the reason that a program gives is the true one. Of every query exactly one of the five reasons is
-- true, and over an image it says what the image's set of pairs says.
-- Only the statements, of any program; that the definitions meet them is `why_demand` in Laws/TrueReasons.antt.
use Rattle.std.specs.Prelude.{ℕ, ◌+◌, ◌≤◌, ◌<◌, ◌≡◌, ◌≢◌, ◌↔◌, ◌⊎◌, List, [], ◌∷◌, ◌++◌, length, take, get_or, Some, None}
use Rattle.lxtr_spec.specs.Labels.{max_labels, labels_of}
use Rattle.lxtr_spec.specs.Walks.{walk}
use Rattle.lxtr_spec.specs.Searches.{search_refusal, case_value, value_within, lookup_of}
use Rattle.lxtr_spec.specs.Sets.{PairSet, Has, Prefix, Listed, ImageOf}
use Rattle.lxtr_spec.specs.Meaning.{Longer}
use Rattle.lxtr_spec.specs.declared.Reason.{Reason}
use Rattle.lxtr_spec.specs.declared.Reason.TheVariants.{IsFound, NotListed, NoStep, NoKeyEnds, TooLong}
use Rattle.lxtr_spec.specs.Reasons.{Why}

-- the labels walk: from slot 1 they reach a slot
abbrev pub Walks : List ℕ → List ℕ → Type 0
Walks b xs = (n : ℕ) × (walk b 1 xs ≡ Some n)

-- the code map lists the label at place i
abbrev pub ListedAt : List ℕ → List ℕ → ℕ → Type 0
ListedAt b xs i = (c : ℕ) × Listed b (get_or xs i 0) c

-- The reason is the true one: the place, counted from 0, is the first at which the walk stops, and every shorter front part walks.
-- (The walk of labels that are not too long stops at place i: every front part up to it walks, and none that has its label does.)
pub record StopsAt (b xs : List ℕ) (i : ℕ) : Type 0 where
  pub within : length xs ≤ max_labels
  pub place : i < length xs
  pub walks : (k : ℕ) → k ≤ i → Walks b (take k xs)
  pub stops : (k : ℕ) → i < k → Walks b (take k xs) → ⊥

-- What each reason says of the labels xs, over any bytes. Only a refused query has no reason.
abbrev pub TrueReason : List ℕ → List ℕ → Reason → Type 0
TrueReason b xs IsFound = (v : ℕ) × (value_within b xs ≡ Some v)
TrueReason b xs (NotListed i) = StopsAt b xs i × (ListedAt b xs i → ⊥)
TrueReason b xs (NoStep i) = StopsAt b xs i × ListedAt b xs i
TrueReason b xs NoKeyEnds = (length xs ≤ max_labels) × Walks b xs × (value_within b xs ≡ None)
TrueReason b xs TooLong = max_labels < length xs

-- The same in terms of the set d: some key begins with the first i labels (or i is 0), and none begins with one label more.
pub record StopsIn (d : PairSet) (xs : List ℕ) (i : ℕ) : Type 0 where
  pub within : length xs ≤ max_labels
  pub place : i < length xs
  pub begins : Prefix d (take i xs)
  pub none_begins : (r : List ℕ) (v : ℕ) → Has d (take (i + 1) xs ++ r) v → ⊥

-- "No key ends there" means that the labels are none or a proper front part of a key, and no key.
abbrev pub ReasonIn : List ℕ → PairSet → List ℕ → Reason → Type 0
ReasonIn b d xs IsFound = (v : ℕ) × Has d xs v
ReasonIn b d xs (NotListed i) = StopsIn d xs i × (ListedAt b xs i → ⊥)
ReasonIn b d xs (NoStep i) = StopsIn d xs i × ListedAt b xs i
ReasonIn b d xs NoKeyEnds = ((xs ≡ []) ⊎ Longer d xs) × (d xs ≡ None)
ReasonIn b d xs TooLong = max_labels < length xs

-- what a program answers, and what holds of the reasons
pub record WhyDemand (why : List ℕ → List ℕ → Why) : Type 0 where
  -- Refusals: 1 to 8, then 13, no reason.
  pub refused : (b q : List ℕ) → search_refusal b q ≢ 0 → why b q ≡ record { refusal = search_refusal b q; reason = None }
  -- Otherwise the answer is the true reason.
  pub answer : (b q : List ℕ) (r : Reason) → search_refusal b q ≡ 0 → TrueReason b (labels_of q) r → why b q ≡ record { refusal = 0; reason = Some r }
  -- There is one,
  pub some_reason : (b xs : List ℕ) → (r : Reason) × TrueReason b xs r
  -- and only one.
  pub one_reason : (b xs : List ℕ) (r s : Reason) → TrueReason b xs r → TrueReason b xs s → r ≡ s
  -- It answers found exactly when lookup gives a value.
  pub found_by_lookup : (b q : List ℕ) → ((why b q).reason ≡ Some IsFound) ↔ ((v : ℕ) × (case_value (lookup_of b q).case ≡ Some v))
  -- Over an image of the set d the true reason is what the set says;
  pub in_set : (b : List ℕ) (d : PairSet) (xs : List ℕ) (r : Reason) → ImageOf b d → TrueReason b xs r ↔ ReasonIn b d xs r
  -- and no key has a label that is not listed.
  pub in_no_key : (b : List ℕ) (d : PairSet) (xs : List ℕ) (i : ℕ) → ImageOf b d → TrueReason b xs (NotListed i)
      → (p r : List ℕ) (v : ℕ) → Has d (p ++ get_or xs i 0 ∷ r) v → ⊥
