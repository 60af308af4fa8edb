-- What holds of a key list that is not refused.
use Rattle.std.specs.Prelude.{ℕ, zero, suc, ◌≤◌, ◌<◌, ◌≡◌, true, length}
use mathlib.Core.List.{List, [], ◌∷◌, Memᴰ}
use Rattle.lxtr_spec.specs.Labels.{is_scalar, max_labels, value_limit, comes_before, Pair}
use Rattle.lxtr_spec.specs.KeyLists.{keys_at, max_keys, key_count, key_length, next_key, pairs_of}

-- the key at a place is wholly within the list and has no more labels than a key may have
pub record WholeKey (b : List ℕ) (at : ℕ) : Type 0 where
  pub starts : at < length b
  pub ends : next_key b at ≤ length b
  pub short : key_length b at ≤ max_labels

-- the same for the n keys starting at a place
unfoldable pub WholeKeys : List ℕ → ℕ → ℕ → Type 0
WholeKeys b zero at = Unit {0}
WholeKeys b (suc n) at = WholeKey b at × WholeKeys b n (next_key b at)

-- each key comes before those after it
unfoldable pub Ascending : List Pair → Type 0
Ascending [] = Unit {0}
Ascending (p ∷ g) = ((q : Pair) → Memᴰ q g → comes_before p.0 q.0 ≡ true) × Ascending g

-- the keys, with their value numbers, are in order, and each is one that a set may have
pub record KeysRight (ps : List Pair) : Type 0 where
  pub ascending : Ascending ps
  pub short : (p : Pair) → Memᴰ p ps → length p.0 ≤ max_labels
  pub small : (p : Pair) → Memᴰ p ps → p.1 < value_limit
  pub scalar : (p : Pair) → Memᴰ p ps → (x : ℕ) → Memᴰ x p.0 → is_scalar x ≡ true

-- the list is not refused
pub record KeysPassed (b : List ℕ) : Type 0 where
  pub long : keys_at ≤ length b
  pub few : key_count b ≤ max_keys
  pub whole : WholeKeys b (key_count b) keys_at
  pub right : KeysRight (pairs_of b)
