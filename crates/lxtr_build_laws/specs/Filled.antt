-- A work that holds a set: what the slots of the prefixes and of the keys' ends hold, and that no other slot holds anything.
use Rattle.std.specs.Prelude.{ℕ, ◌+◌, ◌^◌, ◌<◌, ◌≡◌, List, [], ◌∷◌, ◌++◌, true, ◌≢◌, ◌↔◌, None}
use Rattle.lxtr_spec.specs.Labels.{value_limit}
use Rattle.lxtr_spec.specs.Joining.{slot_under}
use Rattle.lxtr_spec.specs.Image.{top_bit}
use Rattle.lxtr_spec.specs.Placing.{base_at, check_at, base_count}
use Rattle.lxtr_spec.specs.Sets.{PairSet, Has, Prefix}
use Rattle.lxtr_build_laws.specs.SlotWords.{parent_at}
use Rattle.lxtr_build_laws.specs.ChildLists.{Child, TakenListed}

-- what slot t of the work is
pub data WorkSlot (d : PairSet) (w : List ℕ) (slot end : List ℕ → ℕ) : ℕ → Type 0 where
  of_prefix : (p : List ℕ) → Prefix d p → WorkSlot d w slot end (slot p)
  of_end : (k : List ℕ) (v : ℕ) → Has d k v → WorkSlot d w slot end (end k)
  of_none : (t : ℕ) → base_at w t ≡ 0 → check_at w t ≡ 0 → WorkSlot d w slot end t

-- the first N slots of the work w hold the set d, where the map has L labels: its prefixes at `slot`, its keys' ends at `end`
pub record Filled (N L : ℕ) (d : PairSet) (w : List ℕ) (code : ℕ → ℕ) (slot end : List ℕ → ℕ) : Type 0 where
  pub root : slot [] ≡ 1
  pub slot_is : (p : List ℕ) (x : ℕ) → slot (p ++ x ∷ []) ≡ slot_under (base_at w (slot p)) (code x)
  pub end_is : (k : List ℕ) → end k ≡ slot_under (base_at w (slot k)) 0
  pub slot_in : (p : List ℕ) (x : ℕ) → Prefix d (p ++ x ∷ []) → Child w N (slot p) (slot (p ++ x ∷ []))
  pub end_in : (k : List ℕ) (v : ℕ) → Has d k v → Child w N (slot k) (end k)
  pub slot_below : (p : List ℕ) → Prefix d p → slot p < N
  pub slot_base : (p : List ℕ) → Prefix d p → base_at w (slot p) < base_count
  pub slot_flag : (p : List ℕ) → Prefix d p → (top_bit (check_at w (slot p)) ≡ true) ↔ ((v : ℕ) × Has d p v)
  pub end_base : (k : List ℕ) (v : ℕ) → Has d k v → base_at w (end k) ≡ 2 ^ 31 + v
  pub end_check : (k : List ℕ) (v : ℕ) → Has d k v → check_at w (end k) ≡ slot k
  pub value : (k : List ℕ) (v : ℕ) → Has d k v → v < value_limit
  pub root_parent : parent_at w 1 ≡ 0
  pub slots_differ : (p q : List ℕ) → Prefix d p → Prefix d q → slot p ≡ slot q → p ≡ q
  pub ends_differ : (k l : List ℕ) (u v : ℕ) → Has d k u → Has d l v → end k ≡ end l → k ≡ l
  pub slot_no_end : (p k : List ℕ) (v : ℕ) → Prefix d p → Has d k v → slot p ≢ end k
  pub empty_root : ((k : List ℕ) → d k ≡ None) → base_at w 1 ≡ 0
  pub each : (t : ℕ) → WorkSlot d w slot end t
  pub small : (t : ℕ) → (base_at w t < 2 ^ 32) × (check_at w t < 2 ^ 32)
  pub listed : TakenListed w N L
