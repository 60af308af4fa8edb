-- Document 01, "When bytes are an image of a set of pairs". These definitions do not use the refusals.
use Rattle.std.specs.Prelude.{ℕ, ◌+◌, ◌*◌, ◌≤◌, ◌<◌, ◌≡◌, ◌≢◌, ◌↔◌, ◌⊎◌, List, [], ◌∷◌, ◌++◌, true, false, length, Option, Some, None}
use Rattle.lxtr_spec.specs.Numbers.{byte_at}
use Rattle.lxtr_spec.specs.Labels.{is_scalar, max_labels, value_limit, min_slots, max_slots, max_listed}
use Rattle.lxtr_spec.specs.Image.{magic, version, slot_count, child_count, map_length, image_length, base_word, check_word, is_leaf, has_leaf, parent, base, value_number, slot_from, code_to, offset, child, map_version, label_count, label_at, label_of_code}

-- The set holds each key once: it gives each of its keys a value number, and any other list of labels none.
-- Two such sets are equal when they give every list the same answer.
abbrev pub PairSet : Type 0
PairSet = List ℕ → Option ℕ

-- the set has the key k with the value number v
abbrev pub Has : PairSet → List ℕ → ℕ → Type 0
Has d k v = d k ≡ Some v

-- each prefix of each key (the empty one always, and whole keys)
pub record Prefix (d : PairSet) (p : List ℕ) : Type 0 where
  pub is : (p ≡ []) ⊎ ((r : List ℕ) × (v : ℕ) × Has d (p ++ r) v)

-- the code map lists the label x, and its code is c
pub record Listed (b : List ℕ) (x c : ℕ) : Type 0 where
  pub from : 1 ≤ c
  pub to : c ≤ label_count b
  pub label : label_of_code b c ≡ x

-- Header, sizes and code map are as above, E is at most N-2, the listed labels are distinct scalar values.
pub record Framed (b : List ℕ) : Type 0 where
  pub magic_bytes : (i : ℕ) → i < 4 → byte_at b i ≡ byte_at magic i
  pub version_is : version b ≡ 3
  pub reserved : (i : ℕ) → ((5 ≤ i) × (i < 8)) ⊎ ((20 ≤ i) × (i < 24)) → byte_at b i ≡ 0
  pub slots : (min_slots ≤ slot_count b) × (slot_count b ≤ max_slots)
  -- E is at most N-2,
  pub children : child_count b + 2 ≤ slot_count b
  -- Length = 24 + 8N + 4(N+1) + 4E + M.
  pub size : length b ≡ image_length b
  pub is_map_version : map_version b ≡ 1
  pub labels : label_count b ≤ max_listed
  -- M = 5 + 4L.
  pub map_size : map_length b ≡ 5 + 4 * label_count b
  -- the listed labels are distinct scalar values.
  pub scalar : (i : ℕ) → i < label_count b → is_scalar (label_at b i) ≡ true
  pub distinct : (i j : ℕ) → i < label_count b → j < label_count b → label_at b i ≡ label_at b j → i ≡ j

-- A key has 0 to 64 labels. A value number is below 2^31. Every label of its keys is listed.
pub record KeysFit (b : List ℕ) (d : PairSet) : Type 0 where
  pub is_key_length : (k : List ℕ) (v : ℕ) → Has d k v → length k ≤ max_labels
  pub key_value : (k : List ℕ) (v : ℕ) → Has d k v → v < value_limit
  pub is_key_label : (p : List ℕ) (x : ℕ) (r : List ℕ) (v : ℕ) → Has d (p ++ x ∷ r) v → (c : ℕ) × Listed b x c

-- Give a slot to each prefix of each key (the empty one always, and whole keys), and one further slot to each key's end;
pub record Placed (b : List ℕ) (d : PairSet) (slot end : List ℕ → ℕ) : Type 0 where
  -- no two share one.
  pub slots_differ : (p q : List ℕ) → Prefix d p → Prefix d q → slot p ≡ slot q → p ≡ q
  pub ends_differ : (k l : List ℕ) (v w : ℕ) → Has d k v → Has d l w → end k ≡ end l → k ≡ l
  pub slot_no_end : (p k : List ℕ) (v : ℕ) → Prefix d p → Has d k v → slot p ≢ end k
  -- The empty prefix has slot 1, all others 2 to N-1.
  pub root : slot [] ≡ 1
  pub slot_in : (p : List ℕ) (x : ℕ) → Prefix d (p ++ x ∷ []) → (2 ≤ slot (p ++ x ∷ [])) × (slot (p ++ x ∷ []) < slot_count b)
  pub end_in : (k : List ℕ) (v : ℕ) → Has d k v → (2 ≤ end k) × (end k < slot_count b)
  -- The slot of a prefix with one more label is the base of the prefix's slot XOR the label's code; an end has its key's base XOR 0.
  pub is_slot_at : (p : List ℕ) (x c : ℕ) → Prefix d (p ++ x ∷ []) → Listed b x c → slot (p ++ x ∷ []) ≡ slot_from b (slot p) c
  pub is_end_at : (k : List ℕ) (v : ℕ) → Has d k v → end k ≡ slot_from b (slot k) 0
  -- A prefix's slot has IS_LEAF clear, and HAS_LEAF set exactly when the prefix is a key.
  pub slot_inner : (p : List ℕ) → Prefix d p → is_leaf b (slot p) ≡ false
  pub slot_flag : (p : List ℕ) → Prefix d p → (has_leaf b (slot p) ≡ true) ↔ ((v : ℕ) × Has d p v)
  -- An end has IS_LEAF set, the key's value number, HAS_LEAF clear.
  pub end_leaf : (k : List ℕ) (v : ℕ) → Has d k v → (is_leaf b (end k) ≡ true) × (value_number b (end k) ≡ v) × (has_leaf b (end k) ≡ false)
  -- Parent of slot 1 is 0; of any other, the slot one step shorter.
  pub root_parent : parent b 1 ≡ 0
  pub slot_parent : (p : List ℕ) (x : ℕ) → Prefix d (p ++ x ∷ []) → parent b (slot (p ++ x ∷ [])) ≡ slot p
  pub end_parent : (k : List ℕ) (v : ℕ) → Has d k v → parent b (end k) ≡ slot k
  -- If the set is empty, the base of slot 1 is 0.
  pub empty_root : ((k : List ℕ) → d k ≡ None) → base b 1 ≡ 0
  -- All other slots, slot 0 among them, hold two zero words.
  pub others : (s : ℕ) → s < slot_count b → ((p : List ℕ) → Prefix d p → slot p ≢ s) → ((k : List ℕ) (v : ℕ) → Has d k v → end k ≢ s)
      → (base_word b s ≡ 0) × (check_word b s ≡ 0)

-- child j lies between offsets p and p+1
pub record InList (b : List ℕ) (p j : ℕ) : Type 0 where
  pub from : offset b p ≤ j
  pub to : j < offset b (p + 1)

-- The children lists.
pub record ListsFit (b : List ℕ) : Type 0 where
  -- For p from 1, the children between offsets p and p+1 are exactly the slots from 2 up with parent p,
  pub members : (p j : ℕ) → 1 ≤ p → p < slot_count b → InList b p j → (2 ≤ child b j) × (child b j < slot_count b) × (parent b (child b j) ≡ p)
  pub whole : (p s : ℕ) → 1 ≤ p → p < slot_count b → 2 ≤ s → s < slot_count b → parent b s ≡ p → (j : ℕ) × InList b p j × (child b j ≡ s)
  -- by ascending code;
  pub ascending : (p j : ℕ) → 1 ≤ p → p < slot_count b → InList b p j → InList b p (j + 1)
      → code_to b p (child b j) < code_to b p (child b (j + 1))
  -- slot 0 has none.
  pub none_of_zero : offset b 1 ≡ offset b 0
  -- The first offset is 0, the last E, and none is below the one before it.
  pub first : offset b 0 ≡ 0
  pub last : offset b (slot_count b) ≡ child_count b
  pub rising : (p : ℕ) → p < slot_count b → offset b p ≤ offset b (p + 1)

-- the bytes b are an image of the set d
pub record ImageOf (b : List ℕ) (d : PairSet) : Type 0 where
  pub framed : Framed b
  pub keys : KeysFit b d
  pub slot : List ℕ → ℕ
  pub end : List ℕ → ℕ
  pub placed : Placed b d slot end
  pub lists : ListsFit b
