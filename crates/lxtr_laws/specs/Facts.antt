-- What holds of bytes that the check accepts, as facts: records for document 01's faults 10 to 12, with a field for each part.
-- Without faults 1 to 7 and 9, `Framed` holds; without 8, the first and the last offset are right.
use Rattle.std.specs.Prelude.{ℕ, zero, suc, ◌+◌, ◌-◌, ◌≤◌, ◌<◌, ◌≡◌, ◌≢◌, ◌⊎◌, List, false, eqb}
use Rattle.lxtr_spec.specs.Labels.{length_count}
use Rattle.lxtr_spec.specs.Image.{code_to, slot_count, child_count, base_word, check_word, is_leaf, has_leaf, parent, base, offset, child, list_width, label_count}
use Rattle.lxtr_spec.specs.Refusals.{own_code, end_exists, used_count}
use Rattle.lxtr_spec.specs.Sets.{Framed, InList}

-- both words of a slot are zero
pub record ZeroWords (b : List ℕ) (s : ℕ) : Type 0 where
  pub is_base_word : base_word b s ≡ 0
  pub is_check_word : check_word b s ≡ 0

-- an unused slot has no parent, no base, and no flag set
module _ {b : List ℕ} {s : ℕ} (z : ZeroWords b s) where
  pub unused_parent : parent b s ≡ 0
  unfolding parent
  unused_parent = rw z.is_check_word

  pub unused_base : base b s ≡ 0
  unfolding base
  unused_base = rw z.is_base_word

  pub unused_leaf : is_leaf b s ≡ false
  unfolding is_leaf
  unused_leaf = rw z.is_base_word

  pub unused_flag : has_leaf b s ≡ false
  unfolding has_leaf
  unused_flag = rw z.is_check_word

-- a used slot from 2 up; a used slot
abbrev pub UsedFrom2 : List ℕ → ℕ → Type 0
UsedFrom2 b s = (2 ≤ s) × (parent b s ≢ 0)

abbrev pub Used : List ℕ → ℕ → Type 0
Used b s = (s ≡ 1) ⊎ UsedFrom2 b s

-- 10: a used slot from 2 up, and any slot
pub record UsedRight (b : List ℕ) (s : ℕ) : Type 0 where
  pub parent_below : parent b s < slot_count b
  pub parent_used : Used b (parent b s)
  pub parent_inner : is_leaf b (parent b s) ≡ false
  pub code_listed : own_code b s ≤ label_count b
  pub leaf_code : is_leaf b s ≡ eqb (own_code b s) 0

pub record SlotRight (b : List ℕ) (s : ℕ) : Type 0 where
  pub zero : s ≡ 0 → ZeroWords b s
  pub root : s ≡ 1 → (is_leaf b s ≡ false) × (parent b s ≡ 0)
  pub unused : 2 ≤ s → parent b s ≡ 0 → ZeroWords b s
  pub used : UsedFrom2 b s → UsedRight b s
  pub flag : 1 ≤ s → has_leaf b s ≡ end_exists b s

-- 11: entry j of the list of slot p, and all lists
pub record EntryRight (b : List ℕ) (p j : ℕ) : Type 0 where
  pub from : 2 ≤ child b j
  pub to : child b j < slot_count b
  pub used : Used b (child b j)
  pub up : parent b (child b j) ≡ p
  pub above : offset b p < j → code_to b p (child b (j - 1)) < code_to b p (child b j)

pub record ListsRight (b : List ℕ) : Type 0 where
  pub rising : (p : ℕ) → p < slot_count b → offset b p ≤ offset b (p + 1)
  pub count : child_count b ≡ used_count b
  pub entry : (p j : ℕ) → p < slot_count b → InList b p j → EntryRight b p j
  pub parents : (s : ℕ) → s < slot_count b → UsedFrom2 b s → is_leaf b s ≡ false → list_width b s ≢ 0
  pub root : list_width b 1 ≡ 0 → base b 1 ≡ 0

-- 12: the slot that k steps to the parent reach
unfoldable pub ancestor : List ℕ → ℕ → ℕ → ℕ
ancestor b zero s = s
ancestor b (suc k) s = ancestor b k (parent b s)

pub record Reaches (b : List ℕ) (k s : ℕ) : Type 0 where
  pub steps : ℕ
  pub within : steps ≤ k
  pub at_root : ancestor b steps s ≡ 1

-- 1 to 12
pub record Accepted (b : List ℕ) : Type 0 where
  pub framed : Framed b
  pub first : offset b 0 ≡ 0
  pub last : offset b (slot_count b) ≡ child_count b
  pub slots : (s : ℕ) → s < slot_count b → SlotRight b s
  pub lists : ListsRight b
  pub reach : (s : ℕ) → s < slot_count b → UsedFrom2 b s → Reaches b length_count s
