-- Where a fault lies: the place that is answered is the first at which the rule does not hold. Exactly one answer is right.
-- Only the statement; the proof is `fault_right` in Laws/RightPlaces.antt.
use Rattle.std.specs.Prelude.{ℕ, ◌≤◌, ◌<◌, ◌≡◌, ◌≢◌, List, Bool, true, false, ◌||◌, Option, Some, None}
use Rattle.lxtr_spec.specs.Image.{slot_count, child_count, label_count}
use Rattle.lxtr_spec.specs.Refusals.{label_wrong, slot_wrong, offset_falls, used_count, entry_wrong, code_not_above, childless, root_wrong, unreachable, image_refusal}
use Rattle.lxtr_spec.specs.FaultPlaces.{unlisted, fault_of}
use Rattle.lxtr_spec.specs.Sets.{InList}
use Rattle.lxtr_spec.specs.declared.Fault.{Fault}
use Rattle.lxtr_spec.specs.declared.Fault.TheVariants.{Label, Slot, Offset, Entry, Unlisted, Childless, RootBase, Unreachable}

-- i is the first number below n that passes the test f; and: no number below n passes it
pub record First (n : ℕ) (f : ℕ → Bool) (i : ℕ) : Type 0 where
  pub below : i < n
  pub here : f i ≡ true
  pub none_before : (j : ℕ) → j < i → f j ≡ false

abbrev pub NoneBelow : ℕ → (ℕ → Bool) → Type 0
NoneBelow n f = (i : ℕ) → i < n → f i ≡ false

-- 11: entry j of the list of slot p is outside 2 to N-1, unused or has another parent, or its code is not above that of the entry
-- before it
abbrev pub entry_faulty : List ℕ → ℕ → ℕ → Bool
entry_faulty b p j = entry_wrong b p j || code_not_above b p j

-- j is the first place of the children array at which the entry is wrong, and p is the slot whose list it is in
pub record FirstEntry (b : List ℕ) (p j : ℕ) : Type 0 where
  pub slot : p < slot_count b
  pub within : InList b p j
  pub here : entry_faulty b p j ≡ true
  pub none_before : (q i : ℕ) → q < slot_count b → InList b q i → i < j → entry_faulty b q i ≡ false

-- no offset falls; also no entry is wrong; also E is the number of used slots from 2 up, and each of these is listed
abbrev pub OffsetsRise : List ℕ → Type 0
OffsetsRise b = NoneBelow (slot_count b) (offset_falls b)

abbrev pub EntriesHold : List ℕ → Type 0
EntriesHold b = OffsetsRise b × ((p j : ℕ) → p < slot_count b → InList b p j → entry_faulty b p j ≡ false)

abbrev pub AllListed : List ℕ → Type 0
AllListed b = EntriesHold b × (child_count b ≡ used_count b) × NoneBelow (slot_count b) (unlisted b)

-- What the answer says of the bytes. Each line names its refusal, so an answer is right only with that refusal, and no place is
-- right only if none of 9 to 12 is given.
abbrev pub Right : List ℕ → Option Fault → Type 0
Right b None = image_refusal b ≤ 8
Right b (Some (Label i)) = (image_refusal b ≡ 9) × First (label_count b) (label_wrong b) i
Right b (Some (Slot s)) = (image_refusal b ≡ 10) × First (slot_count b) (slot_wrong b) s
Right b (Some (Offset p)) = (image_refusal b ≡ 11) × First (slot_count b) (offset_falls b) p
Right b (Some (Entry p j)) = (image_refusal b ≡ 11) × OffsetsRise b × FirstEntry b p j
Right b (Some (Unlisted s)) = (image_refusal b ≡ 11) × EntriesHold b × (child_count b ≢ used_count b) × First (slot_count b) (unlisted b) s
Right b (Some (Childless s)) = (image_refusal b ≡ 11) × AllListed b × First (slot_count b) (childless b) s
Right b (Some RootBase) = (image_refusal b ≡ 11) × AllListed b × NoneBelow (slot_count b) (childless b) × (root_wrong b ≡ true)
Right b (Some (Unreachable s)) = (image_refusal b ≡ 12) × First (slot_count b) (unreachable b) s

-- what holds of any bytes b
pub record FaultRight (b : List ℕ) : Type 0 where
  -- The answer is right,
  pub right : Right b (fault_of b)
  -- and no other is.
  pub only : (f : Option Fault) → Right b f → f ≡ fault_of b
