-- The map of free slots, as the contracts have it. No laws: those are in TakenSlots.
use Rattle.std.specs.Prelude.{ℕ, ◌-◌, ◌/◌, ◌%◌, ◌^◌, ◌≡◌, List, [], ◌∷◌, Bool, true, ◌&&◌, get_or, length, set}
use Rattle.std.specs.Int.Bits.{bit_and}
use Rattle.lxtr_spec.specs.Labels.{max_slots}
use Rattle.lxtr_spec.specs.Joining.{slot_under}
use Rattle.lxtr_spec.specs.Placing.{is_free}
use Rattle.lxtr_laws.specs.SlotMaps.{word_bits, slot_bit}
use Rattle.lxtr_laws.specs.Firsts.{NoneFrom}
use Rattle.lxtr_laws.specs.JoinedWords.{bit_under}

-- one bit for each slot
abbrev pub map_words : ℕ
map_words = max_slots / word_bits

-- m is the map of the slots that are free in the work w, which has S slots; none of the free ones is below l
pub record FreeMap (S : ℕ) (w m : List ℕ) (l : ℕ) : Type 0 where
  pub size : length m ≡ map_words
  pub bits : (t : ℕ) → slot_bit m t ≡ is_free S w t
  pub none_below : NoneFrom (slot_bit m) 0 l

-- the slots of all codes under the base b are set in the map
unfoldable pub all_under : List ℕ → List ℕ → ℕ → Bool
all_under m [] b = true
all_under m (c ∷ cs) b = bit_under m c b && all_under m cs b

-- the map after slot t is taken; and after the slot of the code c under the base b is
unfoldable pub taken_in : ℕ → List ℕ → List ℕ
taken_in t m = set m (t / word_bits) (bit_and (get_or m (t / word_bits) 0) ((2 ^ word_bits - 1) - 2 ^ (t % word_bits)))

unfoldable pub taken_by : ℕ → ℕ → List ℕ → List ℕ
taken_by b c m = taken_in (slot_under b c) m
