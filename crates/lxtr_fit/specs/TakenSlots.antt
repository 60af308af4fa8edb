-- Taking slots in the map: their bits are cleared, and the others stay.
-- When the words of a parent's children are written in the work and their slots are taken in the map, it stays the map of the work.
use Prim.Native.Nat.{ℕ, ◌*◌, ◌-◌, ◌/◌, ◌%◌, ◌^◌, ◌≤◌, ◌<◌}
use Rattle.std.specs.Prelude.{◌≡◌, refl, ◌≢◌, Bool, ◌&&◌, not, eqb, get_or, length, set}
use Rattle.std.proofs.Common.{sym, ap, ap₂, ◌∙◌, arith, get_or-set_same, get_or-set_other, eq-eqb, ne_eqb}
use mathlib.Core.List.{List, [], ◌∷◌, Memᴰ}
use Rattle.std.proofs.Math.Bool.{and-true}
use Rattle.std.proofs.Math.Decide.{ℕ_discrete}
use Rattle.std.specs.Int.Bits.{bit_and}
use Rattle.std.proofs.Math.ListN.{length-set}
use Rattle.std.proofs.Math.Pow.{pow-lt}
use Rattle.lxtr_spec.specs.Labels.{max_slots}
use Rattle.lxtr_spec.specs.Joining.{slot_under}
use Rattle.lxtr_spec.specs.Placing.{put_child, put_children, put_parent}
use Rattle.lxtr_laws.specs.BinaryDigits.{bit, bit_and_lem, bit_not, bit_of_power}
use Rattle.lxtr_laws.specs.SlotMaps.{word_bits, slot_bit}
use Rattle.lxtr_build_laws.specs.PlacingSteps.{Ready}
use Rattle.lxtr_build_laws.specs.FirstFit.{AllFree}
use Rattle.lxtr_build_laws.specs.SettledSlots.{put_child_size, put_parent_size}
use Rattle.lxtr_build_laws.specs.FreeSlots.{free_after_child, free_after_parent}
use Rattle.lxtr_build_laws.specs.SlotLoops.{each_step}
use Rattle.lxtr_fit.specs.FreeMaps.{FreeMap, taken_in, taken_by}

-- ---- one slot is taken

module _ (t : ℕ) (m : List ℕ) where
  pub taken_size : length (taken_in t m) ≡ length m
  unfolding taken_in
  taken_size = length-set m (t / word_bits) (bit_and (get_or m (t / word_bits) 0) ((2 ^ word_bits - 1) - 2 ^ (t % word_bits)))

  module _ (inside : t / word_bits < length m) where
    mask : (j : ℕ) → j < word_bits → bit ((2 ^ word_bits - 1) - 2 ^ (t % word_bits)) j ≡ not (eqb j (t % word_bits))
    mask j h = bit_not (2 ^ (t % word_bits)) word_bits j (pow-lt {i = t % word_bits} {j = word_bits} (omega arith)) h ∙ ap not (bit_of_power (t % word_bits) j)

    -- its bit is cleared, and the others stay
    pub taken_bit : (s : ℕ) → slot_bit (taken_in t m) s ≡ (slot_bit m s && not (eqb s t))
    unfolding slot_bit taken_in
    taken_bit s = go (ℕ_discrete (s / word_bits) (t / word_bits))
      where
        x : ℕ
        x = bit_and (get_or m (t / word_bits) 0) ((2 ^ word_bits - 1) - 2 ^ (t % word_bits))

        same : s / word_bits ≡ t / word_bits → Dec (s % word_bits ≡ t % word_bits) → eqb (s % word_bits) (t % word_bits) ≡ eqb s t
        same e (yes b) = eq-eqb (s % word_bits) (t % word_bits) b ∙ sym (eq-eqb s t (omega arith))
        same e (no b) = ne_eqb (s % word_bits) (t % word_bits) b ∙ sym (ne_eqb s t (λ q. b (ap (λ (n : ℕ). n % word_bits) q)))

        go : Dec (s / word_bits ≡ t / word_bits) → bit (get_or (set m (t / word_bits) x) (s / word_bits) 0) (s % word_bits) ≡ (bit (get_or m (s / word_bits) 0) (s % word_bits) && not (eqb s t))
        go (yes e) =
            ap (λ (i : ℕ). bit (get_or (set m (t / word_bits) x) i 0) (s % word_bits)) e ∙ ap (λ (n : ℕ). bit n (s % word_bits)) (get_or-set_same m (t / word_bits) x 0 inside)
            ∙ bit_and_lem (get_or m (t / word_bits) 0) ((2 ^ word_bits - 1) - 2 ^ (t % word_bits)) (s % word_bits)
            ∙ ap₂ (λ (i : ℕ) (b : Bool). bit (get_or m i 0) (s % word_bits) && b) (sym e) (mask (s % word_bits) (omega arith) ∙ ap not (same e (ℕ_discrete (s % word_bits) (t % word_bits))))
        go (no n) =
            ap (λ (y : ℕ). bit y (s % word_bits)) (get_or-set_other m (t / word_bits) (s / word_bits) x 0 n)
            ∙ sym (ap (λ (b : Bool). bit (get_or m (s / word_bits) 0) (s % word_bits) && not b) (ne_eqb s t (λ q. n (ap (λ (k : ℕ). k / word_bits) q))) ∙ and-true (bit (get_or m (s / word_bits) 0) (s % word_bits)))

-- ---- the slots of a parent's children are taken

module _ (S p v b : ℕ) (parent : p ≢ 0) (few : S ≤ max_slots) where
  child_taken : (c : ℕ) (w m : List ℕ) (l : ℕ) → 2 * S ≤ length w → slot_under b c < S → FreeMap S w m l → FreeMap S (put_child p v b c w) (taken_in (slot_under b c) m) l
  child_taken c w m l room h f = record {
    size = taken_size (slot_under b c) m ∙ f.size;
    bits = λ t. cleared t ∙ ap (λ (a : Bool). a && not (eqb t (slot_under b c))) (f.bits t) ∙ sym (free_after_child S p v b c w (omega arith) parent t);
    none_below = record { none = λ j i k. cleared j ∙ ap (λ (a : Bool). a && not (eqb j (slot_under b c))) (f.none_below.none j i k) };
  }
    where
      cleared : (t : ℕ) → slot_bit (taken_in (slot_under b c) m) t ≡ (slot_bit m t && not (eqb t (slot_under b c)))
      cleared = taken_bit (slot_under b c) m (omega (arith, f.size))

  children_taken : (cs w m : List ℕ) (l : ℕ) → 2 * S ≤ length w → ((c : ℕ) → Memᴰ c cs → slot_under b c < S) → FreeMap S w m l → FreeMap S (put_children p v b cs w) (each_step (taken_by b) cs m) l
  unfolding put_children each_step taken_by
  children_taken [] w m l room below f = f
  children_taken (c ∷ cs) w m l room below f =
      children_taken cs (put_child p v b c w) (taken_in (slot_under b c) m) l (omega (arith, put_child_size p v b c w)) (λ e i. below e (Memᴰ.tail i)) (child_taken c w m l room (below c (Memᴰ.head refl)) f)

-- p's children were placed under b
module _ (S p v : ℕ) (cs w m : List ℕ) (l b : ℕ) (ready : Ready S w p) (free : AllFree S w b cs) (f : FreeMap S w m l) where
  own_kept : FreeMap S (put_parent p b cs w) m l
  own_kept = record { size = f.size; bits = λ t. f.bits t ∙ sym (free_after_parent S p b w (omega (arith, ready.room, ready.to)) ready.taken cs t); none_below = f.none_below }

  pub settled_map : FreeMap S (put_children p v b cs (put_parent p b cs w)) (each_step (taken_by b) cs m) l
  settled_map =
      children_taken S p v b (λ e. omega (arith, ready.from)) ready.slots cs (put_parent p b cs w) m l (omega (arith, ready.room, put_parent_size p b cs w)) (λ c i. (free c i).1) own_kept

-- ---- a map under other names, and the lengths of two maps

module _ {S : ℕ} {w m : List ℕ} {l : ℕ} (f : FreeMap S w m l) where
  pub map_size : {T : ℕ} {u n : List ℕ} {k : ℕ} → FreeMap T u n k → length m ≡ length n
  map_size g = f.size ∙ sym g.size
