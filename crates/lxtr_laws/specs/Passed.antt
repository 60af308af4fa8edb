-- What is known of bytes once refusals 1 to 8 are ruled out, as equations and inequalities: reading an image needs no more.
use Rattle.std.specs.Prelude.{ℕ, ◌+◌, ◌*◌, ◌≤◌, ◌≡◌, List, Bool, false, length}
use native.Mathlib.Omega.{arith}
use Rattle.lxtr_spec.specs.Labels.{min_slots, max_slots, max_listed}
use Rattle.lxtr_spec.specs.Image.{header_length, slot_count, child_count, map_length, image_length, offset, label_count}
use Rattle.lxtr_spec.specs.Refusals.{too_short, sizes_wrong, length_wrong, map_wrong, offset_ends_wrong, header_refusal}
use Rattle.lxtr_laws.specs.Tests.{ltb_is_false, outcome}
use Rattle.lxtr_laws.specs.RangeTests.{tests}
use Rattle.lxtr_laws.specs.RefusalChains.{none_refused}

-- once refusals 1 to 5 are ruled out
pub record Sized (b : List ℕ) : Type 0 where
  pub header : header_length ≤ length b
  pub slots_from : min_slots ≤ slot_count b
  pub slots_to : slot_count b ≤ max_slots
  pub children : child_count b + 2 ≤ slot_count b

-- once refusals 1 to 6 are ruled out
pub record Whole (b : List ℕ) : Type 0 where
  pub sized : Sized b
  pub size : length b ≡ image_length b

-- once refusals 1 to 8 are ruled out
pub record Passed (b : List ℕ) : Type 0 where
  pub whole : Whole b
  pub labels : label_count b ≤ max_listed
  pub map_size : map_length b ≡ 5 + 4 * label_count b
  pub first : offset b 0 ≡ 0
  pub last : offset b (slot_count b) ≡ child_count b

module _ {b : List ℕ} where
  pub sized : header_length ≤ length b → sizes_wrong b ≡ false → Sized b
  unfolding sizes_wrong
  sized h e = let p = simp tests at e in record { header = h; slots_from = p.0.0; slots_to = p.0.1; children = omega arith }

  pub whole : Sized b → length_wrong b ≡ false → Whole b
  unfolding length_wrong
  whole s e = record { sized = s; size = simp tests at e }

  pub passed : Whole b → map_wrong b ≡ false → offset_ends_wrong b ≡ false → Passed b
  unfolding map_wrong offset_ends_wrong
  passed w e f =
      let p = simp tests at e in
      let q = simp tests at f in
      record { whole = w; labels = p.0.1; map_size = p.1; first = q.0; last = q.1 }

  -- the first two for a test's result r, as the code has it
  pub sized_by : (r : Bool) → header_length ≤ length b → r ≡ sizes_wrong b → r ≡ false → Sized b
  sized_by r h e f = sized h (outcome r _ _ e f)

  pub whole_by : (r : Bool) → Sized b → r ≡ length_wrong b → r ≡ false → Whole b
  whole_by r s e f = whole s (outcome r _ _ e f)

  pub header_passed : header_refusal b ≡ 0 → Passed b
  unfolding header_refusal too_short
  header_passed e =
      let (short, (_, (_, (_, (sizes, (size, (map, (ends, _)))))))) = simp (none_refused, ltb_is_false) at e in
      passed (whole (sized short sizes) size) map ends
