-- The places of a children list: they start at its offset, and there are as many as its width.
-- If offsets don't fall, they are places of the children array.
use Rattle.std.specs.Prelude.{ℕ, zero, suc, ◌+◌, ◌-◌, ◌≤◌, ◌<◌, ◌≡◌, ◌↔◌, List}
use Rattle.std.proofs.Common.{le_refl, add-zero, arith}
use Rattle.lxtr_spec.specs.Image.{slot_count, offset, list_width}
use Rattle.lxtr_spec.specs.Sets.{InList}

pub in_list : (b : List ℕ) (p j : ℕ) → InList b p j ↔ ((offset b p ≤ j) × (j < offset b p + list_width b p))
unfolding list_width
in_list b p j = (λ i. (i.from, omega (arith, i.from, i.to)), λ h. record { from = h.0; to = omega arith })

module _ (b : List ℕ) (rising : (p : ℕ) → p < slot_count b → offset b p ≤ offset b (p + 1)) where
  pub offsets_rise : (p m : ℕ) → p + m ≤ slot_count b → offset b p ≤ offset b (p + m)
  offsets_rise p zero h = rw (add-zero p) (le_refl (offset b p))
  offsets_rise p (suc m) h =
      let e : p + suc m ≡ p + m + 1 = omega arith in
      let a = offsets_rise p m (omega arith) in
      let c = rising (p + m) (omega arith) in
      rw e (omega arith)

  pub in_children : (p j : ℕ) → p < slot_count b → InList b p j → j < offset b (slot_count b)
  in_children p j h i =
      let e : p + 1 + (slot_count b - (p + 1)) ≡ slot_count b = omega arith in
      let a : offset b (p + 1) ≤ offset b (slot_count b) = rw e at (offsets_rise (p + 1) (slot_count b - (p + 1)) (omega arith)) in
      omega (arith, i.to)
