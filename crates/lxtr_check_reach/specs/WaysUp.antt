-- Rule 12: from which slots the steps to the parent reach slot 0, and the steps as the code makes them, several at a time.
use Prim.Native.Nat.{ℕ, zero, suc, ◌+◌, ◌<◌}
use Rattle.std.specs.Prelude.{◌≡◌, ◌⊎◌, List, false, ◌&&◌, eqb}
use Rattle.std.proofs.Math.Path.{refl, sym, ap}
use Rattle.std.proofs.Common.{◌∙◌, inl, inr}
use Rattle.std.proofs.Math.Logic.{⊎_elim}
use Rattle.std.proofs.Math.Bool.{not, and-false}
use native.Mathlib.Omega.{arith}
use Rattle.std.proofs.Math.Decide.{dec_lt}
use borrow.Author.Tests.{eq-eqb, ne_eqb}
use Rattle.lxtr_spec.specs.Labels.{length_count}
use Rattle.lxtr_spec.specs.Image.{slot_count, parent}
use Rattle.lxtr_spec.specs.Refusals.{is_used_from2, slots_wrong, reaches, unreachable}
use Rattle.lxtr_laws.specs.Passed.{Whole}
use Rattle.lxtr_laws.specs.Facts.{UsedFrom2, Used, SlotRight, ancestor, unused_parent}
use Rattle.lxtr_laws.specs.Faults.{used_from_2, slots_right}

-- no slot is wrong
module _ (b : List ℕ) (ok : Whole b) (right : slots_wrong b ≡ false) where
  right_at : (s : ℕ) → s < slot_count b → SlotRight b s
  right_at = (slots_right b).0 right

  -- a slot has parent 0 or is a used one from 2 up
  by_parent : (s : ℕ) → s < slot_count b → (parent b s ≡ 0) ⊎ UsedFrom2 b s
  by_parent s h = go s (right_at s h) (dec_lt 0 (parent b s))
    where
      go : (n : ℕ) → SlotRight b n → Dec (0 < parent b n) → (parent b n ≡ 0) ⊎ UsedFrom2 b n
      go zero r d = inl (unused_parent (r.zero refl))
      go (suc zero) r d = inl (r.root refl).1
      go (suc (suc n)) r (no e) = inl (omega arith)
      go (suc (suc n)) r (yes e) = inr (omega arith, λ z. omega arith)

  -- so a step to the parent reaches a slot
  parent_slot : (s : ℕ) → s < slot_count b → parent b s < slot_count b
  parent_slot s h = ⊎_elim (λ e. omega (arith, ok.sized.slots_from)) (λ u. ((right_at s h).used u).parent_below) (by_parent s h)

  -- and steps that reached slot 0 stay there
  stays : (k : ℕ) → ancestor b k 0 ≡ 0
  unfolding ancestor
  stays zero = refl
  stays (suc k) = ap (ancestor b k) (unused_parent ((right_at 0 (omega (arith, ok.sized.slots_from))).zero refl)) ∙ stays k

  -- from a used slot they reach slot 0 one step after slot 1, and in no other way
  one_later : (k s : ℕ) → s < slot_count b → Used b s → reaches b k s ≡ eqb (ancestor b (suc k) s) 0
  unfolding reaches ancestor
  one_later zero s h (inl e) = eq-eqb s 1 e ∙ sym (eq-eqb (parent b s) 0 ((right_at s h).root e).1)
  one_later zero s h (inr u) = ne_eqb s 1 (λ z. omega (arith, u.0)) ∙ sym (ne_eqb (parent b s) 0 u.1)
  one_later (suc k) s h (inl e) = rw (eq-eqb s 1 e) (sym (eq-eqb (ancestor b (suc k) (parent b s)) 0 (ap (ancestor b (suc k)) ((right_at s h).root e).1 ∙ stays (suc k))))
  one_later (suc k) s h (inr u) = let r = (right_at s h).used u in rw (ne_eqb s 1 (λ z. omega (arith, u.0))) (one_later k (parent b s) r.parent_below r.parent_used)

  -- from any other slot the first step reaches slot 0: so the slots that do not reach it are exactly those that rule 12 refuses
  way_up : (k s : ℕ) → s < slot_count b → not (eqb (ancestor b (suc k) s) 0) ≡ (is_used_from2 b s && not (reaches b k s))
  unfolding is_used_from2 ancestor
  way_up k s h = ⊎_elim none some (by_parent s h)
    where
      none : parent b s ≡ 0 → not (eqb (ancestor b (suc k) s) 0) ≡ (is_used_from2 b s && not (reaches b k s))
      none e = rw (e, stays k, and-false)

      some : UsedFrom2 b s → not (eqb (ancestor b (suc k) s) 0) ≡ (is_used_from2 b s && not (reaches b k s))
      some u = rw ((used_from_2 b s).1 u, one_later k s h (inr u))

-- n steps up from slot s lead to the same slot as k steps up from slot `at`
pub record Ascending (b : List ℕ) (n s k at : ℕ) : Type 0 where
  pub below : at < slot_count b
  pub rest : ancestor b n s ≡ ancestor b k at

ancestor_sum : (b : List ℕ) (j k s : ℕ) → ancestor b (j + k) s ≡ ancestor b k (ancestor b j s)
unfolding ancestor
ancestor_sum b zero k s = let e : 0 + k ≡ k = omega arith in rw e
ancestor_sum b (suc j) k s = let e : suc j + k ≡ suc (j + k) = omega arith in rw e (ancestor_sum b j k (parent b s))

module _ (b : List ℕ) (n s : ℕ) where
  pub ascend_start : s < slot_count b → Ascending b n s n s
  ascend_start h = record { below = h; rest = refl }

  module _ (k at : ℕ) (w : Ascending b n s k at) where
    -- j of the steps lead to slot p, and r are left
    pub ascend_by : (j r p : ℕ) → r + j ≡ k → p ≡ ancestor b j at → p < slot_count b → Ascending b n s r p
    ascend_by j r p h e l =
        let q : j + r ≡ k = omega arith in
        record { below = l; rest = w.rest ∙ sym (ap (λ (i : ℕ). ancestor b i at) q) ∙ ancestor_sum b j r at ∙ ap (ancestor b r) (sym e) }

    pub ascend_next : (r p : ℕ) → Whole b → slots_wrong b ≡ false → r + 1 ≡ k → p ≡ parent b at → Ascending b n s r p
    unfolding ancestor
    ascend_next r p ok right h up = ascend_by 1 r p h up (rw up (parent_slot b ok right at w.below))

    pub ascend_end : k ≡ 0 → at ≡ ancestor b n s
    unfolding ancestor
    ascend_end z = sym (rw z at w.rest)

module _ (b : List ℕ) (s k at : ℕ) (w : Ascending b (suc length_count) s k at) (ok : Whole b) (right : slots_wrong b ≡ false) (slot : s < slot_count b) where
  pub reach_tested : (r : ℕ) → r ≡ ancestor b k at → not (eqb r 0) ≡ unreachable b s
  unfolding unreachable
  reach_tested r e = rw (e, ← w.rest) (way_up b ok right length_count s slot)

  -- slot 0 is reached already
  pub reach_found : at ≡ 0 → false ≡ unreachable b s
  unfolding unreachable
  reach_found z = rw (w.rest, z, stays b ok right k) at (way_up b ok right length_count s slot)
