-- Which slots are free after a slot is settled: the children's slots are not, and the others stay as they were.
use Rattle.std.specs.Prelude.{ℕ, zero, suc, ◌+◌, ◌*◌, ◌^◌, ◌<◌, ◌≡◌, ◌≢◌, Bool, false, ◌&&◌, not, length, set}
use Rattle.std.proofs.Math.Path.{sym, ap, subst}
use Rattle.std.proofs.Common.{◌∙◌, arith, eq-eqb, ne_eqb}
use mathlib.Core.List.{List, [], ◌∷◌}
use Rattle.std.proofs.Math.Bool.{and-true, and-false}
use Rattle.std.proofs.Math.Decide.{ℕ_discrete}
use Rattle.std.proofs.Math.Dec.{leb, ltb, eqb}
use Rattle.std.proofs.Math.ListN.{length-set}
use Rattle.lxtr_spec.specs.Image.{low31}
use Rattle.lxtr_spec.specs.Joining.{slot_under}
use Rattle.lxtr_spec.specs.Placing.{check_at, is_free, put_child, put_parent}
use Rattle.lxtr_laws.specs.Tests.{is_false}
use Rattle.lxtr_build_laws.specs.SlotWords.{Same, Taken, check_of_base, check_same}
use Rattle.lxtr_build_laws.specs.FirstFit.{free_of}
use Rattle.lxtr_build_laws.specs.SettledSlots.{put_child_parent, put_child_same, put_parent_same}

module _ (S : ℕ) where
  -- a slot with the same check is as free as before
  free_by_check : (w w' : List ℕ) (t : ℕ) → check_at w' t ≡ check_at w t → is_free S w' t ≡ is_free S w t
  unfolding is_free
  free_by_check w w' t e = ap (λ (x : ℕ). leb 2 t && ltb t S && eqb x 0) e

  taken_not_free : (w : List ℕ) (t : ℕ) → Taken w t → is_free S w t ≡ false
  taken_not_free w t h = is_false (is_free S w t) (λ e. h (free_of S w t e).0)

  parent_not_free : (w : List ℕ) (t : ℕ) → check_at w t ≢ 0 → is_free S w t ≡ false
  parent_not_free w t h = taken_not_free w t (λ f. h f.zero_check)

module _ (S p v b c : ℕ) (w : List ℕ) (room : 2 * slot_under b c + 1 < length w) (parent : p ≢ 0) where
  pub free_after_child : (s : ℕ) → is_free S (put_child p v b c w) s ≡ (is_free S w s && not (eqb s (slot_under b c)))
  unfolding Same
  free_after_child s = go (ℕ_discrete s (slot_under b c))
    where
      put : check_at (put_child p v b c w) (slot_under b c) ≡ p
      put = put_child_parent p v b c w room

      go : Dec (s ≡ slot_under b c) → is_free S (put_child p v b c w) s ≡ (is_free S w s && not (eqb s (slot_under b c)))
      go (yes e) =
          parent_not_free S (put_child p v b c w) s (λ z. parent (sym put ∙ ap (check_at (put_child p v b c w)) (sym e) ∙ z))
          ∙ sym (and-false (is_free S w s)) ∙ ap (λ (t : Bool). is_free S w s && not t) (sym (eq-eqb s (slot_under b c) e))
      go (no n) =
          free_by_check S w (put_child p v b c w) s (put_child_same p v b c w s n).1
          ∙ sym (and-true (is_free S w s)) ∙ ap (λ (t : Bool). is_free S w s && not t) (sym (ne_eqb s (slot_under b c) n))

module _ (S p b : ℕ) (w : List ℕ) (room : 2 * p + 1 < length w) (taken : Taken w p) where
  -- p's own check is the same, or has HAS_LEAF now
  own : (cs : List ℕ) → is_free S (put_parent p b cs w) p ≡ is_free S w p
  unfolding put_parent
  own [] = free_by_check S w (set w (2 * p) b) p (check_of_base w p p b)
  own (suc c ∷ cs) = free_by_check S w (set w (2 * p) b) p (check_of_base w p p b)
  own (zero ∷ cs) =
      let x = 2 ^ 31 + low31 (check_at w p) in
      let new : check_at (set (set w (2 * p) b) (2 * p + 1) x) p ≡ x = check_same (set w (2 * p) b) p x (simp length-set room) in
      parent_not_free S (set (set w (2 * p) b) (2 * p + 1) x) p (λ z. omega arith) ∙ sym (taken_not_free S w p taken)

  pub free_after_parent : (cs : List ℕ) (s : ℕ) → is_free S (put_parent p b cs w) s ≡ is_free S w s
  unfolding Same
  free_after_parent cs s = go (ℕ_discrete s p)
    where
      go : Dec (s ≡ p) → is_free S (put_parent p b cs w) s ≡ is_free S w s
      go (no n) = free_by_check S w (put_parent p b cs w) s (put_parent_same p b cs w s n).1
      go (yes e) = subst (λ (t : ℕ). is_free S (put_parent p b cs w) t ≡ is_free S w t) (sym e) (own cs)
