-- The children lists of a work: which slots are in the list of a slot, by which code, and in all lists together.
use Prim.Native.Nat.{ℕ, zero, suc, ◌+◌, ◌^◌, ◌≤◌, ◌<◌}
use Rattle.std.proofs.Common.{zero-add, sym, ◌∙◌, inl, inr, ne_eqb}
use native.Mathlib.Omega.{arith}
use Rattle.std.specs.Prelude.{◌≡◌, ◌↔◌, ◌⊎◌, Bool, ◌||◌, cond, eqb, get_or}
use Rattle.std.proofs.Math.Path.{refl, ap, subst}
use Rattle.std.proofs.Math.Logic.{◌≢◌}
use mathlib.Core.List.Memᴰ
use mathlib.Core.List.{List, [], ◌∷◌, Memᴰ}
use Rattle.std.proofs.Math.Bool.{true, false}
use Rattle.std.proofs.Math.ListN.{length, length-append}
use Rattle.std.proofs.lemmas.Bool.{lt-leb}
use Rattle.lxtr_spec.specs.Ranges.{concat_from}
use Rattle.lxtr_spec.specs.Joining.{slot_under, code_under}
use Rattle.lxtr_spec.specs.Image.{top_bit, low31}
use Rattle.lxtr_spec.specs.Placing.{base_at, check_at}
use Rattle.lxtr_spec.specs.Builds.{is_child, child_by, children_of, children_in, offsets_from}
use Rattle.lxtr_laws.specs.Tests.{or_is_false, eqb_is_false, leb_is_false}
use Rattle.lxtr_laws.specs.RangeTests.{tests}
use Rattle.lxtr_laws.specs.JoiningLaws.{code_of_slot}
use Rattle.lxtr_laws.specs.Sorted.{Sorted, sorted_one, sorted_weaker}
use Rattle.lxtr_laws.specs.Runs.{run_in, run_from, run_sorted}

-- slot t is one of the N slots from 2 up and has p as parent
pub record Child (w : List ℕ) (N p t : ℕ) : Type 0 where
  pub from : 2 ≤ t
  pub to : t < N
  pub of : low31 (check_at w t) ≡ p

-- and it is in p's list, by a code of the map, which has L labels
pub record ListedChild (w : List ℕ) (N L p t : ℕ) : Type 0 where
  pub parent_from : 1 ≤ p
  pub parent_inner : base_at w p < 2 ^ 31
  pub child : Child w N p t
  pub code : ℕ
  pub is_code_to : code ≤ L
  pub at : t ≡ slot_under (base_at w p) code

-- every taken slot from 2 up is in some slot's list
abbrev pub TakenListed : List ℕ → ℕ → ℕ → Type 0
TakenListed w N L = (t : ℕ) → 2 ≤ t → check_at w t ≢ 0 → (p : ℕ) × (p < N) × ListedChild w N L p t

-- s is reached by a smaller code than t
abbrev pub CodeBelow : ℕ → ℕ → ℕ → Type 0
CodeBelow base s t = code_under base s < code_under base t

module _ (w : List ℕ) (N p : ℕ) where
  pub child_is : (t : ℕ) → (is_child w N p t ≡ true) ↔ Child w N p t
  unfolding is_child
  child_is t = (λ e. let ((from, to), of) = simp tests at e in record { from = from; to = to; of = of }, λ k. simp tests ((k.from, k.to), k.of))

  -- the child by one code
  by_mem : (c t : ℕ) → Memᴰ t (child_by w N p c) → Child w N p t × (t ≡ slot_under (base_at w p) c)
  unfolding child_by
  by_mem c t m = go (is_child w N p (slot_under (base_at w p) c)) refl m
    where
      go : (a : Bool) → is_child w N p (slot_under (base_at w p) c) ≡ a → Memᴰ t (cond a (slot_under (base_at w p) c ∷ []) []) → Child w N p t × (t ≡ slot_under (base_at w p) c)
      go true e m = go_on (Memᴰ.cases_cons m)
        where
          go_on : (t ≡ slot_under (base_at w p) c) ⊎ Memᴰ t [] → Child w N p t × (t ≡ slot_under (base_at w p) c)
          go_on (inl q) = (subst (Child w N p) (sym q) ((child_is (slot_under (base_at w p) c)).0 e), q)
          go_on (inr n) = absurd (Memᴰ.not-nil n)
      go false e m = absurd (Memᴰ.not-nil m)

  by_has : (c : ℕ) → Child w N p (slot_under (base_at w p) c) → Memᴰ (slot_under (base_at w p) c) (child_by w N p c)
  unfolding child_by
  by_has c k = rw ((child_is (slot_under (base_at w p) c)).1 k) (Memᴰ.head refl)

  by_sorted : (R : ℕ → ℕ → Type 0) (c : ℕ) → Sorted R (child_by w N p c)
  unfolding child_by Sorted
  by_sorted R c = go (is_child w N p (slot_under (base_at w p) c))
    where
      go : (a : Bool) → Sorted R (cond a (slot_under (base_at w p) c ∷ []) [])
      go true = sorted_one R (slot_under (base_at w p) c)
      go false = tt

  run_by_code : (n : ℕ) → Sorted (CodeBelow (base_at w p)) (concat_from n 0 (child_by w N p))
  run_by_code n = run_sorted (child_by w N p) (CodeBelow (base_at w p)) n 0 (λ c l u. by_sorted (CodeBelow (base_at w p)) c)
      (λ c e s t l u v m k.
      let x = (by_mem c s m).1 in
      let y = (by_mem e t k).1 in
      rw (x, y, code_of_slot (base_at w p) c, code_of_slot (base_at w p) e) u)

  -- the list of slot p
  module _ (L : ℕ) where
    abbrev childless : Bool
    childless = eqb p 0 || top_bit (base_at w p)

    pub list_none : childless ≡ true → children_of w N L p ≡ []
    unfolding children_of
    list_none e = ap (λ (a : Bool). elim a as (λ _. List ℕ) [ true ↦ [] | false ↦ concat_from (L + 1) 0 (child_by w N p) ]) e

    pub list_some : childless ≡ false → children_of w N L p ≡ concat_from (L + 1) 0 (child_by w N p)
    unfolding children_of
    list_some e = ap (λ (a : Bool). elim a as (λ _. List ℕ) [ true ↦ [] | false ↦ concat_from (L + 1) 0 (child_by w N p) ]) e

    pub list_mem : (t : ℕ) → Memᴰ t (children_of w N L p) → ListedChild w N L p t
    list_mem t m = go childless refl
      where
        go : (a : Bool) → childless ≡ a → ListedChild w N L p t
        go true e = absurd (Memᴰ.not-nil (subst (λ (l : List ℕ). Memᴰ t l) (list_none e) m))
        go false e =
            let (other, leaf) = (or_is_false (eqb p 0) (top_bit (base_at w p))).0 e in
            let r = run_from (child_by w N p) (L + 1) 0 t (subst (λ (l : List ℕ). Memᴰ t l) (list_some e) m) in
            let k = by_mem r.0 t r.3 in
            let some_slot : p ≢ 0 = (eqb_is_false p 0).0 other in
            record { parent_from = omega arith; parent_inner = (leb_is_false (2 ^ 31) (base_at w p)).0 leaf; child = k.0; code = r.0; is_code_to = omega arith; at = k.1 }

    pub list_has : (t : ℕ) → ListedChild w N L p t → Memᴰ t (children_of w N L p)
    list_has t k =
        let inner : childless ≡ false = rw (ne_eqb p 0 (λ z. omega (arith, k.parent_from)), lt-leb (2 ^ 31) (base_at w p) k.parent_inner) in
        let m = by_has k.code (subst (Child w N p) k.at k.child) in
        subst (λ (l : List ℕ). Memᴰ t l) (sym (list_some inner))
        (run_in (child_by w N p) (L + 1) 0 k.code t (omega arith) (omega (arith, k.is_code_to)) (subst (λ (s : ℕ). Memᴰ s (child_by w N p k.code)) (sym k.at) m))

    -- by ascending code
    pub list_sorted : Sorted (CodeBelow (base_at w p)) (children_of w N L p)
    list_sorted = go childless refl
      where
        go : (a : Bool) → childless ≡ a → Sorted (CodeBelow (base_at w p)) (children_of w N L p)
        go true e = subst (Sorted (CodeBelow (base_at w p))) (sym (list_none e)) (unfold Sorted in tt)
        go false e = subst (Sorted (CodeBelow (base_at w p))) (sym (list_some e)) (run_by_code (L + 1))

pub list_of_zero : (w : List ℕ) (N L : ℕ) → children_of w N L 0 ≡ []
unfolding children_of
list_of_zero w N L = refl

-- all lists, one after the other
module _ (w : List ℕ) (N L : ℕ) where
  pub all_mem : (t : ℕ) → Memᴰ t (children_in w N L) → (p : ℕ) × (p < N) × ListedChild w N L p t
  unfolding children_in
  all_mem t m = let r = run_from (children_of w N L) N 0 t m in (r.0, omega arith, list_mem w N r.0 L t r.3)

  pub all_has : (t p : ℕ) → p < N → ListedChild w N L p t → Memᴰ t (children_in w N L)
  unfolding children_in
  all_has t p h k = run_in (children_of w N L) N 0 p t (omega arith) (omega arith) (list_has w N p L t k)

  -- No slot is listed twice: it has one parent, and in a list codes ascend.
  pub all_differ : Sorted ◌≢◌ (children_in w N L)
  unfolding children_in
  all_differ = run_sorted (children_of w N L) ◌≢◌ N 0
      (λ p l u. sorted_weaker (CodeBelow (base_at w p)) ◌≢◌ (λ s t h e. omega (arith, h, ap (code_under (base_at w p)) e)) (children_of w N L p) (list_sorted w N p L))
      (λ p q s t l u v m k e. omega (arith, ap (λ (x : ℕ). low31 (check_at w x)) e, (list_mem w N p L s m).child.of, (list_mem w N q L t k).child.of, u))

-- the offsets
module _ (w : List ℕ) (N L : ℕ) where
  pub offsets_length : (n p e : ℕ) → length (offsets_from w N L n p e) ≡ n + 1
  unfolding offsets_from
  offsets_length zero p e = refl
  offsets_length (suc n) p e = let ih = offsets_length n (p + 1) (e + length (children_of w N L p)) in omega arith

  offset_from : (n p e k : ℕ) → k ≤ n → get_or (offsets_from w N L n p e) k 0 ≡ e + length (concat_from k p (children_of w N L))
  unfolding offsets_from concat_from
  offset_from zero p e zero h = omega arith
  offset_from zero p e (suc k) h = absurd (omega arith)
  offset_from (suc n) p e zero h = omega arith
  offset_from (suc n) p e (suc k) h =
      let ih = offset_from n (p + 1) (e + length (children_of w N L p)) k (omega arith) in
      let a = length-append (children_of w N L p) (concat_from k (p + 1) (children_of w N L)) in
      omega arith

  -- the list of slot p begins after those of the slots before it
  pub offset_at : (p : ℕ) → p ≤ N → get_or (offsets_from w N L N 0 0) p 0 ≡ length (concat_from p 0 (children_of w N L))
  offset_at p h = offset_from N 0 0 p h ∙ zero-add (length (concat_from p 0 (children_of w N L)))
