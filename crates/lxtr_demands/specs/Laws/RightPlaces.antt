-- The answer of `fault` is right, and no other is: if a rule is broken, the search finds a place below the bound, and no place
-- before it is at fault. One step is a count: if offsets don't fall and entries are right, E differs from the number of used slots
-- from 2 up exactly when one of these is unlisted.
use Prim.Native.Nat.{ℕ, ◌+◌, ◌-◌, ◌≤◌, ◌<◌}
use native.Mathlib.Omega.{arith}
use Rattle.std.proofs.Math.Decide.{dec_lt}
use Rattle.std.specs.Prelude.{◌≡◌, ◌≢◌, List, Bool, eqb, Option, Some, None}
use Rattle.std.proofs.Math.Path.{refl}
use Rattle.std.proofs.Common.{sym, ap, ◌∙◌}
use Rattle.std.proofs.Math.Bool.{true, false, not, true≢false}
use borrow.Author.Tests.{eqb-true, eqb-false, eq-eqb, ne_eqb}
use Rattle.lxtr_spec.specs.Ranges.{any_below, first_below}
use Rattle.lxtr_spec.specs.Image.{slot_count, child_count, parent, offset, child, list_width}
use Rattle.lxtr_spec.specs.Refusals.{labels_wrong, slots_wrong, is_used_from2, offset_falls, used_count, entry_wrong_in, entries_wrong, childless, root_wrong, lists_wrong, some_unreachable, image_refusal}
use Rattle.lxtr_spec.specs.FaultPlaces.{fault_if, label_fault, slot_fault, offset_fault, entry_fault_of, entry_fault, is_entry, unlisted, unlisted_fault, childless_fault, list_fault, reach_fault, fault_by, fault_of}
use Rattle.lxtr_spec.specs.Sets.{InList}
use Rattle.lxtr_spec.specs.declared.Fault.{Fault}
use Rattle.lxtr_spec.specs.declared.Fault.TheVariants.{Label, Slot, Offset, Entry, Unlisted, Childless, RootBase, Unreachable}
use Rattle.lxtr_laws.specs.Tests.{is_false, and_is_true, and_is_false, not_is_true, not_is_false}
use Rattle.lxtr_laws.specs.RangeTests.{any_true, any_false}
use Rattle.lxtr_laws.specs.Firsts.{first_below_lem, one_first, some_first}
use Rattle.lxtr_laws.specs.Passed.{Passed}
use Rattle.lxtr_laws.specs.ListPlaces.{in_list, offsets_rise, in_children}
use Rattle.lxtr_laws.specs.Facts.{UsedFrom2}
use Rattle.lxtr_laws.specs.Faults.{used_from_2, slots_right, offsets_right, entry_right, entries_right}
use Rattle.lxtr_laws.specs.Refused.{refusal_most, refused_passed, slots_right_by, refused_9, refused_10, refused_11, refused_12}
use Rattle.lxtr_laws.specs.ListEntries.{EntriesRight}
use Rattle.lxtr_demands.specs.RightPlaces.{First, NoneBelow, entry_faulty, FirstEntry, OffsetsRise, EntriesHold, AllListed, Right, FaultRight}
use Rattle.lxtr_demands.specs.Laws.Lists.{used_listed, listed_counted, own_list}

-- if some number passes, the search finds the first
first_is : (n : ℕ) (f : ℕ → Bool) → any_below n f ≡ true → First n f (first_below n f)
first_is n f e =
    let h = some_first f n e in
    let r = first_below_lem f n in
    record { below = h; here = r.here h; none_before = r.none }

-- and it is the only one
first_only : (n : ℕ) (f : ℕ → Bool) (i : ℕ) → First n f i → first_below n f ≡ i
first_only n f i h = one_first f n (first_below n f) i (first_below_lem f n) (record { to = omega (arith, h.below); here = λ l. h.here; none = h.none_before })

some_of : (n : ℕ) (f : ℕ → Bool) (i : ℕ) → First n f i → any_below n f ≡ true
some_of n f i h = (any_true n f).1 (i, h.below, h.here)

module _ (b : List ℕ) where
  none_falls : OffsetsRise b → any_below (slot_count b) (offset_falls b) ≡ false
  none_falls = (any_false (slot_count b) (offset_falls b)).1

  -- the list of an earlier slot ends before that of a later one begins
  lists_apart : OffsetsRise b → (p q : ℕ) → p < q → q < slot_count b → offset b (p + 1) ≤ offset b q
  lists_apart rise p q l h =
      let e : p + 1 + (q - (p + 1)) ≡ q = omega arith in
      rw e at (offsets_rise b ((offsets_right b).0 (none_falls rise)) (p + 1) (q - (p + 1)) (omega arith))

  -- entry j of the list of slot p, which is j - offset p places into that list
  faulty_at : (p j : ℕ) (t : Bool) → InList b p j → entry_wrong_in b p (j - offset b p) ≡ t → entry_faulty b p j ≡ t
  unfolding entry_wrong_in
  faulty_at p j t i e = let k : offset b p + (j - offset b p) ≡ j = omega (arith, i.from) in rw k at e

  -- The first wrong entry: none is wrong in the lists before its own, and none before it in its own. Later lists have later places.
  entry_right_at : OffsetsRise b → (p : ℕ) → First (slot_count b) (entries_wrong b) p → FirstEntry b p (offset b p + first_below (list_width b p) (entry_wrong_in b p))
  unfolding entries_wrong entry_wrong_in
  entry_right_at rise p list = record { slot = list.below; within = within; here = inside.here; none_before = λ q k h l m. before q k h l m (dec_lt q p) (dec_lt p q) }
    where
      i : ℕ
      i = first_below (list_width b p) (entry_wrong_in b p)

      inside : First (list_width b p) (entry_wrong_in b p) i
      inside = first_is (list_width b p) (entry_wrong_in b p) list.here

      within : InList b p (offset b p + i)
      within = (in_list b p (offset b p + i)).1 (omega arith, omega (arith, inside.below))

      before : (q k : ℕ) → q < slot_count b → InList b q k → k < offset b p + i → Dec (q < p) → Dec (p < q) → entry_faulty b q k ≡ false
      before q k h l m (yes u) d =
          let none = (any_false (list_width b q) (entry_wrong_in b q)).0 (list.none_before q u) (k - offset b q) in
          faulty_at q k false l (none (omega (arith, (in_list b q k).0 l)))
      before q k h l m (no u) (yes v) = absurd (omega (arith, l.from, within.to, lists_apart rise p q v h))
      before q k h l m (no u) (no v) =
          let e : q ≡ p = omega arith in
          rw e (faulty_at p k false (rw e at l) (inside.none_before (k - offset b p) (omega (arith, (rw e at l).from))))

  -- offsets that don't fall and right entries, by the tests
  module _ (ok : Passed b) (rise : any_below (slot_count b) (offset_falls b) ≡ false) (right : any_below (slot_count b) (entries_wrong b) ≡ false) where
    entries : EntriesRight b
    entries = record { passed = ok; rising = (offsets_right b).0 rise; entry = λ p j h. (entries_right b p).0 ((any_false (slot_count b) (entries_wrong b)).0 right p h) j }

    entries_hold : EntriesHold b
    entries_hold = ((any_false (slot_count b) (offset_falls b)).0 rise, λ p j h i. (entry_right b p j).1 (entries.entry p j h i))

    -- a used slot is in its parent's list exactly when it is in some list
    in_own_list : (s : ℕ) → s < slot_count b → UsedFrom2 b s → unlisted b s ≡ false → slots_wrong b ≡ false → (j : ℕ) × (j < child_count b) × (child b j ≡ s)
    unfolding unlisted is_entry
    in_own_list s l u e slots =
        let has = (not_is_false _).0 ((and_is_false (is_used_from2 b s) _).0 e ((used_from_2 b s).1 u)) in
        let i = (any_true (list_width b (parent b s)) (is_entry b (parent b s) s)).0 has in
        let j = offset b (parent b s) + i.0 in
        let within = (in_list b (parent b s) j).1 (omega arith, omega (arith, i.1)) in
        (j, omega (arith, ok.last, in_children b entries.rising (parent b s) j (((slots_right b).0 slots s l).used u).parent_below within), eqb-true (child b j) s i.2)

    none_unlisted : child_count b ≡ used_count b → NoneBelow (slot_count b) (unlisted b)
    unfolding unlisted is_entry
    none_unlisted e s l = is_false (unlisted b s) (λ t.
        let parts = (and_is_true (is_used_from2 b s) _).0 t in
        let r = used_listed entries e s l ((used_from_2 b s).0 parts.0) in
        let i = own_list entries (parent b s) s r.0 r.1 r.2 refl in
        let k : offset b (parent b s) + (r.0 - offset b (parent b s)) ≡ r.0 = omega (arith, i.from) in
        let has = (any_true (list_width b (parent b s)) (is_entry b (parent b s) s)).1
        (r.0 - offset b (parent b s), omega (arith, (in_list b (parent b s) r.0).0 i), rw k (eq-eqb (child b r.0) s r.2)) in
        true≢false (sym has ∙ (not_is_true _).0 parts.1))

    some_unlisted : slots_wrong b ≡ false → child_count b ≢ used_count b → any_below (slot_count b) (unlisted b) ≡ true
    some_unlisted slots n = go (any_below (slot_count b) (unlisted b)) refl
      where
        go : (t : Bool) → any_below (slot_count b) (unlisted b) ≡ t → t ≡ true
        go true e = refl
        go false e = absurd (n (listed_counted entries (λ s l u. in_own_list s l u ((any_false (slot_count b) (unlisted b)).0 e s l) slots)))

    all_listed : child_count b ≡ used_count b → AllListed b
    all_listed e = (entries_hold, e, none_unlisted e)

  -- the choice is right, if the fault here is right when it is there, and what comes after it when it is not
  either : {A : Type 0} (P : A → Type 0) (t : Bool) (here later : A) → (t ≡ true → P here) → (t ≡ false → P later) → P (fault_if t here later)
  unfolding fault_if
  either P true here later f g = f refl
  either P false here later f g = g refl

  abbrev RightFault : Fault → Type 0
  RightFault f = Right b (Some f)

  list_right : image_refusal b ≡ 11 → RightFault (list_fault b)
  unfolding list_fault offset_fault entry_fault entry_fault_of unlisted_fault childless_fault
  list_right k =
      let ok = refused_passed b 11 (omega arith) k in
      let slots = slots_right_by b 11 (omega arith) k (omega arith) in
      either RightFault (any_below (slot_count b) (offset_falls b)) (offset_fault b) _ (λ t. (k, first_is _ _ t)) (λ rise.
      either RightFault (any_below (slot_count b) (entries_wrong b)) (entry_fault b) _
      (λ t. let none = (any_false (slot_count b) (offset_falls b)).0 rise in (k, none, entry_right_at none _ (first_is _ _ t))) (λ right.
      either RightFault (not (eqb (child_count b) (used_count b))) (unlisted_fault b) _
      (λ t. let differs = eqb-false _ _ ((not_is_true _).0 t) in (k, entries_hold ok rise right, differs, first_is _ _ (some_unlisted ok rise right slots differs))) (λ same.
      let listed = all_listed ok rise right (eqb-true _ _ ((not_is_false _).0 same)) in
      either RightFault (any_below (slot_count b) (childless b)) (childless_fault b) RootBase (λ t. (k, listed, first_is _ _ t)) (λ lone.
      (k, listed, (any_false (slot_count b) (childless b)).0 lone, root rise right same lone (refused_11 b k))))))
    where
      root : any_below (slot_count b) (offset_falls b) ≡ false → any_below (slot_count b) (entries_wrong b) ≡ false → not (eqb (child_count b) (used_count b)) ≡ false
          → any_below (slot_count b) (childless b) ≡ false → lists_wrong b ≡ true → root_wrong b ≡ true
      root rise right same lone e = unfold lists_wrong in (rw (rise, right, same, lone) at e)

  answer_right : Right b (fault_of b)
  unfolding fault_of fault_by label_fault slot_fault reach_fault labels_wrong slots_wrong some_unreachable
  answer_right =
      let k = image_refusal b in
      either (Right b) (eqb k 9) (Some (label_fault b)) _ (λ t. let e = eqb-true k 9 t in (e, first_is _ _ (refused_9 b e))) (λ not-9.
      either (Right b) (eqb k 10) (Some (slot_fault b)) _ (λ t. let e = eqb-true k 10 t in (e, first_is _ _ (refused_10 b e))) (λ not-10.
      either (Right b) (eqb k 11) (Some (list_fault b)) _ (λ t. list_right (eqb-true k 11 t)) (λ not-11.
      either (Right b) (eqb k 12) (Some (reach_fault b)) _ (λ t. let e = eqb-true k 12 t in (e, first_is _ _ (refused_12 b e))) (λ not-12.
      omega (arith, refusal_most b, eqb-false k 9 not-9, eqb-false k 10 not-10, eqb-false k 11 not-11, eqb-false k 12 not-12)))))

  -- Conversely: what a right answer says decides the tests of the definition.
  none_wrong : EntriesHold b → any_below (slot_count b) (entries_wrong b) ≡ false
  unfolding entries_wrong entry_wrong_in
  none_wrong h = (any_false (slot_count b) (entries_wrong b)).1 (λ p l. (any_false (list_width b p) (entry_wrong_in b p)).1 (λ i m. h.1 p (offset b p + i) l ((in_list b p (offset b p + i)).1 (omega arith, omega arith))))

  module _ (rise : OffsetsRise b) (p j : ℕ) (e : FirstEntry b p j) where
    place_in_lem : First (list_width b p) (entry_wrong_in b p) (j - offset b p)
    unfolding entry_wrong_in
    place_in_lem =
        let k : offset b p + (j - offset b p) ≡ j = omega (arith, e.within.from) in
        record {
          below = omega (arith, (in_list b p j).0 e.within);
          here = rw k e.here;
          none_before = λ i l. e.none_before p (offset b p + i) e.slot ((in_list b p (offset b p + i)).1 (omega arith, omega (arith, (in_list b p j).0 e.within))) (omega arith);
        }

    list_of_lem : First (slot_count b) (entries_wrong b) p
    unfolding entries_wrong entry_wrong_in
    list_of_lem = record {
      below = e.slot;
      here = some_of (list_width b p) (entry_wrong_in b p) (j - offset b p) place_in_lem;
      none_before = λ q l. (any_false (list_width b q) (entry_wrong_in b q)).1 (λ i m.
          let within = (in_list b q (offset b q + i)).1 (omega arith, omega arith) in
          e.none_before q (offset b q + i) (omega (arith, e.slot)) within (omega (arith, within.to, lists_apart rise q p l e.slot, e.within.from)));
    }

    entry_only : Entry p j ≡ entry_fault b
    unfolding entry_fault entry_fault_of
    entry_only =
        let k : offset b p + (j - offset b p) ≡ j = omega (arith, e.within.from) in
        rw (first_only _ _ p list_of_lem, first_only _ _ (j - offset b p) place_in_lem, k)

  answer_only : (f : Option Fault) → Right b f → f ≡ fault_of b
  unfolding fault_of fault_by fault_if label_fault slot_fault list_fault offset_fault unlisted_fault childless_fault reach_fault
  answer_only None h =
      let k = image_refusal b in
      rw (ne_eqb k 9 (λ z. omega arith), ne_eqb k 10 (λ z. omega arith), ne_eqb k 11 (λ z. omega arith), ne_eqb k 12 (λ z. omega arith))
  answer_only (Some (Label i)) (e, h) = rw (e, first_only _ _ i h)
  answer_only (Some (Slot s)) (e, h) = rw (e, first_only _ _ s h)
  answer_only (Some (Offset p)) (e, h) = rw (e, some_of _ _ p h, first_only _ _ p h)
  answer_only (Some (Entry p j)) (e, rise, h) = rw (e, none_falls rise, some_of _ _ p (list_of_lem rise p j h)) (ap {B = Option Fault} Some (entry_only rise p j h))
  answer_only (Some (Unlisted s)) (e, hold, differs, h) = rw (e, none_falls hold.0, none_wrong hold, ne_eqb (child_count b) (used_count b) differs, first_only _ _ s h)
  answer_only (Some (Childless s)) (e, (hold, same, _), h) = rw (e, none_falls hold.0, none_wrong hold, eq-eqb (child_count b) (used_count b) same, some_of _ _ s h, first_only _ _ s h)
  answer_only (Some RootBase) (e, (hold, same, _), none, _) =
      rw (e, none_falls hold.0, none_wrong hold, eq-eqb (child_count b) (used_count b) same, (any_false (slot_count b) (childless b)).1 none)
  answer_only (Some (Unreachable s)) (e, h) = rw (e, first_only _ _ s h)

pub fault_right : (b : List ℕ) → FaultRight b
fault_right b = record { right = answer_right b; only = answer_only b }
