-- The check refuses nothing exactly when the facts hold: fault by fault, each by the laws of its tests.
-- In the proofs of the demands, faults 9 to 12 are unfolded only here and in Laws/RightPlaces of `lxtr_demands`.
use Prim.Native.Nat.{ℕ, zero, suc, ◌+◌, ◌-◌, ◌≤◌, ◌<◌}
use Rattle.std.proofs.Math.Nat.{le_refl}
use native.Mathlib.Omega.{arith}
use Rattle.std.specs.Prelude.{◌≡◌, refl, ◌↔◌, ◌⊎◌, List, false, ◌||◌, eqb}
use Rattle.std.proofs.Math.Path.{sym}
use Rattle.std.proofs.Common.{◌∙◌, inl, inr, true≢false}
use Rattle.std.proofs.Math.Logic.{⊎_elim, ⊎_map}
use Rattle.std.proofs.Math.Bool.{true}
use Rattle.std.proofs.Math.ListN.{length}
use Rattle.lxtr_spec.specs.Ranges.{any_below}
use Rattle.lxtr_spec.specs.Numbers.{byte_at}
use Rattle.lxtr_spec.specs.Labels.{is_scalar}
use Rattle.lxtr_spec.specs.Image.{header_length, magic, slot_count, child_count, map_length, is_leaf, parent, has_parent, base, offset, label_count, label_at}
use Rattle.lxtr_spec.specs.Refusals.{too_short, byte_differs, magic_differs, version_wrong, reserved_set, sizes_wrong, length_wrong, map_wrong, offset_ends_wrong, header_refusal, same_label, label_wrong, labels_wrong, is_used_from2, is_used, both_zero, used_slot_wrong, end_exists, flag_wrong, slot_wrong, slots_wrong, offset_falls, entry_wrong, code_not_above, entry_wrong_in, entries_wrong, childless, root_wrong, lists_wrong, reaches, unreachable, some_unreachable, body_refusal, image_refusal, is_end}
use Rattle.lxtr_spec.specs.Sets.{InList}
use Rattle.lxtr_laws.specs.RangeTests.{below_suc}
use Rattle.lxtr_laws.specs.RefusalChains.{none_refused, none_first}
use Rattle.lxtr_laws.specs.JoiningLaws.{slot_of_base}
use Rattle.lxtr_laws.specs.RangeTests.{tests}
use Rattle.lxtr_laws.specs.Tests.{is_false, or_is_true, eqb_is_true}
use Rattle.lxtr_laws.specs.Facts.{ZeroWords, UsedFrom2, Used, UsedRight, SlotRight, EntryRight, ListsRight, ancestor, Reaches, Accepted}
use Rattle.lxtr_laws.specs.ListPlaces.{in_list}
use Rattle.lxtr_laws.specs.StepFacts.{Stepped}

module _ (b : List ℕ) where
  -- 4
  abbrev Reserved : Type 0
  Reserved = (i : ℕ) → ((5 ≤ i) × (i < 8)) ⊎ ((20 ≤ i) × (i < 24)) → byte_at b i ≡ 0

  reserved_right : (reserved_set b ≡ false) ↔ Reserved
  unfolding reserved_set
  reserved_right = simp tests (
    λ (((r5, r6), r7), (((r20, r21), r22), r23)) i. ⊎_elim
        (λ h. three 5 r5 r6 r7 i h.0 h.1)
        (λ h. and_next 20 23 (three 20 r20 r21 r22) r23 i h.0 h.1),
    λ h. (
      ((h 5 (inl (omega arith)), h 6 (inl (omega arith))), h 7 (inl (omega arith))),
      (((h 20 (inr (omega arith)), h 21 (inr (omega arith))), h 22 (inr (omega arith))), h 23 (inr (omega arith))),
    ),
  )
    where
      and_next : (m n : ℕ) → ((i : ℕ) → m ≤ i → i < n → byte_at b i ≡ 0) → byte_at b n ≡ 0 → (i : ℕ) → m ≤ i → i < suc n → byte_at b i ≡ 0
      and_next m n h p i l u = ⊎_elim (λ e. rw e p) (h i l) (below_suc i n u)

      three : (n : ℕ) → byte_at b n ≡ 0 → byte_at b (suc n) ≡ 0 → byte_at b (suc (suc n)) ≡ 0 → (i : ℕ) → n ≤ i → i < suc (suc (suc n)) → byte_at b i ≡ 0
      three n p q r = and_next n (suc (suc n)) (and_next n (suc n) (and_next n n (λ i l u. absurd (omega arith)) p) q) r

  -- 9
  abbrev Scalars : Type 0
  Scalars = (i : ℕ) → i < label_count b → is_scalar (label_at b i) ≡ true

  abbrev Distinct : Type 0
  Distinct = (i j : ℕ) → i < label_count b → j < label_count b → label_at b i ≡ label_at b j → i ≡ j

  labels_right : (labels_wrong b ≡ false) ↔ (Scalars × Distinct)
  unfolding labels_wrong label_wrong same_label
  labels_right = simp tests (
    λ right. (
      λ i l. (right i l).0,
      λ i j k l e.
          let not-less : ¬ (i < j) = λ h. (right j l).1 i h e in
          let not_more : ¬ (j < i) = λ h. (right i k).1 j h (sym e) in
          omega arith,
    ),
    λ (scalar, distinct) i l. (scalar i l, λ j h e. let same : j ≡ i = distinct j i (omega arith) l e in omega arith),
  )

  -- 10
  pub used_from_2 : (s : ℕ) → (is_used_from2 b s ≡ true) ↔ UsedFrom2 b s
  unfolding is_used_from2
  used_from_2 s = simp tests (λ p. p, λ p. p)

  used_is : (s : ℕ) → (is_used b s ≡ true) ↔ Used b s
  unfolding is_used
  used_is s =
      let one = eqb_is_true s 1 in
      let two = used_from_2 s in
      simp or_is_true (⊎_map one.0 two.0, ⊎_map one.1 two.1)

  pub end_is : (s : ℕ) → (is_end b s ≡ true) ↔ (UsedFrom2 b s × (is_leaf b s ≡ true))
  unfolding is_end
  end_is s = simp (used_from_2, tests) (λ p. p, λ p. p)

  words : (s : ℕ) → (both_zero b s ≡ true) ↔ ZeroWords b s
  unfolding both_zero
  words s = simp tests (λ p. record { is_base_word = p.0; is_check_word = p.1 }, λ z. (z.is_base_word, z.is_check_word))

  used_right : (s : ℕ) → (used_slot_wrong b s ≡ false) ↔ UsedRight b s
  unfolding used_slot_wrong
  used_right s = simp (used_is, tests) (
    λ ((((below, used), inner), listed), leaf). record { parent_below = below; parent_used = used; parent_inner = inner; code_listed = listed; leaf_code = leaf },
    λ u. ((((u.parent_below, u.parent_used), u.parent_inner), u.code_listed), u.leaf_code),
  )

  -- the end of s exists exactly when the step by code 0 from s does, to the slot at its base
  pub end_exists_lem : (s : ℕ) → (end_exists b s ≡ true) ↔ Stepped b s 0 (base b s)
  unfolding end_exists has_parent
  end_exists_lem s = simp tests (
    λ (inner, (below, up)). record { inner = inner; below = below; up = up; at = sym (slot_of_base b s) },
    λ t. (t.inner, (t.below, t.up)),
  )

  -- a leaf has no end
  pub leaf_no_end : (s : ℕ) → is_leaf b s ≡ true → end_exists b s ≡ false
  leaf_no_end s e = is_false (end_exists b s) (λ t. true≢false (sym e ∙ ((end_exists_lem s).0 t).inner))

  slot_right : (s : ℕ) → (slot_wrong b s ≡ false) ↔ SlotRight b s
  unfolding slot_wrong flag_wrong
  slot_right s = simp (words, used_from_2, used_right, tests) (
    λ ((((first, root), unused), used), flag). record { zero = first; root = root; unused = λ h e. unused (h, e); used = used; flag = flag },
    λ r. ((((r.zero, r.root), λ h. r.unused h.0 h.1), r.used), r.flag),
  )

  pub slots_right : (slots_wrong b ≡ false) ↔ ((s : ℕ) → s < slot_count b → SlotRight b s)
  unfolding slots_wrong
  slots_right = simp (slot_right, tests) (λ h. h, λ h. h)

  -- 11
  pub offsets_right : (any_below (slot_count b) (offset_falls b) ≡ false) ↔ ((p : ℕ) → p < slot_count b → offset b p ≤ offset b (p + 1))
  unfolding offset_falls
  offsets_right = simp tests (λ h. h, λ h. h)

  pub entry_right : (p j : ℕ) → ((entry_wrong b p j || code_not_above b p j) ≡ false) ↔ EntryRight b p j
  unfolding entry_wrong code_not_above
  entry_right p j = simp (used_is, tests) (
    λ ((((from, to), used), up), above). record { from = from; to = to; used = used; up = up; above = above },
    λ e. ((((e.from, e.to), e.used), e.up), e.above),
  )

  pub entries_right : (p : ℕ) → (entries_wrong b p ≡ false) ↔ ((j : ℕ) → InList b p j → EntryRight b p j)
  unfolding entries_wrong entry_wrong_in
  entries_right p = simp (entry_right, tests) (
    λ h j i.
        let l = (in_list b p j).0 i in
        let e : offset b p + (j - offset b p) ≡ j = omega arith in
        rw e at (h (j - offset b p) (omega arith)),
    λ h i l. h (offset b p + i) ((in_list b p (offset b p + i)).1 (omega arith)),
  )

  lists_right : (lists_wrong b ≡ false) ↔ ListsRight b
  unfolding lists_wrong childless root_wrong
  lists_right = simp (used_from_2, offsets_right, entries_right, tests) (
    λ ((((rising, count), entry), parents), root). record { rising = rising; count = count; entry = λ q j h. entry q h j; parents = λ s h u e. parents s h (u, e); root = root },
    λ r. ((((r.rising, r.count), λ q h j. r.entry q j h), λ s h u. r.parents s h u.0 u.1), r.root),
  )

  -- 12
  reaches_by : (k s : ℕ) → (reaches b k s ≡ true) ↔ Reaches b k s
  unfolding reaches ancestor
  reaches_by zero s = (
    λ e. record { steps = 0; within = le_refl 0; at_root = (eqb_is_true s 1).0 e },
    λ r. let z : r.steps ≡ 0 = omega (arith, r.within) in (eqb_is_true s 1).1 (rw z at r.at_root),
  )
  reaches_by (suc k) s = simp or_is_true (forth (reaches_by k (parent b s)).0, λ r. back (reaches_by k (parent b s)).1 r.steps r.within r.at_root)
    where
      forth : (reaches b k (parent b s) ≡ true → Reaches b k (parent b s)) → (eqb s 1 ≡ true) ⊎ (reaches b k (parent b s) ≡ true) → Reaches b (suc k) s
      forth ih (inl e) = record { steps = 0; within = omega arith; at_root = (eqb_is_true s 1).0 e }
      forth ih (inr e) = let r = ih e in record { steps = suc r.steps; within = omega (arith, r.within); at_root = r.at_root }

      back : (Reaches b k (parent b s) → reaches b k (parent b s) ≡ true) → (n : ℕ) → n ≤ suc k → ancestor b n s ≡ 1 → (eqb s 1 ≡ true) ⊎ (reaches b k (parent b s) ≡ true)
      back ih zero h e = inl ((eqb_is_true s 1).1 e)
      back ih (suc n) h e = inr (ih (record { steps = n; within = omega arith; at_root = e }))

  -- 1 to 12
  pub accepted : (image_refusal b ≡ 0) ↔ Accepted b
  unfolding image_refusal header_refusal too_short magic_differs byte_differs version_wrong sizes_wrong length_wrong map_wrong offset_ends_wrong body_refusal some_unreachable unreachable
  accepted = simp (none_first, none_refused, reserved_right, labels_right, slots_right, lists_right, used_from_2, reaches_by, tests) (
    λ ((short, (magic, (version, (reserved, (sizes, (size, (map, (ends, _)))))))), (labels, (slots, (lists, (reach, _))))). record {
      framed = record {
        magic_bytes = magic;
        version_is = version;
        reserved = reserved;
        slots = sizes.0;
        children = omega arith;
        size = size;
        is_map_version = map.0.0.1;
        labels = map.0.1;
        map_size = map.1;
        scalar = labels.0;
        distinct = labels.1;
      };
      first = ends.0;
      last = ends.1;
      slots = slots;
      lists = lists;
      reach = reach;
    },
    λ a.
        let f = a.framed in
        let short : header_length ≤ length b = omega (arith, f.size) in
        let few : child_count b ≤ slot_count b - 2 = omega (arith, f.children) in
        let five : 5 ≤ map_length b = omega (arith, f.map_size) in (
          (short, (f.magic_bytes, (f.version_is, (f.reserved, ((f.slots, few), (f.size, ((((five, f.is_map_version), f.labels), f.map_size), ((a.first, a.last), refl)))))))),
          ((f.scalar, f.distinct), (a.slots, (a.lists, (a.reach, refl)))),
        ),
  )

  pub parts_pass : image_refusal b ≡ 0 → (header_refusal b ≡ 0) × (body_refusal b ≡ 0)
  unfolding image_refusal
  parts_pass = (none_first (header_refusal b) (body_refusal b)).0
