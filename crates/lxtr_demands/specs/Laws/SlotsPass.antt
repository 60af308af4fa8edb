-- The slots of an image pass rule 10: case by case, by what each slot is.
-- A used slot from 2 up is one step below a prefix's slot, whose HAS_LEAF says whether the prefix is a key.
use Rattle.std.specs.Prelude.{ℕ, ◌≤◌, ◌≡◌, List, [], ◌∷◌, ◌++◌, true, false, eqb}
use Rattle.std.proofs.Common.{arith, sym, ap, ◌∙◌, ne_eqb}
use Rattle.lxtr_spec.specs.Image.{is_leaf, base, has_leaf, parent, label_count}
use Rattle.lxtr_spec.specs.Refusals.{end_exists}
use Rattle.lxtr_spec.specs.Sets.{PairSet, Prefix}
use Rattle.lxtr_laws.specs.JoiningLaws.{slot_of_base}
use Rattle.lxtr_laws.specs.Tests.{is_false, same_test}
use Rattle.lxtr_laws.specs.Facts.{ZeroWords, SlotRight, unused_parent, unused_base, unused_leaf, unused_flag}
use Rattle.lxtr_laws.specs.Faults.{end_exists_lem, leaf_no_end}
use Rattle.lxtr_laws.specs.KeyPrefixes.{prefix_root, prefix_key, prefix_part}
use Rattle.lxtr_laws.specs.StepFacts.{Stepped, one_code, own_code_lem}
use Rattle.lxtr_demands.specs.Laws.Kinds.{KindIn, root, inner, leaf, unused, KnownImage}
use Rattle.lxtr_demands.specs.Laws.Slots.{prefix_slot_lem, prefix_step, end_step, ChildIn, longer, ended, child_is}

module _ {b : List ℕ} {d : PairSet} (known : KnownImage b d) where
  open known use {image}

  -- slot 0 is the slot of no prefix and of no end
  zero_words : ZeroWords b 0
  zero_words =
      let z = image.placed.others 0 (omega (arith, image.framed.slots)) (λ p f e. omega (arith, (prefix_slot_lem image p f).from)) (λ k v h e. omega (arith, image.placed.end_in k v h)) in
      record { is_base_word = z.0; is_check_word = z.1 }

  -- HAS_LEAF of a prefix's slot
  prefix_flag : (p : List ℕ) → Prefix d p → has_leaf b (image.slot p) ≡ end_exists b (image.slot p)
  prefix_flag p f = same_test (has_leaf b n) (end_exists b n) forth (λ t. let s = (end_exists_lem b n).0 t in back (child_is known p f (base b n) s.below s.up) s)
    where
      n : ℕ
      n = image.slot p

      forth : has_leaf b n ≡ true → end_exists b n ≡ true
      forth t =
          let k = (image.placed.slot_flag p f).0 t in
          let s = end_step image p k.0 k.1 in
          (end_exists_lem b n).1 (rw (s.at ∙ slot_of_base b n) at s)

      back : {s : ℕ} → ChildIn image p s → Stepped b n 0 s → has_leaf b n ≡ true
      back (longer x g) s = let l = prefix_step image p x g in absurd (omega (arith, one_code l.stepped s, l.listed.from))
      back (ended v h) s = (image.placed.slot_flag p f).1 (v, h)

  -- an unused slot has no end: its base is 0, and slot 0 has no parent
  unused_no_end : (s : ℕ) → 1 ≤ s → ZeroWords b s → end_exists b s ≡ false
  unused_no_end s h z = is_false (end_exists b s) (λ t. omega (arith, ((end_exists_lem b s).0 t).up, ap (parent b) (unused_base z), unused_parent zero_words))

  -- a slot one step below a prefix's slot
  below_right : (p : List ℕ) (c s : ℕ) → Prefix d p → Stepped b (image.slot p) c s → 2 ≤ s → c ≤ label_count b → is_leaf b s ≡ eqb c 0 → has_leaf b s ≡ end_exists b s → SlotRight b s
  below_right p c s f t h k e g =
      let n = prefix_slot_lem image p f in
      record {
        zero = λ z. absurd (omega arith);
        root = λ z. absurd (omega arith);
        unused = λ _ z. absurd (omega (arith, t.up, n.from));
        used = λ _. record {
          parent_below = rw t.up n.to;
          parent_used = rw t.up n.used;
          parent_inner = rw t.up t.inner;
          code_listed = rw (own_code_lem t) k;
          leaf_code = rw (own_code_lem t) e;
        };
        flag = λ _. g;
      }

  pub slot_right : {s : ℕ} → KindIn image s → SlotRight b s
  slot_right root =
      let f = prefix_root d in
      let e = image.placed.root in
      record {
        zero = λ z. absurd (omega arith);
        root = λ _. (rw e at (image.placed.slot_inner [] f), image.placed.root_parent);
        unused = λ h _. absurd (omega arith);
        used = λ u. absurd (omega arith);
        flag = λ _. rw e at (prefix_flag [] f);
      }
  slot_right (inner p x f) =
      let s = prefix_step image p x f in
      below_right p s.code (image.slot (p ++ x ∷ [])) (prefix_part d p (x ∷ []) f) s.stepped (image.placed.slot_in p x f).0 s.listed.to
      (image.placed.slot_inner (p ++ x ∷ []) f ∙ sym (ne_eqb s.code 0 (omega (arith, s.listed.from)))) (prefix_flag (p ++ x ∷ []) f)
  slot_right (leaf k v h) =
      let e = image.placed.end_leaf k v h in
      below_right k 0 (image.end k) (prefix_key d k v h) (end_step image k v h) (image.placed.end_in k v h).0 (omega arith) e.0 (e.2 ∙ sym (leaf_no_end b (image.end k) e.0))
  slot_right (unused s z) = record {
    zero = λ _. z;
    root = λ _. (unused_leaf z, unused_parent z);
    unused = λ _ _. z;
    used = λ u. absurd (u.1 (unused_parent z));
    flag = λ h. unused_flag z ∙ sym (unused_no_end s h z);
  }
