-- Accepted bytes are an image: of the set of the pairs that walks find in them.
-- Every slot with a parent is below a slot that a walk reaches, so it is the slot of a longer prefix or an end.
use Prim.Native.Nat.{ℕ, ◌≤◌, zero, suc, ◌<◌}
use Rattle.std.proofs.Math.Decide.{ℕ_discrete}
use Rattle.std.proofs.Common.{arith, sym, ap, ◌∙◌, subst, inr, true≢false}
use Rattle.std.specs.Prelude.{◌≡◌, refl, ◌≢◌, ◌↔◌, List, [], ◌∷◌, ◌++◌, Bool, true, false, Option, Some, None}
use Rattle.lxtr_spec.specs.Labels.{value_limit}
use Rattle.lxtr_spec.specs.Image.{slot_from, base_word, check_word, slot_count, is_leaf, has_leaf, parent, base, value_number, list_width}
use Rattle.lxtr_spec.specs.Walks.{walk, value_of}
use Rattle.lxtr_spec.specs.Sets.{Has, Prefix, KeysFit, Placed}
use Rattle.lxtr_laws.specs.Facts.{UsedFrom2, Accepted}
use Rattle.lxtr_laws.specs.Faults.{end_exists_lem, leaf_no_end}
use Rattle.lxtr_demands.specs.Laws.Codes.{code_listed, listed_code}
use Rattle.lxtr_laws.specs.KeyPrefixes.{snoc_cons, prefix_root, prefix_part}
use Rattle.lxtr_laws.specs.StepFacts.{walk_empty, some_same, none_not_some}
use Rattle.lxtr_demands.specs.Laws.Lists.{lists_fit}
use Rattle.lxtr_demands.specs.Laws.Walks.{WalkSlot, root_parent, has_parent_lem, step_used, step_leaf, child_depth, leaf_child, inner_child, on_to_key, parent_walk}
use Rattle.lxtr_demands.specs.Laws.WalkSlots.{slot_at, end_at, walk_slot, root_slot, prefix_walk, prefix_step, key_walk, key_valued, end_is, end_step, end_leaf, prefix_reached, key_reached, walk_once}
use Rattle.lxtr_demands.specs.Laws.Kinds.{Kind, root, inner, leaf, unused, KnownImage}

value_small : (b : List ℕ) (s : ℕ) → value_number b s < value_limit
unfolding value_number
value_small b s = omega arith

module _ {b : List ℕ} (ok : Accepted b) where
  keys_fit : KeysFit b (value_of b)
  keys_fit = record {
    is_key_length = λ k v h. let s = end_step b k v h in child_depth ok k (slot_at b k) (end_at b k) (key_walk b k v h) s.below s.up;
    key_value = λ k v h. let x = key_valued b k v h in rw (← x.value) (value_small b x.slot);
    is_key_label = λ p x r v h. let s = prefix_step b p x (record { is = inr (r, v, rw snoc_cons at h) }) in (s.0, code_listed b x s.0 s.1);
  }

  kinds : (s : ℕ) → s < slot_count b → Kind b (value_of b) (slot_at b) (end_at b) s
  unfolding end_at
  kinds s l = go (ℕ_discrete (parent b s) 0)
    where
      IsKind : ℕ → Type 0
      IsKind = Kind b (value_of b) (slot_at b) (end_at b)

      no_parent : (t : ℕ) → t < slot_count b → parent b t ≡ 0 → IsKind t
      no_parent zero k e = unused 0 ((ok.slots 0 k).zero refl)
      no_parent (suc zero) k e = root
      no_parent (suc (suc t)) k e = unused (suc (suc t)) ((ok.slots (suc (suc t)) k).unused (omega arith) e)

      child : UsedFrom2 b s → ((p : List ℕ) × (walk b 1 p ≡ Some (parent b s))) → (a : Bool) → is_leaf b s ≡ a → IsKind s
      child u (p, w) true e =
          let r = leaf_child ok p (parent b s) s w l refl e in
          subst IsKind (ap (λ (i : ℕ). slot_from b i 0) (walk_slot b p (parent b s) w) ∙ sym r.1) (leaf p (value_number b s) r.0)
      child u (p, w) false e =
          let x = inner_child ok p (parent b s) s w l refl e in
          let k = on_to_key ok (p ++ x.0 ∷ []) s x.1 (ok.lists.parents s l u e) in
          subst IsKind (walk_slot b (p ++ x.0 ∷ []) s x.1) (inner p x.0 (record { is = inr k }))

      go : Dec (parent b s ≡ 0) → IsKind s
      go (yes e) = no_parent s l e
      go (no h) = let u = has_parent_lem ok s h in child u (parent_walk ok s l u) (is_leaf b s) refl

  -- if the set is empty, slot 1 has base 0
  empty_root : ((k : List ℕ) → value_of b k ≡ None) → base b 1 ≡ 0
  empty_root h =
      let childless : ¬ (1 ≤ list_width b 1) = λ l. let k = on_to_key ok [] 1 ((walk_empty b 1).1 refl) (λ e. omega arith) in none_not_some (sym (h k.0) ∙ k.2) in
      ok.lists.root (omega arith)

  -- HAS_LEAF says whether a prefix is a key
  flags : (p : List ℕ) → Prefix (value_of b) p → (has_leaf b (slot_at b p) ≡ true) ↔ ((v : ℕ) × Has (value_of b) p v)
  flags p f = (forth, λ k. (key_valued b p k.0 k.1).flag)
    where
      n : ℕ
      n = slot_at b p

      r : WalkSlot b n
      r = prefix_reached ok p f

      forth : has_leaf b n ≡ true → (v : ℕ) × Has (value_of b) p v
      forth e =
          let s = (end_exists_lem b n).0 (sym ((ok.slots n r.to).flag r.from) ∙ e) in
          (value_number b (base b n), (leaf_child ok p n (base b n) (prefix_walk b p f) s.below s.up (step_leaf ok r.from s)).0)

  end_no_flag : (k : List ℕ) (v : ℕ) → Has (value_of b) k v → has_leaf b (end_at b k) ≡ false
  end_no_flag k v h =
      let s = end_step b k v h in
      let u = step_used ok (key_reached ok k v h).from s in
      (ok.slots (end_at b k) s.below).flag (omega arith) ∙ leaf_no_end b (end_at b k) (end_leaf b k v h)

  others : {s : ℕ} → Kind b (value_of b) (slot_at b) (end_at b) s → ((p : List ℕ) → Prefix (value_of b) p → slot_at b p ≢ s)
      → ((k : List ℕ) (v : ℕ) → Has (value_of b) k v → end_at b k ≢ s) → (base_word b s ≡ 0) × (check_word b s ≡ 0)
  others root f k = absurd (f [] (prefix_root (value_of b)) (root_slot b))
  others (inner p x h) f k = absurd (f (p ++ x ∷ []) h refl)
  others (leaf l v h) f k = absurd (k l v h refl)
  others (unused s z) f k = (z.is_base_word, z.is_check_word)

  placed : Placed b (value_of b) (slot_at b) (end_at b)
  placed = record {
    slots_differ = λ p q f g e. walk_once ok p q (slot_at b p) (prefix_walk b p f) (prefix_walk b q g ∙ ap {B = Option ℕ} Some (sym e));
    ends_differ = λ k l v w g h e.
        walk_once ok k l (slot_at b k) (key_walk b k v g)
        (key_walk b l w h ∙ ap {B = Option ℕ} Some (sym (end_step b l w h).up ∙ ap (parent b) (sym e) ∙ (end_step b k v g).up));
    slot_no_end = λ p k v f h e. true≢false (sym (ap (is_leaf b) e ∙ end_leaf b k v h) ∙ (prefix_reached ok p f).inner);
    root = root_slot b;
    slot_in = λ p x f. let s = prefix_step b p x f in ((step_used ok (prefix_reached ok p (prefix_part (value_of b) p (x ∷ []) f)).from s.2).0, s.2.below);
    end_in = λ k v h. let s = end_step b k v h in ((step_used ok (key_reached ok k v h).from s).0, s.below);
    is_slot_at = λ p x c f l.
        let s = prefix_step b p x f in
        let same : s.0 ≡ c = some_same (sym s.1 ∙ listed_code b x c ok.framed l) in
        rw (← same) s.2.at;
    is_end_at = λ k v h. (end_step b k v h).at;
    slot_inner = λ p f. (prefix_reached ok p f).inner;
    slot_flag = flags;
    end_leaf = λ k v h. (end_leaf b k v h, rw (end_is b k v h) at (key_valued b k v h).value, end_no_flag k v h);
    root_parent = root_parent ok;
    slot_parent = λ p x f. (prefix_step b p x f).2.up;
    end_parent = λ k v h. (end_step b k v h).up;
    empty_root = empty_root;
    others = λ s l. others (kinds s l);
  }

  pub sound : KnownImage b (value_of b)
  sound = record { image = record { framed = ok.framed; keys = keys_fit; slot = slot_at b; end = end_at b; placed = placed; lists = lists_fit ok }; kinds = kinds }
