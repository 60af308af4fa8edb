-- The slots that walks reach: a prefix's slot is the one that its labels reach, a key's end the one that code 0 reaches from there.
-- Over accepted bytes no two prefixes reach one slot: its parent and own code determine the last label, and so on back to slot 1.
use Rattle.std.specs.Prelude.{ℕ, ◌≡◌, refl, ◌⊎◌, List, [], ◌∷◌, ◌++◌, true, Option, Some, unwrap_or}
use Rattle.std.proofs.Common.{arith, sym, ap, ◌∙◌, inl, inr}
use Rattle.lxtr_spec.specs.Image.{slot_from, is_leaf, parent, code_of}
use Rattle.lxtr_spec.specs.Walks.{walk, value_of}
use Rattle.lxtr_spec.specs.Sets.{Has, Prefix}
use Rattle.lxtr_laws.specs.Facts.{Accepted}
use Rattle.lxtr_demands.specs.Laws.Codes.{code_listed, listed_same}
use Rattle.lxtr_laws.specs.KeyPrefixes.{Last, empty, snoc, last, prefix_key, GoesOn}
use Rattle.lxtr_laws.specs.StepFacts.{walk_empty, one_code, Stepped, Valued, walk_append, walk_snoc, value_of_is}
use Rattle.lxtr_demands.specs.Laws.Walks.{WalkSlot, reached, root_parent}

unfoldable pub slot_at : List ℕ → List ℕ → ℕ
slot_at b p = unwrap_or (walk b 1 p) 0

unfoldable pub end_at : List ℕ → List ℕ → ℕ
end_at b k = slot_from b (slot_at b k) 0

module _ (b : List ℕ) where
  pub walk_slot : (p : List ℕ) (n : ℕ) → walk b 1 p ≡ Some n → slot_at b p ≡ n
  unfolding slot_at
  walk_slot p n e = rw e

  pub root_slot : slot_at b [] ≡ 1
  root_slot = walk_slot [] 1 ((walk_empty b 1).1 refl)

  -- the labels of a prefix lead to its slot
  pub prefix_walk : (p : List ℕ) → Prefix (value_of b) p → walk b 1 p ≡ Some (slot_at b p)
  prefix_walk p f = go f.is
    where
      to : (n : ℕ) → walk b 1 p ≡ Some n → walk b 1 p ≡ Some (slot_at b p)
      to n e = e ∙ ap {B = Option ℕ} Some (sym (walk_slot p n e))

      go : (p ≡ []) ⊎ GoesOn (value_of b) p → walk b 1 p ≡ Some (slot_at b p)
      go (inl e) = to 1 (ap (walk b 1) e ∙ (walk_empty b 1).1 refl)
      go (inr (r, v, e)) =
          let x = (value_of_is b (p ++ r) v).0 e in
          let w = (walk_append b 1 p r x.0).0 x.1 in
          to w.0 w.1

  -- the last step to a prefix
  pub prefix_step : (p : List ℕ) (x : ℕ) → Prefix (value_of b) (p ++ x ∷ []) → (c : ℕ) × (code_of b x ≡ Some c) × Stepped b (slot_at b p) c (slot_at b (p ++ x ∷ []))
  prefix_step p x f =
      let r = (walk_snoc b p x (slot_at b (p ++ x ∷ []))).0 (prefix_walk (p ++ x ∷ []) f) in
      (r.code, r.coded, rw (walk_slot p r.slot r.walked) r.stepped)

  module _ (k : List ℕ) (v : ℕ) (h : Has (value_of b) k v) where
    pub key_walk : walk b 1 k ≡ Some (slot_at b k)
    key_walk = prefix_walk k (prefix_key (value_of b) k v h)

    -- a key's value is at its end
    pub key_valued : Valued b (slot_at b k) v
    key_valued = let x = (value_of_is b k v).0 h in rw (walk_slot k x.0 x.1) x.2

    pub end_is : key_valued.slot ≡ end_at b k
    unfolding end_at
    end_is = key_valued.stepped.at

    pub end_step : Stepped b (slot_at b k) 0 (end_at b k)
    end_step = rw end_is at key_valued.stepped

    pub end_leaf : is_leaf b (end_at b k) ≡ true
    end_leaf = rw end_is at key_valued.leaf

module _ {b : List ℕ} (ok : Accepted b) where
  pub prefix_reached : (p : List ℕ) → Prefix (value_of b) p → WalkSlot b (slot_at b p)
  prefix_reached p f = reached ok p (slot_at b p) (prefix_walk b p f)

  pub key_reached : (k : List ℕ) (v : ℕ) → Has (value_of b) k v → WalkSlot b (slot_at b k)
  key_reached k v h = prefix_reached k (prefix_key (value_of b) k v h)

  -- no step leads to slot 1
  root_no_step : (r : List ℕ) (y n : ℕ) → 1 ≡ n → walk b 1 (r ++ y ∷ []) ≡ Some n → ⊥
  root_no_step r y n z e = let w = (walk_snoc b r y n).0 e in omega (arith, w.stepped.up, root_parent ok, ap (parent b) z, (reached ok r w.slot w.walked).from)

  -- two walks to one slot have the same labels
  once_last : (p : List ℕ) → Last p → (q : List ℕ) → Last q → (n : ℕ) → walk b 1 p ≡ Some n → walk b 1 q ≡ Some n → p ≡ q
  once_last p empty q empty n e f = refl
  once_last p empty q (snoc r y m) n e f = absurd (root_no_step r y n ((walk_empty b n).0 e) f)
  once_last p (snoc r x l) q empty n e f = absurd (root_no_step r x n ((walk_empty b n).0 f) e)
  once_last p (snoc r x l) q (snoc s y m) n e f =
      let w = (walk_snoc b r x n).0 e in
      let u = (walk_snoc b s y n).0 f in
      let same-slot : u.slot ≡ w.slot = sym u.stepped.up ∙ w.stepped.up in
      let same-prefix : r ≡ s = once_last r l s m w.slot w.walked (u.walked ∙ ap {B = Option ℕ} Some same-slot) in
      let same_code : u.code ≡ w.code = one_code (rw same-slot at u.stepped) w.stepped in
      let same_label_lem : x ≡ y = listed_same b x y w.code (code_listed b x w.code w.coded) (rw same_code at (code_listed b y u.code u.coded)) in
      ap (λ (t : List ℕ). t ++ x ∷ []) same-prefix ∙ ap (λ (t : ℕ). s ++ t ∷ []) same_label_lem

  pub walk_once : (p q : List ℕ) (n : ℕ) → walk b 1 p ≡ Some n → walk b 1 q ≡ Some n → p ≡ q
  walk_once p q = once_last p (last p) q (last q)
