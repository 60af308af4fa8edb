-- The slots of an image of a set: where they are, the steps between them, and the walks that reach them.
-- A slot below a prefix's slot is that of a longer prefix or the prefix's own end, so every walk reaches the slot of a prefix.
use Rattle.std.specs.Prelude.{ℕ, ◌≤◌, ◌<◌, ◌≡◌, refl, List, [], ◌∷◌, ◌++◌, Option, Some, None}
use Rattle.std.proofs.Common.{arith, sym, ap, ◌∙◌, inl, inr, append_assoc}
use Rattle.lxtr_spec.specs.Image.{slot_count, parent}
use Rattle.lxtr_spec.specs.Walks.{walk, value_of}
use Rattle.lxtr_spec.specs.Sets.{PairSet, Has, Prefix, Listed, ImageOf}
use Rattle.lxtr_laws.specs.Facts.{Used, unused_parent}
use Rattle.lxtr_demands.specs.Laws.Codes.{code_listed, listed_code, listed_same}
use Rattle.lxtr_laws.specs.KeyPrefixes.{Last, empty, snoc, last, prefix_root, prefix_key, prefix_part, prefix_on}
use Rattle.lxtr_laws.specs.StepFacts.{Stepped, one_code, walk_empty, none_not_some, walk_snoc, value_of_is}
use Rattle.lxtr_demands.specs.Laws.Kinds.{KindIn, root, inner, leaf, unused, KnownImage}

-- the slot of a prefix is a used slot of the image
pub record PrefixSlot (b : List ℕ) (s : ℕ) : Type 0 where
  pub from : 1 ≤ s
  pub to : s < slot_count b
  pub used : Used b s

-- the step to the slot of a longer prefix
pub record LabelStep (b : List ℕ) (n x t : ℕ) : Type 0 where
  pub code : ℕ
  pub listed : Listed b x code
  pub stepped : Stepped b n code t

module _ {b : List ℕ} {d : PairSet} (image : ImageOf b d) where
  pub prefix_step : (p : List ℕ) (x : ℕ) → Prefix d (p ++ x ∷ []) → LabelStep b (image.slot p) x (image.slot (p ++ x ∷ []))
  prefix_step p x f =
      let k = prefix_on d p x f in
      let l = image.keys.is_key_label p x k.0 k.1 (rw append_assoc at k.2) in
      record {
        code = l.0;
        listed = l.1;
        stepped = record {
          inner = image.placed.slot_inner p (prefix_part d p (x ∷ []) f);
          below = (image.placed.slot_in p x f).1;
          up = image.placed.slot_parent p x f;
          at = image.placed.is_slot_at p x l.0 f l.1;
        };
      }

  pub end_step : (k : List ℕ) (v : ℕ) → Has d k v → Stepped b (image.slot k) 0 (image.end k)
  end_step k v h = record {
    inner = image.placed.slot_inner k (prefix_key d k v h);
    below = (image.placed.end_in k v h).1;
    up = image.placed.end_parent k v h;
    at = image.placed.is_end_at k v h;
  }

  lies_last : (p : List ℕ) → Last p → Prefix d p → PrefixSlot b (image.slot p)
  lies_last p empty f =
      let e = image.placed.root in
      record { from = omega arith; to = omega (arith, image.framed.slots); used = inl e }
  lies_last p (snoc q x l) f =
      let i = image.placed.slot_in q x f in
      let before = lies_last q l (prefix_part d q (x ∷ []) f) in
      record { from = omega arith; to = i.1; used = inr (i.0, λ e. omega (arith, image.placed.slot_parent q x f, before.from)) }

  pub prefix_slot_lem : (p : List ℕ) → Prefix d p → PrefixSlot b (image.slot p)
  prefix_slot_lem p = lies_last p (last p)

  -- the labels of a prefix lead to its slot
  walk_last : (p : List ℕ) → Last p → Prefix d p → walk b 1 p ≡ Some (image.slot p)
  walk_last p empty f = (walk_empty b (image.slot [])).1 (sym image.placed.root)
  walk_last p (snoc q x l) f =
      let s = prefix_step q x f in
      (walk_snoc b q x (image.slot (q ++ x ∷ []))).1 (record {
        slot = image.slot q;
        code = s.code;
        walked = walk_last q l (prefix_part d q (x ∷ []) f);
        coded = listed_code b x s.code image.framed s.listed;
        stepped = s.stepped;
      })

  pub walk_prefix : (p : List ℕ) → Prefix d p → walk b 1 p ≡ Some (image.slot p)
  walk_prefix p = walk_last p (last p)

  key_value : (k : List ℕ) (v : ℕ) → Has d k v → Has (value_of b) k v
  key_value k v h =
      let f = prefix_key d k v h in
      let l = image.placed.end_leaf k v h in
      (value_of_is b k v).1 (
        image.slot k,
        walk_prefix k f,
        record {
          flag = (image.placed.slot_flag k f).1 (v, h);
          slot = image.end k;
          stepped = end_step k v h;
          leaf = l.0;
          value = l.1;
        },
      )

-- a slot whose parent is the slot of p
pub data Child (d : PairSet) (slot end : List ℕ → ℕ) (p : List ℕ) : ℕ → Type 0 where
  longer : (x : ℕ) → Prefix d (p ++ x ∷ []) → Child d slot end p (slot (p ++ x ∷ []))
  ended : (v : ℕ) → Has d p v → Child d slot end p (end p)

abbrev pub ChildIn : {b : List ℕ} {d : PairSet} → ImageOf b d → List ℕ → ℕ → Type 0
ChildIn {d = d} image = Child d image.slot image.end

module _ {b : List ℕ} {d : PairSet} (known : KnownImage b d) where
  open known use {image, kinds}

  pub child_is : (p : List ℕ) → Prefix d p → (s : ℕ) → s < slot_count b → parent b s ≡ image.slot p → ChildIn image p s
  child_is p f s below up = go (kinds s below) up
    where
      go : {s : ℕ} → KindIn image s → parent b s ≡ image.slot p → ChildIn image p s
      go root e = absurd (omega (arith, image.placed.root_parent, (prefix_slot_lem image p f).from))
      go (inner q x g) e =
          let same : q ≡ p = image.placed.slots_differ q p (prefix_part d q (x ∷ []) g) f (sym (image.placed.slot_parent q x g) ∙ e) in
          rw same (longer x (rw same at g))
      go (leaf k v h) e =
          let same : k ≡ p = image.placed.slots_differ k p (prefix_key d k v h) f (sym (image.placed.end_parent k v h) ∙ e) in
          rw same (ended v (rw same at h))
      go (unused t z) e = absurd (omega (arith, unused_parent z, (prefix_slot_lem image p f).from))

  -- a step by a listed label reaches the slot of the longer prefix
  step_prefix : (p : List ℕ) (x c t : ℕ) → Prefix d p → Listed b x c → Stepped b (image.slot p) c t → Prefix d (p ++ x ∷ []) × (image.slot (p ++ x ∷ []) ≡ t)
  step_prefix p x c t f l s = go (child_is p f t s.below s.up) s
    where
      go : {t : ℕ} → ChildIn image p t → Stepped b (image.slot p) c t → Prefix d (p ++ x ∷ []) × (image.slot (p ++ x ∷ []) ≡ t)
      go (longer y g) s =
          let r = prefix_step image p y g in
          let same : y ≡ x = listed_same b y x c (rw (one_code r.stepped s) at r.listed) l in
          (rw same at g, ap (λ (z : ℕ). image.slot (p ++ z ∷ [])) (sym same))
      go (ended v h) s = absurd (omega (arith, one_code (end_step image p v h) s, l.from))

  walked_last : (p : List ℕ) → Last p → (t : ℕ) → walk b 1 p ≡ Some t → Prefix d p × (image.slot p ≡ t)
  walked_last p empty t e = (prefix_root d, image.placed.root ∙ (walk_empty b t).0 e)
  walked_last p (snoc q x l) t e =
      let r = (walk_snoc b q x t).0 e in
      let before = walked_last q l r.slot r.walked in
      step_prefix q x r.code t before.0 (code_listed b x r.code r.coded) (rw before.1 r.stepped)

  pub walked : (p : List ℕ) (t : ℕ) → walk b 1 p ≡ Some t → Prefix d p × (image.slot p ≡ t)
  walked p = walked_last p (last p)

  -- the walk finds the set's value for every key
  pub set_is : (k : List ℕ) → d k ≡ value_of b k
  set_is k = go (d k) refl (value_of b k) refl
    where
      is_key : (v : ℕ) → Has (value_of b) k v → (w : ℕ) × Has d k w
      is_key v e =
          let r = (value_of_is b k v).0 e in
          let s = walked k r.0 r.1 in
          (image.placed.slot_flag k s.0).0 (rw s.1 r.2.flag)

      go : (o : Option ℕ) → d k ≡ o → (u : Option ℕ) → value_of b k ≡ u → d k ≡ value_of b k
      go (Some v) e u f = e ∙ sym (key_value image k v e)
      go None e None f = e ∙ sym f
      go None e (Some v) f = absurd (none_not_some (sym e ∙ (is_key v f).1))
