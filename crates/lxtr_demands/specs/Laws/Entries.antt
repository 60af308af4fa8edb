-- What an entry of a list is: the prefix's own end, with code 0, or the slot of a prefix that is longer by the label of its code.
-- So an entry gives the prefix's own pair, or what is below the longer prefix.
use Rattle.std.specs.Prelude.{ℕ, ◌≡◌, List, [], ◌∷◌, ◌++◌}
use Rattle.std.proofs.Math.Path.{ap}
use Rattle.std.proofs.Common.{◌∙◌}
use Rattle.lxtr_spec.specs.Labels.{Pair}
use Rattle.lxtr_spec.specs.Image.{code_to, is_leaf, value_number, child, label_of_code}
use Rattle.lxtr_spec.specs.Completions.{entry_pairs}
use Rattle.lxtr_spec.specs.Sets.{PairSet, Has, Prefix, InList, ImageOf}
use Rattle.lxtr_spec.specs.Meaning.{label_code}
use Rattle.lxtr_demands.specs.Laws.Codes.{listed_code}
use Rattle.lxtr_laws.specs.KeyPrefixes.{prefix_key, prefix_part}
use Rattle.lxtr_laws.specs.StepFacts.{step_code}
use Rattle.lxtr_demands.specs.Laws.Kinds.{KnownImage}
use Rattle.lxtr_demands.specs.Laws.Slots.{prefix_slot_lem, prefix_step, end_step, ChildIn, child_is}

module _ {b : List ℕ} {d : PairSet} (image : ImageOf b d) where
  -- the end of a key has a place in the list of the key's slot, and the slot of a longer prefix has one in the shorter one's list
  pub ended_place : (p : List ℕ) (v : ℕ) → Has d p v → (j : ℕ) × InList b (image.slot p) j × (child b j ≡ image.end p)
  ended_place p v h =
      let n = prefix_slot_lem image p (prefix_key d p v h) in
      let i = image.placed.end_in p v h in
      image.lists.whole (image.slot p) (image.end p) n.from n.to i.0 i.1 (image.placed.end_parent p v h)

  pub longer_place : (p : List ℕ) (x : ℕ) → Prefix d (p ++ x ∷ []) → (j : ℕ) × InList b (image.slot p) j × (child b j ≡ image.slot (p ++ x ∷ []))
  longer_place p x f =
      let n = prefix_slot_lem image p (prefix_part d p (x ∷ []) f) in
      let i = image.placed.slot_in p x f in
      image.lists.whole (image.slot p) (image.slot (p ++ x ∷ [])) n.from n.to i.0 i.1 (image.placed.slot_parent p x f)

  -- the code of entry j of the list of p's slot, and the pairs that it gives
  module _ (p : List ℕ) (j : ℕ) where
    pub ended_code : (v : ℕ) → Has d p v → child b j ≡ image.end p → code_to b (image.slot p) (child b j) ≡ 0
    ended_code v h e = ap (code_to b (image.slot p)) e ∙ step_code (end_step image p v h)

    pub ended_pairs : (below : ℕ → List ℕ → List Pair) (v : ℕ) → Has d p v → child b j ≡ image.end p → entry_pairs b below (image.slot p) p j ≡ (p, v) ∷ []
    unfolding entry_pairs
    ended_pairs below v h e =
        let l = image.placed.end_leaf p v h in
        rw (ap (is_leaf b) e ∙ l.0, entry_pairs, ap (value_number b) e ∙ l.1)

    module _ (x : ℕ) (f : Prefix d (p ++ x ∷ [])) (e : child b j ≡ image.slot (p ++ x ∷ [])) where
      longer_at_lem : code_to b (image.slot p) (child b j) ≡ (prefix_step image p x f).code
      longer_at_lem = ap (code_to b (image.slot p)) e ∙ step_code (prefix_step image p x f).stepped

      pub longer_code : code_to b (image.slot p) (child b j) ≡ label_code b x
      unfolding label_code
      longer_code = let s = prefix_step image p x f in rw (listed_code b x s.code image.framed s.listed) longer_at_lem

      pub longer_pairs : (below : ℕ → List ℕ → List Pair) → entry_pairs b below (image.slot p) p j ≡ below (image.slot (p ++ x ∷ [])) (p ++ x ∷ [])
      unfolding entry_pairs
      longer_pairs below =
          let s = prefix_step image p x f in
          let label : label_of_code b (code_to b (image.slot p) (child b j)) ≡ x = ap (label_of_code b) longer_at_lem ∙ s.listed.label in
          rw (ap (is_leaf b) e ∙ image.placed.slot_inner (p ++ x ∷ []) f, entry_pairs, label, e)

-- every entry of the list is one of the two
pub entry_is : {b : List ℕ} {d : PairSet} (known : KnownImage b d) (p : List ℕ) → Prefix d p → (j : ℕ) → InList b (known.image.slot p) j → ChildIn known.image p (child b j)
entry_is {b} known p f j i =
    let image = known.image in
    let n = prefix_slot_lem image p f in
    let m = image.lists.members (image.slot p) j n.from n.to i in
    child_is known p f (child b j) m.1 m.2
