-- Placing fills a work: the slots of prefixes and of keys' ends differ and hold what an image's slots hold; all others hold zeros.
-- Two prefixes with the same slot have the same parent and the same last code, so they are equal; and a taken slot from 2 up is in
-- the tree, so it is one of these.
use Rattle.std.specs.Prelude.{ℕ, zero, suc, ◌+◌, ◌*◌, ◌^◌, ◌≤◌, ◌<◌, ◌≡◌, true, ◌≢◌, ◌↔◌, length, set, Option, Some, None}
use native.Mathlib.Omega.{arith}
use Rattle.std.proofs.Math.Decide.{ℕ_discrete, dec_le}
use Rattle.std.proofs.Common.{add-one, ap₂, ◌∙◌, ⊎_elim, inr}
use Rattle.std.proofs.Math.Path.{refl, sym, ap, subst}
use mathlib.Core.List.Memᴰ
use mathlib.Core.List.{List, [], ◌∷◌, ◌++◌, append-nil, Memᴰ}
use Rattle.lxtr_spec.specs.Labels.{max_labels, length_count, Pair}
use Rattle.lxtr_spec.specs.Joining.{slot_under}
use Rattle.lxtr_spec.specs.Image.{top_bit, low31}
use Rattle.lxtr_spec.specs.Placing.{base_at, check_at, base_count, next_code, child_codes, end_value, fits, first_fit_from, first_fit, settle, place, put_children, put_parent, into_each}
use Rattle.lxtr_spec.specs.Builds.{slots_used}
use Rattle.lxtr_spec.specs.Sets.{PairSet, Has, Prefix}
use Rattle.lxtr_laws.specs.Tests.{leb_is_true}
use Rattle.lxtr_laws.specs.KeyPrefixes.{Last, empty, snoc, last, snoc_cons, prefix_root, prefix_key, prefix_part}
use Rattle.lxtr_build_laws.specs.CodeTables.{Rising}
use Rattle.lxtr_build_laws.specs.SlotWords.{base_same, Free, Taken, parent_at, free_or_taken}
use Rattle.lxtr_build_laws.specs.FirstFit.{slot_injective}
use Rattle.lxtr_build_laws.specs.ChildCodes.{codes_rise, codes_have}
use Rattle.lxtr_build_laws.specs.Nodes.{flag_of}
use Rattle.lxtr_build_laws.specs.PairSets.{set_of, set_empty}
use Rattle.lxtr_build_laws.specs.Paths.{slot_along, along_snoc, below_all, all_have, all_ascending, end_value_lem}
use Rattle.lxtr_build_laws.specs.ChildLists.{Child, TakenListed}
use Rattle.lxtr_build_laws.specs.UsedSlots.{taken_is, used_low, taken_used}
use Rattle.lxtr_build_laws.specs.Filled.{WorkSlot, of_prefix, of_end, of_none, Filled}
use Rattle.lxtr_build_laws.specs.Filling.{Filling, label_in, is_member, has, low_taken, step, node, code_in_lem, uses, end_mem, end_code, code_end, found}

-- the slot of a prefix and that of a key's end
abbrev pub prefix_slot : (ℕ → ℕ) → List ℕ → List ℕ → ℕ
prefix_slot code w p = slot_along code w 1 p

abbrev pub end_slot : (ℕ → ℕ) → List ℕ → List ℕ → ℕ
end_slot code w k = slot_under (base_at w (slot_along code w 1 k)) 0

-- HAS_LEAF is set exactly when code 0 is among the codes
flag_is : (cs : List ℕ) → Rising cs → (x : ℕ) → x < 2 ^ 31 → (top_bit (flag_of cs + x) ≡ true) ↔ Memᴰ 0 cs
unfolding flag_of Rising
flag_is [] r x h = (λ e. absurd (omega (arith, (leb_is_true (2 ^ 31) (0 + x)).0 e)), λ m. absurd (Memᴰ.not-nil m))
flag_is (zero ∷ cs) r x h = (λ e. Memᴰ.head refl, λ m. (leb_is_true (2 ^ 31) (2 ^ 31 + x)).1 (omega arith))
flag_is (suc c ∷ cs) r x h = (
  λ e. absurd (omega (arith, (leb_is_true (2 ^ 31) (0 + x)).0 e)),
  λ m. ⊎_elim (λ (e : 0 ≡ suc c). absurd (omega arith)) (λ n. absurd (omega (arith, r.0 0 n))) (Memᴰ.cases_cons m),
)

flag_most : (cs : List ℕ) → flag_of cs ≤ 2 ^ 31
unfolding flag_of
flag_most [] = omega arith
flag_most (zero ∷ cs) = omega arith
flag_most (suc c ∷ cs) = omega arith

-- with no key, slot 1's base is 0
placed_empty : (S : ℕ) (code label : ℕ → ℕ) (k : ℕ) (w₀ w : List ℕ) → 2 < length w₀ → place S code label (suc k) 1 [] w₀ ≡ Some w → base_at w 1 ≡ 0
unfolding place child_codes end_value settle first_fit first_fit_from fits put_children put_parent into_each
placed_empty S code label k w₀ w l e =
    let z : ◌≡◌ {A = Option (List ℕ)} (Some (set w₀ (2 * 1) 0)) (Some w) = e in
    let q : set w₀ (2 * 1) 0 ≡ w = cc in
    ap (λ (x : List ℕ). base_at x 1) (sym q) ∙ base_same w₀ 1 0 (omega arith)

module _ {S L : ℕ} {code label : ℕ → ℕ} {ps : List Pair} {w₀ w : List ℕ} (f : Filling S L code label ps w₀ w) where
  abbrev d : PairSet
  d = set_of ps

  abbrev slot : List ℕ → ℕ
  slot p = slot_along code w 1 p

  abbrev end : List ℕ → ℕ
  end k = slot_under (base_at w (slot_along code w 1 k)) 0

  abbrev codes : List ℕ → List ℕ
  codes p = child_codes code (below_all p ps) []

  -- ---- where the slots are and what they hold

  slot_is : (p : List ℕ) (x : ℕ) → slot (p ++ x ∷ []) ≡ slot_under (base_at w (slot p)) (code x)
  slot_is p x = along_snoc code w p 1 x

  slot_root : slot [] ≡ 1
  unfolding slot_along
  slot_root = refl

  child_in : (p : List ℕ) → Prefix d p → (c : ℕ) → Memᴰ c (codes p) → Child w (slots_used w S) (slot p) (slot_under (base_at w (slot p)) c)
  child_in p g c m =
      let n = node f p g in
      let t : ℕ = slot_under (base_at w (slot p)) c in
      let from : 2 ≤ t = (n.new c m).0.from in
      let up : check_at w t ≢ 0 = λ e. (n.parent_is c m).1 (record { from = from; zero_check = e }) in
      record { from = from; to = taken_used w S t (n.new c m).1 ((taken_is w t).1 (from, up)); of = (n.parent_is c m).0 }

  slot_in : (p : List ℕ) (x : ℕ) → Prefix d (p ++ x ∷ []) → Child w (slots_used w S) (slot p) (slot (p ++ x ∷ []))
  slot_in p x g = subst (Child w (slots_used w S) (slot p)) (sym (slot_is p x)) (child_in p (prefix_part d p (x ∷ []) g) (code x) (code_in_lem f p x g))

  end_in : (k : List ℕ) (v : ℕ) → Has d k v → Child w (slots_used w S) (slot k) (end k)
  end_in k v h = child_in k (prefix_key d k v h) 0 (end_code f k v h)

  range_last : (p : List ℕ) → Last p → Prefix d p → (1 ≤ slot p) × (slot p < slots_used w S)
  range_last p empty g = (omega (arith, slot_root), omega (arith, slot_root, used_low w S))
  range_last p (snoc q x l) g = let c = slot_in q x g in (omega (arith, c.from), c.to)

  range : (p : List ℕ) → Prefix d p → (1 ≤ slot p) × (slot p < slots_used w S)
  range p g = range_last p (last p) g

  parent_small : (t : ℕ) → parent_at w t < 2 ^ 31
  parent_small t = omega arith

  slot_flag : (p : List ℕ) → Prefix d p → (top_bit (check_at w (slot p)) ≡ true) ↔ ((v : ℕ) × Has d p v)
  slot_flag p g =
      let at = flag_is (codes p) (codes_rise code (below_all p ps)) (parent_at w (slot p)) (parent_small (slot p)) in
      let is = ap top_bit (node f p g).flag in
      (λ e. code_end f p (at.0 (sym is ∙ e)), λ k. is ∙ at.1 (end_code f p k.0 k.1))

  end_base : (k : List ℕ) (v : ℕ) → Has d k v → base_at w (end k) ≡ 2 ^ 31 + v
  end_base k v h =
      ((node f k (prefix_key d k v h)).leaf (end_code f k v h)).0
      ∙ ap (λ (y : ℕ). 2 ^ 31 + y) (end_value_lem (below_all k ps) v (all_ascending k ps f.right.ascending) (end_mem f k v h))

  end_check : (k : List ℕ) (v : ℕ) → Has d k v → check_at w (end k) ≡ slot k
  end_check k v h = ((node f k (prefix_key d k v h)).leaf (end_code f k v h)).1

  slot_base : (p : List ℕ) → Prefix d p → base_at w (slot p) < base_count
  slot_base p g = (node f p g).small

  root_parent : parent_at w 1 ≡ 0
  unfolding check_at
  root_parent = (step f).parent 1 (low_taken f 1 (omega arith)) ∙ ap low31 (f.zeros (2 * 1 + 1))

  -- ---- every slot is a prefix's, an end's, or zero

  next_small : (p r : List ℕ) (v : ℕ) → Memᴰ (p ++ r, v) ps → next_code code r ≤ L
  unfolding next_code
  next_small p [] v m = omega arith
  next_small p (x ∷ r) v m = (f.known x ((p ++ x ∷ r, v), m, label_in p x r)).1

  prefix_of : (p r : List ℕ) (v : ℕ) → Memᴰ (p ++ r, v) ps → Prefix d p
  prefix_of p r v m = record { is = inr (r, v, has f (p ++ r) v m) }

  listed : TakenListed w (slots_used w S) L
  listed t l n =
      let k = found f t l (λ z. n z.zero_check) in
      let g = prefix_of k.front k.rest k.value k.mem in
      let c = codes_have code (below_all k.front ps) (k.rest, k.value) (all_have k.front ps k.rest k.value k.mem) in
      let r = range k.front g in (
        slot k.front,
        r.1,
        record {
          parent_from = r.0;
          parent_inner = omega (arith, slot_base k.front g);
          child = subst (Child w (slots_used w S) (slot k.front)) (sym k.at) (child_in k.front g (next_code code k.rest) c);
          code = next_code code k.rest;
          is_code_to = next_small k.front k.rest k.value k.mem;
          at = k.at;
        },
      )

  zero_words : (t : ℕ) → (base_at w₀ t ≡ 0) × (check_at w₀ t ≡ 0)
  unfolding base_at check_at
  zero_words t = (f.zeros (2 * t), f.zeros (2 * t + 1))

  each : (t : ℕ) → WorkSlot d w slot end t
  each t = go (dec_le 2 t) (ℕ_discrete t 1)
    where
      at_found : (p r : List ℕ) (v : ℕ) → Memᴰ (p ++ r, v) ps → t ≡ slot_under (base_at w (slot p)) (next_code code r) → WorkSlot d w slot end t
      at_found p [] v m e = let z : t ≡ end p = unfold next_code in e in subst (WorkSlot d w slot end) (sym z) (of_end p v (has f p v (rw (append-nil p) at m)))
      at_found p (x ∷ r) v m e =
          let z : t ≡ slot_under (base_at w (slot p)) (code x) = unfold next_code in e in
          subst (WorkSlot d w slot end) (slot_is p x ∙ sym z) (of_prefix (p ++ x ∷ []) (prefix_of (p ++ x ∷ []) r v (subst (λ (l : List ℕ). Memᴰ (l, v) ps) (snoc_cons p x r) m)))

      go : Dec (2 ≤ t) → Dec (t ≡ 1) → WorkSlot d w slot end t
      go (yes l) o = ⊎_elim (λ (z : Free w t). of_none t ((step f).free_base t z ∙ (zero_words t).0) z.zero_check)
          (λ (z : Taken w t). let k = found f t l z in at_found k.front k.rest k.value k.mem k.at) (free_or_taken w t)
      go (no l) (yes e) = subst (WorkSlot d w slot end) (slot_root ∙ sym e) (of_prefix [] (prefix_root d))
      go (no l) (no e) = let k = (step f).kept t (low_taken f t (omega arith)) e in of_none t (k.0 ∙ (zero_words t).0) (k.1 ∙ (zero_words t).1)

  -- all words have 32 bits
  small : (t : ℕ) → (base_at w t < 2 ^ 32) × (check_at w t < 2 ^ 32)
  small t = go (each t)
    where
      go : {t : ℕ} → WorkSlot d w slot end t → (base_at w t < 2 ^ 32) × (check_at w t < 2 ^ 32)
      go (of_prefix p g) = (omega (arith, slot_base p g), omega (arith, (node f p g).flag, flag_most (codes p), parent_small (slot p)))
      go (of_end k v h) = (
        omega (arith, end_base k v h, f.right.small (k, v) (is_member f k v h)),
        omega (arith, end_check k v h, (end_in k v h).of, parent_small (end k)),
      )
      go (of_none t a b) = (omega arith, omega arith)

  -- ---- no two share a slot

  differ_last : (p : List ℕ) → Last p → (q : List ℕ) → Last q → Prefix d p → Prefix d q → slot p ≡ slot q → p ≡ q
  differ_last p empty q empty g h e = refl
  differ_last p empty q (snoc q' y r) g h e = absurd (omega (arith, (slot_in q' y h).from, slot_root))
  differ_last p (snoc p' x r) q empty g h e = absurd (omega (arith, (slot_in p' x g).from, slot_root))
  differ_last p (snoc p' x r) q (snoc q' y s) g h e =
      let up : slot p' ≡ slot q' = sym (slot_in p' x g).of ∙ ap (parent_at w) e ∙ (slot_in q' y h).of in
      let same : p' ≡ q' = differ_last p' r q' s (prefix_part d p' (x ∷ []) g) (prefix_part d q' (y ∷ []) h) up in
      let c : code x ≡ code y = slot_injective (base_at w (slot p')) (code x) (code y) (sym (slot_is p' x) ∙ e ∙ slot_is q' y ∙ ap (λ (s : ℕ). slot_under (base_at w s) (code y)) (sym up)) in
      let xy : x ≡ y = sym (f.known x (uses f p' x g)).2 ∙ ap label c ∙ (f.known y (uses f q' y h)).2 in
      ap₂ {C = List ℕ} (λ (l : List ℕ) (z : ℕ). l ++ z ∷ []) same xy

  slots_differ : (p q : List ℕ) → Prefix d p → Prefix d q → slot p ≡ slot q → p ≡ q
  slots_differ p q g h e = differ_last p (last p) q (last q) g h e

  empty_root : ((k : List ℕ) → d k ≡ None) → base_at w 1 ≡ 0
  empty_root h =
      let none_placed : place S code label (suc max_labels) 1 [] w₀ ≡ Some w =
      subst (λ (n : ℕ). place S code label n 1 [] w₀ ≡ Some w) (add-one max_labels) (subst (λ (qs : List Pair). place S code label length_count 1 qs w₀ ≡ Some w) (set_empty ps f.right.ascending h) f.is) in
      placed_empty S code label max_labels w₀ w (omega (arith, f.low, f.room)) none_placed

  pub filled : Filled (slots_used w S) L (set_of ps) w code (prefix_slot code w) (end_slot code w)
  filled = record {
    root = slot_root;
    slot_is = slot_is;
    end_is = λ k. refl;
    slot_in = slot_in;
    end_in = end_in;
    slot_below = λ p g. (range p g).1;
    slot_base = slot_base;
    slot_flag = slot_flag;
    end_base = end_base;
    end_check = end_check;
    value = λ k v h. f.right.small (k, v) (is_member f k v h);
    root_parent = root_parent;
    slots_differ = slots_differ;
    ends_differ = λ k l u v h g e. slots_differ k l (prefix_key d k u h) (prefix_key d l v g) (sym (end_in k u h).of ∙ ap (parent_at w) e ∙ (end_in l v g).of);
    slot_no_end = λ p k v g h e. omega (arith, slot_base p g, end_base k v h, ap (base_at w) e);
    empty_root = empty_root;
    each = each;
    small = small;
    listed = listed;
  }
