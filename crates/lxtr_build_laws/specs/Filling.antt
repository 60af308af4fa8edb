-- Placing from a work of zeros: the node at each prefix of a key, the codes of its children, and where each taken slot comes from.
-- The proof goes along the labels of a key, down the tree that placing leaves.
use Rattle.std.specs.Prelude.{ℕ, zero, suc, ◌+◌, ◌*◌, ◌-◌, ◌≤◌, ◌<◌, ◌≡◌, refl, get_or, length, replicate, Some}
use Rattle.std.proofs.Common.{arith, add-one, sym, ⊎_elim, length-append}
use Rattle.std.proofs.Math.Path.{subst}
use mathlib.Core.List.Memᴰ
use mathlib.Core.List.{List, [], ◌∷◌, ◌++◌, append-nil, Memᴰ}
use Rattle.std.proofs.lemmas.List.{length-replicate}
use Rattle.lxtr_spec.specs.Labels.{max_labels, length_count, max_slots, Pair}
use Rattle.lxtr_spec.specs.Placing.{base_at, check_at, next_code, child_codes, end_value, place}
use Rattle.lxtr_spec.specs.CodeMaps.{map_of, code_in, label_with}
use Rattle.lxtr_spec.specs.Builds.{slots_in, placed_in}
use Rattle.lxtr_spec.specs.Sets.{PairSet, Has, Prefix}
use Rattle.lxtr_laws.specs.KeyPrefixes.{snoc_cons, GoesOn, prefix_on}
use Rattle.lxtr_build_laws.specs.KeyListFacts.{KeysRight}
use Rattle.lxtr_build_laws.specs.UsedLabels.{Uses}
use Rattle.lxtr_build_laws.specs.Maps.{map_members, coded}
use Rattle.lxtr_build_laws.specs.SlotWords.{Taken}
use Rattle.lxtr_build_laws.specs.PlacingSteps.{Step}
use Rattle.lxtr_build_laws.specs.ChildCodes.{codes_have, codes_mem}
use Rattle.lxtr_build_laws.specs.Placed.{place_step}
use Rattle.lxtr_build_laws.specs.Nodes.{Node, Plain}
use Rattle.lxtr_build_laws.specs.Trees.{Tree, place_tree}
use Rattle.lxtr_build_laws.specs.TreeSlots.{place_only}
use Rattle.lxtr_build_laws.specs.PairSets.{set_of, set_members}
use Rattle.lxtr_build_laws.specs.Paths.{slot_along, below_all, all_up, all_have, tree_along, Found, within_found}

-- the pairs ps are placed below slot 1, from a work of zeros w₀
pub record Filling (S L : ℕ) (code label : ℕ → ℕ) (ps : List Pair) (w₀ w : List ℕ) : Type 0 where
  pub low : 2 ≤ S
  pub high : S ≤ max_slots
  pub room : 2 * S ≤ length w₀
  pub zeros : (j : ℕ) → get_or w₀ j 0 ≡ 0
  pub is : place S code label length_count 1 ps w₀ ≡ Some w
  pub right : KeysRight ps
  pub known : (x : ℕ) → Uses ps x → (1 ≤ code x) × (code x ≤ L) × (label (code x) ≡ x)

-- the label after a front part of a list is a member of the list
pub label_in : (p : List ℕ) (x : ℕ) (r : List ℕ) → Memᴰ x (p ++ x ∷ r)
label_in p x r = Memᴰ.append_right p (Memᴰ.head refl)

module _ {S L : ℕ} {code label : ℕ → ℕ} {ps : List Pair} {w₀ w : List ℕ} (f : Filling S L code label ps w₀ w) where
  abbrev d : PairSet
  d = set_of ps

  abbrev slot : List ℕ → ℕ
  slot p = slot_along code w 1 p

  abbrev codes : List ℕ → List ℕ
  codes p = child_codes code (below_all p ps) []

  abbrev NodeAt : List ℕ → Type 0
  NodeAt p = Node S w₀ w (slot_along code w 1 p) (child_codes code (below_all p ps) []) (end_value (below_all p ps)) (base_at w (slot_along code w 1 p))

  pub is_member : (k : List ℕ) (v : ℕ) → Has d k v → Memᴰ (k, v) ps
  is_member k v h = (set_members ps f.right.ascending k v).0 h

  pub has : (k : List ℕ) (v : ℕ) → Memᴰ (k, v) ps → Has d k v
  has k v m = (set_members ps f.right.ascending k v).1 m

  pub low_taken : (t : ℕ) → t < 2 → Taken w₀ t
  low_taken t l g = omega (arith, g.from)

  plain : Plain S w₀ 1
  unfolding check_at
  plain = record {
    ready = record { room = f.room; slots = f.high; from = omega arith; to = omega (arith, f.low); taken = low_taken 1 (omega arith) };
    plain = omega (arith, f.zeros (2 * 1 + 1));
  }

  pub step : Step S (λ t. t ≡ 1) w₀ w
  step = place_step S code label length_count 1 ps w₀ w plain.ready f.is

  pub filled_size : length w ≡ length w₀
  filled_size = step.size

  -- ---- the node at each prefix

  tree : Tree S code label w₀ length_count w 1 ps
  tree = place_tree S code label length_count 1 ps w₀ w plain f.is

  node_of : (p : List ℕ) (j : ℕ) → Tree S code label w₀ (suc j) w (slot p) (below_all p ps) → NodeAt p
  unfolding Tree
  node_of p j tr = subst (λ (b : ℕ). Node S w₀ w (slot p) (codes p) (end_value (below_all p ps)) b) (sym tr.1.base_is) tr.1

  node_root : NodeAt []
  unfolding slot_along below_all
  node_root = node_of [] max_labels (subst (λ (n : ℕ). Tree S code label w₀ n w 1 ps) (add-one max_labels) tree)

  node_key : (p r : List ℕ) (v : ℕ) → Memᴰ (p ++ r, v) ps → NodeAt p
  node_key p r v m =
      let e : length_count ≡ length p + suc (max_labels - length p) = omega (arith, length-append p r, f.right.short (p ++ r, v) m) in
      let known : (x : ℕ) → Memᴰ x p → (1 ≤ code x) × (label (code x) ≡ x) = λ x n. (let k = f.known x ((p ++ r, v), m, Memᴰ.append_left r n) in (k.0, k.2)) in
      node_of p (max_labels - length p) (tree_along S code label w₀ w p (suc (max_labels - length p)) 1 ps known r v m (subst (λ (n : ℕ). Tree S code label w₀ n w 1 ps) e tree))

  pub node : (p : List ℕ) → Prefix d p → NodeAt p
  node p g = ⊎_elim (λ (e : p ≡ []). subst NodeAt (sym e) node_root) (λ (k : GoesOn d p). node_key p k.0 k.1 (is_member (p ++ k.0) k.1 k.2)) g.is

  -- ---- the codes there

  prefix_mem : (p : List ℕ) (x : ℕ) → Prefix d (p ++ x ∷ []) → (r : List ℕ) × (v : ℕ) × Memᴰ (p ++ x ∷ r, v) ps
  prefix_mem p x g =
      let k = prefix_on d p x g in
      (k.0, k.1, subst (λ (l : List ℕ). Memᴰ (l, k.1) ps) (sym (snoc_cons p x k.0)) (is_member ((p ++ x ∷ []) ++ k.0) k.1 k.2))

  pub code_in_lem : (p : List ℕ) (x : ℕ) → Prefix d (p ++ x ∷ []) → Memᴰ (code x) (codes p)
  unfolding next_code
  code_in_lem p x g = let k = prefix_mem p x g in codes_have code (below_all p ps) (x ∷ k.0, k.1) (all_have p ps (x ∷ k.0) k.1 k.2)

  pub uses : (p : List ℕ) (x : ℕ) → Prefix d (p ++ x ∷ []) → Uses ps x
  uses p x g = let k = prefix_mem p x g in ((p ++ x ∷ k.0, k.1), k.2, label_in p x k.0)

  pub end_mem : (k : List ℕ) (v : ℕ) → Has d k v → Memᴰ ([], v) (below_all k ps)
  end_mem k v h = all_have k ps [] v (rw (append-nil k) (is_member k v h))

  pub end_code : (k : List ℕ) (v : ℕ) → Has d k v → Memᴰ 0 (codes k)
  unfolding next_code
  end_code k v h = codes_have code (below_all k ps) ([], v) (end_mem k v h)

  -- conversely, the code of an end comes from a key
  pub code_end : (p : List ℕ) → Memᴰ 0 (codes p) → (v : ℕ) × Has d p v
  code_end p m = let q = codes_mem code (below_all p ps) 0 m in go q.0.0 q.0.1 q.1 q.2
    where
      go : (r : List ℕ) (v : ℕ) → Memᴰ (r, v) (below_all p ps) → 0 ≡ next_code code r → (v : ℕ) × Has d p v
      go [] v n e = (v, has p v (rw (append-nil p) at (all_up p ps [] v n)))
      go (x ∷ r) v n e = absurd (let z : 0 ≡ code x = unfold next_code in e in omega (arith, (f.known x ((p ++ x ∷ r, v), all_up p ps (x ∷ r) v n, label_in p x r)).0))

  -- every taken slot from 2 up is one at which some key continues or ends
  pub found : (t : ℕ) → 2 ≤ t → Taken w t → Found code w 1 ps t
  unfolding check_at
  found t l h = within_found code label w length_count 1 ps t (λ x a. (f.known x a).2)
      (place_only S code label length_count 1 ps w₀ w plain f.is t (record { from = l; zero_check = f.zeros (2 * t + 1) }) h)

-- ---- so the pairs of a key list are placed

all_zero : (n j : ℕ) → ◌≡◌ {A = ℕ} (get_or (replicate n 0) j 0) 0
all_zero zero j = refl
all_zero (suc n) zero = refl
all_zero (suc n) (suc j) = all_zero n j

pub filling : (W : ℕ) (ps : List Pair) (w : List ℕ) → 4 ≤ W → KeysRight ps → placed_in W ps (map_of ps) ≡ Some w
    → Filling (slots_in W) (length (map_of ps)) (code_in (map_of ps)) (label_with (map_of ps)) ps (replicate W 0) w
unfolding slots_in placed_in
filling W ps w h right e = record {
  low = omega arith;
  high = omega arith;
  room = omega (arith, length-replicate {A = ℕ} W 0);
  zeros = all_zero W;
  is = e;
  right = right;
  known = λ x u. (let c = coded (map_of ps) x ((map_members ps x).1 u) in (c.from, c.to, c.back));
}
