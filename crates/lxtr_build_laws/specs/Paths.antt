-- The slots along the labels of a key, and the group that passes each of them.
-- Each label leads from a slot to a child's slot, and from a group to the group below it.
use Prim.Native.Nat.{ℕ, zero, suc, ◌+◌, ◌≤◌}
use Rattle.std.proofs.Common.{arith, ap₂, ◌∙◌, subst, eq-eqb}
use Rattle.std.specs.Prelude.{◌≡◌, refl, Bool, true, false, eqb, length}
use Rattle.std.proofs.Math.Path.{sym, ap}
use mathlib.Core.List.Memᴰ
use mathlib.Core.List.{List, [], ◌∷◌, ◌++◌, Memᴰ}
use Rattle.std.proofs.Math.Logic.{⊎_elim}
use Rattle.lxtr_spec.specs.Labels.{Pair}
use Rattle.lxtr_spec.specs.Joining.{slot_under}
use Rattle.lxtr_spec.specs.Placing.{base_at, next_code, below, end_value}
use Rattle.lxtr_laws.specs.KeyOrder.{before_self}
use Rattle.lxtr_build_laws.specs.KeyListFacts.{Ascending}
use Rattle.lxtr_build_laws.specs.UsedLabels.{Uses}
use Rattle.lxtr_build_laws.specs.Groups.{below_mem, ascending_below}
use Rattle.lxtr_build_laws.specs.ChildCodes.{codes_have, codes_mem}
use Rattle.lxtr_build_laws.specs.Trees.{Tree}
use Rattle.lxtr_build_laws.specs.TreeSlots.{Within}

-- the slot to which the bases lead from slot s, along these labels
unfoldable pub slot_along : (ℕ → ℕ) → List ℕ → ℕ → List ℕ → ℕ
slot_along code w s [] = s
slot_along code w s (x ∷ p) = slot_along code w (slot_under (base_at w s) (code x)) p

pub along_snoc : (code : ℕ → ℕ) (w p : List ℕ) (s x : ℕ) → slot_along code w s (p ++ x ∷ []) ≡ slot_under (base_at w (slot_along code w s p)) (code x)
unfolding slot_along
along_snoc code w [] s x = refl
along_snoc code w (y ∷ p) s x = along_snoc code w p (slot_under (base_at w s) (code y)) x

-- the group that passes that slot
unfoldable pub below_all : List ℕ → List Pair → List Pair
below_all [] g = g
below_all (x ∷ p) g = below_all p (below x g)

below_up : (x : ℕ) (g : List Pair) (r : List ℕ) (v : ℕ) → Memᴰ (r, v) (below x g) → Memᴰ (x ∷ r, v) g
below_up x g r v m =
    let a = below_mem x g (r, v) m in
    Memᴰ.cast (sym (ap₂ {C = Pair} (λ (k : List ℕ) (u : ℕ). (k, u)) a.is a.value)) a.is_in

below_here : (x : ℕ) (r : List ℕ) (v : ℕ) (g : List Pair) → below x ((x ∷ r, v) ∷ g) ≡ (r, v) ∷ below x g
unfolding below
below_here x r v g = ap (λ (t : Bool). elim t as (λ _. List Pair) [ true ↦ (r, v) ∷ below x g | false ↦ below x g ]) (eq-eqb x x refl)

below_keep : (x : ℕ) (p q : Pair) (g : List Pair) → Memᴰ q (below x g) → Memᴰ q (below x (p ∷ g))
unfolding below
below_keep x p q g m = on p.0
  where
    then : (k : List ℕ) (t : Bool) → Memᴰ q (elim t as (λ _. List Pair) [ true ↦ (k, p.1) ∷ below x g | false ↦ below x g ])
    then k true = Memᴰ.tail m
    then k false = m

    on : (k : List ℕ) → Memᴰ q (elim k as (λ _. List Pair) [ [] ↦ below x g | y ∷ r ↦ elim (eqb y x) as (λ _. List Pair) [ true ↦ (r, p.1) ∷ below x g | false ↦ below x g ] ])
    on [] = m
    on (y ∷ r) = then r (eqb y x)

below_have : (x : ℕ) (r : List ℕ) (v : ℕ) (g : List Pair) → Memᴰ (x ∷ r, v) g → Memᴰ (r, v) (below x g)
below_have x r v [] m = absurd (Memᴰ.not-nil m)
below_have x r v (p ∷ g) m = ⊎_elim
    (λ (e : (x ∷ r, v) ≡ p). subst (λ (q : Pair). Memᴰ (r, v) (below x (q ∷ g))) e (subst (λ (l : List Pair). Memᴰ (r, v) l) (sym (below_here x r v g)) (Memᴰ.head refl)))
    (λ n. below_keep x p (r, v) g (below_have x r v g n)) (Memᴰ.cases_cons m)

-- it is what is left of the keys that begin with these labels
pub all_up : (p : List ℕ) (g : List Pair) (r : List ℕ) (v : ℕ) → Memᴰ (r, v) (below_all p g) → Memᴰ (p ++ r, v) g
unfolding below_all
all_up [] g r v m = m
all_up (x ∷ p) g r v m = below_up x g (p ++ r) v (all_up p (below x g) r v m)

pub all_have : (p : List ℕ) (g : List Pair) (r : List ℕ) (v : ℕ) → Memᴰ (p ++ r, v) g → Memᴰ (r, v) (below_all p g)
unfolding below_all
all_have [] g r v m = m
all_have (x ∷ p) g r v m = all_have p (below x g) r v (below_have x (p ++ r) v g m)

pub all_ascending : (p : List ℕ) (g : List Pair) → Ascending g → Ascending (below_all p g)
unfolding below_all
all_ascending [] g a = a
all_ascending (x ∷ p) g a = all_ascending p (below x g) (ascending_below x g a)

-- the value written for an end is that of the key that ends there
pub end_value_lem : (g : List Pair) (v : ℕ) → Ascending g → Memᴰ ([], v) g → end_value g ≡ v
unfolding Ascending end_value
end_value_lem [] v a m = absurd (Memᴰ.not-nil m)
end_value_lem (([], u) ∷ g) v a m = ⊎_elim (λ (e : ([], v) ≡ ([], u)). ap (λ (q : Pair). q.1) (sym e)) (λ n. absurd (before_self [] (a.0 ([], v) n))) (Memᴰ.cases_cons m)
end_value_lem ((x ∷ r, u) ∷ g) v a m = ⊎_elim
    (λ (e : ([], v) ≡ (x ∷ r, u)). absurd (let z : 0 ≡ suc (length r) = ap (λ (q : Pair). length q.0) e in omega arith))
    (λ n. end_value_lem g v a.1 n) (Memᴰ.cases_cons m)

-- ---- the tree at each slot

pub tree_along : (S : ℕ) (code label : ℕ → ℕ) (w₀ w p : List ℕ) (j s : ℕ) (g : List Pair) → ((x : ℕ) → Memᴰ x p → (1 ≤ code x) × (label (code x) ≡ x))
    → (r : List ℕ) (v : ℕ) → Memᴰ (p ++ r, v) g → Tree S code label w₀ (length p + j) w s g → Tree S code label w₀ j w (slot_along code w s p) (below_all p g)
unfolding below_all slot_along Tree next_code
tree_along S code label w₀ w [] j s g k r v m tr = let e : 0 + j ≡ j = omega arith in subst (λ (n : ℕ). Tree S code label w₀ n w s g) e tr
tree_along S code label w₀ w (x ∷ p) j s g k r v m tr =
    let e : suc (length p) + j ≡ suc (length p + j) = omega arith in
    let t : Tree S code label w₀ (suc (length p + j)) w s g = subst (λ (n : ℕ). Tree S code label w₀ n w s g) e tr in
    let kx = k x (Memᴰ.head refl) in
    let c : Tree S code label w₀ (length p + j) w (slot_under t.0 (code x)) (below (label (code x)) g) = t.2 (code x) (codes_have code g (x ∷ (p ++ r), v) m) kx.0 in
    let c2 : Tree S code label w₀ (length p + j) w (slot_under t.0 (code x)) (below x g) = subst (λ (y : ℕ). Tree S code label w₀ (length p + j) w (slot_under t.0 (code x)) (below y g)) kx.1 c in
    let c3 : Tree S code label w₀ (length p + j) w (slot_under (base_at w s) (code x)) (below x g) = subst (λ (y : ℕ). Tree S code label w₀ (length p + j) w (slot_under y (code x)) (below x g)) (sym t.1.base_is) c2 in
    tree_along S code label w₀ w p j (slot_under (base_at w s) (code x)) (below x g) (λ y n. k y (Memᴰ.tail n)) r v (below_have x (p ++ r) v g m) c3

-- ---- the slots of the tree

-- t is the slot to which a key leads after its front part: by its next label, or as its end
pub record Found (code : ℕ → ℕ) (w : List ℕ) (s : ℕ) (g : List Pair) (t : ℕ) : Type 0 where
  pub front : List ℕ
  pub rest : List ℕ
  pub value : ℕ
  pub mem : Memᴰ (front ++ rest, value) g
  pub at : t ≡ slot_under (base_at w (slot_along code w s front)) (next_code code rest)

uses_up : (x : ℕ) (g : List Pair) (y : ℕ) → Uses (below x g) y → Uses g y
uses_up x g y h = let a = below_mem x g h.0 h.1 in (a.whole, a.is_in, rw a.is (Memᴰ.tail h.2))

module _ (code label : ℕ → ℕ) (w : List ℕ) where
  deeper : (s c : ℕ) (g : List Pair) (t : ℕ) → code (label c) ≡ c → Found code w (slot_under (base_at w s) c) (below (label c) g) t → Found code w s g t
  unfolding slot_along
  deeper s c g t back f = record {
    front = label c ∷ f.front;
    rest = f.rest;
    value = f.value;
    mem = below_up (label c) g (f.front ++ f.rest) f.value f.mem;
    at = f.at ∙ ap (λ (y : ℕ). slot_under (base_at w (slot_along code w (slot_under (base_at w s) y) f.front)) (next_code code f.rest)) (sym back);
  }

  pub within_found : (k s : ℕ) (g : List Pair) (t : ℕ) → ((x : ℕ) → Uses g x → label (code x) ≡ x) → Within code label k w s g t → Found code w s g t
  unfolding Within slot_along
  within_found zero s g t h i = absurd i
  within_found (suc k) s g t h i =
      let q = codes_mem code g i.0 i.1 in
      ⊎_elim
      (λ (e : t ≡ slot_under (base_at w s) i.0). record { front = []; rest = q.0.0; value = q.0.1; mem = q.1; at = e ∙ ap (slot_under (base_at w s)) q.2 })
      (λ (d : (1 ≤ i.0) × Within code label k w (slot_under (base_at w s) i.0) (below (label i.0) g) t).
      go q.0.0 q.0.1 q.1 q.2 d.0 (within_found k (slot_under (base_at w s) i.0) (below (label i.0) g) t (λ x a. h x (uses_up (label i.0) g x a)) d.1))
      i.2
    where
      go : (r : List ℕ) (v : ℕ) → Memᴰ (r, v) g → i.0 ≡ next_code code r → 1 ≤ i.0 → Found code w (slot_under (base_at w s) i.0) (below (label i.0) g) t → Found code w s g t
      go [] v m e l f = absurd (let z : i.0 ≡ 0 = unfold next_code in e in omega arith)
      go (x ∷ r) v m e l f = let z : i.0 ≡ code x = unfold next_code in e in deeper s i.0 g t (ap code (ap label z ∙ h x ((x ∷ r, v), m, Memᴰ.head refl)) ∙ sym z) f
