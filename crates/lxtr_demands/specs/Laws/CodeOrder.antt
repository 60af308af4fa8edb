-- Lists of pairs in code order: the order of the lists of their keys' codes.
-- The pairs of a set whose keys begin with given labels form only one list in this order.
use Rattle.std.specs.Prelude.{ℕ, ◌<◌, ◌≡◌}
use Rattle.std.proofs.Common.{not-suc-le-zero, sym, subst, inl}
use Rattle.std.proofs.Math.Path.{refl}
use mathlib.Core.List.{List, [], ◌∷◌, ◌++◌, map, map-append, Memᴰ}
use Rattle.std.proofs.Math.Bool.{true}
use Rattle.lxtr_spec.specs.Labels.{comes_before, Pair}
use Rattle.lxtr_spec.specs.Sets.{PairSet, Has}
use Rattle.lxtr_spec.specs.Meaning.{label_code, before_by_code, CodeBefore, Lists}
use Rattle.lxtr_laws.specs.KeyOrder.{first_or_rest, before_common, before_self, before_trans}
use Rattle.lxtr_laws.specs.Sorted.{Within, one_list}

-- the code of a list's first label; 0, the code of an end, if it has none
unfoldable pub head_code : List ℕ → List ℕ → ℕ
head_code b [] = 0
head_code b (x ∷ s) = label_code b x

module _ (b : List ℕ) where
  pub code_self : (p : Pair) → CodeBefore b p p → ⊥
  unfolding before_by_code
  code_self p = before_self (map (label_code b) p.0)

  pub code_trans : (p q r : Pair) → CodeBefore b p q → CodeBefore b q r → CodeBefore b p r
  unfolding before_by_code
  code_trans p q r = before_trans (map (label_code b) p.0) (map (label_code b) q.0) (map (label_code b) r.0)

  -- after a common prefix, the smaller code comes first
  pub before_code : (key u w : List ℕ) → head_code b u < head_code b w → before_by_code b (key ++ u) (key ++ w) ≡ true
  unfolding before_by_code head_code comes_before
  before_code key u w h = rw (map-append (label_code b) key u, map-append (label_code b) key w, before_common) (go u w h)
    where
      go : (u w : List ℕ) → head_code b u < head_code b w → comes_before (map (label_code b) u) (map (label_code b) w) ≡ true
      go u [] h = absurd (not-suc-le-zero h)
      go [] (y ∷ w) h = refl
      go (x ∷ u) (y ∷ w) h = (first_or_rest (label_code b x) (label_code b y) (map (label_code b) u) (map (label_code b) w)).1 (inl h)

  pub one_listing : (d : PairSet) (xs : List ℕ) (ps rs : List Pair) → Lists b d xs ps → Lists b d xs rs → ps ≡ rs
  one_listing d xs ps rs l m = one_list (CodeBefore b) code_trans code_self ps rs l.ordered m.ordered (over ps rs l m) (over rs ps m l)
    where
      over : (ps rs : List Pair) → Lists b d xs ps → Lists b d xs rs → Within ps rs
      over ps rs l m x n =
          let r = l.only x.0 x.1 n in
          subst (λ (k : List ℕ). Memᴰ (k, x.1) rs) (sym r.1) (m.all r.0 x.1 (subst (λ (k : List ℕ). Has d k x.1) r.1 r.2))
