-- The highest value of the ends is that of the set: the end of each key has the key's value, and each end is some key's.
-- By induction over the slots, the highest value so far is that of some end, and no end so far has a higher one.
use Rattle.std.specs.Prelude.{ℕ, zero, suc, ◌≤◌, ◌<◌, ◌≡◌, refl, ◌⊎◌, ◌↔◌, List, Bool, true, false, cond, ltb, Option, Some, None}
use Rattle.std.proofs.Common.{le_refl, not-suc-le-zero, arith, sym, ap, ◌∙◌, inl, inr, ⊎_elim, true≢false, ltb-true, ltb-false}
use Rattle.lxtr_spec.specs.Image.{slot_count, value_number}
use Rattle.lxtr_spec.specs.Refusals.{unless_refused, image_refusal, is_end, check_of}
use Rattle.lxtr_spec.specs.HighestValues.{larger, highest_below, highest_of}
use Rattle.lxtr_spec.specs.Sets.{PairSet, Has}
use Rattle.lxtr_spec.specs.Meaning.{HighestIn}
use Rattle.lxtr_laws.specs.Tests.{is_false}
use Rattle.lxtr_laws.specs.RangeTests.{below_suc}
use Rattle.lxtr_laws.specs.RefusalChains.{stands}
use Rattle.lxtr_laws.specs.StepFacts.{none_not_some, some_same}
use Rattle.lxtr_laws.specs.Faults.{end_is}
use Rattle.lxtr_demands.specs.Operations.{defined}
use Rattle.lxtr_demands.specs.HighestValue.{HighestValue}
use Rattle.lxtr_demands.specs.Laws.Kinds.{KnownImage}
use Rattle.lxtr_demands.specs.Laws.Images.{image_passes, known_image}
use Rattle.lxtr_demands.specs.Laws.Counts.{end_counted, counted_end}

-- m is the larger of v and the value h, if there is one: at least both, and one of both
record Larger (v : ℕ) (h : Option ℕ) (m : ℕ) : Type 0 where
  own : v ≤ m
  before : (w : ℕ) → h ≡ Some w → w ≤ m
  one : (v ≡ m) ⊎ (h ≡ Some m)

is_larger : (v : ℕ) (h : Option ℕ) → Larger v h (larger v h)
unfolding larger
is_larger v None = record { own = le_refl v; before = λ w e. absurd (none_not_some e); one = inl refl }
is_larger v (Some u) = go (ltb v u) refl
  where
    go : (t : Bool) → ltb v u ≡ t → Larger v (Some u) (cond t u v)
    go true e = record { own = omega (arith, ltb-true v u e); before = λ w f. omega (arith, some_same f); one = inr refl }
    go false e = record { own = le_refl v; before = λ w f. omega (arith, some_same f, ltb-false v u e); one = inl refl }

-- h is the highest value of the ends below n: that of some end, and no other is above it; none if there is no end
record HighestEnd (b : List ℕ) (n : ℕ) (h : Option ℕ) : Type 0 where
  most : (s : ℕ) → s < n → is_end b s ≡ true → (w : ℕ) × (h ≡ Some w) × (value_number b s ≤ w)
  is : (w : ℕ) → h ≡ Some w → (s : ℕ) × (s < n) × (is_end b s ≡ true) × (value_number b s ≡ w)

highest_end : (b : List ℕ) (n : ℕ) → HighestEnd b n (highest_below b n)
unfolding highest_below
highest_end b zero = record { most = λ s l e. absurd (not-suc-le-zero l); is = λ w e. absurd (none_not_some e) }
highest_end b (suc n) = go (is_end b n) refl (highest_end b n)
  where
    v : ℕ
    v = value_number b n

    h : Option ℕ
    h = highest_below b n

    m : ℕ
    m = larger v h

    go : (t : Bool) → is_end b n ≡ t → HighestEnd b n h → HighestEnd b (suc n) (cond t (Some m) h)
    go true e before = record {
      most = λ s l f. (
        m,
        refl,
        ⊎_elim
            (λ same. rw same (is_larger v h).own)
            (λ k. let w = before.most s k f in omega (arith, w.2, (is_larger v h).before w.0 w.1))
            (below_suc s n l),
      );
      is = λ w f. ⊎_elim
          (λ own. (n, le_refl (suc n), e, own ∙ some_same f))
          (λ same. let s = before.is m same in (s.0, omega (arith, s.1), s.2, s.3 ∙ some_same f))
          (is_larger v h).one;
    }
    go false e before = record {
      most = λ s l f. ⊎_elim (λ same. absurd (true≢false (sym f ∙ ap (is_end b) same ∙ e))) (λ k. before.most s k f) (below_suc s n l);
      is = λ w f. let s = before.is w f in (s.0, omega (arith, s.1), s.2, s.3);
    }

module _ {b : List ℕ} {d : PairSet} (known : KnownImage b d) where
  open known use {image, kinds}

  highest_in : HighestIn d (highest_below b (slot_count b))
  highest_in = record {
    most = λ k v h.
        let e = end_counted known k v h in
        let w = ends.most (image.end k) e.0 e.1 in
        (w.0, w.1, omega (arith, w.2, (image.placed.end_leaf k v h).1));
    is = λ w e.
        let (s, l, t, v) = ends.is w e in
        let u = (end_is b s).0 t in
        let (k, x, has, same) = counted_end known (kinds s l) u.0 u.1 in
        let z : x ≡ w = sym (image.placed.end_leaf k x has).1 ∙ ap (value_number b) same ∙ v in
        (k, rw z at has);
  }
    where
      ends : HighestEnd b (slot_count b) (highest_below b (slot_count b))
      ends = highest_end b (slot_count b)

-- two highest values are equal
one_highest : (d : PairSet) (g h : Option ℕ) → HighestIn d g → HighestIn d h → g ≡ h
one_highest d None None a c = refl
one_highest d None (Some w) a c = let (k, has) = c.is w refl in absurd (none_not_some (a.most k w has).1)
one_highest d (Some v) None a c = let (k, has) = a.is v refl in absurd (none_not_some (c.most k v has).1)
one_highest d (Some v) (Some w) a c =
    let (k, has) = a.is v refl in
    let (l, has') = c.is w refl in
    let up = c.most k v has in
    let down = a.most l w has' in
    ap {B = Option ℕ} Some (omega (arith, up.2, some_same up.1, down.2, some_same down.1))

pub highest_value : (b : List ℕ) → HighestValue defined b
unfolding check_of highest_of unless_refused
highest_value b = record {
  refusal = refl;
  refused = λ h. stands (image_refusal b) (highest_below b (slot_count b)) None h;
  some_highest = λ d i. (highest_below b (slot_count b), highest_in (known_image i));
  one_highest = one_highest;
  answer = λ d h i is. rw (image_passes i, one_highest d (highest_below b (slot_count b)) h (highest_in (known_image i)) is);
}

-- A test that also holds of every value above one of which it holds: at the highest value it tells whether it holds of some value.
module _ (test : Option ℕ → Bool) (fails : test None ≡ false) (rises : (v w : ℕ) → v ≤ w → test (Some v) ≡ true → test (Some w) ≡ true) {d : PairSet} where
  pub holds_of_some : (h : Option ℕ) → HighestIn d h → (test h ≡ true) ↔ ((k : List ℕ) × (v : ℕ) × Has d k v × (test (Some v) ≡ true))
  holds_of_some h is = (go h is, λ (k, v, has, e). let (w, same, l) = is.most k v has in ap test same ∙ rises v w l e)
    where
      go : (o : Option ℕ) → HighestIn d o → test o ≡ true → (k : List ℕ) × (v : ℕ) × Has d k v × (test (Some v) ≡ true)
      go None is e = absurd (true≢false (sym e ∙ fails))
      go (Some w) is e = let (k, has) = is.is w refl in (k, w, has, e)

  pub holds_of_none : (h : Option ℕ) → HighestIn d h → (test h ≡ false) ↔ ((k : List ℕ) (v : ℕ) → Has d k v → test (Some v) ≡ false)
  holds_of_none h is = (
    λ e k v has. is_false (test (Some v)) (λ f. true≢false (sym ((holds_of_some h is).1 (k, v, has, f)) ∙ e)),
    λ each. is_false (test h) (λ e. let (k, v, has, f) = (holds_of_some h is).0 e in true≢false (sym f ∙ each k v has)),
  )
