-- A key list that is not refused: each key passes its tests, so all of them do, and they ascend.
use Rattle.std.specs.Prelude.{ℕ, zero, suc, ◌+◌, ◌≤◌, ◌<◌, ◌≡◌, ◌≢◌, true, length}
use Rattle.std.proofs.Common.{ap, ◌∙◌, subst, ⊎_elim, arith}
use mathlib.Core.List.Memᴰ
use mathlib.Core.List.{List, Memᴰ}
use Rattle.lxtr_spec.specs.Labels.{is_scalar, max_labels, comes_before, Pair}
use Rattle.lxtr_spec.specs.KeyLists.{keys_at, key_count, next_key, key_at, keys_from, pairs_of, no_scalar_at, not_above, key_refusal, keys_refusal, list_refusal}
use Rattle.lxtr_laws.specs.RangeTests.{tests}
use Rattle.lxtr_laws.specs.RefusalChains.{none_refused, none_first}
use Rattle.lxtr_laws.specs.KeyOrder.{before_trans}
use Rattle.lxtr_build_laws.specs.KeyListFacts.{WholeKey, WholeKeys, Ascending, KeysPassed}
use Rattle.lxtr_build_laws.specs.KeyReading.{key_size, key_label_of}

-- key i, at a place, with the key before it at the place `before`
pub record KeyPassed (b : List ℕ) (i before at : ℕ) : Type 0 where
  pub whole : WholeKey b at
  pub scalar : (x : ℕ) → Memᴰ x (key_at b at) → is_scalar x ≡ true
  pub above : i ≢ 0 → comes_before (key_at b before) (key_at b at) ≡ true

pub key_passed : (b : List ℕ) (i before at : ℕ) → key_refusal b i before at ≡ 0 → KeyPassed b i before at
unfolding key_refusal no_scalar_at not_above
key_passed b i before at e =
    let (starts, (short, (ends, (scalar, (above, _))))) = simp (none_refused, tests) at e in
    record {
      whole = record { starts = starts; ends = ends; short = short };
      scalar = λ x m. let r = key_label_of b at x m in rw r.2 (scalar r.0 r.1);
      above = λ z. above (omega arith);
    }

-- the n keys starting with key i
record Passing (b : List ℕ) (n i before at : ℕ) : Type 0 where
  pub whole : WholeKeys b n at
  pub ascending : Ascending (keys_from b n i at)
  pub above : i ≢ 0 → (q : Pair) → Memᴰ q (keys_from b n i at) → comes_before (key_at b before) q.0 ≡ true
  pub short : (p : Pair) → Memᴰ p (keys_from b n i at) → length p.0 ≤ max_labels
  pub small : (p : Pair) → Memᴰ p (keys_from b n i at) → p.1 < i + n
  pub scalar : (p : Pair) → Memᴰ p (keys_from b n i at) → (x : ℕ) → Memᴰ x p.0 → is_scalar x ≡ true

keys_passing : (b : List ℕ) (n i before at : ℕ) → keys_refusal b n i before at ≡ 0 → Passing b n i before at
unfolding WholeKeys keys_from Ascending keys_refusal
keys_passing b zero i before at e = record {
  whole = tt;
  ascending = tt;
  above = λ z q m. absurd (Memᴰ.not-nil m);
  short = λ p m. absurd (Memᴰ.not-nil m);
  small = λ p m. absurd (Memᴰ.not-nil m);
  scalar = λ p m. absurd (Memᴰ.not-nil m);
}
keys_passing b (suc n) i before at e =
    let (first, later) = (none_first (key_refusal b i before at) _).0 e in
    let k = key_passed b i before at first in
    let l = keys_passing b n (i + 1) at (next_key b at) later in
    record {
      whole = (k.whole, l.whole);
      ascending = (l.above (λ z. omega arith), l.ascending);
      above = λ z q m. ⊎_elim
          (λ (w : q ≡ (key_at b at, i)). ap (λ (p : Pair). comes_before (key_at b before) p.0) w ∙ k.above z)
          (λ w. before_trans (key_at b before) (key_at b at) q.0 (k.above z) (l.above (λ y. omega arith) q w))
          (Memᴰ.cases_cons m);
      short = λ p m. ⊎_elim (λ (w : p ≡ (key_at b at, i)). omega (arith, ap (λ (q : Pair). length q.0) w, key_size b at, k.whole.short)) (l.short p) (Memᴰ.cases_cons m);
      small = λ p m. ⊎_elim (λ (w : p ≡ (key_at b at, i)). omega (arith, ap (λ (q : Pair). q.1) w)) (λ w. omega (arith, l.small p w)) (Memᴰ.cases_cons m);
      scalar = λ p m x j. ⊎_elim (λ (w : p ≡ (key_at b at, i)). k.scalar x (subst (λ (q : Pair). Memᴰ x q.0) w j)) (λ w. l.scalar p w x j) (Memᴰ.cases_cons m);
    }

pub list_passed : (b : List ℕ) → list_refusal b ≡ 0 → KeysPassed b
unfolding list_refusal pairs_of
list_passed b e =
    let (head, keys) = (none_first _ _).0 e in
    let (frame, (few, _)) = simp (none_refused, tests) at head in
    let l = keys_passing b (key_count b) 0 0 keys_at keys in
    record {
      long = frame.0;
      few = few;
      whole = l.whole;
      right = record { ascending = l.ascending; short = l.short; small = λ p m. omega (arith, l.small p m); scalar = l.scalar };
    }
