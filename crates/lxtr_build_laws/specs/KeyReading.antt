-- One key of a key list and the keys after it: how many labels it has, where each is, and what a loop over the keys has left.
use Prim.Native.Nat.{ℕ, zero, suc, ◌+◌, ◌*◌, ◌-◌, ◌≤◌, ◌<◌}
use Rattle.std.specs.Prelude.{◌≡◌, get_or, length, drop}
use Rattle.std.proofs.Math.Path.{refl, ap, subst}
use Rattle.std.proofs.Common.{sym, ap₂, ◌∙◌, add-one, drop_of_length-le, drop-cons}
use Rattle.std.proofs.Math.Logic.{⊎_elim}
use mathlib.Core.List.Memᴰ
use mathlib.Core.List.{List, [], ◌∷◌, Memᴰ}
use native.Mathlib.Omega.{arith}
use Rattle.lxtr_spec.specs.KeyLists.{key_length, key_label, next_key, key_labels, key_at, keys_from}
use Rattle.lxtr_laws.specs.RangeTests.{more}
use Rattle.lxtr_build_laws.specs.KeyListFacts.{WholeKey, WholeKeys}

-- ---- the labels of one key

module _ (b : List ℕ) (at : ℕ) where
  labels_length : (n j : ℕ) → length (key_labels b at n j) ≡ n
  unfolding key_labels
  labels_length zero j = refl
  labels_length (suc n) j = ap suc (labels_length n (j + 1))

  labels_at : (n j i : ℕ) → i < n → get_or (key_labels b at n j) i 0 ≡ key_label b at (j + i)
  unfolding key_labels
  labels_at zero j i h = absurd (omega arith)
  labels_at (suc n) j zero h = let e : j ≡ j + 0 = omega arith in ap (key_label b at) e
  labels_at (suc n) j (suc i) h = let e : j + 1 + i ≡ j + suc i = omega arith in labels_at n (j + 1) i (omega arith) ∙ ap (key_label b at) e

  labels_of_lem : (n j x : ℕ) → Memᴰ x (key_labels b at n j) → (i : ℕ) × (i < j + n) × (x ≡ key_label b at i)
  unfolding key_labels
  labels_of_lem zero j x m = absurd (Memᴰ.not-nil m)
  labels_of_lem (suc n) j x m = ⊎_elim (λ e. (j, omega arith, e)) (λ k. let r = labels_of_lem n (j + 1) x k in (r.0, omega arith, r.2)) (Memᴰ.cases_cons m)

  pub key_size : length (key_at b at) ≡ key_length b at
  unfolding key_at
  key_size = labels_length (key_length b at) 0

  pub key_at_lem : (j : ℕ) → j < key_length b at → get_or (key_at b at) j 0 ≡ key_label b at j
  unfolding key_at
  key_at_lem j h = let e : 0 + j ≡ j = omega arith in labels_at (key_length b at) 0 j h ∙ ap (key_label b at) e

  -- each label is one of those read
  pub key_label_of : (x : ℕ) → Memᴰ x (key_at b at) → (j : ℕ) × (j < key_length b at) × (x ≡ key_label b at j)
  unfolding key_at
  key_label_of x m = let r = labels_of_lem (key_length b at) 0 x m in (r.0, omega arith, r.2)

  -- what comes after the first d labels
  pub key_ends : (d : ℕ) → key_length b at ≤ d → drop d (key_at b at) ≡ []
  key_ends d h = drop_of_length-le (key_at b at) {i = d} (omega (arith, key_size))

  pub key_goes : (d : ℕ) → d < key_length b at → drop d (key_at b at) ≡ key_label b at d ∷ drop (d + 1) (key_at b at)
  key_goes d h = drop-cons (key_at b at) d 0 (omega (arith, key_size)) ∙ ap₂ (λ (x m : ℕ). x ∷ drop m (key_at b at)) (key_at_lem d h) (sym (add-one d))

  -- the bytes of a label are within the list
  pub label_inside : (d len : ℕ) → WholeKey b at → len ≡ key_length b at → d < len → at + 5 + 4 * d ≤ length b
  unfolding next_key
  label_inside d len w e h = omega (arith, w.ends)

-- ---- the keys that a loop has left, after i of n

module _ (b : List ℕ) (n i at : ℕ) (h : i < n) where
  module _ (w : WholeKeys b (n - i) at) where
    both : WholeKey b at × WholeKeys b (n - (i + 1)) (next_key b at)
    unfolding WholeKeys
    both = subst (λ (k : ℕ). WholeKeys b k at) (more n i h) w

    pub whole_here : WholeKey b at
    whole_here = both.0

    pub whole_on : WholeKeys b (n - (i + 1)) (next_key b at)
    whole_on = both.1

    pub key_starts : at < length b
    key_starts = whole_here.starts

  pub keys_on : keys_from b (n - i) i at ≡ (key_at b at, i) ∷ keys_from b (n - (i + 1)) (i + 1) (next_key b at)
  unfolding keys_from
  keys_on = ap (λ (k : ℕ). keys_from b k i at) (more n i h)

pub keys_end : (b : List ℕ) (n i at : ℕ) → n ≤ i → keys_from b (n - i) i at ≡ []
unfolding keys_from
keys_end b n i at h = let e : n - i ≡ 0 = omega arith in ap (λ (k : ℕ). keys_from b k i at) e

pub keys_length : (b : List ℕ) (n i at : ℕ) → length (keys_from b n i at) ≡ n
unfolding keys_from
keys_length b zero i at = refl
keys_length b (suc n) i at = ap suc (keys_length b n (i + 1) (next_key b at))
