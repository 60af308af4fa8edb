-- A run: the lists that the numbers j, j + 1, .. give, joined. Each member comes from one of these parts, and the run is in order
-- if each part is and members of earlier parts come first. The pairs below a slot are a run over the places of its list, the
-- prefixes of a query one over their lengths.
use Prim.Native.Nat.{ℕ, zero, suc, ◌+◌, ◌-◌, ◌≤◌, ◌<◌}
use Rattle.std.proofs.Math.Decide.{dec_lt}
use native.Mathlib.Omega.{arith}
use Rattle.std.proofs.Common.{add-zero, length-append, sym, ◌∙◌, inl, inr, add-one}
use Rattle.std.proofs.Math.ListN.{get_or, get_or-append}
use Rattle.std.specs.Prelude.{length, ◌≡◌, ◌⊎◌}
use Rattle.std.proofs.Math.Seq.{get_or-append-add}
use Rattle.std.proofs.Math.Path.{ap}
use mathlib.Core.List.Memᴰ
use mathlib.Core.List.{List, ◌++◌, append_assoc, Memᴰ}
use Rattle.lxtr_spec.specs.Ranges.{concat_from}
use Rattle.lxtr_laws.specs.RangeTests.{concat_more}
use Rattle.lxtr_laws.specs.Sorted.{Sorted, sorted_append}

module _ {A : Type 0} where
  module _ (f : ℕ → List A) where
    pub run_in : (w j i : ℕ) (r : A) → j ≤ i → i < j + w → Memᴰ r (f i) → Memᴰ r (concat_from w j f)
    unfolding concat_from
    run_in zero j i r l u m = absurd (omega arith)
    run_in (suc w) j i r l u m = go (run_in w (j + 1) i r) (dec_lt j i)
      where
        go : (j + 1 ≤ i → i < j + 1 + w → Memᴰ r (f i) → Memᴰ r (concat_from w (j + 1) f)) → Dec (j < i) → Memᴰ r (f j ++ concat_from w (j + 1) f)
        go ih (yes h) = Memᴰ.append_right (f j) (ih (omega arith) (omega arith) m)
        go ih (no h) = let e : i ≡ j = omega arith in Memᴰ.append_left (concat_from w (j + 1) f) (rw e at m)

    pub run_from : (w j : ℕ) (r : A) → Memᴰ r (concat_from w j f) → (i : ℕ) × (j ≤ i) × (i < j + w) × Memᴰ r (f i)
    unfolding concat_from
    run_from zero j r m = absurd (Memᴰ.not-nil m)
    run_from (suc w) j r m = go (run_from w (j + 1) r) (Memᴰ.append_cases (f j) m)
      where
        go : (Memᴰ r (concat_from w (j + 1) f) → (i : ℕ) × (j + 1 ≤ i) × (i < j + 1 + w) × Memᴰ r (f i)) → Memᴰ r (f j) ⊎ Memᴰ r (concat_from w (j + 1) f)
            → (i : ℕ) × (j ≤ i) × (i < j + suc w) × Memᴰ r (f i)
        go ih (inl n) = (j, omega arith, omega arith, n)
        go ih (inr n) = let q = ih n in (q.0, omega arith, omega arith, q.3)

    pub run_sorted : (R : A → A → Type 0) (w j : ℕ) → ((i : ℕ) → j ≤ i → i < j + w → Sorted R (f i))
        → ((i k : ℕ) (p r : A) → j ≤ i → i < k → k < j + w → Memᴰ p (f i) → Memᴰ r (f k) → R p r)
        → Sorted R (concat_from w j f)
    unfolding concat_from Sorted
    run_sorted R zero j s h = tt
    run_sorted R (suc w) j s h =
        sorted_append R (f j) (concat_from w (j + 1) f) (s j (omega arith) (omega arith))
        (run_sorted R w (j + 1) (λ i l u. s i (omega arith) (omega arith)) (λ i k p r l u v. h i k p r (omega arith) u (omega arith)))
        (λ p m r n. let q = run_from w (j + 1) r n in h j q.0 p r (omega arith) (omega arith) (omega arith) m q.3)

    -- a run's front part and what follows it
    run_split : (k m j : ℕ) → concat_from (k + m) j f ≡ concat_from k j f ++ concat_from m (j + k) f
    unfolding concat_from
    run_split zero m j = let e : 0 + m ≡ m = omega arith in rw (e, add-zero)
    run_split (suc k) m j =
        let e : suc k + m ≡ suc (k + m) = omega arith in
        let g : j + suc k ≡ j + 1 + k = omega arith in
        rw (e, g, concat_from, run_split k m (j + 1)) (sym (append_assoc (f j) (concat_from k (j + 1) f) (concat_from m (j + 1 + k) f)))

    -- entry i of part k is entry i after all the parts before it
    pub run_entry : (n j k i : ℕ) (z : A) → k < n → i < length (f (j + k)) → get_or (concat_from n j f) (length (concat_from k j f) + i) z ≡ get_or (f (j + k)) i z
    unfolding concat_from
    run_entry n j k i z h l =
        let e : n ≡ k + suc (n - suc k) = omega arith in
        let rest : List A = concat_from (n - suc k) (j + k + 1) f in
        ap (λ (m : ℕ). get_or (concat_from m j f) (length (concat_from k j f) + i) z) e
        ∙ ap (λ (m : List A). get_or m (length (concat_from k j f) + i) z) (run_split k (suc (n - suc k)) j)
        ∙ get_or-append-add (concat_from k j f) (f (j + k) ++ rest) i z
        ∙ get_or-append (f (j + k)) rest z i l

    -- one more part adds its entries
    pub run_more : (k j : ℕ) → length (concat_from (k + 1) j f) ≡ length (concat_from k j f) + length (f (j + k))
    run_more k j = rw (add-one k) (ap (λ (l : List A). length l) (concat_more f k j) ∙ length-append (concat_from k j f) (f (j + k)))
