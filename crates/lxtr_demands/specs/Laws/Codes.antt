-- The search that starts at the map's first place finds a listed label's code, since no label is listed twice.
-- What the search finds is a code of the label; if it finds none, the label is not listed.
use Prim.Native.Nat.{ℕ, zero, suc, ◌+◌, ◌-◌, ◌≤◌, ◌<◌}
use Rattle.std.proofs.Math.Nat.{not-suc-le-zero, zero-add}
use native.Mathlib.Omega.{arith}
use Rattle.std.proofs.Math.Path.{◌≡◌, refl, sym}
use Rattle.std.proofs.Common.{◌∙◌}
use Rattle.std.specs.Prelude.{◌≢◌, List, Bool, Option, Some, None}
use Rattle.lxtr_laws.specs.StepFacts.{none_not_some}
use Rattle.std.proofs.Math.Bool.{true, false}
use Rattle.std.proofs.Math.Dec.{eqb}
use borrow.Author.Tests.{eqb-true, eqb-false, eq-eqb, ne_eqb}
use Rattle.lxtr_spec.specs.Image.{label_count, label_at, label_of_code, code_of, code_from}
use Rattle.lxtr_spec.specs.Sets.{Listed, Framed}

module _ (b : List ℕ) (x : ℕ) where
  -- what the search of the n places starting at i finds
  found : (n i c : ℕ) → code_from b x n i ≡ Some c → (i < c) × (c ≤ i + n) × (label_at b (c - 1) ≡ x)
  unfolding code_from
  found zero i c e = absurd (let z : ◌≡◌ {A = ℕ} 0 1 = cc in omega arith)
  found (suc n) i c e = go (found n (i + 1) c) (eqb (label_at b i) x) refl e
    where
      go : (code_from b x n (i + 1) ≡ Some c → (i + 1 < c) × (c ≤ i + 1 + n) × (label_at b (c - 1) ≡ x)) → (a : Bool) → eqb (label_at b i) x ≡ a
          → elim a as (λ _. Option ℕ) [ true ↦ Some (i + 1) | false ↦ code_from b x n (i + 1) ] ≡ Some c
          → (i < c) × (c ≤ i + suc n) × (label_at b (c - 1) ≡ x)
      go ih true t f =
          let e : i + 1 ≡ c = cc in
          let l : c - 1 ≡ i = omega arith in
          (omega arith, omega arith, rw l (eqb-true _ _ t))
      go ih false t f = let r = ih f in (omega arith, omega arith, r.2)

  -- a label that is at place i + m, and at no place before it, is found there
  finds : (n i m : ℕ) → m < n → label_at b (i + m) ≡ x → ((j : ℕ) → j < i + m → label_at b j ≢ x) → code_from b x n i ≡ Some (i + m + 1)
  unfolding code_from
  finds zero i m h e d = absurd (not-suc-le-zero h)
  finds (suc n) i zero h e d =
      let l : i + 0 ≡ i = omega arith in
      rw (eq-eqb (label_at b i) x (rw l at e), code_from, l)
  finds (suc n) i (suc m) h e d =
      let l : i + suc m ≡ i + 1 + m = omega arith in
      rw (ne_eqb (label_at b i) x (d i (omega arith)), code_from, l) (finds n (i + 1) m (omega arith) (rw l at e) (λ j k. d j (omega arith)))

  -- a label that is at one of these places is found
  missing : (n i m : ℕ) → code_from b x n i ≡ None → m < n → label_at b (i + m) ≢ x
  unfolding code_from
  missing zero i m e h l = not-suc-le-zero h
  missing (suc n) i m e h l = go (missing n (i + 1)) (eqb (label_at b i) x) refl m e h l
    where
      go : ((m : ℕ) → code_from b x n (i + 1) ≡ None → m < n → label_at b (i + 1 + m) ≢ x) → (a : Bool) → eqb (label_at b i) x ≡ a → (m : ℕ)
          → ◌≡◌ {A = Option ℕ} (elim a [ true ↦ Some (i + 1) | false ↦ code_from b x n (i + 1) ]) None → m < suc n → label_at b (i + m) ≡ x → ⊥
      go ih true t m f h l = none_not_some (sym f)
      go ih false t zero f h l = let e : i + 0 ≡ i = omega arith in eqb-false (label_at b i) x t (rw e at l)
      go ih false t (suc m) f h l = let e : i + suc m ≡ i + 1 + m = omega arith in ih m f (omega arith) (rw e at l)

  pub code_missing : code_of b x ≡ None → (c : ℕ) → Listed b x c → ⊥
  unfolding code_of label_of_code
  code_missing e c l = missing (label_count b) 0 (c - 1) e (omega (arith, l.from, l.to)) (rw (zero-add (c - 1)) l.label)

  pub code_listed : (c : ℕ) → code_of b x ≡ Some c → Listed b x c
  unfolding code_of label_of_code
  code_listed c e = let r = found (label_count b) 0 c e in record { from = r.0; to = omega arith; label = r.2 }

  pub listed_code : (c : ℕ) → Framed b → Listed b x c → code_of b x ≡ Some c
  unfolding code_of label_of_code
  listed_code c f l =
      let e : 0 + (c - 1) ≡ c - 1 = zero-add (c - 1) in
      let k : 0 + (c - 1) + 1 ≡ c = omega (arith, l.from) in
      rw k at (finds (label_count b) 0 (c - 1) (omega (arith, l.from, l.to)) (rw e l.label)
      (λ j h p. let s : j ≡ c - 1 = f.distinct j (c - 1) (omega (arith, l.to)) (omega (arith, l.from, l.to)) (p ∙ sym l.label) in omega arith))

-- two labels with the same code are equal
pub listed_same : (b : List ℕ) (x y c : ℕ) → Listed b x c → Listed b y c → x ≡ y
listed_same b x y c p q = sym p.label ∙ q.label
