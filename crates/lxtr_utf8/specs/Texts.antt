-- The labels of a text, character by character: what is left after the first character has the other labels.
use Prim.Native.Nat.{ℕ, zero, suc, ◌-◌, ◌≤◌, ◌<◌}
use native.Mathlib.Omega.{arith}
use Rattle.std.proofs.Math.Decide.{dec_lt}
use Rattle.std.proofs.Common.{le_refl, sym, ◌∙◌, ne_eqb, eqb-true}
use Rattle.std.specs.Prelude.{◌≡◌, List, [], ◌∷◌, ◌++◌, Bool, eqb, Option, Some, None}
use Rattle.std.proofs.Math.Path.{refl, ap}
use Rattle.std.proofs.Math.Bool.{true, false}
use Rattle.std.proofs.lemmas.Bool.{false≢true}
use Rattle.std.proofs.Math.ListN.{length, drop, length-drop}
use Rattle.lxtr_laws.specs.Tests.{and_is_true}
use Rattle.lxtr_command_spec.specs.Utf8.{utf8, front_number, begins_with, begins_right, option_cons, labels_within, labels_of_text}
use Rattle.lxtr_utf8.specs.Fronts.{Size, one, two, three, four, size_of_lem, count_one_lem, count_two, count_three, count_four}

-- ---- what a text begins with

-- bytes that a text begins with, and the rest of the text
pub begins_split : (t ys : List ℕ) → begins_with t ys ≡ true → t ≡ ys ++ drop (length ys) t
unfolding begins_with
begins_split t [] e = refl
begins_split [] (y ∷ ys) e = absurd (false≢true e)
begins_split (x ∷ t) (y ∷ ys) e =
    let (s, r) = (and_is_true (eqb x y) (begins_with t ys)).0 e in ap (λ (l : List ℕ). x ∷ l) (begins_split t ys r) ∙ ap (λ (z : ℕ). z ∷ (ys ++ drop (length ys) t)) (eqb-true x y s)

-- a character has at least one byte
pub some_bytes : (x : ℕ) → 1 ≤ length (utf8 x)
some_bytes x = go (size_of_lem x)
  where
    go : Size x → 1 ≤ length (utf8 x)
    go (one h) = omega (arith, count_one_lem x h)
    go (two l h) = omega (arith, count_two x l h)
    go (three l h) = omega (arith, count_three x l h)
    go (four l) = omega (arith, count_four x l)

-- ---- the labels within a number of characters

module _ (k : ℕ) (t : List ℕ) (more : 1 ≤ length t) where
  within_some : begins_right t ≡ true → labels_within (suc k) t ≡ option_cons (front_number t) (labels_within k (drop (length (utf8 (front_number t))) t))
  unfolding labels_within
  within_some e = rw (ne_eqb (length t) 0 (λ z. omega arith), labels_within, e)

  within_none : begins_right t ≡ false → labels_within (suc k) t ≡ None
  unfolding labels_within
  within_none e = rw (ne_eqb (length t) 0 (λ z. omega arith), labels_within, e)

within_end : (k : ℕ) (t : List ℕ) → length t ≡ 0 → labels_within k t ≡ Some []
unfolding labels_within
within_end zero t z = rw (z, labels_within)
within_end (suc k) t z = rw (z, labels_within)

-- the number does not matter if it is at least the length of the text
within_same : (k m : ℕ) (t : List ℕ) → length t ≤ k → length t ≤ m → labels_within k t ≡ labels_within m t
within_same zero m t h l = within_end 0 t (omega arith) ∙ sym (within_end m t (omega arith))
within_same (suc k) zero t h l = within_end (suc k) t (omega arith) ∙ sym (within_end 0 t (omega arith))
within_same (suc k) (suc m) t h l = go (within_same k m) (dec_lt 0 (length t)) (begins_right t) refl
  where
    go : ((u : List ℕ) → length u ≤ k → length u ≤ m → labels_within k u ≡ labels_within m u)
        → Dec (0 < length t) → (a : Bool) → begins_right t ≡ a → labels_within (suc k) t ≡ labels_within (suc m) t
    go ih (no n) a e = within_end (suc k) t (omega arith) ∙ sym (within_end (suc m) t (omega arith))
    go ih (yes p) false e = within_none k t p e ∙ sym (within_none m t p e)
    go ih (yes p) true e =
        let x = front_number t in
        let u = drop (length (utf8 x)) t in
        let s = length-drop (length (utf8 x)) t in
        let b = some_bytes x in
        within_some k t p e ∙ ap (option_cons x) (ih u (omega arith) (omega arith)) ∙ sym (within_some m t p e)

-- ---- the labels of a text

pub cons_some : (x : ℕ) (o : Option (List ℕ)) (xs : List ℕ) → option_cons x o ≡ Some xs → (ys : List ℕ) × (o ≡ Some ys) × (xs ≡ x ∷ ys)
unfolding option_cons
cons_some x None xs e = absurd (let z : ◌≡◌ {A = ℕ} 0 1 = cc in omega arith)
cons_some x (Some ys) xs e = (ys, refl, cc)

pub labels_end : (t : List ℕ) → length t ≡ 0 → labels_of_text t ≡ Some []
unfolding labels_of_text
labels_end t e = within_end (length t) t e

module _ (t : List ℕ) (more : 1 ≤ length t) where
  pub labels_right : begins_right t ≡ true → labels_of_text t ≡ option_cons (front_number t) (labels_of_text (drop (length (utf8 (front_number t))) t))
  unfolding labels_of_text
  labels_right e =
      let x = front_number t in
      let u = drop (length (utf8 x)) t in
      let s = length-drop (length (utf8 x)) t in
      let b = some_bytes x in
      let k : length t ≡ suc (length t - 1) = omega arith in
      ap (λ (n : ℕ). labels_within n t) k ∙ within_some (length t - 1) t more e ∙ ap (option_cons x) (within_same (length t - 1) (length u) u (omega arith) (le_refl (length u)))

  pub labels_wrong_lem : begins_right t ≡ false → labels_of_text t ≡ None
  unfolding labels_of_text
  labels_wrong_lem e = let k : length t ≡ suc (length t - 1) = omega arith in ap (λ (n : ℕ). labels_within n t) k ∙ within_none (length t - 1) t more e
