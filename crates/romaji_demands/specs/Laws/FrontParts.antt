-- Two front parts of one text: one of them begins with the other, and if they are equally long they are equal.
-- By induction over both, one element at a time. Then: parts of a list of bytes are bytes.
use Rattle.std.specs.Prelude.{ℕ, ◌+◌, ◌≡◌, refl, ◌⊎◌, length, take, drop}
use Rattle.std.proofs.Common.{arith, sym, ap, ◌∙◌, inl, inr, ⊎_elim, length-take, length-drop, length-append, get_or-take, get_or-drop, get_or-append-add}
use mathlib.Core.List.{List, [], ◌∷◌, ◌++◌, head-eq_of_cons-eq, tail-eq_of_cons-eq, append_cancel_left}
use Rattle.std.proofs.Math.ListN.{get_or-append}
use Rattle.std.proofs.Math.Seq.{take-append_seam}
use Rattle.romaji_demands.specs.TypingDemand.{Bytes}

-- l is a front part of r, or goes on after r
abbrev pub Fronts : List ℕ → List ℕ → Type 0
Fronts r l = ((m : List ℕ) × (r ≡ l ++ m)) ⊎ ((x : ℕ) × (m : List ℕ) × (l ≡ r ++ x ∷ m))

pub fronts : (r u l later : List ℕ) → r ++ u ≡ l ++ later → Fronts r l
fronts [] u [] later e = inl ([], refl)
fronts [] u (y ∷ l) later e = inr (y, l, refl)
fronts (x ∷ r) u [] later e = inl (x ∷ r, refl)
fronts (x ∷ r) u (y ∷ l) later e = ⊎_elim
    (λ (m, f). let g : x ≡ y = head-eq_of_cons-eq e in inl (m, cc))
    (λ (z, m, f). let g : x ≡ y = head-eq_of_cons-eq e in inr (z, m, cc))
    (fronts r u l later (tail-eq_of_cons-eq e))

-- front parts of the same length are the same, and so is what comes after them
pub same_fronts : (k m l n : List ℕ) → k ++ m ≡ l ++ n → length k ≡ length l → (k ≡ l) × (m ≡ n)
same_fronts k m l n e h =
    let same : k ≡ l = sym (take-append_seam k m) ∙ ap (λ (i : ℕ). take i (k ++ m)) h ∙ ap (take (length l)) e ∙ take-append_seam l n in
    (same, append_cancel_left l m n (ap (λ (j : List ℕ). j ++ m) (sym same) ∙ e))

pub bytes_take : (n : ℕ) (t : List ℕ) → Bytes t → Bytes (take n t)
bytes_take n t small i h = let l = length-take n t in rw (get_or-take n t i 0 (omega arith)) (small i (omega arith))

pub bytes_drop : (n : ℕ) (t : List ℕ) → Bytes t → Bytes (drop n t)
bytes_drop n t small i h = rw (get_or-drop n t i 0) (small (n + i) (omega (arith, length-drop n t)))

pub bytes_after : (a t : List ℕ) → Bytes (a ++ t) → Bytes t
bytes_after a t small i h = rw (get_or-append-add a t i 0) at (small (length a + i) (omega (arith, length-append a t)))

pub bytes_before : (a t : List ℕ) → Bytes (a ++ t) → Bytes a
bytes_before a t small i h = rw (get_or-append a t 0 i h) at (small i (omega (arith, length-append a t)))
