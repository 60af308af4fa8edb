-- Bytes appended to what is in a line, as far as the line goes. Appending them one after the other is the same as all at once.
use Rattle.std.specs.Prelude.{ℕ, ◌+◌, ◌-◌, ◌≤◌, ◌≡◌, List, [], ◌++◌, length, take}
use Rattle.std.proofs.Common.{arith, sym, ap, ◌∙◌, append-nil, take_all, length-take-le}
use Rattle.std.proofs.Math.Decide.{dec_le}
use Rattle.std.proofs.lemmas.List.{take-append-le}
use Rattle.std.proofs.Math.Seq.{take-append-add}
use Rattle.lxtr_laws.specs.Overlays.{over, over_none}

-- as many of the bytes xs as fit into the line, starting at place `at`
abbrev pub front : List ℕ → ℕ → List ℕ → List ℕ
front line at xs = take (length line - at) xs

-- these are in the line, starting at that place; the rest stays, and r is the place after them
pub record Appended (line : List ℕ) (at : ℕ) (xs line' : List ℕ) (r : ℕ) : Type 0 where
  pub is : line' ≡ over line at (front line at xs)
  pub next : r ≡ at + length (front line at xs)
  -- the two facts that cutting the line at that place requires
  pub within : r ≤ length line'
  pub cut : r ≡ length (take r line')

pub within_cut : (r : ℕ) (line : List ℕ) → r ≤ length line → r ≡ length (take r line)
within_cut r line h = sym (length-take-le r line h)

pub front_append : (n : ℕ) (xs ys : List ℕ) → take n (xs ++ ys) ≡ take n xs ++ take (n - length xs) ys
front_append n xs ys = go (dec_le n (length xs))
  where
    go : Dec (n ≤ length xs) → take n (xs ++ ys) ≡ take n xs ++ take (n - length xs) ys
    go (yes h) = let z : n - length xs ≡ 0 = omega arith in rw z (take-append-le n xs ys h ∙ sym (append-nil (take n xs)))
    go (no h) =
        let e : length xs + (n - length xs) ≡ n = omega arith in
        (rw e at (take-append-add xs ys (n - length xs))) ∙ ap (λ (l : List ℕ). l ++ take (n - length xs) ys) (sym (take_all n xs (omega arith)))

module _ (line : List ℕ) (at : ℕ) where
  pub append_none : at ≤ length line → Appended line at [] line at
  append_none h = let e : front line at [] ≡ [] = take_all (length line - at) [] (omega arith) in record { is = rw e (sym (over_none line at)); next = rw e (omega arith); within = h; cut = within_cut at line h }
