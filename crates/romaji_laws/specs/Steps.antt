-- The cutting of a text from one place to the next: it ends, keeps the text, or goes on after the piece at this place.
-- A place inside a piece is passed over, so what follows a piece is cut like a text of its own.
use Prim.Native.Nat.{ℕ, zero, suc, ◌-◌, ◌≤◌}
use native.Mathlib.Omega.{arith}
use Rattle.std.proofs.Common.{not-suc-le-zero, ap, ◌∙◌}
use Rattle.std.specs.Prelude.{◌≡◌, Bool, ◌&&◌, drop, leb}
use Rattle.std.proofs.Math.Path.{refl}
use mathlib.Core.List.{List, [], ◌∷◌}
use Rattle.std.proofs.Math.Bool.{true, false}
use Rattle.std.proofs.Math.ListN.{length}
use borrow.Author.Tests.{leb-true}
use Rattle.lxtr_laws.specs.Tests.{and_is_true}
use Rattle.lxtr_spec.specs.Searches.{case_longer, lookup_of}
use Rattle.lxtr_spec.specs.Numbers.{be_words}
use Rattle.romaji_spec.specs.Pieces.{max_kept, could_grow, piece_text, piece_at, only_rest, with_piece, kept_or, cut_after, cut}

module _ (keeping : Bool) (b : List ℕ) where
  -- the text is kept back
  abbrev pub Keeps : List ℕ → Type 0
  Keeps r = (keeping && could_grow b r) ≡ true

  abbrev pub GoesOn : List ℕ → Type 0
  GoesOn r = (keeping && could_grow b r) ≡ false

  passed_over : (k : ℕ) (r : List ℕ) → cut_after keeping b k r ≡ cut keeping b (drop k r)
  unfolding cut_after cut
  passed_over zero r = refl
  passed_over (suc k) [] = refl
  passed_over (suc k) (x ∷ r) = passed_over k r

  pub cut_end : (r : List ℕ) → length r ≤ 0 → cut keeping b r ≡ only_rest []
  unfolding cut cut_after
  cut_end [] h = refl
  cut_end (x ∷ r) h = absurd (not-suc-le-zero h)

  pub cut_keeps : (r : List ℕ) → Keeps r → cut keeping b r ≡ only_rest r
  unfolding cut cut_after kept_or
  cut_keeps [] e = refl
  cut_keeps (x ∷ r) e = rw e

  opened : (x : ℕ) (r : List ℕ) → GoesOn (x ∷ r)
      → cut keeping b (x ∷ r) ≡ with_piece (piece_at b (x ∷ r)) (cut_after keeping b (length (piece_text (piece_at b (x ∷ r))) - 1) r)
  unfolding cut cut_after kept_or
  opened x r e = rw e

  pub cut_next : (r : List ℕ) → 1 ≤ length r → GoesOn r → 1 ≤ length (piece_text (piece_at b r))
      → cut keeping b r ≡ with_piece (piece_at b r) (cut keeping b (drop (length (piece_text (piece_at b r))) r))
  cut_next [] h e m = absurd (not-suc-le-zero h)
  cut_next (x ∷ r) h e m = go (length (piece_text (piece_at b (x ∷ r)))) m (opened x r e)
    where
      go : (n : ℕ) → 1 ≤ n → cut keeping b (x ∷ r) ≡ with_piece (piece_at b (x ∷ r)) (cut_after keeping b (n - 1) r)
          → cut keeping b (x ∷ r) ≡ with_piece (piece_at b (x ∷ r)) (cut keeping b (drop n (x ∷ r)))
      go zero l f = absurd (not-suc-le-zero l)
      go (suc n) l f = let z : suc n - 1 ≡ n = omega arith in f ∙ ap (λ (k : ℕ). with_piece (piece_at b (x ∷ r)) (cut_after keeping b k r)) z ∙ ap (with_piece (piece_at b (x ∷ r))) (passed_over n r)

  keeps_few : (r : List ℕ) → Keeps r → length r ≤ max_kept
  unfolding could_grow
  keeps_few r e =
      let grows = ((and_is_true keeping (could_grow b r)).0 e).1 in
      leb-true (length r) max_kept ((and_is_true (leb (length r) max_kept) (case_longer (lookup_of b (be_words r)).case)).0 grows).0

  rest_after : (k : ℕ) (r : List ℕ) → length (cut_after keeping b k r).rest ≤ max_kept
  unfolding cut_after kept_or only_rest with_piece
  rest_after k [] = omega arith
  rest_after (suc k) (x ∷ r) = rest_after k r
  rest_after zero (x ∷ r) = go (keeping && could_grow b (x ∷ r)) refl (rest_after (length (piece_text (piece_at b (x ∷ r))) - 1) r)
    where
      go : (t : Bool) → (keeping && could_grow b (x ∷ r)) ≡ t → length (cut_after keeping b (length (piece_text (piece_at b (x ∷ r))) - 1) r).rest ≤ max_kept
          → length (cut_after keeping b 0 (x ∷ r)).rest ≤ max_kept
      go true e h = rw e (keeps_few (x ∷ r) e)
      go false e h = rw e h

  -- what is kept back is not more than a state can keep
  pub rest_few : (t : List ℕ) → length (cut keeping b t).rest ≤ max_kept
  unfolding cut
  rest_few t = rest_after 0 t
