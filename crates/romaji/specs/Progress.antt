-- How far a text was converted, for the two loops that go from place to place by its pieces.
-- What went out so far and what goes out from the place on is all that goes out; the rest is that of the text from there on.
use Rattle.std.specs.Prelude.{ℕ, ◌+◌, ◌/◌, ◌≤◌, ◌<◌, ◌≡◌, refl, Bool, length, drop, get_or, Option, Some, None, IfSome, ◌^◌}
use Rattle.std.proofs.Common.{arith, add-zero, not-suc-le-zero, sym, ap₂, ◌∙◌, length-append, length-drop, length-take, drop-drop, get_or-drop}
use Rattle.std.proofs.Math.Path.{ap}
use mathlib.Core.List.{List, [], ◌∷◌, ◌++◌, append_assoc, append-nil}
use Rattle.romaji_spec.specs.Pieces.{Cutting, only_rest, with_piece, matched, piece_by, piece_at, piece_text, matched_value, outgoing, cut}
use Rattle.romaji_laws.specs.Steps.{cut_end, cut_keeps, cut_next}
use Rattle.romaji.specs.NextPieces.{NextIs, ends, stays, goes, out_by, out_is}
use Rattle.romaji.specs.declared.pieces.Piece.{Piece}

-- a piece is a part of the text
within_by : (r : List ℕ) (m : ℕ) (o : Option ℕ) → 1 ≤ length r → length (piece_text (piece_by r m o)) ≤ length r
unfolding piece_by piece_text
within_by r m None h = h
within_by r m (Some v) h = omega (arith, length-take m r)

piece_within : (b r : List ℕ) → 1 ≤ length r → length (piece_text (piece_at b r)) ≤ length r
unfolding piece_at
piece_within b r h = within_by r (length (matched b r) / 4) (matched_value b r) h

nothing_left : (r : List ℕ) → length r ≤ 0 → r ≡ []
nothing_left [] h = refl
nothing_left (x ∷ r) h = absurd (not-suc-le-zero h)

-- the labels that go out for a text
unfoldable pub out_of : Bool → List ℕ → List ℕ → List ℕ → List ℕ
out_of keeping b kana t = outgoing kana (cut keeping b t).pieces

module _ (keeping : Bool) (b kana : List ℕ) where
  abbrev out : List ℕ → List ℕ
  out t = out_of keeping b kana t

  abbrev rest_of : List ℕ → List ℕ
  rest_of t = (cut keeping b t).rest

  -- ---- one place of a text r

  none_out : (r : List ℕ) → NextIs keeping b r None → (out r ≡ []) × (rest_of r ≡ r)
  unfolding out_of only_rest outgoing
  none_out r (ends h) = (rw (cut_end keeping b r h), ap (λ (c : Cutting). c.rest) (cut_end keeping b r h) ∙ sym (nothing_left r h))
  none_out r (stays e) = (rw (cut_keeps keeping b r e), ap (λ (c : Cutting). c.rest) (cut_keeps keeping b r e))

  next_out : (r : List ℕ) (p : Piece) → NextIs keeping b r (Some p)
      → (out r ≡ out_by kana (get_or r 0 0) p.value ++ out (drop p.length r)) × (rest_of r ≡ rest_of (drop p.length r))
  unfolding out_of with_piece outgoing
  next_out r p (goes h g m l v) =
      let next = cut_next keeping b r h g (rw (← l) m) in
      (rw (next, l, v) (ap (λ (xs : List ℕ). xs ++ outgoing kana (cut keeping b (drop (length (piece_text (piece_at b r))) r)).pieces) (out_is kana b r)), ap (λ (c : Cutting). c.rest) next ∙ ap (λ (k : ℕ). rest_of (drop k r)) (sym l))

  next_within : (r : List ℕ) (p : Piece) → NextIs keeping b r (Some p) → (1 ≤ p.length) × (p.length ≤ length r)
  next_within r p (goes h g m l v) = (m, rw l (piece_within b r h))

  -- n is the length of the text t
  pub next_fits : (t : List ℕ) (at n : ℕ) → at ≤ length t → n ≡ length t → n < 2 ^ 64 → (o : Option Piece) → NextIs keeping b (drop at t) o → IfSome o (λ p. at + p.length < 2 ^ 64)
  next_fits t at n here size small None next = tt
  next_fits t at n here size small (Some p) next = omega (arith, next_within (drop at t) p next, length-drop at t)

  -- ---- how far the text was converted: to place `at`, and the labels `done` went out

  pub record Reached (t : List ℕ) (at : ℕ) (done : List ℕ) : Type 0 where
    pub to : at ≤ length t
    pub gone : out t ≡ done ++ out (drop at t)
    pub rest : rest_of t ≡ rest_of (drop at t)

  pub reached_start : (t : List ℕ) → Reached t 0 []
  reached_start t = record { to = omega arith; gone = refl; rest = refl }

  module _ (t : List ℕ) (at : ℕ) (done : List ℕ) (so_far : Reached t at done) where
    pub reached_stop : NextIs keeping b (drop at t) None → (out t ≡ done) × (rest_of t ≡ drop at t)
    reached_stop s = (so_far.gone ∙ ap (λ (xs : List ℕ). done ++ xs) (none_out (drop at t) s).0 ∙ append-nil done, so_far.rest ∙ (none_out (drop at t) s).1)

    module _ (p : Piece) (next : NextIs keeping b (drop at t) (Some p)) where
      abbrev piece : List ℕ
      piece = out_by kana (get_or t at 0) p.value

      left : (out (drop at t) ≡ piece ++ out (drop (at + p.length) t)) × (rest_of (drop at t) ≡ rest_of (drop (at + p.length) t))
      left =
          let (gone, rest) = next_out (drop at t) p next in
          let first : get_or (drop at t) 0 0 ≡ get_or t at 0 = get_or-drop at t 0 0 ∙ ap (λ (k : ℕ). get_or t k 0) (add-zero at) in
          (gone ∙ ap₂ (λ (x : ℕ) (r : List ℕ). out_by kana x p.value ++ out r) first (drop-drop p.length at t), rest ∙ ap rest_of (drop-drop p.length at t))

      -- the piece lies in the text
      pub reached_within : (at < length t) × (at + p.length ≤ length t) × (1 ≤ p.length)
      reached_within = let w = next_within (drop at t) p next in (omega (arith, w.0, w.1, length-drop at t), omega (arith, w.0, w.1, length-drop at t), w.0)

      pub reached_next : Reached t (at + p.length) (done ++ piece)
      reached_next = record {
        to = reached_within.1;
        gone = so_far.gone ∙ ap (λ (xs : List ℕ). done ++ xs) left.0 ∙ sym (append_assoc done piece (out (drop (at + p.length) t)));
        rest = so_far.rest ∙ left.1;
      }

      -- what goes out in all is at least what went out with this piece
      pub reached_most : length done + length piece ≤ length (out t)
      reached_most = omega (arith, ap length reached_next.gone, length-append (done ++ piece) (out (drop (at + p.length) t)), length-append done piece)
