-- The definitions cut a text as the set of pairs says, whether a rest is kept back or not.
-- By induction over the length: each step puts the piece that was found before the cutting of what comes after it.
use Rattle.std.specs.Prelude.{ℕ, zero, suc, ◌≤◌, ◌≡◌, ◌↔◌, Bool, ◌&&◌, length, None}
use Rattle.std.proofs.Common.{arith, sym, ◌∙◌, inl, inr, length-drop}
use Rattle.std.proofs.Math.Path.{refl}
use mathlib.Core.List.{List, [], ◌∷◌}
use Rattle.std.proofs.Math.Bool.{true, false, true≢false}
use Rattle.std.proofs.lemmas.Bool.{false≢true}
use Rattle.std.proofs.Math.ListN.{drop}
use Rattle.lxtr_spec.specs.Sets.{PairSet, ImageOf}
use Rattle.lxtr_spec.specs.Meaning.{Longer}
use Rattle.romaji_spec.specs.Pieces.{could_grow, piece_at, piece_text, Cutting, only_rest, with_piece, cut}
use Rattle.romaji_laws.specs.Steps.{Keeps, cut_end, cut_keeps, cut_next}
use Rattle.romaji_demands.specs.Cuts.{CutInto, Never}
use Rattle.romaji_demands.specs.TypingDemand.{Bytes}
use Rattle.romaji_demands.specs.Laws.FrontParts.{bytes_drop}
use Rattle.romaji_demands.specs.Laws.Pieces.{piece_some}
use Rattle.romaji_demands.specs.Laws.Cuts.{only_rest_lem, first_cut}
use Rattle.romaji_demands.specs.Laws.Found.{grows, piece_found}

-- the test says which texts are kept back
abbrev pub KeptBack : List ℕ → Bool → (List ℕ → Type 0) → Type 0
KeptBack b keeping Waits = (r : List ℕ) → Bytes r → Keeps keeping b r ↔ Waits r

-- typing keeps back the proper front parts of keys, finishing nothing
pub typing_keeps : {b : List ℕ} {d : PairSet} → ImageOf b d → KeptBack b true (Longer d)
typing_keeps = grows

pub finishing_keeps : (b : List ℕ) → KeptBack b false Never
finishing_keeps b r small = (λ e. false≢true e, λ w. absurd w)

module _ {b : List ℕ} {d : PairSet} (image : ImageOf b d) (no_empty : d [] ≡ None) (keeping : Bool) (Waits : List ℕ → Type 0) (kept : KeptBack b keeping Waits) where
  -- the text is cut so
  abbrev CutAs : List ℕ → Cutting → Type 0
  CutAs t c = CutInto d Waits t c.pieces c.rest

  -- at a place with a text, given the cutting of what comes after the piece there
  cut_at : (r : List ℕ) → 1 ≤ length r → Bytes r → ((n : ℕ) → 1 ≤ n → CutAs (drop n r) (cut keeping b (drop n r))) → CutAs r (cut keeping b r)
  unfolding only_rest with_piece
  cut_at r some-text small later = go (keeping && could_grow b r) refl
    where
      go : (t : Bool) → (keeping && could_grow b r) ≡ t → CutAs r (cut keeping b r)
      go true e = rw (cut_keeps keeping b r e) (only_rest_lem d Waits r (inr ((kept r small).0 e)))
      go false e =
          let f = piece_found image no_empty r small some-text in
          let size = piece_some d no_empty r (piece_at b r) f.piece in
          let after = drop (length (piece_text (piece_at b r))) r in
          let c = cut keeping b after in
          rw (cut_next keeping b r some-text e size) (first_cut d Waits r (piece_at b r) c.pieces c.rest (record {
            later = after;
            parts = f.parts;
            piece = f.piece;
            passed = λ w. true≢false (sym ((kept r small).1 w) ∙ e);
            then = later (length (piece_text (piece_at b r))) size;
          }))

  cut_empty : CutAs [] (cut keeping b [])
  unfolding only_rest
  cut_empty = rw (cut_end keeping b [] (omega arith)) (only_rest_lem d Waits [] (inl refl))

  cut_within : (n : ℕ) (t : List ℕ) → length t ≤ n → Bytes t → CutAs t (cut keeping b t)
  cut_within zero [] h small = cut_empty
  cut_within (suc n) [] h small = cut_empty
  cut_within zero (x ∷ t) h small = absurd (omega arith)
  cut_within (suc n) (x ∷ t) h small = cut_at (x ∷ t) (omega arith) small (λ m l. cut_within n (drop m (x ∷ t)) (omega (arith, length-drop m (x ∷ t))) (bytes_drop m (x ∷ t) small))

  pub cut_is : (t : List ℕ) → Bytes t → CutAs t (cut keeping b t)
  cut_is t small = cut_within (length t) t (omega arith) small
