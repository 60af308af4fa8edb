-- A cutting, one piece at a time: by its first piece and the cutting of what comes after it. So there is one only, and the cuttings of
-- a text and of the rest with what follows make one cutting of the whole.
use Rattle.std.specs.Prelude.{ℕ, ◌≡◌, ◌⊎◌, None}
use Rattle.std.proofs.Common.{arith, ap₂, ◌∙◌, subst₂}
use Rattle.std.proofs.Math.Path.{refl, sym, ap}
use Rattle.std.proofs.Math.Logic.{⊎_elim}
use mathlib.Core.List.{List, [], ◌∷◌, ◌++◌, append_assoc, tail-eq_of_cons-eq, head-eq_of_cons-eq, nil≢cons}
use Rattle.std.proofs.Math.ListN.{length, length-append}
use Rattle.lxtr_spec.specs.Sets.{PairSet}
use Rattle.lxtr_spec.specs.Meaning.{Longer}
use Rattle.romaji_spec.specs.Pieces.{Piece, piece_text}
use Rattle.romaji_demands.specs.Cuts.{PieceAt, joined, CutInto, OneCut}
use Rattle.romaji_demands.specs.Laws.Pieces.{piece_stays, piece_some, one_piece}

-- the cutting of a text that begins with the piece p
pub record FirstCut (d : PairSet) (Waits : List ℕ → Type 0) (text : List ℕ) (p : Piece) (ps : List Piece) (rest : List ℕ) : Type 0 where
  pub later : List ℕ
  pub parts : text ≡ piece_text p ++ later
  pub piece : PieceAt d text p
  pub passed : Waits text → ⊥
  pub then : CutInto d Waits later ps rest

module _ (d : PairSet) (Waits : List ℕ → Type 0) where
  pub cut_first : (text : List ℕ) (p : Piece) (ps : List Piece) (rest : List ℕ) → CutInto d Waits text (p ∷ ps) rest → FirstCut d Waits text p ps rest
  unfolding joined
  cut_first text p ps rest c = record {
    later = joined ps ++ rest;
    parts = c.parts ∙ append_assoc (piece_text p) (joined ps) rest;
    piece = rw c.parts (c.pieces [] p ps refl);
    passed = λ w. c.passed [] p ps refl (rw c.parts at w);
    then = record {
      parts = refl;
      pieces = λ before q after e. c.pieces (p ∷ before) q after (ap (λ (l : List Piece). p ∷ l) e);
      passed = λ before q after e. c.passed (p ∷ before) q after (ap (λ (l : List Piece). p ∷ l) e);
      end = c.end;
    };
  }

  -- what holds of the first piece and those after it, and at each later place, holds at each place
  at_each : (P : Piece → List Piece → Type 0) (p : Piece) (ps : List Piece) → P p ps → ((before : List Piece) (q : Piece) (after : List Piece) → ps ≡ before ++ q ∷ after → P q after)
      → (before : List Piece) (q : Piece) (after : List Piece) → p ∷ ps ≡ before ++ q ∷ after → P q after
  at_each P p ps h later [] q after e = subst₂ P (head-eq_of_cons-eq e) (tail-eq_of_cons-eq e) h
  at_each P p ps h later (z ∷ before) q after e = later before q after (tail-eq_of_cons-eq e)

  pub first_cut : (text : List ℕ) (p : Piece) (ps : List Piece) (rest : List ℕ) → FirstCut d Waits text p ps rest → CutInto d Waits text (p ∷ ps) rest
  unfolding joined
  first_cut text p ps rest c =
      let whole : text ≡ joined (p ∷ ps) ++ rest = c.parts ∙ ap (λ (l : List ℕ). piece_text p ++ l) c.then.parts ∙ sym (append_assoc (piece_text p) (joined ps) rest) in
      record {
        parts = whole;
        pieces = at_each (λ q after. PieceAt d (joined (q ∷ after) ++ rest) q) p ps (rw whole at c.piece) c.then.pieces;
        passed = at_each (λ q after. Waits (joined (q ∷ after) ++ rest) → ⊥) p ps (rw whole at c.passed) c.then.passed;
        end = c.then.end;
      }

  pub only_rest_lem : (rest : List ℕ) → (rest ≡ []) ⊎ Waits rest → CutInto d Waits rest [] rest
  unfolding joined
  only_rest_lem rest e = record {
    parts = refl;
    pieces = λ before p after e. absurd (no_place before p after e);
    passed = λ before p after e. absurd (no_place before p after e);
    end = e;
  }
    where
      no_place : (before : List Piece) (p : Piece) (after : List Piece) → [] ≡ before ++ p ∷ after → ⊥
      no_place [] p after e = nil≢cons e
      no_place (q ∷ before) p after e = nil≢cons e

  -- without the empty key there is one cutting
  module _ (no_empty : d [] ≡ None) where
    -- a text cut into no piece is not cut into a piece
    stops : (t : List ℕ) (q : Piece) (qs : List Piece) (r r' : List ℕ) → CutInto d Waits t [] r → CutInto d Waits t (q ∷ qs) r' → ⊥
    unfolding joined
    stops t q qs r r' c c' =
        let f = cut_first t q qs r' c' in
        ⊎_elim
        (λ e. omega (arith, piece_some d no_empty t q f.piece, ap length (sym f.parts ∙ c.parts ∙ e), length-append (piece_text q) f.later))
        (λ w. f.passed (rw c.parts w))
        c.end

    pub one_cut : OneCut d Waits
    unfolding joined
    one_cut t [] [] r r' c c' = (refl, sym c.parts ∙ c'.parts)
    one_cut t [] (q ∷ qs) r r' c c' = absurd (stops t q qs r r' c c')
    one_cut t (p ∷ ps) [] r r' c c' = absurd (stops t p ps r' r c' c)
    one_cut t (p ∷ ps) (q ∷ qs) r r' c c' =
        let f = cut_first t p ps r c in
        let g = cut_first t q qs r' c' in
        let (same, after) = one_piece d t p q f.later g.later f.piece g.piece f.parts g.parts in
        let (pieces, rest) = one_cut f.later ps qs r r' f.then (rw (← after) at g.then) in
        (ap₂ {C = List Piece} (λ (x : Piece) (l : List Piece). x ∷ l) same pieces, rest)

-- A place that was passed had a text that no key continues. So whatever follows, the longest key there is the same, and, if only
-- beginnings of keys wait, the place is passed again.
module _ (d : PairSet) (Waits : List ℕ → Type 0) (begins : (r u : List ℕ) → Waits (r ++ u) → Longer d r) (rest u : List ℕ) (qs : List Piece) (rest' : List ℕ) (after : CutInto d Waits (rest ++ u) qs rest') where
  pub cut_then : (t : List ℕ) (ps : List Piece) → CutInto d (Longer d) t ps rest → CutInto d Waits (t ++ u) (ps ++ qs) rest'
  unfolding joined
  cut_then t [] c = rw c.parts after
  cut_then t (p ∷ ps) c =
      let f = cut_first d (Longer d) t p ps rest c in
      first_cut d Waits (t ++ u) p (ps ++ qs) rest' (record {
        later = f.later ++ u;
        parts = ap (λ (l : List ℕ). l ++ u) f.parts ∙ append_assoc (piece_text p) f.later u;
        piece = piece_stays d t u f.passed p f.piece;
        passed = λ w. f.passed (begins t u w);
        then = cut_then f.later ps f.then;
      })
