-- The piece at a place: it is not empty, there is one only, and it stays the same whatever follows a text that no key continues.
-- The keys that match there are front parts of one text, so of two of them one begins with the other.
use Rattle.std.specs.Prelude.{ℕ, ◌≤◌, ◌≡◌, length, None}
use native.Mathlib.Omega.{arith}
use Rattle.std.proofs.Math.Path.{sym, ap}
use Rattle.std.proofs.Common.{ap₂, ◌∙◌, ⊎_elim}
use mathlib.Core.List.{List, [], ◌∷◌, ◌++◌, append_assoc, append-nil, tail-eq_of_cons-eq, head-eq_of_cons-eq}
use Rattle.lxtr_spec.specs.Sets.{PairSet, Has}
use Rattle.lxtr_spec.specs.Meaning.{Longer}
use Rattle.lxtr_laws.specs.StepFacts.{none_not_some, some_same}
use Rattle.romaji_spec.specs.Pieces.{Piece, key, byte, piece_text}
use Rattle.romaji_demands.specs.Cuts.{PieceAt}
use Rattle.romaji_demands.specs.Laws.FrontParts.{fronts, same_fronts}

module _ (d : PairSet) where
  -- a key that continues r ++ u continues r
  pub longer_front : (r u : List ℕ) → Longer d (r ++ u) → Longer d r
  longer_front r [] l = rw append-nil at l
  longer_front r (x ∷ u) l = record { next = x; rest = u ++ l.next ∷ l.rest; value = l.value; is = rw append_assoc at l.is }

  module _ (r u : List ℕ) (ends : Longer d r → ⊥) where
    -- a key that matches at r ++ u matches at r
    matches_before : (l later : List ℕ) (w : ℕ) → r ++ u ≡ l ++ later → Has d l w → (m : List ℕ) × (r ≡ l ++ m)
    matches_before l later w e has = ⊎_elim
        (λ (f : (m : List ℕ) × (r ≡ l ++ m)). f)
        (λ (x, m, f). absurd (ends (record { next = x; rest = m; value = w; is = rw f at has })))
        (fronts r u l later e)

    pub piece_stays : (p : Piece) → PieceAt d r p → PieceAt d (r ++ u) p
    piece_stays (key k v) is = record {
      is_key = is.is_key;
      front = let (later, e) = is.front in (later ++ u, ap (λ (t : List ℕ). t ++ u) e ∙ append_assoc k later u);
      longest = λ l later w e has. let (m, f) = matches_before l later w e has in is.longest l m w f has;
    }
    piece_stays (byte x) is = λ l later w e has. let (m, f) = matches_before l later w e has in is l m w f has

  -- without the empty key a piece has a byte
  module _ (no_empty : d [] ≡ None) where
    pub piece_some : (t : List ℕ) (p : Piece) → PieceAt d t p → 1 ≤ length (piece_text p)
    unfolding piece_text
    piece_some t (key [] v) is = absurd (none_not_some (sym no_empty ∙ is.is_key))
    piece_some t (key (x ∷ k) v) is = omega arith
    piece_some t (byte x) is = omega arith

  -- two pieces at one place
  pub one_piece : (t : List ℕ) (p q : Piece) (later later' : List ℕ) → PieceAt d t p → PieceAt d t q → t ≡ piece_text p ++ later → t ≡ piece_text q ++ later'
      → (p ≡ q) × (later ≡ later')
  unfolding piece_text
  one_piece t (key k v) (key l w) later later' is is' e f =
      let up = is.longest l later' w f is'.is_key in
      let down = is'.longest k later v e is.is_key in
      let (same, rest) = same_fronts k later l later' (sym e ∙ f) (omega arith) in
      let value : v ≡ w = some_same (sym is.is_key ∙ ap d same ∙ is'.is_key) in
      (ap₂ key same value, rest)
  one_piece t (key k v) (byte y) later later' is is' e f = absurd (is' k later v e is.is_key)
  one_piece t (byte x) (key l w) later later' is is' e f = absurd (is l later' w f is'.is_key)
  one_piece t (byte x) (byte y) later later' is is' e f =
      let g : x ∷ later ≡ y ∷ later' = sym e ∙ f in
      (ap byte (head-eq_of_cons-eq g), tail-eq_of_cons-eq g)
