-- How a text is cut into pieces and a rest, said of the set of pairs d and without a search. Only definitions; the proofs are in Laws/.
use Rattle.std.specs.Prelude.{ℕ, ◌≤◌, ◌≡◌, ◌⊎◌, List, [], ◌∷◌, ◌++◌, length}
use Rattle.lxtr_spec.specs.Sets.{PairSet, Has}
use Rattle.lxtr_spec.specs.Meaning.{Longer}
use Rattle.romaji_spec.specs.Pieces.{Piece, key, byte, piece_text}

-- no key is a front part of the text t
abbrev pub NoKeyAt : PairSet → List ℕ → Type 0
NoKeyAt d t = (k later : List ℕ) (v : ℕ) → t ≡ k ++ later → Has d k v → ⊥

-- k is the longest key that is a front part of the text t, and v is its value
pub record LongestKeyAt (d : PairSet) (t k : List ℕ) (v : ℕ) : Type 0 where
  pub is_key : Has d k v
  pub front : (later : List ℕ) × (t ≡ k ++ later)
  pub longest : (l later : List ℕ) (w : ℕ) → t ≡ l ++ later → Has d l w → length l ≤ length k

-- Each piece is the longest key at its place, or one byte at which no key matches: t is the text from this place on.
abbrev pub PieceAt : PairSet → List ℕ → Piece → Type 0
PieceAt d t (key k v) = LongestKeyAt d t k v
PieceAt d t (byte x) = NoKeyAt d t

-- the bytes of pieces, one after the other
unfoldable pub joined : List Piece → List ℕ
joined [] = []
joined (p ∷ ps) = piece_text p ++ joined ps

-- The text is cut into the pieces ps and a rest, where `Waits` says which texts are kept back.
pub record CutInto (d : PairSet) (Waits : List ℕ → Type 0) (text : List ℕ) (ps : List Piece) (rest : List ℕ) : Type 0 where
  pub parts : text ≡ joined ps ++ rest
  -- each piece is the longest key at its place, or one byte at which no key matches;
  pub pieces : (before : List Piece) (p : Piece) (after : List Piece) → ps ≡ before ++ p ∷ after → PieceAt d (joined (p ∷ after) ++ rest) p
  -- at no place before the rest was the remaining text one that is kept back;
  pub passed : (before : List Piece) (p : Piece) (after : List Piece) → ps ≡ before ++ p ∷ after → Waits (joined (p ∷ after) ++ rest) → ⊥
  -- the rest is empty or such a text.
  pub end : (rest ≡ []) ⊎ Waits rest

-- there is at most one such cutting
abbrev pub OneCut : PairSet → (List ℕ → Type 0) → Type 0
OneCut d Waits = (t : List ℕ) (ps qs : List Piece) (r r' : List ℕ) → CutInto d Waits t ps r → CutInto d Waits t qs r' → (ps ≡ qs) × (r ≡ r')

-- Typing keeps back a text that is a proper front part of a key.
abbrev pub TypedAs : PairSet → List ℕ → List Piece → List ℕ → Type 0
TypedAs d text ps rest = CutInto d (Longer d) text ps rest

-- Finishing keeps back none.
abbrev pub Never : List ℕ → Type 0
Never t = ⊥

abbrev pub FinishedAs : PairSet → List ℕ → List Piece → List ℕ → Type 0
FinishedAs d text ps rest = CutInto d Never text ps rest
