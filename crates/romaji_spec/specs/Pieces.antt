-- Document 02, request 1: how a text of typed bytes is cut into pieces and a rest. Each byte is the label of its number, so a text is
-- looked up as the query of those labels.
use Rattle.std.specs.Prelude.{ℕ, zero, suc, ◌-◌, ◌/◌, List, [], ◌∷◌, ◌++◌, Bool, true, false, ◌&&◌, length, take, get_or, leb, Option, Some, None}
use Rattle.lxtr_spec.specs.Numbers.{be_words}
use Rattle.lxtr_spec.specs.Labels.{max_labels}
use Rattle.lxtr_spec.specs.Searches.{case_value, case_longer, lookup_of, longest_of}
use Rattle.romaji_spec.specs.KanaTables.{kana_of}

-- the most bytes that are kept back: a proper front part of a key has at least one label less than a key may have
unfoldable pub max_kept : ℕ
max_kept = max_labels - 1

-- a rest that could still grow, being a proper front part of a key: its lookup says that longer keys exist. (The bound takes
-- nothing away: a longer rest is no proper front part of a key.)
unfoldable pub could_grow : List ℕ → List ℕ → Bool
could_grow b r = leb (length r) max_kept && case_longer (lookup_of b (be_words r)).case

-- a piece of the text: a key, with its value; or a byte that passes
pub data Piece : Type 0 where
  key : List ℕ → ℕ → Piece
  byte : ℕ → Piece

-- At each place the longest matching key wins: the longest match, as a query. (No key has more labels than are looked at.)
unfoldable pub matched : List ℕ → List ℕ → List ℕ
matched b r = (longest_of b (be_words (take max_labels r))).part

-- its value, or none if no key matches. (An image with the empty key is refused.)
unfoldable pub matched_value : List ℕ → List ℕ → Option ℕ
matched_value b r = case_value (lookup_of b (matched b r)).case

-- a byte at which no key matches passes through
unfoldable pub piece_by : List ℕ → ℕ → Option ℕ → Piece
piece_by r n None = byte (get_or r 0 0)
piece_by r n (Some v) = key (take n r) v

unfoldable pub piece_at : List ℕ → List ℕ → Piece
piece_at b r = piece_by r (length (matched b r) / 4) (matched_value b r)

-- the bytes of a piece
unfoldable pub piece_text : Piece → List ℕ
piece_text (key k v) = k
piece_text (byte x) = x ∷ []

-- its kana goes out; .. as the label of that number: the labels that go out for a piece, and for several
unfoldable pub piece_out : List ℕ → Piece → List ℕ
piece_out kana (key k v) = kana_of kana v
piece_out kana (byte x) = x ∷ []

unfoldable pub outgoing : List ℕ → List Piece → List ℕ
outgoing kana [] = []
outgoing kana (p ∷ ps) = piece_out kana p ++ outgoing kana ps

-- a text cut into pieces and a rest that is kept back
pub record Cutting : Type 0 where
  pub pieces : List Piece
  pub rest : List ℕ

unfoldable pub only_rest : List ℕ → Cutting
only_rest r = record { pieces = []; rest = r }

unfoldable pub with_piece : Piece → Cutting → Cutting
with_piece p c = record { pieces = p ∷ c.pieces; rest = c.rest }

-- A rest that could still grow is kept back until more comes (`keeping`) or the clerk finishes.
unfoldable pub kept_or : Bool → List ℕ → Cutting → Cutting
kept_or true r later = only_rest r
kept_or false r later = later

-- the cutting of a text after its first k bytes, which belong to the piece before
unfoldable pub cut_after : Bool → List ℕ → ℕ → List ℕ → Cutting
cut_after keeping b k [] = only_rest []
cut_after keeping b (suc k) (x ∷ r) = cut_after keeping b k r
cut_after keeping b zero (x ∷ r) =
    let p = piece_at b (x ∷ r) in
    let later = with_piece p (cut_after keeping b (length (piece_text p) - 1) r) in
    kept_or (keeping && could_grow b (x ∷ r)) (x ∷ r) later

-- the cutting of the whole text
unfoldable pub cut : Bool → List ℕ → List ℕ → Cutting
cut keeping b text = cut_after keeping b 0 text
