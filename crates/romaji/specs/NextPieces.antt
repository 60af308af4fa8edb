-- The piece at a place of the text, as the code finds it: by a query of the first bytes from there on.
-- No key is longer than the bytes looked at, and a text of which more is left than can be kept is not kept.
use Rattle.std.specs.Prelude.{ℕ, ◌+◌, ◌-◌, ◌*◌, ◌^◌, ◌/◌, ◌%◌, ◌≤◌, ◌<◌, min, ◌≡◌, Bool, ◌&&◌, take, drop, get_or, Option, Some, None}
use Rattle.std.proofs.Common.{arith, ◌∙◌, true≢false, length-drop, take_all, length-take-le, Fits}
use Rattle.std.proofs.Math.Path.{refl, sym, ap}
use Rattle.std.proofs.Math.Bool.{true, false}
use mathlib.Core.List.{List, [], ◌∷◌, ◌++◌}
use Rattle.std.proofs.Math.ListN.{length, length-take}
use Rattle.std.proofs.lemmas.List.{take-append-le}
use Rattle.std.proofs.Math.Dec.{leb}
use Rattle.std.specs.Int.{w64}
use Rattle.std.proofs.Common.{drop-drop}
use borrow.Rule.Slice.PartMut.{put_mid}
use borrow.Author.Tests.{leb-true}
use Rattle.lxtr_spec.specs.Numbers.{be32, be_bytes, be_words}
use Rattle.lxtr_spec.specs.Labels.{max_labels, labels_of}
use Rattle.std.specs.Prelude.{Result, Ok, Err}
use Rattle.std.specs.Borrow.{Bor}
use Rattle.std.specs.Result.{result_unwrap_or}
use Rattle.lxtr_spec.specs.Answers.{refusal_of}
use Rattle.lxtr_spec.specs.declared.refusals.Refusal.{Refusal}
use Rattle.lxtr_search.specs.Answers.{part_given}
use Rattle.lxtr_spec.specs.Searches.{LongestAnswer, case_value, case_longer, lookup_of, longest_length, longest_of}
use Rattle.lxtr_laws.specs.QueryLabels.{label_count_lem, label_read}
use Rattle.lxtr_laws.specs.ReadBack.{be_back}
use Rattle.lxtr_laws.specs.ByteOrders.{big, words_size, words_one}
use Rattle.lxtr_laws.specs.Overlays.{over}
use Rattle.romaji_spec.specs.KanaTables.{text_bytes, kana_of}
use Rattle.romaji_spec.specs.Pieces.{max_kept, could_grow, matched, matched_value, piece_by, piece_at, piece_text, piece_out}
use Rattle.romaji_spec.specs.Typing.{is_value, has_empty_key}
use Rattle.romaji_laws.specs.Steps.{Keeps, GoesOn}
use Rattle.romaji.specs.declared.pieces.Piece.{Piece}
use Rattle.romaji.specs.Tables.{take_least}

-- ---- the longest key at the front of a query

-- the length of a piece by its value: of the key that has m bytes as a query, or of one byte
abbrev pub size_by : ℕ → Option ℕ → ℕ
size_by m None = 1
size_by m (Some v) = m / 4

-- what was found
pub record Looked (b q : List ℕ) (p : Piece) : Type 0 where
  pub value : p.value ≡ case_value (lookup_of b (longest_of b q).part).case
  pub size : p.length ≡ size_by (length (longest_of b q).part) p.value
  pub moves : 1 ≤ p.length

-- what `longest` hands back, or an empty part if it refuses
pub longest_part : (b q : List ℕ) (r : Result (Bor (List ℕ)) Refusal) → ◌≡◌ {A = LongestAnswer} (record { refusal = refusal_of r; part = part_given r }) (longest_of b q)
    → (p other : Bor (List ℕ)) → other.now ≡ [] → p ≡ result_unwrap_or r other → p.now ≡ (longest_of b q).part
longest_part b q (Ok x) known p other none e = rw e (ap (λ (a : LongestAnswer). a.part) known)
longest_part b q (Err x) known p other none e = rw (e, none) (ap (λ (a : LongestAnswer). a.part) known)

-- part is what `longest` handed back, and f the value that a lookup gives for it
module _ (b q : List ℕ) (no_empty : has_empty_key b ≡ false) (whole : length q % 4 ≡ 0) (part : List ℕ) (longest : part ≡ (longest_of b q).part)
    (f : Option ℕ) (value : f ≡ case_value (lookup_of b part).case) where
  is_value_lem : f ≡ case_value (lookup_of b (longest_of b q).part).case
  is_value_lem = value ∙ ap (λ (p : List ℕ). case_value (lookup_of b p).case) longest

  pub looked_none : f ≡ None → Looked b q (record { length = 1; value = None })
  looked_none h = record { value = sym h ∙ is_value_lem; size = refl; moves = omega arith }

  -- the part is whole labels, as the query is
  part_size : 1 ≤ length part → 4 ≤ length part
  unfolding longest_of
  part_size h = omega (arith, ap length longest, length-take (4 * longest_length b q) q)

  pub looked_some : (v : ℕ) → f ≡ Some v → Looked b q (record { length = length part / 4; value = Some v })
  unfolding has_empty_key is_value
  looked_some v h = record {
    value = sym h ∙ is_value_lem;
    size = ap (λ (p : List ℕ). length p / 4) longest;
    moves = go part refl value;
  }
    where
      go : (p : List ℕ) → part ≡ p → f ≡ case_value (lookup_of b part).case → 1 ≤ length part / 4
      go [] z g = absurd (true≢false (sym (ap is_value (sym (rw (z, h) at g))) ∙ no_empty))
      go (x ∷ p) z g = let s : 1 ≤ length part = rw z (omega arith) in omega (arith, part_size s)

-- ---- the piece at the front of a query, and at a place of the text

-- none: it is kept back
pub data FrontIs (keeping : Bool) (b q : List ℕ) : Option Piece → Type 0 where
  waits : (keeping && case_longer (lookup_of b q).case) ≡ true → FrontIs keeping b q None
  looked : {p : Piece} → (keeping && case_longer (lookup_of b q).case) ≡ false → Looked b q p → FrontIs keeping b q (Some p)

-- r is the text from the place on; none: there is no more of it, or it is kept back
pub data NextIs (keeping : Bool) (b r : List ℕ) : Option Piece → Type 0 where
  ends : length r ≤ 0 → NextIs keeping b r None
  stays : Keeps keeping b r → NextIs keeping b r None
  goes : {p : Piece} → 1 ≤ length r → GoesOn keeping b r → 1 ≤ p.length → p.length ≡ length (piece_text (piece_at b r)) → p.value ≡ matched_value b r → NextIs keeping b r (Some p)

-- w is what the code's test returned
module _ (keeping : Bool) (b q : List ℕ) (w : Bool) (known : w ≡ (keeping && case_longer (lookup_of b q).case)) where
  pub front_waits : w ≡ true → FrontIs keeping b q None
  front_waits h = waits (sym known ∙ h)

  pub front_goes : (p : Piece) → w ≡ false → Looked b q p → FrontIs keeping b q (Some p)
  front_goes p h l = looked (sym known ∙ h) l

-- the bytes of a text from a place on, as a query at the front of an array
query_part : (z xs q : List ℕ) (m : ℕ) → q ≡ over z 0 (be_words xs) → m ≡ length xs → take (4 * m) q ≡ be_words xs
unfolding over
query_part z xs q m e h = rw e (take-append-le (4 * m) (be_words xs) (drop (0 + length (be_words xs)) z) (omega (arith, words_size big xs)) ∙ take_all (4 * m) (be_words xs) (omega (arith, words_size big xs)))

module _ (b r : List ℕ) where
  abbrev query : List ℕ
  query = be_words (take max_labels r)

  -- the piece of the text is as long as what was found
  size_by_lem : (m n : ℕ) (o : Option ℕ) → m / 4 ≤ length r → n ≡ size_by m o → n ≡ length (piece_text (piece_by r (m / 4) o))
  unfolding piece_by piece_text
  size_by_lem m n None h e = e
  size_by_lem m n (Some v) h e = e ∙ sym (length-take-le (m / 4) r h)

  few_matched : length (matched b r) / 4 ≤ length r
  unfolding matched longest_of
  few_matched = omega (arith, length-take (4 * longest_length b query) query, words_size big (take max_labels r), length-take max_labels r)

  -- a text of which more is left than can be kept does not grow; otherwise all of it is looked at
  grows_by : (keeping : Bool) → (keeping && could_grow b r) ≡ ((keeping && leb (length r) max_kept) && case_longer (lookup_of b query).case)
  unfolding could_grow max_kept
  grows_by false = refl
  grows_by true = go (leb (length r) max_kept) refl
    where
      go : (t : Bool) → leb (length r) max_kept ≡ t → (t && case_longer (lookup_of b (be_words r)).case) ≡ (t && case_longer (lookup_of b query).case)
      go false e = refl
      go true e = ap (λ (xs : List ℕ). case_longer (lookup_of b (be_words xs)).case) (sym (take_all max_labels r (omega (arith, leb-true (length r) max_kept e))))

  next_is : (keeping : Bool) (o : Option Piece) → 1 ≤ length r → FrontIs (keeping && leb (length r) max_kept) b query o → NextIs keeping b r o
  unfolding piece_at matched_value matched
  next_is keeping None some (waits e) = stays (grows_by keeping ∙ e)
  next_is keeping (Some p) some (looked e l) =
      goes some (grows_by keeping ∙ e) l.moves (size_by_lem (length (matched b r)) p.length (matched_value b r) few_matched (l.size ∙ ap (size_by (length (matched b r))) l.value)) l.value

-- t is the text, m how many bytes are looked at, q the array with the query of them
module _ (t : List ℕ) (at m k : ℕ) (z q : List ℕ) (here : at < length t) (count : m ≡ min (length t - at) max_labels) (same : k ≡ m) (put : q ≡ over z 0 (be_words (take k (drop at t)))) where
  abbrev rest : List ℕ
  rest = drop at t

  is_query : take (4 * m) q ≡ be_words (take m rest)
  is_query = query_part z (take m rest) q m (rw same at put) (omega (arith, length-take m rest, length-drop at t))

  pub looks_whole : length (take (4 * m) q) % 4 ≡ 0
  looks_whole = omega (arith, ap length is_query, words_size big (take m rest))

  pub next_found : (keeping : Bool) (b : List ℕ) (o : Option Piece) → FrontIs (keeping && leb (length t - at) max_kept) b (take (4 * m) q) o → NextIs keeping b rest o
  next_found keeping b o f =
      let first : take m rest ≡ take max_labels rest = take_least rest m max_labels (omega (arith, length-drop at t)) in
      next_is b rest keeping o (omega (arith, length-drop at t)) (rw (length-drop at t, ← first, ← is_query) f)

-- ---- what goes out for a piece

-- by its value, or by the byte x
unfoldable pub out_by : List ℕ → ℕ → Option ℕ → List ℕ
out_by kana x None = x ∷ []
out_by kana x (Some v) = kana_of kana v

out_by_lem : (kana r : List ℕ) (n : ℕ) (o : Option ℕ) → piece_out kana (piece_by r n o) ≡ out_by kana (get_or r 0 0) o
unfolding piece_out piece_by out_by
out_by_lem kana r n None = refl
out_by_lem kana r n (Some v) = refl

pub out_is : (kana b r : List ℕ) → piece_out kana (piece_at b r) ≡ out_by kana (get_or r 0 0) (matched_value b r)
unfolding piece_at
out_is kana b r = out_by_lem kana r (length (matched b r) / 4) (matched_value b r)

-- f is the value, p the text of it in the table
module _ (kana : List ℕ) (f : Option ℕ) (x : ℕ) where
  module _ (v : ℕ) (p : List ℕ) (is : f ≡ Some v) (text : p ≡ text_bytes kana v) where
    text_out : labels_of p ≡ out_by kana x f
    unfolding out_by kana_of
    text_out = rw (is, text)

    pub text_count : (n : ℕ) → n ≡ length (labels_of p) → n ≡ length (out_by kana x f)
    text_count n e = e ∙ ap length text_out

    module _ (at : ℕ) (room : List ℕ) (large : 4 * (at + length (out_by kana x f)) ≤ length room) where
      pub text_room : 4 * (at + length (labels_of p)) ≤ length room
      text_room = rw text_out large

      pub text_after : (n : ℕ) → n ≡ length (labels_of p) → at + n ≡ at + length (out_by kana x f)
      text_after n e = ap (λ (k : ℕ). at + k) (text_count n e)

      pub text_fits : (n : ℕ) → n ≡ length (labels_of p) → Fits w64 (length room) → Fits w64 (at + n)
      text_fits n e f = omega (arith, text_count n e)

      pub text_put : (room' : List ℕ) → room' ≡ over room (4 * at) (be_words (labels_of p)) → room' ≡ over room (4 * at) (be_words (out_by kana x f))
      text_put room' e = rw (← text_out) e

  module _ (is : f ≡ None) where
    byte_out : out_by kana x f ≡ x ∷ []
    unfolding out_by
    byte_out = rw is

    pub byte_count : 1 ≡ length (out_by kana x f)
    byte_count = sym (ap length byte_out)

    module _ (at : ℕ) (room : List ℕ) (large : 4 * (at + length (out_by kana x f)) ≤ length room) where
      pub byte_room : 4 * at + 4 ≤ length room
      byte_room = omega (arith, byte_count)

      pub byte_after : at + 1 ≡ at + length (out_by kana x f)
      byte_after = ap (λ (k : ℕ). at + k) byte_count

      pub byte_put : (room' : List ℕ) → room' ≡ over room (4 * at) (be_bytes x) → room' ≡ over room (4 * at) (be_words (out_by kana x f))
      byte_put room' e = e ∙ ap (over room (4 * at)) (sym (ap be_words byte_out ∙ words_one big x))

-- ---- the labels of a text are its bytes
module _ (text : List ℕ) (small : (i : ℕ) → i < length text → get_or text i 0 < 2 ^ 8) where
  text_labels : text ≡ be_words (labels_of text) ++ drop (4 * length (labels_of text)) text
  text_labels = be_back (labels_of text) text small (omega (arith, label_count_lem text)) (λ j h. label_read text j h (be32 text (4 * j)) refl)

  pub label_bytes : take (4 * length (labels_of text)) text ≡ be_words (labels_of text)
  label_bytes =
      let n = 4 * length (labels_of text) in
      ap (take n) text_labels ∙ take-append-le n (be_words (labels_of text)) (drop n text) (omega (arith, words_size big (labels_of text))) ∙ take_all n (be_words (labels_of text)) (omega (arith, words_size big (labels_of text)))

  -- n labels are copied to the place a of the room
  pub text_copied : (room : List ℕ) (a n k : ℕ) → n ≡ length (labels_of text) → k ≡ 4 * n → (ys : List ℕ) → ys ≡ take (4 * n) text → put_mid a k room ys ≡ over room a (be_words (labels_of text))
  unfolding over
  text_copied room a n k count size ys e =
      let all : ys ≡ be_words (labels_of text) = e ∙ ap (λ (m : ℕ). take (4 * m) text) count ∙ label_bytes in
      let end : k ≡ length (be_words (labels_of text)) = omega (arith, words_size big (labels_of text)) in
      rw (all, end) (ap (λ (zs : List ℕ). take a room ++ (be_words (labels_of text) ++ zs)) (drop-drop (length (be_words (labels_of text))) a room))
