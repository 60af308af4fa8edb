-- The lines of a text by the places where they start, and the word of each.
use Prim.Native.Nat.{ℕ, zero, suc, ◌+◌, ◌-◌, ◌≤◌, ◌<◌}
use Rattle.std.specs.Prelude.{◌≡◌, refl, ◌≢◌, Bool, ◌&&◌, leb, eqb, get_or, drop, Option, Some, None}
use Rattle.std.specs.Option.{MatchOption, unwrap_or}
use denote.Bor.{Bor}
use lib.Pointwise.{pointwise}
use Rattle.std.specs.List.{position, position_or_len}
use Rattle.std.proofs.Math.Path.{sym, ap}
use Rattle.std.proofs.Common.{ap₂, ◌∙◌, le-leb, eq-eqb, ne_eqb, length-drop, drop_of_length-le, drop-cons, drop-drop, take_all}
use Rattle.std.proofs.Math.Bool.{true, false}
use mathlib.Core.List.{List, [], ◌∷◌, ◌++◌, append_assoc, append-nil}
use borrow.Author.Tests.{lt-ltb, le-ltb, eqb-false}
use Rattle.std.proofs.Common.{eqb-true}
use native.Mathlib.Omega.{arith}
use Rattle.std.proofs.Math.Decide.{dec_le, dec_lt, ℕ_discrete}
use Rattle.std.proofs.lemmas.Bool.{lt-leb}
use Rattle.std.proofs.Math.ListN.{length, take}
use Rattle.lxtr_command_spec.specs.WordLists.{line_feed, carriage_return, lines_from, lines_of, word_of}

-- what comes before the first line feed
unfoldable pub first_line : List ℕ → List ℕ
first_line [] = []
first_line (c ∷ t) = elim (eqb c line_feed) [ true ↦ [] | false ↦ c ∷ first_line t ]

-- the line that starts at a place, where it ends, and its word
unfoldable pub line_at : List ℕ → ℕ → List ℕ
line_at t at = first_line (drop at t)

unfoldable pub line_end : List ℕ → ℕ → ℕ
line_end t at = at + length (line_at t at)

unfoldable pub word_at : List ℕ → ℕ → List ℕ
word_at t at = word_of (line_at t at)

-- the lines that start at a place or after it; past the end of the text there is none
unfoldable pub lines_left : List ℕ → ℕ → List (List ℕ)
lines_left t at = elim (leb at (length t)) [ true ↦ lines_of (drop at t) | false ↦ [] ]

pub record LineTo (t : List ℕ) (at e : ℕ) : Type 0 where
  pub ends : e ≡ line_end t at
  pub from : at ≤ e
  pub within : e ≤ length t

-- ---- the first line

module _ (c : ℕ) (t : List ℕ) where
  first_feed : c ≡ line_feed → first_line (c ∷ t) ≡ []
  unfolding first_line
  first_feed e = ap (λ (b : Bool). elim b as (λ _. List ℕ) [ true ↦ [] | false ↦ c ∷ first_line t ]) (eq-eqb c line_feed e)

  first_on : c ≢ line_feed → first_line (c ∷ t) ≡ c ∷ first_line t
  unfolding first_line
  first_on e = ap (λ (b : Bool). elim b as (λ _. List ℕ) [ true ↦ [] | false ↦ c ∷ first_line t ]) (ne_eqb c line_feed e)

-- it is the front of the text
first_is : (t : List ℕ) → (length (first_line t) ≤ length t) × (first_line t ≡ take (length (first_line t)) t)
unfolding first_line
first_is [] = (omega arith, refl)
first_is (c ∷ t) = go (first_is t) (ℕ_discrete c line_feed)
  where
    go : (length (first_line t) ≤ length t) × (first_line t ≡ take (length (first_line t)) t) → Dec (c ≡ line_feed) → (length (first_line (c ∷ t)) ≤ suc (length t)) × (first_line (c ∷ t) ≡ take (length (first_line (c ∷ t))) (c ∷ t))
    go ih (yes e) = rw (first_feed c t e) (omega arith, refl)
    go ih (no e) = rw (first_on c t e) (omega arith, ap (λ (l : List ℕ). c ∷ l) ih.1)

-- ---- the lines left

module _ (t : List ℕ) (at : ℕ) where
  left_some : at ≤ length t → lines_left t at ≡ lines_of (drop at t)
  unfolding lines_left
  left_some h = ap (λ (b : Bool). elim b as (λ _. List (List ℕ)) [ true ↦ lines_of (drop at t) | false ↦ [] ]) (le-leb at (length t) h)

  pub left_none : length t < at → lines_left t at ≡ []
  unfolding lines_left
  left_none h = ap (λ (b : Bool). elim b as (λ _. List (List ℕ)) [ true ↦ lines_of (drop at t) | false ↦ [] ]) (lt-leb at (length t) h)

pub left_all : (t : List ℕ) → lines_of t ≡ lines_left t 0
left_all t = sym (left_some t 0 (omega arith))

-- the lines left of a part of the text
left_part : (t : List ℕ) (at i : ℕ) → at ≤ length t → lines_left (drop at t) i ≡ lines_left t (at + i)
left_part t at i h = go (dec_le i (length t - at))
  where
    go : Dec (i ≤ length t - at) → lines_left (drop at t) i ≡ lines_left t (at + i)
    go (yes l) = left_some (drop at t) i (omega (arith, length-drop at t)) ∙ ap lines_of (drop-drop i at t) ∙ sym (left_some t (at + i) (omega arith))
    go (no l) = left_none (drop at t) i (omega (arith, length-drop at t)) ∙ sym (left_none t (at + i) (omega arith))

-- a line that begins with p continues to the first line feed
module _ (p : List ℕ) (c : ℕ) (t : List ℕ) where
  abbrev lines : Bool → List (List ℕ)
  lines b = elim b as (λ _. List (List ℕ)) [ true ↦ p ∷ lines_from [] t | false ↦ lines_from (p ++ c ∷ []) t ]

  begun_feed : c ≡ line_feed → lines_from p (c ∷ t) ≡ (p ++ first_line (c ∷ t)) ∷ lines_left (c ∷ t) (length (first_line (c ∷ t)) + 1)
  unfolding lines_from lines_of
  begun_feed e = ap lines (eq-eqb c line_feed e) ∙ rw (first_feed c t e, append-nil) (ap (λ (ls : List (List ℕ)). p ∷ ls) (sym (left_some (c ∷ t) 1 (omega arith))))

  begun_on : c ≢ line_feed → lines_from (p ++ c ∷ []) t ≡ ((p ++ c ∷ []) ++ first_line t) ∷ lines_left t (length (first_line t) + 1)
      → lines_from p (c ∷ t) ≡ (p ++ first_line (c ∷ t)) ∷ lines_left (c ∷ t) (length (first_line (c ∷ t)) + 1)
  unfolding lines_from
  begun_on e ih =
      let n : 1 + (length (first_line t) + 1) ≡ suc (length (first_line t)) + 1 = omega arith in
      let front : (p ++ c ∷ []) ++ first_line t ≡ p ++ c ∷ first_line t = append_assoc p (c ∷ []) (first_line t) in
      let rest : lines_left t (length (first_line t) + 1) ≡ lines_left (c ∷ t) (suc (length (first_line t)) + 1) = left_part (c ∷ t) 1 (length (first_line t) + 1) (omega arith) ∙ ap (lines_left (c ∷ t)) n in
      ap lines (ne_eqb c line_feed e) ∙ ih ∙ rw (first_on c t e) (ap₂ {C = List (List ℕ)} (λ (l : List ℕ) (ls : List (List ℕ)). l ∷ ls) front rest)

begun : (p t : List ℕ) → lines_from p t ≡ (p ++ first_line t) ∷ lines_left t (length (first_line t) + 1)
unfolding lines_from lines_left first_line
begun p [] = rw append-nil refl
begun p (c ∷ t) = go (ℕ_discrete c line_feed) (begun (p ++ c ∷ []) t)
  where
    go : Dec (c ≡ line_feed) → lines_from (p ++ c ∷ []) t ≡ ((p ++ c ∷ []) ++ first_line t) ∷ lines_left t (length (first_line t) + 1)
        → lines_from p (c ∷ t) ≡ (p ++ first_line (c ∷ t)) ∷ lines_left (c ∷ t) (length (first_line (c ∷ t)) + 1)
    go (yes e) ih = begun_feed p c t e
    go (no e) ih = begun_on p c t e ih

pub left_more : (t : List ℕ) (at : ℕ) → at ≤ length t → lines_left t at ≡ line_at t at ∷ lines_left t (line_end t at + 1)
unfolding lines_of line_end line_at
left_more t at h =
    let n : at + (length (line_at t at) + 1) ≡ at + length (line_at t at) + 1 = omega arith in
    left_some t at h ∙ begun [] (drop at t) ∙ ap (λ (ls : List (List ℕ)). line_at t at ∷ ls) (left_part t at (length (line_at t at) + 1) h ∙ ap (lines_left t) n)

-- ---- the end of a line, by the place of the first line feed

feed_place : (l : List ℕ) → length (first_line l) ≡ position_or_len (λ b. eqb b line_feed) l
unfolding first_line
feed_place [] = refl
feed_place (c ∷ l) = go (ℕ_discrete c line_feed) (feed_place l)
  where
    go : Dec (c ≡ line_feed) → length (first_line l) ≡ position_or_len (λ b. eqb b line_feed) l → length (first_line (c ∷ l)) ≡ position_or_len (λ b. eqb b line_feed) (c ∷ l)
    go (yes e) ih = rw (first_feed c l e, eq-eqb c line_feed e) refl
    go (no e) ih = rw (first_on c l e, ne_eqb c line_feed e) (omega (arith, ih))

module _ (p : ℕ → Bool) (l : List ℕ) where
  of_position : (n : ℕ) → position p l ≡ Some n → (n < length l) × (position_or_len p l ≡ n)
  of_position n e = go (dec_lt (position_or_len p l) (length l))
    where
      go : Dec (position_or_len p l < length l) → (n < length l) × (position_or_len p l ≡ n)
      go (yes h) = let f : ◌≡◌ {A = Option ℕ} (Some (position_or_len p l)) (Some n) = rw (lt-ltb (position_or_len p l) (length l) h) at e in let g : position_or_len p l ≡ n = cc in (omega arith, g)
      go (no h) = let f : ◌≡◌ {A = Option ℕ} None (Some n) = rw (le-ltb (position_or_len p l) (length l) (omega arith)) at e in cc

  of_none : position p l ≡ None → length l ≤ position_or_len p l
  of_none e = go (dec_lt (position_or_len p l) (length l))
    where
      go : Dec (position_or_len p l < length l) → length l ≤ position_or_len p l
      go (yes h) = let f : ◌≡◌ {A = Option ℕ} (Some (position_or_len p l)) None = rw (lt-ltb (position_or_len p l) (length l) h) at e in cc
      go (no h) = omega arith

-- l is the rest of the text
module _ (l : List ℕ) where
  pub feed_found : (n : ℕ) → position (λ b. eqb b line_feed) l ≡ Some n → (n ≤ length l) × (take n l ≡ first_line l)
  feed_found n e =
      let (h, some) = of_position (λ b. eqb b line_feed) l n e in
      let k : length (first_line l) ≡ n = feed_place l ∙ some in
      (omega arith, rw (← k) (sym (first_is l).1))

  pub no_feed : position (λ b. eqb b line_feed) l ≡ None → l ≡ first_line l
  no_feed e =
      let h : length l ≤ length (first_line l) = rw feed_place (of_none (λ b. eqb b line_feed) l e) in
      sym ((first_is l).1 ∙ take_all (length (first_line l)) l h)

pub line_to : (t : List ℕ) (at : ℕ) → at ≤ length t → LineTo t at (at + length (line_at t at))
unfolding line_end line_at
line_to t at h = let k = (first_is (drop at t)).0 in record { ends = refl; from = omega arith; within = omega (arith, length-drop at t) }

-- past the end of the text the rest is empty
pub rest_past : (t : List ℕ) (at : ℕ) → length t < at → drop at t ≡ []
rest_past t at h = drop_of_length-le t (omega arith)

-- ---- the word of a line

-- n is the place of its last byte
word_cut : (l : List ℕ) (n : ℕ) → length l ≡ suc n → get_or l n 0 ≡ carriage_return → word_of l ≡ take n l
unfolding word_of
word_cut [] n h e = absurd (omega arith)
word_cut (c ∷ []) zero h e = rw (eq-eqb c carriage_return e)
word_cut (c ∷ []) (suc n) h e = absurd (omega arith)
word_cut (c ∷ d ∷ l) zero h e = absurd (omega arith)
word_cut (c ∷ d ∷ l) (suc n) h e = ap (λ (w : List ℕ). c ∷ w) (word_cut (d ∷ l) n (omega arith) e)

word_whole : (l : List ℕ) (n : ℕ) → length l ≡ suc n → get_or l n 0 ≢ carriage_return → word_of l ≡ l
unfolding word_of
word_whole [] n h e = absurd (omega arith)
word_whole (c ∷ []) zero h e = rw (ne_eqb c carriage_return e)
word_whole (c ∷ []) (suc n) h e = absurd (omega arith)
word_whole (c ∷ d ∷ l) zero h e = absurd (omega arith)
word_whole (c ∷ d ∷ l) (suc n) h e = ap (λ (w : List ℕ). c ∷ w) (word_whole (d ∷ l) n (omega arith) e)

-- the last byte of a line that has one
last_byte : (l : List ℕ) (n : ℕ) → length l ≡ suc n → drop (length l - 1) l ≡ get_or l n 0 ∷ []
last_byte l n h =
    let k : length l - 1 ≡ n = omega arith in
    rw k (drop-cons l n 0 (omega arith) ∙ ap (λ (m : List ℕ). get_or l n 0 ∷ m) (drop_of_length-le l {i = suc n} (omega arith)))

and_true : (b : Bool) → (b && true) ≡ b
and_true true = refl
and_true false = refl

-- what the library cuts off is a carriage return
module _ (line : Bor (List ℕ)) where
  whole_word : (l : List ℕ) → pointwise eqb (drop (length l - 1) l) (carriage_return ∷ []) ≡ false → l ≡ word_of l
  unfolding word_of
  whole_word [] e = refl
  whole_word (c ∷ l) e =
      let f : (eqb (get_or (c ∷ l) (length l) 0) carriage_return && true) ≡ false = rw (last_byte (c ∷ l) (length l) refl) at e in
      sym (word_whole (c ∷ l) (length l) refl (eqb-false (get_or (c ∷ l) (length l) 0) carriage_return (sym (and_true (eqb (get_or (c ∷ l) (length l) 0) carriage_return)) ∙ f)))

  cut_word : (l : List ℕ) → pointwise eqb (drop (length l - 1) l) (carriage_return ∷ []) ≡ true → take (length l - 1) l ≡ word_of l
  cut_word [] e = cc
  cut_word (c ∷ l) e =
      let f : (eqb (get_or (c ∷ l) (length l) 0) carriage_return && true) ≡ true = rw (last_byte (c ∷ l) (length l) refl) at e in
      let k : length (c ∷ l) - 1 ≡ length l = omega arith in
      rw k (sym (word_cut (c ∷ l) (length l) refl (eqb-true (get_or (c ∷ l) (length l) 0) carriage_return (sym (and_true (eqb (get_or (c ∷ l) (length l) 0) carriage_return)) ∙ f))))

  pub stripped : (r : Option (Bor (List ℕ)))
      → MatchOption r (pointwise eqb (drop (length line.now - 1) line.now) (carriage_return ∷ []) ≡ false)
      (λ x. (pointwise eqb (drop (length line.now - 1) line.now) (carriage_return ∷ []) ≡ true) × (x.now ≡ take (length line.now - 1) line.now) × (length x.now + 1 ≡ length line.now))
      → (unwrap_or r line).now ≡ word_of line.now
  stripped None e = whole_word line.now e
  stripped (Some x) e = e.1 ∙ cut_word line.now e.0
