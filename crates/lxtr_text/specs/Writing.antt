-- What is written on a line: as much of a text as fits, after what is there. Writing two texts, one after the other, is writing both at
-- once.
use Rattle.std.specs.Prelude.{ℕ, suc, ◌+◌, ◌-◌, ◌≤◌, ◌<◌, ◌≡◌, refl, List, [], ◌∷◌, ◌++◌, length, drop, set, get_or}
use Rattle.std.proofs.Common.{arith, sym, ap, ◌∙◌, length-take, length-append, take_all, add-one, drop-cons, drop_of_length-le}
use Rattle.std.proofs.Math.Decide.{dec_le}
use Rattle.lxtr_laws.specs.Overlays.{over, over_length, over_none, over_set, over_over}
use Rattle.lxtr_text.specs.Appends.{front, front_append, Appended, within_cut}
use Rattle.lxtr_text.specs.declared.line.Line.{Line}

-- the same line with other bytes, of which so many are written
abbrev pub line_with : Line → List ℕ → ℕ → Line
line_with l bytes end = record l { room = record l.room { now = bytes }; end = end }

-- the line after as much of the text as fits
abbrev pub wrote : Line → List ℕ → Line
wrote l xs = line_with l (over l.room.now l.end (front l.room.now l.end xs)) (l.end + length (front l.room.now l.end xs))

with_same : (l : Line) (r s : List ℕ) (m n : ℕ) → r ≡ s → m ≡ n → line_with l r m ≡ line_with l s n
with_same l r s m n e f = rw (e, f) refl

module _ (room : List ℕ) (at : ℕ) (xs : List ℕ) where
  -- the bytes of the text that fit, the place after them, and the room with them
  abbrev fits : List ℕ
  fits = front room at xs

  abbrev next : ℕ
  next = at + length fits

  abbrev after : List ℕ
  after = over room at fits

  none_fits : length room ≤ at → fits ≡ []
  none_fits h = let z : length room - at ≡ 0 = omega arith in rw z refl

  next_within : at ≤ length room → next ≤ length room
  next_within h = omega (arith, length-take (length room - at) xs)

  after_full : length room ≤ at → after ≡ room
  after_full h = rw (none_fits h) (over_none room at)

  after_length : length after ≡ length room
  after_length = go (dec_le at (length room))
    where
      go : Dec (at ≤ length room) → length after ≡ length room
      go (yes h) = over_length room at fits (next_within h)
      go (no h) = ap length (after_full (omega arith))

  both_fit : (ys : List ℕ) → front room at (xs ++ ys) ≡ fits ++ front after next ys
  both_fit ys =
      let n : length after - next ≡ length room - at - length xs = rw after_length (omega (arith, length-take (length room - at) xs)) in
      front_append (length room - at) xs ys ∙ rw n refl

both_after : (room : List ℕ) (at : ℕ) (xs ys : List ℕ) → over (after room at xs) (next room at xs) (front (after room at xs) (next room at xs) ys) ≡ over room at (front room at (xs ++ ys))
both_after room at xs ys = go (dec_le at (length room))
  where
    go : Dec (at ≤ length room) → over (after room at xs) (next room at xs) (front (after room at xs) (next room at xs) ys) ≡ over room at (front room at (xs ++ ys))
    go (yes h) = over_over room at (fits room at xs) (front (after room at xs) (next room at xs) ys) (next room at xs) refl (next_within room at xs h) ∙ ap (over room at) (sym (both_fit room at xs ys))
    go (no h) =
        let m : length (after room at xs) ≤ next room at xs = omega (arith, after_length room at xs) in
        after_full (after room at xs) (next room at xs) ys m ∙ after_full room at xs (omega arith) ∙ sym (after_full room at (xs ++ ys) (omega arith))

pub wrote_wrote : (l : Line) (xs ys : List ℕ) → wrote (wrote l xs) ys ≡ wrote l (xs ++ ys)
wrote_wrote l xs ys =
    let more : List ℕ = front (after l.room.now l.end xs) (next l.room.now l.end xs) ys in
    let n : l.end + length (fits l.room.now l.end xs) + length more ≡ l.end + length (front l.room.now l.end (xs ++ ys)) =
    omega (arith, ap length (both_fit l.room.now l.end xs ys), length-append (fits l.room.now l.end xs) more) in
    with_same l _ _ _ _ (both_after l.room.now l.end xs ys) n

module _ (l : Line) where
  pub wrote_none : wrote l [] ≡ l
  wrote_none = let e : front l.room.now l.end [] ≡ [] = take_all (length l.room.now - l.end) [] (omega arith) in rw e (with_same l _ l.room.now _ l.end (over_none l.room.now l.end) (omega arith))

  pub wrote_one : (x : ℕ) → l.end < length l.room.now → line_with l (set l.room.now l.end x) (l.end + 1) ≡ wrote l (x ∷ [])
  wrote_one x h =
      let e : front l.room.now l.end (x ∷ []) ≡ x ∷ [] = take_all (length l.room.now - l.end) (x ∷ []) (omega arith) in
      rw e (with_same l _ _ _ _ (over_set l.room.now l.end x h) refl)

  pub wrote_full : (xs : List ℕ) → length l.room.now ≤ l.end → l ≡ wrote l xs
  wrote_full xs h = rw (none_fits l.room.now l.end xs h) (with_same l l.room.now _ l.end _ (sym (over_none l.room.now l.end)) (omega arith))

  -- what is still to come of a text: all of it is written where nothing is left
  pub wrote_next : (xs rest all : List ℕ) (l' : Line) → all ≡ xs ++ rest → l' ≡ wrote l xs → wrote l' rest ≡ wrote l all
  wrote_next xs rest all l' e f = rw (f, e) (wrote_wrote l xs rest)

  -- the first text on a line
  pub appended : (xs : List ℕ) → l.end ≤ length l.room.now → Appended l.room.now l.end xs (wrote l xs).room.now (wrote l xs).end
  appended xs h =
      let w : next l.room.now l.end xs ≤ length (after l.room.now l.end xs) = rw (after_length l.room.now l.end xs) (next_within l.room.now l.end xs h) in
      record { is = refl; next = refl; within = w; cut = within_cut (next l.room.now l.end xs) (after l.room.now l.end xs) w }

pub line_filled : (room text room' : List ℕ) (r : ℕ) (l l' : Line) → l.room.now ≡ room → l.end ≡ 0 → l' ≡ wrote l text → room' ≡ l'.room.now → r ≡ l'.end → Appended room 0 text room' r
line_filled room text room' r l l' e z f g h =
    let p : Appended l.room.now l.end text l'.room.now l'.end = rw f (appended l text (rw z (omega arith))) in
    rw (g, h, ← e, ← z) p

-- ---- a text made of pieces, one for each number of a list

pub record Pieces (piece : ℕ → List ℕ) (text : List ℕ → List ℕ) : Type 0 where
  pub none : text [] ≡ []
  pub more : (x : ℕ) (xs : List ℕ) → text (x ∷ xs) ≡ piece x ++ text xs

pub byte_pieces : Pieces (λ x. x ∷ []) (λ xs. xs)
byte_pieces = record { none = refl; more = λ x xs. refl }

-- the pieces up to place i are written where the rest would complete the text
module _ {piece : ℕ → List ℕ} {text : List ℕ → List ℕ} (made : Pieces piece text) (start : Line) (all xs : List ℕ) (i : ℕ) (l : Line)
    (s : wrote l (text (drop i xs)) ≡ wrote start all) where
  pub piece_written : (l' : Line) (x : ℕ) → i < length xs → x ≡ get_or xs i 0 → l' ≡ wrote l (piece x) → wrote l' (text (drop (i + 1) xs)) ≡ wrote start all
  piece_written l' x h is e =
      let rest : text (drop i xs) ≡ piece x ++ text (drop (i + 1) xs) = rw (drop-cons xs i 0 h, add-one i, sym is) (made.more x (drop (suc i) xs)) in
      wrote_next l (piece x) (text (drop (i + 1) xs)) (text (drop i xs)) l' rest e ∙ s

  pub all_written : length xs ≤ i → l ≡ wrote start all
  all_written h = sym (wrote_none l) ∙ ap (wrote l) (sym made.none ∙ ap text (sym (drop_of_length-le xs h))) ∙ s

-- the same, where xs is what is left of the numbers
module _ {piece : ℕ → List ℕ} {text : List ℕ → List ℕ} (made : Pieces piece text) (start : Line) (all xs : List ℕ) (l : Line) (s : wrote l (text xs) ≡ wrote start all) where
  pub next_written : (x : ℕ) (rest : List ℕ) (l' : Line) → xs ≡ x ∷ rest → l' ≡ wrote l (piece x) → wrote l' (text rest) ≡ wrote start all
  next_written x rest l' e f = wrote_next l (piece x) (text rest) (text xs) l' (ap text e ∙ made.more x rest) f ∙ s

  pub none_written : xs ≡ [] → l ≡ wrote start all
  none_written e = sym (wrote_none l) ∙ ap (wrote l) (sym made.none ∙ ap text (sym e)) ∙ s
