-- The state of a listing while its records are written, one after the other, up to the first that has no room.
-- The pairs may be written in parts, one part after the other. A listing that stopped stays as it is.
use Rattle.std.specs.Prelude.{ℕ, ◌+◌, ◌*◌, ◌-◌, ◌≤◌, ◌<◌, ◌≡◌, refl, ◌≢◌, List, [], ◌∷◌, ◌++◌, Bool, true, false, cond, length, set, leb, eqb, Option, Some, None, is_none}
use Rattle.std.specs.Option.{ForSome}
use Rattle.std.proofs.Common.{sym, ◌∙◌, arith, length-set}
use borrow.Author.Tests.{leb-true, le-leb, lt-leb, eqb-false, eq-eqb, ne_eqb}
use Rattle.lxtr_spec.specs.Numbers.{be_bytes, be_words}
use Rattle.lxtr_spec.specs.Labels.{Pair}
use Rattle.lxtr_spec.specs.Completions.{record_of}
use Rattle.lxtr_laws.specs.Lengths.{record_length, words_length}
use Rattle.lxtr_laws.specs.Overlays.{over, over_length, over_over, byte_before}

-- the room; the place of the next record, or 0 once a record had no room; and the number of records written
pub record State : Type 0 where
  pub room : List ℕ
  pub at : ℕ
  pub count : ℕ

abbrev pub state : List ℕ → ℕ → ℕ → State
state room at count = record { room = room; at = at; count = count }

-- the place where the records end; 0 once one had no room
abbrev pub place : Option ℕ → ℕ
place None = 0
place (Some at) = at

-- the place says whether a record had no room
pub place_told : (end : Option ℕ) (length count : ℕ) → ForSome end (λ at. (at ≤ length) × (count < at)) → is_none end ≡ eqb (place end) 0
place_told None length count h = refl
place_told (Some at) length count h = sym (ne_eqb at 0 (λ z. omega (arith, (h at refl).1)))

-- the state after one more record, or after the stop
unfoldable pub put : State → Pair → State
put s p =
    cond (eqb s.at 0) s
    (cond (leb (length (record_of p)) (length s.room - s.at))
    (state (over s.room s.at (record_of p)) (s.at + length (record_of p)) (s.count + 1))
    (state s.room 0 s.count))

-- the state after the records of all pairs, up to the first that has no room
unfoldable pub after : State → List Pair → State
after s [] = s
after s (p ∷ ps) = after (put s p) ps

-- the place is in the room, and there are fewer records than bytes before that place
pub record InRoom (s : State) : Type 0 where
  pub at_in : s.at ≤ length s.room
  pub count_in : s.at ≢ 0 → s.count < s.at

-- one more record
module _ (s : State) (p : Pair) where
  pub put_stopped : s.at ≡ 0 → put s p ≡ s
  unfolding put
  put_stopped e = rw (eq-eqb s.at 0 e)

  module _ (going : s.at ≢ 0) where
    pub put_fits : length (record_of p) ≤ length s.room - s.at → put s p ≡ state (over s.room s.at (record_of p)) (s.at + length (record_of p)) (s.count + 1)
    unfolding put
    put_fits h = rw (ne_eqb s.at 0 going, le-leb (length (record_of p)) (length s.room - s.at) h)

    pub put_not : length s.room - s.at < length (record_of p) → put s p ≡ state s.room 0 s.count
    unfolding put
    put_not h = rw (ne_eqb s.at 0 going, lt-leb (length (record_of p)) (length s.room - s.at) h)

in_room_put : (s : State) (p : Pair) → InRoom s → InRoom (put s p)
unfolding put
in_room_put s p f = go (eqb s.at 0) (leb (length (record_of p)) (length s.room - s.at)) refl refl
  where
    go : (t u : Bool) → eqb s.at 0 ≡ t → leb (length (record_of p)) (length s.room - s.at) ≡ u
        → InRoom (cond t s (cond u (state (over s.room s.at (record_of p)) (s.at + length (record_of p)) (s.count + 1)) (state s.room 0 s.count)))
    go true u d e = f
    go false false d e = record { at_in = omega arith; count_in = λ z. absurd (z refl) }
    go false true d e =
        let h : length (record_of p) ≤ length s.room - s.at = leb-true (length (record_of p)) (length s.room - s.at) e in
        record {
          at_in = omega (arith, f.at_in, over_length s.room s.at (record_of p) (omega (arith, f.at_in)));
          count_in = λ _. omega (arith, f.count_in (eqb-false s.at 0 d), record_length p);
        }

room_put : (s : State) (p : Pair) → InRoom s → length (put s p).room ≡ length s.room
unfolding put
room_put s p f = go (eqb s.at 0) (leb (length (record_of p)) (length s.room - s.at)) refl
  where
    go : (t u : Bool) → leb (length (record_of p)) (length s.room - s.at) ≡ u
        → length (cond t s (cond u (state (over s.room s.at (record_of p)) (s.at + length (record_of p)) (s.count + 1)) (state s.room 0 s.count))).room ≡ length s.room
    go true u e = refl
    go false false e = refl
    go false true e = over_length s.room s.at (record_of p) (omega (arith, f.at_in, leb-true (length (record_of p)) (length s.room - s.at) e))

-- the room keeps its length
pub room_after : (s : State) (ps : List Pair) → InRoom s → length (after s ps).room ≡ length s.room
unfolding after
room_after s [] f = refl
room_after s (p ∷ ps) f = room_after (put s p) ps (in_room_put s p f) ∙ room_put s p f

-- the records of several pairs
pub in_room_after : (s : State) (ps : List Pair) → InRoom s → InRoom (after s ps)
unfolding after
in_room_after s [] f = f
in_room_after s (p ∷ ps) f = in_room_after (put s p) ps (in_room_put s p f)

pub after_append : (s : State) (ps rest : List Pair) → after s (ps ++ rest) ≡ after (after s ps) rest
unfolding after
after_append s [] rest = refl
after_append s (p ∷ ps) rest = after_append (put s p) ps rest

pub after_stopped : (s : State) (ps : List Pair) → s.at ≡ 0 → after s ps ≡ s
unfolding after
after_stopped s [] e = refl
after_stopped s (p ∷ ps) e = rw (put_stopped s p e) (after_stopped s ps e)

-- The record of a key and its value: it turns the room r into r', with the length byte and the labels, and that into r''.
module _ (r : List ℕ) (at count : ℕ) (key : List ℕ) (value : ℕ) (going : at ≢ 0) where
  size : length (record_of (key, value)) ≡ 5 + 4 * length key
  size = record_length (key, value)

  pub record_in : (r' r'' : List ℕ) → at ≤ length r → 5 + 4 * length key ≤ length r - at → r' ≡ over (set r at (length key)) (at + 1) (be_words key) → r'' ≡ over r' (at + 1 + 4 * length key) (be_bytes value)
      → state r'' (at + (5 + 4 * length key)) (count + 1) ≡ put (state r at count) (key, value)
  unfolding record_of
  record_in r' r'' within h e f =
      let words = words_length key in
      let both : r'' ≡ over (set r at (length key)) (at + 1) (be_words key ++ be_bytes value) = f ∙ rw e (over_over (set r at (length key)) (at + 1) (be_words key) (be_bytes value) (at + 1 + 4 * length key) (omega (arith, words)) (omega (arith, words, length-set r at (length key)))) in
      rw (put_fits (state r at count) (key, value) going (omega (arith, size)), size, byte_before r at (length key) (be_words key ++ be_bytes value) r'' (omega arith) both)

  pub record_not : length r - at < 5 + 4 * length key → state r 0 count ≡ put (state r at count) (key, value)
  record_not h = sym (put_not (state r at count) (key, value) going (omega (arith, size)))
