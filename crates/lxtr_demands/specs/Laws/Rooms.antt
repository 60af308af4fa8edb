-- The pairs that completion writes are the front part for which there is room, and there is only one such part.
-- If there is room enough, they are all pairs.
use Rattle.std.specs.Prelude.{ℕ, ◌+◌, ◌-◌, ◌≤◌, ◌<◌, ◌≡◌, refl, List, [], ◌∷◌, ◌++◌, Bool, true, false, cond, length, leb}
use Rattle.std.proofs.Common.{arith, sym, ap, ◌∙◌, append-nil, leb-true, leb-false, le-leb}
use Rattle.std.proofs.lemmas.Bool.{lt-leb}
use Rattle.lxtr_spec.specs.Labels.{Pair}
use Rattle.lxtr_spec.specs.Completions.{record_of, fitting, room_for}
use Rattle.lxtr_spec.specs.Meaning.{FittingFront}
use Rattle.lxtr_laws.specs.Lengths.{record_length, room_from}

-- no list is both empty and not
nil_not_cons : {p : Pair} {ps : List Pair} → ◌≡◌ {A = List Pair} [] (p ∷ ps) → ⊥
nil_not_cons e = omega (arith, ap length e)

-- if there is room enough, the front part is the whole list
pub whole_front : (r : ℕ) (ps : List Pair) → room_for ps ≤ r → FittingFront r ps ps
whole_front r ps h = record { rest = []; parts = sym (append-nil ps); fits = h; full = λ p later e. absurd (nil_not_cons e) }

-- what fits is a front part,
pub some_front : (r : ℕ) (ps : List Pair) → FittingFront (5 + r) ps (fitting r ps)
unfolding fitting room_for
some_front r [] = record { rest = []; parts = refl; fits = omega arith; full = λ p later e. absurd (nil_not_cons e) }
some_front r (p ∷ ps) = go (leb (length (record_of p)) r) refl (some_front (r - length (record_of p)) ps)
  where
    go : (a : Bool) → leb (length (record_of p)) r ≡ a → FittingFront (5 + (r - length (record_of p))) ps (fitting (r - length (record_of p)) ps)
        → FittingFront (5 + r) (p ∷ ps) (cond a (p ∷ fitting (r - length (record_of p)) ps) [])
    go true e f =
        let l = leb-true (length (record_of p)) r e in
        let n = record_length p in
        record {
          rest = f.rest;
          parts = ap {B = List Pair} (λ (t : List Pair). p ∷ t) f.parts;
          fits = omega (arith, f.fits);
          full = λ q later h. omega (arith, f.full q later h);
        }
    go false e f = record {
      rest = p ∷ ps;
      parts = refl;
      fits = omega arith;
      full = λ q later h. let same : p ≡ q = cc in omega (arith, leb-false (length (record_of p)) r e, record_length p, ap (λ (t : Pair). length t.0) same);
    }

-- and no other is
front_fits : (r : ℕ) (fit rest : List Pair) → room_for fit ≤ 5 + r → ((p : Pair) (later : List Pair) → rest ≡ p ∷ later → 5 + r < room_for (fit ++ p ∷ []))
    → fitting r (fit ++ rest) ≡ fit
unfolding fitting room_for
front_fits r [] [] h k = refl
front_fits r [] (p ∷ rest) h k = rw (lt-leb (length (record_of p)) r (omega (arith, record_length p, k p rest refl)))
front_fits r (p ∷ fit) rest h k =
    let n = record_length p in
    let l : length (record_of p) ≤ r = omega (arith, room_from fit) in
    rw (le-leb (length (record_of p)) r l)
    (ap {B = List Pair} (λ (t : List Pair). p ∷ t) (front_fits (r - length (record_of p)) fit rest (omega arith) (λ q later e. omega (arith, k q later e))))

pub fitting_is : (r : ℕ) (ps fit : List Pair) → FittingFront (5 + r) ps fit → fitting r ps ≡ fit
fitting_is r ps fit f = rw f.parts (front_fits r fit f.rest f.fits f.full)

pub one_front : (r : ℕ) (ps fit other : List Pair) → FittingFront r ps fit → FittingFront r ps other → fit ≡ other
one_front r ps fit other f g =
    let all : 5 + (r - 5) ≡ r = omega (arith, f.fits, room_from fit) in
    sym (fitting_is (r - 5) ps fit (rw all f)) ∙ fitting_is (r - 5) ps other (rw all g)
