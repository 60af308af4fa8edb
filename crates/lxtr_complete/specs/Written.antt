-- The records of pairs written one after the other are those of the definition `written`, after version and count.
use Rattle.std.specs.Prelude.{ℕ, suc, ◌+◌, ◌-◌, ◌≤◌, ◌≡◌, refl, ◌≢◌, List, [], ◌∷◌, ◌++◌, Bool, true, false, cond, length, take, drop, leb, ltb, eqb}
use Rattle.std.proofs.Common.{sym, ap, ◌∙◌, append_assoc, add-zero, zero-add, arith, length-append, drop_at, length-take-le, leb-true, leb-false, lt-ltb, eq-eqb, ne_eqb}
use Rattle.std.proofs.Math.Dec.{leb-suc-suc}
use Rattle.lxtr_spec.specs.Numbers.{be_bytes}
use Rattle.lxtr_spec.specs.Labels.{Pair}
use Rattle.lxtr_spec.specs.Completions.{record_of, records_of, fitting, listing_of, listed_in, completion_answer, written}
use Rattle.lxtr_laws.specs.Lengths.{records_length, listing_length}
use Rattle.lxtr_laws.specs.Overlays.{over, over_length, over_none, over_over}
use Rattle.lxtr_complete.specs.RecordWriting.{State, state, put, after, put_fits, put_not, after_stopped}

-- the state after the records that fit
abbrev filled : List ℕ → ℕ → ℕ → List Pair → List Pair → State
filled room at count ps fit = state (over room at (records_of fit)) (cond (ltb (length fit) (length ps)) 0 (at + length (records_of fit))) (count + length fit)

-- the records of all pairs, up to the first that has no room, are those that fit
after_all : (ps : List Pair) (room : List ℕ) (at count : ℕ) → at ≢ 0 → at ≤ length room → after (state room at count) ps ≡ filled room at count ps (fitting (length room - at) ps)
unfolding after fitting records_of
after_all [] room at count z h = rw (over_none, add-zero at, add-zero count)
after_all (p ∷ ps) room at count z h = go (after_all ps) (leb (length (record_of p)) (length room - at)) refl
  where
    go : ((room : List ℕ) (at count : ℕ) → at ≢ 0 → at ≤ length room → after (state room at count) ps ≡ filled room at count ps (fitting (length room - at) ps))
        → (t : Bool) → leb (length (record_of p)) (length room - at) ≡ t
        → after (put (state room at count) p) ps ≡ filled room at count (p ∷ ps) (cond t (p ∷ fitting (length room - at - length (record_of p)) ps) [])
    go ih false e = rw (put_not (state room at count) p z (leb-false (length (record_of p)) (length room - at) e), over_none, add-zero count, lt-ltb 0 (suc (length ps)) (omega arith)) (after_stopped (state room 0 count) ps refl)
    go ih true e =
        let rest : List Pair = fitting (length room - at - length (record_of p)) ps in
        let fits : length (record_of p) ≤ length room - at = leb-true (length (record_of p)) (length room - at) e in
        let left : length (over room at (record_of p)) - (at + length (record_of p)) ≡ length room - at - length (record_of p) = omega (arith, over_length room at (record_of p) (omega arith)) in
        let later = ih (over room at (record_of p)) (at + length (record_of p)) (count + 1) (λ e. omega (arith, z)) (omega (arith, over_length room at (record_of p) (omega arith))) in
        let place : at + length (record_of p) + length (records_of rest) ≡ at + length (record_of p ++ records_of rest) = rw length-append (omega arith) in
        let number : count + 1 + length rest ≡ count + suc (length rest) = omega arith in
        rw (put_fits (state room at count) p z fits) (rw left at later)
        ∙ λ i. state (over_over room at (record_of p) (records_of rest) (at + length (record_of p)) refl (omega arith) i) (cond (sym (leb-suc-suc (suc (length rest)) (length ps)) i) 0 (place i)) (number i)

fitting_length : (r : ℕ) (ps : List Pair) → length (fitting r ps) ≤ length ps
unfolding fitting
fitting_length r [] = omega arith
fitting_length r (p ∷ ps) = go (leb (length (record_of p)) r) (fitting_length (r - length (record_of p)) ps)
  where
    go : (t : Bool) → length (fitting (r - length (record_of p)) ps) ≤ length ps → length (cond t (p ∷ fitting (r - length (record_of p)) ps) []) ≤ suc (length ps)
    go true h = omega arith
    go false h = omega arith

-- there are no more records than pairs
pub after_count : (room r : List ℕ) (ps : List Pair) (at count : ℕ) → 5 ≤ length room → state r at count ≡ after (state room 5 0) ps → count ≤ length ps
after_count room r ps at count h e = omega (arith, ap (λ (s : State). s.count) (e ∙ after_all ps room 5 0 (λ z. omega arith) h), fitting_length (length room - 5) ps)

-- the place at which a listing ends says whether it stopped
stop_told : (t : Bool) (at k : ℕ) → at ≡ cond t 0 (5 + k) → eqb at 0 ≡ t
stop_told true at k e = eq-eqb at 0 e
stop_told false at k e = ne_eqb at 0 (λ z. omega arith)

-- version and count at the front of a room whose records start after them
headed : (room xs : List ℕ) (count : ℕ) → 5 ≤ length room → over (over room 5 xs) 0 (1 ∷ be_bytes count) ≡ 1 ∷ (be_bytes count ++ (xs ++ drop (5 + length xs) room))
unfolding over be_bytes
headed room xs count h = ap (λ (l : List ℕ). 1 ∷ (be_bytes count ++ l)) (drop_at (take 5 room) (xs ++ drop (5 + length xs) room) 5 (length-take-le 5 room h))

-- all records, and then version and count: the room is r after the records and r' at the end
pub written_done : (room r r' : List ℕ) (ps : List Pair) (at count : ℕ) → 5 ≤ length room → state r at count ≡ after (state room 5 0) ps
    → r' ≡ over r 0 (1 ∷ be_bytes count) → completion_answer 0 count (eqb at 0) r' ≡ written room ps
unfolding written listed_in listing_of
written_done room r r' ps at count h e e' =
    let fit : List Pair = fitting (length room - 5) ps in
    let all : state r at count ≡ filled room 5 0 ps fit = e ∙ after_all ps room 5 0 (λ z. omega arith) h in
    let number : count ≡ length fit = ap (λ (s : State). s.count) all ∙ zero-add (length fit) in
    let size : length (listing_of fit) ≡ 5 + length (records_of fit) = listing_length fit ∙ sym (records_length fit) in
    let whole : r' ≡ 1 ∷ (be_bytes count ++ records_of fit ++ drop (5 + length (records_of fit)) room) =
    e' ∙ rw (ap (λ (s : State). s.room) all, append_assoc) (headed room (records_of fit) count h) in
    let stop = stop_told (ltb (length fit) (length ps)) at (length (records_of fit)) (ap (λ (s : State). s.at) all) in
    rw (whole, number, stop, ← size)
