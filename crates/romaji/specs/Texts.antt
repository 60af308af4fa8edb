-- The text is what was kept and then what is typed. Its bytes go into a query as labels, and into a state as they are, one after
-- the other; both loops copy the part of the text that starts at a place.
use Rattle.std.specs.Prelude.{ℕ, zero, suc, ◌+◌, ◌-◌, ◌*◌, ◌≤◌, ◌<◌, ◌^◌, ◌≡◌, List, ◌++◌, take, drop, get_or, set}
use Rattle.std.proofs.Common.{arith, zero-add, add-one, sym, ap, ◌∙◌, length-drop, length-take-le, get_or-take, get_or-drop}
use Rattle.std.proofs.Math.ListN.{length, replicate}
use Rattle.std.proofs.lemmas.List.{length-replicate}
use Rattle.std.proofs.Math.Seq.{take_all, paste, paste-zero, paste-suc}
use Rattle.lxtr_spec.specs.Numbers.{be_bytes, be_words}
use Rattle.lxtr_laws.specs.Overlays.{over}
use Rattle.lxtr_laws.specs.Limit.{length_fits_byte}
use Rattle.romaji_spec.specs.Pieces.{max_kept}
use Rattle.romaji_spec.specs.Typing.{state_of}
use Rattle.romaji_spec.specs.declared.State.{State}
use Rattle.romaji.specs.Labels.{LabelsPut, labels_start, labels_next, labels_end}

-- ---- a query of the bytes of a text, n of them starting at a place

-- the first i of them are in the query, which was q before
pub record QueryPut (t : List ℕ) (at n : ℕ) (q : List ℕ) (i : ℕ) (q' : List ℕ) : Type 0 where
  pub all : length (take n (drop at t)) ≡ n
  pub put : LabelsPut (take n (drop at t)) q 0 i q'

module _ (t : List ℕ) (at n : ℕ) (q : List ℕ) where
  abbrev part : List ℕ
  part = take n (drop at t)

  pub query_start : at + n ≤ length t → (i : ℕ) → i ≡ 0 → QueryPut t at n q i q
  query_start h i z = rw z (record { all = length-take-le n (drop at t) (omega (arith, length-drop at t)); put = labels_start part q 0 })

  module _ (large : 4 * n ≤ length q) (i : ℕ) (q' : List ℕ) (before : QueryPut t at n q i q') where
    enough : 4 * (0 + length part) ≤ length q
    enough = omega (arith, before.all)

    pub query_place : i < n → 4 * i + 4 ≤ length q'
    query_place h = omega (arith, before.put.size)

    pub query_next : (q'' : List ℕ) (j k : ℕ) → i < n → j ≡ at + i → k ≡ i + 1 → q'' ≡ over q' (4 * i) (be_bytes (get_or t j 0)) → QueryPut t at n q k q''
    query_next q'' j k h same next e =
        let is : get_or part i 0 ≡ get_or t (at + i) 0 = get_or-take n (drop at t) i 0 h ∙ get_or-drop at t i 0 in
        let place : 4 * 0 + 4 * i ≡ 4 * i = omega arith in
        rw next (record { all = before.all; put = labels_next part q 0 enough i q' before.put q'' (omega (arith, before.all)) (rw (place, is) (rw same at e)) })

    pub query_end : n ≤ i → q' ≡ over q 0 (be_words part)
    query_end h = labels_end part q 0 enough i q' before.put (omega (arith, before.all))

-- ---- the state that keeps the rest of a text

drop_zeros : (i n : ℕ) → drop {A = ℕ} i (replicate n 0) ≡ replicate (n - i) 0
drop_zeros zero n = let e : n - 0 ≡ n = omega arith in rw e
drop_zeros (suc i) zero = let e : 0 - suc i ≡ 0 = omega arith in rw e
drop_zeros (suc i) (suc n) = let e : suc n - suc i ≡ n - i = omega arith in rw e (drop_zeros i n)

-- the first i of the bytes of the rest are in the array, which held zeros
abbrev pub RestPut : List ℕ → ℕ → ℕ → List ℕ → Type 0
RestPut t at i bytes = bytes ≡ paste (replicate max_kept 0) 0 (drop at t) i

module _ (t : List ℕ) (at : ℕ) where
  abbrev rest : List ℕ
  rest = drop at t

  pub rest_start : RestPut t at 0 (replicate max_kept 0)
  rest_start = paste-zero (replicate max_kept 0) 0 rest

  module _ (few : length t ≤ at + max_kept) where
    pub rest_fits : length t - at < 2 ^ 8
    unfolding max_kept
    rest_fits = omega (arith, few, length_fits_byte)

    pub rest_next : (i : ℕ) (bytes : List ℕ) → RestPut t at i bytes → i < length t - at → RestPut t at (i + 1) (set bytes i (get_or t (at + i) 0))
    rest_next i bytes before h =
        let is : get_or t (at + i) 0 ≡ get_or rest i 0 = sym (get_or-drop at t i 0) in
        let zeros = length-replicate {A = ℕ} max_kept 0 in
        rw (before, is)
        (ap (λ (k : ℕ). set (paste (replicate max_kept 0) 0 rest i) k (get_or rest i 0)) (sym (zero-add i)) ∙ paste-suc (replicate max_kept 0) 0 rest i 0 (omega (arith, few)) (omega (arith, length-drop at t)) ∙ ap (paste (replicate max_kept 0) 0 rest) (sym (add-one i)))

    pub rest_end : (i : ℕ) (bytes : List ℕ) → RestPut t at i bytes → i ≡ length t - at → ◌≡◌ {A = State} (record { count = length t - at; kept = bytes }) (state_of rest)
    unfolding state_of
    rest_end i bytes before h =
        let all : bytes ≡ rest ++ replicate (max_kept - length rest) 0 =
        before ∙ rw (zero-add, take_all i rest (omega (arith, length-drop at t)), drop_zeros) (let e : i ≡ length rest = omega (arith, length-drop at t) in rw e) in
        rw (all, ← length-drop at t)
