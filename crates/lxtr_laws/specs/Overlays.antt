-- Bytes written over a room, starting at a place, as stores do it: byte by byte, one number, several numbers.
use Prim.Native.Nat.{ℕ, zero, suc, ◌+◌, ◌*◌, ◌≤◌, ◌<◌, min}
use Rattle.std.specs.Prelude.{◌≡◌, refl, set, get_or}
use Rattle.std.proofs.Common.{sym, ◌∙◌, add-zero, arith, length-drop, take-append-drop, length-take-le, take-suc}
use Rattle.std.proofs.Math.Path.{ap}
use mathlib.Core.List.{List, [], ◌∷◌, ◌++◌, append_assoc}
use Rattle.std.proofs.Math.Numerals.{add-one, add-two, add-three}
use Rattle.std.proofs.Math.ListN.{length, take, drop, length-append, length-take}
use Rattle.std.proofs.lemmas.List.Edits.{sets, sets-eq}
use Rattle.std.proofs.lemmas.List.{set_split, set_comm}
use Rattle.std.proofs.Math.Seq.{take_at, drop-append-add, drop-drop, length-sets, take-nil}
use Rattle.lxtr_laws.specs.ByteOrders.{ByteOrder, words_size, words_append, words_one}

-- the room with the bytes xs, starting at a place
unfoldable pub over : List ℕ → ℕ → List ℕ → List ℕ
over room at xs = take at room ++ (xs ++ drop (at + length xs) room)

module _ (r : List ℕ) where
  pub over_length : (at : ℕ) (xs : List ℕ) → at + length xs ≤ length r → length (over r at xs) ≡ length r
  unfolding over
  over_length at xs h = simp (length-append, length-take, length-drop) (omega arith)

  pub over_none : (at : ℕ) → over r at [] ≡ r
  unfolding over
  over_none at = simp (add-zero, take-append-drop)

  pub over_set : (i v : ℕ) → i < length r → set r i v ≡ over r i (v ∷ [])
  unfolding over
  over_set i v h = rw add-one (set_split r i v h)

  -- more bytes after the first ones
  pub over_over : (at : ℕ) (xs ys : List ℕ) (i : ℕ) → i ≡ at + length xs → at + length xs ≤ length r → over (over r at xs) i ys ≡ over r at (xs ++ ys)
  unfolding over
  over_over at xs ys i e h =
      let p : List ℕ = take at r ++ xs in
      let lp : length p ≡ i = simp (length-append, length-take) (omega arith) in
      let total : at + length xs + length ys ≡ at + length (xs ++ ys) = simp length-append (omega arith) in
      let whole : take at r ++ (xs ++ drop (at + length xs) r) ≡ p ++ drop (at + length xs) r = simp append_assoc in
      let front : take i (take at r ++ (xs ++ drop (at + length xs) r)) ≡ p = ap (take i) whole ∙ take_at p (drop (at + length xs) r) i lp in
      let back : drop (i + length ys) (take at r ++ (xs ++ drop (at + length xs) r)) ≡ drop (at + length (xs ++ ys)) r =
      ap (drop (i + length ys)) whole
      ∙ ap (λ (k : ℕ). drop (k + length ys) (p ++ drop (at + length xs) r)) (sym lp)
      ∙ drop-append-add p (drop (at + length xs) r) (length ys)
      ∙ drop-drop (length ys) (at + length xs) r
      ∙ ap (λ (k : ℕ). drop k r) total in
      rw (front, back) (simp append_assoc)

  -- a byte before others: r' is the room after both
  pub byte_before : (at x : ℕ) (ys r' : List ℕ) → at < length r → r' ≡ over (set r at x) (at + 1) ys → r' ≡ over r at (x ∷ ys)
  byte_before at x ys r' h e = e ∙ rw (over_set at x h) (over_over at (x ∷ []) ys (at + 1) refl (omega arith))

  -- four bytes, as the stores of a number write them
  pub four_put : (at x₀ x₁ x₂ x₃ : ℕ) → at + 4 ≤ length r
      → set (set (set (set r at x₀) (at + 1) x₁) (at + 2) x₂) (at + 3) x₃ ≡ over r at (x₀ ∷ x₁ ∷ x₂ ∷ x₃ ∷ [])
  unfolding over
  four_put at x₀ x₁ x₂ x₃ h =
      let xs : List ℕ = x₀ ∷ x₁ ∷ x₂ ∷ x₃ ∷ [] in
      rw (add-one, add-two, add-three) (sets-eq xs r at h ∙ append_assoc (take at r) xs (drop (at + 4) r))

-- a store at an earlier place can be made before or after the others
set_sets : (r : List ℕ) (i x j : ℕ) (ys : List ℕ) → i < j → set (sets r j ys) i x ≡ sets (set r i x) j ys
set_sets r i x j [] h = refl
set_sets r i x j (y ∷ ys) h = set_sets (set r j y) i x (suc j) ys (omega arith) ∙ ap (λ (l : List ℕ). sets l (suc j) ys) (set_comm r j i y x (λ e. omega arith))

sets_comm : (r : List ℕ) (i : ℕ) (xs : List ℕ) (j : ℕ) (ys : List ℕ) → i + length xs ≤ j → sets (sets r i xs) j ys ≡ sets (sets r j ys) i xs
sets_comm r i [] j ys h = refl
sets_comm r i (x ∷ xs) j ys h =
    sets_comm (set r i x) (suc i) xs j ys (omega arith) ∙ ap (λ (l : List ℕ). sets l (suc i) xs) (sym (set_sets r i x j ys (omega arith)))

over_sets : (r : List ℕ) (at : ℕ) (xs : List ℕ) → at + length xs ≤ length r → over r at xs ≡ sets r at xs
unfolding over
over_sets r at xs h = sym (sets-eq xs r at h ∙ append_assoc (take at r) xs (drop (at + length xs) r))

pub over_comm : (r : List ℕ) (i : ℕ) (xs : List ℕ) (j : ℕ) (ys : List ℕ) → i + length xs ≤ j → j + length ys ≤ length r → over (over r i xs) j ys ≡ over (over r j ys) i xs
over_comm r i xs j ys h l =
    rw (over_sets r i xs (omega arith), over_sets r j ys l)
    (over_sets (sets r i xs) j ys (omega (arith, length-sets r i xs)) ∙ sets_comm r i xs j ys h ∙ sym (over_sets (sets r j ys) i xs (omega (arith, length-sets r j ys))))

-- The room r' is r with the first i of the numbers xs written into it, one after the other, starting at a place.
abbrev pub WordsIn : (List ℕ → List ℕ) → List ℕ → List ℕ → ℕ → ℕ → List ℕ → Type 0
WordsIn words r xs at i r' = r' ≡ over r at (words (take i xs))

module _ {bytes : ℕ → List ℕ} {words : List ℕ → List ℕ} (order : ByteOrder bytes words) (r xs : List ℕ) (at : ℕ) where
  pub words_start : WordsIn words r xs at 0 r
  words_start = rw order.empty (sym (over_none r at))

  pub words_end : (len i : ℕ) (r' : List ℕ) → WordsIn words r xs at i r' → i ≤ len → len ≤ i → WordsIn words r xs at len r'
  words_end len i r' before h l = let e : i ≡ len = omega arith in rw e at before

  module _ (len : ℕ) (room : at + 4 * len ≤ length r) (long : len ≤ length xs) (i : ℕ) (r' : List ℕ) (before : WordsIn words r xs at i r') where
    pub words_next : (r'' : List ℕ) → i < len → r'' ≡ over r' (at + 4 * i) (bytes (get_or xs i 0)) → WordsIn words r xs at (i + 1) r''
    words_next r'' h e =
        let m = words_size order (take i xs) in
        let o = length-take-le i xs (omega arith) in
        let all : words (take (i + 1) xs) ≡ words (take i xs) ++ bytes (get_or xs i 0) = rw (add-one i, take-suc xs i 0 (omega arith), words_append order, words_one order) in
        e ∙ rw (before, all) (over_over r at (words (take i xs)) (bytes (get_or xs i 0)) (at + 4 * i) (omega arith) (omega arith))

-- the first i of some numbers at the front of a room: all of them, or as many as there is room for
pub all_words : (ws places : List ℕ) (i : ℕ) → i ≡ min (length ws) (length places) → take i ws ++ drop i places ≡ take (length places) ws ++ drop (length ws) places
all_words [] places i e = let z : i ≡ 0 = omega arith in rw (z, take-nil)
all_words (w ∷ ws) [] i e = let z : i ≡ 0 = omega arith in rw z
all_words (w ∷ ws) (p ∷ places) zero e = absurd (omega arith)
all_words (w ∷ ws) (p ∷ places) (suc i) e = ap (λ (l : List ℕ). w ∷ l) (all_words ws places i (omega arith))
