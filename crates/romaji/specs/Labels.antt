-- Labels written into room one after the other, starting at label `at`: the first i of them are there.
use Rattle.std.specs.Prelude.{ℕ, ◌+◌, ◌*◌, ◌-◌, ◌≤◌, ◌<◌, ◌≡◌, refl, List, ◌∷◌, get_or, drop}
use Rattle.std.proofs.Common.{arith, le_refl, sym, ◌∙◌, take_all, length-drop}
use Rattle.std.proofs.Math.Path.{ap}
use Rattle.std.proofs.Math.ListN.{length}
use Rattle.std.proofs.lemmas.List.{drop_more}
use Rattle.lxtr_spec.specs.Numbers.{be_bytes, be_words}
use Rattle.lxtr_laws.specs.ByteOrders.{big}
use Rattle.lxtr_laws.specs.Overlays.{over, over_length, WordsIn, words_start, words_next}

-- the labels from i on are x and then ys: x is label i
pub next_label : (xs : List ℕ) (i x : ℕ) (ys : List ℕ) → drop i xs ≡ x ∷ ys → (i < length xs) × (get_or xs i 0 ≡ x) × (drop (i + 1) xs ≡ ys)
next_label xs i x ys e =
    let h : i < length xs = let n = ap length e in omega (arith, length-drop i xs) in
    let q : get_or xs i 0 ∷ drop (i + 1) xs ≡ x ∷ ys = sym (drop_more xs i 0 h) ∙ e in
    (h, ap (λ (l : List ℕ). get_or l 0 0) q, ap (λ (l : List ℕ). drop 1 l) q)

pub record LabelsPut (xs room : List ℕ) (at i : ℕ) (room' : List ℕ) : Type 0 where
  pub to : i ≤ length xs
  pub size : length room' ≡ length room
  pub put : WordsIn be_words room xs (4 * at) i room'

module _ (xs room : List ℕ) (at : ℕ) where
  pub labels_start : LabelsPut xs room at 0 room
  labels_start = record { to = omega arith; size = refl; put = words_start big room xs (4 * at) }

  module _ (large : 4 * (at + length xs) ≤ length room) (i : ℕ) (room' : List ℕ) (before : LabelsPut xs room at i room') where
    pub labels_place : i < length xs → 4 * at + 4 * i + 4 ≤ length room'
    labels_place h = omega (arith, before.size)

    pub labels_next : (room'' : List ℕ) → i < length xs → room'' ≡ over room' (4 * at + 4 * i) (be_bytes (get_or xs i 0)) → LabelsPut xs room at (i + 1) room''
    unfolding be_bytes
    labels_next room'' h e =
        record {
          to = omega arith;
          size = ap length e ∙ over_length room' (4 * at + 4 * i) (be_bytes (get_or xs i 0)) (labels_place h) ∙ before.size;
          put = words_next big room xs (4 * at) (length xs) (omega arith) (le_refl (length xs)) i room' before.put room'' h e;
        }

    pub labels_end : length xs ≤ i → room' ≡ over room (4 * at) (be_words xs)
    labels_end h = before.put ∙ ap (λ (ys : List ℕ). over room (4 * at) (be_words ys)) (take_all i xs h)
