-- Lengths and values as words: words 2 * j and 2 * j + 1 are the length and the value of place j.
-- Written one after the other, the first i words are at the front of the places. At the end, the same for one number.
use Prim.Native.Nat.{ℕ, zero, suc, ◌+◌, ◌*◌, ◌/◌, ◌≤◌, ◌<◌, min}
use Rattle.std.proofs.Math.Nat.{add-zero}
use Rattle.std.proofs.Common.{zero-add, add-one, ◌∙◌, length-set, take-suc, drop-cons, length-take-le}
use native.Mathlib.Omega.{arith}
use Rattle.std.specs.Prelude.{◌≡◌, List, [], ◌∷◌, ◌++◌, length, take, drop, set}
use Rattle.std.proofs.Math.Path.{refl, sym, ap}
use Rattle.std.proofs.Math.ListN.{get_or}
use Rattle.std.proofs.Math.Seq.{take-nil, append_snoc}
use Rattle.std.proofs.lemmas.List.{set_at}
use Rattle.lxtr_spec.specs.Ranges.{concat_from}
use Rattle.lxtr_spec.specs.Labels.{length_count}
use Rattle.lxtr_laws.specs.Overlays.{all_words}
use Rattle.lxtr_spec.specs.HostNumbers.{place_words, alternately, at_front}

module _ (xs ys : List ℕ) where
  words_length : (n k : ℕ) → length (concat_from n k (place_words xs ys)) ≡ 2 * n
  unfolding concat_from place_words
  words_length zero k = refl
  words_length (suc n) k = omega (arith, words_length n (k + 1))

  pub alternately_length : length (alternately xs ys) ≡ 2 * length_count
  unfolding alternately
  alternately_length = words_length length_count 0

  -- the two words of place k + j, where the n places start at place k
  word_of_lem : (n k j t : ℕ) → j < n → t < 2 → get_or (concat_from n k (place_words xs ys)) (2 * j + t) 0 ≡ get_or (place_words xs ys (k + j)) t 0
  unfolding concat_from place_words
  word_of_lem zero k j t h l = absurd (omega arith)
  word_of_lem (suc n) k zero zero h l = rw add-zero
  word_of_lem (suc n) k zero (suc zero) h l = rw add-zero
  word_of_lem (suc n) k zero (suc (suc t)) h l = absurd (omega arith)
  word_of_lem (suc n) k (suc j) t h l =
      let two : 2 * suc j + t ≡ suc (suc (2 * j + t)) = omega arith in
      let next : k + 1 + j ≡ k + suc j = omega arith in
      rw two (word_of_lem n (k + 1) j t (omega arith) l ∙ ap (λ (i : ℕ). get_or (place_words xs ys i) t 0) next)

  module _ (j : ℕ) (h : j < length_count) where
    word_is : (t : ℕ) → t < 2 → get_or (place_words xs ys j) t 0 ≡ get_or (alternately xs ys) (2 * j + t) 0
    unfolding alternately
    word_is t l = sym (word_of_lem length_count 0 j t h l ∙ ap (λ (k : ℕ). get_or (place_words xs ys k) t 0) (zero-add j))

    length_word : get_or xs j 0 ≡ get_or (alternately xs ys) (2 * j) 0
    unfolding place_words
    length_word = word_is 0 (omega arith) ∙ ap (λ (k : ℕ). get_or (alternately xs ys) k 0) (add-zero (2 * j))

    value_word : get_or ys j 0 ≡ get_or (alternately xs ys) (2 * j + 1) 0
    unfolding place_words
    value_word = word_is 1 (omega arith)

-- the first i words of the lengths xs and values ys are at the front of the places, which were places₀ before
pub record WordsIn (xs ys places₀ places : List ℕ) (i : ℕ) : Type 0 where
  pub same_length : length places ≡ length places₀
  pub within : i ≤ min (2 * length_count) (length places₀)
  pub are : places ≡ take i (alternately xs ys) ++ drop i places₀

pub words_start : (xs ys places : List ℕ) → WordsIn xs ys places places 0
words_start xs ys places = record { same_length = refl; within = omega arith; are = refl }

-- word i is laid over what is there
next_word : (ws places : List ℕ) (i : ℕ) → i < length ws → i < length places
    → set (take i ws ++ drop i places) i (get_or ws i 0) ≡ take (suc i) ws ++ drop (suc i) places
next_word ws places i h l =
    rw (drop-cons places i 0 l, take-suc ws i 0 h)
    (set_at (take i ws) (get_or places i 0) (drop (suc i) places) (get_or ws i 0) i (length-take-le i ws (omega arith))
    ∙ sym (append_snoc (take i ws) (get_or ws i 0) (drop (suc i) places)))

module _ (xs ys places₀ places : List ℕ) (i : ℕ) (g : WordsIn xs ys places₀ places i) (count : ℕ) (all : count ≡ min (2 * length_count) (length places₀)) where
  words_next : (w : ℕ) → w ≡ get_or (alternately xs ys) i 0 → i < count → WordsIn xs ys places₀ (set places i w) (i + 1)
  words_next w e h = record {
    same_length = length-set places i w ∙ g.same_length;
    within = omega arith;
    are = rw (g.are, e, add-one i) (next_word (alternately xs ys) places₀ i (omega (arith, alternately_length xs ys)) (omega arith));
  }

  pub words_end : count ≤ i → places ≡ at_front (alternately xs ys) places₀
  unfolding at_front
  words_end h = g.are ∙ all_words (alternately xs ys) places₀ i (omega (arith, g.within, alternately_length xs ys))

-- a turn of the loop over pairs, and the end of that loop, with or without one more length
module _ (xs ys places₀ places : List ℕ) (i count pairs : ℕ) (all : count ≡ min (2 * length_count) (length places₀)) (half : pairs ≡ count / 2) (g : WordsIn xs ys places₀ places (2 * i)) where
  length_next : 2 * i < count → WordsIn xs ys places₀ (set places (2 * i) (get_or xs i 0)) (2 * i + 1)
  length_next h = words_next xs ys places₀ places (2 * i) g count all (get_or xs i 0) (length_word xs ys i (omega arith)) h

  pub value_room : i < pairs → 2 * i + 1 < length (set places (2 * i) (get_or xs i 0))
  value_room h = omega (arith, (length_next (omega arith)).same_length)

  pub pair_next : i < pairs → WordsIn xs ys places₀ (set (set places (2 * i) (get_or xs i 0)) (2 * i + 1) (get_or ys i 0)) (2 * (i + 1))
  pair_next h =
      let e : 2 * (i + 1) ≡ 2 * i + 1 + 1 = omega arith in
      rw e
      (words_next xs ys places₀ (set places (2 * i) (get_or xs i 0)) (2 * i + 1) (length_next (omega arith)) count all (get_or ys i 0) (value_word xs ys i (omega arith)) (omega arith))

  pub length_end : pairs ≤ i → 2 * i < count → set places (2 * i) (get_or xs i 0) ≡ at_front (alternately xs ys) places₀
  length_end h l = words_end xs ys places₀ (set places (2 * i) (get_or xs i 0)) (2 * i + 1) (length_next l) count all (omega arith)

-- one number at the front, by whether there is a word for it
pub no_word : (x : ℕ) (words : List ℕ) → length words ≡ 0 → words ≡ at_front (x ∷ []) words
unfolding at_front
no_word x [] h = refl
no_word x (y ∷ words) h = absurd (omega arith)

pub first_word : (x : ℕ) (words : List ℕ) → (length words ≡ 0 → ⊥) → set words 0 x ≡ at_front (x ∷ []) words
unfolding at_front
first_word x [] h = absurd (h refl)
first_word x (y ∷ words) h = rw (take-nil (length words))
