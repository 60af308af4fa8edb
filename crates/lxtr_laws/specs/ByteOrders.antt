-- Numbers as bytes, in either byte order: four bytes to a number, and those of several numbers one after the other.
use Rattle.std.specs.Prelude.{ℕ, ◌*◌, ◌≡◌, refl, List, [], ◌∷◌, ◌++◌, length}
use Rattle.std.proofs.Common.{append_assoc, append-nil, arith, length-append}
use Rattle.lxtr_spec.specs.Numbers.{le_bytes, be_bytes, le_words, be_words}

pub record ByteOrder (bytes : ℕ → List ℕ) (words : List ℕ → List ℕ) : Type 0 where
  pub four : (x : ℕ) → length (bytes x) ≡ 4
  pub empty : words [] ≡ []
  pub more : (x : ℕ) (xs : List ℕ) → words (x ∷ xs) ≡ bytes x ++ words xs

pub little : ByteOrder le_bytes le_words
unfolding le_bytes le_words
little = record { four = λ x. refl; empty = refl; more = λ x xs. refl }

pub big : ByteOrder be_bytes be_words
unfolding be_bytes be_words
big = record { four = λ x. refl; empty = refl; more = λ x xs. refl }

module _ {bytes : ℕ → List ℕ} {words : List ℕ → List ℕ} (order : ByteOrder bytes words) where
  pub words_size : (xs : List ℕ) → length (words xs) ≡ 4 * length xs
  words_size [] = rw order.empty
  words_size (x ∷ xs) = rw (order.more x xs) (omega (arith, length-append (bytes x) (words xs), order.four x, words_size xs))

  pub words_append : (xs ys : List ℕ) → words (xs ++ ys) ≡ words xs ++ words ys
  words_append [] ys = rw order.empty
  words_append (x ∷ xs) ys = rw (order.more x (xs ++ ys), order.more x xs, words_append xs ys, append_assoc)

  pub words_one : (x : ℕ) → words (x ∷ []) ≡ bytes x
  words_one x = rw (order.more x [], order.empty) (append-nil (bytes x))
