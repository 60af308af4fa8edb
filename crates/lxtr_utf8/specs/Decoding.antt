-- The library's reading of a text in UTF-8 is that of the definitions: how many labels there are, and the labels in the room.
use Rattle.std.specs.Prelude.{ℕ, suc, ◌+◌, ◌*◌, ◌/◌, ◌≤◌, ◌<◌, ◌≡◌, refl, List, [], ◌∷◌, ◌++◌, true, length, drop, get_or, Option, Some, None, Ok, Err}
use Rattle.std.proofs.Common.{arith, sym, ap, ◌∙◌, ⊎_elim, le-leb, le_refl, zero-add, take_all}
use borrow.Author.Tests.{lt-ltb, le-ltb}
use Rattle.std.proofs.lemmas.Bool.{lt-leb}
use Rattle.std.proofs.lemmas.Bool.Decides.{nat_tests}
use Rattle.std.specs.Str.{IsUtf8, IsAscii, chars}
use Rattle.std.proofs.lemmas.List.{get_or_default}
use Rattle.std.proofs.lemmas.Str.{encodes-chars, scalars-chars}
use lib.Utf8.{scalar, scalars, encode, encodes}
use mathlib.Core.List.Memᴰ
use Rattle.lxtr_spec.specs.Labels.{is_scalar}
use Rattle.lxtr_spec.specs.Numbers.{be_bytes, be_words}
use Rattle.lxtr_laws.specs.ByteOrders.{big, words_size}
use Rattle.lxtr_laws.specs.Overlays.{over, WordsIn, words_next}
use Rattle.lxtr_laws.specs.Tests.{and_is_true}
use Rattle.lxtr_command_spec.specs.Utf8.{DecodingAnswer, utf8, text_of, labels_of_text, counted, count_of, decoding, decoding_of, decoded_in}
use Rattle.lxtr_command_spec.specs.declared.TextProblem.TheVariants.{NotUtf8, NoRoom}
use Rattle.lxtr_utf8.specs.Octets.{Scalars}
use Rattle.lxtr_utf8.specs.Fronts.{one_byte}
use Rattle.lxtr_utf8.specs.Encoded.{rfc3629}

-- the labels of a text; none if it is not UTF-8
unfoldable pub or_empty : Option (List ℕ) → List ℕ
or_empty None = []
or_empty (Some xs) = xs

unfoldable pub labels_in : List ℕ → List ℕ
labels_in t = or_empty (labels_of_text t)

-- ---- the library's text

same_scalar : (x : ℕ) → is_scalar x ≡ scalar x
unfolding is_scalar
same_scalar x = grind (arith, nat_tests)

same_text : (xs : List ℕ) → encodes xs ≡ text_of xs
unfolding utf8 encode text_of
same_text [] = refl
same_text (x ∷ xs) = ap (λ (l : List ℕ). utf8 x ++ l) (same_text xs)

all_scalars : (xs : List ℕ) → scalars xs ≡ true → Scalars xs
all_scalars [] e x m = absurd (Memᴰ.not-nil m)
all_scalars (y ∷ xs) e x m =
    let p = (and_is_true (scalar y) (scalars xs)).0 e in ⊎_elim (λ same. sym (ap is_scalar (sym same)) ∙ same_scalar y ∙ p.0) (all_scalars xs p.1 x) (Memᴰ.cases_cons m)

scalars_all : (xs : List ℕ) → Scalars xs → scalars xs ≡ true
scalars_all [] s = refl
scalars_all (x ∷ xs) s = (and_is_true (scalar x) (scalars xs)).1 (sym (same_scalar x) ∙ s x (Memᴰ.head refl), scalars_all xs (λ y m. s y (Memᴰ.tail m)))

module _ (t : List ℕ) (u : IsUtf8 t) where
  pub labels_read : labels_of_text t ≡ Some (chars t)
  labels_read = ((rfc3629 t).reading (chars t)).1 (all_scalars (chars t) (scalars-chars t u), sym (same_text (chars t)) ∙ encodes-chars t u)

  pub counted_ok : (n : ℕ) → n ≡ length (chars t) → decoded_in (Ok n) ≡ count_of t
  unfolding count_of counted
  counted_ok n h = rw (labels_read, counted, h) refl

module _ (t : List ℕ) (wrong : IsUtf8 t → ⊥) where
  pub no_labels : labels_of_text t ≡ None
  no_labels = go (labels_of_text t) refl
    where
      go : (o : Option (List ℕ)) → labels_of_text t ≡ o → o ≡ None
      go None e = refl
      go (Some xs) e = let p = ((rfc3629 t).reading xs).0 e in absurd (wrong (xs, (scalars_all xs p.0, same_text xs ∙ p.1)))

  pub counted_wrong : decoded_in (Err NotUtf8) ≡ count_of t
  unfolding count_of counted
  counted_wrong = rw (no_labels, counted) refl

-- ---- the text of bytes below 80

ascii_scalar : (x : ℕ) → x < 0x80 → is_scalar x ≡ true
unfolding is_scalar
ascii_scalar x h = rw (le-leb x 0x10FFFF (omega arith), lt-leb 0xD800 x (omega arith)) refl

ascii_scalars : (t : List ℕ) → IsAscii t → Scalars t
ascii_scalars [] a x m = absurd (Memᴰ.not-nil m)
ascii_scalars (y ∷ t) a x m = ⊎_elim (λ same. rw same (ascii_scalar y (a 0))) (ascii_scalars t (λ i. a (suc i)) x) (Memᴰ.cases_cons m)

ascii_text : (t : List ℕ) → IsAscii t → text_of t ≡ t
unfolding text_of
ascii_text [] a = refl
ascii_text (y ∷ t) a = rw (one_byte y (a 0)) (ap (λ (l : List ℕ). y ∷ l) (ascii_text t (λ i. a (suc i))))

-- the labels of a text whose bytes are all below 80 are its bytes
module _ (t : List ℕ) (ascii : IsAscii t) where
  pub ascii_labels : labels_of_text t ≡ Some t
  ascii_labels = ((rfc3629 t).reading t).1 (ascii_scalars t ascii, ascii_text t ascii)

  pub counted_ascii : decoded_in (Ok (length t)) ≡ count_of t
  unfolding count_of counted
  counted_ascii = rw (ascii_labels, counted) refl

-- ---- the labels in the room

-- so many labels are in the room
module _ (room xs : List ℕ) (large : 4 * length xs ≤ length room) (i at : ℕ) (is : at ≡ 4 * i) (room' : List ℕ) (s : WordsIn be_words room xs 0 i room') where
  pub next_fits : length room' ≡ length room → i < length xs → at + 4 ≤ length room'
  next_fits e h = omega arith

  pub label_put : (x : ℕ) (room'' : List ℕ) → (i < length xs) × (x ≡ get_or xs i x) → room'' ≡ over room' at (be_bytes x) → WordsIn be_words room xs 0 (i + 1) room''
  label_put x room'' t e =
      let a : at ≡ 0 + 4 * i = omega arith in
      let g : x ≡ get_or xs i 0 = t.1 ∙ get_or_default xs i x 0 t.0 in
      words_next big room xs 0 (length xs) (omega arith) (le_refl (length xs)) i room' s room'' t.0 (rw (← a, ← g) e)

  pub all_put : i ≡ length xs → room' ≡ over room 0 (be_words xs)
  all_put e = s ∙ ap (λ (l : List ℕ). over room 0 (be_words l)) (take_all i xs (omega arith))

module _ (t room : List ℕ) where
  pub decoded_wrong : (IsUtf8 t → ⊥) → record { answer = decoded_in (Err NotUtf8); room = room } ≡ decoding_of t room
  unfolding decoding_of decoding
  decoded_wrong w = rw (no_labels t w, decoding) refl

  module _ (u : IsUtf8 t) (n : ℕ) (is : n ≡ length (chars t)) where
    pub decoded_short : length room / 4 < n → record { answer = decoded_in (Err NoRoom); room = room } ≡ decoding_of t room
    unfolding decoding_of decoding
    decoded_short h = rw (labels_read t u, decoding, lt-ltb (length room) (4 * length (chars t)) (omega (arith, is))) refl

    module _ (h : n ≤ length room / 4) where
      pub room_long : 4 * length (chars t) ≤ length room
      room_long = omega (arith, is)

      pub decoded_ok : (room' : List ℕ) → room' ≡ over room 0 (be_words (chars t)) → record { answer = decoded_in (Ok n); room = room' } ≡ decoding_of t room
      unfolding decoding_of decoding over
      decoded_ok room' e =
          rw (labels_read t u, decoding, le-ltb (length room) (4 * length (chars t)) room_long, is, e)
          (ap {B = DecodingAnswer} (λ (k : ℕ). record { answer = record { problem = 0; count = length (chars t) }; room = be_words (chars t) ++ drop k room }) (zero-add (length (be_words (chars t))) ∙ words_size big (chars t)))
