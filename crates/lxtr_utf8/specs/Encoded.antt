-- The text of a text's labels is that text, and scalar values are the labels of their text: so the sentences of RFC 3629 hold.
use Rattle.std.specs.Prelude.{ℕ, zero, suc, ◌+◌, ◌*◌, ◌/◌, ◌%◌, ◌≤◌, ◌<◌, ◌≡◌, refl, List, [], ◌∷◌, ◌++◌, Bool, true, false, length, drop, Option, Some, None}
use Rattle.std.proofs.Common.{arith, div-add-mod', le_refl, sym, ap, ◌∙◌, ⊎_elim, eq-eqb, length-append, length-drop}
use Rattle.std.proofs.Math.Decide.{dec_lt}
use mathlib.Core.List.Memᴰ
use Rattle.std.proofs.Math.Seq.{drop-append_seam}
use Rattle.lxtr_spec.specs.Labels.{is_scalar, comes_before}
use Rattle.lxtr_laws.specs.Tests.{and_is_true}
use Rattle.lxtr_command_spec.specs.Utf8.{tail_byte, utf8, text_of, front_number, begins_with, begins_right, option_cons, labels_of_text}
use Rattle.lxtr_utf8.specs.Fronts.{Size, one, two, three, four, size_of_lem, one_byte, two_bytes, three_bytes, four_bytes, number_one, number_two, number_three, number_four}
use Rattle.lxtr_utf8.specs.Texts.{begins_split, some_bytes, cons_some, labels_end, labels_right, labels_wrong_lem}
use Rattle.lxtr_utf8.specs.TextOrder.{by_64, by_4096, order_of_labels}
use Rattle.lxtr_utf8.specs.Octets.{Scalars, scalar_small, text_length, low_byte, seen_byte}
use Rattle.lxtr_utf8.specs.Rfc3629.{Rfc3629}

-- ---- the labels of a text

some_same : (xs ys : List ℕ) → ◌≡◌ {A = Option (List ℕ)} (Some xs) (Some ys) → xs ≡ ys
some_same xs ys e = cc

none_some : (xs : List ℕ) → ◌≡◌ {A = Option (List ℕ)} None (Some xs) → ⊥
none_some xs e = let z : ◌≡◌ {A = ℕ} 0 1 = cc in omega arith

empty : (t : List ℕ) → length t ≡ 0 → t ≡ []
empty [] e = refl
empty (x ∷ t) e = absurd (omega arith)

scalars_more : (x : ℕ) (xs : List ℕ) → is_scalar x ≡ true → Scalars xs → Scalars (x ∷ xs)
scalars_more x xs e s y m = ⊎_elim (λ same. rw same e) (s y) (Memᴰ.cases_cons m)

right : (t : List ℕ) → begins_right t ≡ true → (is_scalar (front_number t) ≡ true) × (begins_with t (utf8 (front_number t)) ≡ true)
unfolding begins_right
right t e = (and_is_true (is_scalar (front_number t)) (begins_with t (utf8 (front_number t)))).0 e

read_none : (t xs : List ℕ) → length t ≡ 0 → labels_of_text t ≡ Some xs → Scalars xs × (text_of xs ≡ t)
unfolding text_of
read_none t xs z e =
    let f : [] ≡ xs = some_same [] xs (sym (labels_end t z) ∙ e) in
    (λ x m. absurd (Memᴰ.not-nil (rw (sym f) at m)), rw (sym f) (sym (empty t z)))

read : (k : ℕ) (t xs : List ℕ) → length t ≤ k → labels_of_text t ≡ Some xs → Scalars xs × (text_of xs ≡ t)
unfolding text_of
read zero t xs h e = read_none t xs (omega arith) e
read (suc k) t xs h e = go (read k) (dec_lt 0 (length t)) (begins_right t) refl
  where
    go : ((u ys : List ℕ) → length u ≤ k → labels_of_text u ≡ Some ys → Scalars ys × (text_of ys ≡ u)) → Dec (0 < length t) → (a : Bool) → begins_right t ≡ a → Scalars xs × (text_of xs ≡ t)
    go ih (no n) a r = read_none t xs (omega arith) e
    go ih (yes p) false r = absurd (none_some xs (sym (labels_wrong_lem t p r) ∙ e))
    go ih (yes p) true r =
        let x = front_number t in
        let u = drop (length (utf8 x)) t in
        let (ys, f, g) = cons_some x (labels_of_text u) xs (sym (labels_right t p r) ∙ e) in
        let l = length-drop (length (utf8 x)) t in
        let b = some_bytes x in
        let (scalars, is) = ih u ys (omega arith) f in
        let (scalar, begins) = right t r in
        (rw g (scalars_more x ys scalar scalars), rw g (ap (λ (v : List ℕ). utf8 x ++ v) is ∙ sym (begins_split t (utf8 x) begins)))

-- ---- the text of labels

-- The bits of a number's bytes give the number: r, m and p are its six-bit parts, starting with the lowest, and q is what is left.
bits_two : (q r : ℕ) → q < 32 → r < 64 → (0xC0 + q) % 32 * 64 + (0x80 + r) % 64 ≡ q * 64 + r
bits_two q r h k = omega arith

bits_three : (q m r : ℕ) → q < 16 → m < 64 → r < 64 → (0xE0 + q) % 16 * 4096 + (0x80 + m) % 64 * 64 + (0x80 + r) % 64 ≡ (q * 64 + m) * 64 + r
bits_three q m r h k l = omega arith

bits_four : (q p m r : ℕ) → q < 8 → p < 64 → m < 64 → r < 64 → (0xF0 + q) % 8 * 262144 + (0x80 + p) % 64 * 4096 + (0x80 + m) % 64 * 64 + (0x80 + r) % 64 ≡ ((q * 64 + p) * 64 + m) * 64 + r
bits_four q p m r h j k l = omega arith

parts_two : (x : ℕ) → x / 64 * 64 + x % 64 ≡ x
parts_two x = div-add-mod' x 64

parts_three : (x : ℕ) → (x / 64 / 64 * 64 + x / 64 % 64) * 64 + x % 64 ≡ x
parts_three x = rw (parts_two (x / 64)) (parts_two x)

parts_four : (x : ℕ) → ((x / 64 / 64 / 64 * 64 + x / 64 / 64 % 64) * 64 + x / 64 % 64) * 64 + x % 64 ≡ x
parts_four x = rw (parts_two (x / 64 / 64)) (parts_three x)

number_back : (x : ℕ) (s : List ℕ) → x < 0x110000 → front_number (utf8 x ++ s) ≡ x
number_back x s small = go (size_of_lem x)
  where
    go : Size x → front_number (utf8 x ++ s) ≡ x
    go (one h) = rw (one_byte x h) (sym (number_one (x ∷ s) x refl h))
    go (two l h) =
        rw (two_bytes x l h)
        (sym (number_two ((0xC0 + x / 64) ∷ tail_byte x ∷ s) (0xC0 + x / 64) refl (tail_byte x) refl (omega arith) (omega arith))
        ∙ bits_two (x / 64) (x % 64) (omega arith) (omega arith) ∙ parts_two x)
    go (three l h) =
        rw (three_bytes x l h, by_64 x)
        (sym (number_three ((0xE0 + x / 64 / 64) ∷ tail_byte (x / 64) ∷ tail_byte x ∷ s) (0xE0 + x / 64 / 64) refl (tail_byte (x / 64)) refl (tail_byte x) refl (omega arith) (omega arith))
        ∙ bits_three (x / 64 / 64) (x / 64 % 64) (x % 64) (omega arith) (omega arith) (omega arith) ∙ parts_three x)
    go (four l) =
        rw (four_bytes x l, by_4096 x, by_64 x)
        (sym (number_four ((0xF0 + x / 64 / 64 / 64) ∷ tail_byte (x / 64 / 64) ∷ tail_byte (x / 64) ∷ tail_byte x ∷ s) (0xF0 + x / 64 / 64 / 64) refl (tail_byte (x / 64 / 64)) refl (tail_byte (x / 64)) refl (tail_byte x) refl (omega arith) (omega arith))
        ∙ bits_four (x / 64 / 64 / 64) (x / 64 / 64 % 64) (x / 64 % 64) (x % 64) (omega arith) (omega arith) (omega arith) (omega arith) ∙ parts_four x)

begins_append : (ys s : List ℕ) → begins_with (ys ++ s) ys ≡ true
unfolding begins_with
begins_append [] s = refl
begins_append (y ∷ ys) s = rw (eq-eqb y y refl) (begins_append ys s)

front_right : (x : ℕ) (s : List ℕ) → is_scalar x ≡ true → begins_right (utf8 x ++ s) ≡ true
unfolding begins_right
front_right x s e = rw (number_back x s (scalar_small x e), e, begins_append (utf8 x) s)

encoded : (xs : List ℕ) → Scalars xs → labels_of_text (text_of xs) ≡ Some xs
unfolding text_of option_cons
encoded [] scalars = labels_end [] refl
encoded (x ∷ xs) scalars = go (encoded xs (λ y m. scalars y (Memᴰ.tail m))) (scalars x (Memᴰ.head refl))
  where
    go : labels_of_text (text_of xs) ≡ Some xs → is_scalar x ≡ true → labels_of_text (utf8 x ++ text_of xs) ≡ Some (x ∷ xs)
    go ih e =
        let b = some_bytes x in
        let l = length-append (utf8 x) (text_of xs) in
        labels_right (utf8 x ++ text_of xs) (omega arith) (front_right x (text_of xs) e)
        ∙ rw (number_back x (text_of xs) (scalar_small x e), drop-append_seam (utf8 x) (text_of xs), ih) refl

-- ---- RFC 3629

pub text_of_lem : (t xs : List ℕ) → labels_of_text t ≡ Some xs → text_of xs ≡ t
text_of_lem t xs e = (read (length t) t xs (le_refl (length t)) e).1

pub labels_scalar : (t xs : List ℕ) → labels_of_text t ≡ Some xs → Scalars xs
labels_scalar t xs e = (read (length t) t xs (le_refl (length t)) e).0

pub order_of_texts : (t u xs ys : List ℕ) → labels_of_text t ≡ Some xs → labels_of_text u ≡ Some ys → comes_before xs ys ≡ comes_before t u
order_of_texts t u xs ys e f = rw (sym (text_of_lem t xs e), sym (text_of_lem u ys f)) (order_of_labels xs ys)

pub rfc3629 : (t : List ℕ) → Rfc3629 t
rfc3629 t = record {
  reading = λ xs. (λ e. (labels_scalar t xs e, text_of_lem t xs e), λ p. sym (ap labels_of_text p.1) ∙ encoded xs p.0);
  octets = λ xs e. rw (text_of_lem t xs e) at (text_length xs);
  ascii = λ xs e b low m. low_byte b low xs (rw (sym (text_of_lem t xs e)) at m);
  never = λ xs e b m. seen_byte xs (labels_scalar t xs e) b (rw (sym (text_of_lem t xs e)) at m);
  order = order_of_texts t;
}
