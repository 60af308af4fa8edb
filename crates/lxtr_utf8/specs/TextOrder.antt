-- Section 1: the order of texts by their bytes is the order of their labels. It holds for all numbers, scalar values or not.
use Rattle.std.specs.Prelude.{ℕ, ◌+◌, ◌/◌, ◌≤◌, ◌<◌, ◌≡◌, refl, List, [], ◌∷◌, ◌++◌, true, false, length}
use Rattle.std.proofs.Common.{arith, sym, ap, ◌∙◌, inl, append_assoc, length-append}
use Rattle.std.proofs.Math.Decide.{dec_lt}
use Rattle.std.proofs.Math.Nat.{div-div-eq-div-mul}
use Rattle.lxtr_spec.specs.Labels.{comes_before}
use Rattle.lxtr_laws.specs.Tests.{is_false}
use Rattle.lxtr_laws.specs.KeyOrder.{first_or_rest, before_common, before_self, before_trans}
use Rattle.lxtr_command_spec.specs.Utf8.{tail_byte, utf8, text_of}
use Rattle.lxtr_utf8.specs.Fronts.{Size, one, two, three, four, size_of_lem, one_byte, two_bytes, three_bytes, four_bytes}
use Rattle.lxtr_utf8.specs.Texts.{some_bytes}

-- the bytes of numbers are ordered as the numbers are, whatever follows them
abbrev Rises : (ℕ → List ℕ) → Type 0
Rises f = (x y : ℕ) (s t : List ℕ) → x < y → comes_before (f x ++ s) (f y ++ t) ≡ true

first_less : (x y : ℕ) (k l : List ℕ) → x < y → comes_before (x ∷ k) (y ∷ l) ≡ true
first_less x y k l h = (first_or_rest x y k l).1 (inl h)

lead : ℕ → ℕ → List ℕ
lead b x = (b + x) ∷ []

-- the bytes of all bits but the six lowest, and then a byte with these
more : (ℕ → List ℕ) → ℕ → List ℕ
more f x = f (x / 64) ++ (tail_byte x ∷ [])

lead_rises : (b : ℕ) → Rises (lead b)
unfolding lead
lead_rises b x y s t h = first_less (b + x) (b + y) s t (omega arith)

more_rises : (f : ℕ → List ℕ) → Rises f → Rises (more f)
unfolding more
more_rises f rises x y s t h =
    rw (append_assoc (f (x / 64)) (tail_byte x ∷ []) s, append_assoc (f (y / 64)) (tail_byte y ∷ []) t) (go (dec_lt (x / 64) (y / 64)))
  where
    go : Dec (x / 64 < y / 64) → comes_before (f (x / 64) ++ (tail_byte x ∷ s)) (f (y / 64) ++ (tail_byte y ∷ t)) ≡ true
    go (yes l) = rises (x / 64) (y / 64) (tail_byte x ∷ s) (tail_byte y ∷ t) l
    go (no n) =
        let e : x / 64 ≡ y / 64 = omega arith in
        rw (e, before_common (f (y / 64)) (tail_byte x ∷ s) (tail_byte y ∷ t)) (first_less (tail_byte x) (tail_byte y) s t (omega arith))

-- the four forms in these terms
pub by_64 : (x : ℕ) → x / 4096 ≡ x / 64 / 64
by_64 x = sym (div-div-eq-div-mul x 64 64)

pub by_4096 : (x : ℕ) → x / 262144 ≡ x / 64 / 64 / 64
by_4096 x = sym (ap (λ (n : ℕ). n / 64) (div-div-eq-div-mul x 64 64) ∙ div-div-eq-div-mul x 4096 64)

form_two : (x : ℕ) → 0x80 ≤ x → x < 0x800 → utf8 x ≡ more (lead 0xC0) x
unfolding lead more
form_two x l h = two_bytes x l h

form_three : (x : ℕ) → 0x800 ≤ x → x < 0x10000 → utf8 x ≡ more (more (lead 0xE0)) x
unfolding lead more
form_three x l h = three_bytes x l h ∙ rw (by_64 x) refl

form_four : (x : ℕ) → 0x10000 ≤ x → utf8 x ≡ more (more (more (lead 0xF0))) x
unfolding lead more
form_four x l = four_bytes x l ∙ rw (by_4096 x, by_64 x) refl

utf8_rises : Rises utf8
utf8_rises x y s t h = go (size_of_lem x) (size_of_lem y)
  where
    go : Size x → Size y → comes_before (utf8 x ++ s) (utf8 y ++ t) ≡ true
    go (one a) (one b) = rw (one_byte x a, one_byte y b) (first_less x y s t h)
    go (one a) (two l b) = rw (one_byte x a, two_bytes y l b) (first_less _ _ _ _ (omega arith))
    go (one a) (three l b) = rw (one_byte x a, three_bytes y l b) (first_less _ _ _ _ (omega arith))
    go (one a) (four l) = rw (one_byte x a, four_bytes y l) (first_less _ _ _ _ (omega arith))
    go (two k a) (one b) = absurd (omega arith)
    go (two k a) (two l b) = rw (form_two x k a, form_two y l b) (more_rises (lead 0xC0) (lead_rises 0xC0) x y s t h)
    go (two k a) (three l b) = rw (two_bytes x k a, three_bytes y l b) (first_less _ _ _ _ (omega arith))
    go (two k a) (four l) = rw (two_bytes x k a, four_bytes y l) (first_less _ _ _ _ (omega arith))
    go (three k a) (one b) = absurd (omega arith)
    go (three k a) (two l b) = absurd (omega arith)
    go (three k a) (three l b) = rw (form_three x k a, form_three y l b) (more_rises (more (lead 0xE0)) (more_rises (lead 0xE0) (lead_rises 0xE0)) x y s t h)
    go (three k a) (four l) = rw (three_bytes x k a, four_bytes y l) (first_less _ _ _ _ (omega arith))
    go (four k) (one b) = absurd (omega arith)
    go (four k) (two l b) = absurd (omega arith)
    go (four k) (three l b) = absurd (omega arith)
    go (four k) (four l) = rw (form_four x k, form_four y l) (more_rises (more (more (lead 0xF0))) (more_rises (more (lead 0xF0)) (more_rises (lead 0xF0) (lead_rises 0xF0))) x y s t h)

-- ---- texts

not_after : (k l : List ℕ) → comes_before l k ≡ true → comes_before k l ≡ false
not_after k l h = is_false (comes_before k l) (λ e. before_self k (before_trans k l k e h))

none_first : (l : List ℕ) → 1 ≤ length l → comes_before [] l ≡ true
unfolding comes_before
none_first [] h = absurd (omega arith)
none_first (x ∷ l) h = refl

text_some : (x : ℕ) (xs : List ℕ) → 1 ≤ length (text_of (x ∷ xs))
unfolding text_of
text_some x xs = omega (arith, length-append (utf8 x) (text_of xs), some_bytes x)

-- the order of lists of labels
pub order_of_labels : (xs ys : List ℕ) → comes_before xs ys ≡ comes_before (text_of xs) (text_of ys)
unfolding comes_before text_of
order_of_labels [] [] = refl
order_of_labels [] (y ∷ ys) = sym (none_first (text_of (y ∷ ys)) (text_some y ys))
order_of_labels (x ∷ xs) [] = sym (not_after (text_of (x ∷ xs)) [] (none_first (text_of (x ∷ xs)) (text_some x xs)))
order_of_labels (x ∷ xs) (y ∷ ys) = go (order_of_labels xs ys) (dec_lt x y) (dec_lt y x)
  where
    go : comes_before xs ys ≡ comes_before (text_of xs) (text_of ys) → Dec (x < y) → Dec (y < x) → comes_before (x ∷ xs) (y ∷ ys) ≡ comes_before (utf8 x ++ text_of xs) (utf8 y ++ text_of ys)
    go ih (yes h) d = first_less x y xs ys h ∙ sym (utf8_rises x y (text_of xs) (text_of ys) h)
    go ih (no n) (yes h) =
        not_after (x ∷ xs) (y ∷ ys) (first_less y x ys xs h)
        ∙ sym (not_after (utf8 x ++ text_of xs) (utf8 y ++ text_of ys) (utf8_rises y x (text_of ys) (text_of xs) h))
    go ih (no n) (no m) =
        let e : x ≡ y = omega arith in
        rw (e) (before_common (y ∷ []) xs ys ∙ ih ∙ sym (before_common (utf8 y) (text_of xs) (text_of ys)))
