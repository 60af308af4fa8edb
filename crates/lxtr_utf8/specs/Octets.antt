-- The bytes of a text: how many there are, those below 80, and those that never appear.
use Rattle.std.specs.Prelude.{ℕ, ◌+◌, ◌*◌, ◌/◌, ◌≤◌, ◌<◌, ◌≡◌, refl, ◌⊎◌, true, length}
use Rattle.std.proofs.Common.{arith, inl, inr, length-append}
use Rattle.std.proofs.Math.Logic.{⊎_elim}
use mathlib.Core.List.Memᴰ
use mathlib.Core.List.{List, [], ◌∷◌, Memᴰ}
use Rattle.lxtr_spec.specs.Labels.{is_scalar}
use Rattle.lxtr_laws.specs.RangeTests.{tests}
use Rattle.lxtr_command_spec.specs.Utf8.{tail_byte, utf8, text_of}
use Rattle.lxtr_utf8.specs.Fronts.{Size, one, two, three, four, size_of_lem, one_byte, two_bytes, three_bytes, four_bytes, count_one_lem, count_two, count_three, count_four}
use Rattle.lxtr_utf8.specs.Texts.{some_bytes}

-- each number is a scalar value
abbrev pub Scalars : List ℕ → Type 0
Scalars xs = (x : ℕ) → Memᴰ x xs → is_scalar x ≡ true

pub scalar_small : (x : ℕ) → is_scalar x ≡ true → x < 0x110000
unfolding is_scalar
scalar_small x e = let f = simp tests at e in omega (arith, f.0)

-- ---- how many there are

few_bytes : (x : ℕ) → length (utf8 x) ≤ 4
few_bytes x = go (size_of_lem x)
  where
    go : Size x → length (utf8 x) ≤ 4
    go (one h) = omega (arith, count_one_lem x h)
    go (two l h) = omega (arith, count_two x l h)
    go (three l h) = omega (arith, count_three x l h)
    go (four l) = omega (arith, count_four x l)

pub text_length : (xs : List ℕ) → (length xs ≤ length (text_of xs)) × (length (text_of xs) ≤ 4 * length xs)
unfolding text_of
text_length [] = (omega arith, omega arith)
text_length (x ∷ xs) =
    let l = length-append (utf8 x) (text_of xs) in
    let (a, b) = text_length xs in
    (omega (arith, some_bytes x), omega (arith, few_bytes x))

-- ---- those below 80

-- a byte below 80 is not among bytes of 80 or more
module _ (b : ℕ) (low : b < 0x80) where
  past : {ys : List ℕ} (y : ℕ) → 0x80 ≤ y → (Memᴰ b ys → ⊥) → Memᴰ b (y ∷ ys) → ⊥
  past y h f m = ⊎_elim (λ e. omega arith) f (Memᴰ.cases_cons m)

  own_byte : (x : ℕ) → Memᴰ b (utf8 x) → b ≡ x
  own_byte x m = go (size_of_lem x)
    where
      go : Size x → b ≡ x
      go (one h) = Memᴰ.eq_of_singleton (rw (one_byte x h) at m)
      go (two l h) = absurd (past (0xC0 + x / 64) (omega arith) (past (tail_byte x) (omega arith) Memᴰ.not-nil) (rw (two_bytes x l h) at m))
      go (three l h) =
          absurd (past (0xE0 + x / 4096) (omega arith) (past (tail_byte (x / 64)) (omega arith) (past (tail_byte x) (omega arith) Memᴰ.not-nil))
          (rw (three_bytes x l h) at m))
      go (four l) =
          absurd (past (0xF0 + x / 262144) (omega arith)
          (past (tail_byte (x / 4096)) (omega arith) (past (tail_byte (x / 64)) (omega arith) (past (tail_byte x) (omega arith) Memᴰ.not-nil)))
          (rw (four_bytes x l) at m))

  pub low_byte : (xs : List ℕ) → Memᴰ b (text_of xs) → Memᴰ b xs
  unfolding text_of
  low_byte [] m = m
  low_byte (x ∷ xs) m = ⊎_elim (λ (n : Memᴰ b (utf8 x)). Memᴰ.head (own_byte x n)) (λ n. Memᴰ.tail (low_byte xs n)) (Memᴰ.append_cases (utf8 x) m)

-- ---- those that never appear

-- neither C0 nor C1 nor F5 or above
abbrev Seen : ℕ → Type 0
Seen b = (b < 0xC0) ⊎ ((0xC2 ≤ b) × (b < 0xF5))

abbrev AllSeen : List ℕ → Type 0
AllSeen ys = (b : ℕ) → Memᴰ b ys → Seen b

no_byte_lem : AllSeen []
no_byte_lem b m = absurd (Memᴰ.not-nil m)

more_seen : {ys : List ℕ} (y : ℕ) → Seen y → AllSeen ys → AllSeen (y ∷ ys)
more_seen y s f b m = ⊎_elim (λ e. rw e s) (f b) (Memᴰ.cases_cons m)

tail_seen : {ys : List ℕ} (x : ℕ) → AllSeen ys → AllSeen (tail_byte x ∷ ys)
tail_seen x f = more_seen (tail_byte x) (inl (omega arith)) f

bytes_seen : (x : ℕ) → x < 0x110000 → AllSeen (utf8 x)
bytes_seen x small = go (size_of_lem x)
  where
    go : Size x → AllSeen (utf8 x)
    go (one h) = rw (one_byte x h) (more_seen x (inl (omega arith)) no_byte_lem)
    go (two l h) = rw (two_bytes x l h) (more_seen (0xC0 + x / 64) (inr (omega arith, omega arith)) (tail_seen x no_byte_lem))
    go (three l h) = rw (three_bytes x l h) (more_seen (0xE0 + x / 4096) (inr (omega arith, omega arith)) (tail_seen (x / 64) (tail_seen x no_byte_lem)))
    go (four l) = rw (four_bytes x l) (more_seen (0xF0 + x / 262144) (inr (omega arith, omega arith)) (tail_seen (x / 4096) (tail_seen (x / 64) (tail_seen x no_byte_lem))))

pub seen_byte : (xs : List ℕ) → Scalars xs → AllSeen (text_of xs)
unfolding text_of
seen_byte [] scalars b m = no_byte_lem b m
seen_byte (x ∷ xs) scalars b m =
    ⊎_elim (bytes_seen x (scalar_small x (scalars x (Memᴰ.head refl))) b) (seen_byte xs (λ y n. scalars y (Memᴰ.tail n)) b) (Memᴰ.append_cases (utf8 x) m)
