-- Numbers read back from the bytes that were written for them, and bytes written back for the numbers that were read from them.
use Rattle.std.specs.Prelude.{ℕ, zero, suc, ◌+◌, ◌*◌, ◌/◌, ◌%◌, ◌^◌, ◌≤◌, ◌<◌, ◌≡◌, refl, List, [], ◌∷◌, ◌++◌, drop, get_or, length}
use Rattle.std.proofs.Math.Nat.{div-div-eq-div-mul}
use Rattle.std.proofs.Common.{div-add-mod', mod-eq_of_lt, div-lt_iff_lt-mul, arith, sym, ap, ◌∙◌, append_assoc, lit<, get_or-append-add}
use Rattle.lxtr_spec.specs.Numbers.{le32, be32, le_bytes, be_bytes, le_words, be_words}
use Rattle.lxtr_laws.specs.ByteOrders.{ByteOrder, little, big}

-- a number of 32 bits is made of its four digits of eight bits
pub digits : (n : ℕ) → n < 2 ^ 32 → n % 256 + n / 2 ^ 8 % 256 * 2 ^ 8 + n / 2 ^ 16 % 256 * 2 ^ 16 + n / 2 ^ 24 % 256 * 2 ^ 24 ≡ n
digits n h = add (n % 256) (n / 2 ^ 8) (n / 2 ^ 8 % 256) (n / 2 ^ 16) (n / 2 ^ 16 % 256) (n / 2 ^ 24) (n / 2 ^ 24 % 256) (div-add-mod' n 256)
    (sym (ap (λ (q : ℕ). q * 256 + n / 2 ^ 8 % 256) (div-div-eq-div-mul n (2 ^ 8) (2 ^ 8))) ∙ div-add-mod' (n / 2 ^ 8) 256)
    (sym (ap (λ (q : ℕ). q * 256 + n / 2 ^ 16 % 256) (div-div-eq-div-mul n (2 ^ 16) (2 ^ 8))) ∙ div-add-mod' (n / 2 ^ 16) 256) (mod-eq_of_lt ((div-lt_iff_lt-mul (lit< tt)).1 h))
  where
    add : (d0 q1 d1 q2 d2 q3 d3 : ℕ) → q1 * 256 + d0 ≡ n → q2 * 256 + d1 ≡ q1 → q3 * 256 + d2 ≡ q2 → d3 ≡ q3 → d0 + d1 * 2 ^ 8 + d2 * 2 ^ 16 + d3 * 2 ^ 24 ≡ n
    add d0 q1 d1 q2 d2 q3 d3 a b c e = omega arith

pub le_first : (n : ℕ) (r : List ℕ) → n < 2 ^ 32 → le32 (le_bytes n ++ r) 0 ≡ n
unfolding le32 le_bytes
le_first n r h = digits n h

pub be_first : (n : ℕ) (r : List ℕ) → n < 2 ^ 32 → be32 (be_bytes n ++ r) 0 ≡ n
unfolding be32 be_bytes
be_first n r h = turn (n % 256) (n / 2 ^ 8 % 256) (n / 2 ^ 16 % 256) (n / 2 ^ 24 % 256) (digits n h)
  where
    turn : (d0 d1 d2 d3 : ℕ) → d0 + d1 * 2 ^ 8 + d2 * 2 ^ 16 + d3 * 2 ^ 24 ≡ n → d3 * 2 ^ 24 + d2 * 2 ^ 16 + d1 * 2 ^ 8 + d0 ≡ n
    turn d0 d1 d2 d3 e = omega arith

-- after other bytes
past : (a r : List ℕ) (i k : ℕ) → get_or (a ++ r) (length a + i + k) 0 ≡ get_or r (i + k) 0
past a r i k = let e : length a + i + k ≡ length a + (i + k) = omega arith in ap (λ (n : ℕ). get_or (a ++ r) n 0) e ∙ get_or-append-add a r (i + k) 0

pub le_past : (a r : List ℕ) (i : ℕ) → le32 (a ++ r) (length a + i) ≡ le32 r i
unfolding le32
le_past a r i = rw (get_or-append-add a r i 0, past a r i 1, past a r i 2, past a r i 3)

pub be_past : (a r : List ℕ) (i : ℕ) → be32 (a ++ r) (length a + i) ≡ be32 r i
unfolding be32
be_past a r i = rw (get_or-append-add a r i 0, past a r i 1, past a r i 2, past a r i 3)

-- number j of several, in either byte order
module _ {bytes : ℕ → List ℕ} {words : List ℕ → List ℕ} (order : ByteOrder bytes words) (read : List ℕ → ℕ → ℕ)
    (first : (n : ℕ) (r : List ℕ) → n < 2 ^ 32 → read (bytes n ++ r) 0 ≡ n) (past : (a r : List ℕ) (i : ℕ) → read (a ++ r) (length a + i) ≡ read r i) where
  word_of_lem : (ws r : List ℕ) (j : ℕ) → j < length ws → get_or ws j 0 < 2 ^ 32 → read (words ws ++ r) (4 * j) ≡ get_or ws j 0
  word_of_lem [] r j h l = absurd (omega arith)
  word_of_lem (x ∷ ws) r zero h l = rw (order.more x ws, append_assoc) (first x (words ws ++ r) l)
  word_of_lem (x ∷ ws) r (suc j) h l =
      let e : 4 * suc j ≡ length (bytes x) + 4 * j = omega (arith, order.four x) in
      rw (order.more x ws, append_assoc, e) (past (bytes x) (words ws ++ r) (4 * j) ∙ word_of_lem ws r j (omega arith) l)

pub le_words_lem : (ws r : List ℕ) (j : ℕ) → j < length ws → get_or ws j 0 < 2 ^ 32 → le32 (le_words ws ++ r) (4 * j) ≡ get_or ws j 0
le_words_lem = word_of_lem little le32 le_first le_past

pub be_words_lem : (ws r : List ℕ) (j : ℕ) → j < length ws → get_or ws j 0 < 2 ^ 32 → be32 (be_words ws ++ r) (4 * j) ≡ get_or ws j 0
be_words_lem = word_of_lem big be32 be_first be_past

-- the four bytes of a number are those that it was read from
byte_digits : (a b c d : ℕ) → a < 2 ^ 8 → b < 2 ^ 8 → c < 2 ^ 8 → d < 2 ^ 8 → be_bytes (a * 2 ^ 24 + b * 2 ^ 16 + c * 2 ^ 8 + d) ≡ a ∷ b ∷ c ∷ d ∷ []
unfolding be_bytes
byte_digits a b c d ha hb hc hd =
    let q3 : (a * 2 ^ 24 + b * 2 ^ 16 + c * 2 ^ 8 + d) / 2 ^ 24 ≡ a = omega arith in
    let q2 : (a * 2 ^ 24 + b * 2 ^ 16 + c * 2 ^ 8 + d) / 2 ^ 16 ≡ a * 2 ^ 8 + b = omega arith in
    let q1 : (a * 2 ^ 24 + b * 2 ^ 16 + c * 2 ^ 8 + d) / 2 ^ 8 ≡ a * 2 ^ 16 + b * 2 ^ 8 + c = omega arith in
    let r3 : a % 256 ≡ a = omega arith in
    let r2 : (a * 2 ^ 8 + b) % 256 ≡ b = omega arith in
    let r1 : (a * 2 ^ 16 + b * 2 ^ 8 + c) % 256 ≡ c = omega arith in
    let r0 : (a * 2 ^ 24 + b * 2 ^ 16 + c * 2 ^ 8 + d) % 256 ≡ d = omega arith in
    rw (q3, q2, q1, r3, r2, r1, r0)

-- bytes that read as these numbers begin with the bytes of these
pub be_back : (ws r : List ℕ) → ((i : ℕ) → i < length r → get_or r i 0 < 2 ^ 8) → 4 * length ws ≤ length r → ((j : ℕ) → j < length ws → be32 r (4 * j) ≡ get_or ws j 0)
    → r ≡ be_words ws ++ drop (4 * length ws) r
unfolding be_words be32
be_back [] r small long read = refl
be_back (w ∷ ws) [] small long read = absurd (omega arith)
be_back (w ∷ ws) (a ∷ []) small long read = absurd (omega arith)
be_back (w ∷ ws) (a ∷ b ∷ []) small long read = absurd (omega arith)
be_back (w ∷ ws) (a ∷ b ∷ c ∷ []) small long read = absurd (omega arith)
be_back (w ∷ ws) (a ∷ b ∷ c ∷ d ∷ r) small long read =
    let four : be_bytes w ≡ a ∷ b ∷ c ∷ d ∷ [] =
    ap be_bytes (sym (read 0 (omega arith))) ∙ byte_digits a b c d (small 0 (omega arith)) (small 1 (omega arith)) (small 2 (omega arith)) (small 3 (omega arith)) in
    let place : (j : ℕ) → 4 + 4 * j ≡ 4 * suc j = λ j. omega arith in
    let later : r ≡ be_words ws ++ drop (4 * length ws) r =
    be_back ws r (λ i h. small (suc (suc (suc (suc i)))) (omega arith)) (omega arith)
    (λ j h. sym (be_past (a ∷ b ∷ c ∷ d ∷ []) r (4 * j)) ∙ ap (be32 (a ∷ b ∷ c ∷ d ∷ r)) (place j) ∙ read (suc j) (omega arith)) in
    let all : 4 * suc (length ws) ≡ suc (suc (suc (suc (4 * length ws)))) = omega arith in
    rw (four, all) (ap (λ (l : List ℕ). a ∷ b ∷ c ∷ d ∷ l) later)
