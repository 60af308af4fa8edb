-- Forms fit wholly into a line of LINE_ROOM bytes: how long the parts of a line may be, and that a text that fits is all there.
use Rattle.std.specs.Prelude.{ℕ, zero, suc, ◌+◌, ◌*◌, ◌-◌, ◌/◌, ◌%◌, ◌≤◌, ◌≡◌, refl, List, [], ◌∷◌, ◌++◌, Bool, true, false, ◌&&◌, ◌||◌, not, cond, length, take, drop, ltb, eqb}
use Rattle.std.proofs.Common.{arith, sym, ◌∙◌, length-append, take_all, take_at}
use Rattle.lxtr_spec.specs.Labels.{is_scalar, max_labels}
use Rattle.lxtr_spec.specs.Lines.{digit_of, numeral, decimal, hexadecimal}
use Rattle.lxtr_laws.specs.Overlays.{over}
use Rattle.lxtr_command_spec.specs.Utf8.{tail_byte, utf8}
use Rattle.lxtr_command_spec.specs.Forms.{is_control, shown, quoted, next_number, piece, takes, filled}
use Rattle.lxtr_text.specs.Appends.{Appended}

-- room for a form, or for what a line has besides the labels of a key; together with room for the labels it is LINE_ROOM
abbrev pub form_room : ℕ
form_room = 192

abbrev pub line_room : ℕ
line_room = form_room + 13 * max_labels

-- a text that is not longer than the line is wholly there
pub all_there : (line text line' : List ℕ) (r : ℕ) → Appended line 0 text line' r → length text ≤ length line → (r ≡ length text) × (take r line' ≡ text)
unfolding over
all_there line text line' r p h =
    let e : take (length line - 0) text ≡ text = take_all (length line - 0) text (omega arith) in
    let n : r ≡ length text = p.next ∙ rw e (omega arith) in
    let l : line' ≡ text ++ drop (0 + length text) line = p.is ∙ rw e refl in
    (n, rw l (take_at text (drop (0 + length text) line) r (sym n)))

-- ---- how long the parts of a line may be

either : (c : Bool) (m : ℕ) (xs ys : List ℕ) → length xs ≤ m → length ys ≤ m → length (cond c xs ys) ≤ m
either true m xs ys h k = h
either false m xs ys h k = k

numeral_length : (base k n : ℕ) → length (numeral base k n) ≤ k
unfolding numeral
numeral_length base zero n = omega arith
numeral_length base (suc k) n =
    either (ltb n base) (suc k) (digit_of n ∷ []) (numeral base k (n / base) ++ (digit_of (n % base) ∷ [])) (omega arith)
    (omega (arith, length-append (numeral base k (n / base)) (digit_of (n % base) ∷ []), numeral_length base k (n / base)))

pub decimal_length : (n : ℕ) → length (decimal n) ≤ 10
unfolding decimal
decimal_length n = numeral_length 10 10 n

pub hexadecimal_length : (n : ℕ) → length (hexadecimal n) ≤ 8
unfolding hexadecimal
hexadecimal_length n = numeral_length 16 8 n

utf8_length : (x : ℕ) → length (utf8 x) ≤ 4
unfolding utf8
utf8_length x =
    let four : List ℕ = (0xF0 + x / 262144) ∷ tail_byte (x / 4096) ∷ tail_byte (x / 64) ∷ tail_byte x ∷ [] in
    let three : List ℕ = (0xE0 + x / 4096) ∷ tail_byte (x / 64) ∷ tail_byte x ∷ [] in
    let two : List ℕ = (0xC0 + x / 64) ∷ tail_byte x ∷ [] in
    either (ltb x 0x80) 4 (x ∷ []) (cond (ltb x 0x800) two (cond (ltb x 0x10000) three four)) (omega arith)
    (either (ltb x 0x800) 4 two (cond (ltb x 0x10000) three four) (omega arith) (either (ltb x 0x10000) 4 three four (omega arith) (omega arith)))

pub shown_length : (x : ℕ) → length (shown x) ≤ 4
unfolding shown
shown_length x = either (is_scalar x && not (is_control x)) 4 (utf8 x) (utf8 0xFFFD) (utf8_length x) (utf8_length 0xFFFD)

-- ---- forms: a mark gives at most ten bytes, and any other byte gives itself

unfoldable pub marks : List ℕ → ℕ
marks [] = 0
marks (c ∷ f) = cond (takes c) 1 0 + marks f

piece_length : (c : ℕ) (ns : List ℕ) → length (piece c ns) ≤ 1 + 9 * cond (takes c) 1 0
unfolding piece takes quoted
piece_length c ns = go (eqb c 0x25) (eqb c 0x24) (eqb c 0x40)
  where
    n : ℕ
    n = next_number ns

    go : (p d a : Bool) → length (cond p (decimal n) (cond d (hexadecimal n) (cond a (quoted n) (c ∷ [])))) ≤ 1 + 9 * cond (p || (d || a)) 1 0
    go true d a = decimal_length n
    go false true a = omega (arith, hexadecimal_length n)
    go false false true = omega (arith, either (eqb n 0x22 || eqb n 0x5C) 4 (0x5C ∷ n ∷ []) (shown n) (omega arith) (shown_length n))
    go false false false = omega arith

pub form_length : (f ns : List ℕ) → length (filled f ns) ≤ length f + 9 * marks f
unfolding filled marks
form_length [] ns = omega arith
form_length (c ∷ f) ns =
    let rest = cond (takes c) (drop 1 ns) ns in
    omega (arith, length-append (piece c ns) (filled f rest), piece_length c ns, form_length f rest)

pub form_fits : (f ns : List ℕ) → length f + 9 * marks f ≤ form_room → length (filled f ns) ≤ line_room
form_fits f ns h = omega (arith, form_length f ns)
