-- The table of commands as a list of rows: the answer of the first row with a name.
use Rattle.std.specs.Prelude.{ℕ, suc, ◌+◌, ◌≤◌, ◌<◌, ◌≡◌, refl, List, [], ◌∷◌, Bool, true, false, ◌&&◌, length, drop, get_or, eqb}
use Rattle.std.proofs.Common.{sym, ap, ◌∙◌, add-one, drop-cons, drop_of_length-le}
use denote.Bor.{Bor}
use lib.Pointwise.{pointwise}
use Rattle.lxtr_command_spec.specs.Commands.{same_bytes, taking}
use Rattle.lxtr_command_spec.specs.declared.Command.{Command}
use Rattle.lxtr_command_spec.specs.declared.Command.TheVariants.{Unknown}

-- a name, its command, and from how many to how many operands it takes
abbrev pub Row : Type 0
Row = Bor (List ℕ) × Command × ℕ × ℕ

unfoldable pub answer_in : List Row → List ℕ → ℕ → Command
answer_in [] name n = Unknown
answer_in (r ∷ rs) name n = elim (same_bytes name r.0.now) [ true ↦ taking r.1 r.2 r.3 n | false ↦ answer_in rs name n ]

equal_bytes : (a b : List ℕ) → pointwise eqb a b ≡ same_bytes a b
unfolding same_bytes
equal_bytes [] [] = refl
equal_bytes [] (y ∷ b) = refl
equal_bytes (x ∷ a) [] = refl
equal_bytes (x ∷ a) (y ∷ b) = ap (λ (t : Bool). eqb x y && t) (equal_bytes a b)

-- the rows from place i on decide; t is whether the row at i has the name
module _ (table : List Row) (name : List ℕ) (n : ℕ) (i : ℕ) (s : answer_in (drop i table) name n ≡ answer_in table name n) where
  module _ (r : Row) (h : i < length table) (t : Bool) (is : t ≡ pointwise eqb name (get_or table i r).0.now) where
    pub this_row : t ≡ true → taking (get_or table i r).1 (get_or table i r).2 (get_or table i r).3 n ≡ answer_in table name n
    unfolding answer_in
    this_row e = let first : same_bytes name (get_or table i r).0.now ≡ true = sym (equal_bytes name (get_or table i r).0.now) ∙ sym is ∙ e in
        let row : answer_in (get_or table i r ∷ drop (suc i) table) name n ≡ taking (get_or table i r).1 (get_or table i r).2 (get_or table i r).3 n = rw (first, answer_in) refl in
        sym row ∙ ap (λ (l : List Row). answer_in l name n) (sym (drop-cons table i r h)) ∙ s

    pub next_row : t ≡ false → answer_in (drop (i + 1) table) name n ≡ answer_in table name n
    unfolding answer_in
    next_row e = let first : same_bytes name (get_or table i r).0.now ≡ false = sym (equal_bytes name (get_or table i r).0.now) ∙ sym is ∙ e in
        let row : answer_in (get_or table i r ∷ drop (suc i) table) name n ≡ answer_in (drop (suc i) table) name n = rw (first, answer_in) refl in
        rw add-one (sym row ∙ ap (λ (l : List Row). answer_in l name n) (sym (drop-cons table i r h)) ∙ s)

  pub no_row : length table ≤ i → Unknown ≡ answer_in table name n
  unfolding answer_in
  no_row h = ap (λ (l : List Row). answer_in l name n) (sym (drop_of_length-le table h)) ∙ s
