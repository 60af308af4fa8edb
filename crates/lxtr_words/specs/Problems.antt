-- The first line that makes no word.
use Prim.Native.Nat.{ℕ, zero, suc, ◌+◌, ◌≤◌, ◌<◌}
use Rattle.std.specs.Prelude.{◌≡◌, refl, ◌≢◌, cond, List, [], ◌∷◌, true, false, ltb, eqb, length, Option, Some, None, is_some, Ok, Err}
use Rattle.std.proofs.Math.Path.{sym, ap}
use Rattle.std.proofs.Common.{◌∙◌, arith}
use borrow.Author.Tests.{lt-ltb, le-ltb, eq-eqb, ne_eqb}
use Rattle.lxtr_spec.specs.Labels.{max_labels}
use Rattle.lxtr_command_spec.specs.Utf8.{Decoded, labels_of_text, counted, count_of, text_number, decoded_in}
use Rattle.lxtr_command_spec.specs.WordLists.{Keyed, lines_of, word_of, labels_problem, word_problem, first_problem, problem_number, problem_line}
use Rattle.lxtr_command_spec.specs.declared.TextProblem.{TextProblem}
use Rattle.lxtr_command_spec.specs.declared.TextProblem.TheVariants.{NotUtf8, NoRoom}
use Rattle.lxtr_command_spec.specs.declared.WordProblem.{WordProblem}
use Rattle.lxtr_command_spec.specs.declared.WordProblem.TheVariants.{LongWord}
use Rattle.lxtr_command_spec.specs.declared.WordProblem.TheVariants as words
use Rattle.lxtr_words.specs.TextLines.{line_at, line_end, word_at, lines_left, LineTo, left_all, left_more, left_none}
use Rattle.lxtr_words.specs.WordTables.{LinesRight}

-- the answer for the first problem, with its line
unfoldable pub problem_answer : Option (ℕ × ℕ) → Keyed
problem_answer None = record { problem = 0; line = 0; count = 0; length = 0 }
problem_answer (Some p) = record { problem = p.0; line = p.1; count = 0; length = 0 }

-- the number of a problem and its line, as the definition of the first problem has them
abbrev pub found_in : Option WordProblem → Option (ℕ × ℕ)
found_in None = None
found_in (Some p) = Some (problem_number p, problem_line p)

-- the same of one line, whose word has the problem of a number
unfoldable pub word_found : ℕ → ℕ → Option (ℕ × ℕ)
word_found line zero = None
word_found line (suc k) = Some (suc k, line)

-- ---- one word, whose labels were counted

-- the problem of the word, depending on what was counted
by_count : Decoded → ℕ
by_count d = cond (eqb d.problem 0) (cond (ltb max_labels d.count) 2 0) 1

counted_problem : (o : Option (List ℕ)) → labels_problem o ≡ by_count (counted o)
unfolding labels_problem counted by_count
counted_problem None = refl
counted_problem (Some xs) = refl

module _ (w : List ℕ) (d : Decoded) (e : d ≡ count_of w) where
  by : word_problem w ≡ by_count d
  unfolding count_of word_problem
  by = counted_problem (labels_of_text w) ∙ ap by_count (sym e)

  word_not : d.problem ≢ 0 → 1 ≡ word_problem w
  unfolding by_count
  word_not h = sym (by ∙ rw (ne_eqb d.problem 0 h) refl)

  word_long : d.problem ≡ 0 → max_labels < d.count → 2 ≡ word_problem w
  unfolding by_count
  word_long z h = sym (by ∙ rw (eq-eqb d.problem 0 z, lt-ltb max_labels d.count h) refl)

  word_right : d.problem ≡ 0 → d.count ≤ max_labels → 0 ≡ word_problem w
  unfolding by_count
  word_right z h = sym (by ∙ rw (eq-eqb d.problem 0 z, le-ltb max_labels d.count h) refl)

some_number : (p : TextProblem) → text_number p ≢ 0
some_number NotUtf8 e = omega arith
some_number NoRoom e = omega arith

module _ (w : List ℕ) (line : ℕ) where
  pub found_wrong : (p : TextProblem) → decoded_in (Err p) ≡ count_of w → found_in (Some (words.NotUtf8 line)) ≡ word_found line (word_problem w)
  unfolding word_found
  found_wrong p e = rw (← word_not w (decoded_in (Err p)) e (some_number p)) refl

  module _ (n : ℕ) (e : decoded_in (Ok n) ≡ count_of w) where
    pub found_long : max_labels < n → found_in (Some (LongWord line)) ≡ word_found line (word_problem w)
    unfolding word_found
    found_long h = rw (← word_long w (decoded_in (Ok n)) e refl h) refl

    pub found_none : n ≤ max_labels → found_in None ≡ word_found line (word_problem w)
    unfolding word_found
    found_none h = rw (← word_right w (decoded_in (Ok n)) e refl h) refl

-- ---- line after line

module _ (n : ℕ) (l : List ℕ) (ls : List (List ℕ)) where
  abbrev step : ℕ → Option (ℕ × ℕ)
  step r = elim r as (λ _. Option (ℕ × ℕ)) [ zero ↦ first_problem (n + 1) ls | suc k ↦ Some (suc k, n) ]

  first_none : word_problem (word_of l) ≡ 0 → first_problem n (l ∷ ls) ≡ first_problem (n + 1) ls
  unfolding first_problem
  first_none e = ap step e

  first_some : (r : ℕ) → word_problem (word_of l) ≡ r → r ≢ 0 → first_problem n (l ∷ ls) ≡ Some (r, n)
  unfolding first_problem
  first_some zero e h = absurd (h refl)
  first_some (suc k) e h = ap step e

  first_found : (r : Option WordProblem) → found_in r ≡ word_found n (word_problem (word_of l)) → is_some r ≡ true → found_in r ≡ first_problem n (l ∷ ls)
  unfolding word_found
  first_found r e h = go (word_problem (word_of l)) refl r e h
    where
      go : (k : ℕ) → word_problem (word_of l) ≡ k → (r : Option WordProblem) → found_in r ≡ word_found n k → is_some r ≡ true → found_in r ≡ first_problem n (l ∷ ls)
      go zero d None f h = cc
      go zero d (Some p) f h = cc
      go (suc k) d r f h = f ∙ sym (first_some (suc k) d (λ z. omega arith))

  not_found : (r : Option WordProblem) → found_in r ≡ word_found n (word_problem (word_of l)) → is_some r ≡ false → word_problem (word_of l) ≡ 0
  unfolding word_found
  not_found r e h = go (word_problem (word_of l)) r e h
    where
      go : (k : ℕ) (r : Option WordProblem) → found_in r ≡ word_found n k → is_some r ≡ false → k ≡ 0
      go zero r f h = refl
      go (suc k) None f h = cc
      go (suc k) (Some p) f h = cc

-- no line before this one has a problem, so the lines starting here decide
pub record NoneBefore (t : List ℕ) (line at : ℕ) : Type 0 where
  pub to : at ≤ length t + 1
  pub few : line ≤ at + 1
  pub left : first_problem 1 (lines_of t) ≡ first_problem line (lines_left t at)

pub problem_start : (t : List ℕ) → NoneBefore t 1 0
problem_start t = record { to = omega arith; few = omega arith; left = ap (first_problem 1) (left_all t) }

module _ (t : List ℕ) (line at : ℕ) (g : NoneBefore t line at) where
  module _ (h : at ≤ length t) (word : List ℕ) (is : word ≡ word_at t at) (r : Option WordProblem) (problem : found_in r ≡ word_found line (word_problem word)) where
    here : found_in r ≡ word_found line (word_problem (word_of (line_at t at)))
    unfolding word_at
    here = problem ∙ ap (λ (w : List ℕ). word_found line (word_problem w)) is

    this : first_problem 1 (lines_of t) ≡ first_problem line (line_at t at ∷ lines_left t (line_end t at + 1))
    this = g.left ∙ ap (first_problem line) (left_more t at h)

    pub problem_here : is_some r ≡ true → found_in r ≡ first_problem 1 (lines_of t)
    problem_here z = first_found line (line_at t at) (lines_left t (line_end t at + 1)) r here z ∙ sym this

    pub problem_next : (e : ℕ) → is_some r ≡ false → LineTo t at e → NoneBefore t (line + 1) (e + 1)
    problem_next e z to = rw to.ends (record {
      to = omega (arith, to.within, to.ends);
      few = omega (arith, g.few, to.from, to.ends);
      left = this ∙ first_none line (line_at t at) (lines_left t (line_end t at + 1)) (not_found line (line_at t at) (lines_left t (line_end t at + 1)) r here z);
    })

  pub problem_none : length t < at → found_in None ≡ first_problem 1 (lines_of t)
  unfolding first_problem
  problem_none h = sym (g.left ∙ ap (first_problem line) (left_none t at h))

not_zero : (n r : ℕ) → (problem_answer (Some (suc r, n))).problem ≡ 0 → ⊥
unfolding problem_answer
not_zero n r e = omega arith

-- if there is no first problem, no line has one
pub none_right : (n : ℕ) (ls : List (List ℕ)) → (problem_answer (first_problem n ls)).problem ≡ 0 → LinesRight ls × (first_problem n ls ≡ None)
unfolding first_problem LinesRight
none_right n [] e = (tt, refl)
none_right n (l ∷ ls) e = go (word_problem (word_of l)) refl (none_right (n + 1) ls)
  where
    go : (r : ℕ) → word_problem (word_of l) ≡ r → ((problem_answer (first_problem (n + 1) ls)).problem ≡ 0 → LinesRight ls × (first_problem (n + 1) ls ≡ None)) → ((word_problem (word_of l) ≡ 0) × LinesRight ls) × (first_problem n (l ∷ ls) ≡ None)
    go zero d ih = let k = ih (ap (λ (o : Option (ℕ × ℕ)). (problem_answer o).problem) (sym (first_none n l ls d)) ∙ e) in ((d, k.0), first_none n l ls d ∙ k.1)
    go (suc r) d ih = absurd (not_zero n r (ap (λ (o : Option (ℕ × ℕ)). (problem_answer o).problem) (sym (first_some n l ls (suc r) d (λ z. omega arith))) ∙ e))
