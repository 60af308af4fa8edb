-- The answer, put together from the outcomes of its parts.
use Rattle.std.specs.Prelude.{ℕ, ◌≤◌, ◌<◌, ◌≡◌, refl, List, ◌++◌, Bool, true, false, ltb, length, drop, Some, None, Err}
use Rattle.std.proofs.Common.{sym, zero-add, arith, lt-ltb, le-ltb}
use Rattle.std.proofs.Math.Path.{ap, ap₂}
use Rattle.lxtr_spec.specs.KeyLists.{max_keys}
use Rattle.lxtr_spec.specs.Samples.{key_list}
use Rattle.lxtr_laws.specs.Overlays.{over}
use Rattle.lxtr_command_spec.specs.WordLists.{lines_of, first_problem, keys_of_text, KeyedAnswer, refused_words, keyed, keyed_lines, keyed_of, keyed_in}
use Rattle.lxtr_command_spec.specs.declared.WordProblem.{WordProblem}
use Rattle.lxtr_command_spec.specs.declared.WordProblem.TheVariants.{ManyWords, NoRoom}
use Rattle.lxtr_words.specs.Problems.{problem_answer, none_right, found_in}
use Rattle.lxtr_words.specs.WordTables.{LinesRight}

-- ---- keys ks and an output

module _ (ks : List (List ℕ)) (out : List ℕ) where
  abbrev pub written : KeyedAnswer
  written = record { answer = record { problem = 0; line = 0; count = length ks; length = length (key_list ks) }; output = key_list ks ++ drop (length (key_list ks)) out }

  abbrev pub choice : Bool → Bool → KeyedAnswer
  choice s t = elim s as (λ _. KeyedAnswer) [ true ↦ refused_words 3 0 out | false ↦ elim t as (λ _. KeyedAnswer) [ true ↦ refused_words 4 0 out | false ↦ written ] ]

  keyed_many : max_keys < length ks → keyed ks out ≡ refused_words 3 0 out
  unfolding keyed
  keyed_many h = ap (λ (s : Bool). choice s (ltb (length out) (length (key_list ks)))) (lt-ltb max_keys (length ks) h)

  module _ (few : length ks ≤ max_keys) where
    keyed_short : length out < length (key_list ks) → keyed ks out ≡ refused_words 4 0 out
    unfolding keyed
    keyed_short h = ap₂ choice (le-ltb max_keys (length ks) few) (lt-ltb (length out) (length (key_list ks)) h)

    keyed_fits : length (key_list ks) ≤ length out → keyed ks out ≡ written
    unfolding keyed
    keyed_fits h = ap₂ choice (le-ltb max_keys (length ks) few) (le-ltb (length out) (length (key_list ks)) h)

front : (xs out : List ℕ) → over out 0 xs ≡ xs ++ drop (length xs) out
unfolding over
front xs out = rw (zero-add (length xs)) refl

-- ---- at most so many keys, whose list has n bytes

module _ (ks : List (List ℕ)) (out : List ℕ) (few : length ks ≤ max_keys) (n : ℕ) (size : n ≡ length (key_list ks)) where
  pub list_short : length out < n → record { answer = keyed_in (Err NoRoom); output = out } ≡ keyed ks out
  unfolding refused_words
  list_short h = sym (keyed_short ks out few (omega arith))

  pub list_done : (count : ℕ) → count ≡ length ks → (out' : List ℕ) → n ≤ length out → out' ≡ over out 0 (key_list ks)
      → record { answer = record { problem = 0; line = 0; count = count; length = n }; output = out' } ≡ keyed ks out
  list_done count c out' h e = rw (e, size, c, front (key_list ks) out) (sym (keyed_fits ks out few (omega arith)))

pub words_many : (t : List ℕ) (out : List ℕ) (e : WordProblem) → (e ≡ ManyWords) × (max_keys < length (keys_of_text t)) → record { answer = keyed_in (Err e); output = out } ≡ keyed (keys_of_text t) out
unfolding refused_words
words_many t out e h = rw h.0 (sym (keyed_many (keys_of_text t) out h.1))

-- ---- the first problem of the text was looked for

module _ (t : List ℕ) where
  pub problem_found : (p : WordProblem) → found_in (Some p) ≡ first_problem 1 (lines_of t) → (out : List ℕ) → record { answer = keyed_in (Err p); output = out } ≡ keyed_of t out
  unfolding keyed_of keyed_lines refused_words
  problem_found p e out = rw (← e) refl

  module _ (e : found_in None ≡ first_problem 1 (lines_of t)) where
    pub lines_right : LinesRight (lines_of t)
    unfolding problem_answer
    lines_right = (none_right 1 (lines_of t) (rw (← e) refl)).0

    pub lines_listed : (out : List ℕ) (r : KeyedAnswer) → r ≡ keyed (keys_of_text t) out → r ≡ keyed_of t out
    unfolding keyed_of keyed_lines
    lines_listed out r d = rw (← e) d
