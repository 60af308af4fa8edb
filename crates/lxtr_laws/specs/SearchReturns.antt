-- The searches as the code makes them: first the refusals, then the definition's answer.
use Rattle.std.specs.Prelude.{ℕ, ◌*◌, ◌%◌, ◌≡◌, refl, ◌↔◌, length, take, Option, Result, Err}
use Rattle.std.proofs.Math.Path.{sym, ap}
use Rattle.std.specs.Result.{IsErrAnd}
use Rattle.std.proofs.lemmas.Result.{err_from_is_err_and}
use Rattle.std.proofs.Common.{◌∙◌}
use mathlib.Core.List.{List, []}
use borrow.Author.Tests.{ne_eqb}
use Rattle.lxtr_spec.specs.Labels.{labels_of}
use Rattle.lxtr_spec.specs.Refusals.{refuse_if, first_refusal, unless_refused, header_refusal}
use Rattle.lxtr_spec.specs.Walks.{walk_within}
use Rattle.lxtr_spec.specs.Searches.{query_refusal, search_refusal, case_at, case_within, lookup_of, prefix_matches, prefixes_answer, prefixes_of, LongestAnswer, last_length, longest_length, longest_of}
use Rattle.lxtr_spec.specs.declared.Case.{Case}
use Rattle.lxtr_spec.specs.declared.Case.TheVariants.{Neither}
use Rattle.lxtr_spec.specs.Searches.{Lookup}
use Rattle.lxtr_spec.specs.Searches.{Prefixes}
use Rattle.lxtr_laws.specs.RefusalChains.{none_refused, none_first, first_stands, stands}
use Rattle.lxtr_laws.specs.RangeTests.{tests}
use Rattle.lxtr_laws.specs.Passed.{Passed, header_passed}

pub query_passes : (q : List ℕ) → (query_refusal q ≡ 0) ↔ (length q % 4 ≡ 0)
unfolding query_refusal
query_passes q = simp (none_refused, tests) (λ p. p.0, λ e. (e, refl))

-- the exit of a `?` passes the error on
pub passed_err : {A E : Type 0} (r : Result A E) (e : E) → IsErrAnd r (λ y. y ≡ e) → r ≡ Err e
passed_err r e h = let p = err_from_is_err_and r h in p.1 ∙ ap Err p.2

-- r is the refusal that a call answered
module _ (b q : List ℕ) (r : ℕ) where
  module _ (header : r ≡ header_refusal b) where
    pub header_stands : (r ≡ 0 → ⊥) → r ≡ search_refusal b q
    unfolding search_refusal
    header_stands h = rw (← header) (sym (first_stands r (query_refusal q) h))

    pub query_refused : r ≡ 0 → (length q % 4 ≡ 0 → ⊥) → 13 ≡ search_refusal b q
    unfolding search_refusal query_refusal refuse_if first_refusal
    query_refused z h = rw (sym header ∙ z, ne_eqb (length q % 4) 0 h)

    pub search_allowed : r ≡ 0 → length q % 4 ≡ 0 → 0 ≡ search_refusal b q
    unfolding search_refusal
    search_allowed z h = sym ((none_first (header_refusal b) (query_refusal q)).1 (sym header ∙ z, (query_passes q).1 h))

  module _ (known : r ≡ search_refusal b q) where
    pub header_passes : r ≡ 0 → header_refusal b ≡ 0
    unfolding search_refusal
    header_passes z = ((none_first (header_refusal b) (query_refusal q)).0 (sym known ∙ z)).0

    pub search_passed : r ≡ 0 → Passed b
    search_passed z = header_passed (header_passes z)

    -- the answers after a refusal
    module _ (h : r ≡ 0 → ⊥) where
      pub lookup_refused : ◌≡◌ {A = Lookup} (record { refusal = r; case = Neither }) (lookup_of b q)
      unfolding lookup_of
      lookup_refused = rw (← known, stands r (case_within b (labels_of q)) Neither h)

      pub prefixes_refused : (p : Prefixes) → p ≡ prefixes_answer r [] → p ≡ prefixes_of b q
      unfolding prefixes_of
      prefixes_refused p e = rw (← known, stands r (prefix_matches b q) [] h) e

      pub longest_refused : ◌≡◌ {A = LongestAnswer} (record { refusal = r; part = take 0 q }) (longest_of b q)
      unfolding longest_of longest_length
      longest_refused = rw (← known, stands r (last_length (prefix_matches b q)) 0 h)

    -- and without one
    module _ (z : r ≡ 0) where
      pub lookup_passed : (f : Option ℕ) (c : Case) → f ≡ walk_within b (labels_of q) → c ≡ case_at b f → ◌≡◌ {A = Lookup} (record { refusal = r; case = c }) (lookup_of b q)
      unfolding lookup_of case_within unless_refused
      lookup_passed f c walked e = rw (z, sym known ∙ z, ← walked, e)

      pub prefixes_passed : (p : Prefixes) → p ≡ prefixes_answer 0 (prefix_matches b q) → p ≡ prefixes_of b q
      unfolding prefixes_of unless_refused
      prefixes_passed p e = rw (sym known ∙ z) e

      pub longest_passed : (n : ℕ) → n ≡ last_length (prefix_matches b q) → ◌≡◌ {A = LongestAnswer} (record { refusal = r; part = take (4 * n) q }) (longest_of b q)
      unfolding longest_of longest_length unless_refused
      longest_passed n e = rw (z, sym known ∙ z, e)
