-- The check as the code makes it. Results of calls are variables: each law says which definition equals what one return computes.
use Rattle.std.specs.Prelude.{ℕ, ◌≡◌, List, Result, Bool, ◌&&◌}
use Rattle.std.specs.Result.{IsErrAnd}
use Rattle.std.proofs.Common.{sym}
use Rattle.std.proofs.lemmas.Result.{err_from_is_err_and}
use Rattle.lxtr_spec.specs.Image.{is_leaf}
use Rattle.lxtr_spec.specs.Refusals.{unless_refused, header_refusal, body_refusal, image_refusal, is_used_from2, is_end, end_count, check_of, Verdict}
use Rattle.lxtr_spec.specs.declared.refusals.Refusal.{Refusal}
use Rattle.lxtr_spec.specs.Answers.{number, refusal_of, answer_or}
use Rattle.lxtr_laws.specs.RefusalChains.{stands}
use Rattle.lxtr_laws.specs.Refused.{body_refused}
use Rattle.lxtr_laws.specs.Failures.{number_not_0}

module _ (b : List ℕ) where
  pub none_refused_by : header_refusal b ≡ 0 → 0 ≡ body_refusal b → image_refusal b ≡ 0
  none_refused_by z e = sym (body_refused b 0 (sym z) e)

  -- u is whether slot s is a used one from 2 up, l whether it is a leaf
  pub end_tested : (s : ℕ) (u l : Bool) → u ≡ is_used_from2 b s → l ≡ is_leaf b s → (u && l) ≡ is_end b s
  unfolding is_end
  end_tested s u l used leaf = rw (used, leaf)

  -- the check passes on the refusal e
  pub check_refused : (r : Result ℕ Refusal) (e : Refusal) → IsErrAnd r (λ y. y ≡ e) → number e ≡ image_refusal b
      → ◌≡◌ {A = Verdict} (record { refusal = refusal_of r; pairs = answer_or 0 r }) (check_of b)
  unfolding check_of
  check_refused r e h known = let p = err_from_is_err_and r h in rw (p.1, p.2, ← known, stands (number e) (end_count b) 0 (number_not_0 e))

  pub check_counted : (n : ℕ) → 0 ≡ image_refusal b → n ≡ end_count b → ◌≡◌ {A = Verdict} (record { refusal = 0; pairs = n }) (check_of b)
  unfolding check_of unless_refused
  check_counted n z e = rw (← z, e)
