-- Why a query is found or not, as a loop finds it: once the first i labels reach slot n, the reason is that of the labels after them,
-- from slot n.
use Rattle.std.specs.Prelude.{ℕ, suc, ◌+◌, ◌≤◌, ◌<◌, ◌≡◌, get_or, take, Option, Some, None}
use Rattle.std.proofs.Common.{sym, ◌∙◌, lt-ltb, le-ltb}
use Rattle.std.proofs.Math.Path.{ap}
use mathlib.Core.List.{List, [], ◌∷◌, ◌++◌, append-nil}
use Rattle.std.proofs.Math.Nat.{add-zero}
use native.Mathlib.Omega.{arith}
use Rattle.std.proofs.Math.ListN.{length, drop}
use Rattle.std.proofs.Math.Seq.{split_at, length-take-le}
use Rattle.lxtr_spec.specs.Labels.{max_labels}
use Rattle.lxtr_spec.specs.Walks.{step_by, walk, value_at}
use Rattle.lxtr_spec.specs.Reasons.{ended_with, stopped_at, reason_from, reason_of}
use Rattle.lxtr_spec.specs.declared.Reason.{Reason}
use Rattle.lxtr_spec.specs.declared.Reason.TheVariants.{TooLong}
use Rattle.lxtr_laws.specs.StepFacts.{none_not_some, some_same}

module _ (b : List ℕ) where
  -- after the labels p, which walk
  reason_after : (p r : List ℕ) (i n t : ℕ) → walk b n p ≡ Some t → reason_from b i n (p ++ r) ≡ reason_from b (i + length p) t r
  unfolding walk reason_from
  reason_after [] r i n t e = rw (some_same e, add-zero i)
  reason_after (x ∷ p) r i n t e = go (λ u h. reason_after p r (i + 1) u t h) (step_by b n x) e
    where
      go : ((u : ℕ) → walk b u p ≡ Some t → reason_from b (i + 1) u (p ++ r) ≡ reason_from b (i + 1 + length p) t r) → (o : Option ℕ)
          → elim o as (λ _. Option ℕ) [ None ↦ None | Some u ↦ walk b u p ] ≡ Some t
          → elim o as (λ _. Reason) [ None ↦ stopped_at b i x | Some u ↦ reason_from b (i + 1) u (p ++ r) ] ≡ reason_from b (i + length (x ∷ p)) t r
      go ih None h = absurd (none_not_some h)
      go ih (Some u) h = let same : i + 1 + length p ≡ i + length (x ∷ p) = omega arith in ih u h ∙ ap (λ (k : ℕ). reason_from b k t r) same

  -- the first i labels walk, and the next one stops the walk
  pub reason_stops : (xs : List ℕ) (i n : ℕ) → i < length xs → walk b 1 (take i xs) ≡ Some n → step_by b n (get_or xs i 0) ≡ None → reason_from b 0 1 xs ≡ stopped_at b i (get_or xs i 0)
  unfolding reason_from
  reason_stops xs i n h reached e =
      let rest = drop (suc i) xs in
      let place : 0 + length (take i xs) ≡ i = omega (arith, length-take-le i xs (omega arith)) in
      ap (reason_from b 0 1) (split_at xs i 0 h) ∙ reason_after (take i xs) (get_or xs i 0 ∷ rest) 0 1 n reached
      ∙ ap (λ (k : ℕ). reason_from b k n (get_or xs i 0 ∷ rest)) place ∙ rw (e, reason_from)

  -- all labels walk
  pub reason_ends : (xs : List ℕ) (n : ℕ) → walk b 1 xs ≡ Some n → reason_from b 0 1 xs ≡ ended_with (value_at b n)
  unfolding reason_from
  reason_ends xs n e = ap (reason_from b 0 1) (sym (append-nil xs)) ∙ reason_after xs [] 0 1 n e

  -- the limit comes first
  module _ (xs : List ℕ) where
    pub reason_too_long : max_labels < length xs → reason_of b xs ≡ TooLong
    unfolding reason_of
    reason_too_long h = rw (lt-ltb max_labels (length xs) h)

    pub reason_within : length xs ≤ max_labels → reason_of b xs ≡ reason_from b 0 1 xs
    unfolding reason_of
    reason_within h = rw (le-ltb max_labels (length xs) h)
