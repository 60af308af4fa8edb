-- The number that a C function returns is the number of the operation's answer: exact by the walk of a lookup, and longest by its part.
use Rattle.std.specs.Prelude.{ℕ, ◌*◌, ◌/◌, ◌^◌, ◌<◌, ◌≡◌, refl, ◌≢◌, List, Option, Some, None}
use Rattle.std.proofs.Common.{arith, sym, ◌∙◌}
use Rattle.std.proofs.Math.Path.{ap, ap₂}
use Rattle.std.proofs.Math.Bool.{false}
use Rattle.std.proofs.Math.ListN.{length}
use Rattle.std.proofs.Math.Seq.{length-take-le}
use Rattle.lxtr_spec.specs.Labels.{labels_of}
use Rattle.lxtr_spec.specs.Walks.{walk_within, value_at, value_reached}
use Rattle.lxtr_spec.specs.Searches.{search_refusal, case_value, case_at, LongestAnswer, longest_length, longest_of}
use Rattle.lxtr_spec.specs.HostNumbers.{host_number, value_numbered, exact_numbered, exact_number, longest_number}
use Rattle.lxtr_laws.specs.Limit.{length_fits_byte}
use Rattle.lxtr_laws.specs.Cases.{value_there}
use Rattle.lxtr_laws.specs.SearchReturns.{lookup_refused, lookup_passed}
use Rattle.lxtr_search.specs.Longest.{longest_bytes, longest_limit}

module _ (b q : List ℕ) where
  -- exact, by the walk of a lookup and the value at its end; r is the refusal, f the slot that the walk reached
  module _ (r : ℕ) (known : r ≡ search_refusal b q) where
    pub exact_refused : r ≢ 0 → value_numbered r false None ≡ exact_number b q
    unfolding exact_number exact_numbered case_value value_numbered
    exact_refused h = ap exact_numbered (lookup_refused b q r known h)

    module _ (z : r ≡ 0) (f : Option ℕ) (walked : f ≡ walk_within b (labels_of q)) where
      by_value : value_numbered 0 false (value_reached b f) ≡ exact_number b q
      unfolding exact_number exact_numbered
      by_value = ap₂ (λ (k : ℕ) (v : Option ℕ). value_numbered k false v) (sym z) (sym (value_there b f)) ∙ ap exact_numbered (lookup_passed b q r known z f (case_at b f) walked refl)

      pub exact_nowhere : f ≡ None → value_numbered 0 false None ≡ exact_number b q
      unfolding value_reached
      exact_nowhere h = rw h at by_value

      pub exact_reached : (m : ℕ) (v : Option ℕ) → f ≡ Some m → v ≡ value_at b m → value_numbered 0 false v ≡ exact_number b q
      unfolding value_reached
      exact_reached m v h value = ap (value_numbered 0 false) value ∙ rw h at by_value

  -- the part that longest hands back has four bytes per label, and no more labels than a key may have
  module _ (k : ℕ) (part : List ℕ) (e : ◌≡◌ {A = LongestAnswer} (record { refusal = k; part = part }) (longest_of b q)) where
    longest_size : length part ≡ 4 * longest_length b q
    unfolding longest_of
    longest_size = ap (λ (a : LongestAnswer). length a.part) e ∙ length-take-le (4 * longest_length b q) q (longest_bytes b q)

    longest_labels : length part / 4 ≡ longest_length b q
    longest_labels = omega (arith, longest_size)

    pub longest_fits : length part < 2 ^ 32
    longest_fits = omega (arith, longest_size, longest_limit b q, length_fits_byte)

    pub longest_number_lem : (n : ℕ) → n ≡ host_number k false false (length part / 4) → n ≡ longest_number b q
    unfolding longest_number longest_of
    longest_number_lem n h = rw (← longest_labels, ← ap (λ (a : LongestAnswer). a.refusal) e) h
