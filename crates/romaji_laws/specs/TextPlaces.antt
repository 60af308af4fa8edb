-- Where the texts of a table lie: each begins after the one before it, so if one is whole, all before it are.
use Rattle.std.specs.Prelude.{ℕ, zero, suc, ◌+◌, ◌-◌, ◌≤◌, ◌<◌, ◌≡◌, List}
use native.Mathlib.Omega.{arith}
use Rattle.std.proofs.Common.{le_refl, add-zero, add-suc}
use Rattle.romaji_spec.specs.KanaTables.{text_end, text_at}

module _ (kana : List ℕ) where
  text_step : (v : ℕ) → text_at kana v < text_at kana (suc v)
  unfolding text_at text_end
  text_step v = omega arith

  text_add : (v n : ℕ) → text_at kana v ≤ text_at kana (v + n)
  text_add v zero = rw (add-zero v) (le_refl (text_at kana v))
  text_add v (suc n) = rw (add-suc v n) (omega (arith, text_add v n, text_step (v + n)))

  pub text_rises : (v w : ℕ) → v ≤ w → text_at kana v ≤ text_at kana w
  text_rises v w h = let e : v + (w - v) ≡ w = omega arith in rw e at (text_add v (w - v))
