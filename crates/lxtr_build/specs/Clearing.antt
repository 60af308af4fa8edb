-- Work in which every word is set to zero.
use Rattle.std.specs.Prelude.{ℕ, ◌≤◌, ◌≡◌, List, length, replicate}
use Rattle.std.proofs.Common.{arith, sym, ap, ◌∙◌}
use Rattle.std.proofs.lemmas.List.{length-replicate}
use Rattle.lxtr_build_laws.specs.Work.{Cleared}

-- cleared work is what a build starts with
pub cleared : (work₀ work : List ℕ) → 4 ≤ length work₀ → work ≡ replicate (length work₀) 0 → Cleared work
cleared work₀ work h e =
    let l : length work ≡ length work₀ = ap length e ∙ length-replicate {A = ℕ} (length work₀) 0 in
    record { room = omega arith; zeros = e ∙ ap (λ (k : ℕ). replicate {A = ℕ} k 0) (sym l) }
