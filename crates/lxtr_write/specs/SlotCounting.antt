-- N and E as the code counts them: N from the last slot down, E slot by slot.
use Rattle.std.specs.Prelude.{ℕ, suc, ◌+◌, ◌*◌, ◌-◌, ◌^◌, ◌≤◌, ◌<◌, ◌≡◌, List, Bool, true, false, length}
use Rattle.std.proofs.Common.{arith, sym, ap, ◌∙◌}
use Rattle.std.specs.Int.{w64}
use mir.Val.{bool_byte, Fits}
use borrow.Author.Rules.{Fits-under}
use Rattle.lxtr_spec.specs.Labels.{max_slots}
use Rattle.lxtr_spec.specs.Placing.{is_taken_from2}
use Rattle.lxtr_spec.specs.Builds.{slots_used}
use Rattle.lxtr_laws.specs.Tallies.{CountSoFar, count_small}
use Rattle.lxtr_build_laws.specs.UsedSlots.{used_hit, used_miss, used_low, used_high}

-- the work has room for N slots
pub record Slots (w : List ℕ) (N : ℕ) : Type 0 where
  pub enough : 2 ≤ N
  pub inside : 2 * N ≤ length w
  pub few : N ≤ max_slots

-- no slot from n up is taken; r is whether slot n - 1 is
module _ (w : List ℕ) (slots n : ℕ) (so_far : slots_used w slots ≡ slots_used w n) where
  pub used_end : 2 ≤ n → n ≤ 2 → 2 ≡ slots_used w slots
  used_end h l = omega (arith, used_low w n, used_high w n h)

  module _ (r : Bool) (h : 2 < n) (is : r ≡ is_taken_from2 w (n - 1)) where
    last : n ≡ suc (n - 1)
    last = omega arith

    pub used_found : r ≡ true → n - 1 + 1 ≡ slots_used w slots
    used_found t = let e : n - 1 + 1 ≡ n = omega arith in e ∙ last ∙ sym (so_far ∙ ap (slots_used w) last ∙ used_hit w (n - 1) (sym is ∙ t))

    pub used_next : r ≡ false → slots_used w slots ≡ slots_used w (n - 1)
    used_next t = so_far ∙ ap (slots_used w) last ∙ used_miss w (n - 1) (sym is ∙ t)

pub taken_fits : (f : ℕ → Bool) (m i n : ℕ) (w : List ℕ) (r : Bool) → CountSoFar f i m n → Slots w m → i < m → Fits w64 (n + bool_byte r)
taken_fits f m i n w r s ok h = Fits-under w64 (n + bool_byte r) (2 ^ 32) (omega (arith, count_small f m i n s r h, ok.few)) tt
