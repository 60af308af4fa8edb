-- While placing goes into a slot's children, one after the other, the next child is fresh.
use Rattle.std.specs.Prelude.{ℕ, ◌<◌, ◌≡◌, ◌≢◌, ◌⊎◌, get_or, length}
use Rattle.std.proofs.Common.{sym, ◌∙◌, subst, ⊎_elim, inl, inr, arith}
use mathlib.Core.List.{List, Memᴰ}
use Rattle.lxtr_spec.specs.Joining.{slot_under}
use Rattle.lxtr_laws.specs.Members.{member_at}
use Rattle.lxtr_build_laws.specs.CodeTables.{Rising}
use Rattle.lxtr_build_laws.specs.RisingNumbers.{rising_at}
use Rattle.lxtr_build_laws.specs.SlotWords.{Free, Taken, parent_at, free_or_taken}
use Rattle.lxtr_build_laws.specs.PlacingSteps.{Step, Ready}
use Rattle.lxtr_build_laws.specs.FirstFit.{slot_injective}
use Rattle.lxtr_build_laws.specs.SettledSlots.{Among, Settled, settle_free, settle_only, settle_step, settle_parent, settle_ready}

-- slot p is fresh, so placing may go into it: it is taken and has no child yet, and no taken slot has a free parent
pub record Fresh (S : ℕ) (w : List ℕ) (p : ℕ) : Type 0 where
  pub ready : Ready S w p
  pub no_child : (t : ℕ) → parent_at w t ≢ p
  pub parent_taken : (t : ℕ) → Taken w t → Taken w (parent_at w t)

-- t is the slot of one of the first j codes; placing has gone into these slots
abbrev pub Done : ℕ → List ℕ → ℕ → ℕ → Type 0
Done b cs j t = (i : ℕ) × (i < j) × (t ≡ slot_under b (get_or cs i 0))

module _ (S p v : ℕ) (cs w : List ℕ) (b : ℕ) (u : List ℕ) (fresh : Fresh S w p) (rising : Rising cs) (settled : Settled S p v cs w b u) where
  first : Step S (λ t. t ≡ p) w u
  first = settle_step S p v cs w b u fresh.ready settled rising

  only : (t : ℕ) → Free w t → Taken u t → Among b cs t
  only = settle_only S p v cs w b u fresh.ready settled

  free : (c : ℕ) → Memᴰ c cs → Free w (slot_under b c) × (slot_under b c < S)
  free = settle_free S p v cs w b u fresh.ready settled

  parent_is : (c : ℕ) → Memᴰ c cs → parent_at u (slot_under b c) ≡ p
  parent_is c m = omega (arith, settle_parent S p v cs w b u fresh.ready settled rising c m, fresh.ready.to, fresh.ready.slots)

  held : (c : ℕ) → Memᴰ c cs → Taken u (slot_under b c)
  held c m = (settle_ready S p v cs w b u fresh.ready settled rising c m).taken

  -- p is not a child of itself
  apart : (c : ℕ) → Memᴰ c cs → slot_under b c ≢ p
  apart c m e = fresh.ready.taken (subst (λ (x : ℕ). Free w x) e (free c m).0)

  module _ (j : ℕ) (x : List ℕ) (done : Step S (Done b cs j) u x) where
    parents_taken : (t : ℕ) → Taken x t → Taken x (parent_at x t)
    parents_taken t h = old (free_or_taken u t)
      where
        base : (t : ℕ) → Taken u t → Taken u (parent_at u t)
        base t h = ⊎_elim (λ (f : Free w t). (first.newly_taken t f h).parent_taken)
            (λ (a : Taken w t). subst (λ (y : ℕ). Taken u y) (sym (first.parent t a)) (first.stays (parent_at w t) (fresh.parent_taken t a))) (free_or_taken w t)

        old : Free u t ⊎ Taken u t → Taken x (parent_at x t)
        old (inl f) = (done.newly_taken t f h).parent_taken
        old (inr a) = subst (λ (y : ℕ). Taken x y) (sym (done.parent t a)) (done.stays (parent_at u t) (base t a))

    -- the next child is fresh
    module _ (h : j < length cs) where
      abbrev c : ℕ
      c = get_or cs j 0

      m : Memᴰ c cs
      m = member_at 0 cs j h

      none_yet : (t : ℕ) → parent_at x t ≢ slot_under b c
      none_yet t e = ⊎_elim (λ (f : Free w t). new f (free_or_taken u t) (free_or_taken x t)) (λ (h : Taken w t). old h) (free_or_taken w t)
        where
          old : Taken w t → ⊥
          old h = fresh.parent_taken t h (subst (λ (y : ℕ). Free w y) (sym (sym (first.parent t h) ∙ sym (done.parent t (first.stays t h)) ∙ e)) (free c m).0)

          new : Free w t → Free u t ⊎ Taken u t → Free x t ⊎ Taken x t → ⊥
          new f (inr h) z =
              let a = only t f h in
              apart c m (sym e ∙ done.parent t h ∙ subst (λ (y : ℕ). parent_at u y ≡ p) (sym a.2) (parent_is a.0 a.1))
          new f (inl g) (inl z) = omega (arith, z.zero_check, (free c m).0.from)
          new f (inl g) (inr z) = ⊎_elim
              (λ (d : Done b cs j (parent_at x t)). omega (arith, slot_injective b (get_or cs d.0 0) c (sym d.2 ∙ e), rising_at cs d.0 j rising d.1 h))
              (λ (d : Free u (parent_at x t)). held c m (subst (λ (y : ℕ). Free u y) e d))
              (done.newly_taken t g z).by

      pub next_fresh : Fresh S x (slot_under b c)
      next_fresh = record {
        ready = record {
          room = omega (arith, fresh.ready.room, first.size, done.size);
          slots = fresh.ready.slots;
          from = omega (arith, (free c m).0.from);
          to = (free c m).1;
          taken = done.stays (slot_under b c) (held c m);
        };
        no_child = none_yet;
        parent_taken = parents_taken;
      }
