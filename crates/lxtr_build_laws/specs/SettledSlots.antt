-- Settling a slot: its own words and its children's are written. That is a step, and placing may then go into the children.
-- The children's slots were free and differ, so a store for one of them leaves the words of the others as they are.
use Rattle.std.specs.Prelude.{ℕ, zero, suc, ◌+◌, ◌*◌, ◌^◌, ◌<◌, ◌≡◌, refl, ◌≢◌, length, set, Option, Some, None}
use Rattle.std.proofs.Common.{sym, ◌∙◌, ⊎_elim, arith, length-set}
use Rattle.std.proofs.Math.Path.{ap, subst}
use mathlib.Core.List.Memᴰ
use mathlib.Core.List.{List, [], ◌∷◌, Memᴰ}
use Rattle.std.proofs.Math.Logic.{inl}
use Rattle.std.proofs.Math.Decide.{ℕ_discrete}
use Rattle.lxtr_spec.specs.Image.{low31}
use Rattle.lxtr_spec.specs.Joining.{slot_under}
use Rattle.lxtr_spec.specs.Placing.{check_at, first_fit, base_count, put_child, put_children, put_parent, settle}
use Rattle.lxtr_build_laws.specs.CodeTables.{Rising}
use Rattle.lxtr_build_laws.specs.SlotWords.{check_of_base, check_same, check_other, base_of_check, base_other, Same, Free, Taken, taken_same, free_same}
use Rattle.lxtr_build_laws.specs.PlacingSteps.{Step, step_none, step_join, step_own, step_child, Ready, ready_after}
use Rattle.lxtr_build_laws.specs.FirstFit.{Smallest, first_fit_some, AllFree, fits_free, slot_injective}

-- ---- one child's words

pub put_child_size : (p v b c : ℕ) (w : List ℕ) → length (put_child p v b c w) ≡ length w
unfolding put_child
put_child_size p v b zero w = simp length-set
put_child_size p v b (suc c) w = simp length-set

pub put_child_parent : (p v b c : ℕ) (w : List ℕ) → 2 * slot_under b c + 1 < length w → check_at (put_child p v b c w) (slot_under b c) ≡ p
unfolding put_child
put_child_parent p v b zero w h = check_same (set w (2 * slot_under b 0) (2 ^ 31 + v)) (slot_under b 0) p (simp length-set h)
put_child_parent p v b (suc c) w h = check_same w (slot_under b (suc c)) p h

pub put_child_same : (p v b c : ℕ) (w : List ℕ) (t : ℕ) → t ≢ slot_under b c → Same w (put_child p v b c w) t
unfolding put_child Same
put_child_same p v b zero w t n = (
  base_of_check (set w (2 * slot_under b 0) (2 ^ 31 + v)) (slot_under b 0) t p ∙ base_other w (slot_under b 0) t (2 ^ 31 + v) n,
  check_other (set w (2 * slot_under b 0) (2 ^ 31 + v)) (slot_under b 0) t p n ∙ check_of_base w (slot_under b 0) t (2 ^ 31 + v),
)
put_child_same p v b (suc c) w t n = (base_of_check w (slot_under b (suc c)) t p, check_other w (slot_under b (suc c)) t p n)

child_step : (S p v b c : ℕ) (w : List ℕ) → Ready S w p → Free w (slot_under b c) → slot_under b c < S → Step S (λ t. t ≡ p) w (put_child p v b c w)
child_step S p v b c w r f l =
    let small : p < 2 ^ 31 = omega (arith, r.to, r.slots) in
    let room : 2 * slot_under b c + 1 < length w = omega (arith, r.room) in
    step_child S p w (put_child p v b c w) r.taken (put_child_size p v b c w) (slot_under b c) f l r.from small (put_child_same p v b c w) (put_child_parent p v b c w room)

-- ---- the slot's own words

pub put_parent_size : (p b : ℕ) (cs w : List ℕ) → length (put_parent p b cs w) ≡ length w
unfolding put_parent
put_parent_size p b [] w = simp length-set
put_parent_size p b (zero ∷ cs) w = simp length-set
put_parent_size p b (suc c ∷ cs) w = simp length-set

pub put_parent_same : (p b : ℕ) (cs w : List ℕ) (t : ℕ) → t ≢ p → Same w (put_parent p b cs w) t
unfolding put_parent Same
put_parent_same p b [] w t n = (base_other w p t b n, check_of_base w p t b)
put_parent_same p b (zero ∷ cs) w t n =
    (base_of_check (set w (2 * p) b) p t _ ∙ base_other w p t b n, check_other (set w (2 * p) b) p t _ n ∙ check_of_base w p t b)
put_parent_same p b (suc c ∷ cs) w t n = (base_other w p t b n, check_of_base w p t b)

base_step : (S p b : ℕ) (w : List ℕ) → Ready S w p → Step S (λ t. t ≡ p) w (set w (2 * p) b)
unfolding Same
base_step S p b w r = step_own S p w (set w (2 * p) b) r.taken (length-set w (2 * p) b)
    (λ t n. (base_other w p t b n, check_of_base w p t b)) (ap low31 (check_of_base w p p b)) (taken_same w (set w (2 * p) b) p (check_of_base w p p b) r.taken)

flag_step : (S p : ℕ) (w : List ℕ) (x : ℕ) → Ready S w p → x ≡ 2 ^ 31 + low31 (check_at w p) → Step S (λ t. t ≡ p) w (set w (2 * p + 1) x)
unfolding Same
flag_step S p w x r e =
    let room : 2 * p + 1 < length w = omega (arith, r.room, r.to) in
    let new : check_at (set w (2 * p + 1) x) p ≡ x = check_same w p x room in
    step_own S p w (set w (2 * p + 1) x) r.taken (length-set w (2 * p + 1) x)
    (λ t n. (base_of_check w p t x, check_other w p t x n)) (omega arith) (λ f. omega (arith, f.zero_check))

parent_step : (S p b : ℕ) (cs w : List ℕ) → Ready S w p → Step S (λ t. t ≡ p) w (put_parent p b cs w)
unfolding put_parent
parent_step S p b [] w r = base_step S p b w r
parent_step S p b (zero ∷ cs) w r =
    let s = base_step S p b w r in
    step_join s (flag_step S p (set w (2 * p) b) (2 ^ 31 + low31 (check_at w p)) (ready_after r s) (ap (λ (x : ℕ). 2 ^ 31 + low31 x) (sym (check_of_base w p p b)))) (λ t e. inl e)
parent_step S p b (suc c ∷ cs) w r = base_step S p b w r

-- ---- all children's words

-- the slots of later codes are still free after one child is written
others_free : (S p v b c : ℕ) (cs w : List ℕ) → Rising (c ∷ cs) → AllFree S w b (c ∷ cs) → AllFree S (put_child p v b c w) b cs
unfolding Rising Same
others_free S p v b c cs w d f e m =
    let fe = f e (Memᴰ.tail m) in
    let apart : slot_under b e ≢ slot_under b c = λ q. omega (arith, d.0 e m, slot_injective b e c q) in
    (free_same w (put_child p v b c w) (slot_under b e) (put_child_same p v b c w (slot_under b e) apart).1 fe.0, fe.1)

children_step : (S p v b : ℕ) (cs w : List ℕ) → Ready S w p → Rising cs → AllFree S w b cs → Step S (λ t. t ≡ p) w (put_children p v b cs w)
unfolding put_children Rising
children_step S p v b [] w r d f = step_none S (λ t. t ≡ p) w
children_step S p v b (c ∷ cs) w r d f =
    let free = f c (Memᴰ.head refl) in
    let s = child_step S p v b c w r free.0 free.1 in
    step_join s (children_step S p v b cs (put_child p v b c w) (ready_after r s) d.1 (others_free S p v b c cs w d f)) (λ t e. inl e)

-- the children's slots then have p as parent
children_parent : (S p v b : ℕ) (cs w : List ℕ) → Ready S w p → Rising cs → AllFree S w b cs → (c : ℕ) → Memᴰ c cs → check_at (put_children p v b cs w) (slot_under b c) ≡ p
unfolding put_children Rising
children_parent S p v b [] w r d f c m = absurd (Memᴰ.not-nil m)
children_parent S p v b (e ∷ cs) w r d f c m =
    let free = f e (Memᴰ.head refl) in
    let s = child_step S p v b e w r free.0 free.1 in
    let w' = put_child p v b e w in
    let r' = ready_after r s in
    let here : check_at w' (slot_under b e) ≡ p = put_child_parent p v b e w (omega (arith, r.room, free.1)) in
    let f' : AllFree S w' b cs = others_free S p v b e cs w d f in
    let later : Step S (λ t. t ≡ p) w' (put_children p v b cs w') = children_step S p v b cs w' r' d.1 f' in
    let held : Taken w' (slot_under b e) = λ z. omega (arith, z.zero_check, r.from) in
    let other : slot_under b e ≢ p = λ q. r.taken (subst (λ (x : ℕ). Free w x) q free.0) in
    ⊎_elim (λ (q : c ≡ e). ap (λ (x : ℕ). check_at (put_children p v b cs w') (slot_under b x)) q ∙ (later.kept (slot_under b e) held other).1 ∙ here)
    (λ n. children_parent S p v b cs w' r' d.1 f' c n) (Memᴰ.cases_cons m)

-- one of the slots of the codes cs under b
abbrev pub Among : ℕ → List ℕ → ℕ → Type 0
Among b cs t = (c : ℕ) × Memᴰ c cs × (t ≡ slot_under b c)

children_only : (p v b : ℕ) (cs w : List ℕ) (t : ℕ) → Free w t → Taken (put_children p v b cs w) t → Among b cs t
unfolding put_children Same
children_only p v b [] w t f h = absurd (h f)
children_only p v b (c ∷ cs) w t f h = go (λ g. children_only p v b cs (put_child p v b c w) t g h) (ℕ_discrete t (slot_under b c))
  where
    go : (Free (put_child p v b c w) t → Among b cs t) → Dec (t ≡ slot_under b c) → Among b (c ∷ cs) t
    go rest (yes e) = (c, Memᴰ.head refl, e)
    go rest (no n) =
        let a = rest (free_same w (put_child p v b c w) t (put_child_same p v b c w t n).1 f) in
        (a.0, Memᴰ.tail a.1, a.2)

-- ---- settling

-- slot p's children were placed under b
pub record Settled (S p v : ℕ) (cs w : List ℕ) (b : ℕ) (u : List ℕ) : Type 0 where
  pub smallest : Smallest S w cs 0 b
  pub small : b < base_count
  pub is : u ≡ put_children p v b cs (put_parent p b cs w)

pub settle_some : (S p v : ℕ) (cs w : List ℕ) (s : ℕ × List ℕ) → settle S p v cs w ≡ Some s → Settled S p v cs w s.0 s.1
unfolding settle
settle_some S p v cs w s e = go (first_fit S w cs) refl e
  where
    go : (o : Option ℕ) → first_fit S w cs ≡ o
        → (elim o as (λ _. Option (ℕ × List ℕ)) [ None ↦ None | Some b ↦ Some (b, put_children p v b cs (put_parent p b cs w)) ]) ≡ Some s → Settled S p v cs w s.0 s.1
    go None f q = absurd (let o : ◌≡◌ {A = ℕ} 0 1 = cc in omega arith)
    go (Some b) f q =
        let eq : ◌≡◌ {A = ℕ × List ℕ} (b, put_children p v b cs (put_parent p b cs w)) s = cc in
        let found = first_fit_some S w cs b f in
        subst (λ (x : ℕ × List ℕ). Settled S p v cs w x.0 x.1) eq (record { smallest = found.0; small = found.1; is = refl })

module _ (S p v : ℕ) (cs w : List ℕ) (b : ℕ) (u : List ℕ) (ready : Ready S w p) (settled : Settled S p v cs w b u) where
  -- the children's slots were free
  pub settle_free : AllFree S w b cs
  settle_free = fits_free S w cs b settled.smallest.fit

  -- no other slot is taken
  pub settle_only : (t : ℕ) → Free w t → Taken u t → Among b cs t
  unfolding Same
  settle_only t f h =
      let other : t ≢ p = λ e. ready.taken (subst (λ (x : ℕ). Free w x) e f) in
      children_only p v b cs (put_parent p b cs w) t (free_same w (put_parent p b cs w) t (put_parent_same p b cs w t other).1 f) (subst (λ (x : List ℕ). Taken x t) settled.is h)

  module _ (rising : Rising cs) where
    w' : List ℕ
    w' = put_parent p b cs w

    own : Step S (λ t. t ≡ p) w w'
    unfolding w'
    own = parent_step S p b cs w ready

    still_free : AllFree S w' b cs
    unfolding Same w'
    still_free c m =
        let fc = settle_free c m in
        let other : slot_under b c ≢ p = λ e. ready.taken (subst (λ (x : ℕ). Free w x) e fc.0) in
        (free_same w w' (slot_under b c) (put_parent_same p b cs w (slot_under b c) other).1 fc.0, fc.1)

    pub settle_step : Step S (λ t. t ≡ p) w u
    unfolding w'
    settle_step = subst (λ (x : List ℕ). Step S (λ t. t ≡ p) w x) (sym settled.is) (step_join own (children_step S p v b cs w' (ready_after ready own) rising still_free) (λ t e. inl e))

    pub settle_parent : (c : ℕ) → Memᴰ c cs → check_at u (slot_under b c) ≡ p
    unfolding w'
    settle_parent c m = ap (λ (x : List ℕ). check_at x (slot_under b c)) settled.is ∙ children_parent S p v b cs w' (ready_after ready own) rising still_free c m

    -- placing may go into a child
    pub settle_ready : (c : ℕ) → Memᴰ c cs → Ready S u (slot_under b c)
    settle_ready c m =
        let fc = settle_free c m in
        record {
          room = omega (arith, ready.room, settle_step.size);
          slots = ready.slots;
          from = omega (arith, fc.0.from);
          to = fc.1;
          taken = λ z. omega (arith, z.zero_check, settle_parent c m, ready.from);
        }
