-- Steps of placing: which slots of the work keep their words, which become taken, and by which parent.
-- Two steps one after the other are a step, if the second changes only slots that the first may change or that were free.
use Rattle.std.specs.Prelude.{ℕ, ◌*◌, ◌^◌, ◌≤◌, ◌<◌, ◌≡◌, refl, List, ◌≢◌, ◌⊎◌, length}
use Rattle.std.proofs.Common.{sym, ◌∙◌, ⊎_elim, inl, inr, arith}
use Rattle.std.proofs.Math.Path.{ap, subst}
use Rattle.std.proofs.Math.Decide.{ℕ_discrete}
use Rattle.lxtr_spec.specs.Labels.{max_slots}
use Rattle.lxtr_spec.specs.Image.{low31}
use Rattle.lxtr_spec.specs.Placing.{base_at, check_at}
use Rattle.lxtr_build_laws.specs.SlotWords.{Same, Free, Taken, parent_at, free_or_taken, taken_same, free_same}

-- a slot taken between w and w': its parent is one of A or was free too, and is taken now
pub record NewlyTaken (S : ℕ) (A : ℕ → Type 0) (w w' : List ℕ) (t : ℕ) : Type 0 where
  pub below : t < S
  pub by : A (parent_at w' t) ⊎ Free w (parent_at w' t)
  pub parent_taken : Taken w' (parent_at w' t)

-- from w to w' only the slots of A and free slots get other words; a taken slot keeps its parent
pub record Step (S : ℕ) (A : ℕ → Type 0) (w w' : List ℕ) : Type 0 where
  pub size : length w' ≡ length w
  pub kept : (t : ℕ) → Taken w t → (A t → ⊥) → (base_at w' t ≡ base_at w t) × (check_at w' t ≡ check_at w t)
  pub parent : (t : ℕ) → Taken w t → parent_at w' t ≡ parent_at w t
  pub stays : (t : ℕ) → Taken w t → Taken w' t
  pub free_base : (t : ℕ) → Free w' t → base_at w' t ≡ base_at w t
  pub newly_taken : (t : ℕ) → Free w t → Taken w' t → NewlyTaken S A w w' t

pub step_none : (S : ℕ) (A : ℕ → Type 0) (w : List ℕ) → Step S A w w
step_none S A w = record { size = refl; kept = λ t h n. (refl, refl); parent = λ t h. refl; stays = λ t h. h; free_base = λ t h. refl; newly_taken = λ t f h. absurd (h f) }

-- one step after another, if the second one's slots are those of A or were free at first
pub step_join : {S : ℕ} {A B : ℕ → Type 0} {w u v : List ℕ} → Step S A w u → Step S B u v → ((t : ℕ) → B t → A t ⊎ Free w t) → Step S A w v
step_join {S} {A} {B} {w} {u} {v} f g sub = record {
  size = g.size ∙ f.size;
  kept = λ t h n.
      let not-b : B t → ⊥ = λ b. ⊎_elim n h (sub t b) in
      let k1 = f.kept t h n in
      let k2 = g.kept t (f.stays t h) not-b in
      (k2.0 ∙ k1.0, k2.1 ∙ k1.1);
  parent = λ t h. g.parent t (f.stays t h) ∙ f.parent t h;
  stays = λ t h. g.stays t (f.stays t h);
  free_base = λ t h. g.free_base t h ∙ f.free_base t (back t h);
  newly_taken = λ t h n. ⊎_elim (λ (a : Free u t). later t h n a) (λ (a : Taken u t). sooner t h a) (free_or_taken u t);
}
  where
    back : (t : ℕ) → Free v t → Free u t
    back t h = ⊎_elim (λ (a : Free u t). a) (λ (a : Taken u t). absurd (g.stays t a h)) (free_or_taken u t)

    first : (t : ℕ) → Free u t → Free w t
    first t h = ⊎_elim (λ (a : Free w t). a) (λ (a : Taken w t). absurd (f.stays t a h)) (free_or_taken w t)

    later : (t : ℕ) → Free w t → Taken v t → Free u t → NewlyTaken S A w v t
    later t h n a =
        let b = g.newly_taken t a n in
        record { below = b.below; by = ⊎_elim (sub (parent_at v t)) (λ (x : Free u (parent_at v t)). inr (first (parent_at v t) x)) b.by; parent_taken = b.parent_taken }

    sooner : (t : ℕ) → Free w t → Taken u t → NewlyTaken S A w v t
    sooner t h a =
        let b = f.newly_taken t h a in
        let e : parent_at u t ≡ parent_at v t = sym (g.parent t a) in
        record {
          below = b.below;
          by = subst (λ (x : ℕ). A x ⊎ Free w x) e b.by;
          parent_taken = subst (λ (x : ℕ). Taken v x) e (g.stays (parent_at u t) b.parent_taken);
        }

-- a step that may change more slots
pub step_wider : {S : ℕ} {A B : ℕ → Type 0} {w u : List ℕ} → Step S B w u → ((t : ℕ) → B t → A t) → Step S A w u
step_wider {S} {A} {B} {w} s f = step_join (step_none S A w) s (λ t b. inl (f t b))

module _ (S p : ℕ) (w w' : List ℕ) (taken : Taken w p) (size : length w' ≡ length w) where
  -- only p's own words change, and its parent stays
  pub step_own : ((t : ℕ) → t ≢ p → Same w w' t) → parent_at w' p ≡ parent_at w p → Taken w' p → Step S (λ t. t ≡ p) w w'
  unfolding Same
  step_own same parent still = record {
    size = size;
    kept = λ t h n. same t n;
    parent = λ t h. at t (ℕ_discrete t p);
    stays = λ t h. stay t h (ℕ_discrete t p);
    free_base = λ t f. free_word t f (ℕ_discrete t p);
    newly_taken = λ t f h. new_slot t f h (ℕ_discrete t p);
  }
    where
      at : (t : ℕ) → Dec (t ≡ p) → parent_at w' t ≡ parent_at w t
      at t (yes e) = subst (λ (x : ℕ). parent_at w' x ≡ parent_at w x) (sym e) parent
      at t (no n) = ap low31 (same t n).1

      stay : (t : ℕ) → Taken w t → Dec (t ≡ p) → Taken w' t
      stay t h (yes e) = subst (λ (x : ℕ). Taken w' x) (sym e) still
      stay t h (no n) = taken_same w w' t (same t n).1 h

      free_word : (t : ℕ) → Free w' t → Dec (t ≡ p) → base_at w' t ≡ base_at w t
      free_word t f (yes e) = absurd (still (subst (λ (x : ℕ). Free w' x) e f))
      free_word t f (no n) = (same t n).0

      new_slot : (t : ℕ) → Free w t → Taken w' t → Dec (t ≡ p) → NewlyTaken S (λ x. x ≡ p) w w' t
      new_slot t f h (yes e) = absurd (taken (subst (λ (x : ℕ). Free w x) e f))
      new_slot t f h (no n) = absurd (h (free_same w w' t (same t n).1 f))

  -- slot q becomes p's child
  pub step_child : (q : ℕ) → Free w q → q < S → 1 ≤ p → p < 2 ^ 31 → ((t : ℕ) → t ≢ q → Same w w' t) → check_at w' q ≡ p → Step S (λ t. t ≡ p) w w'
  unfolding Same
  step_child q free q<S from small same parent_is = record {
    size = size;
    kept = λ t h n. same t (differ t h);
    parent = λ t h. ap low31 (same t (differ t h)).1;
    stays = λ t h. taken_same w w' t (same t (differ t h)).1 h;
    free_base = λ t f. free_word t f (ℕ_discrete t q);
    newly_taken = λ t f h. new_slot t f h (ℕ_discrete t q);
  }
    where
      differ : (t : ℕ) → Taken w t → t ≢ q
      differ t h e = h (subst (λ (x : ℕ). Free w x) (sym e) free)

      free_word : (t : ℕ) → Free w' t → Dec (t ≡ q) → base_at w' t ≡ base_at w t
      free_word t f (yes e) = let z : check_at w' q ≡ 0 = subst (λ (x : ℕ). check_at w' x ≡ 0) e f.zero_check in absurd (omega arith)
      free_word t f (no n) = (same t n).0

      new_slot : (t : ℕ) → Free w t → Taken w' t → Dec (t ≡ q) → NewlyTaken S (λ x. x ≡ p) w w' t
      new_slot t f h (yes e) =
          let parent-is' : check_at w' t ≡ p = ap (check_at w') e ∙ parent_is in
          let whole : parent_at w' t ≡ p = omega arith in
          record {
            below = subst (λ (x : ℕ). x < S) (sym e) q<S;
            by = inl whole;
            parent_taken = subst (λ (x : ℕ). Taken w' x) (sym whole) (taken_same w w' p (same p (differ p taken)).1 taken);
          }
      new_slot t f h (no n) = absurd (h (free_same w w' t (same t n).1 f))

-- placing may go into slot p: it is a taken slot from 1 up, and the work has room for S slots
pub record Ready (S : ℕ) (w : List ℕ) (p : ℕ) : Type 0 where
  pub room : 2 * S ≤ length w
  pub slots : S ≤ max_slots
  pub from : 1 ≤ p
  pub to : p < S
  pub taken : Taken w p

pub ready_after : {S p : ℕ} {A : ℕ → Type 0} {w u : List ℕ} → Ready S w p → Step S A w u → Ready S u p
ready_after {p = p} r s = record { room = omega (arith, r.room, s.size); slots = r.slots; from = r.from; to = r.to; taken = s.stays p r.taken }
