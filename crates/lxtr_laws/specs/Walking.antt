-- A walk as a loop makes it: n is the slot that the first i of the labels xs reach.
-- If the step by the next label fails, no longer front part of xs reaches a slot.
use Rattle.std.specs.Prelude.{ℕ, ◌+◌, ◌≤◌, ◌<◌, ◌≡◌, ◌↔◌, List, [], ◌∷◌, ◌++◌, Bool, length, get_or, take, drop, Option, Some, None}
use Rattle.std.proofs.Math.Path.{refl}
use Rattle.std.proofs.Common.{sym, ap, ◌∙◌, add-one, arith, take-append-drop, take-suc, take-take, take_all}
use Rattle.std.proofs.Math.Bool.{true, false, cond}
use Rattle.std.proofs.Math.Dec.{ltb}
use Rattle.std.proofs.Math.Seq.{take-length}
use Rattle.std.proofs.lemmas.List.{take-append-le}
use Rattle.lxtr_spec.specs.Image.{slot_count}
use Rattle.lxtr_spec.specs.Labels.{max_labels}
use Rattle.lxtr_spec.specs.Walks.{step_by, walk, walk_within}
use borrow.Author.Tests.{lt-ltb, le-ltb, ltb-false}
use Rattle.lxtr_laws.specs.Passed.{Passed}
use Rattle.lxtr_laws.specs.KeyPrefixes.{Last, empty, snoc, last, length_snoc}
use Rattle.lxtr_laws.specs.Stepping.{found_is, found_none}
use Rattle.lxtr_laws.specs.StepFacts.{none_not_some, some_same, step_by_is, walk_empty, walk_append, walk_snoc}

-- front parts of xs, over any bytes
module _ (b xs : List ℕ) where
  -- a front part of one that walks walks too
  pub walk_front : (k m t : ℕ) → k ≤ m → walk b 1 (take m xs) ≡ Some t → (s : ℕ) × (walk b 1 (take k xs) ≡ Some s)
  walk_front k m t h e =
      let split : take m xs ≡ take k xs ++ drop k (take m xs) = sym (take-append-drop k (take m xs)) ∙ ap (λ (p : List ℕ). p ++ drop k (take m xs)) (take-take k m xs h) in
      let r = (walk_append b 1 (take k xs) (drop k (take m xs)) t).0 (sym (ap (walk b 1) split) ∙ e) in
      (r.0, r.1)

  -- the first i labels reach slot n
  module _ (i n : ℕ) (h : i < length xs) (reached : walk b 1 (take i xs) ≡ Some n) where
    one_more_lem : take (i + 1) xs ≡ take i xs ++ get_or xs i 0 ∷ []
    one_more_lem = ap (λ (k : ℕ). take k xs) (add-one i) ∙ take-suc xs i 0 h

    pub walk_on : (t : ℕ) → step_by b n (get_or xs i 0) ≡ Some t → walk b 1 (take (i + 1) xs) ≡ Some t
    walk_on t e =
        let s = (step_by_is b n (get_or xs i 0) t).0 e in
        rw one_more_lem ((walk_snoc b (take i xs) (get_or xs i 0) t).1 (record { slot = n; code = s.0; walked = reached; coded = s.1; stepped = s.2 }))

    stays : step_by b n (get_or xs i 0) ≡ None → (t : ℕ) → walk b 1 (take (i + 1) xs) ≡ Some t → ⊥
    stays e t g =
        let r = (walk_snoc b (take i xs) (get_or xs i 0) t).0 (rw one_more_lem at g) in
        let same : r.slot ≡ n = some_same (sym r.walked ∙ reached) in
        none_not_some (sym e ∙ (step_by_is b n (get_or xs i 0) t).1 (r.code, r.coded, rw same at r.stepped))

    pub walk_stays : step_by b n (get_or xs i 0) ≡ None → (k t : ℕ) → i < k → walk b 1 (take k xs) ≡ Some t → ⊥
    walk_stays e k t l g = let r = walk_front (i + 1) k t (omega arith) g in stays e r.0 r.1

-- the first i labels reach slot n, which is one of the image's
pub record Walked (b xs : List ℕ) (i n : ℕ) : Type 0 where
  pub so_far : i ≤ length xs
  pub below : n < slot_count b
  pub reached : walk b 1 (take i xs) ≡ Some n

-- an answer that is no slot is none
is_none : (o : Option ℕ) → ((t : ℕ) → o ≡ Some t → ⊥) → o ≡ None
is_none None h = refl
is_none (Some t) h = absurd (h t refl)

module _ (b xs : List ℕ) where
  pub walked_start : Passed b → Walked b xs 0 1
  walked_start p = record { so_far = omega arith; below = omega (arith, p.whole.sized.slots_from); reached = (walk_empty b 1).1 refl }

  module _ (m i n : ℕ) (count : m ≡ length xs) (w : Walked b xs i n) where
    pub walked_place : i < m → i < length xs
    walked_place h = omega arith

    -- f is what the step by the next label x answered
    module _ (x : ℕ) (f : Option ℕ) (turn : i < m) (label : x ≡ get_or xs i 0) (answer : f ≡ step_by b n x) where
      pub walked_next : (t : ℕ) → f ≡ Some t → Walked b xs (i + 1) t
      walked_next t r =
          let e = found_is f t (step_by b n x) answer r in
          record { so_far = omega arith; below = ((step_by_is b n x t).0 e).2.below; reached = walk_on b xs i n (omega arith) w.reached t (rw label at e) }

      pub walked_stop : f ≡ None → (k : ℕ) → i < k → walk b 1 (take k xs) ≡ None
      walked_stop r k h = is_none (walk b 1 (take k xs)) (λ t. walk_stays b xs i n (omega arith) w.reached (rw label at (found_none f (step_by b n x) answer r)) k t h)

      pub walk_stopped : f ≡ None → None ≡ walk b 1 xs
      walk_stopped r = sym (rw take-length at (walked_stop r (length xs) (omega arith)))

    pub walk_ended : m ≤ i → Some n ≡ walk b 1 xs
    walk_ended h = sym w.reached ∙ ap (walk b 1) (take_all i xs (omega arith))

-- the slot that a walk reaches is one of the image's
walk_below : (b p : List ℕ) → Passed b → Last p → (t : ℕ) → walk b 1 p ≡ Some t → t < slot_count b
walk_below b p ok empty t e = omega (arith, (walk_empty b t).0 e, ok.whole.sized.slots_from)
walk_below b p ok (snoc q x l) t e = ((walk_snoc b q x t).0 e).stepped.below

-- all labels, and the same front part of a list that is longer by one label
module _ (b xs : List ℕ) where
  pub walked_whole : Passed b → (t : ℕ) → walk b 1 xs ≡ Some t → Walked b xs (length xs) t
  walked_whole ok t e = record { so_far = omega arith; below = walk_below b xs ok (last xs) t e; reached = rw take-length e }

  pub walked_part : (x k t : ℕ) → k ≤ length xs → Walked b (xs ++ x ∷ []) k t ↔ Walked b xs k t
  walked_part x k t h =
      let same = ap (walk b 1) (take-append-le k xs (x ∷ []) h) in (
        λ w. record { so_far = h; below = w.below; reached = sym same ∙ w.reached },
        λ w. record { so_far = omega (arith, length_snoc xs x); below = w.below; reached = same ∙ w.reached },
      )

-- the slot, if there is one, is one of the image's
pub record IsSlot (b : List ℕ) (o : Option ℕ) : Type 0 where
  pub below : (n : ℕ) → o ≡ Some n → n < slot_count b

pub slot_below : (b : List ℕ) (f : Option ℕ) (n : ℕ) → IsSlot b f → f ≡ Some n → n < slot_count b
slot_below b f n is h = is.below n (h)

-- the walk within the limit
module _ (b xs : List ℕ) where
  pub within : length xs ≤ max_labels → walk_within b xs ≡ walk b 1 xs
  unfolding walk_within
  within h = rw (le-ltb max_labels (length xs) h)

  pub within_is : (t : ℕ) → (walk_within b xs ≡ Some t) ↔ ((length xs ≤ max_labels) × (walk b 1 xs ≡ Some t))
  unfolding walk_within
  within_is t = (go (ltb max_labels (length xs)) refl, λ p. within p.0 ∙ p.1)
    where
      go : (long : Bool) → ltb max_labels (length xs) ≡ long → cond long None (walk b 1 xs) ≡ Some t → (length xs ≤ max_labels) × (walk b 1 xs ≡ Some t)
      go true l e = absurd (none_not_some e)
      go false l e = (ltb-false max_labels (length xs) l, e)

  -- m is how many labels there are
  module _ (m : ℕ) (count : m ≡ length xs) where
    pub walk_too_long : max_labels < m → None ≡ walk_within b xs
    unfolding walk_within
    walk_too_long h = rw (← count, lt-ltb max_labels m h)

    pub walk_allowed : (f : Option ℕ) → m ≤ max_labels → f ≡ walk b 1 xs → f ≡ walk_within b xs
    walk_allowed f h e = e ∙ sym (within (omega arith))

  -- f is what it answered
  pub within_allowed : (f : Option ℕ) (n : ℕ) → f ≡ walk_within b xs → f ≡ Some n → length xs ≤ max_labels
  within_allowed f n answer h = ((within_is n).0 (found_is f n (walk_within b xs) answer h)).0

  pub within_slot : (f : Option ℕ) → f ≡ walk_within b xs → Passed b → IsSlot b f
  within_slot f answer ok = record { below = λ n e. walk_below b xs ok (last xs) n ((within_is n).0 (sym answer ∙ e)).1 }

  pub within_below : (f : Option ℕ) (n : ℕ) → f ≡ walk_within b xs → Passed b → f ≡ Some n → n < slot_count b
  within_below f n answer ok = slot_below b f n (within_slot f answer ok)
