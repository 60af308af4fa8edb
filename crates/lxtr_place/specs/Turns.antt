-- The loop of `place` over the codes of a slot's children: its invariant, and its turns.
use Prim.Native.Nat.{ℕ, zero, suc, ◌+◌, ◌-◌, ◌≤◌, ◌<◌}
use Rattle.std.specs.Prelude.{◌≡◌, refl, ◌≢◌, get_or, length, take, drop, Option, Some, None}
use Rattle.std.proofs.Math.Path.{sym, ap}
use Rattle.std.proofs.Common.{ap₂, ◌∙◌, add-one, drop_of_length-le, length-take, length-drop, length-take-le, drop-cons, get_or-take}
use Rattle.std.proofs.Math.Logic.{inl}
use mathlib.Core.List.{List, [], ◌∷◌, ◌++◌, Memᴰ}
use native.Mathlib.Omega.{arith}
use Rattle.std.proofs.Math.Seq.{take_at}
use Rattle.lxtr_spec.specs.Labels.{Pair}
use Rattle.lxtr_spec.specs.KeyLists.{max_keys}
use Rattle.lxtr_spec.specs.Joining.{slot_under}
use Rattle.lxtr_spec.specs.Placing.{child_codes, below, end_value, settle, into_each, place}
use Rattle.lxtr_laws.specs.Members.{member_at}
use Rattle.lxtr_build_laws.specs.CodeTables.{Rising}
use Rattle.lxtr_build_laws.specs.Work.{placed_as}
use Rattle.lxtr_build_laws.specs.Groups.{CodesIn}
use Rattle.lxtr_build_laws.specs.ChildCodes.{codes_rise, codes_small, codes_few}
use Rattle.lxtr_build_laws.specs.PlacingSteps.{Step, step_none, step_join, step_wider}
use Rattle.lxtr_build_laws.specs.SettledSlots.{Settled, settle_some}
use Rattle.lxtr_build_laws.specs.Placed.{place_step}
use Rattle.lxtr_place.specs.SettlingWords.{settled_as}
use Rattle.lxtr_place.specs.Children.{Fresh, Done, next_fresh}

-- ---- going into one child after the other

-- an end has nothing below it
each_end : (f : ℕ → List ℕ → Option (List ℕ)) (c : ℕ) (cs w : List ℕ) → c ≡ 0 → into_each f (c ∷ cs) w ≡ into_each f cs w
unfolding into_each
each_end f c cs w e = rw e refl

each_some : (f : ℕ → List ℕ → Option (List ℕ)) (c : ℕ) (cs w u : List ℕ) → c ≢ 0 → f c w ≡ Some u → into_each f (c ∷ cs) w ≡ into_each f cs u
unfolding into_each
each_some f zero cs w u l e = absurd (l refl)
each_some f (suc c) cs w u l e = ap (λ (o : Option (List ℕ)). elim o as (λ _. Option (List ℕ)) [ None ↦ None | Some v ↦ into_each f cs v ]) e

each_none : (f : ℕ → List ℕ → Option (List ℕ)) (c : ℕ) (cs w : List ℕ) → c ≢ 0 → f c w ≡ None → into_each f (c ∷ cs) w ≡ None
unfolding into_each
each_none f zero cs w l e = absurd (l refl)
each_none f (suc c) cs w l e = ap (λ (o : Option (List ℕ)). elim o as (λ _. Option (List ℕ)) [ None ↦ None | Some v ↦ into_each f cs v ]) e

-- ---- the loop

module _ (S : ℕ) (code label : ℕ → ℕ) (left : ℕ) (g : List Pair) where
  abbrev cs : List ℕ
  cs = child_codes code g []

  -- going into the child by code c, if p's base is b
  abbrev into : ℕ → ℕ → List ℕ → Option (List ℕ)
  into b c x = place S code label (left - 1) (slot_under b c) (below (label c) g) x

  -- slot p's children were placed under b: the work was w before and is u after
  pub record Started (n p : ℕ) (w : List ℕ) (b : ℕ) (u : List ℕ) : Type 0 where
    pub some_left : left ≢ 0
    pub fresh : Fresh S w p
    pub codes_in : CodesIn code n g
    pub settled : settle S p (end_value g) cs w ≡ Some (b, u)

  -- and placing has gone into the children by the first j codes: the work is x, and the codes are at the front of the room
  pub record Going (k b : ℕ) (u room₀ room : List ℕ) (j : ℕ) (x : List ℕ) : Type 0 where
    pub to_last : j ≤ k
    pub small : k ≤ max_keys
    pub few : k ≤ length room₀
    pub size : length room ≡ length room₀
    pub codes_are : take k room ≡ cs
    pub rest : into_each (into b) cs u ≡ into_each (into b) (drop j cs) x
    pub done : Step S (Done b cs j) u x

  module _ (p : ℕ) (w : List ℕ) where
    abbrev whole : Option (List ℕ)
    whole = place S code label left p g w

    pub no_label_left : left ≡ 0 → placed_as (Some tt) w ≡ whole
    unfolding place placed_as
    no_label_left e = sym (ap (λ (k : ℕ). place S code label k p g w) e)

    -- what follows after settling p, depending on its answer
    abbrev then : Option (ℕ × List ℕ) → Option (List ℕ)
    then o = elim o as (λ _. Option (List ℕ)) [ None ↦ None | Some s ↦ into_each (into s.0) cs s.1 ]

    is_settled_as : (o : Option (ℕ × List ℕ)) → left ≢ 0 → settle S p (end_value g) cs w ≡ o → whole ≡ then o
    unfolding place
    is_settled_as o h e = let k : left ≡ suc (left - 1) = omega arith in ap (λ (k : ℕ). place S code label k p g w) k ∙ ap then e

    module _ (r : Option ℕ) (u l : List ℕ) (are : l ≡ cs) (answer : settled_as r u ≡ settle S p (end_value g) l w) (some_left : left ≢ 0) where
      settled_is : (o : Option (ℕ × List ℕ)) → settled_as r u ≡ o → settle S p (end_value g) cs w ≡ o
      settled_is o e = ap (λ (k : List ℕ). settle S p (end_value g) k w) (sym are) ∙ sym answer ∙ e

      pub none_fits : r ≡ None → (v : List ℕ) → placed_as None v ≡ whole
      unfolding placed_as settled_as
      none_fits e v = sym (is_settled_as None some_left (settled_is None (ap (λ (y : Option ℕ). settled_as y u) e)))

      pub start : (n b : ℕ) → r ≡ Some b → Fresh S w p → CodesIn code n g → Started n p w b u
      unfolding settled_as
      start n b e f k = record { some_left = some_left; fresh = f; codes_in = k; settled = settled_is (Some (b, u)) (ap (λ (y : Option ℕ). settled_as y u) e) }

-- ---- the turns

module _ {S : ℕ} {code label : ℕ → ℕ} {left : ℕ} {g : List Pair} {n p : ℕ} {w : List ℕ} {b : ℕ} {u : List ℕ} (s : Started S code label left g n p w b u) where
  abbrev codes : List ℕ
  codes = cs S code label left g

  abbrev go : ℕ → List ℕ → Option (List ℕ)
  go = into S code label left g b

  up : Settled S p (end_value g) codes w b u
  up = settle_some S p (end_value g) codes w (b, u) s.settled

  rises : Rising codes
  rises = codes_rise code g

  -- the codes are at the front of the room
  pub going_start : {k : ℕ} {room₀ : List ℕ} → k ≤ max_keys → k ≤ length room₀ → take k room₀ ≡ codes → Going S code label left g k b u room₀ room₀ 0 u
  going_start small few e = record { to_last = omega arith; small = small; few = few; size = refl; codes_are = e; rest = refl; done = step_none S (Done b codes 0) u }

  module _ {k : ℕ} {room₀ room : List ℕ} {j : ℕ} {x : List ℕ} (going : Going S code label left g k b u room₀ room j x) where
    count_is : k ≡ length codes
    count_is = sym (length-take-le k room (omega (arith, going.few, going.size))) ∙ ap length going.codes_are

    left_over : place S code label left p g w ≡ into_each go (drop j codes) x
    left_over = is_settled_as S code label left g p w (Some (b, u)) s.some_left s.settled ∙ going.rest

    pub going_end : k ≤ j → placed_as (Some tt) x ≡ place S code label left p g w
    unfolding into_each placed_as
    going_end h = sym (left_over ∙ ap (λ (l : List ℕ). into_each go l x) (drop_of_length-le codes {i = j} (omega (arith, count_is))))

    -- the next code is c
    module _ {c : ℕ} (h : j < k) (e : c ≡ get_or room j 0) where
      is : c ≡ get_or codes j 0
      is = e ∙ sym (get_or-take k room j 0 h) ∙ ap (λ (l : List ℕ). get_or l j 0) going.codes_are

      member : Memᴰ c codes
      member = rw is (member_at 0 codes j (omega (arith, count_is)))

      here : into_each go (drop j codes) x ≡ into_each go (c ∷ drop (j + 1) codes) x
      here = ap (λ (l : List ℕ). into_each go l x) (drop-cons codes j 0 (omega (arith, count_is)) ∙ ap₂ {C = List ℕ} (λ (a n : ℕ). a ∷ drop n codes) (sym is) (sym (add-one j)))

      wider : Step S (Done b codes (j + 1)) u x
      wider = step_wider going.done (λ t q. (q.0, omega (arith, q.1), q.2))

      pub turn_small : c ≤ n
      turn_small = codes_small code n g s.codes_in c member

      -- an end
      pub turn_past : c ≡ 0 → (room' y : List ℕ) → room' ≡ room → y ≡ x → Going S code label left g k b u room₀ room' (j + 1) y
      turn_past z room' y q o = rw (q, o) (record { to_last = omega arith; small = going.small; few = going.few; size = going.size; codes_are = going.codes_are; rest = going.rest ∙ here ∙ each_end go c (drop (j + 1) codes) x z; done = wider })

      -- any other child, whose slot is t
      module _ {t : ℕ} (at : t ≡ slot_under b c) where
        fresh_there : Fresh S x (slot_under b c)
        fresh_there = rw is (next_fresh S p (end_value g) codes w b u s.fresh rises up j x going.done (omega (arith, count_is)))

        -- it is fresh
        pub turn_fresh : Fresh S x t
        turn_fresh = rw at fresh_there

        -- the rest of the room is long enough for it
        pub turn_room : (m r : ℕ) (f : List Pair) → m ≡ length g → r ≡ length f → f ≡ below (label c) g → m + left ≤ length room₀ → r + (left - 1) ≤ length (take (length room - k) (drop k room))
        turn_room m r f e q group h = omega (arith, ap length group, codes_few code (label c) g, count_is, going.size, s.some_left, length-take (length room - k) (drop k room), length-drop k room)

        -- placing has gone into it: f is the child's group, r the answer, and z the work after it
        module _ (some-code : c ≢ 0) {f : List Pair} (group : f ≡ below (label c) g) (r : Option (Unit {0})) (z : List ℕ) (placed : placed_as r z ≡ place S code label (left - 1) t f x) where
          into_child : go c x ≡ placed_as r z
          into_child = sym (placed ∙ rw (at, group) refl)

          pub turn_on : r ≡ Some tt → (ys room' y : List ℕ) → room' ≡ take k room ++ ys → length room' ≡ length room → y ≡ z → Going S code label left g k b u room₀ room' (j + 1) y
          unfolding placed_as
          turn_on o ys room' y back same q =
              let went : go c x ≡ Some z = into_child ∙ ap (λ (a : Option (Unit {0})). placed_as a z) o in
              rw q (record {
                to_last = omega arith;
                small = going.small;
                few = going.few;
                size = same ∙ going.size;
                codes_are = ap (take k) back ∙ take_at (take k room) ys k (length-take-le k room (omega (arith, going.few, going.size))) ∙ going.codes_are;
                rest = going.rest ∙ here ∙ each_some go c (drop (j + 1) codes) x z some-code went;
                done = step_join wider (place_step S code label (left - 1) (slot_under b c) (below (label c) g) x z fresh_there.ready went) (λ t v. inl (j, omega arith, v ∙ ap (slot_under b) is));
              })

          pub turn_refused : r ≡ None → (v : List ℕ) → placed_as None v ≡ place S code label left p g w
          unfolding placed_as
          turn_refused o v = sym (left_over ∙ here ∙ each_none go c (drop (j + 1) codes) x some-code (into_child ∙ ap (λ (a : Option (Unit {0})). placed_as a z) o))
