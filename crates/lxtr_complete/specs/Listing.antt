-- The listing of the pairs below a slot, as the code makes it: a record for its end, then for each other entry all pairs below it.
-- The path holds the labels of the key. After each entry, what is left to do completes the whole.
use Prim.Native.Nat.{ℕ, suc, ◌+◌, ◌-◌, ◌≤◌, ◌<◌}
use Rattle.std.specs.Prelude.{◌≡◌, ◌≢◌, Bool, not, cond, eqb, set}
use Rattle.std.proofs.Math.Path.{refl, sym, ap}
use Rattle.std.proofs.Common.{◌∙◌, true≢false, sub-eq-zero_of_le, add-zero, add-one}
use mathlib.Core.List.{List, [], ◌∷◌, ◌++◌}
use Rattle.std.proofs.Math.Bool.{true, false}
use native.Mathlib.Omega.{arith}
use Rattle.std.proofs.Math.ListN.{length, take, length-set, length-take}
use Rattle.std.proofs.Math.Seq.{take-take, take-set-le, take-suc-set}
use borrow.Author.Tests.{eqb-true, eqb-false, eq-eqb, ne_eqb, lt-ltb}
use Rattle.lxtr_spec.specs.Ranges.{concat_from}
use Rattle.lxtr_spec.specs.Labels.{max_labels, length_count, Pair}
use Rattle.lxtr_spec.specs.Joining.{code_under}
use Rattle.lxtr_spec.specs.Image.{slot_count, child_count, is_leaf, value_number, base, code_to, offset, child, list_width, label_count, label_of_code, label_at, has_leaf, has_parent, slot_from}
use Rattle.lxtr_spec.specs.Refusals.{own_code, end_exists}
use Rattle.lxtr_spec.specs.Completions.{entry_pairs, list_from}
use Rattle.lxtr_spec.specs.Sets.{InList}
use Rattle.lxtr_laws.specs.RangeTests.{more}
use Rattle.lxtr_laws.specs.Tests.{not_is_true}
use Rattle.lxtr_laws.specs.JoiningLaws.{slot_of_base, slot_by_code}
use Rattle.lxtr_laws.specs.Facts.{Accepted}
use Rattle.lxtr_laws.specs.ListEntries.{child_used, place_below, code_from_lem, code_below}
use Rattle.lxtr_complete.specs.RecordWriting.{State, put, after, after_append, after_stopped}

-- a code of the code map
pub record CodeListed (b : List ℕ) (c : ℕ) : Type 0 where
  pub from : 1 ≤ c
  pub to : c - 1 < label_count b

-- an entry of a children list that is not an end: the child, and the label that leads to it from a slot with base a
pub record EntryOf (b : List ℕ) (a j s x : ℕ) : Type 0 where
  pub slot_is : s ≡ child b j
  pub label_is : x ≡ label_of_code b (code_under a (child b j))

-- how many ends the list of slot n starts with, 1 or 0; the entries after that are not ends
pub record EndsOf (b : List ℕ) (n ends : ℕ) : Type 0 where
  pub within : offset b n + ends ≤ offset b (n + 1)
  pub first : ends ≢ 0 → (ends ≡ 1) × (is_leaf b (child b (offset b n)) ≡ true)
  pub inner : (j : ℕ) → InList b n j → offset b n + ends ≤ j → is_leaf b (child b j) ≡ false

-- the pair of that end, if there is one; the labels `key` reach slot n
unfoldable pub end_pairs : List ℕ → ℕ → ℕ → List ℕ → List Pair
end_pairs b n ends key = cond (eqb ends 0) [] ((key, value_number b (child b (offset b n))) ∷ [])

-- the first `len` words of a path stay
pub record Kept (len : ℕ) (path path' : List ℕ) : Type 0 where
  pub same : take len path' ≡ take len path
  pub long : length path' ≡ length path

-- what the listing below a slot requires, with `left` labels still allowed
pub record ListReady (b : List ℕ) (left n : ℕ) (path : List ℕ) : Type 0 where
  pub slot_below : n < slot_count b
  pub labels_left : left ≤ length_count
  pub path_long : length path ≡ length_count

module _ (b : List ℕ) (a j s c : ℕ) (at : s ≡ child b j) (code : c ≡ code_under a s) where
  pub inner_entry : (x : ℕ) → x ≡ label_at b (c - 1) → EntryOf b a j s x
  unfolding label_of_code
  inner_entry x e = record { slot_is = at; label_is = rw (code, at) at e }

  module _ (listed : CodeListed b (code_under a (child b j))) where
    pub entry_code : 1 ≤ c
    entry_code = rw (code, at) listed.from

    pub entry_label : c - 1 < label_count b
    entry_label = rw (code, at) listed.to

-- the ends of lists
module _ (b : List ℕ) (ok : Accepted b) (n : ℕ) (slot : n < slot_count b) where
  leaf_code : (j : ℕ) → InList b n j → is_leaf b (child b j) ≡ eqb (code_to b n (child b j)) 0
  unfolding own_code
  leaf_code j place =
      let u = child_used ok j (place_below ok n j slot place) in
      rw (ok.lists.entry n j slot place).up at ((ok.slots (child b j) u.0).used u.1).leaf_code

  later_inner : (j : ℕ) → InList b n j → offset b n < j → is_leaf b (child b j) ≡ false
  later_inner j place h = leaf_code j place ∙ ne_eqb (code_to b n (child b j)) 0 (λ z. omega (arith, (ok.lists.entry n j slot place).above h))

  -- an end is at the base, and the flag says whether there is one
  pub no_flag : (l : Bool) → l ≡ has_leaf b n → not l ≡ true → EndsOf b n 0
  unfolding end_exists has_parent
  no_flag l is unset = record { within = omega (arith, ok.lists.rising n slot); first = λ z. absurd (z refl); inner = λ j place _. go j place (is_leaf b (child b j)) refl }
    where
      go : (j : ℕ) → InList b n j → (u : Bool) → is_leaf b (child b j) ≡ u → is_leaf b (child b j) ≡ false
      go j place false e = e
      go j place true e =
          let u = child_used ok j (place_below ok n j slot place) in
          let up = (ok.lists.entry n j slot place).up in
          let code : code_to b n (child b j) ≡ 0 = eqb-true _ _ (sym (leaf_code j place) ∙ e) in
          let at : base b n ≡ child b j = sym (slot_of_base b n) ∙ ap (slot_from b n) (sym code) ∙ slot_by_code b n (child b j) in
          let inner : is_leaf b n ≡ false = rw up at ((ok.slots (child b j) u.0).used u.1).parent_inner in
          let there : end_exists b n ≡ true = rw (inner, at, up, lt-ltb (child b j) (slot_count b) u.0, eq-eqb n n refl) in
          let from : n ≢ 0 = rw up at u.1.1 in
          absurd (true≢false (sym there ∙ sym ((ok.slots n slot).flag (omega arith)) ∙ sym is ∙ (not_is_true l).0 unset))

  -- f is where the list starts, and t where it ends
  module _ (f t : ℕ) (from : f ≡ offset b n) (to : t ≡ offset b (n + 1)) where
    pub no_list : t ≤ f → EndsOf b n 0
    no_list h = record {
      within = omega (arith, ok.lists.rising n slot);
      first = λ z. absurd (z refl);
      inner = λ j place _. absurd (omega (arith, place.from, place.to));
    }

    module _ (h : f < t) where
      first_place : InList b n (offset b n)
      first_place = record { from = omega arith; to = omega arith }

      pub first_listed : f < child_count b
      first_listed = rw from (place_below ok n (offset b n) slot first_place)

      module _ (s c : ℕ) (at : s ≡ child b f) (code : c ≡ code_to b n s) where
        own : c ≡ code_to b n (child b (offset b n))
        own = code ∙ rw (at, from)

        pub no_end : (c ≡ 0 → ⊥) → EndsOf b n 0
        no_end z = record {
          within = omega arith;
          first = λ e. absurd (e refl);
          inner = λ j place _. go j place (eqb j (offset b n)) refl;
        }
          where
            go : (j : ℕ) → InList b n j → (u : Bool) → eqb j (offset b n) ≡ u → is_leaf b (child b j) ≡ false
            go j place true e = rw (eqb-true j (offset b n) e) (leaf_code (offset b n) first_place ∙ rw (← own) (ne_eqb c 0 z))
            go j place false e = let d = eqb-false j (offset b n) e in later_inner j place (omega (arith, place.from, d))

        pub one_end : c ≡ 0 → EndsOf b n 1
        one_end z = record {
          within = omega arith;
          first = λ _. (refl, leaf_code (offset b n) first_place ∙ rw (← own) (eq-eqb c 0 z));
          inner = λ j place l. later_inner j place (omega arith);
        }

-- the record of the end
module _ (b : List ℕ) (n ends : ℕ) (key : List ℕ) (s₀ : State) where
  pub end_none : ends ≡ 0 → s₀ ≡ after s₀ (end_pairs b n ends key)
  unfolding end_pairs after
  end_none e = rw (eq-eqb ends 0 e)

  -- t is the child that is the end, and v its value
  pub end_put : (ends ≡ 0 → ⊥) → (f t v : ℕ) → f ≡ offset b n → t ≡ child b f → v ≡ value_number b t → (s : State) → s ≡ put s₀ (key, v) → s ≡ after s₀ (end_pairs b n ends key)
  unfolding end_pairs after
  end_put z f t v from at value s e = e ∙ rw (ne_eqb ends 0 z, value, at, from)

-- if there is an end, the list has a place
pub end_place : (b : List ℕ) (n ends : ℕ) → EndsOf b n ends → (ends ≡ 0 → ⊥) → (f : ℕ) → f ≡ offset b n → InList b n f
end_place b n ends known z f from = record { from = omega arith; to = omega (arith, known.within, (known.first z).0) }

-- the end and then the entries after it are all entries
end_first : (b : List ℕ) (n ends : ℕ) → EndsOf b n ends → (below : ℕ → List ℕ → List Pair) (key : List ℕ) (s : State)
    → after (after s (end_pairs b n ends key)) (concat_from (offset b (n + 1) - (offset b n + ends)) (offset b n + ends) (entry_pairs b below n key))
    ≡ after s (concat_from (offset b (n + 1) - offset b n) (offset b n) (entry_pairs b below n key))
unfolding end_pairs entry_pairs concat_from after
end_first b n ends known below key s = go (eqb ends 0) refl
  where
    go : (u : Bool) → eqb ends 0 ≡ u
        → after (after s (cond u [] ((key, value_number b (child b (offset b n))) ∷ []))) (concat_from (offset b (n + 1) - (offset b n + ends)) (offset b n + ends) (entry_pairs b below n key))
        ≡ after s (concat_from (offset b (n + 1) - offset b n) (offset b n) (entry_pairs b below n key))
    go true e = rw (eqb-true ends 0 e, add-zero (offset b n))
    go false e =
        let k = known.first (eqb-false ends 0 e) in
        let some : offset b n < offset b (n + 1) = omega (arith, known.within, k.0) in
        rw (k.0, more (offset b (n + 1)) (offset b n) some, after_append, entry_pairs, k.1)

pub kept_none : (len : ℕ) (path : List ℕ) → Kept len path path
kept_none len path = record { same = refl; long = refl }

-- what is left to do from entry j up to `end`
abbrev rest_of : List ℕ → ℕ → ℕ → List ℕ → ℕ → ℕ → List Pair
rest_of b left n key end j = concat_from (end - j) j (entry_pairs b (list_from b (left - 1)) n key)

-- What the loop over the entries of slot n keeps, at entry j of those from j₁ up to `end`: what is left to do completes all that
-- was left when the loop started, and the labels of the key stay in the path.
pub record ListedSoFar (b : List ℕ) (left n len end j₁ j : ℕ) (path₁ path : List ℕ) (s₁ s : State) : Type 0 where
  pub todo : after s (rest_of b left n (take len path₁) end j) ≡ after s₁ (rest_of b left n (take len path₁) end j₁)
  pub kept : Kept len path₁ path

module _ (b : List ℕ) (left n len : ℕ) (path₀ : List ℕ) (s₀ : State) where
  pub list_none : left ≡ 0 → s₀ ≡ after s₀ (list_from b left n (take (length_count - left) path₀))
  unfolding list_from after
  list_none e = rw e

  module _ (ready : ListReady b left n path₀) (z : left ≡ 0 → ⊥) (size : len ≡ length_count - left) where
    pub end_key : length (take len path₀) ≤ max_labels
    end_key = omega (arith, length-take len path₀)

    -- the end is listed
    module _ (ends f end : ℕ) (known : EndsOf b n ends) (from : f ≡ offset b n) (to : end ≡ offset b (n + 1)) (s₁ : State) (s₁_is : s₁ ≡ after s₀ (end_pairs b n ends (take len path₀))) where
      pub going_start : ListedSoFar b left n len end (f + ends) (f + ends) path₀ path₀ s₁ s₁
      going_start = record { todo = refl; kept = kept_none len path₀ }

      whole : after s₁ (rest_of b left n (take len path₀) end (f + ends)) ≡ after s₀ (list_from b left n (take (length_count - left) path₀))
      unfolding list_from list_width
      whole =
          let m : left ≡ suc (left - 1) = omega arith in
          rw (s₁_is, from, to, ← size) (end_first b n ends known (list_from b (left - 1)) (take len path₀) s₀ ∙ ap (λ (k : ℕ). after s₀ (list_from b k n (take len path₀))) (sym m))

      pub end_stopped : s₁.at ≡ 0 → s₁ ≡ after s₀ (list_from b left n (take (length_count - left) path₀))
      end_stopped h = sym (after_stopped s₁ (rest_of b left n (take len path₀) end (f + ends)) h) ∙ whole

      module _ (j : ℕ) (path : List ℕ) (s : State) (g : ListedSoFar b left n len end (f + ends) j path₀ path s₁ s) where
        pub going_end : end ≤ j → s ≡ after s₀ (list_from b left n (take (length_count - left) path₀))
        unfolding concat_from after
        going_end h = rw (sub-eq-zero_of_le h) at g.todo ∙ whole

        pub going_stopped : s.at ≡ 0 → s ≡ after s₀ (list_from b left n (take (length_count - left) path₀))
        going_stopped h = sym (after_stopped s (rest_of b left n (take len path₀) end j) h) ∙ g.todo ∙ whole

        pub going_kept : Kept (length_count - left) path₀ path
        going_kept = rw (← size) g.kept

        module _ (ok : Accepted b) (since : f + ends ≤ j) (h : j < end) where
          place : InList b n j
          place = record { from = omega arith; to = omega arith }

          inner : is_leaf b (child b j) ≡ false
          inner = known.inner j place (omega arith)

          pub going_place : j < child_count b
          going_place = place_below ok n j ready.slot_below place

          -- a is the base of the slot
          module _ (a : ℕ) (a-is : a ≡ base b n) where
            code : code_under a (child b j) ≡ code_to b n (child b j)
            unfolding code_to
            code = rw a-is

            pub going_code : CodeListed b (code_under a (child b j))
            going_code = record {
              from = code_from_lem ok n j ready.slot_below place (child b j) refl false (code_under a (child b j)) (sym inner) refl code;
              to = code_below ok n j ready.slot_below place (child b j) refl false (code_under a (child b j)) (sym inner) refl code;
            }

            -- t is the child there, and x the label
            module _ (t x : ℕ) (e : EntryOf b a j t x) where
              pub going_below : ListReady b (left - 1) t (set path len x)
              going_below = record {
                slot_below = rw e.slot_is (child_used ok j going_place).0;
                labels_left = omega (arith, ready.labels_left);
                path_long = length-set path len x ∙ g.kept.long ∙ ready.path_long;
              }

              pub going_on : (path' : List ℕ) (s' : State) → s' ≡ after s (list_from b (left - 1) t (take (length_count - (left - 1)) (set path len x)))
                  → Kept (length_count - (left - 1)) (set path len x) path' → ListedSoFar b left n len end (f + ends) (j + 1) path₀ path' s₁ s'
              unfolding concat_from entry_pairs list_from
              going_on path' s' step q =
                  let size' : length_count - (left - 1) ≡ len + 1 = omega (arith, ready.labels_left) in
                  let place' : len < length path = omega (arith, g.kept.long, ready.path_long, ready.labels_left) in
                  let key : take (len + 1) (set path len x) ≡ take len path₀ ++ x ∷ [] = rw (add-one len, take-suc-set path len x place', g.kept.same) in
                  let same : take (len + 1) path' ≡ take (len + 1) (set path len x) = rw size' at q.same in
                  let pairs : entry_pairs b (list_from b (left - 1)) n (take len path₀) j ≡ list_from b (left - 1) t (take (length_count - (left - 1)) (set path len x)) =
                  rw (entry_pairs, inner, size', key, e.slot_is, e.label_is, code) in
                  record {
                    todo = rw (step, ← pairs, ← after_append) (rw (more end j h) at g.todo);
                    kept = record {
                      same = sym (take-take len (len + 1) path' (omega arith)) ∙ ap (take len) same ∙ take-take len (len + 1) (set path len x) (omega arith) ∙ take-set-le len path len x (omega arith) ∙ g.kept.same;
                      long = q.long ∙ length-set path len x ∙ g.kept.long;
                    };
                  }
