-- The children lists as the code writes them: each child as an entry of the children array, after those before it; and the offsets.
use Rattle.std.specs.Prelude.{ℕ, zero, suc, ◌+◌, ◌*◌, ◌-◌, ◌^◌, ◌≤◌, ◌<◌, min, ◌≡◌, ◌≢◌, Bool, true, false, ◌||◌, get_or, eqb}
use Rattle.std.proofs.Common.{add-one, zero-add, add-zero, ◌∙◌, subst, ⊎_elim, length-take-le}
use Rattle.std.proofs.Math.Decide.{ℕ_discrete}
use native.Mathlib.Omega.{arith}
use Rattle.std.proofs.Math.Path.{refl, sym, ap, ap₂}
use mathlib.Core.List.{List, [], ◌∷◌, ◌++◌, append-nil}
use Rattle.std.proofs.Math.ListN.{length, take, length-append}
use Rattle.std.proofs.Math.Seq.{take_all}
use Rattle.lxtr_spec.specs.Ranges.{concat_from}
use Rattle.lxtr_spec.specs.Numbers.{le_bytes, le_words}
use Rattle.lxtr_spec.specs.Labels.{max_slots}
use Rattle.lxtr_spec.specs.Image.{top_bit}
use Rattle.lxtr_spec.specs.Placing.{base_at}
use Rattle.lxtr_spec.specs.Builds.{is_child, child_by, children_of, children_in, offsets_from}
use Rattle.lxtr_laws.specs.Tests.{is_false}
use Rattle.lxtr_laws.specs.RangeTests.{concat_more, concat_front}
use Rattle.lxtr_laws.specs.ByteOrders.{little, words_size, words_append, words_one}
use Rattle.lxtr_laws.specs.Overlays.{over, over_length, over_none, over_over, over_comm, words_next}
use Rattle.lxtr_build_laws.specs.ChildLists.{Child, child_is, list_none, list_some, offsets_length, offset_at}
use Rattle.lxtr_write.specs.SlotCounting.{Slots}
use Rattle.lxtr_write.specs.Links.{slot, First, Linked, ahead, child, first_small, child_there, next_first, next_less}

-- The numbers xs were written as entries, starting at entry e, of an array that starts at place `at` of the output; r is the entry
-- after them.
pub record Put (out out' : List ℕ) (at e r : ℕ) (xs : List ℕ) : Type 0 where
  pub is : out' ≡ over out (at + 4 * e) (le_words xs)
  pub next : r ≡ e + length xs

module _ (out : List ℕ) (at e : ℕ) where
  pub put_none : Put out out at e e []
  unfolding le_words
  put_none = record { is = sym (over_none out (at + 4 * e)); next = omega arith }

  put_one : (out' : List ℕ) (x : ℕ) → out' ≡ over out (at + 4 * e) (le_bytes x) → Put out out' at e (e + 1) (x ∷ [])
  put_one out' x h = record { is = rw (words_one little) h; next = refl }

  -- further entries after the first ones
  put_more : (out' out'' : List ℕ) (r s : ℕ) (xs ys : List ℕ) → at + 4 * r ≤ length out → Put out out' at e r xs → Put out' out'' at r s ys → Put out out'' at e s (xs ++ ys)
  put_more out' out'' r s xs ys room f g =
      let n = f.next in
      let m = words_size little xs in
      record {
        is = g.is ∙ rw (f.is, words_append little) (over_over out (at + 4 * e) (le_words xs) (le_words ys) (at + 4 * r) (omega arith) (omega arith));
        next = omega (arith, f.next, g.next, length-append xs ys);
      }

-- p's child by code c, or none
module _ (w : List ℕ) (N p c : ℕ) where
  by_one : Child w N p (slot w p c) → child_by w N p c ≡ slot w p c ∷ []
  unfolding child_by
  by_one k = rw ((child_is w N p (slot w p c)).1 k) refl

  by_none : (Child w N p (slot w p c) → ⊥) → child_by w N p c ≡ []
  unfolding child_by
  by_none o = rw (is_false (is_child w N p (slot w p c)) (λ e. o ((child_is w N p (slot w p c)).0 e))) refl

-- what f gives for the first i + 1 numbers
one_more_lem : (f : ℕ → List ℕ) (i : ℕ) → concat_from (i + 1) 0 f ≡ concat_from i 0 f ++ f i
one_more_lem f i = ap (λ (k : ℕ). concat_from k 0 f) (add-one i) ∙ concat_more f i 0 ∙ ap (λ (k : ℕ). concat_from i 0 f ++ f k) (zero-add i)

-- numbers in between that give nothing
gives_none : (f : ℕ → List ℕ) (k m : ℕ) → ((e : ℕ) → k ≤ e → e < k + m → f e ≡ []) → concat_from (k + m) 0 f ≡ concat_from k 0 f
gives_none f k zero o = ap (λ (n : ℕ). concat_from n 0 f) (add-zero k)
gives_none f k (suc m) o =
    let e : k + suc m ≡ k + m + 1 = omega arith in
    ap (λ (n : ℕ). concat_from n 0 f) e
    ∙ one_more_lem f (k + m)
    ∙ ap (λ (l : List ℕ). concat_from (k + m) 0 f ++ l) (o (k + m) (omega arith) (omega arith))
    ∙ append-nil (concat_from (k + m) 0 f)
    ∙ gives_none f k m (λ e l u. o e l (omega arith))

-- The children of slot p by the codes before c are written; e is the entry of the next one.
pub record ChildrenSoFar (w : List ℕ) (N p : ℕ) (out₀ : List ℕ) (at start : ℕ) (out : List ℕ) (e c : ℕ) : Type 0 where
  pub same_length : length out ≡ length out₀
  pub so_far : Put out₀ out at start e (concat_from c 0 (child_by w N p))

module _ (w : List ℕ) (N p : ℕ) (out₀ : List ℕ) (at start : ℕ) where
  children_start : ChildrenSoFar w N p out₀ at start out₀ start 0
  unfolding concat_from
  children_start = record { same_length = refl; so_far = put_none out₀ at start }

  module _ (last : ℕ) (room : at + 4 * (start + length (concat_from (last + 1) 0 (child_by w N p))) ≤ length out₀) (out : List ℕ) (e c : ℕ) (g : ChildrenSoFar w N p out₀ at start out e c) where
    children_more : c ≤ last → e + length (child_by w N p c) ≤ start + length (concat_from (last + 1) 0 (child_by w N p))
    children_more h =
        omega (arith, g.so_far.next, ap length (one_more_lem (child_by w N p) c), length-append (concat_from c 0 (child_by w N p)) (child_by w N p c), concat_front (child_by w N p) 0 (c + 1) (last + 1) (omega arith))

    children_room : c ≤ last → at + 4 * (e + length (child_by w N p c)) ≤ length out
    children_room h = omega (arith, g.same_length, children_more h)

    children_next : (out' : List ℕ) (r : ℕ) → c ≤ last → length out' ≡ length out → Put out out' at e r (child_by w N p c) → ChildrenSoFar w N p out₀ at start out' r (c + 1)
    children_next out' r h l q = record {
      same_length = l ∙ g.same_length;
      so_far = rw (one_more_lem (child_by w N p) c) (put_more out₀ at start out out' e r (concat_from c 0 (child_by w N p)) (child_by w N p c) (omega (arith, children_more h)) g.so_far q);
    }

-- The children so far are written, and t is the next one by its code, or 0 if there is none. There is room for its entry.
pub record Following (w : List ℕ) (N L p : ℕ) (out₀ : List ℕ) (at start : ℕ) (out : List ℕ) (e t : ℕ) : Type 0 where
  pub k : ℕ
  pub so_far : ChildrenSoFar w N p out₀ at start out e k
  pub first : First w N L p k t
  pub small : t < max_slots
  pub space : at + 4 * (e + min 1 t) ≤ length out

module _ (w : List ℕ) (N L : ℕ) (links : List ℕ) (s : Linked w N L N links) (slots : Slots w N) (p : ℕ) (p_from : p ≢ 0) (p_to : p < N) (out₀ : List ℕ) (at start : ℕ) where
  pub head_inside : p < length links
  head_inside = omega (arith, s.size)

  module _ (room : at + 4 * (start + length (concat_from (L + 1) 0 (child_by w N p))) ≤ length out₀) where
    module _ (out : List ℕ) (e t k : ℕ) (so_far : ChildrenSoFar w N p out₀ at start out e k) (f : First w N L p k t) where
      -- no child is in between
      at_next : ChildrenSoFar w N p out₀ at start out e f.reach
      at_next =
          let m : ℕ = f.reach - k in
          let is : k + m ≡ f.reach = omega (arith, f.from) in
          let same : concat_from f.reach 0 (child_by w N p) ≡ concat_from k 0 (child_by w N p) =
          ap (λ (n : ℕ). concat_from n 0 (child_by w N p)) (sym is) ∙ gives_none (child_by w N p) k m (λ e l u. by_none w N p e (f.gap e l (omega arith))) in
          record { same_length = so_far.same_length; so_far = rw same so_far.so_far }

      module _ (some_child : t ≢ 0) where
        listed : (t ≡ slot w p f.reach) × (f.reach ≤ L) × Child w N p t
        listed = child w N L N links s p (omega arith) p_to k t f some_child

        one : child_by w N p f.reach ≡ t ∷ []
        one = by_one w N p f.reach (child_there w N L N links s p (omega arith) p_to k t f some_child) ∙ ap (λ (x : ℕ). x ∷ []) (sym listed.0)

        entry_room : at + 4 * (e + 1) ≤ length out
        entry_room = omega (arith, children_room w N p out₀ at start L room out e f.reach at_next listed.1, ap length one)

      following : Following w N L p out₀ at start out e t
      following = record { k = k; so_far = so_far; first = f; small = first_small w N L p k t f slots.few; space = space (ℕ_discrete t 0) }
        where
          space : Dec (t ≡ 0) → at + 4 * (e + min 1 t) ≤ length out
          space (yes z) = omega (arith, so_far.same_length, at_next.so_far.next, concat_front (child_by w N p) 0 f.reach (L + 1) f.to)
          space (no o) = omega (arith, entry_room o)

    pub follow_start : (t : ℕ) → t ≡ get_or links p 0 → Following w N L p out₀ at start out₀ start t
    follow_start t e = following out₀ start t 0 (children_start w N p out₀ at start) (rw e (s.heads p (omega arith) p_to))

    module _ (out : List ℕ) (e t : ℕ) (g : Following w N L p out₀ at start out e t) where
      module _ (some_child : t ≢ 0) where
        module _ (t' : ℕ) (next : t' ≡ get_or links (max_slots + t) 0) where
          pub follow_next : (out' : List ℕ) → length out' ≡ length out → out' ≡ over out (at + 4 * e) (le_bytes t) → Following w N L p out₀ at start out' (e + 1) t'
          follow_next out' l h =
              let f = g.first in
              let reached = (listed out e t g.k g.so_far f some_child).1 in
              following out' (e + 1) t' (f.reach + 1)
              (children_next w N p out₀ at start L room out e f.reach (at_next out e t g.k g.so_far f) out' (e + 1) reached l (rw (one out e t g.k g.so_far f some_child) (put_one out at e out' t h)))
              (next_first w N L N links s p (omega arith) p_to g.k t f some_child t' next)

          pub follow_less : ahead (base_at w p) L t' < ahead (base_at w p) L t
          follow_less = next_less w N L N links s p (omega arith) p_to g.k t g.first some_child L t' (listed out e t g.k g.so_far g.first some_child).1 next

      pub follow_end : t ≡ 0 → Put out₀ out at start e (concat_from (L + 1) 0 (child_by w N p))
      follow_end z =
          let last : g.first.reach ≡ L + 1 = ⊎_elim (λ a. a.1) (λ a. absurd (omega (arith, a.2.from))) g.first.is in
          subst (λ (n : ℕ). Put out₀ out at start e (concat_from n 0 (child_by w N p))) last (at_next out e t g.k g.so_far g.first).so_far

-- the list of slot p: slot 0 and an end have none
module _ (w : List ℕ) (N L p : ℕ) where
  abbrev childless : Bool
  childless = eqb p 0 || top_bit (get_or w (2 * p) 0)

  module _ (out : List ℕ) (at e : ℕ) where
    pub list_skipped : childless ≡ true → Put out out at e e (children_of w N L p)
    unfolding base_at
    list_skipped h = rw (list_none w N p L h) (put_none out at e)

    module _ (h : childless ≡ false) where
      pub list_room : at + 4 * (e + length (children_of w N L p)) ≤ length out → at + 4 * (e + length (concat_from (L + 1) 0 (child_by w N p))) ≤ length out
      unfolding base_at
      list_room l = rw (list_some w N p L h) at l

      pub list_put : (out' : List ℕ) (r : ℕ) → Put out out' at e r (concat_from (L + 1) 0 (child_by w N p)) → Put out out' at e r (children_of w N L p)
      unfolding base_at
      list_put out' r q = rw (list_some w N p L h) q

-- the offsets, and the lists after them
module _ (w : List ℕ) (N L : ℕ) where
  abbrev offsets : List ℕ
  offsets = offsets_from w N L N 0 0

  abbrev children_before : ℕ → List ℕ
  children_before p = concat_from p 0 (children_of w N L)

  -- the first i offsets leave the output as long as it was
  offsets_in : (out₀ : List ℕ) (at i : ℕ) → i ≤ N + 1 → at + 4 * (N + 1) ≤ length out₀ → length (over out₀ at (le_words (take i offsets))) ≡ length out₀
  offsets_in out₀ at i h room =
      let n = length-take-le i offsets (omega (arith, offsets_length w N L N 0 0)) in
      over_length out₀ at (le_words (take i offsets)) (omega (arith, words_size little (take i offsets)))

  -- the output out₀ with the first i offsets and the lists of the first p slots
  abbrev pub with_lists : List ℕ → ℕ → ℕ → ℕ → List ℕ
  with_lists out₀ at i p = over (over out₀ at (le_words (take i offsets))) (at + 4 * (N + 1)) (le_words (children_before p))

  -- the offsets and lists of the slots before p are written, and e is the entry of the next child
  pub record ListsSoFar (out₀ : List ℕ) (at : ℕ) (out : List ℕ) (e p : ℕ) : Type 0 where
    pub same_length : length out ≡ length out₀
    pub to : p ≤ N
    pub next : e ≡ length (children_before p)
    pub lists : out ≡ with_lists out₀ at p p

  pub lists_start : (out₀ : List ℕ) (at : ℕ) → ListsSoFar out₀ at out₀ 0 0
  unfolding concat_from le_words
  lists_start out₀ at = record { same_length = refl; to = omega arith; next = refl; lists = sym (over_none (over out₀ at []) (at + 4 * (N + 1)) ∙ over_none out₀ at) }

  module _ (out₀ : List ℕ) (at : ℕ) (room : at + 4 * (N + 1) + 4 * length (children_in w N L) ≤ length out₀) (out : List ℕ) (e p : ℕ) (g : ListsSoFar out₀ at out e p) where
    before_few : length (children_before p) ≤ length (children_in w N L)
    unfolding children_in
    before_few = concat_front (children_of w N L) 0 p N g.to

    pub lists_fit : Slots w N → length (children_in w N L) ≤ N → e < 2 ^ 32
    lists_fit s few = omega (arith, g.next, before_few, s.few)

    -- one more offset; the children after the offsets stay
    offset_put : (out' : List ℕ) → out' ≡ over out (at + 4 * p) (le_bytes e) → out' ≡ with_lists out₀ at (p + 1) p
    offset_put out' h =
        let r : List ℕ = over out₀ at (le_words (take p offsets)) in
        let y : List ℕ = le_words (children_before p) in
        let to = g.to in
        let few = before_few in
        let four = little.four e in
        let size-y = words_size little (children_before p) in
        let size-r = offsets_in out₀ at p (omega arith) (omega arith) in
        let same : e ≡ get_or offsets p 0 = g.next ∙ sym (offset_at w N L p to) in
        let more : over r (at + 4 * p) (le_bytes e) ≡ over out₀ at (le_words (take (p + 1) offsets)) =
        words_next little out₀ offsets at (N + 1) (omega arith) (omega (arith, offsets_length w N L N 0 0)) p r refl _ (omega arith) (ap (λ (k : ℕ). over r (at + 4 * p) (le_bytes k)) same) in
        h ∙ ap (λ (l : List ℕ). over l (at + 4 * p) (le_bytes e)) g.lists
        ∙ sym (over_comm r (at + 4 * p) (le_bytes e) (at + 4 * (N + 1)) y (omega arith) (omega arith))
        ∙ ap (λ (l : List ℕ). over l (at + 4 * (N + 1)) y) more

    module _ (out' : List ℕ) (l : length out' ≡ length out) where
      pub lists_room : p < N → at + 4 * (N + 1) + 4 * (e + length (children_of w N L p)) ≤ length out'
      unfolding children_in
      lists_room h =
          omega (arith, g.next, g.same_length, ap length (one_more_lem (children_of w N L) p), length-append (children_before p) (children_of w N L p), concat_front (children_of w N L) 0 (p + 1) N (omega arith))

      module _ (q : out' ≡ over out (at + 4 * p) (le_bytes e)) where
        pub lists_next : (out'' : List ℕ) (r : ℕ) → p < N → length out'' ≡ length out' → Put out' out'' (at + 4 * (N + 1)) e r (children_of w N L p) → ListsSoFar out₀ at out'' r (p + 1)
        lists_next out'' r h m f =
            let more : children_before (p + 1) ≡ children_before p ++ children_of w N L p = one_more_lem (children_of w N L) p in
            let x : List ℕ = le_words (take (p + 1) offsets) in
            let few = before_few in
            let size-r = offsets_in out₀ at (p + 1) (omega arith) (omega arith) in
            let size-y = words_size little (children_before p) in
            let next = g.next in
            record {
              same_length = m ∙ l ∙ g.same_length;
              to = omega arith;
              next = rw more (omega (arith, f.next, length-append (children_before p) (children_of w N L p)));
              lists =
                  f.is
                  ∙ ap (λ (k : List ℕ). over k (at + 4 * (N + 1) + 4 * e) (le_words (children_of w N L p))) (offset_put out' q)
                  ∙ over_over (over out₀ at x) (at + 4 * (N + 1)) (le_words (children_before p)) (le_words (children_of w N L p)) (at + 4 * (N + 1) + 4 * e) (omega arith) (omega arith)
                  ∙ ap (over (over out₀ at x) (at + 4 * (N + 1))) (sym (ap le_words more ∙ words_append little (children_before p) (children_of w N L p)));
            }

    pub lists_end : (out' : List ℕ) → N ≤ p → out' ≡ over out (at + 4 * N) (le_bytes e) → out' ≡ over out₀ at (le_words offsets ++ le_words (children_in w N L))
    unfolding children_in
    lists_end out' h q' =
        let is : p ≡ N = omega (arith, g.to) in
        let q : out' ≡ over out (at + 4 * p) (le_bytes e) = rw is q' in
        let size = words_size little offsets in
        let count = offsets_length w N L N 0 0 in
        let whole : take (p + 1) offsets ≡ offsets = take_all (p + 1) offsets (omega arith) in
        offset_put out' q
        ∙ ap₂ (λ (l : List ℕ) (k : ℕ). over (over out₀ at (le_words l)) (at + 4 * (N + 1)) (le_words (children_before k))) whole is
        ∙ over_over out₀ at (le_words offsets) (le_words (children_before N)) (at + 4 * (N + 1)) (omega arith) (omega arith)
