-- Bytes that hold the words of a work, and its children lists with their offsets: the lists are those of an image.
use Rattle.std.specs.Prelude.{ℕ, ◌+◌, ◌-◌, ◌≤◌, ◌<◌, ◌≡◌, List, get_or}
use Rattle.std.proofs.Math.Nat.{zero-add}
use Rattle.std.proofs.Common.{arith, ◌∙◌, subst}
use Rattle.std.proofs.Math.Path.{refl, sym, ap}
use Rattle.std.proofs.Math.ListN.{length}
use Rattle.lxtr_spec.specs.Ranges.{concat_from}
use Rattle.lxtr_spec.specs.Image.{slot_count, child_count, base, code_to, offset, child, low31}
use Rattle.lxtr_spec.specs.Placing.{base_at, check_at}
use Rattle.lxtr_spec.specs.Builds.{children_of, children_in}
use Rattle.lxtr_spec.specs.Sets.{InList, ListsFit}
use Rattle.lxtr_laws.specs.Members.{member_at, place_of_lem, sorted_at}
use Rattle.lxtr_laws.specs.RangeTests.{concat_front}
use Rattle.lxtr_laws.specs.Runs.{run_entry, run_more}
use Rattle.lxtr_build_laws.specs.ChildLists.{ListedChild, TakenListed, CodeBelow, list_mem, list_has, list_sorted, list_of_zero}
use Rattle.lxtr_demands.specs.Laws.WorkSlots.{WordsOf, parent_of, base_of_inner}

-- where the list of slot p begins
abbrev pub start_of : List ℕ → ℕ → ℕ → ℕ → ℕ
start_of w N L p = length (concat_from p 0 (children_of w N L))

-- the bytes b have the children lists of the first N slots of w, where the map has L labels
pub record ListsOf (b w : List ℕ) (N L : ℕ) : Type 0 where
  pub words : WordsOf b w N
  pub count : child_count b ≡ length (children_in w N L)
  pub offset_of : (p : ℕ) → p ≤ N → offset b p ≡ start_of w N L p
  pub child_of : (j : ℕ) → j < length (children_in w N L) → child b j ≡ get_or (children_in w N L) j 0

module _ {b w : List ℕ} {N L : ℕ} (l : ListsOf b w N L) where
  abbrev list : ℕ → List ℕ
  list p = children_of w N L p

  next_start : (p : ℕ) → start_of w N L (p + 1) ≡ start_of w N L p + length (list p)
  next_start p = run_more (children_of w N L) p 0 ∙ ap (λ (q : ℕ). start_of w N L p + length (list q)) (zero-add p)

  below : (p : ℕ) → p < slot_count b → p < N
  below p h = omega (arith, l.words.slots)

  -- entry i of the list of slot p
  child_is : (p i : ℕ) → p < N → i < length (list p) → child b (start_of w N L p + i) ≡ get_or (list p) i 0
  unfolding children_in
  child_is p i h k =
      let inside : start_of w N L p + i < length (children_in w N L) = omega (arith, next_start p, concat_front (children_of w N L) 0 (p + 1) N (omega arith)) in
      let e = zero-add p in
      l.child_of (start_of w N L p + i) inside ∙ run_entry (children_of w N L) N 0 p i 0 h (rw e k) ∙ rw e refl

  -- place j, which is in the list of slot p
  module _ (p j : ℕ) (h : p < N) (n : InList b p j) where
    place : ℕ
    place = j - start_of w N L p

    at_place : j ≡ start_of w N L p + place
    unfolding place
    at_place = omega (arith, n.from, l.offset_of p (omega arith))

    place_in_lem : place < length (list p)
    unfolding place
    place_in_lem = omega (arith, n.from, n.to, l.offset_of p (omega arith), l.offset_of (p + 1) (omega arith), next_start p)

    child_at : child b j ≡ get_or (list p) place 0
    child_at = ap (child b) at_place ∙ child_is p place h place_in_lem

    listed : ListedChild w N L p (child b j)
    listed = subst (ListedChild w N L p) (sym child_at) (list_mem w N p L (get_or (list p) place 0) (member_at 0 (list p) place place_in_lem))

  rises : (p j : ℕ) → p < N → InList b p j → InList b p (j + 1) → code_to b p (child b j) < code_to b p (child b (j + 1))
  unfolding code_to place
  rises p j h n m =
      let one_more_lem : place p j h n < place p (j + 1) h m = omega (arith, n.from, l.offset_of p (omega arith)) in
      let up = sorted_at 0 (CodeBelow (base_at w p)) (list p) (list_sorted w N p L) (place p j h n) (place p (j + 1) h m) one_more_lem (place_in_lem p (j + 1) h m) in
      let b-is : base b p ≡ base_at w p = base_of_inner l.words p h (listed p j h n).parent_inner in
      rw (b-is, child_at p j h n, child_at p (j + 1) h m) up

  start_zero : start_of w N L 0 ≡ 0
  unfolding concat_from
  start_zero = refl

  no_list_of_zero : 1 ≤ N → offset b 1 ≡ offset b 0
  no_list_of_zero h = omega (arith, l.offset_of 0 (omega arith), l.offset_of 1 h, next_start 0, ap (λ (m : List ℕ). length m) (list_of_zero w N L))

  pub lists_fit : 1 ≤ N → TakenListed w N L → ListsFit b
  unfolding children_in
  lists_fit some_slot all_listed = record {
    members = λ p j f t n. (let c = (listed p j (below p t) n).child in (c.from, omega (arith, c.to, l.words.slots), parent_of l.words (child b j) c.to ∙ c.of));
    whole = λ p s f t g h e. whole p s f (below p t) g (below s h) (sym (parent_of l.words s (below s h)) ∙ e);
    ascending = λ p j f t n m. rises p j (below p t) n m;
    none_of_zero = no_list_of_zero some_slot;
    first = l.offset_of 0 (omega arith) ∙ start_zero;
    last = ap (offset b) l.words.slots ∙ l.offset_of N (omega arith) ∙ sym l.count;
    rising = λ p h. omega (arith, l.words.slots, l.offset_of p (omega (arith, l.words.slots)), l.offset_of (p + 1) (omega (arith, l.words.slots)), next_start p);
  }
    where
      whole : (p s : ℕ) → 1 ≤ p → p < N → 2 ≤ s → s < N → low31 (check_at w s) ≡ p → (j : ℕ) × InList b p j × (child b j ≡ s)
      whole p s f t g h e =
          let k = all_listed s g (λ z. omega (arith, ap low31 z)) in
          let same : k.0 ≡ p = sym k.2.child.of ∙ e in
          let i = place_of_lem 0 (list p) s (list_has w N p L s (subst (λ (q : ℕ). ListedChild w N L q s) same k.2)) in (
            start_of w N L p + i.0,
            record { from = omega (arith, l.offset_of p (omega arith)); to = omega (arith, i.1, l.offset_of (p + 1) (omega arith), next_start p) },
            child_is p i.0 t i.1 ∙ i.2,
          )
