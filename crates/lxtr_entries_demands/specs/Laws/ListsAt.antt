-- The list of a value, and the offsets of lists: as many entries come before a list as the lists before it have together.
use Rattle.std.specs.Prelude.{ℕ, suc, ◌+◌, ◌<◌, ◌≡◌, refl, length, get_or, take, drop}
use Rattle.std.proofs.Common.{add-zero, arith, sym, ap, ◌∙◌, length-append, length-take-le, take_at}
use mathlib.Core.List.{List, [], ◌∷◌, ◌++◌, flatten, append-nil}
use Rattle.std.proofs.lemmas.List.{get_or_at}
use Rattle.std.proofs.Math.Seq.{split_at, append_snoc}
use Rattle.lxtr_entries_demands.specs.EntryDemand.{Entry, EntryLists, offsets_of, ListAt}
use Rattle.lxtr_entries_demands.specs.Laws.CutEntries.{flatten_append}

-- each value has a list, the one at its place
pub list_here : (lists : EntryLists) (v : ℕ) → v < length lists → ListAt lists v (length (flatten (take v lists))) (get_or lists v [])
list_here lists v h =
    record { before = take v lists; after = drop (suc v) lists; parts = split_at lists v [] h; place = length-take-le v lists (omega arith); earlier = refl }

module _ {lists : EntryLists} {v n : ℕ} {es : List Entry} (at : ListAt lists v n es) where
  list_is : es ≡ get_or lists v []
  list_is = sym (ap (λ (l : EntryLists). get_or l v []) at.parts ∙ get_or_at at.before es at.after [] v at.place)

  pub list_below : v < length lists
  list_below = omega (arith, ap length at.parts, length-append at.before (es ∷ at.after), at.place)

  count_is : n ≡ length (flatten (take v lists))
  count_is = sym (ap (λ (l : EntryLists). length (flatten (take v l))) at.parts ∙ ap (λ (l : EntryLists). length (flatten l)) (take_at at.before (es ∷ at.after) v at.place) ∙ at.earlier)

pub one_list : (lists : EntryLists) (v n m : ℕ) (es fs : List Entry) → ListAt lists v n es → ListAt lists v m fs → (n ≡ m) × (es ≡ fs)
one_list lists v n m es fs a c = (count_is a ∙ sym (count_is c), list_is a ∙ sym (list_is c))

pub offsets_count : (n : ℕ) (lists : EntryLists) → length (offsets_of n lists) ≡ suc (length lists)
unfolding offsets_of
offsets_count n [] = refl
offsets_count n (es ∷ lists) = ap suc (offsets_count (n + length es) lists)

pub offset_after : (n : ℕ) (before after : EntryLists) → get_or (offsets_of n (before ++ after)) (length before) 0 ≡ n + length (flatten before)
unfolding offsets_of flatten
offset_after n [] [] = sym (add-zero n)
offset_after n [] (es ∷ after) = sym (add-zero n)
offset_after n (es ∷ before) after = omega (arith, offset_after (n + length es) before after, length-append es (flatten before))

-- a list, and those after it
pub next_parts : (before : EntryLists) (es : List Entry) (after : EntryLists) → before ++ es ∷ after ≡ before ++ (es ∷ []) ++ after
next_parts before es after = sym (append_snoc before es after)

pub next_count : (before : EntryLists) (es : List Entry) → length (flatten (before ++ (es ∷ []))) ≡ length (flatten before) + length es
unfolding flatten
next_count before es = rw (flatten_append before (es ∷ []), append-nil es) (length-append (flatten before) es)
