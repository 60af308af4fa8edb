-- The place of a text in a table, as the code finds it: cut off at the table's end. A text that begins at the end or past it is not
-- whole, and all after it begin past the end too.
use Rattle.std.specs.Prelude.{ℕ, ◌+◌, ◌-◌, ◌*◌, ◌≤◌, ◌<◌, min, ◌≡◌, Bool, length, take, drop, set, leb}
use native.Mathlib.Omega.{arith}
use Rattle.std.proofs.Common.{◌≢◌, below_more, get_or-set_other, get_or-set_same, add-one, ap, ◌∙◌, drop_of_length-le, take_all}
use Rattle.std.proofs.Math.Path.{refl, sym}
use Rattle.std.proofs.Math.Bool.{true, false}
use mathlib.Core.List.{List, ◌++◌}
use Rattle.std.proofs.Math.ListN.{get_or, get_or-append, length-append, length-drop, length-set}
use Rattle.std.proofs.Math.Seq.{take-nil}
use Rattle.std.proofs.Math.Dec.{ltb}
use borrow.Author.Tests.{lt-ltb, le-ltb, ltb-true, ltb-false, leb-true, leb-false}
use Rattle.romaji_spec.specs.KanaTables.{text_end, text_at, text_bytes, text_cut}
use Rattle.romaji_laws.specs.TextPlaces.{text_rises}

-- the first n of a list are the first m, if n is m or the list has no more than n
pub take_least : (l : List ℕ) (n m : ℕ) → n ≡ min m (length l) → take n l ≡ take m l
take_least l n m e = go (leb m (length l)) refl
  where
    go : (t : Bool) → leb m (length l) ≡ t → take n l ≡ take m l
    go true h = let f : n ≡ m = omega (arith, leb-true m (length l) h) in ap (λ (k : ℕ). take k l) f
    go false h = let g = leb-false m (length l) h in take_all n l (omega arith) ∙ sym (take_all m l (omega arith))

same_test : (a c d e : ℕ) → (a < c → d < e) × (c ≤ a → e ≤ d) → ltb a c ≡ ltb d e
same_test a c d e (less, not-less) = go (ltb a c) refl
  where
    go : (t : Bool) → ltb a c ≡ t → ltb a c ≡ ltb d e
    go true h = h ∙ sym (lt-ltb d e (less (ltb-true a c h)))
    go false h = h ∙ sym (le-ltb d e (not-less (ltb-false a c h)))

module _ (kana : List ℕ) where
  -- the loop: `at` is where the text of value i begins, cut off
  abbrev pub Begins : ℕ → ℕ → Type 0
  Begins i at = at ≡ min (text_at kana i) (length kana)

  pub begins_first : Begins 0 0
  unfolding text_at
  begins_first = omega arith

  module _ (i at : ℕ) (begins : Begins i at) where
    is_place : at < length kana → text_at kana i ≡ at
    is_place h = omega arith

    pub begins_next : (at' : ℕ) → at' ≡ min (text_end kana at) (length kana) → Begins (i + 1) at'
    unfolding text_at text_end
    begins_next at' e = go (ltb at (length kana)) refl
      where
        go : (t : Bool) → ltb at (length kana) ≡ t → Begins (i + 1) at'
        go true h = e ∙ rw (add-one i, is_place (ltb-true at (length kana) h))
        go false h = let l = ltb-false at (length kana) h in rw (add-one i) (omega arith)

    pub begins_past : (v : ℕ) → i ≤ v → length kana ≤ at → Begins v (length kana)
    begins_past v l h = omega (arith, text_rises kana i v l)

    -- the text of value i, where the code looks at it
    pub no_bytes : length kana ≤ at → take 0 kana ≡ text_bytes kana i
    unfolding text_bytes
    no_bytes h = sym (ap (take (4 * get_or kana (text_at kana i) 0)) (drop_of_length-le kana {i = text_at kana i + 1} (omega arith)) ∙ take-nil (4 * get_or kana (text_at kana i) 0))

    module _ (here : at < length kana) (end : ℕ) (ends : end ≡ min (text_end kana at) (length kana)) where
      pub bytes_start : at + 1 ≤ end
      unfolding text_end
      bytes_start = omega arith

      pub bytes_end : end ≤ length kana
      bytes_end = omega arith

      pub the_bytes : take (end - (at + 1)) (drop (at + 1) kana) ≡ text_bytes kana i
      unfolding text_bytes text_end
      the_bytes = rw (is_place here) (take_least (drop (at + 1) kana) (end - (at + 1)) (4 * get_or kana at 0) (omega (arith, length-drop (at + 1) kana)))

    pub cut_past : length kana ≤ at → true ≡ text_cut kana i
    unfolding text_cut text_end
    cut_past h = sym (lt-ltb (length kana) (text_end kana (text_at kana i)) (omega arith))

    pub cut_here : (n : ℕ) → at < length kana → n ≡ 4 * get_or kana at 0 → ltb (length kana - (at + 1)) n ≡ text_cut kana i
    unfolding text_cut text_end
    cut_here n h e = rw (is_place h) (same_test (length kana - (at + 1)) n (length kana) (at + 1 + 4 * get_or kana at 0) (λ l. omega arith, λ l. omega arith))

-- ---- the places that are kept: of at most so many texts

abbrev pub most_places : ℕ
most_places = 512

-- the first n places are those of the first n texts, and n is at least 1
pub record Indexed (kana places : List ℕ) (n : ℕ) : Type 0 where
  pub some : 1 ≤ n
  pub within : n ≤ length places
  pub are : (i : ℕ) → i < n → Begins kana i (get_or places i 0)

-- the loop that finds them: the first i of n are in the front part of the array
pub record PlacesPut (kana : List ℕ) (n i at : ℕ) (front : List ℕ) : Type 0 where
  pub size : length front ≡ n
  pub begins : Begins kana i at
  pub are : (k : ℕ) → k < i → Begins kana k (get_or front k 0)

module _ (kana : List ℕ) (n : ℕ) where
  pub places_start : (front : List ℕ) → length front ≡ n → PlacesPut kana n 0 0 front
  places_start front e = record { size = e; begins = begins_first kana; are = λ k h. absurd (omega arith) }

  module _ (i at : ℕ) (front : List ℕ) (before : PlacesPut kana n i at front) where
    pub places_next : (at' : ℕ) → at' ≡ min (text_end kana at) (length kana) → i < length front → PlacesPut kana n (i + 1) at' (set front i at)
    places_next at' e h = record {
      size = length-set front i at ∙ before.size;
      begins = begins_next kana i at before.begins at' e;
      are = below_more _ _
          (λ k m. let ne : k ≢ i = omega arith in rw get_or-set_other (before.are k m))
          (rw get_or-set_same before.begins);
    }

    pub places_end : 1 ≤ n → length front ≤ i → (behind : List ℕ) → Indexed kana (front ++ behind) n
    places_end some end behind = record {
      some = some;
      within = omega (arith, length-append front behind, before.size);
      are = λ k h. let l : k < length front = omega (arith, before.size) in rw (get_or-append front behind 0 k l) (before.are k (omega arith));
    }
