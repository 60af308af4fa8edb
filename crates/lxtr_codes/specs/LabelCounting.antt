-- The counts of the labels: for each label, how often it occurs in all keys together.
use Rattle.std.specs.Prelude.{ℕ, ◌+◌, ◌-◌, ◌*◌, ◌^◌, ◌≤◌, ◌<◌, ◌≡◌, ◌≢◌, eqb, drop, set, replicate}
use Rattle.std.proofs.Math.Path.{refl, ap}
use Rattle.std.proofs.Common.{sym, ◌∙◌, subst, inl, Fits, arith, eq-eqb, ne_eqb}
use mathlib.Core.List.{List, [], ◌∷◌, Memᴰ}
use Rattle.std.proofs.Math.Bool.{cond}
use Rattle.std.specs.Int.{w32}
use borrow.Author.Rules.{Fits-under}
use Rattle.std.proofs.Math.Nat.{sub-zero}
use Rattle.std.proofs.Math.Decide.{ℕ_discrete}
use Rattle.std.proofs.Math.ListN.{get_or, length, length-set}
use Rattle.std.proofs.lemmas.List.{get_or-replicate}
use Rattle.std.proofs.Math.Seq.{get_or-set_same, get_or-set_other}
use Rattle.lxtr_spec.specs.Labels.{max_labels, Pair}
use Rattle.lxtr_spec.specs.KeyLists.{max_keys, keys_at, key_count, key_length, key_label, next_key, key_at, keys_from, pairs_of}
use Rattle.lxtr_spec.specs.CodeMaps.{occurrences, frequency, labels_used}
use Rattle.lxtr_laws.specs.Limit.{length_fits_byte}
use Rattle.lxtr_laws.specs.Tests.{cond_within}
use Rattle.lxtr_laws.specs.Members.{member_at}
use Rattle.lxtr_build_laws.specs.KeyListFacts.{WholeKeys, KeysPassed}
use Rattle.lxtr_build_laws.specs.KeyReading.{key_size, key_at_lem, key_goes, key_ends, whole_on, keys_on, keys_end, keys_length}
use Rattle.lxtr_build_laws.specs.CodeTables.{Rising, place_in}
use Rattle.lxtr_build_laws.specs.RisingNumbers.{place_at, place_mem}
use Rattle.lxtr_build_laws.specs.UsedLabels.{used_members, used_rising}

-- a key has at most this many labels, because its length is a byte
abbrev most_in_key : ℕ
most_in_key = 255

-- so no count is higher than this
abbrev most_counted : ℕ
most_counted = max_keys * most_in_key

-- the labels of a key are listed, and their counts stay small
pub record Countable (key labels counts : List ℕ) : Type 0 where
  pub room : length labels ≤ length counts
  pub listed : (x : ℕ) → Memᴰ x key → Memᴰ x labels
  pub small : (i : ℕ) → i < length labels → get_or counts i 0 + occurrences key (get_or labels i 0) ≤ most_counted

-- the count of x goes up by one; the counts are in the order of the labels
unfoldable pub count_one : List ℕ → ℕ → List ℕ → List ℕ
count_one labels x counts = set counts (place_in labels x) (get_or counts (place_in labels x) 0 + 1)

-- the count of each label went up by its occurrences in the key
pub record KeyCounted (key labels counts₀ counts : List ℕ) : Type 0 where
  pub size : length counts ≡ length counts₀
  pub each : (i : ℕ) → i < length labels → get_or counts i 0 ≡ get_or counts₀ i 0 + occurrences key (get_or labels i 0)

-- the counts are the frequencies of the labels
pub record Counted (ps : List Pair) (labels counts : List ℕ) : Type 0 where
  pub often : (i : ℕ) → i < length labels → get_or counts i 0 ≡ frequency ps (get_or labels i 0)

-- ---- one label

module _ (labels : List ℕ) (x : ℕ) (counts : List ℕ) (i : ℕ) (place : i ≡ place_in labels x) where
  pub count_fits : get_or counts (place_in labels x) 0 + 1 < 2 ^ 32 → Fits w32 (get_or counts i 0 + 1)
  count_fits h = rw place (Fits-under w32 (get_or counts (place_in labels x) 0 + 1) (2 ^ 32) h tt)

  pub count_put : set counts i (get_or counts i 0 + 1) ≡ count_one labels x counts
  unfolding count_one
  count_put = rw (count_one, place) refl

-- ---- one key, of which the first j labels are counted

pub record KeyCounting (key labels counts₀ counts : List ℕ) (j : ℕ) : Type 0 where
  pub size : length counts ≡ length counts₀
  pub left : (i : ℕ) → i < length labels → get_or counts i 0 + occurrences (drop j key) (get_or labels i 0) ≡ get_or counts₀ i 0 + occurrences key (get_or labels i 0)

module _ (b : List ℕ) (at : ℕ) (labels c₀ : List ℕ) (rising : Rising labels) (able : Countable (key_at b at) labels c₀) where
  module _ (j len x : ℕ) (h : j < len) (size : len ≡ key_length b at) (is : x ≡ key_label b at j) (c : List ℕ) (so_far : KeyCounting (key_at b at) labels c₀ c j) where
    abbrev place : ℕ
    place = place_in labels x

    found : (place < length labels) × (get_or labels place 0 ≡ x)
    found = place_mem labels x rising (able.listed x (subst (λ (y : ℕ). Memᴰ y (key_at b at)) (key_at_lem b at j (omega arith) ∙ sym is) (member_at 0 (key_at b at) j (omega (arith, key_size b at)))))

    pub key_inside : place < length c
    key_inside = omega (arith, found.0, able.room, so_far.size)

    -- of the labels that are left, the first one is x
    goes : (y : ℕ) → occurrences (drop j (key_at b at)) y ≡ cond (eqb x y) 1 0 + occurrences (drop (j + 1) (key_at b at)) y
    unfolding occurrences
    goes y = ap (λ (l : List ℕ). occurrences l y) (key_goes b at j (omega arith)) ∙ ap (λ (z : ℕ). cond (eqb z y) 1 0 + occurrences (drop (j + 1) (key_at b at)) y) (sym is)

    goes_x : (y : ℕ) → x ≡ y → occurrences (drop j (key_at b at)) y ≡ 1 + occurrences (drop (j + 1) (key_at b at)) y
    goes_x y e = goes y ∙ rw (eq-eqb x y e) refl

    goes_other : (y : ℕ) → x ≢ y → occurrences (drop j (key_at b at)) y ≡ occurrences (drop (j + 1) (key_at b at)) y
    goes_other y d = goes y ∙ rw (ne_eqb x y d) (omega arith)

    pub key_small : get_or c place 0 + 1 < 2 ^ 32
    key_small = omega (arith, so_far.left place found.0, able.small place found.0, goes_x (get_or labels place 0) (sym found.1))

    pub key_next : (c' : List ℕ) → c' ≡ count_one labels x c → KeyCounting (key_at b at) labels c₀ c' (j + 1)
    unfolding count_one
    key_next c' put = rw put (record { size = length-set c place (get_or c place 0 + 1) ∙ so_far.size; left = λ i l. go i l (ℕ_discrete i place) })
      where
        go : (i : ℕ) → i < length labels → Dec (i ≡ place)
            → get_or (set c place (get_or c place 0 + 1)) i 0 + occurrences (drop (j + 1) (key_at b at)) (get_or labels i 0) ≡ get_or c₀ i 0 + occurrences (key_at b at) (get_or labels i 0)
        go i l (yes d) =
            rw d (omega (arith, get_or-set_same c place (get_or c place 0 + 1) 0 key_inside, so_far.left place found.0, goes_x (get_or labels place 0) (sym found.1)))
        go i l (no d) =
            let other = goes_other (get_or labels i 0) (λ q. d (sym (place_at labels i rising l) ∙ ap (place_in labels) (sym q))) in
            omega (arith, get_or-set_other c place i (get_or c place 0 + 1) 0 d, so_far.left i l, other)

pub key_end : (b : List ℕ) (at : ℕ) (labels c₀ : List ℕ) (j len : ℕ) (c : List ℕ) → len ≡ key_length b at → len ≤ j → KeyCounting (key_at b at) labels c₀ c j → KeyCounted (key_at b at) labels c₀ c
unfolding occurrences
key_end b at labels c₀ j len c e h g = record {
  size = g.size;
  each = λ i l. omega (arith, g.left i l, ap (λ (k : List ℕ). occurrences k (get_or labels i 0)) (key_ends b at j (omega arith)));
}

-- ---- all keys, of which the first i are counted

occurrences_most : (k : List ℕ) (x : ℕ) → occurrences k x ≤ length k
unfolding occurrences
occurrences_most [] x = omega arith
occurrences_most (y ∷ k) x = omega (arith, occurrences_most k x, cond_within (eqb y x) 1 0 1 (omega arith) (omega arith))

frequency_most : (ps : List Pair) (x : ℕ) → ((p : Pair) → Memᴰ p ps → length p.0 ≤ max_labels) → frequency ps x ≤ length ps * most_in_key
unfolding frequency
frequency_most [] x short = omega arith
frequency_most (p ∷ ps) x short =
    omega (arith, frequency_most ps x (λ q m. short q (Memᴰ.tail m)), occurrences_most p.0 x, short p (Memᴰ.head refl), length_fits_byte)

pub record Counting (b : List ℕ) (count : ℕ) (labels counts : List ℕ) (at i : ℕ) : Type 0 where
  pub count_is : count ≡ key_count b
  pub most : (x : ℕ) → frequency (pairs_of b) x ≤ most_counted
  pub whole : WholeKeys b (count - i) at
  pub room : length labels ≤ length counts
  pub rising : Rising labels
  pub listed : (p : Pair) → Memᴰ p (keys_from b (count - i) i at) → (x : ℕ) → Memᴰ x p.0 → Memᴰ x labels
  pub left : (k : ℕ) → k < length labels → get_or counts k 0 + frequency (keys_from b (count - i) i at) (get_or labels k 0) ≡ frequency (pairs_of b) (get_or labels k 0)

pub counting_start : (b : List ℕ) (count : ℕ) (labels counts : List ℕ) → count ≡ key_count b → KeysPassed b → labels ≡ labels_used (pairs_of b) [] → length labels ≤ length counts → counts ≡ replicate (length counts) 0
    → Counting b count labels counts keys_at 0
unfolding pairs_of Rising
counting_start b count labels counts e passed l room z = record {
  count_is = e;
  most = λ x. omega (arith, frequency_most (pairs_of b) x passed.right.short, keys_length b (key_count b) 0 keys_at, passed.few);
  whole = rw (sub-zero, e) passed.whole;
  room = room;
  rising = rw l (used_rising (pairs_of b) [] tt);
  listed = rw (sub-zero, e) (λ p m x k. rw l ((used_members (pairs_of b) [] x).1 (inl (p, m, k))));
  left = rw (sub-zero, e) (λ k h. let none : get_or counts k 0 ≡ 0 = ap (λ (c : List ℕ). get_or c k 0) z ∙ get_or-replicate {A = ℕ} (length counts) k 0 0 (omega arith) in omega arith);
}

module _ (b : List ℕ) (count : ℕ) (labels counts : List ℕ) (at i : ℕ) (g : Counting b count labels counts at i) where
  module _ (h : i < count) where
    -- of the keys that are left, the first one is at this place
    goes_on : (y : ℕ) → frequency (keys_from b (count - i) i at) y ≡ occurrences (key_at b at) y + frequency (keys_from b (count - (i + 1)) (i + 1) (next_key b at)) y
    unfolding frequency
    goes_on y = ap (λ (ps : List Pair). frequency ps y) (keys_on b count i at h)

    pub counting_able : Countable (key_at b at) labels counts
    counting_able = record {
      room = g.room;
      listed = g.listed (key_at b at, i) (rw (keys_on b count i at h) (Memᴰ.head refl));
      small = λ k l. omega (arith, g.left k l, goes_on (get_or labels k 0), g.most (get_or labels k 0));
    }

    pub counting_next : (counts' : List ℕ) (at' : ℕ) → KeyCounted (key_at b at) labels counts counts' → at' ≡ next_key b at → Counting b count labels counts' at' (i + 1)
    counting_next counts' at' k e = rw e (record {
      count_is = g.count_is;
      most = g.most;
      whole = whole_on b count i at h g.whole;
      room = omega (arith, g.room, k.size);
      rising = g.rising;
      listed = λ p m. g.listed p (rw (keys_on b count i at h) (Memᴰ.tail m));
      left = λ j l. omega (arith, g.left j l, k.each j l, goes_on (get_or labels j 0));
    })

  pub counting_end : count ≤ i → Counted (pairs_of b) labels counts
  unfolding frequency
  counting_end h = record { often = λ j l. omega (arith, g.left j l, ap (λ (ps : List Pair). frequency ps (get_or labels j 0)) (keys_end b count i at h)) }
