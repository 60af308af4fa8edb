-- The code map: which labels it lists, each once, in which order, and their codes.
use Prim.Native.Nat.{ℕ, zero, suc, ◌+◌, ◌-◌, ◌≤◌, ◌<◌}
use Rattle.std.specs.Prelude.{◌≡◌, ◌↔◌, ◌≢◌, ◌⊎◌, Bool, ◌&&◌, eqb, get_or}
use Rattle.std.proofs.Math.Path.{refl, ap}
use Rattle.std.proofs.Common.{sym, ◌∙◌}
use Rattle.std.proofs.Math.Logic.{inl, inr, ⊎_elim}
use mathlib.Core.List.Memᴰ
use mathlib.Core.List.{List, [], ◌∷◌, Memᴰ}
use Rattle.std.proofs.Math.Bool.{true, false}
use native.Mathlib.Omega.{arith}
use Rattle.std.proofs.Math.Decide.{dec_lt, ℕ_discrete}
use borrow.Author.Tests.{eq-eqb, ne_eqb, lt-ltb}
use Rattle.std.proofs.Math.Dec.{ltb}
use Rattle.std.proofs.Math.ListN.{length}
use Rattle.lxtr_spec.specs.Labels.{Pair}
use Rattle.lxtr_spec.specs.CodeMaps.{labels_used, frequency, goes_before, rank_in, ranked, map_of, code_in, label_with}
use Rattle.lxtr_spec.specs.Meaning.{Ordered}
use Rattle.lxtr_laws.specs.RangeTests.{tests}
use Rattle.lxtr_laws.specs.Tests.{or_is_true, and_is_true, ltb_is_true}
use Rattle.lxtr_laws.specs.Sorted.{sorted_weaker, adjacent_sorted}
use Rattle.lxtr_laws.specs.Members.{member_at, one_place}
use Rattle.lxtr_build_laws.specs.CodeTables.{Rising}
use Rattle.lxtr_laws.specs.Inserted.{first_members, later_members, both_members, none_members}
use Rattle.lxtr_build_laws.specs.UsedLabels.{Uses, used_members, used_rising}

-- ---- ranking, where f gives the frequencies

module _ (f : ℕ → ℕ) where
  abbrev pub Before : ℕ → ℕ → Type 0
  Before x y = goes_before f x y ≡ true

  -- the order in numbers
  pub before_is : (x y : ℕ) → Before x y → (f y < f x) ⊎ ((f x ≡ f y) × (x < y))
  unfolding goes_before
  before_is x y e = ⊎_elim (λ l. inl ((ltb_is_true (f y) (f x)).0 l)) (λ r. inr (simp tests at r)) ((or_is_true (ltb (f y) (f x)) (eqb (f x) (f y) && ltb x y)).0 e)

  pub is_before : (x y : ℕ) → (f y < f x) ⊎ ((f x ≡ f y) × (x < y)) → Before x y
  unfolding goes_before
  is_before x y (inl h) = (or_is_true (ltb (f y) (f x)) (eqb (f x) (f y) && ltb x y)).1 (inl (lt-ltb (f y) (f x) h))
  is_before x y (inr h) = (or_is_true (ltb (f y) (f x)) (eqb (f x) (f y) && ltb x y)).1 (inr ((and_is_true (eqb (f x) (f y)) (ltb x y)).1 (eq-eqb (f x) (f y) h.0, lt-ltb x y h.1)))

  -- of two different numbers one goes before the other
  other_before : (x y : ℕ) → x ≢ y → goes_before f x y ≡ false → Before y x
  unfolding goes_before
  other_before x y d e = is_before y x (go (simp tests at e) (dec_lt (f x) (f y)))
    where
      go : (f x ≤ f y) × (f x ≡ f y → y ≤ x) → Dec (f x < f y) → (f x < f y) ⊎ ((f y ≡ f x) × (y < x))
      go p (yes h) = inl h
      go p (no h) = let s : f x ≡ f y = omega (arith, p.0) in let l = p.1 s in let u : y ≢ x = λ z. d (sym z) in inr (sym s, omega arith)

  -- it is transitive, and no number goes before itself
  pub before_trans : (x y z : ℕ) → Before x y → Before y z → Before x z
  before_trans x y z a b = is_before x z (go (before_is x y a) (before_is y z b))
    where
      go : (f y < f x) ⊎ ((f x ≡ f y) × (x < y)) → (f z < f y) ⊎ ((f y ≡ f z) × (y < z)) → (f z < f x) ⊎ ((f x ≡ f z) × (x < z))
      go (inl h) (inl k) = inl (omega arith)
      go (inl h) (inr k) = inl (omega arith)
      go (inr h) (inl k) = inl (omega arith)
      go (inr h) (inr k) = inr (h.0 ∙ k.0, omega arith)

  pub before_apart : (x y : ℕ) → Before x y → x ≢ y
  before_apart x y b e = go (before_is x y b)
    where
      go : (f y < f x) ⊎ ((f x ≡ f y) × (x < y)) → ⊥
      go (inl h) = omega (arith, ap f e)
      go (inr h) = omega arith

  module _ (x y : ℕ) (ys : List ℕ) where
    abbrev step : Bool → List ℕ
    step t = elim t as (λ _. List ℕ) [ true ↦ x ∷ y ∷ ys | false ↦ y ∷ rank_in f x ys ]

    pub rank_first : goes_before f x y ≡ true → rank_in f x (y ∷ ys) ≡ x ∷ y ∷ ys
    unfolding rank_in
    rank_first e = ap step e

    pub rank_later : goes_before f x y ≡ false → rank_in f x (y ∷ ys) ≡ y ∷ rank_in f x ys
    unfolding rank_in
    rank_later e = ap step e

  pub rank_members : (x : ℕ) (l : List ℕ) (z : ℕ) → Memᴰ z (rank_in f x l) ↔ ((z ≡ x) ⊎ Memᴰ z l)
  unfolding rank_in
  rank_members x [] z = first_members x z []
  rank_members x (y ∷ ys) z = go (rank_members x ys z) (goes_before f x y) refl
    where
      go : Memᴰ z (rank_in f x ys) ↔ ((z ≡ x) ⊎ Memᴰ z ys) → (t : Bool) → goes_before f x y ≡ t → Memᴰ z (rank_in f x (y ∷ ys)) ↔ ((z ≡ x) ⊎ Memᴰ z (y ∷ ys))
      go ih true e = rw (rank_first x y ys e) (first_members x z (y ∷ ys))
      go ih false e = rw (rank_later x y ys e) (later_members x z y ys (rank_in f x ys) ih)

  rank_length : (x : ℕ) (l : List ℕ) → length (rank_in f x l) ≡ suc (length l)
  unfolding rank_in
  rank_length x [] = refl
  rank_length x (y ∷ ys) = go (rank_length x ys) (goes_before f x y) refl
    where
      go : length (rank_in f x ys) ≡ suc (length ys) → (t : Bool) → goes_before f x y ≡ t → length (rank_in f x (y ∷ ys)) ≡ suc (suc (length ys))
      go ih true e = rw (rank_first x y ys e) refl
      go ih false e = rw (rank_later x y ys e, ih) refl

  -- y stays in order before a list into which x is inserted, if y goes before x
  first_stays : (y x : ℕ) (l : List ℕ) → Before y x → Ordered Before (y ∷ l) → Ordered Before (rank_in f x l) → Ordered Before (y ∷ rank_in f x l)
  unfolding rank_in Ordered
  first_stays y x [] b o r = (b, tt)
  first_stays y x (z ∷ zs) b o r = go (goes_before f x z) refl
    where
      go : (t : Bool) → goes_before f x z ≡ t → Ordered Before (y ∷ rank_in f x (z ∷ zs))
      go true e = rw (rank_first x z zs e) (b, rw (rank_first x z zs e) at r)
      go false e = rw (rank_later x z zs e) (o.0, rw (rank_later x z zs e) at r)

  rest_ordered : (y : ℕ) (l : List ℕ) → Ordered Before (y ∷ l) → Ordered Before l
  unfolding Ordered
  rest_ordered y [] o = tt
  rest_ordered y (z ∷ zs) o = o.1

  rank_ordered : (x : ℕ) (l : List ℕ) → (Memᴰ x l → ⊥) → Ordered Before l → Ordered Before (rank_in f x l)
  unfolding rank_in Ordered
  rank_ordered x [] n o = tt
  rank_ordered x (y ∷ ys) n o = go (rank_ordered x ys (λ m. n (Memᴰ.tail m)) (rest_ordered y ys o)) (goes_before f x y) refl
    where
      go : Ordered Before (rank_in f x ys) → (t : Bool) → goes_before f x y ≡ t → Ordered Before (rank_in f x (y ∷ ys))
      go ih true e = rw (rank_first x y ys e) (e, o)
      go ih false e = rw (rank_later x y ys e) (first_stays y x ys (other_before x y (λ d. n (Memᴰ.head d)) e) o ih)

  pub ranked_members : (xs ys : List ℕ) (z : ℕ) → Memᴰ z (ranked f xs ys) ↔ (Memᴰ z xs ⊎ Memᴰ z ys)
  unfolding ranked
  ranked_members [] ys z = none_members ys z
  ranked_members (x ∷ xs) ys z = both_members x z xs ys (rank_in f x ys) (ranked f xs (rank_in f x ys)) (rank_members x ys z) (ranked_members xs (rank_in f x ys) z)

  ranked_length : (xs ys : List ℕ) → length (ranked f xs ys) ≡ length xs + length ys
  unfolding ranked
  ranked_length [] ys = omega arith
  ranked_length (x ∷ xs) ys = omega (arith, ranked_length xs (rank_in f x ys), rank_length x ys)

  -- rising numbers, inserted among others that are in order
  ranked_ordered : (xs ys : List ℕ) → Rising xs → ((z : ℕ) → Memᴰ z xs → Memᴰ z ys → ⊥) → Ordered Before ys → Ordered Before (ranked f xs ys)
  unfolding ranked Rising
  ranked_ordered [] ys r n o = o
  ranked_ordered (x ∷ xs) ys r n o =
      ranked_ordered xs (rank_in f x ys) r.1
      (λ z m k. ⊎_elim (λ (e : z ≡ x). let h = r.0 z m in omega arith) (n z (Memᴰ.tail m)) ((rank_members x ys z).0 k))
      (rank_ordered x ys (n x (Memᴰ.head refl)) o)

-- ---- the code map

module _ (ps : List Pair) where
  -- it lists the labels that the keys use, and no others
  pub map_members : (x : ℕ) → Memᴰ x (map_of ps) ↔ Uses ps x
  unfolding map_of
  map_members x =
      let used = used_members ps [] x in
      let all = ranked_members (frequency ps) (labels_used ps []) [] x in (
        λ m. ⊎_elim (λ k. ⊎_elim (λ (u : Uses ps x). u) (λ w. absurd (Memᴰ.not-nil w)) (used.0 k)) (λ k. absurd (Memᴰ.not-nil k)) (all.0 m),
        λ u. all.1 (inl (used.1 (inl u))),
      )

  -- higher frequency first; among equal ones, the smaller label
  pub map_ordered : Ordered (λ x y. goes_before (frequency ps) x y ≡ true) (map_of ps)
  unfolding map_of Rising Ordered
  map_ordered = ranked_ordered (frequency ps) (labels_used ps []) [] (used_rising ps [] tt) (λ z m k. Memᴰ.not-nil k) tt

  -- so each is at one place only
  pub map_once : (i j : ℕ) → i < length (map_of ps) → j < length (map_of ps) → get_or (map_of ps) i 0 ≡ get_or (map_of ps) j 0 → i ≡ j
  map_once =
      let f = frequency ps in
      one_place 0 (map_of ps) (sorted_weaker (Before f) ◌≢◌ (before_apart f) (map_of ps) (adjacent_sorted (Before f) (before_trans f) (map_of ps) map_ordered))

  pub is_map_length : length (map_of ps) ≡ length (labels_used ps [])
  unfolding map_of
  is_map_length = omega (arith, ranked_length (frequency ps) (labels_used ps []) [])

-- ---- codes

pub code_here : (x y : ℕ) (l : List ℕ) → y ≡ x → code_in (y ∷ l) x ≡ 1
unfolding code_in
code_here x y l e = ap (λ (t : Bool). elim t as (λ _. ℕ) [ true ↦ 1 | false ↦ suc (code_in l x) ]) (eq-eqb y x e)

pub code_later : (x y : ℕ) (l : List ℕ) → y ≢ x → code_in (y ∷ l) x ≡ suc (code_in l x)
unfolding code_in
code_later x y l e = ap (λ (t : Bool). elim t as (λ _. ℕ) [ true ↦ 1 | false ↦ suc (code_in l x) ]) (ne_eqb y x e)

-- the label of code c is at place c - 1
pub label_place : (m : List ℕ) (c : ℕ) → 1 ≤ c → label_with m c ≡ get_or m (c - 1) 0
unfolding label_with
label_place m zero h = absurd (omega arith)
label_place m (suc c) h = let e : suc c - 1 ≡ c = omega arith in rw e refl

-- a label that the list has: its code is in range, and gives the label back
pub record Coded (m : List ℕ) (x : ℕ) : Type 0 where
  pub from : 1 ≤ code_in m x
  pub to : code_in m x ≤ length m
  pub back : label_with m (code_in m x) ≡ x

code_on : (y : ℕ) (m : List ℕ) (c : ℕ) → 1 ≤ c → label_with (y ∷ m) (suc c) ≡ label_with m c
unfolding label_with
code_on y m zero h = absurd (omega arith)
code_on y m (suc c) h = refl

pub coded : (m : List ℕ) (x : ℕ) → Memᴰ x m → Coded m x
unfolding label_with
coded [] x k = absurd (Memᴰ.not-nil k)
coded (y ∷ m) x k = go (coded m x) (ℕ_discrete y x)
  where
    go : (Memᴰ x m → Coded m x) → Dec (y ≡ x) → Coded (y ∷ m) x
    go ih (yes e) = let c = code_here x y m e in record { from = omega arith; to = omega arith; back = ap (label_with (y ∷ m)) c ∙ e }
    go ih (no e) =
        let c = code_later x y m e in
        let r = ih (⊎_elim (λ (q : x ≡ y). absurd (e (sym q))) (λ w. w) (Memᴰ.cases_cons k)) in
        record { from = omega arith; to = omega (arith, r.to); back = ap (label_with (y ∷ m)) c ∙ code_on y m (code_in m x) r.from ∙ r.back }

-- if each label is listed once, the label at place c - 1 has code c
pub code_only : (m : List ℕ) (x c : ℕ) → ((i j : ℕ) → i < length m → j < length m → get_or m i 0 ≡ get_or m j 0 → i ≡ j) → 1 ≤ c → c ≤ length m → get_or m (c - 1) 0 ≡ x → code_in m x ≡ c
code_only m x c o f t e =
    let k = coded m x (rw (← e) (member_at 0 m (c - 1) (omega arith))) in
    let same = o (code_in m x - 1) (c - 1) (omega (arith, k.from, k.to)) (omega arith) (sym (label_place m (code_in m x) k.from) ∙ k.back ∙ sym e) in
    omega (arith, k.from)
