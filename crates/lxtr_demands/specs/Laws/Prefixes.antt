-- The lengths at which a query's prefixes are keys are found by a run over all lengths, so they come shortest first.
-- The limit on the query's labels takes no prefix away, since no key is longer; the last of them is the longest.
use Rattle.std.specs.Prelude.{ℕ, ◌+◌, ◌≤◌, ◌≡◌, ◌⊎◌, length, take, drop, Option, Some, None}
use Rattle.std.proofs.Common.{arith, sym, ap, ◌∙◌, inl, inr, take-append-drop, length-take, length-append, take-take, length-take-le}
use Rattle.std.proofs.Math.Path.{refl}
use mathlib.Core.List.Memᴰ
use mathlib.Core.List.{List, [], ◌∷◌, ◌++◌, Memᴰ}
use Rattle.std.proofs.Math.Seq.{take-append_seam}
use Rattle.lxtr_spec.specs.Ranges.{concat_from}
use Rattle.lxtr_spec.specs.Labels.{max_labels}
use Rattle.lxtr_spec.specs.Searches.{length_match, match_at, matches, last_length}
use Rattle.lxtr_spec.specs.Sets.{PairSet, Has}
use Rattle.lxtr_spec.specs.Meaning.{Shorter, PrefixesIn, LongestIn}
use Rattle.lxtr_laws.specs.Sorted.{Within, Sorted, sorted_one, sorted_adjacent, adjacent_sorted, one_list}
use Rattle.lxtr_laws.specs.Runs.{run_in, run_from, run_sorted}

-- length and value of a prefix
abbrev Match : Type 0
Match = ℕ × ℕ

shorter_trans : (l m n : Match) → Shorter l m → Shorter m n → Shorter l n
shorter_trans l m n h k = omega arith

-- what one length gives
match_sorted : (k : ℕ) (o : Option ℕ) → Sorted Shorter (length_match k o)
unfolding length_match Sorted
match_sorted k None = tt
match_sorted k (Some v) = sorted_one Shorter (k, v)

match_is : (k : ℕ) (o : Option ℕ) (m : Match) → Memᴰ m (length_match k o) → (m.0 ≡ k) × (o ≡ Some m.1)
unfolding length_match
match_is k None m i = absurd (Memᴰ.not-nil i)
match_is k (Some v) m i = let e : m ≡ (k, v) = Memᴰ.eq_of_singleton i in (ap (λ (z : Match). z.0) e, ap (λ (z : Match). Some z.1) (sym e))

module _ (d : PairSet) (ys : List ℕ) where
  matches_run : matches d ys ≡ concat_from (length ys + 1) 0 (match_at d ys)
  unfolding matches
  matches_run = refl

  matches_sorted : Sorted Shorter (matches d ys)
  unfolding match_at
  matches_sorted = rw matches_run (run_sorted (match_at d ys) Shorter (length ys + 1) 0 (λ k _ _. match_sorted k (d (take k ys))) (λ i k p r l h u m n.
      let e = match_is i (d (take i ys)) p m in
      let g = match_is k (d (take k ys)) r n in
      omega arith))

  matches_in : (k v : ℕ) → k ≤ length ys → Has d (take k ys) v → Memᴰ (k, v) (matches d ys)
  unfolding match_at length_match
  matches_in k v l h = rw matches_run (run_in (match_at d ys) (length ys + 1) 0 k (k, v) (omega arith) (omega arith) (rw h (Memᴰ.head refl)))

  matches_from : (k v : ℕ) → Memᴰ (k, v) (matches d ys) → (k ≤ length ys) × Has d (take k ys) v
  unfolding match_at
  matches_from k v m =
      let q = run_from (match_at d ys) (length ys + 1) 0 (k, v) (rw matches_run at m) in
      let e = match_is q.0 (d (take q.0 ys)) (k, v) q.3 in
      (omega (arith, q.2, e.0), rw e.0 e.1)

-- for a set whose keys are within the limit
module _ (d : PairSet) (limit : (k : List ℕ) (v : ℕ) → Has d k v → length k ≤ max_labels) (xs : List ℕ) where
  pub prefixes_in : PrefixesIn d xs (matches d (take max_labels xs))
  prefixes_in = record {
    rising = sorted_adjacent Shorter (matches d (take max_labels xs)) (matches_sorted d (take max_labels xs));
    all = λ p r v e h.
        let l = limit p v h in
        let same : take (length p) (take max_labels xs) ≡ p = take-take (length p) max_labels xs l ∙ ap (take (length p)) e ∙ take-append_seam p r in
        matches_in d (take max_labels xs) (length p) v (omega (arith, length-take max_labels xs, ap length e, length-append p r)) (rw same h);
    only = λ n v m.
        let k = matches_from d (take max_labels xs) n v m in
        let l = length-take max_labels xs in
        let h : Has d (take n xs) v = rw (take-take n max_labels xs (omega (arith, k.0, l))) at k.1 in
        (take n xs, drop n xs, sym (take-append-drop n xs), length-take-le n xs (omega (arith, k.0, l)), h);
  }

-- there is one such list
pub one_prefixes : (d : PairSet) (xs : List ℕ) (ms ns : List Match) → PrefixesIn d xs ms → PrefixesIn d xs ns → ms ≡ ns
one_prefixes d xs ms ns p q =
    one_list Shorter shorter_trans (λ m h. omega arith) ms ns p.rising q.rising (over ms ns p q) (over ns ms q p)
  where
    over : (ms ns : List Match) → PrefixesIn d xs ms → PrefixesIn d xs ns → Within ms ns
    over ms ns p q m i = let r = p.only m.0 m.1 i in rw r.3 at (q.all r.0 r.1 m.1 r.2 r.4)

-- the last length is that of a member, and the greatest
last_member : (m : Match) (ms : List Match) → (v : ℕ) × Memᴰ (last_length (m ∷ ms), v) (m ∷ ms)
unfolding last_length
last_member m [] = (m.1, Memᴰ.head refl)
last_member m (n ∷ ms) = let r = last_member n ms in (r.0, Memᴰ.tail r.1)

last_most : (ms : List Match) → Sorted Shorter ms → (m : Match) → Memᴰ m ms → m.0 ≤ last_length ms
unfolding Sorted last_length
last_most [] s m i = absurd (Memᴰ.not-nil i)
last_most (n ∷ []) s m i = let e : m ≡ n = Memᴰ.eq_of_singleton i in omega (arith, ap (λ (z : Match). z.0) e)
last_most (n ∷ l ∷ ms) s m i = go (last_most (l ∷ ms) s.1 m) (Memᴰ.cases_cons i)
  where
    go : (Memᴰ m (l ∷ ms) → m.0 ≤ last_length (l ∷ ms)) → (m ≡ n) ⊎ Memᴰ m (l ∷ ms) → m.0 ≤ last_length (l ∷ ms)
    go ih (inl e) = let r = last_member l ms in omega (arith, s.0 (last_length (l ∷ ms), r.0) r.1, ap (λ (z : Match). z.0) e)
    go ih (inr j) = ih j

pub longest_in : (d : PairSet) (xs : List ℕ) (ms : List Match) → PrefixesIn d xs ms → LongestIn d xs (last_length ms)
unfolding last_length
longest_in d xs ms p = record {
  most = λ q r v e h. last_most ms (adjacent_sorted Shorter shorter_trans ms p.rising) (length q, v) (p.all q r v e h);
  is = go ms p.only;
}
  where
    go : (ms : List Match) → ((n v : ℕ) → Memᴰ (n, v) ms → (q : List ℕ) × (r : List ℕ) × (xs ≡ q ++ r) × (length q ≡ n) × Has d q v)
        → (last_length ms ≡ 0) ⊎ ((q : List ℕ) × (r : List ℕ) × (v : ℕ) × (xs ≡ q ++ r) × (length q ≡ last_length ms) × Has d q v)
    go [] only = inl refl
    go (m ∷ ms) only =
        let l = last_member m ms in
        let k = only (last_length (m ∷ ms)) l.0 l.1 in
        inr (k.0, k.1, l.0, k.2, k.3, k.4)

-- there is one such length
pub one_longest : (d : PairSet) (xs : List ℕ) (m n : ℕ) → LongestIn d xs m → LongestIn d xs n → m ≡ n
one_longest d xs m n p q = let a = up_to m n p q in let b = up_to n m q p in omega arith
  where
    up_to : (m n : ℕ) → LongestIn d xs m → LongestIn d xs n → m ≤ n
    up_to m n p q = go p.is
      where
        go : (m ≡ 0) ⊎ ((k : List ℕ) × (r : List ℕ) × (v : ℕ) × (xs ≡ k ++ r) × (length k ≡ m) × Has d k v) → m ≤ n
        go (inl z) = omega arith
        go (inr (k, r, v, e, l, h)) = omega (arith, q.most k r v e h)
