-- The pairs that completion lists below a prefix of an image are those of the set whose keys begin with it, in code order.
-- By induction on the labels still allowed: each entry gives the prefix's own pair or those below a longer prefix, and codes rise.
use Prim.Native.Nat.{ℕ, zero, suc, ◌+◌, ◌≤◌, ◌<◌}
use Rattle.std.proofs.Common.{not-suc-le-zero, arith, ◌∙◌, inr, length-append}
use Rattle.std.specs.Prelude.{◌≡◌, length}
use Rattle.std.proofs.Math.Path.{refl, sym, ap, subst}
use mathlib.Core.List.Memᴰ
use mathlib.Core.List.{List, [], ◌∷◌, ◌++◌, append-nil, Memᴰ}
use Rattle.lxtr_spec.specs.Ranges.{concat_from}
use Rattle.lxtr_spec.specs.Labels.{max_labels, Pair}
use Rattle.lxtr_spec.specs.Image.{code_to, offset, child, list_width}
use Rattle.lxtr_spec.specs.Completions.{entry_pairs, list_from}
use Rattle.lxtr_spec.specs.Sets.{PairSet, Has, Prefix, InList}
use Rattle.lxtr_spec.specs.Meaning.{CodeBefore, Lists}
use Rattle.lxtr_laws.specs.KeyPrefixes.{snoc_cons}
use Rattle.lxtr_laws.specs.ListPlaces.{in_list}
use Rattle.lxtr_laws.specs.EntryPlaces.{lists_sorted, code_rises}
use Rattle.lxtr_demands.specs.Laws.Kinds.{KnownImage}
use Rattle.lxtr_demands.specs.Laws.Slots.{prefix_slot_lem, ChildIn, longer, ended}
use Rattle.lxtr_laws.specs.Sorted.{Sorted, sorted_one, sorted_adjacent}
use Rattle.lxtr_laws.specs.Runs.{run_in, run_from, run_sorted}
use Rattle.lxtr_demands.specs.Laws.CodeOrder.{head_code, before_code}
use Rattle.lxtr_demands.specs.Laws.Entries.{ended_code, ended_pairs, longer_code, longer_pairs, entry_is, ended_place, longer_place}

-- the pairs below a slot, as a run over the places of its list
module _ (b : List ℕ) (k n : ℕ) (key : List ℕ) where
  list_run : list_from b (suc k) n key ≡ concat_from (list_width b n) (offset b n) (entry_pairs b (list_from b k) n key)
  unfolding list_from
  list_run = refl

  at_place : (j : ℕ) (r : Pair) → InList b n j → Memᴰ r (entry_pairs b (list_from b k) n key j) → Memᴰ r (list_from b (suc k) n key)
  at_place j r i m = let l = (in_list b n j).0 i in rw list_run (run_in (entry_pairs b (list_from b k) n key) (list_width b n) (offset b n) j r l.0 l.1 m)

  from_place : (r : Pair) → Memᴰ r (list_from b (suc k) n key) → (j : ℕ) × InList b n j × Memᴰ r (entry_pairs b (list_from b k) n key j)
  from_place r m =
      let q = run_from (entry_pairs b (list_from b k) n key) (list_width b n) (offset b n) r (rw list_run at m) in
      (q.0, (in_list b n q.0).1 (q.1, q.2), q.3)

module _ {b : List ℕ} {d : PairSet} (known : KnownImage b d) where
  open known use {image}

  -- every pair is listed
  all_listed : (k : ℕ) (p r : List ℕ) (v : ℕ) → Has d (p ++ r) v → length r < k → Memᴰ (p ++ r, v) (list_from b k (image.slot p) p)
  all_listed zero p r v h l = absurd (not-suc-le-zero l)
  all_listed (suc k) p [] v h l =
      let e = append-nil p in
      let g : Has d p v = rw e at h in
      let c = ended_place image p v g in
      at_place b k (image.slot p) p c.0 (p ++ [], v) c.1 (rw (ended_pairs image p c.0 (list_from b k) v g c.2) (Memᴰ.head (ap {B = Pair} (λ (q : List ℕ). (q, v)) e)))
  all_listed (suc k) p (x ∷ r) v h l =
      let e = snoc_cons p x r in
      let g : Has d ((p ++ x ∷ []) ++ r) v = rw e at h in
      let f : Prefix d (p ++ x ∷ []) = record { is = inr (r, v, g) } in
      let c = longer_place image p x f in
      at_place b k (image.slot p) p c.0 (p ++ x ∷ r, v) c.1 (rw (longer_pairs image p c.0 x f c.2 (list_from b k), e) (all_listed k (p ++ x ∷ []) r v g (omega arith)))

  -- a pair of the set whose key begins with p; and one that an entry gives, whose key continues with the entry's code
  record Begins (p : List ℕ) (r : Pair) : Type 0 where
    rest : List ℕ
    key : r.0 ≡ p ++ rest
    has : Has d r.0 r.1

  record Given (p : List ℕ) (j : ℕ) (r : Pair) : Type 0 where
    begins : Begins p r
    code : head_code b begins.rest ≡ code_to b (image.slot p) (child b j)

  given : (k : ℕ) (p : List ℕ) → Prefix d p → (j : ℕ) (r : Pair) → InList b (image.slot p) j
      → ((q : List ℕ) → Prefix d q → Memᴰ r (list_from b k (image.slot q) q) → Begins q r)
      → Memᴰ r (entry_pairs b (list_from b k) (image.slot p) p j) → Given p j r
  unfolding head_code
  given k p f j r i ih m = go (entry_is known p f j i) refl
    where
      go : {s : ℕ} → ChildIn image p s → child b j ≡ s → Given p j r
      go (longer x g) e =
          let q = ih (p ++ x ∷ []) g (rw (longer_pairs image p j x g e (list_from b k)) at m) in
          record { begins = record { rest = x ∷ q.rest; key = q.key ∙ sym (snoc_cons p x q.rest); has = q.has }; code = sym (longer_code image p j x g e) }
      go (ended v h) e =
          let same : r ≡ (p, v) = Memᴰ.eq_of_singleton (rw (ended_pairs image p j (list_from b k) v h e) at m) in
          record {
            begins = record { rest = []; key = ap (λ (z : Pair). z.0) same ∙ sym (append-nil p); has = subst (λ (z : Pair). Has d z.0 z.1) (sym same) h };
            code = sym (ended_code image p j v h e);
          }

  -- nothing else is listed
  only_listed : (k : ℕ) (p : List ℕ) → Prefix d p → (r : Pair) → Memᴰ r (list_from b k (image.slot p) p) → Begins p r
  unfolding list_from
  only_listed zero p f r m = absurd (Memᴰ.not-nil m)
  only_listed (suc k) p f r m =
      let c = from_place b k (image.slot p) p r m in
      (given k p f c.0 r c.1 (λ q h. only_listed k q h r) c.2).begins

  -- the listing is in code order
  sorted : (k : ℕ) (p : List ℕ) → Prefix d p → Sorted (CodeBefore b) (list_from b k (image.slot p) p)
  unfolding list_from Sorted
  sorted zero p f = tt
  sorted (suc k) p f = rw (list_run b k n p) (run_sorted entries (CodeBefore b) (list_width b n) (offset b n) (λ j l u. one (sorted k) j ((in_list b n j).1 (l, u))) two)
    where
      n : ℕ
      n = image.slot p

      entries : ℕ → List Pair
      entries = entry_pairs b (list_from b k) n p

      one : ((q : List ℕ) → Prefix d q → Sorted (CodeBefore b) (list_from b k (image.slot q) q)) → (j : ℕ) → InList b n j → Sorted (CodeBefore b) (entries j)
      one ih j i = go (entry_is known p f j i) refl
        where
          go : {s : ℕ} → ChildIn image p s → child b j ≡ s → Sorted (CodeBefore b) (entries j)
          go (longer x g) e = rw (longer_pairs image p j x g e (list_from b k)) (ih (p ++ x ∷ []) g)
          go (ended v h) e = rw (ended_pairs image p j (list_from b k) v h e) (sorted_one (CodeBefore b) (p, v))

      two : (i j : ℕ) (q r : Pair) → offset b n ≤ i → i < j → j < offset b n + list_width b n → Memᴰ q (entries i) → Memᴰ r (entries j) → CodeBefore b q r
      two i j q r l h u y z =
          let v = (in_list b n i).1 (l, omega arith) in
          let w = (in_list b n j).1 (omega arith, u) in
          let c = given k p f i q v (λ o g. only_listed k o g q) y in
          let e = given k p f j r w (λ o g. only_listed k o g r) z in
          let s = prefix_slot_lem image p f in
          rw (c.begins.key, e.begins.key)
          (before_code b p c.begins.rest e.begins.rest (rw (c.code, e.code) (code_rises (lists_sorted image.lists) n s.from s.to i j v w h)))

  pub listing : (xs : List ℕ) → Prefix d xs → (k : ℕ) → max_labels < length xs + k → Lists b d xs (list_from b k (image.slot xs) xs)
  listing xs f k h = record {
    ordered = sorted_adjacent (CodeBefore b) (list_from b k (image.slot xs) xs) (sorted k xs f);
    all = λ r v e. all_listed k xs r v e (omega (arith, image.keys.is_key_length (xs ++ r) v e, length-append xs r));
    only = λ l v m. let g = only_listed k xs f (l, v) m in (g.rest, g.key, g.has);
  }
