-- The chains of rule 9: a label can only be equal to labels of its own chain, so it is enough to look through that chain.
-- An entry of the tables is one more than a place, and 0 for none.
use Prim.Native.Nat.{ℕ, zero, suc, ◌+◌, ◌-◌, ◌%◌, ◌≤◌, ◌<◌}
use Rattle.std.specs.Prelude.{◌≡◌, List, ◌≢◌, Bool, not, length, get_or, set, replicate}
use Rattle.std.proofs.Math.Path.{refl, sym}
use Rattle.std.proofs.Common.{ap, ◌∙◌, ⊎_elim, mod-lt, add-one, length-set, get_or-set_same, get_or-set_other}
use Rattle.std.proofs.Math.Bool.{true, false, cond, or-false}
use native.Mathlib.Omega.{arith}
use Rattle.std.proofs.Math.ListN.{length-replicate, get_or-replicate}
use Rattle.std.proofs.Math.Dec.{eqb}
use borrow.Author.Tests.{eq-eqb, ne_eqb, eqb-true, eqb-false}
use Rattle.lxtr_spec.specs.Ranges.{any_below}
use Rattle.lxtr_spec.specs.Labels.{is_scalar, max_listed}
use Rattle.lxtr_spec.specs.Image.{label_count, label_at}
use Rattle.lxtr_spec.specs.Refusals.{same_label, label_wrong}
use Rattle.lxtr_laws.specs.Tests.{cond_within}
use Rattle.lxtr_laws.specs.RangeTests.{below_suc, any_true}

-- one chain for each remainder
abbrev pub chain_count : ℕ
chain_count = max_listed + 1

unfoldable pub chain_of : ℕ → ℕ
chain_of label = label % chain_count

-- the entry for the last of the first i places whose label is in a chain
unfoldable pub last_in : List ℕ → ℕ → ℕ → ℕ
last_in b chain zero = 0
last_in b chain (suc i) = cond (eqb (chain_of (label_at b i)) chain) (suc i) (last_in b chain i)

-- the tables after i places: the last entry of each chain, and for each place the entry before it in its chain
pub record Chained (b : List ℕ) (i : ℕ) (last before : List ℕ) : Type 0 where
  pub chains : length last ≡ chain_count
  pub places : length before ≡ max_listed
  pub ends : (chain : ℕ) → chain < chain_count → get_or last chain 0 ≡ last_in b chain i
  pub links : (j : ℕ) → j < i → get_or before j 0 ≡ last_in b (chain_of (label_at b j)) j

-- a number that fails the test changes nothing
one_more_lem : (f : ℕ → Bool) (n : ℕ) → f n ≡ false → any_below n f ≡ any_below (suc n) f
unfolding any_below
one_more_lem f n e = rw (e, or-false)

-- the chain of every label is one of those counted
pub chain_below : (label : ℕ) → chain_of label < chain_count
unfolding chain_of
chain_below label = mod-lt label (omega arith)

module _ (b : List ℕ) where
  last_next : (chain i : ℕ) → chain_of (label_at b i) ≡ chain → last_in b chain (suc i) ≡ suc i
  unfolding last_in
  last_next chain i e = rw (eq-eqb (chain_of (label_at b i)) chain e)

  last_stays : (chain i : ℕ) → chain_of (label_at b i) ≢ chain → last_in b chain (suc i) ≡ last_in b chain i
  unfolding last_in
  last_stays chain i e = rw (ne_eqb (chain_of (label_at b i)) chain e)

  -- it is one of the first i, and belongs to its chain
  last_within : (chain i : ℕ) → last_in b chain i ≤ i
  unfolding last_in
  last_within chain zero = omega arith
  last_within chain (suc i) = cond_within (eqb (chain_of (label_at b i)) chain) (suc i) (last_in b chain i) (suc i) (omega arith) (omega (arith, last_within chain i))

  last_chain : (chain i j : ℕ) → last_in b chain i ≡ suc j → chain_of (label_at b j) ≡ chain
  unfolding last_in
  last_chain chain zero j e = absurd (omega arith)
  last_chain chain (suc i) j e = go (last_chain chain i j) (eqb (chain_of (label_at b i)) chain) refl e
    where
      go : (last_in b chain i ≡ suc j → chain_of (label_at b j) ≡ chain) → (t : Bool) → eqb (chain_of (label_at b i)) chain ≡ t → cond t (suc i) (last_in b chain i) ≡ suc j → chain_of (label_at b j) ≡ chain
      go ih true p q = let k : i ≡ j = omega arith in rw k at (eqb-true (chain_of (label_at b i)) chain p)
      go ih false p q = ih q

  other_label : (i j : ℕ) → label_at b j ≢ label_at b i → same_label b i j ≡ false
  unfolding same_label
  other_label i j n = ne_eqb (label_at b j) (label_at b i) n

  -- it is enough to look as far as the last entry of the label's own chain
  chain_holds : (i n : ℕ) → any_below (last_in b (chain_of (label_at b i)) n) (same_label b i) ≡ any_below n (same_label b i)
  unfolding last_in
  chain_holds i zero = refl
  chain_holds i (suc n) = go (chain_holds i n) (eqb (chain_of (label_at b n)) (chain_of (label_at b i))) refl
    where
      go : any_below (last_in b (chain_of (label_at b i)) n) (same_label b i) ≡ any_below n (same_label b i) → (t : Bool) → eqb (chain_of (label_at b n)) (chain_of (label_at b i)) ≡ t
          → any_below (cond t (suc n) (last_in b (chain_of (label_at b i)) n)) (same_label b i) ≡ any_below (suc n) (same_label b i)
      go ih true p = refl
      go ih false p = ih ∙ one_more_lem (same_label b i) n (other_label i n (λ e. eqb-false (chain_of (label_at b n)) (chain_of (label_at b i)) p (ap chain_of e)))

  pub chained_start : Chained b 0 (replicate chain_count 0) (replicate max_listed 0)
  unfolding last_in
  chained_start = record {
    chains = length-replicate {A = ℕ} chain_count 0;
    places = length-replicate {A = ℕ} max_listed 0;
    ends = λ chain h. get_or-replicate chain_count chain 0 0 h;
    links = λ j h. absurd (omega arith);
  }

  module _ (i : ℕ) (last before : List ℕ) (c : Chained b i last before) where
    -- the label at place i is appended to its chain
    pub chained_next : (label chain : ℕ) → label_count b ≤ max_listed → i < label_count b → label ≡ label_at b i → chain ≡ chain_of label → Chained b (i + 1) (set last chain (i + 1)) (set before i (get_or last chain 0))
    chained_next label chain few h same e = record {
      chains = length-set last chain (i + 1) ∙ c.chains;
      places = length-set before i (get_or last chain 0) ∙ c.places;
      ends = λ k l. end k l (eqb (chain_of (label_at b i)) k) refl;
      links = λ j l. ⊎_elim (now j) (then j) (below_suc j i (omega arith));
    }
      where
        own : chain ≡ chain_of (label_at b i)
        own = e ∙ ap chain_of same

        there : chain < length last
        there = omega (arith, own, chain_below (label_at b i), c.chains)

        end : (k : ℕ) → k < chain_count → (t : Bool) → eqb (chain_of (label_at b i)) k ≡ t → get_or (set last chain (i + 1)) k 0 ≡ last_in b k (i + 1)
        end k l true p =
            let q : k ≡ chain = sym (own ∙ eqb-true (chain_of (label_at b i)) k p) in
            rw (q, get_or-set_same last chain (i + 1) 0 there, add-one) (sym (last_next chain i (sym own)))
        end k l false p =
            let n : chain_of (label_at b i) ≢ k = eqb-false (chain_of (label_at b i)) k p in
            get_or-set_other last chain k (i + 1) 0 (λ q. n (sym (q ∙ own))) ∙ c.ends k l ∙ sym (rw add-one (last_stays k i n))

        now : (j : ℕ) → j ≡ i → get_or (set before i (get_or last chain 0)) j 0 ≡ last_in b (chain_of (label_at b j)) j
        now j q = rw (q, get_or-set_same before i (get_or last chain 0) 0 (omega (arith, c.places)), ← own) (c.ends chain (omega (arith, there, c.chains)))

        then : (j : ℕ) → j < i → get_or (set before i (get_or last chain 0)) j 0 ≡ last_in b (chain_of (label_at b j)) j
        then j l = get_or-set_other before i j (get_or last chain 0) 0 (λ q. omega arith) ∙ c.links j l

-- The search goes back through the chain of the label at place i: an earlier place lists that label exactly when one of the first
-- `from` places does.
pub record Looking (b : List ℕ) (i entry : ℕ) : Type 0 where
  pub from : ℕ
  pub within : from ≤ i
  pub here : entry ≤ i
  pub is : entry ≡ last_in b (chain_of (label_at b i)) from
  pub rest : any_below from (same_label b i) ≡ any_below i (same_label b i)

module _ (b : List ℕ) (i label : ℕ) (own : label ≡ label_at b i) (last before : List ℕ) (c : Chained b i last before) where
  pub look_start : (chain : ℕ) → chain ≡ chain_of label → Looking b i (get_or last chain 0)
  look_start chain e =
      let q : chain ≡ chain_of (label_at b i) = e ∙ ap chain_of own in
      let is : get_or last chain 0 ≡ last_in b (chain_of (label_at b i)) i = rw (← q) (c.ends chain (omega (arith, q, chain_below (label_at b i)))) in
      record { from = i; within = omega arith; here = omega (arith, last_within b (chain_of (label_at b i)) i); is = is; rest = refl }

  module _ (entry : ℕ) (k : Looking b i entry) where
    pub look_end : entry ≤ 0 → false ≡ any_below i (same_label b i)
    unfolding any_below
    look_end h =
        let z : last_in b (chain_of (label_at b i)) k.from ≡ 0 = omega (arith, k.is) in
        rw z at (chain_holds b i k.from) ∙ k.rest

    -- the loop's test holds: the entry is above some number
    module _ (low : ℕ) (h : low < entry) where
      pub look_below : entry - 1 < i
      look_below = omega (arith, k.here)

      pub look_falls : get_or before (entry - 1) 0 < entry
      look_falls = omega (arith, look_below, c.links (entry - 1) look_below, last_within b (chain_of (label_at b (entry - 1))) (entry - 1))

      -- l is the label of the entry's place
      module _ (l : ℕ) (read : l ≡ label_at b (entry - 1)) where
        pub look_hit : l ≡ label → true ≡ any_below i (same_label b i)
        unfolding same_label
        look_hit e = sym ((any_true i (same_label b i)).1 (entry - 1, look_below, eq-eqb (label_at b (entry - 1)) (label_at b i) (sym read ∙ e ∙ own)))

        pub look_next : l ≢ label → Looking b i (get_or before (entry - 1) 0)
        look_next e = record {
          from = entry - 1;
          within = omega (arith, look_below);
          here = omega (arith, look_below, look_falls);
          is = c.links (entry - 1) look_below ∙ ap (λ (chain : ℕ). last_in b chain (entry - 1)) (last_chain b (chain_of (label_at b i)) k.from (entry - 1) (sym k.is ∙ again));
          rest = one_more_lem (same_label b i) (entry - 1) (other_label b i (entry - 1) (λ q. e (read ∙ q ∙ sym own))) ∙ ap (λ (n : ℕ). any_below n (same_label b i)) (sym again) ∙ ap (λ (n : ℕ). any_below n (same_label b i)) k.is ∙ chain_holds b i k.from ∙ k.rest;
        }
          where
            again : entry ≡ suc (entry - 1)
            again = omega arith

-- the label at place i, which is x
module _ (b : List ℕ) (i x : ℕ) (read : x ≡ label_at b i) (t : Bool) (scalar : t ≡ is_scalar x) where
  pub label_no_scalar : not t ≡ true → true ≡ label_wrong b i
  unfolding label_wrong
  label_no_scalar h = rw (← read, ← scalar, h)

  pub label_by_chain : (r : Bool) → not t ≡ false → r ≡ any_below i (same_label b i) → r ≡ label_wrong b i
  unfolding label_wrong
  label_by_chain r h e = rw (← read, ← scalar, h) e
