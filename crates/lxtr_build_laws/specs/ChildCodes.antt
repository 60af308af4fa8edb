-- The codes of a group's children: they rise, and they are the codes with which its keys continue.
use Prim.Native.Nat.{ℕ, suc, ◌+◌, ◌≤◌}
use Rattle.std.specs.Prelude.{◌≡◌, Bool, ◌↔◌, ◌⊎◌}
use Rattle.std.proofs.Math.Path.{refl, ap}
use Rattle.std.proofs.Common.{sym, ◌∙◌, eqb-true}
use mathlib.Core.List.Memᴰ
use mathlib.Core.List.{List, [], ◌∷◌, Memᴰ}
use Rattle.std.proofs.Math.Bool.{true, false}
use Rattle.std.proofs.Math.Logic.{⊎_elim, inl, inr}
use native.Mathlib.Omega.{arith}
use Rattle.std.proofs.Math.Dec.{eqb}
use Rattle.std.proofs.Math.ListN.{length}
use Rattle.lxtr_spec.specs.Labels.{Pair}
use Rattle.lxtr_spec.specs.CodeMaps.{insert}
use Rattle.lxtr_spec.specs.Placing.{next_code, child_codes, below}
use Rattle.lxtr_build_laws.specs.CodeTables.{Rising}
use Rattle.lxtr_build_laws.specs.RisingNumbers.{insert_members, insert_rising, insert_length, insert_member}
use Rattle.lxtr_build_laws.specs.Groups.{CodesIn}

rising_more : (code : ℕ → ℕ) (g : List Pair) (cs : List ℕ) → Rising cs → Rising (child_codes code g cs)
unfolding child_codes
rising_more code [] cs r = r
rising_more code (p ∷ g) cs r = rising_more code g (insert (next_code code p.0) cs) (insert_rising (next_code code p.0) cs r)

pub codes_rise : (code : ℕ → ℕ) (g : List Pair) → Rising (child_codes code g [])
unfolding Rising
codes_rise code g = rising_more code g [] tt

-- some key of the group continues with code e
abbrev pub GoesOn : (ℕ → ℕ) → List Pair → ℕ → Type 0
GoesOn code g e = (p : Pair) × Memᴰ p g × (e ≡ next_code code p.0)

members_more : (code : ℕ → ℕ) (g : List Pair) (cs : List ℕ) (e : ℕ) → Memᴰ e (child_codes code g cs) ↔ (GoesOn code g e ⊎ Memᴰ e cs)
unfolding child_codes
members_more code [] cs e = (inr, ⊎_elim (λ r. absurd (Memᴰ.not-nil r.1)) (λ k. k))
members_more code (p ∷ g) cs e =
    let rest = members_more code g (insert (next_code code p.0) cs) e in
    let one = insert_members (next_code code p.0) cs e in (
      λ m. ⊎_elim (λ (r : GoesOn code g e). inl (r.0, Memᴰ.tail r.1, r.2)) (λ k. ⊎_elim (λ q. inl (p, Memᴰ.head refl, q)) inr (one.0 k)) (rest.0 m),
      ⊎_elim
          (λ (r : GoesOn code (p ∷ g) e). ⊎_elim (λ (q : r.0 ≡ p). rest.1 (inr (one.1 (inl (r.2 ∙ ap (λ (s : Pair). next_code code s.0) q))))) (λ n. rest.1 (inl (r.0, n, r.2))) (Memᴰ.cases_cons r.1))
          (λ k. rest.1 (inr (one.1 (inr k)))),
    )

pub codes_mem : (code : ℕ → ℕ) (g : List Pair) (e : ℕ) → Memᴰ e (child_codes code g []) → GoesOn code g e
codes_mem code g e m = ⊎_elim (λ (r : GoesOn code g e). r) (λ k. absurd (Memᴰ.not-nil k)) ((members_more code g [] e).0 m)

pub codes_have : (code : ℕ → ℕ) (g : List Pair) (p : Pair) → Memᴰ p g → Memᴰ (next_code code p.0) (child_codes code g [])
codes_have code g p m = (members_more code g [] (next_code code p.0)).1 (inl (p, m, refl))

next_small : (code : ℕ → ℕ) (n : ℕ) (r : List ℕ) → ((x : ℕ) → Memᴰ x r → (1 ≤ code x) × (code x ≤ n)) → next_code code r ≤ n
unfolding next_code
next_small code n [] h = omega arith
next_small code n (x ∷ r) h = (h x (Memᴰ.head refl)).1

pub codes_small : (code : ℕ → ℕ) (n : ℕ) (g : List Pair) → CodesIn code n g → (e : ℕ) → Memᴰ e (child_codes code g []) → e ≤ n
unfolding CodesIn
codes_small code n g h e m = let r = codes_mem code g e m in omega (arith, next_small code n r.0.0 (h r.0 r.1), r.2)

-- ---- how many codes there are, together with the keys of one child

module _ (code : ℕ → ℕ) (x : ℕ) where
  -- a key that continues with label x has the code of x next
  by_label : (p : Pair) (g : List Pair) → (length (below x (p ∷ g)) ≡ length (below x g)) ⊎ ((length (below x (p ∷ g)) ≡ suc (length (below x g))) × (next_code code p.0 ≡ code x))
  unfolding below next_code
  by_label ([], i) g = inl refl
  by_label (y ∷ l, i) g = go (eqb y x) refl
    where
      go : (t : Bool) → eqb y x ≡ t
          → (length {A = Pair} (elim t as (λ _. List Pair) [ true ↦ (l, i) ∷ below x g | false ↦ below x g ]) ≡ length (below x g)) ⊎ ((length {A = Pair} (elim t as (λ _. List Pair) [ true ↦ (l, i) ∷ below x g | false ↦ below x g ]) ≡ suc (length (below x g))) × (code y ≡ code x))
      go true e = inr (refl, ap code (eqb-true y x e))
      go false e = inl refl

  -- such a key adds no code if that code is there already
  codes_known : (g : List Pair) (cs : List ℕ) → Rising cs → Memᴰ (code x) cs → length (child_codes code g cs) + length (below x g) ≤ length g + length cs
  unfolding child_codes below
  codes_known [] cs r m = omega arith
  codes_known (p ∷ g) cs r m =
      let c = next_code code p.0 in
      let rest = codes_known g (insert c cs) (insert_rising c cs r) ((insert_members c cs (code x)).1 (inr m)) in
      ⊎_elim (λ e. omega (arith, insert_length c cs)) (λ e. omega (arith, e.0, ap length (insert_member c cs r (rw e.1 m)))) (by_label p g)

  codes_beside : (g : List Pair) (cs : List ℕ) → Rising cs → length (child_codes code g cs) + length (below x g) ≤ length g + length cs + 1
  unfolding child_codes below
  codes_beside [] cs r = omega arith
  codes_beside (p ∷ g) cs r =
      let c = next_code code p.0 in
      let k = (insert_length c cs).1 in
      ⊎_elim
      (λ e. omega (arith, codes_beside g (insert c cs) (insert_rising c cs r)))
      (λ e. omega (arith, e.0, codes_known g (insert c cs) (insert_rising c cs r) ((insert_members c cs (code x)).1 (inl (sym e.1)))))
      (by_label p g)

  pub codes_few : (g : List Pair) → length (child_codes code g []) + length (below x g) ≤ length g + 1
  unfolding Rising
  codes_few g = omega (arith, codes_beside g [] tt)
