-- Placing leaves exactly the work that first fit gives, and the search for the highest taken slot finds it.
-- By the labels still allowed, and along the codes of a slot's children.
use Prim.Native.Nat.{ℕ, zero, suc, ◌≤◌, ◌<◌}
use Rattle.std.proofs.Common.{arith, sym, ◌∙◌, true≢false}
use Rattle.std.proofs.Math.Decide.{ℕ_discrete}
use Rattle.std.proofs.Math.Path.{◌≡◌, refl, ap, subst}
use mathlib.Core.List.Memᴰ
use mathlib.Core.List.{List, [], ◌∷◌}
use Rattle.std.specs.Prelude.{true, Option, Some, None}
use Rattle.lxtr_spec.specs.Labels.{Pair}
use Rattle.lxtr_spec.specs.Joining.{slot_under}
use Rattle.lxtr_spec.specs.Placing.{check_at, base_count, is_free, fits, first_fit, child_codes, below, end_value, put_children, put_parent, settle, into_each, place}
use Rattle.lxtr_spec.specs.Builds.{slots_used}
use Rattle.lxtr_laws.specs.RangeTests.{tests}
use Rattle.lxtr_build_laws.specs.FirstFit.{Smallest, first_fit_some, first_fit_none, fits_free}
use Rattle.lxtr_build_laws.specs.Trees.{go_into, placed_slot}
use Rattle.lxtr_build_laws.specs.UsedSlots.{taken_is, used_low, used_last, taken_used}
use Rattle.lxtr_demands.specs.Builder.{Fits, SmallestFit, InTurn, PlacedByFit, HighestTaken}

fits_of : (S : ℕ) (w cs : List ℕ) (b : ℕ) → b < base_count → fits S w cs b ≡ true → Fits S w cs b
fits_of S w cs b h e = let free = fits_free S w cs b e in record { base_in = h; is_slot_from = λ c m. (free c m).0.from; slot_to = λ c m. (free c m).1; slot_free = λ c m. (free c m).0.zero_check }

of_fits : (S : ℕ) (w cs : List ℕ) (b : ℕ) → Fits S w cs b → fits S w cs b ≡ true
unfolding fits is_free
of_fits S w [] b f = refl
of_fits S w (c ∷ cs) b f = simp tests (
  (((f.is_slot_from c (Memᴰ.head refl)), f.slot_to c (Memᴰ.head refl)), f.slot_free c (Memᴰ.head refl)),
  of_fits S w cs b (record { base_in = f.base_in; is_slot_from = λ e m. f.is_slot_from e (Memᴰ.tail m); slot_to = λ e m. f.slot_to e (Memᴰ.tail m); slot_free = λ e m. f.slot_free e (Memᴰ.tail m) }),
)

-- a base that fits, and no smaller one does
smallest_fit : (S : ℕ) (w cs : List ℕ) (b : ℕ) → b < base_count → Smallest S w cs 0 b → SmallestFit S w cs b
smallest_fit S w cs b h s = record {
  fits = fits_of S w cs b h s.fit;
  smallest = λ a f. not_below a (λ l. true≢false (sym (of_fits S w cs a f) ∙ s.none_before a (omega arith) l));
}
  where
    not_below : (a : ℕ) → (a < b → ⊥) → b ≤ a
    not_below a h = omega arith

one_fit : (S : ℕ) (w cs : List ℕ) (a b : ℕ) → SmallestFit S w cs a → SmallestFit S w cs b → a ≡ b
one_fit S w cs a b f g = omega (arith, f.smallest b g.fits, g.smallest a f.fits)

-- first fit finds it
smallest_found : (S : ℕ) (w cs : List ℕ) (b : ℕ) → SmallestFit S w cs b → first_fit S w cs ≡ Some b
smallest_found S w cs b f = go (first_fit S w cs) refl
  where
    go : (o : Option ℕ) → first_fit S w cs ≡ o → first_fit S w cs ≡ Some b
    go None e = absurd (true≢false (sym (of_fits S w cs b f.fits) ∙ first_fit_none S w cs e b f.fits.base_in))
    go (Some r) e =
        let found = first_fit_some S w cs r e in
        e ∙ ap Some (one_fit S w cs r b (smallest_fit S w cs r found.1 found.0) f)

-- ---- going into the children

module _ (R : ℕ → List ℕ → List ℕ → Type 0) where
  in_turn : (f : ℕ → List ℕ → Option (List ℕ)) → ((c : ℕ) (w u : List ℕ) → f c w ≡ Some u → R c w u) → (cs w u : List ℕ) → into_each f cs w ≡ Some u → InTurn R cs w u
  unfolding into_each InTurn
  in_turn f leads [] w u e = let q : w ≡ u = cc in q
  in_turn f leads (zero ∷ cs) w u e = in_turn f leads cs w u e
  in_turn f leads (suc c ∷ cs) w u e = go (λ v q. in_turn f leads cs v u q) (f (suc c) w) refl e
    where
      go : ((v : List ℕ) → into_each f cs v ≡ Some u → InTurn R cs v u) → (o : Option (List ℕ)) → f (suc c) w ≡ o
          → (elim o as (λ _. Option (List ℕ)) [ None ↦ None | Some v ↦ into_each f cs v ]) ≡ Some u → InTurn R (suc c ∷ cs) w u
      go rest None h q = absurd (let o : ◌≡◌ {A = ℕ} 0 1 = cc in omega arith)
      go rest (Some v) h q = (v, leads (suc c) w v h, rest v q)

  turn_in : (f : ℕ → List ℕ → Option (List ℕ)) → ((c : ℕ) (w u : List ℕ) → R c w u → f c w ≡ Some u) → (cs w u : List ℕ) → InTurn R cs w u → into_each f cs w ≡ Some u
  unfolding into_each InTurn
  turn_in f leads [] w u e = ap Some e
  turn_in f leads (zero ∷ cs) w u e = turn_in f leads cs w u e
  turn_in f leads (suc c ∷ cs) w u (v, r, e) = ap (λ (o : Option (List ℕ)). elim o as (λ _. Option (List ℕ)) [ None ↦ None | Some x ↦ into_each f cs x ]) (leads (suc c) w v r) ∙ turn_in f leads cs v u e

-- ---- placing

module _ (S : ℕ) (code label : ℕ → ℕ) where
  abbrev into : ℕ → ℕ → List Pair → ℕ → List ℕ → List ℕ → Type 0
  into k b g c v x = PlacedByFit S code label k (slot_under b c) (below (label c) g) v x

  pub placed_by_fit : (k p : ℕ) (g : List Pair) (w u : List ℕ) → place S code label k p g w ≡ Some u → PlacedByFit S code label k p g w u
  unfolding place PlacedByFit
  placed_by_fit zero p g w u e = let q : w ≡ u = cc in q
  placed_by_fit (suc k) p g w u e =
      let n = placed_slot S code label k p g w u e in
      let turns : InTurn (into k n.base g) (child_codes code g []) n.between u =
      in_turn (into k n.base g) (go_into S code label k n.base g) (λ c v x q. placed_by_fit k (slot_under n.base c) (below (label c) g) v x q) (child_codes code g []) n.between u n.into in (
        n.base,
        smallest_fit S w (child_codes code g []) n.base n.settled.small n.settled.smallest,
        subst (λ (x : List ℕ). InTurn (into k n.base g) (child_codes code g []) x u) n.settled.is turns,
      )

  pub fit_placed : (k p : ℕ) (g : List Pair) (w u : List ℕ) → PlacedByFit S code label k p g w u → place S code label k p g w ≡ Some u
  unfolding place settle PlacedByFit
  fit_placed zero p g w u e = ap Some e
  fit_placed (suc k) p g w u (b, f, e) =
      let cs : List ℕ = child_codes code g [] in
      let v : List ℕ = put_children p (end_value g) b cs (put_parent p b cs w) in
      let settled : settle S p (end_value g) cs w ≡ Some (b, v) =
      ap (λ (o : Option ℕ). elim o as (λ _. Option (ℕ × List ℕ)) [ None ↦ None | Some x ↦ Some (x, put_children p (end_value g) x cs (put_parent p x cs w)) ]) (smallest_found S w cs b f) in
      let gone : into_each (go_into S code label k b g) cs v ≡ Some u =
      turn_in (into k b g) (go_into S code label k b g) (λ c x y r. fit_placed k (slot_under b c) (below (label c) g) x y r) cs v u e in
      ap (λ (o : Option (ℕ × List ℕ)). elim o as (λ _. Option (List ℕ)) [ None ↦ None | Some s ↦ into_each (λ c w'. place S code label k (slot_under s.0 c) (below (label c) g) w') cs s.1 ]) settled ∙ gone

-- ---- the highest taken slot

pub used_highest : (S : ℕ) (w : List ℕ) → HighestTaken S w (slots_used w S)
used_highest S w = record {
  from = used_low w S;
  last = λ s e h. let r = used_last w S s e h in (r.0, ((taken_is w s).0 r.1).1);
  none_above = λ s h l. go s h l (ℕ_discrete (check_at w s) 0);
}
  where
    go : (s : ℕ) → slots_used w S ≤ s → s < S → Dec (check_at w s ≡ 0) → check_at w s ≡ 0
    go s h l (yes e) = e
    go s h l (no n) = absurd (omega (arith, taken_used w S s l ((taken_is w s).1 (omega (arith, used_low w S), n))))

pub one_highest : (S : ℕ) (w : List ℕ) (M N : ℕ) → HighestTaken S w M → HighestTaken S w N → M ≡ N
one_highest S w M N a b = same (not_above_lem M N a b) (not_above_lem N M b a)
  where
    not_above_lem : (m n : ℕ) → HighestTaken S w m → HighestTaken S w n → m < n → ⊥
    not_above_lem m zero a b l = omega arith
    not_above_lem m (suc s) a b l = let t = b.last s refl (omega (arith, a.from)) in t.1 (a.none_above s (omega arith) t.0)

    same : (M < N → ⊥) → (N < M → ⊥) → M ≡ N
    same h l = omega arith
