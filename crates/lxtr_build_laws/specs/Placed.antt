-- Placing is a step: it changes only slot p's own words and free slots.
use Rattle.std.specs.Prelude.{ℕ, zero, suc, ◌≤◌, ◌≡◌, refl, Option, Some, None}
use Rattle.std.proofs.Common.{sym, subst, inl, inr, arith}
use mathlib.Core.List.{List, [], ◌∷◌, Memᴰ}
use Rattle.lxtr_spec.specs.Labels.{Pair}
use Rattle.lxtr_spec.specs.Joining.{slot_under}
use Rattle.lxtr_spec.specs.Placing.{child_codes, below, end_value, settle, into_each, place}
use Rattle.lxtr_build_laws.specs.CodeTables.{Rising}
use Rattle.lxtr_build_laws.specs.SlotWords.{Free}
use Rattle.lxtr_build_laws.specs.PlacingSteps.{Step, step_none, step_join, step_wider, Ready, ready_after}
use Rattle.lxtr_build_laws.specs.ChildCodes.{codes_rise}
use Rattle.lxtr_build_laws.specs.SettledSlots.{settle_some, settle_free, settle_step, settle_ready}

-- one of the slots of the codes cs under b that placing goes into: not that of an end
abbrev pub Inner : ℕ → List ℕ → ℕ → Type 0
Inner b cs t = (c : ℕ) × Memᴰ c cs × (1 ≤ c) × (t ≡ slot_under b c)

-- what f does for a code is a step of that child's slot
abbrev Goes : ℕ → ℕ → (ℕ → List ℕ → Option (List ℕ)) → Type 0
Goes S b f = (c : ℕ) (w u : List ℕ) → Ready S w (slot_under b c) → f c w ≡ Some u → Step S (λ t. t ≡ slot_under b c) w u

pub into_each_step : (S b : ℕ) (f : ℕ → List ℕ → Option (List ℕ)) (cs : List ℕ) (w u : List ℕ) → Goes S b f → ((c : ℕ) → Memᴰ c cs → Ready S w (slot_under b c))
    → into_each f cs w ≡ Some u → Step S (Inner b cs) w u
unfolding into_each
into_each_step S b f [] w u goes ready e = let q : w ≡ u = cc in subst (λ (x : List ℕ). Step S (Inner b []) w x) q (step_none S (Inner b []) w)
into_each_step S b f (zero ∷ cs) w u goes ready e =
    step_wider (into_each_step S b f cs w u goes (λ c m. ready c (Memᴰ.tail m)) e) (λ t a. (a.0, Memᴰ.tail a.1, a.2, a.3))
into_each_step S b f (suc c ∷ cs) w u goes ready e = go (λ v q. into_each_step S b f cs v u goes q) (f (suc c) w) refl e
  where
    go : ((v : List ℕ) → ((x : ℕ) → Memᴰ x cs → Ready S v (slot_under b x)) → into_each f cs v ≡ Some u → Step S (Inner b cs) v u)
        → (o : Option (List ℕ)) → f (suc c) w ≡ o → (elim o as (λ _. Option (List ℕ)) [ None ↦ None | Some v ↦ into_each f cs v ]) ≡ Some u → Step S (Inner b (suc c ∷ cs)) w u
    go rest None h q = absurd (let o : ◌≡◌ {A = ℕ} 0 1 = cc in omega arith)
    go rest (Some v) h q =
        let s = goes (suc c) w v (ready (suc c) (Memᴰ.head refl)) h in
        let first : Step S (Inner b (suc c ∷ cs)) w v = step_wider s (λ t x. (suc c, Memᴰ.head refl, omega arith, x)) in
        step_join first (rest v (λ x m. ready_after (ready x (Memᴰ.tail m)) s) q) (λ t x. inl (x.0, Memᴰ.tail x.1, x.2, x.3))

pub place_step : (S : ℕ) (code label : ℕ → ℕ) (k p : ℕ) (g : List Pair) (w u : List ℕ) → Ready S w p → place S code label k p g w ≡ Some u → Step S (λ t. t ≡ p) w u
unfolding place
place_step S code label zero p g w u r e = let q : w ≡ u = cc in subst (λ (x : List ℕ). Step S (λ t. t ≡ p) w x) q (step_none S (λ t. t ≡ p) w)
place_step S code label (suc k) p g w u r e = go (λ q. place_step S code label k q) (settle S p (end_value g) (child_codes code g []) w) refl e
  where
    go : ((q : ℕ) (h : List Pair) (v v' : List ℕ) → Ready S v q → place S code label k q h v ≡ Some v' → Step S (λ t. t ≡ q) v v')
        → (o : Option (ℕ × List ℕ)) → settle S p (end_value g) (child_codes code g []) w ≡ o
        → (elim o as (λ _. Option (List ℕ)) [ None ↦ None | Some s ↦ into_each (λ c w'. place S code label k (slot_under s.0 c) (below (label c) g) w') (child_codes code g []) s.1 ]) ≡ Some u
        → Step S (λ t. t ≡ p) w u
    go ih None h q = absurd (let o : ◌≡◌ {A = ℕ} 0 1 = cc in omega arith)
    go ih (Some s) h q =
        let cs = child_codes code g [] in
        let b = s.0 in
        let rs : Rising cs = codes_rise code g in
        let up = settle_some S p (end_value g) cs w s h in
        let inner = into_each_step S b (λ c w'. place S code label k (slot_under b c) (below (label c) g) w') cs s.1 u (λ c v v' rv ev. ih (slot_under b c) (below (label c) g) v v' rv ev)
        (settle_ready S p (end_value g) cs w b s.1 r up rs) q in
        step_join (settle_step S p (end_value g) cs w b s.1 r up rs) inner (λ t x. inr (subst (λ (y : ℕ). Free w y) (sym x.3) (settle_free S p (end_value g) cs w b s.1 r up x.0 x.1).0))
