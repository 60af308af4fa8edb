-- What first fit answers: the smallest base under which the slots of all codes are free.
use Prim.Native.Nat.{ℕ, zero, suc, ◌+◌, ◌≤◌, ◌<◌}
use Rattle.std.proofs.Math.Path.{◌≡◌, refl, sym, ap, subst}
use Rattle.std.proofs.Common.{◌∙◌, arith, eq-or-lt_of_le}
use mathlib.Core.List.Memᴰ
use mathlib.Core.List.{List, [], ◌∷◌, Memᴰ}
use Rattle.std.specs.Prelude.{Bool, ◌&&◌, leb, ltb, eqb, Option, Some, None}
use Rattle.std.proofs.Math.Bool.{true, false}
use Rattle.std.proofs.Math.Logic.{⊎_elim}
use Rattle.lxtr_spec.specs.Joining.{slot_under, code_under}
use Rattle.lxtr_spec.specs.Placing.{check_at, is_free, fits, first_fit_from, first_fit, base_count}
use Rattle.lxtr_laws.specs.Tests.{and_is_true, ltb_is_true, leb_is_true, eqb_is_true}
use Rattle.lxtr_laws.specs.Firsts.{FirstOf}
use Rattle.lxtr_laws.specs.JoiningLaws.{code_of_slot}
use Rattle.lxtr_build_laws.specs.SlotWords.{Free}

-- r is the smallest base from b up that fits
pub record Smallest (S : ℕ) (w cs : List ℕ) (b r : ℕ) : Type 0 where
  pub from : b ≤ r
  pub fit : fits S w cs r ≡ true
  pub none_before : (e : ℕ) → b ≤ e → e < r → fits S w cs e ≡ false

module _ (S : ℕ) (w cs : List ℕ) where
  -- a base that does not fit is skipped
  fit_past : (n b : ℕ) → fits S w cs b ≡ false → first_fit_from S w cs (suc n) b ≡ first_fit_from S w cs n (b + 1)
  unfolding first_fit_from
  fit_past n b h = ap (λ (t : Bool). elim t as (λ _. Option ℕ) [ true ↦ Some b | false ↦ first_fit_from S w cs n (b + 1) ]) h

  fit_here : (n b : ℕ) → fits S w cs b ≡ true → first_fit_from S w cs (suc n) b ≡ Some b
  unfolding first_fit_from
  fit_here n b h = ap (λ (t : Bool). elim t as (λ _. Option ℕ) [ true ↦ Some b | false ↦ first_fit_from S w cs n (b + 1) ]) h

  from_some : (n b r : ℕ) → first_fit_from S w cs n b ≡ Some r → Smallest S w cs b r × (r < b + n)
  unfolding first_fit_from
  from_some zero b r e = let z : ◌≡◌ {A = Option ℕ} None (Some r) = e in absurd (let o : ◌≡◌ {A = ℕ} 0 1 = cc in omega arith)
  from_some (suc n) b r e = go (λ h. from_some n (b + 1) r (sym (fit_past n b h) ∙ e)) (fits S w cs b) refl
    where
      go : (fits S w cs b ≡ false → Smallest S w cs (b + 1) r × (r < b + 1 + n)) → (t : Bool) → fits S w cs b ≡ t → Smallest S w cs b r × (r < b + suc n)
      go rest true h =
          let q : ◌≡◌ {A = Option ℕ} (Some b) (Some r) = sym (fit_here n b h) ∙ e in
          let br : b ≡ r = cc in
          (record { from = omega arith; fit = subst (λ (x : ℕ). fits S w cs x ≡ true) br h; none_before = λ x l m. absurd (omega arith) }, omega arith)
      go rest false h =
          let ih = rest h in (
            record {
              from = omega (arith, ih.0.from);
              fit = ih.0.fit;
              none_before = λ x l m. ⊎_elim (λ (q : b ≡ x). subst (λ (y : ℕ). fits S w cs y ≡ false) q h) (λ q. ih.0.none_before x (omega arith) m) (eq-or-lt_of_le l);
            },
            omega (arith, ih.1),
          )

  from_none : (n b : ℕ) → first_fit_from S w cs n b ≡ None → (x : ℕ) → b ≤ x → x < b + n → fits S w cs x ≡ false
  unfolding first_fit_from
  from_none zero b e x l m = absurd (omega arith)
  from_none (suc n) b e x l m = go (λ h. from_none n (b + 1) (sym (fit_past n b h) ∙ e) x) (fits S w cs b) refl
    where
      go : (fits S w cs b ≡ false → b + 1 ≤ x → x < b + 1 + n → fits S w cs x ≡ false) → (t : Bool) → fits S w cs b ≡ t → fits S w cs x ≡ false
      go rest true h =
          let q : ◌≡◌ {A = Option ℕ} (Some b) None = sym (fit_here n b h) ∙ e in
          absurd (let o : ◌≡◌ {A = ℕ} 0 1 = cc in omega arith)
      go rest false h = ⊎_elim (λ (q : b ≡ x). subst (λ (y : ℕ). fits S w cs y ≡ false) q h) (λ q. rest h (omega arith) (omega arith)) (eq-or-lt_of_le l)

  pub first_fit_some : (r : ℕ) → first_fit S w cs ≡ Some r → Smallest S w cs 0 r × (r < base_count)
  unfolding first_fit
  first_fit_some r e = let f = from_some base_count 0 r e in (f.0, omega (arith, f.1))

  pub first_fit_none : first_fit S w cs ≡ None → (b : ℕ) → b < base_count → fits S w cs b ≡ false
  unfolding first_fit
  first_fit_none e b h = from_none base_count 0 e b (omega arith) (omega arith)

  -- so it is the first of the bases that fits, or there is none
  pub first_fit_first : FirstOf (fits S w cs) 0 base_count (first_fit S w cs)
  unfolding FirstOf
  first_fit_first = go (first_fit S w cs) refl
    where
      go : (o : Option ℕ) → first_fit S w cs ≡ o → FirstOf (fits S w cs) 0 base_count o
      go (Some r) e =
          let least = first_fit_some r e in
          record { from = least.0.from; to = least.1; here = least.0.fit; none_before = least.0.none_before }
      go None e = record { none = λ b i h. first_fit_none e b h }

-- ---- a base that fits

-- the slots of these codes under b are free and below S
abbrev pub AllFree : ℕ → List ℕ → ℕ → List ℕ → Type 0
AllFree S w b cs = (c : ℕ) → Memᴰ c cs → Free w (slot_under b c) × (slot_under b c < S)

pub free_of : (S : ℕ) (w : List ℕ) (t : ℕ) → is_free S w t ≡ true → Free w t × (t < S)
unfolding is_free
free_of S w t h =
    let a = (and_is_true (leb 2 t && ltb t S) (eqb (check_at w t) 0)).0 h in
    let b = (and_is_true (leb 2 t) (ltb t S)).0 a.0 in
    (record { from = (leb_is_true 2 t).0 b.0; zero_check = (eqb_is_true (check_at w t) 0).0 a.1 }, (ltb_is_true t S).0 b.1)

pub fits_free : (S : ℕ) (w cs : List ℕ) (b : ℕ) → fits S w cs b ≡ true → AllFree S w b cs
unfolding fits
fits_free S w [] b h c m = absurd (Memᴰ.not-nil m)
fits_free S w (e ∷ cs) b h c m =
    let a = (and_is_true (is_free S w (slot_under b e)) (fits S w cs b)).0 h in
    ⊎_elim (λ (q : c ≡ e). rw q (free_of S w (slot_under b e) a.0)) (λ n. fits_free S w cs b a.1 c n) (Memᴰ.cases_cons m)

-- codes that reach the same slot are equal
pub slot_injective : (b c e : ℕ) → slot_under b c ≡ slot_under b e → c ≡ e
slot_injective b c e q = sym (code_of_slot b c) ∙ ap (code_under b) q ∙ code_of_slot b e
