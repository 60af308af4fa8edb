-- The slots of the lent work: their words after a store, and which slots are free.
use Rattle.std.specs.Prelude.{ℕ, zero, suc, ◌+◌, ◌*◌, ◌≤◌, ◌<◌, ◌≡◌, refl, List, ◌≢◌, ◌⊎◌, get_or, length, set, replicate}
use Rattle.std.proofs.Common.{sym, ◌∙◌, inl, inr, arith}
use Rattle.std.proofs.Math.Decide.{ℕ_discrete, dec_le}
use Rattle.std.proofs.Math.Seq.{get_or-set_same, get_or-set_other}
use Rattle.lxtr_spec.specs.Image.{low31}
use Rattle.lxtr_spec.specs.Placing.{base_at, check_at}

-- ---- the words of slot t after a store to a word of slot s

module _ (w : List ℕ) where
  pub check_of_base : (s t x : ℕ) → check_at (set w (2 * s) x) t ≡ check_at w t
  unfolding check_at
  check_of_base s t x = get_or-set_other w (2 * s) (2 * t + 1) x 0 (omega arith)

  pub check_same : (t x : ℕ) → 2 * t + 1 < length w → check_at (set w (2 * t + 1) x) t ≡ x
  unfolding check_at
  check_same t x h = get_or-set_same w (2 * t + 1) x 0 h

  pub check_other : (s t x : ℕ) → t ≢ s → check_at (set w (2 * s + 1) x) t ≡ check_at w t
  unfolding check_at
  check_other s t x h = get_or-set_other w (2 * s + 1) (2 * t + 1) x 0 (λ e. h (omega arith))

  pub base_of_check : (s t x : ℕ) → base_at (set w (2 * s + 1) x) t ≡ base_at w t
  unfolding base_at
  base_of_check s t x = get_or-set_other w (2 * s + 1) (2 * t) x 0 (omega arith)

  pub base_same : (t x : ℕ) → 2 * t < length w → base_at (set w (2 * t) x) t ≡ x
  unfolding base_at
  base_same t x h = get_or-set_same w (2 * t) x 0 h

  pub base_other : (s t x : ℕ) → t ≢ s → base_at (set w (2 * s) x) t ≡ base_at w t
  unfolding base_at
  base_other s t x h = get_or-set_other w (2 * s) (2 * t) x 0 (λ e. h (omega arith))

-- both words of slot t are in w' what they are in w
unfoldable pub Same : List ℕ → List ℕ → ℕ → Type 0
Same w w' t = (base_at w' t ≡ base_at w t) × (check_at w' t ≡ check_at w t)

-- ---- free and taken slots

-- slot t is from 2 up and has no parent
pub record Free (w : List ℕ) (t : ℕ) : Type 0 where
  pub from : 2 ≤ t
  pub zero_check : check_at w t ≡ 0

abbrev pub Taken : List ℕ → ℕ → Type 0
Taken w t = Free w t → ⊥

abbrev pub parent_at : List ℕ → ℕ → ℕ
parent_at w t = low31 (check_at w t)

pub free_or_taken : (w : List ℕ) (t : ℕ) → Free w t ⊎ Taken w t
free_or_taken w t = go (dec_le 2 t) (ℕ_discrete (check_at w t) 0)
  where
    go : Dec (2 ≤ t) → Dec (check_at w t ≡ 0) → Free w t ⊎ Taken w t
    go (yes l) (yes z) = inl (record { from = l; zero_check = z })
    go (yes l) (no z) = inr (λ f. z f.zero_check)
    go (no l) (yes z) = inr (λ f. l f.from)
    go (no l) (no z) = inr (λ f. l f.from)

-- a slot stays free or taken if its check stays
module _ (w w' : List ℕ) (t : ℕ) (e : check_at w' t ≡ check_at w t) where
  pub taken_same : Taken w t → Taken w' t
  taken_same h f = h (record { from = f.from; zero_check = sym e ∙ f.zero_check })

  pub free_same : Free w t → Free w' t
  free_same f = record { from = f.from; zero_check = e ∙ f.zero_check }

-- ---- cleared work

zeros_at : (W i : ℕ) → ◌≡◌ {A = ℕ} (get_or (replicate W 0) i 0) 0
zeros_at zero i = refl
zeros_at (suc W) zero = refl
zeros_at (suc W) (suc i) = zeros_at W i

pub zeros_check : (W t : ℕ) → check_at (replicate W 0) t ≡ 0
unfolding check_at
zeros_check W t = zeros_at W (2 * t + 1)
