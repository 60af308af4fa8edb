-- Bytes of the header compared as numbers of 32 bits: two such numbers differ exactly when one of their bytes does.
use Rattle.std.specs.Prelude.{ℕ, ◌+◌, ◌*◌, ◌^◌, ◌<◌, ◌≡◌, refl, Bool, true, false, ◌||◌, not, List, [], ◌∷◌, eqb}
use Rattle.std.proofs.Common.{sym, arith}
use Rattle.lxtr_spec.specs.Numbers.{byte_at, le32}
use Rattle.lxtr_spec.specs.Ranges.{any_below}
use Rattle.lxtr_spec.specs.Image.{magic}
use Rattle.lxtr_spec.specs.Refusals.{byte_differs, magic_differs, reserved_set}
use Rattle.lxtr_laws.specs.RangeTests.{tests}

-- two tests that are false together are equal
same_fault : (s t : Bool) → (s ≡ false → t ≡ false) → (t ≡ false → s ≡ false) → s ≡ t
same_fault true true f g = refl
same_fault true false f g = g refl
same_fault false t f g = sym (f refl)

module _ (a b c d : ℕ) (ha : a < 2 ^ 8) (hb : b < 2 ^ 8) (hc : c < 2 ^ 8) (hd : d < 2 ^ 8) where
  pub magic_number : (w m : ℕ) → w ≡ a + b * 2 ^ 8 + c * 2 ^ 16 + d * 2 ^ 24 → m ≡ 0x5254584C → not (eqb w m) ≡ magic_differs (a ∷ b ∷ c ∷ d ∷ [])
  unfolding magic_differs byte_differs any_below magic
  magic_number w m e f =
      same_fault _ _
      (λ h. let q : w ≡ m = simp tests at h in simp tests ((((refl, omega arith), omega arith), omega arith), omega arith))
      (λ h. let q = simp tests at h in simp tests (omega arith))

-- v is the version byte, and w the number that begins with it; z is the number at the header's end
pub reserved_numbers : (b : List ℕ) (w v z : ℕ) → w ≡ le32 b 4 → v ≡ byte_at b 4 → z ≡ le32 b 20 → (not (eqb w v) || not (eqb z 0)) ≡ reserved_set b
unfolding reserved_set le32
reserved_numbers b w v z e f g =
    same_fault _ _
    (λ h. let q = simp tests at h in simp tests (omega arith))
    (λ h. let q = simp tests at h in simp tests (omega arith, omega arith))
