-- The library's tests and bytes of a character are those of the definitions.
use Rattle.std.specs.Prelude.{ℕ, ◌≡◌, refl, Bool, true, false, ◌&&◌, not, cond, encode_utf8}
use Rattle.std.proofs.Common.{arith, sym}
use Rattle.std.proofs.lemmas.Bool.Decides.{nat_tests}
use Rattle.std.specs.Char.{IsScalar, is_control as std_control}
use lib.Utf8.{scalar, encode}
use Rattle.lxtr_spec.specs.Labels.{is_scalar}
use Rattle.lxtr_command_spec.specs.Utf8.{utf8}
use Rattle.lxtr_command_spec.specs.Forms.{is_control, shown}

same_bytes : (x : ℕ) → encode x ≡ utf8 x
unfolding utf8 encode
same_bytes x = refl

same_scalar : (x : ℕ) → is_scalar x ≡ scalar x
unfolding is_scalar
same_scalar x = grind (arith, nat_tests)

same_control : (x : ℕ) → is_control x ≡ std_control x
unfolding is_control
same_control x = grind (arith, nat_tests)

and_false : (b : Bool) → b && false ≡ false
and_false true = refl
and_false false = refl

-- c is whether the character y of label x is a control character
module _ (x y : ℕ) (made : IsScalar x × (y ≡ x)) (c : Bool) (is : c ≡ std_control y) where
  pub shown_as_itself : c ≡ false → encode_utf8 y ≡ shown x
  unfolding shown
  shown_as_itself e = rw (made.1, same_scalar x, made.0, same_control x, ← made.1, sym is, e) (same_bytes y)

  pub control_replaced : c ≡ true → encode_utf8 0xFFFD ≡ shown x
  unfolding shown
  control_replaced e = rw (same_control x, ← made.1, sym is, e, and_false (is_scalar y)) (same_bytes 0xFFFD)

pub other_replaced : (x : ℕ) → (IsScalar x → ⊥) → encode_utf8 0xFFFD ≡ shown x
unfolding shown
other_replaced x n = go (scalar x) refl
  where
    go : (s : Bool) → scalar x ≡ s → encode_utf8 0xFFFD ≡ cond (is_scalar x && not (is_control x)) (utf8 x) (utf8 0xFFFD)
    go true e = absurd (n e)
    go false e = rw (same_scalar x, e) (same_bytes 0xFFFD)
