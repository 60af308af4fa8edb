-- The state as bytes: the bytes kept in it are read as a text of their own, and a state is written byte by byte.
use Rattle.std.specs.Prelude.{ℕ, ◌-◌, ◌≤◌, min, ◌≡◌, refl, ◌≢◌, List, [], ◌∷◌, length, get_or, set}
use native.Mathlib.Omega.{arith}
use Rattle.std.proofs.Common.{◌∙◌, take-take}
use Rattle.std.proofs.Math.Path.{sym, ap}
use Rattle.std.proofs.Math.ListN.{take, drop, length-take, length-drop}
use Rattle.std.proofs.Math.Seq.{take_all}
use Rattle.lxtr_spec.specs.HostNumbers.{at_front}
use borrow.Rule.Slice.PartMut.{put_mid}
use Rattle.lxtr_laws.specs.Overlays.{all_words}
use Rattle.romaji_spec.specs.Pieces.{max_kept}
use Rattle.romaji_spec.specs.HostStates.{state_bytes, kept_bytes}
use Rattle.romaji_spec.specs.declared.State.{State}
use Rattle.romaji.specs.Tables.{take_least}

-- ---- reading

-- those behind the first
pub behind_first : (bytes : List ℕ) → take (length bytes - 1) (drop 1 bytes) ≡ drop 1 bytes
behind_first bytes = take_all (length bytes - 1) (drop 1 bytes) (omega (arith, length-drop 1 bytes))

-- n bytes behind the first are kept: as many as the first byte says, but not more than there are and than a state has
module _ (bytes : List ℕ) (n : ℕ) (count : n ≡ min (min (get_or bytes 0 0) max_kept) (length (drop 1 bytes))) where
  abbrev rest : List ℕ
  rest = drop 1 bytes

  pub read_few : length (take n rest) ≤ max_kept
  read_few = omega (arith, length-take n rest)

  pub read_kept : take n rest ≡ kept_bytes bytes
  unfolding kept_bytes
  read_kept =
      sym (take-take n max_kept rest (omega arith)) ∙ take_least (take max_kept rest) n (get_or bytes 0 0) (omega (arith, length-take max_kept rest))

pub read_nothing : (bytes : List ℕ) → length bytes ≡ 0 → bytes ≡ kept_bytes bytes
unfolding kept_bytes
read_nothing [] h = refl
read_nothing (x ∷ bytes) h = absurd (omega arith)

-- ---- writing

pub put_none : (s : State) (bytes : List ℕ) → length bytes ≡ 0 → bytes ≡ at_front (state_bytes s) bytes
unfolding at_front state_bytes
put_none s [] z = refl
put_none s (x ∷ bytes) z = absurd (omega arith)

-- the first byte, then n of the kept bytes
pub put_all : (s : State) (bytes : List ℕ) (n k : ℕ) → length s.kept ≡ max_kept → length bytes ≢ 0 → n ≡ min max_kept (length bytes - 1) → k ≡ n → (ys : List ℕ) → ys ≡ take n s.kept
    → put_mid 1 k (set bytes 0 s.count) ys ≡ at_front (state_bytes s) bytes
unfolding at_front state_bytes
put_all s [] n k sized some count same ys e = absurd (some refl)
put_all s (x ∷ bytes) n k sized some count same ys e = rw (e, same) (ap (λ (l : List ℕ). s.count ∷ l) (all_words s.kept bytes n (omega arith)))
