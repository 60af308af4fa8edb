-- The loop that counts the labels that go out, as far as they may: it ends early if they are more.
use Rattle.std.specs.Prelude.{ℕ, ◌+◌, ◌-◌, ◌≤◌, ◌<◌, ◌≡◌, refl, Bool, true, false, List, [], ◌++◌, length, drop, get_or, leb, Option, Some, None}
use Rattle.std.proofs.Common.{arith, zero-add, sym, length-append, le-leb}
use Rattle.std.proofs.lemmas.Bool.{lt-leb}
use Rattle.romaji.specs.declared.pieces.Piece.{Piece}
use Rattle.romaji.specs.NextPieces.{NextIs, out_by}
use Rattle.romaji.specs.Progress.{out_of, Reached, reached_start, reached_stop, reached_next, reached_most}

-- the labels so far, and those that may still go out, are all that may
pub record Counted (keeping : Bool) (b kana t : List ℕ) (room at left : ℕ) : Type 0 where
  pub done : List ℕ
  pub used : length done + left ≡ room
  pub reached : Reached keeping b kana t at done

-- as many labels go out for any byte
out_count : (kana : List ℕ) (x y : ℕ) (o : Option ℕ) → length (out_by kana x o) ≡ length (out_by kana y o)
unfolding out_by
out_count kana x y None = refl
out_count kana x y (Some v) = refl

module _ (keeping : Bool) (b kana t : List ℕ) (room : ℕ) where
  abbrev all : List ℕ
  all = out_of keeping b kana t

  pub count_start : Counted keeping b kana t room 0 room
  count_start = record { done = []; used = zero-add room; reached = reached_start keeping b kana t }

  module _ (at left : ℕ) (before : Counted keeping b kana t room at left) where
    open before use {done, used, reached}

    pub count_stop : NextIs keeping b (drop at t) None → true ≡ leb (length all) room
    count_stop next = sym (le-leb (length all) room (rw (reached_stop keeping b kana t at done reached next).0 (omega (arith, used))))

    module _ (p : Piece) (next : NextIs keeping b (drop at t) (Some p)) (count : ℕ) (counts : count ≡ length (out_by kana 0 p.value)) where
      abbrev piece : List ℕ
      piece = out_by kana (get_or t at 0) p.value

      size : length piece ≡ count
      size = omega (arith, out_count kana (get_or t at 0) 0 p.value)

      pub count_over : left < count → false ≡ leb (length all) room
      count_over h = sym (lt-leb (length all) room (omega (arith, used, size, reached_most keeping b kana t at done reached p next)))

      pub count_next : count ≤ left → Counted keeping b kana t room (at + p.length) (left - count)
      count_next h = record {
        done = done ++ piece;
        used = omega (arith, length-append done piece, size, used);
        reached = reached_next keeping b kana t at done reached p next;
      }
