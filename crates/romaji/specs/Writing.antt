-- The loop that writes the labels that go out to the room's front: those of each piece behind those before it.
use Rattle.std.specs.Prelude.{ℕ, ◌+◌, ◌*◌, ◌≤◌, ◌≡◌, refl, Bool, List, [], ◌++◌, length, drop, get_or, Some, None}
use Rattle.std.proofs.Common.{arith, ap, ◌∙◌, length-append}
use Rattle.std.proofs.Math.Path.{sym}
use Rattle.lxtr_spec.specs.Numbers.{be_words}
use Rattle.lxtr_laws.specs.ByteOrders.{big, words_size, words_append}
use Rattle.lxtr_laws.specs.Overlays.{over, over_none, over_over, over_length}
use Rattle.romaji_spec.specs.Pieces.{cut}
use Rattle.romaji.specs.NextPieces.{NextIs, out_by}
use Rattle.romaji.specs.declared.pieces.Piece.{Piece}
use Rattle.romaji.specs.Progress.{out_of, Reached, reached_start, reached_stop, reached_next, reached_most}

-- all labels are at the room's front, and the text was converted to its rest
pub record Converts (keeping : Bool) (b kana t room : List ℕ) (at count : ℕ) (room' : List ℕ) : Type 0 where
  pub to : at ≤ length t
  pub rest : (cut keeping b t).rest ≡ drop at t
  pub counts : count ≡ length (out_of keeping b kana t)
  pub put : room' ≡ over room 0 (be_words (out_of keeping b kana t))

-- the labels so far are at the room's front
pub record Wrote (keeping : Bool) (b kana t room : List ℕ) (at count : ℕ) (room' : List ℕ) : Type 0 where
  pub done : List ℕ
  pub counts : count ≡ length done
  pub put : room' ≡ over room 0 (be_words done)
  pub same : length room' ≡ length room
  pub reached : Reached keeping b kana t at done

module _ (keeping : Bool) (b kana t room : List ℕ) where
  pub write_start : Wrote keeping b kana t room 0 0 room
  unfolding be_words
  write_start = record { done = []; counts = refl; put = sym (over_none room 0); same = refl; reached = reached_start keeping b kana t }

  module _ (at count : ℕ) (room' : List ℕ) (before : Wrote keeping b kana t room at count room') where
    open before use {done, counts, reached}

    pub write_stop : NextIs keeping b (drop at t) None → Converts keeping b kana t room at count room'
    write_stop next =
        let (gone, rest) = reached_stop keeping b kana t at done reached next in
        record { to = reached.to; rest = rest; counts = rw gone counts; put = rw gone before.put }

    module _ (large : 4 * length (out_of keeping b kana t) ≤ length room) (p : Piece) (next : NextIs keeping b (drop at t) (Some p)) where
      abbrev piece : List ℕ
      piece = out_by kana (get_or t at 0) p.value

      within : 4 * (count + length piece) ≤ length room
      within = omega (arith, counts, reached_most keeping b kana t at done reached p next)

      pub write_room : 4 * (count + length piece) ≤ length room'
      write_room = omega (arith, within, before.same)

      pub write_next : (count' : ℕ) (room'' : List ℕ) → count' ≡ count + length piece → room'' ≡ over room' (4 * count) (be_words piece) → Wrote keeping b kana t room (at + p.length) count' room''
      write_next count' room'' c e =
          let size = words_size big done in
          let size' = words_size big piece in
          let w = within in
          let s = before.same in
          let k = counts in
          record {
            done = done ++ piece;
            counts = omega (arith, length-append done piece);
            put = e ∙ rw (before.put, words_append big done piece) (over_over room 0 (be_words done) (be_words piece) (4 * count) (omega arith) (omega arith));
            same = ap length e ∙ over_length room' (4 * count) (be_words piece) (omega arith) ∙ s;
            reached = reached_next keeping b kana t at done reached p next;
          }
