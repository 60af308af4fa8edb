-- The demand, from its parts: the definitions cut the text in the one way in which it is cut, and answer what that cutting says.
-- Typing and finishing are one proof, over which texts are kept back.
use Rattle.std.specs.Prelude.{ℕ, ◌*◌, ◌≤◌, ◌<◌, ◌≡◌, List, [], ◌++◌, Bool, true, false}
use Rattle.std.proofs.Common.{arith, sym, ap₂, ◌∙◌, ⊎_elim, lt-ltb, le-ltb}
use Rattle.std.proofs.Math.Path.{ap}
use Rattle.std.proofs.Math.ListN.{length}
use Rattle.lxtr_spec.specs.Refusals.{refuse_if, unless_refused}
use Rattle.lxtr_spec.specs.Sets.{PairSet}
use Rattle.lxtr_spec.specs.Meaning.{Longer}
use Rattle.lxtr_laws.specs.RefusalChains.{stands}
use Rattle.romaji_spec.specs.Pieces.{Piece, Cutting, outgoing, cut}
use Rattle.romaji_spec.specs.Typing.{kept_in, table_refusal, room_refusal, refused_by, went_out, answered, convert, type_of, finish_of}
use Rattle.romaji_spec.specs.declared.State.{State}
use Rattle.romaji_demands.specs.Cuts.{CutInto, Never, FinishedAs}
use Rattle.romaji_demands.specs.TypingDemand.{Ready, RefusedBy, Bytes, Answers, text_of, TypingDemand, defined}
use Rattle.romaji_demands.specs.Laws.Cuts.{one_cut}
use Rattle.romaji_demands.specs.Laws.Found.{front_length_lem}
use Rattle.romaji_demands.specs.Laws.CutTexts.{KeptBack, typing_keeps, finishing_keeps, cut_is}
use Rattle.romaji_demands.specs.Laws.TableRefusals.{ready_passes, refused_is, refusal_above_0, one_refusal, not_both, decided}

-- a cutting whose labels have room, and one whose labels have none
module _ (kana : List ℕ) (s : State) (room : List ℕ) (c : Cutting) where
  room_enough : 4 * length (outgoing kana c.pieces) ≤ length room → answered kana s room c ≡ went_out room (outgoing kana c.pieces) c.rest
  unfolding answered room_refusal refuse_if unless_refused
  room_enough h = rw (le-ltb (length room) (4 * length (outgoing kana c.pieces)) h)

  room_short : length room < 4 * length (outgoing kana c.pieces) → answered kana s room c ≡ refused_by 29 s room
  unfolding answered room_refusal refuse_if unless_refused
  room_short h = rw (lt-ltb (length room) (4 * length (outgoing kana c.pieces)) h)

module _ (keeping : Bool) (b kana : List ℕ) (s : State) (typed room : List ℕ) where
  convert_refuses : (k : ℕ) → RefusedBy b kana k → convert keeping b kana s typed room ≡ refused_by k s room
  unfolding convert
  convert_refuses k r =
      let e = refused_is b kana k r in
      stands (table_refusal b kana) (answered kana s room (cut keeping b (kept_in s ++ typed))) (refused_by (table_refusal b kana) s room) (λ z. refusal_above_0 b kana k r (sym e ∙ z))
      ∙ ap (λ (n : ℕ). refused_by n s room) e

  module _ (d : PairSet) (ready : Ready b kana d) where
    converts : convert keeping b kana s typed room ≡ answered kana s room (cut keeping b (text_of s typed))
    unfolding convert unless_refused
    converts = rw (ready_passes b kana d ready)

    answers : (Waits : List ℕ → Type 0) → KeptBack b keeping Waits → Bytes (text_of s typed) → Answers d Waits kana s (text_of s typed) room (convert keeping b kana s typed room)
    answers Waits kept small = record {
      is_goes_out = λ ps rest c h. let (e, f) = same ps rest c in converts ∙ room_enough kana s room made (rw e h) ∙ ap₂ (λ (l : List Piece) (r : List ℕ). went_out room (outgoing kana l) r) e f;
      no_room = λ ps rest c h. let (e, f) = same ps rest c in converts ∙ room_short kana s room made (rw e h);
    }
      where
        made : Cutting
        made = cut keeping b (text_of s typed)

        same : (ps : List Piece) (rest : List ℕ) → CutInto d Waits (text_of s typed) ps rest → (made.pieces ≡ ps) × (made.rest ≡ rest)
        same ps rest c = one_cut d Waits ready.no_empty (text_of s typed) made.pieces ps made.rest rest (cut_is ready.image ready.no_empty keeping Waits kept (text_of s typed) small) c

-- finishing leaves no rest
no_rest : (d : PairSet) (t : List ℕ) (ps : List Piece) (rest : List ℕ) → FinishedAs d t ps rest → FinishedAs d t ps []
no_rest d t ps rest c = ⊎_elim (λ e. rw e at c) (λ w. absurd w) c.end

pub typing_demand : TypingDemand defined
unfolding type_of finish_of
typing_demand = record {
  decided = decided;
  one_refusal = one_refusal;
  not_both = not_both;
  refused = λ b kana k r s typed room. (convert_refuses true b kana s typed room k r, convert_refuses false b kana s [] room k r);
  some_cut = λ b kana d ready t small.
      let typed = cut true b t in
      let finished = cut false b t in (
        (typed.pieces, typed.rest, cut_is ready.image ready.no_empty true (Longer d) (typing_keeps ready.image) t small),
        (finished.pieces, no_rest d t finished.pieces finished.rest (cut_is ready.image ready.no_empty false Never (finishing_keeps b) t small)),
      );
  one_cut = λ b kana d ready. (one_cut d (Longer d) ready.no_empty, one_cut d Never ready.no_empty);
  few_kept = λ b kana d ready t ps rest c. ⊎_elim (λ e. omega (arith, ap length e)) (front_length_lem ready.image rest) c.end;
  typed = λ b kana d ready s typed room small. answers true b kana s typed room d ready (Longer d) (typing_keeps ready.image) small;
  finished = λ b kana d ready s room small. answers false b kana s [] room d ready Never (finishing_keeps b) small;
}
