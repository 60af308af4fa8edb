-- Two calls and one: what goes out of two cuttings, one after the other, is what goes out of the joined cutting, and if one of them has
-- no room, the whole has none either. The second call's room is what the first one left.
use Rattle.std.specs.Prelude.{ℕ, ◌+◌, ◌*◌, ◌-◌, ◌≤◌, ◌<◌, ◌≡◌, ◌≢◌, take}
use Rattle.std.proofs.Common.{arith, ◌∙◌, length-drop, drop-drop}
use Rattle.std.proofs.Math.Decide.{dec_lt}
use Rattle.std.proofs.Math.Path.{refl, sym, ap, ap₂}
use mathlib.Core.List.{List, [], ◌∷◌, ◌++◌, append_assoc}
use Rattle.std.proofs.Math.ListN.{length, drop, length-append}
use Rattle.std.proofs.Math.Seq.{take_at, drop_at}
use Rattle.lxtr_spec.specs.Numbers.{be_words}
use Rattle.lxtr_spec.specs.Sets.{PairSet}
use Rattle.lxtr_laws.specs.ByteOrders.{big, words_append}
use Rattle.lxtr_laws.specs.Lengths.{words_length}
use Rattle.lxtr_spec.specs.Meaning.{Longer}
use Rattle.romaji_spec.specs.Pieces.{Piece, piece_out, outgoing}
use Rattle.romaji_spec.specs.Typing.{state_of, TypingAnswer, refused_by, went_out}
use Rattle.romaji_spec.specs.declared.State.{State}
use Rattle.romaji_demands.specs.Cuts.{CutInto, TypedAs}
use Rattle.romaji_demands.specs.TypingDemand.{Answers, room_left, together, AtOnce}

out_joined : (kana : List ℕ) (ps qs : List Piece) → outgoing kana (ps ++ qs) ≡ outgoing kana ps ++ outgoing kana qs
unfolding outgoing
out_joined kana [] qs = refl
out_joined kana (p ∷ ps) qs = rw (out_joined kana ps qs) (sym (append_assoc (piece_out kana p) (outgoing kana ps) (outgoing kana qs)))

-- where labels went out
module _ (room out rest : List ℕ) where
  pub left_over : room_left (went_out room out rest) ≡ drop (4 * length out) room
  unfolding went_out
  left_over = drop_at (be_words out) (drop (4 * length out) room) (4 * length out) (words_length out)

  written : take (4 * length out) (went_out room out rest).room ≡ be_words out
  unfolding went_out
  written = take_at (be_words out) (drop (4 * length out) room) (4 * length out) (words_length out)

  module _ (more rest' : List ℕ) where
    rooms : (went_out room (out ++ more) rest').room ≡ (together (went_out room out rest) (went_out (room_left (went_out room out rest)) more rest')).room
    unfolding went_out
    rooms =
        let size : 4 * length (out ++ more) ≡ 4 * length out + 4 * length more = omega (arith, length-append out more) in
        let tail : drop (4 * length (out ++ more)) room ≡ drop (4 * length more) (drop (4 * length out) room) = ap (λ (k : ℕ). drop k room) size ∙ sym (drop-drop (4 * length more) (4 * length out) room) in
        ap₂ (λ (a l : List ℕ). a ++ l) (words_append big out more) tail
        ∙ append_assoc (be_words out) (be_words more) (drop (4 * length more) (drop (4 * length out) room))
        ∙ ap₂ (λ (a l : List ℕ). a ++ (be_words more ++ drop (4 * length more) l)) (sym written) (sym left_over)

    both_out : went_out room (out ++ more) rest' ≡ together (went_out room out rest) (went_out (room_left (went_out room out rest)) more rest')
    unfolding went_out
    both_out = λ i. record { answer = record { refusal = 0; count = length-append out more i; state = state_of rest' }; room = rooms i }

-- the three cases of two calls
module _ (s : State) (room : List ℕ) where
  pub refused_first : (k : ℕ) → k ≢ 0 → (c : TypingAnswer) → AtOnce s room (refused_by k s room) c (refused_by k s room)
  unfolding refused_by
  refused_first k n c = record { both = λ e _. absurd (n e); first_refused = λ _. refl; then_refused = λ e _. absurd (n e) }

  refused_then : (k : ℕ) → k ≢ 0 → (s' : State) (room' out rest : List ℕ) → AtOnce s room (went_out room out rest) (refused_by k s' room') (refused_by k s room)
  unfolding refused_by went_out
  refused_then k n s' room' out rest = record { both = λ _ e. absurd (n e); first_refused = λ e. absurd (e refl); then_refused = λ _ _. refl }

  none_refused : (out rest more rest' : List ℕ) → AtOnce s room (went_out room out rest) (went_out (room_left (went_out room out rest)) more rest') (went_out room (out ++ more) rest')
  unfolding went_out
  none_refused out rest more rest' = record { both = λ _ _. both_out room out rest more rest'; first_refused = λ e. absurd (e refl); then_refused = λ _ e. absurd (e refl) }

-- A text t is typed and cut into ps and a rest; then the rest with u after it is cut into qs; and the whole text is cut into all of them.
module _ {d : PairSet} {Waits : List ℕ → Type 0} (kana : List ℕ) (s : State) (room t rest u rest' : List ℕ) (ps qs : List Piece)
    (typed : TypedAs d t ps rest) (after : CutInto d Waits (rest ++ u) qs rest') (all : CutInto d Waits (t ++ u) (ps ++ qs) rest')
    (first whole : TypingAnswer) (then : State → List ℕ → TypingAnswer) (answers : Answers d (Longer d) kana s t room first)
    (then-answers : (left : List ℕ) → Answers d Waits kana (state_of rest) (rest ++ u) left (then (state_of rest) left)) (whole-answers : Answers d Waits kana s (t ++ u) room whole) where
  abbrev Goal : TypingAnswer → Type 0
  Goal a = AtOnce s room a (then a.answer.state (room_left a)) whole

  pub at_once : Goal first
  unfolding went_out
  at_once = by_first (dec_lt (length room) (4 * length (outgoing kana ps)))
    where
      size : length (outgoing kana (ps ++ qs)) ≡ length (outgoing kana ps) + length (outgoing kana qs)
      size = ap length (out_joined kana ps qs) ∙ length-append (outgoing kana ps) (outgoing kana qs)

      left : List ℕ
      left = room_left (went_out room (outgoing kana ps) rest)

      left_size : length left ≡ length room - 4 * length (outgoing kana ps)
      left_size = ap length (left_over room (outgoing kana ps) rest) ∙ length-drop (4 * length (outgoing kana ps)) room

      above_0 : ◌≢◌ {A = ℕ} 29 0
      above_0 e = omega (arith, e)

      by_then : 4 * length (outgoing kana ps) ≤ length room → Dec (length left < 4 * length (outgoing kana qs)) → Goal (went_out room (outgoing kana ps) rest)
      by_then fits (yes short) =
          let w = whole-answers.no_room (ps ++ qs) rest' all (omega (arith, size, left_size)) in
          rw ((then-answers left).no_room qs rest' after short, w) (refused_then s room 29 above_0 (state_of rest) left (outgoing kana ps) rest)
      by_then fits (no enough) =
          let w = whole-answers.is_goes_out (ps ++ qs) rest' all (omega (arith, size, left_size)) in
          rw ((then-answers left).is_goes_out qs rest' after (omega arith), w, out_joined kana ps qs) (none_refused s room (outgoing kana ps) rest (outgoing kana qs) rest')

      by_first : Dec (length room < 4 * length (outgoing kana ps)) → Goal first
      by_first (yes short) =
          let w = whole-answers.no_room (ps ++ qs) rest' all (omega (arith, size)) in
          rw (answers.no_room ps rest typed short, w) (refused_first s room 29 above_0 _)
      by_first (no enough) = rw (answers.is_goes_out ps rest typed (omega arith)) (by_then (omega arith) (dec_lt (length left) (4 * length (outgoing kana qs))))
