-- Typing in parts is typing at once, and finishing after typing is finishing the whole text, for every program that meets the demand.
-- The rest that was kept back reads as typed just before, so the two calls' cuttings make one.
use Rattle.std.specs.Prelude.{ℕ, ◌-◌, ◌≡◌, List, [], ◌++◌, length, replicate}
use Rattle.std.proofs.Common.{sym, ap, ◌∙◌, ⊎_elim, append_assoc, append-nil}
use Rattle.std.proofs.Math.Seq.{take-append_seam}
use Rattle.lxtr_spec.specs.Sets.{PairSet}
use Rattle.lxtr_spec.specs.Meaning.{Longer}
use Rattle.romaji_spec.specs.Pieces.{max_kept, Piece}
use Rattle.romaji_spec.specs.Typing.{kept_in, state_of, TypingAnswer}
use Rattle.romaji_spec.specs.declared.State.{State}
use Rattle.romaji_demands.specs.Cuts.{joined, CutInto, Never}
use Rattle.romaji_demands.specs.TypingDemand.{Program, defined, Ready, Bytes, Answers, text_of, TypingDemand, room_left, AtOnce, TypingInParts, FinishingAfterTyping}
use Rattle.romaji_demands.specs.Laws.FrontParts.{bytes_before, bytes_after}
use Rattle.romaji_demands.specs.Laws.Pieces.{longer_front}
use Rattle.romaji_demands.specs.Laws.Cuts.{cut_then}
use Rattle.romaji_demands.specs.Laws.TableRefusals.{refusal_above_0}
use Rattle.romaji_demands.specs.Laws.Typing.{typing_demand}
use Rattle.romaji_demands.specs.Laws.TwoCalls.{refused_first, at_once}

-- a state keeps the bytes that it was made for
pub kept_same : (rest : List ℕ) → kept_in (state_of rest) ≡ rest
unfolding kept_in state_of
kept_same rest = take-append_seam rest (replicate (max_kept - length rest) 0)

module _ (o : Program) (meets : TypingDemand o) where
  module _ (b kana : List ℕ) (d : PairSet) (ready : Ready b kana d) (s : State) (t u room : List ℕ) (small : Bytes (text_of s t ++ u)) where
    abbrev first : TypingAnswer
    first = o.type b kana s t room

    -- typing t, and then a call for which `Waits` texts are kept back
    module _ (Waits : List ℕ → Type 0) (begins : (r u : List ℕ) → Waits (r ++ u) → Longer d r) (some_cut : (r : List ℕ) → Bytes r → (qs : List Piece) × (rest : List ℕ) × CutInto d Waits r qs rest)
        (then : State → List ℕ → TypingAnswer) (then-answers : (s' : State) (left : List ℕ) → Bytes (text_of s' u) → Answers d Waits kana s' (text_of s' u) left (then s' left))
        (whole : TypingAnswer) (whole-answers : Answers d Waits kana s (text_of s t ++ u) room whole) where
      then_call : AtOnce s room first (then first.answer.state (room_left first)) whole
      then_call =
          let typed-bytes = bytes_before (text_of s t) u small in
          let (ps, rest, typed) = (meets.some_cut b kana d ready (text_of s t) typed-bytes).0 in
          let same : text_of s t ++ u ≡ joined ps ++ (rest ++ u) = ap (λ (l : List ℕ). l ++ u) typed.parts ∙ append_assoc (joined ps) rest u in
          let rest-bytes : Bytes (rest ++ u) = bytes_after (joined ps) (rest ++ u) (rw same at small) in
          let (qs, rest', after) = some_cut (rest ++ u) rest-bytes in
          let all = cut_then d Waits begins rest u qs rest' after (text_of s t) ps typed in
          at_once kana s room (text_of s t) rest u rest' ps qs typed after all first whole then (meets.typed b kana d ready s t room typed-bytes)
          (λ left. rw (kept_same rest) at (then-answers (state_of rest) left (rw (kept_same rest) rest-bytes))) whole-answers

  pub parts_at_once : TypingInParts o
  parts_at_once b kana s t u room small = ⊎_elim
      (λ (k, r). rw ((meets.refused b kana k r s t room).0, (meets.refused b kana k r s (t ++ u) room).0) (refused_first s room k (refusal_above_0 b kana k r) _))
      (λ (d, ready).
      let regroup = sym (append_assoc (kept_in s) t u) in
      let small' : Bytes (text_of s t ++ u) = rw regroup at small in
      then_call b kana d ready s t u room small' (Longer d) (longer_front d) (λ r is. (meets.some_cut b kana d ready r is).0) (λ s' left. o.type b kana s' u left)
      (λ s' left is. meets.typed b kana d ready s' u left is) (o.type b kana s (t ++ u) room) (rw regroup at (meets.typed b kana d ready s (t ++ u) room small)))
      (meets.decided b kana)

  pub finish_at_once : FinishingAfterTyping o
  finish_at_once b kana d ready s t room small whole answers =
      let all = sym (append-nil (text_of s t)) in
      then_call b kana d ready s t [] room (rw all at small) Never (λ r u w. absurd w) (λ r is. let (ps, c) = (meets.some_cut b kana d ready r is).1 in (ps, [], c)) (λ s' left. o.finish b kana s' left)
      (λ s' left is. meets.finished b kana d ready s' left is) whole (rw all at answers)

pub typing_in_parts : TypingInParts defined
typing_in_parts = parts_at_once defined typing_demand

pub finishing_after_typing : FinishingAfterTyping defined
finishing_after_typing = finish_at_once defined typing_demand
