-- Typing in any number of parts is typing at once, and finishing after them is finishing the whole text, for every program that meets
-- the demand. By induction over the parts: the first one and the text of all others are two parts.
use Rattle.std.specs.Prelude.{ℕ, ◌≡◌}
use Rattle.std.proofs.Math.Decide.{ℕ_discrete}
use Rattle.std.proofs.Math.Path.{refl, sym}
use Rattle.std.proofs.Common.{ap, ◌∙◌}
use Rattle.std.proofs.Math.Logic.{⊎_elim}
use mathlib.Core.List.{List, [], ◌∷◌, ◌++◌, append_assoc}
use Rattle.lxtr_spec.specs.Refusals.{unless_refused}
use Rattle.lxtr_laws.specs.RefusalChains.{stands}
use Rattle.romaji_spec.specs.Typing.{kept_in, state_of, TypingAnswer, refused_by, went_out}
use Rattle.romaji_spec.specs.declared.State.{State}
use Rattle.romaji_demands.specs.TypingDemand.{Program, defined, Bytes, text_of, TypingDemand, room_left, together, AtOnce, all_of, as_one, parts_typed, TypingInManyParts, FinishingAfterParts}
use Rattle.romaji_demands.specs.Laws.FrontParts.{bytes_before, bytes_after}
use Rattle.romaji_demands.specs.Laws.Typing.{typing_demand}
use Rattle.romaji_demands.specs.Laws.Outcomes.{Refusal, GoneOut, FitsBehind, outcome, type_cut, type_demanded}
use Rattle.romaji_demands.specs.Laws.Parts.{kept_same, parts_at_once, finish_at_once}

passes : (n : ℕ) (answer other : TypingAnswer) → n ≡ 0 → unless_refused n answer other ≡ answer
unfolding unless_refused
passes n answer other z = rw z

-- what is at once two answers is the two as one
at_once_is : (s : State) (room : List ℕ) (a c whole : TypingAnswer) → AtOnce s room a c whole → as_one s room a c ≡ whole
unfolding as_one
at_once_is s room a c whole is = by_first (ℕ_discrete a.answer.refusal 0)
  where
    then : TypingAnswer
    then = unless_refused c.answer.refusal (together a c) (refused_by c.answer.refusal s room)

    first_passes : a.answer.refusal ≡ 0 → unless_refused a.answer.refusal then (refused_by a.answer.refusal s room) ≡ then
    first_passes z = passes a.answer.refusal then (refused_by a.answer.refusal s room) z

    by_then : a.answer.refusal ≡ 0 → Dec (c.answer.refusal ≡ 0) → as_one s room a c ≡ whole
    by_then z (yes y) = first_passes z ∙ passes c.answer.refusal (together a c) (refused_by c.answer.refusal s room) y ∙ sym (is.both z y)
    by_then z (no n) = first_passes z ∙ stands c.answer.refusal (together a c) (refused_by c.answer.refusal s room) n ∙ sym (is.then_refused z n)

    by_first : Dec (a.answer.refusal ≡ 0) → as_one s room a c ≡ whole
    by_first (yes z) = by_then z (ℕ_discrete c.answer.refusal 0)
    by_first (no n) = stands a.answer.refusal then (refused_by a.answer.refusal s room) n ∙ sym (is.first_refused n)

module _ (o : Program) (meets : TypingDemand o) where
  -- a part t, and then others whose text is u, of which the law holds
  module _ (b kana u : List ℕ) (others : State → List ℕ → TypingAnswer) (law : (s : State) (room : List ℕ) → Bytes (text_of s u) → others s room ≡ o.type b kana s u room) (s : State) (t room : List ℕ)
      (small : Bytes (text_of s (t ++ u))) where
    next_part : (let a = o.type b kana s t room in as_one s room a (others a.answer.state (room_left a))) ≡ o.type b kana s (t ++ u) room
    unfolding refused_by went_out
    next_part = ⊎_elim by_refusal by_out (outcome (type_cut b kana (text_of s t) before) (type_demanded o meets b kana s room t before))
      where
        regroup : text_of s (t ++ u) ≡ text_of s t ++ u
        regroup = sym (append_assoc (kept_in s) t u)

        before : Bytes (text_of s t)
        before = bytes_before (text_of s t) u (rw regroup at small)

        made : TypingAnswer
        made = o.type b kana s t room

        all : TypingAnswer
        all = o.type b kana s (t ++ u) room

        parts : AtOnce s room made (o.type b kana made.answer.state u (room_left made)) all
        parts = parts_at_once o meets b kana s t u room small

        later : TypingAnswer
        later = others made.answer.state (room_left made)

        by_refusal : Refusal s room made → as_one s room made later ≡ all
        by_refusal (k, n, e) =
            let refuses : made.answer.refusal ≡ 0 → ⊥ = λ z. n (sym (ap (λ (x : TypingAnswer). x.answer.refusal) e) ∙ z) in
            at_once_is s room made later all (record { both = λ z _. absurd (refuses z); first_refused = parts.first_refused; then_refused = λ z _. absurd (refuses z) })

        by_out : GoneOut (FitsBehind (text_of s t)) room made → as_one s room made later ≡ all
        by_out (out, rest, fits, (kept, (front, split)), e) =
            let same : text_of s (t ++ u) ≡ front ++ (rest ++ u) = regroup ∙ ap (λ (l : List ℕ). l ++ u) split ∙ append_assoc front rest u in
            let state : made.answer.state ≡ state_of rest = ap (λ (x : TypingAnswer). x.answer.state) e in
            let behind : Bytes (text_of made.answer.state u) = rw (state, kept_same rest) (bytes_after front (rest ++ u) (rw same at small)) in
            rw (law made.answer.state (room_left made) behind) (at_once_is s room made (o.type b kana made.answer.state u (room_left made)) all parts)

  many_parts : TypingInManyParts o
  unfolding parts_typed all_of
  many_parts b kana [] s room small = refl
  many_parts b kana (t ∷ ts) s room small = next_part b kana (all_of ts) (λ s' left. parts_typed o b kana s' ts left) (λ s' left is. many_parts b kana ts s' left is) s t room small

  finish_parts : FinishingAfterParts o
  finish_parts b kana d ready s ts room small whole answers = rw (many_parts b kana ts s room small) (finish_at_once o meets b kana d ready s (all_of ts) room small whole answers)

pub typing_in_many_parts : TypingInManyParts defined
typing_in_many_parts = many_parts defined typing_demand

pub finishing_after_parts : FinishingAfterParts defined
finishing_after_parts = finish_parts defined typing_demand
