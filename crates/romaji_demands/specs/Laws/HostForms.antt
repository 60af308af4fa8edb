-- The forms that a host program in C has. A state reads back by its count; an answer without refusal writes over all bytes of the lent
-- state; and two calls are one as for the operations, because in so little room the number of labels is not cut.
use Rattle.std.specs.Prelude.{ℕ, ◌+◌, ◌*◌, ◌-◌, ◌%◌, ◌≤◌, ◌<◌, ◌^◌, ◌≡◌, ◌≢◌, ◌⊎◌, List, [], ◌++◌, take, drop, replicate}
use Rattle.std.proofs.Common.{arith, ap₂, ◌∙◌, ⊎_elim, append-nil, append_assoc, length-append, length-drop, take_all}
use Rattle.std.proofs.Math.Path.{refl, sym, ap}
use Rattle.std.proofs.Math.ListN.{length}
use Rattle.std.proofs.lemmas.List.{length-replicate}
use Rattle.std.proofs.Math.Seq.{take-append_seam, take-length, drop-length}
use Rattle.lxtr_spec.specs.HostNumbers.{host_number, at_front}
use Rattle.lxtr_spec.specs.Refusals.{unless_refused}
use Rattle.lxtr_laws.specs.RefusalChains.{stands}
use Rattle.romaji_spec.specs.Pieces.{max_kept}
use Rattle.romaji_spec.specs.Typing.{state_of, TypingAnswer, refused_by, went_out, type_of, finish_of}
use Rattle.romaji_spec.specs.HostStates.{state_bytes, kept_bytes, HostTyping, host_typing, host_type_of, host_finish_of}
use Rattle.romaji_spec.specs.declared.State.{State}
use Rattle.romaji_demands.specs.TypingDemand.{defined, Bytes, text_of, room_left, together, AtOnce}
use Rattle.romaji_demands.specs.HostForms.{bytes_of, host_gets, InForm, HostAtOnce, HostForms}
use Rattle.romaji_demands.specs.Laws.FrontParts.{bytes_before, bytes_after}
use Rattle.romaji_demands.specs.Laws.Typing.{typing_demand}
use Rattle.romaji_demands.specs.Laws.Outcomes.{Refusal, GoneOut, FitsBehind, outcome, type_cut, finish_cut, type_demanded, finish_demanded}
use Rattle.romaji_demands.specs.Laws.TwoCalls.{left_over}
use Rattle.romaji_demands.specs.Laws.Parts.{kept_same, typing_in_parts}

module _ (r : List ℕ) (few : length r ≤ max_kept) where
  abbrev padded : List ℕ
  padded = r ++ replicate (max_kept - length r) 0

  padded_size : length padded ≡ max_kept
  padded_size = omega (arith, length-append r (replicate (max_kept - length r) 0), length-replicate {A = ℕ} (max_kept - length r) 0)

  size : length (bytes_of r) ≡ 1 + max_kept
  unfolding state_bytes state_of
  size = omega (arith, padded_size)

  reads_back : kept_bytes (bytes_of r) ≡ r
  unfolding kept_bytes state_bytes state_of
  reads_back = ap (take (length r)) (take_all max_kept padded (omega (arith, padded_size))) ∙ take-append_seam r (replicate (max_kept - length r) 0)

-- as long as the places, it is all that they hold
all_front : (xs places : List ℕ) → length xs ≡ length places → at_front xs places ≡ xs
unfolding at_front
all_front xs places e = ap₂ (λ (a l : List ℕ). a ++ l) (ap (λ (n : ℕ). take n xs) (sym e) ∙ take-length xs) (ap (λ (n : ℕ). drop n places) e ∙ drop-length places) ∙ append-nil xs

-- A refusal, and an answer without refusal that keeps `rest`, as C gets them.
host_refused : (bytes : List ℕ) (k : ℕ) → k ≢ 0 → (s : State) (room : List ℕ) → host_typing bytes (refused_by k s room) ≡ host_gets (k * 2 ^ 40) bytes room
unfolding host_typing refused_by host_number
host_refused bytes k n s room = λ i. record { number = (let e : k * 2 ^ 40 + 0 + 0 + 0 ≡ k * 2 ^ 40 = omega arith in e i); state = stands k (at_front (state_bytes s) bytes) bytes n i; room = room }

module _ (bytes : List ℕ) (sized : length bytes ≡ 1 + max_kept) where
  host_answered : (a : TypingAnswer) (rest : List ℕ) → length rest ≤ max_kept → a.answer.refusal ≡ 0 → a.answer.state ≡ state_of rest → host_typing bytes a ≡ host_gets (a.answer.count % 2 ^ 32) (bytes_of rest) a.room
  unfolding host_typing host_number unless_refused
  host_answered a rest few z e =
      let n = a.answer.count % 2 ^ 32 in
      let number : a.answer.refusal * 2 ^ 40 + 0 + 0 + n ≡ n = omega (arith, z) in
      let state : unless_refused a.answer.refusal (at_front (state_bytes a.answer.state) bytes) bytes ≡ bytes_of rest = rw (z, e) (all_front (bytes_of rest) bytes (size rest few ∙ sym sized)) in
      λ i. record { number = number i; state = state i; room = a.room }

  module _ {Rest : List ℕ → Type 0} (fits : (rest : List ℕ) → Rest rest → length rest ≤ max_kept) (s : State) (room : List ℕ) where
    form_refused : (k : ℕ) → k ≢ 0 → InForm Rest bytes room (refused_by k s room) (host_typing bytes (refused_by k s room))
    unfolding refused_by
    form_refused k n =
        let e = host_refused bytes k n s room in
        let large : (host_typing bytes (refused_by k s room)).number ≡ k * 2 ^ 40 = ap (λ (h : HostTyping). h.number) e in
        record { answers = λ l. absurd (omega arith); refuses = λ _. e }

    form_out : (out rest : List ℕ) → Rest rest → InForm Rest bytes room (went_out room out rest) (host_typing bytes (went_out room out rest))
    unfolding went_out
    form_out out rest holds =
        let e = host_answered (went_out room out rest) rest (fits rest holds) refl refl in
        let small : (host_typing bytes (went_out room out rest)).number ≡ length out % 2 ^ 32 = ap (λ (h : HostTyping). h.number) e in
        record { answers = λ l. (refl, (rest, holds, refl, e)); refuses = λ l. absurd (omega arith) }

    in_form : {Kept : List ℕ → Type 0} → ((rest : List ℕ) → Kept rest → Rest rest) → {a : TypingAnswer} → Refusal s room a ⊎ GoneOut Kept room a → InForm Rest bytes room a (host_typing bytes a)
    in_form weaker {a} = ⊎_elim (λ (k, n, e). rw e (form_refused k n)) (λ (out, rest, fit, holds, e). rw e (form_out out rest (weaker rest holds)))

-- two calls, by what the first and the second gave
module _ (bytes room : List ℕ) where
  first_refuses : (k : ℕ) → k ≢ 0 → (g : HostTyping) → HostAtOnce bytes room (host_gets (k * 2 ^ 40) bytes room) g (host_gets (k * 2 ^ 40) bytes room)
  first_refuses k n g = record { both = λ l _. absurd (omega arith); first_refused = λ _. refl; then_refused = λ l _. absurd (omega arith) }

  then_refuses : (n : ℕ) → n < 2 ^ 32 → (j : ℕ) → j ≢ 0 → (bytes' room' left : List ℕ) → HostAtOnce bytes room (host_gets n bytes' room') (host_gets (j * 2 ^ 40) bytes' left) (host_gets (j * 2 ^ 40) bytes room)
  then_refuses n small j above bytes' room' left = record { both = λ _ l. absurd (omega arith); first_refused = λ l. absurd (omega arith); then_refused = λ _ _. refl }

  both_answer : (n m : ℕ) → n < 2 ^ 32 → m < 2 ^ 32 → (bytes' bytes'' room' room'' : List ℕ)
      → HostAtOnce bytes room (host_gets n bytes' room') (host_gets m bytes'' room'') (host_gets (n + m) bytes'' (take (4 * n) room' ++ room''))
  both_answer n m small small' bytes' bytes'' room' room'' = record { both = λ _ _. refl; first_refused = λ l. absurd (omega arith); then_refused = λ _ l. absurd (omega arith) }

-- the outcome of typing for a state that keeps r
type_outcome : (b kana r typed room : List ℕ) → Bytes (r ++ typed) → Refusal (state_of r) room (type_of b kana (state_of r) typed room) ⊎ GoneOut (FitsBehind (r ++ typed)) room (type_of b kana (state_of r) typed room)
type_outcome b kana r typed room small = outcome (type_cut b kana (r ++ typed) small) (rw (kept_same r) at (type_demanded defined typing_demand b kana (state_of r) room typed (rw (kept_same r) small)))

finish_outcome : (b kana r room : List ℕ) → Bytes r → Refusal (state_of r) room (finish_of b kana (state_of r) room) ⊎ GoneOut (λ rest. rest ≡ []) room (finish_of b kana (state_of r) room)
finish_outcome b kana r room small =
    let same : text_of (state_of r) [] ≡ r = append-nil _ ∙ kept_same r in
    outcome (finish_cut b kana r small) (rw same at (finish_demanded defined typing_demand b kana (state_of r) room (rw same small)))

module _ (b kana r t u room : List ℕ) (few : length r ≤ max_kept) (small : Bytes (r ++ (t ++ u))) (below : length room < 4 * 2 ^ 32) where
  -- the second call, by what the first gave
  abbrev second : HostTyping → HostTyping
  second h = host_type_of b kana h.state u (drop (4 * h.number) h.room)

  abbrev all : TypingAnswer
  all = type_of b kana (state_of r) (t ++ u) room

  abbrev Goal : TypingAnswer → Type 0
  Goal a = let h = host_typing (bytes_of r) a in HostAtOnce (bytes_of r) room h (second h) (host_typing (bytes_of r) all)

  -- labels went out at the first call
  module _ (out rest : List ℕ) (fits : 4 * length out ≤ length room) (kept : length rest ≤ max_kept) (rest-bytes : Bytes (rest ++ u)) where
    abbrev first : TypingAnswer
    first = went_out room out rest

    abbrev then : TypingAnswer
    then = type_of b kana (state_of rest) u (room_left first)

    first_gets : host_typing (bytes_of r) first ≡ host_gets (length out) (bytes_of rest) first.room
    unfolding went_out
    first_gets = host_answered (bytes_of r) (size r few) first rest kept refl refl ∙ ap (λ (n : ℕ). host_gets n (bytes_of rest) first.room) (omega arith)

    second_is : second (host_gets (length out) (bytes_of rest) first.room) ≡ host_typing (bytes_of rest) then
    unfolding host_type_of went_out
    second_is = rw (reads_back rest kept)

    left_size : length (room_left first) ≡ length room - 4 * length out
    left_size = ap length (left_over room out rest) ∙ length-drop (4 * length out) room

    after_out : AtOnce (state_of r) room first then all → Goal first
    unfolding went_out refused_by
    after_out at_once = rw first_gets (rw second_is (⊎_elim by_refusal by_out (type_outcome b kana rest u (room_left first) rest-bytes)))
      where
        Then : Type 0
        Then = HostAtOnce (bytes_of r) room (host_gets (length out) (bytes_of rest) first.room) (host_typing (bytes_of rest) then) (host_typing (bytes_of r) all)

        by_refusal : Refusal (state_of rest) (room_left first) then → Then
        by_refusal (j, n, e) =
            let whole : all ≡ refused_by j (state_of r) room = (rw e at at_once).then_refused refl n in
            rw (e, whole, host_refused (bytes_of rest) j n (state_of rest) (room_left first), host_refused (bytes_of r) j n (state_of r) room) (then_refuses (bytes_of r) room (length out) (omega arith) j n (bytes_of rest) first.room (room_left first))

        by_out : GoneOut (FitsBehind (rest ++ u)) (room_left first) then → Then
        by_out (more, rest', fits', (kept', behind), e) =
            let c = went_out (room_left first) more rest' in
            let whole : all ≡ together first c = (rw e at at_once).both refl refl in
            let one : length more % 2 ^ 32 ≡ length more = omega (arith, left_size) in
            let sum : (length out + length more) % 2 ^ 32 ≡ length out + length more = omega (arith, left_size) in
            let gets = host_answered (bytes_of rest) (size rest kept) c rest' kept' refl refl ∙ ap (λ (n : ℕ). host_gets n (bytes_of rest') c.room) one in
            let all-gets = host_answered (bytes_of r) (size r few) (together first c) rest' kept' refl refl ∙ ap (λ (n : ℕ). host_gets n (bytes_of rest') (together first c).room) sum in
            rw (e, whole, gets, all-gets) (both_answer (bytes_of r) room (length out) (length more) (omega arith) (omega (arith, left_size)) (bytes_of rest) (bytes_of rest') first.room c.room)

  in_parts : (let h = host_type_of b kana (bytes_of r) t room in HostAtOnce (bytes_of r) room h (second h) (host_type_of b kana (bytes_of r) (t ++ u) room))
  unfolding host_type_of refused_by went_out
  in_parts = rw (reads_back r few) (⊎_elim by_refusal by_out (type_outcome b kana r t room before))
    where
      regroup : r ++ (t ++ u) ≡ (r ++ t) ++ u
      regroup = sym (append_assoc r t u)

      before : Bytes (r ++ t)
      before = bytes_before (r ++ t) u (rw regroup at small)

      made : TypingAnswer
      made = type_of b kana (state_of r) t room

      parts : AtOnce (state_of r) room made (type_of b kana made.answer.state u (room_left made)) all
      parts = typing_in_parts b kana (state_of r) t u room (rw (kept_same r) small)

      by_refusal : Refusal (state_of r) room made → Goal made
      by_refusal (k, n, e) =
          let whole : all ≡ refused_by k (state_of r) room = (rw e at parts).first_refused n in
          rw (e, whole, host_refused (bytes_of r) k n (state_of r) room) (first_refuses (bytes_of r) room k n _)

      by_out : GoneOut (FitsBehind (r ++ t)) room made → Goal made
      by_out (out, rest, fits, (kept, (front, split)), e) =
          let same : r ++ (t ++ u) ≡ front ++ (rest ++ u) = regroup ∙ ap (λ (l : List ℕ). l ++ u) split ∙ append_assoc front rest u in
          rw e (after_out out rest fits kept (bytes_after front (rest ++ u) (rw same at small)) (rw e at parts))

pub host_forms : HostForms
unfolding host_type_of host_finish_of
host_forms = record {
  size = size;
  reads_back = reads_back;
  typed = λ b kana bytes typed room sized small. in_form bytes sized (λ rest l. l) (state_of (kept_bytes bytes)) room (λ rest kept. kept.0) (type_outcome b kana (kept_bytes bytes) typed room small);
  finished = λ b kana bytes room sized small. in_form bytes sized (λ rest e. omega (arith, ap length e)) (state_of (kept_bytes bytes)) room (λ rest e. e) (finish_outcome b kana (kept_bytes bytes) room small);
  in_parts = in_parts;
}
