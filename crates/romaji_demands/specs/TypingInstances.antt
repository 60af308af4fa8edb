-- What the demand rules out, for every possible program. Here o is any program that meets the demand, whatever else it does: for every
-- image, table, state, text of bytes and room it answers what the definitions answer. So the programs named below fail.
use Rattle.std.specs.Prelude.{ℕ, zero, suc, ◌*◌, ◌<◌, ◌^◌, ◌≡◌, refl, ◌≢◌, ◌⊎◌, List, [], ◌∷◌, ◌++◌, length, drop, get_or, replicate}
use Rattle.std.proofs.Common.{arith, ap, ◌∙◌, ⊎_elim}
use Rattle.lxtr_spec.specs.Numbers.{be_words}
use Rattle.lxtr_spec.specs.Samples.{p3}
use Rattle.romaji_spec.specs.Typing.{kept_in, state_of, TypingAnswer, refused_by, went_out, type_of, finish_of}
use Rattle.romaji_spec.specs.declared.State.{State}
use Rattle.romaji_demands.specs.TypingDemand.{Program, defined, Bytes, text_of, TypingDemand}
use Rattle.romaji_demands.specs.Laws.Typing.{typing_demand}
use Rattle.romaji_demands.specs.Laws.Outcomes.{Refusal, GoneOut, outcome, one_answer, type_cut, finish_cut, type_demanded, finish_demanded}
use Rattle.romaji_demands.specs.Laws.Parts.{kept_same}
use Rattle.romaji_demands.specs.TypingRows.{romaji_computing}
use Rattle.romaji_demands.specs.TypingExamples.{kana3}

-- state and room as before the call
abbrev pub Unchanged : State → List ℕ → TypingAnswer → Type 0
Unchanged s room a = (a.answer.state ≡ s) × (a.room ≡ room)

-- a refused answer is that of a refusal
refused_unchanged : {Rest : List ℕ → Type 0} {s : State} {room : List ℕ} {a : TypingAnswer} → Refusal s room a ⊎ GoneOut Rest room a → a.answer.refusal ≢ 0 → Unchanged s room a
unfolding refused_by went_out
refused_unchanged {Rest} {s} {room} {a} is refuses = ⊎_elim
    (λ (k, n, e). (ap (λ (x : TypingAnswer). x.answer.state) e, ap (λ (x : TypingAnswer). x.room) e))
    (λ (out, rest, fits, holds, e). absurd (refuses (ap (λ (x : TypingAnswer). x.answer.refusal) e)))
    is

-- ---- texts over P3: `n`, `na`, and `a` alone

bytes_cons : (x : ℕ) (t : List ℕ) → x < 2 ^ 8 → Bytes t → Bytes (x ∷ t)
bytes_cons x t h small zero l = h
bytes_cons x t h small (suc i) l = small i (omega arith)

no_bytes : Bytes []
no_bytes i h = absurd (omega arith)

n_bytes : Bytes (0x6E ∷ [])
n_bytes = bytes_cons 0x6E [] (omega arith) no_bytes

a_bytes : Bytes (0x61 ∷ [])
a_bytes = bytes_cons 0x61 [] (omega arith) no_bytes

na_bytes : Bytes (0x6E ∷ 0x61 ∷ [])
na_bytes = bytes_cons 0x6E (0x61 ∷ []) (omega arith) a_bytes

-- eight bytes of room
abbrev blank : List ℕ
blank = replicate 8 0

-- typing into it
abbrev typed3 : List ℕ → List ℕ → TypingAnswer
typed3 kept typed = type_of p3 kana3 (state_of kept) typed blank

n_waits : ((typed3 [] (0x6E ∷ [])).answer.refusal ≡ 0) × (length (kept_in (typed3 [] (0x6E ∷ [])).answer.state) ≡ 1)
unfolding romaji_computing kana3
n_waits = (refl, refl)

-- byte 2 of what goes out: 30 for n and na, 0 for a byte that passes
na_written : ((typed3 [] (0x6E ∷ 0x61 ∷ [])).answer.refusal ≡ 0) × (get_or (typed3 [] (0x6E ∷ 0x61 ∷ [])).room 2 0 ≡ 0x30)
unfolding romaji_computing kana3
na_written = (refl, refl)

abbrev passed : State → List ℕ → List ℕ → List ℕ
passed s typed room = be_words (text_of s typed) ++ drop (4 * length (text_of s typed)) room

na_passed : get_or (passed (state_of []) (0x6E ∷ 0x61 ∷ []) blank) 2 0 ≡ 0
unfolding romaji_computing
na_passed = refl

a_after_n : (get_or (typed3 (0x6E ∷ []) (0x61 ∷ [])).room 2 0 ≡ 0x30) × (get_or (typed3 [] (0x61 ∷ [])).room 2 0 ≡ 0)
unfolding romaji_computing kana3
a_after_n = (refl, refl)

n_finished : get_or (finish_of p3 kana3 (state_of (0x6E ∷ [])) blank).room 2 0 ≡ 0x30
unfolding romaji_computing kana3
n_finished = refl

-- ---- programs

module _ (o : Program) (meets : TypingDemand o) where
  -- No other answer, state or room meets the demand, and a refused call that changes the state or the room fails.
  module _ (b kana : List ℕ) (s : State) (typed room : List ℕ) (small : Bytes (text_of s typed)) where
    pub only_type : o.type b kana s typed room ≡ type_of b kana s typed room
    only_type = one_answer (type_cut b kana (text_of s typed) small) (type_demanded o meets b kana s room typed small) (type_demanded defined typing_demand b kana s room typed small)

    pub changing_type_fails : (o.type b kana s typed room).answer.refusal ≢ 0 → (Unchanged s room (o.type b kana s typed room) → ⊥) → ⊥
    changing_type_fails refuses changes = changes (refused_unchanged (outcome (type_cut b kana (text_of s typed) small) (type_demanded o meets b kana s room typed small)) refuses)

  module _ (b kana : List ℕ) (s : State) (room : List ℕ) (small : Bytes (text_of s [])) where
    pub only_finish : o.finish b kana s room ≡ finish_of b kana s room
    only_finish = one_answer (finish_cut b kana (text_of s []) small) (finish_demanded o meets b kana s room small) (finish_demanded defined typing_demand b kana s room small)

    pub changing_finish_fails : (o.finish b kana s room).answer.refusal ≢ 0 → (Unchanged s room (o.finish b kana s room) → ⊥) → ⊥
    changing_finish_fails refuses changes = changes (refused_unchanged (outcome (finish_cut b kana (text_of s []) small) (finish_demanded o meets b kana s room small)) refuses)

  -- what it answers over P3
  over_3 : (kept typed : List ℕ) → Bytes (kept ++ typed) → o.type p3 kana3 (state_of kept) typed blank ≡ typed3 kept typed
  over_3 kept typed small = only_type p3 kana3 (state_of kept) typed blank (rw (kept_same kept) small)

  not_refused : (kept typed : List ℕ) → Bytes (kept ++ typed) → (typed3 kept typed).answer.refusal ≡ 0 → (o.type p3 kana3 (state_of kept) typed blank).answer.refusal ≡ 0
  not_refused kept typed small e = ap (λ (a : TypingAnswer). a.answer.refusal) (over_3 kept typed small) ∙ e

  room_byte : (kept typed : List ℕ) → Bytes (kept ++ typed) → get_or (o.type p3 kana3 (state_of kept) typed blank).room 2 0 ≡ get_or (typed3 kept typed).room 2 0
  room_byte kept typed small = ap (λ (a : TypingAnswer). get_or a.room 2 0) (over_3 kept typed small)

  -- A program that keeps nothing back fails, on `n`.
  pub keeping_nothing_fails : ((b kana : List ℕ) (s : State) (typed room : List ℕ) → (o.type b kana s typed room).answer.refusal ≡ 0 → kept_in (o.type b kana s typed room).answer.state ≡ []) → ⊥
  keeping_nothing_fails nothing =
      let kept = nothing p3 kana3 (state_of []) (0x6E ∷ []) blank (not_refused [] (0x6E ∷ []) n_bytes n_waits.0) in
      omega (arith, n_waits.1, ap length kept, ap (λ (a : TypingAnswer). length (kept_in a.answer.state)) (over_3 [] (0x6E ∷ []) n_bytes))

  -- One that never writes fails, on `na`, and in finishing, on `n`.
  pub never_writing_fails : ((b kana : List ℕ) (s : State) (typed room : List ℕ) → (o.type b kana s typed room).room ≡ room) → ⊥
  never_writing_fails idle =
      omega (arith, na_written.1, ap (λ (l : List ℕ). get_or l 2 0) (idle p3 kana3 (state_of []) (0x6E ∷ 0x61 ∷ []) blank), room_byte [] (0x6E ∷ 0x61 ∷ []) na_bytes)

  pub never_finishing_fails : ((b kana : List ℕ) (s : State) (room : List ℕ) → (o.finish b kana s room).room ≡ room) → ⊥
  never_finishing_fails idle =
      let same = only_finish p3 kana3 (state_of (0x6E ∷ [])) blank (rw (kept_same (0x6E ∷ [])) n_bytes) in
      omega (arith, n_finished, ap (λ (l : List ℕ). get_or l 2 0) (idle p3 kana3 (state_of (0x6E ∷ [])) blank), ap (λ (a : TypingAnswer). get_or a.room 2 0) same)

  -- One that passes every byte fails, on `na`.
  pub passing_all_fails : ((b kana : List ℕ) (s : State) (typed room : List ℕ) → (o.type b kana s typed room).answer.refusal ≡ 0 → (o.type b kana s typed room).room ≡ passed s typed room) → ⊥
  passing_all_fails passes =
      let all = passes p3 kana3 (state_of []) (0x6E ∷ 0x61 ∷ []) blank (not_refused [] (0x6E ∷ 0x61 ∷ []) na_bytes na_written.0) in
      omega (arith, na_written.1, na_passed, ap (λ (l : List ℕ). get_or l 2 0) all, room_byte [] (0x6E ∷ 0x61 ∷ []) na_bytes)

  -- One for which the kept rest makes no difference fails, on `a`, after `n` and alone.
  pub forgetting_fails : ((b kana : List ℕ) (s s' : State) (typed room : List ℕ) → (o.type b kana s typed room).room ≡ (o.type b kana s' typed room).room) → ⊥
  forgetting_fails same =
      omega (arith, a_after_n.0, a_after_n.1, room_byte (0x6E ∷ []) (0x61 ∷ []) na_bytes, room_byte [] (0x61 ∷ []) a_bytes, ap (λ (l : List ℕ). get_or l 2 0) (same p3 kana3 (state_of (0x6E ∷ [])) (state_of []) (0x61 ∷ []) blank))
