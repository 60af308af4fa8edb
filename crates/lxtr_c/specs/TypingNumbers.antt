-- The number and the state that the C functions for romaji typing give are those of the operation's answer.
use Rattle.std.specs.Prelude.{ℕ, ◌%◌, ◌^◌, ◌≡◌, ◌≢◌, List, false}
use Rattle.std.proofs.Common.{arith}
use Rattle.lxtr_spec.specs.Refusals.{unless_refused}
use Rattle.lxtr_spec.specs.HostNumbers.{host_number, at_front}
use Rattle.lxtr_laws.specs.Failures.{number_not_0}
use Rattle.romaji_spec.specs.Typing.{TypingAnswer, state_of, type_of, finish_of, typing_number}
use Rattle.romaji_spec.specs.declared.TypingRefusal.{TypingRefusal}
use Rattle.romaji_spec.specs.declared.TypingRefusal.TheVariants.{Image, TableTooShort, EmptyKey, NoRoom}
use Rattle.romaji_spec.specs.HostStates.{state_bytes, kept_bytes, HostTyping, host_typing, host_type_of, host_finish_of}
use Rattle.romaji_spec.specs.declared.State.{State}
use Rattle.romaji_spec.specs.Typing.{Typed}

pub typing_number_not_0 : (e : TypingRefusal) → typing_number e ≢ 0
typing_number_not_0 (Image refusal) = number_not_0 refusal
typing_number_not_0 TableTooShort = λ h. omega arith
typing_number_not_0 EmptyKey = λ h. omega arith
typing_number_not_0 NoRoom = λ h. omega arith

-- a is the answer, s the state as it was read
module _ (b kana bytes room room' bytes' : List ℕ) (a : Typed) (n : ℕ) (s : State) (read : s ≡ state_of (kept_bytes bytes))
    (number : n ≡ host_number a.refusal false false (a.count % 2 ^ 32)) (next : bytes' ≡ unless_refused a.refusal (at_front (state_bytes a.state) bytes) bytes) where
  host_answer : (t : TypingAnswer) → ◌≡◌ {A = TypingAnswer} (record { answer = a; room = room' }) t → ◌≡◌ {A = HostTyping} (record { number = n; state = bytes'; room = room' }) (host_typing bytes t)
  unfolding host_typing
  host_answer t e = rw (← e, number, next)

  pub type_number : (typed : List ℕ) → ◌≡◌ {A = TypingAnswer} (record { answer = a; room = room' }) (type_of b kana s typed room)
      → ◌≡◌ {A = HostTyping} (record { number = n; state = bytes'; room = room' }) (host_type_of b kana bytes typed room)
  unfolding host_type_of
  type_number typed e = rw (← read) (host_answer (type_of b kana s typed room) e)

  pub finish_number : ◌≡◌ {A = TypingAnswer} (record { answer = a; room = room' }) (finish_of b kana s room)
      → ◌≡◌ {A = HostTyping} (record { number = n; state = bytes'; room = room' }) (host_finish_of b kana bytes room)
  unfolding host_finish_of
  finish_number e = rw (← read) (host_answer (finish_of b kana s room) e)
