-- The state and the answer as a host program in C has them: the state as bytes, the answer as one 64-bit number.
use Rattle.std.specs.Prelude.{ℕ, ◌%◌, ◌^◌, List, ◌∷◌, false, take, drop}
use Rattle.lxtr_spec.specs.Numbers.{byte_at}
use Rattle.lxtr_spec.specs.Refusals.{unless_refused}
use Rattle.lxtr_spec.specs.HostNumbers.{host_number, at_front}
use Rattle.romaji_spec.specs.Pieces.{max_kept}
use Rattle.romaji_spec.specs.Typing.{TypingAnswer, state_of, type_of, finish_of}
use Rattle.romaji_spec.specs.declared.State.{State}

-- LXTR_ROMAJI_STATE_BYTES: the number of kept bytes, the kept bytes, zeros
unfoldable pub state_bytes : State → List ℕ
state_bytes s = s.count ∷ s.kept

-- The bytes kept in a state of that form. (Other bytes come from no call, and document 02 leaves their answer free; here as many bytes
-- are kept as the first one says and as there are, up to the limit.)
unfoldable pub kept_bytes : List ℕ → List ℕ
kept_bytes bytes = take (byte_at bytes 0) (take max_kept (drop 1 bytes))

-- After an answer without refusal the state is in that form again. (A lent state of another length holds as much of it as fits.)
pub record HostTyping : Type 0 where
  pub number : ℕ
  pub state : List ℕ
  pub room : List ℕ

-- how many labels went out, modulo 2^32
unfoldable pub host_typing : List ℕ → TypingAnswer → HostTyping
host_typing bytes a =
    record {
      number = host_number a.answer.refusal false false (a.answer.count % 2 ^ 32);
      state = unless_refused a.answer.refusal (at_front (state_bytes a.answer.state) bytes) bytes;
      room = a.room;
    }

unfoldable pub host_type_of : List ℕ → List ℕ → List ℕ → List ℕ → List ℕ → HostTyping
host_type_of b kana bytes typed room = host_typing bytes (type_of b kana (state_of (kept_bytes bytes)) typed room)

unfoldable pub host_finish_of : List ℕ → List ℕ → List ℕ → List ℕ → HostTyping
host_finish_of b kana bytes room = host_typing bytes (finish_of b kana (state_of (kept_bytes bytes)) room)
