-- The state and the answer as a host program in C has them: a state reads back, after every answer without refusal it has its form
-- again, and typing in parts is typing at once. Only the statements; the proof is `host_forms` in Laws/HostForms.antt.
use Rattle.std.specs.Prelude.{ℕ, ◌+◌, ◌*◌, ◌%◌, ◌≤◌, ◌<◌, ◌^◌, ◌≡◌, List, [], ◌++◌, length, take, drop}
use Rattle.romaji_spec.specs.Pieces.{max_kept}
use Rattle.romaji_spec.specs.Typing.{state_of, TypingAnswer, type_of, finish_of}
use Rattle.romaji_spec.specs.HostStates.{state_bytes, kept_bytes, HostTyping, host_type_of, host_finish_of}
use Rattle.romaji_demands.specs.TypingDemand.{Bytes}

-- the bytes of a state that keeps these bytes
abbrev pub bytes_of : List ℕ → List ℕ
bytes_of r = state_bytes (state_of r)

-- what C gets: the number, the bytes of the state and the room afterwards
abbrev pub host_gets : ℕ → List ℕ → List ℕ → HostTyping
host_gets number bytes room = record { number = number; state = bytes; room = room }

-- h is the answer a, as C gets it, for lent state and room; `Rest` says which bytes the state may keep afterwards
pub record InForm (Rest : List ℕ → Type 0) (bytes room : List ℕ) (a : TypingAnswer) (h : HostTyping) : Type 0 where
  -- A number below 2^40 is no refusal: it counts the labels, modulo 2^32, and the state has its form.
  pub answers : h.number < 2 ^ 40
      → (a.answer.refusal ≡ 0) × ((rest : List ℕ) × Rest rest × (a.answer.state ≡ state_of rest) × (h ≡ host_gets (a.answer.count % 2 ^ 32) (bytes_of rest) a.room))
  -- Another number is a refusal, which leaves state and room as they are.
  pub refuses : 2 ^ 40 ≤ h.number → h ≡ host_gets (a.answer.refusal * 2 ^ 40) bytes room

-- `whole` is at once what h and then g are, each in the room that was left; bytes and room are those before
pub record HostAtOnce (bytes room : List ℕ) (h g whole : HostTyping) : Type 0 where
  pub both : h.number < 2 ^ 40 → g.number < 2 ^ 40 → whole ≡ host_gets (h.number + g.number) g.state (take (4 * h.number) h.room ++ g.room)
  pub first_refused : 2 ^ 40 ≤ h.number → whole ≡ h
  pub then_refused : h.number < 2 ^ 40 → 2 ^ 40 ≤ g.number → whole ≡ host_gets g.number bytes room

pub record HostForms : Type 0 where
  -- A state has one byte more than it may keep, and the bytes kept in it are those that it was made for.
  pub size : (r : List ℕ) → length r ≤ max_kept → length (bytes_of r) ≡ 1 + max_kept
  pub reads_back : (r : List ℕ) → length r ≤ max_kept → kept_bytes (bytes_of r) ≡ r
  -- For every lent state of that size C gets what the operations answer for the bytes kept in it.
  pub typed : (b kana bytes typed room : List ℕ) → length bytes ≡ 1 + max_kept → Bytes (kept_bytes bytes ++ typed)
      → InForm (λ rest. length rest ≤ max_kept) bytes room (type_of b kana (state_of (kept_bytes bytes)) typed room) (host_type_of b kana bytes typed room)
  pub finished : (b kana bytes room : List ℕ) → length bytes ≡ 1 + max_kept → Bytes (kept_bytes bytes)
      → InForm (λ rest. rest ≡ []) bytes room (finish_of b kana (state_of (kept_bytes bytes)) room) (host_finish_of b kana bytes room)
  -- Typing in parts is typing at once, in room for fewer than 2^32 labels.
  pub in_parts : (b kana r t u room : List ℕ) → length r ≤ max_kept → Bytes (r ++ (t ++ u)) → length room < 4 * 2 ^ 32
      → (let h = host_type_of b kana (bytes_of r) t room in HostAtOnce (bytes_of r) room h (host_type_of b kana h.state u (drop (4 * h.number) h.room)) (host_type_of b kana (bytes_of r) (t ++ u) room))
