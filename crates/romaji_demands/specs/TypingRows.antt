-- Rows of a table of examples for romaji typing: what is run on the definitions, and what it has to give.
use Rattle.std.specs.Prelude.{ℕ, ◌*◌, ◌-◌, ◌^◌, ◌≡◌, List, [], ◌++◌, length, replicate}
use Rattle.lxtr_spec.specs.Numbers.{be_words}
use Rattle.lxtr_laws.specs.ExampleTables as tables
pub use Rattle.lxtr_laws.specs.ExampleTables.{◌and◌}
use Rattle.lxtr_demands.specs.Rows.{computing}
use Rattle.romaji_spec.specs.KanaTables.{text_end, text_at, text_bytes, kana_of, text_cut, table_short}
use Rattle.romaji_spec.specs.Pieces.{max_kept, could_grow, matched, matched_value, piece_by, piece_at, piece_text, piece_out, outgoing, only_rest, with_piece, kept_or, cut_after, cut}
use Rattle.romaji_spec.specs.Typing.{kept_in, state_of, is_value, has_empty_key, table_refusal, room_refusal, TypingAnswer, refused_by, went_out, answered, convert, type_of, finish_of}
use Rattle.romaji_spec.specs.HostStates.{state_bytes, kept_bytes, HostTyping, host_typing, host_type_of, host_finish_of}
use Rattle.romaji_spec.specs.declared.State.{State}
use Rattle.romaji_demands.specs.HostForms.{bytes_of}

-- What is run, and what it gives. A state is given by the bytes that it keeps, room by its number of bytes, what goes out by its labels.
pub data Example : Type 0 where
  -- image, table, bytes kept, bytes typed, room; what goes out, bytes kept afterwards
  types : List ℕ → List ℕ → List ℕ → List ℕ → ℕ → List ℕ → List ℕ → Example
  -- image, table, bytes kept, room; what goes out
  finishes : List ℕ → List ℕ → List ℕ → ℕ → List ℕ → Example
  -- image, table, bytes kept, bytes typed, room; the refusal
  type_refused : List ℕ → List ℕ → List ℕ → List ℕ → ℕ → ℕ → Example
  -- image, table, bytes kept, room; the refusal
  finish_refused : List ℕ → List ℕ → List ℕ → ℕ → ℕ → Example
  -- the same for any state, and what goes out
  state_finishes : List ℕ → List ℕ → State → ℕ → List ℕ → Example
  -- for a host program in C: image, table, bytes of the state, bytes typed, room; number, bytes of the state and room afterwards
  host_types : List ℕ → List ℕ → List ℕ → List ℕ → ℕ → ℕ → List ℕ → List ℕ → Example
  -- the same for finishing
  host_finishes : List ℕ → List ℕ → List ℕ → ℕ → ℕ → List ℕ → List ℕ → Example

-- n bytes of a value that shows where nothing was written
abbrev unwritten : ℕ → List ℕ
unwritten n = replicate n 0xFF

-- room of n bytes after these labels went out
abbrev after : List ℕ → ℕ → List ℕ
after out n = be_words out ++ unwritten (n - 4 * length out)

-- an answer without refusal, and one with
abbrev goes_out : List ℕ → ℕ → List ℕ → TypingAnswer
goes_out kept n out = record { answer = record { refusal = 0; count = length out; state = state_of kept }; room = after out n }

abbrev host_goes_out : List ℕ → ℕ → List ℕ → HostTyping
host_goes_out kept n out = record { number = length out; state = bytes_of kept; room = after out n }

abbrev refuses : List ℕ → ℕ → ℕ → TypingAnswer
refuses kept n k = record { answer = record { refusal = k; count = 0; state = state_of kept }; room = unwritten n }

abbrev host_refuses : List ℕ → ℕ → ℕ → HostTyping
host_refuses kept n k = record { number = k * 2 ^ 40; state = bytes_of kept; room = unwritten n }

-- what an example says about the answer, the number for the host program, the state and the room
abbrev pub Holds : Example → Type 0
Holds (types b kana kept typed n out rest) =
    (type_of b kana (state_of kept) typed (unwritten n) ≡ goes_out rest n out) × (host_type_of b kana (bytes_of kept) typed (unwritten n) ≡ host_goes_out rest n out)
Holds (finishes b kana kept n out) =
    (finish_of b kana (state_of kept) (unwritten n) ≡ goes_out [] n out) × (host_finish_of b kana (bytes_of kept) (unwritten n) ≡ host_goes_out [] n out)
Holds (type_refused b kana kept typed n k) =
    (type_of b kana (state_of kept) typed (unwritten n) ≡ refuses kept n k) × (host_type_of b kana (bytes_of kept) typed (unwritten n) ≡ host_refuses kept n k)
Holds (finish_refused b kana kept n k) =
    (finish_of b kana (state_of kept) (unwritten n) ≡ refuses kept n k) × (host_finish_of b kana (bytes_of kept) (unwritten n) ≡ host_refuses kept n k)
Holds (state_finishes b kana s n out) = finish_of b kana s (unwritten n) ≡ goes_out [] n out
Holds (host_types b kana bytes typed n number bytes' room) = host_type_of b kana bytes typed (unwritten n) ≡ record { number = number; state = bytes'; room = room }
Holds (host_finishes b kana bytes n number bytes' room) = host_finish_of b kana bytes (unwritten n) ≡ record { number = number; state = bytes'; room = room }

-- every row of a table holds
abbrev pub AllHold : List Example → Type 0
AllHold es = tables.AllHold Holds es

-- every definition that a row runs, those of the library too
unfoldable pub romaji_computing : Unit {0}
unfolding computing text_end text_at text_bytes kana_of text_cut table_short max_kept could_grow matched matched_value piece_by piece_at piece_text piece_out outgoing only_rest with_piece kept_or cut_after cut kept_in state_of is_value has_empty_key table_refusal room_refusal refused_by went_out answered convert type_of finish_of state_bytes kept_bytes host_typing host_type_of host_finish_of
romaji_computing = tt
