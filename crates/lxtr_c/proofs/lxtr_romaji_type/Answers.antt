-- The state is read, the text is typed, and the next state is put back.
use Rattle.lxtr_c.specs.TypingNumbers.{type_number}
use Rattle.lxtr_c.proofs.lxtr_romaji_type.Goals as goal

pub returns : goal.returns
returns c = type_number _ _ _ _ _ _ _ _ _ c.read_state-held.ensures c.typing_answered.ensures.value c.typing_answered.ensures.bytes_after _ c.type_bytes-answer.ensures
