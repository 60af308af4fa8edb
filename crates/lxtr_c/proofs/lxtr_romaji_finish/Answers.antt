-- The state is read, what it keeps is finished, and the next state is put back.
use Rattle.lxtr_c.specs.TypingNumbers.{finish_number}
use Rattle.lxtr_c.proofs.lxtr_romaji_finish.Goals as goal

pub returns : goal.returns
returns c = finish_number _ _ _ _ _ _ _ _ _ c.read_state-held.ensures c.typing_answered.ensures.value c.typing_answered.ensures.bytes_after c.finish-answer.ensures
