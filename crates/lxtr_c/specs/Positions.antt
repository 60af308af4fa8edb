-- The position that is left after a move: the answer's, or the one before.
use Rattle.std.specs.Prelude.{Result, Ok, Err, ◌≡◌, refl}
use Rattle.std.specs.Result.{result_unwrap_or}
use Rattle.lxtr_spec.specs.Answers.{answer_or}

pub unwrapped : {A E : Type 0} (x : A) (r : Result A E) → result_unwrap_or r x ≡ answer_or x r
unwrapped x (Ok y) = refl
unwrapped x (Err e) = refl
