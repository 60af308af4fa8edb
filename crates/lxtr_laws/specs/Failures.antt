-- The number of a refusal is above 0, so an answer with number 0 is no refusal; and what an operation answers that passes on a refusal.
use Rattle.std.specs.Prelude.{ℕ, ◌<◌, ◌≡◌, ◌≢◌, Result, Ok, Err, refl}
use Rattle.std.proofs.Common.{arith, sym, ◌∙◌, ap}
use Rattle.std.specs.Result.{IsErrAnd}
use Rattle.std.proofs.lemmas.Result.{err_from_is_err_and}
use Rattle.lxtr_spec.specs.declared.refusals.Refusal.{Refusal}
use Rattle.lxtr_spec.specs.declared.refusals.Refusal.TheVariants.{ImageTooShort, NotLxtr, WrongVersion, ReservedSet, WrongSizes, WrongImageLength, WrongMap, WrongOffsetEnds, WrongLabels, WrongSlots, WrongLists, Unreachable, WrongQueryLength, RoomTooSmall, ListMalformed, TooManyKeys, KeyTooLong, NotScalar, KeysNotAscending, TooManyLabels, WorkTooSmall, TooFewSlots, OutTooSmall}
use Rattle.lxtr_spec.specs.Answers.{number, refusal_of}

pub number_above : (e : Refusal) → 0 < number e
number_above ImageTooShort = omega arith
number_above NotLxtr = omega arith
number_above WrongVersion = omega arith
number_above ReservedSet = omega arith
number_above WrongSizes = omega arith
number_above WrongImageLength = omega arith
number_above WrongMap = omega arith
number_above WrongOffsetEnds = omega arith
number_above WrongLabels = omega arith
number_above WrongSlots = omega arith
number_above WrongLists = omega arith
number_above Unreachable = omega arith
number_above WrongQueryLength = omega arith
number_above RoomTooSmall = omega arith
number_above ListMalformed = omega arith
number_above TooManyKeys = omega arith
number_above KeyTooLong = omega arith
number_above NotScalar = omega arith
number_above KeysNotAscending = omega arith
number_above TooManyLabels = omega arith
number_above WorkTooSmall = omega arith
number_above TooFewSlots = omega arith
number_above OutTooSmall = omega arith

pub number_not_0 : (e : Refusal) → number e ≢ 0
number_not_0 e = let h = number_above e in omega (arith, h)

-- the exit of a `?`: the refusal that the operation gives, r, has the number of the refusal e that it was passed
pub passed_on : {A : Type 0} (r : Result A Refusal) (e : Refusal) → IsErrAnd r (λ y. y ≡ e) → refusal_of r ≡ number e
passed_on r e h = let p = err_from_is_err_and r h in rw (p.1) (ap number p.2)
