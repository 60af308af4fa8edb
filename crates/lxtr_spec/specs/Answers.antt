-- What a Result of the code means: document 01's number of the refusal, 0 for none, and the answer.
use Rattle.std.specs.Prelude.{ℕ, Result, Ok, Err, Option, Some, None}
use Rattle.lxtr_spec.specs.declared.refusals.Refusal.{Refusal}
use Rattle.lxtr_spec.specs.declared.refusals.Refusal.TheVariants.{ImageTooShort, NotLxtr, WrongVersion, ReservedSet, WrongSizes, WrongImageLength, WrongMap, WrongOffsetEnds, WrongLabels, WrongSlots, WrongLists, Unreachable, WrongQueryLength, RoomTooSmall, ListMalformed, TooManyKeys, KeyTooLong, NotScalar, KeysNotAscending, TooManyLabels, WorkTooSmall, TooFewSlots, OutTooSmall}

-- the number of a refusal
abbrev pub number : Refusal → ℕ
number ImageTooShort = 1
number NotLxtr = 2
number WrongVersion = 3
number ReservedSet = 4
number WrongSizes = 5
number WrongImageLength = 6
number WrongMap = 7
number WrongOffsetEnds = 8
number WrongLabels = 9
number WrongSlots = 10
number WrongLists = 11
number Unreachable = 12
number WrongQueryLength = 13
number RoomTooSmall = 14
number ListMalformed = 15
number TooManyKeys = 16
number KeyTooLong = 17
number NotScalar = 18
number KeysNotAscending = 19
number TooManyLabels = 20
number WorkTooSmall = 21
number TooFewSlots = 22
number OutTooSmall = 23

-- the number of an error, where f numbers the errors; 0 where there is none
abbrev pub number_by : {A E : Type 0} → (E → ℕ) → Result A E → ℕ
number_by f (Ok x) = 0
number_by f (Err e) = f e

-- the refusal of an operation
abbrev pub refusal_of : {A : Type 0} → Result A Refusal → ℕ
refusal_of r = number_by number r

-- the answer, or what is given in its place after a refusal
abbrev pub answer_or : {A E : Type 0} → A → Result A E → A
answer_or other (Ok x) = x
answer_or other (Err e) = other

-- the answer, none after a refusal
abbrev pub some_answer : {A E : Type 0} → Result A E → Option A
some_answer (Ok x) = Some x
some_answer (Err e) = None
