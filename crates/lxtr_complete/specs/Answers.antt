-- What the code's structs mean: the answer of completion, and the state of a listing while its records are written.
use Rattle.std.specs.Prelude.{false, Result, Ok, Err}
use Rattle.lxtr_spec.specs.declared.Listing.{Listing}
use Rattle.lxtr_spec.specs.declared.refusals.Refusal.{Refusal}
use Rattle.lxtr_spec.specs.Answers.{number}
use Rattle.lxtr_spec.specs.Completions.{Completion}
use Rattle.lxtr_complete.specs.RecordWriting.{State, state, place}
use Rattle.lxtr_complete.specs.declared.records.Records.{Records}

abbrev pub listing_given : Listing → Completion
listing_given l = record { refusal = 0; count = l.count; stopped = l.stopped }

abbrev pub completion_given : Result Listing Refusal → Completion
completion_given (Ok l) = listing_given l
completion_given (Err e) = record { refusal = number e; count = 0; stopped = false }

abbrev pub state_of : Records → State
state_of r = state r.room.now (place r.end) r.count
