-- Document 01, "The searches": the 64-bit number that an operation answers to a host program in C.
use Rattle.std.specs.Prelude.{ℕ, ◌+◌, ◌*◌, ◌/◌, ◌%◌, ◌^◌, List, [], ◌∷◌, ◌++◌, Bool, true, false, cond, length, take, drop, get_or, Option, Some, None}
use Rattle.lxtr_spec.specs.Ranges.{concat_from}
use Rattle.lxtr_spec.specs.Labels.{length_count}
use Rattle.lxtr_spec.specs.Refusals.{unless_refused, check_of}
use Rattle.lxtr_spec.specs.FaultPlaces.{fault_of}
use Rattle.lxtr_spec.specs.HighestValues.{highest_of}
use Rattle.lxtr_spec.specs.Searches.{Lookup, Prefixes, search_refusal, case_value, case_longer, lookup_of, prefixes_of, longest_length}
use Rattle.lxtr_spec.specs.Positions.{TypingPosition, fresh_position, push_of, back_of, position_lookup_of}
use Rattle.lxtr_spec.specs.Reasons.{why_of, reason_number, reason_place}
use Rattle.lxtr_spec.specs.Completions.{Completion, completion_of}
use Rattle.lxtr_spec.specs.Builds.{Built, build_of}
use Rattle.lxtr_spec.specs.declared.Fault.{Fault}
use Rattle.lxtr_spec.specs.declared.Fault.TheVariants.{Label, Slot, Offset, Entry, Unlisted, Childless, RootBase, Unreachable}
use Rattle.lxtr_spec.specs.declared.Reason.{Reason}

-- Check, exact, probe and the length of longest are also called by the terminal's host program, which is in C, with byte buffers and
-- number results. Each answers one 64-bit number: the refusal number times 2^40, plus 2^33 if longer keys exist (probe only),
-- plus 2^32 if there is a value (exact and probe), plus the value, the pair count or the length in labels.
unfoldable pub host_number : ℕ → Bool → Bool → ℕ → ℕ
host_number k more valued n = k * 2 ^ 40 + cond more (2 ^ 33) 0 + cond valued (2 ^ 32) 0 + n

-- the number of a value or none
unfoldable pub value_numbered : ℕ → Bool → Option ℕ → ℕ
value_numbered k more None = host_number k more false 0
value_numbered k more (Some v) = host_number k more true v

unfoldable pub check_number : List ℕ → ℕ
check_number b = host_number (check_of b).refusal false false (check_of b).pairs

-- Document 02, request 6: C keeps its exact and probe with the numbers they answered. (Both are numbers of a lookup: exact's has
-- its value, probe's also whether longer keys exist.)
unfoldable pub exact_numbered : Lookup → ℕ
exact_numbered r = value_numbered r.refusal false (case_value r.case)

unfoldable pub probe_numbered : Lookup → ℕ
probe_numbered r = value_numbered r.refusal (case_longer r.case) (case_value r.case)

unfoldable pub exact_number : List ℕ → List ℕ → ℕ
exact_number b q = exact_numbered (lookup_of b q)

unfoldable pub probe_number : List ℕ → List ℕ → ℕ
probe_number b q = probe_numbered (lookup_of b q)

unfoldable pub longest_number : List ℕ → List ℕ → ℕ
longest_number b q = host_number (search_refusal b q) false false (longest_length b q)

-- Not in document 01: the numbers of the other operations, made in the same way, and what the lent memory holds afterwards.

-- A refusal, a kind of fault or a reason, and a place.
unfoldable pub place_number : ℕ → ℕ → ℕ → ℕ
place_number k kind place = k * 2 ^ 40 + kind * 2 ^ 34 + place

-- Where a fault lies: its refusal, for refusal 11 the kind of fault, and the place. An entry is given by its place in the children array.
unfoldable pub fault_numbered : Option Fault → ℕ
fault_numbered None = 0
fault_numbered (Some (Label i)) = place_number 9 0 i
fault_numbered (Some (Slot s)) = place_number 10 0 s
fault_numbered (Some (Offset p)) = place_number 11 1 p
fault_numbered (Some (Entry p j)) = place_number 11 2 j
fault_numbered (Some (Unlisted s)) = place_number 11 3 s
fault_numbered (Some (Childless s)) = place_number 11 4 s
fault_numbered (Some RootBase) = place_number 11 5 1
fault_numbered (Some (Unreachable s)) = place_number 12 0 s

unfoldable pub fault_number : List ℕ → ℕ
fault_number b = fault_numbered (fault_of b)

-- The highest value, or none.
unfoldable pub highest_number : List ℕ → ℕ
highest_number b = value_numbered (highest_of b).refusal false (highest_of b).value

-- Why a query is found or not: its refusal, the reason, and the place.
unfoldable pub reason_numbered : ℕ → Option Reason → ℕ
reason_numbered k r = place_number k (reason_number r) (reason_place r)

unfoldable pub why_number : List ℕ → List ℕ → ℕ
why_number b q = reason_numbered (why_of b q).refusal (why_of b q).reason

-- Prefixes: the count; in lent words, length and value alternately, shortest first.
pub record HostPrefixes : Type 0 where
  pub number : ℕ
  pub places : List ℕ

-- length and value of place j; then of all 65 places
unfoldable pub place_words : List ℕ → List ℕ → ℕ → List ℕ
place_words lengths values j = get_or lengths j 0 ∷ get_or values j 0 ∷ []

unfoldable pub alternately : List ℕ → List ℕ → List ℕ
alternately lengths values = concat_from length_count 0 (place_words lengths values)

-- words at the front of the lent words, as many as fit; lent words past them stay
unfoldable pub at_front : List ℕ → List ℕ → List ℕ
at_front xs places = take (length places) xs ++ drop (length xs) places

-- a refusal writes nothing
unfoldable pub places_after : Prefixes → List ℕ → List ℕ
places_after p places = unless_refused p.refusal (at_front (alternately p.lengths p.values) places) places

unfoldable pub prefixes_number : Prefixes → ℕ
prefixes_number p = host_number p.refusal false false p.count

unfoldable pub host_prefixes_of : List ℕ → List ℕ → List ℕ → HostPrefixes
host_prefixes_of b q places = record { number = prefixes_number (prefixes_of b q); places = places_after (prefixes_of b q) places }

-- Completions: the count of records, plus 2^33 if the listing stopped.
pub record HostCompletion : Type 0 where
  pub number : ℕ
  pub room : List ℕ

unfoldable pub completion_number : Completion → ℕ
completion_number a = host_number a.refusal a.stopped false a.count

unfoldable pub host_completion_of : List ℕ → List ℕ → List ℕ → HostCompletion
host_completion_of b q room = record { number = completion_number (completion_of b q room).answer; room = (completion_of b q room).room }

-- Building: the image's length in bytes.
pub record HostBuild : Type 0 where
  pub number : ℕ
  pub output : List ℕ
  pub work : List ℕ

unfoldable pub built_number : Built → ℕ
built_number a = host_number a.refusal false false a.length

unfoldable pub host_build_of : List ℕ → List ℕ → List ℕ → HostBuild
host_build_of keys work out =
    record { number = built_number (build_of keys work out).answer; output = (build_of keys work out).output; work = (build_of keys work out).work }

-- Not in document 02: for C, a typing position of request 3 is one 64-bit number, and each such number is one position.
unfoldable pub position_number : TypingPosition → ℕ
position_number p = p.slot + p.walked * 2 ^ 32 + p.typed * 2 ^ 48

unfoldable pub position_of : ℕ → TypingPosition
position_of n = record { slot = n % 2 ^ 32; walked = n / 2 ^ 32 % 2 ^ 16; typed = n / 2 ^ 48 }

-- Push and take back answer the next position, or after a refusal the one that was passed. The probe of a position answers the number
-- that C's probe answers for the labels typed so far.
unfoldable pub host_fresh : ℕ
host_fresh = position_number fresh_position

unfoldable pub host_push_of : List ℕ → ℕ → ℕ → ℕ
host_push_of b n x = position_number (push_of b (position_of n) x).position

unfoldable pub host_back_of : List ℕ → ℕ → ℕ
host_back_of b n = position_number (back_of b (position_of n)).position

unfoldable pub position_probe_number : List ℕ → ℕ → ℕ
position_probe_number b n = probe_numbered (position_lookup_of b (position_of n))
