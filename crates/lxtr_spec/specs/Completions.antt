-- Document 01, "The searches": completions into lent room.
use Rattle.std.specs.Prelude.{ℕ, zero, suc, ◌+◌, ◌*◌, ◌-◌, List, [], ◌∷◌, ◌++◌, Bool, true, false, cond, length, drop, leb, ltb, Option, Some, None}
use Rattle.lxtr_spec.specs.Ranges.{concat_from}
use Rattle.lxtr_spec.specs.Numbers.{be_bytes, be_words}
use Rattle.lxtr_spec.specs.Labels.{length_count, labels_of, Pair}
use Rattle.lxtr_spec.specs.Image.{is_leaf, value_number, code_to, offset, child, list_width, label_of_code}
use Rattle.lxtr_spec.specs.Refusals.{refuse_if, first_refusal, unless_refused, body_refusal}
use Rattle.lxtr_spec.specs.Walks.{walk_within}
use Rattle.lxtr_spec.specs.Searches.{search_refusal}

-- Depth first, children by ascending code, so an end precedes its longer keys.

-- the pairs of entry j in the list of slot n, which is reached by the labels `key`: for an end its pair, for any other child the pairs
-- below it
unfoldable pub entry_pairs : List ℕ → (ℕ → List ℕ → List Pair) → ℕ → List ℕ → ℕ → List Pair
entry_pairs b below n key j =
    elim (is_leaf b (child b j)) [
      | true ↦ (key, value_number b (child b j)) ∷ []
      | false ↦ below (child b j) (key ++ label_of_code b (code_to b n (child b j)) ∷ [])
    ]

-- the pairs below slot n, which is reached by the labels `key`, with k labels still allowed
unfoldable pub list_from : List ℕ → ℕ → ℕ → List ℕ → List Pair
list_from b zero n key = []
list_from b (suc k) n key = concat_from (list_width b n) (offset b n) (entry_pairs b (list_from b k) n key)

-- the pairs below the slot that a walk reached
unfoldable pub pairs_at : List ℕ → List ℕ → Option ℕ → List Pair
pairs_at b xs None = []
pairs_at b xs (Some n) = list_from b (length_count - length xs) n xs

-- The pairs whose keys begin with the labels. A prefix beyond 64 labels or not present gives count 0.
unfoldable pub pairs_below : List ℕ → List ℕ → List Pair
pairs_below b xs = pairs_at b xs (walk_within b xs)

-- then per pair a length byte, all labels of the key (the prefix's too), the value in four bytes, all big-endian
unfoldable pub record_of : Pair → List ℕ
record_of p = length p.0 ∷ (be_words p.0 ++ be_bytes p.1)

unfoldable pub records_of : List Pair → List ℕ
records_of [] = []
records_of (p ∷ ps) = record_of p ++ records_of ps

-- It stops before the first record without room: the pairs at the front whose records fit in r bytes.
unfoldable pub fitting : ℕ → List Pair → List Pair
fitting r [] = []
fitting r (p ∷ ps) = cond (leb (length (record_of p)) r) (p ∷ fitting (r - length (record_of p)) ps) []

-- version byte 1, count in four bytes, then the records of the pairs
unfoldable pub listing_of : List Pair → List ℕ
listing_of ps = 1 ∷ (be_bytes (length ps) ++ records_of ps)

-- The room with a listing at its front. Bytes past the last record stay.
unfoldable pub listed_in : List ℕ → List Pair → List ℕ
listed_in room ps = listing_of ps ++ drop (length (listing_of ps)) room

-- Room is enough for a set when it has at least 5 bytes plus, for each pair, 5 bytes and four for each label of its key.
unfoldable pub room_for : List Pair → ℕ
room_for [] = 5
room_for (p ∷ ps) = (5 + 4 * length p.0) + room_for ps

-- the refusal, the count, and whether the listing stopped
pub record Completion : Type 0 where
  pub refusal : ℕ
  pub count : ℕ
  pub stopped : Bool

-- the answer, with the room after the call
pub record CompletionAnswer : Type 0 where
  pub answer : Completion
  pub room : List ℕ

unfoldable pub completion_answer : ℕ → ℕ → Bool → List ℕ → CompletionAnswer
completion_answer k count stopped room = record { answer = record { refusal = k; count = count; stopped = stopped }; room = room }

-- It stops before the first record without room and says whether it stopped.
unfoldable pub written : List ℕ → List Pair → CompletionAnswer
written room ps =
    let fit : List Pair = fitting (length room - 5) ps in
    completion_answer 0 (length fit) (ltb (length fit) (length ps)) (listed_in room fit)

-- 1 to 8, then 13. Completion then tests 9 to 12. Room below 5 bytes: 14, tested last, nothing written.
unfoldable pub completion_refusal : List ℕ → List ℕ → List ℕ → ℕ
completion_refusal b q room =
    let later = first_refusal (body_refusal b) (refuse_if (ltb (length room) 5) 14 0) in first_refusal (search_refusal b q) later

-- Refusals answer zero, and write nothing in lent room.
unfoldable pub completion_of : List ℕ → List ℕ → List ℕ → CompletionAnswer
completion_of b q room =
    let listed = written room (pairs_below b (labels_of q)) in
    unless_refused (completion_refusal b q room) listed (completion_answer (completion_refusal b q room) 0 false room)
