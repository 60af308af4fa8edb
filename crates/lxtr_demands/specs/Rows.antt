-- Rows of a table of examples: what is run on the definitions, and what it has to give.
use Rattle.std.specs.Prelude.{ℕ, ◌+◌, ◌-◌, ◌*◌, ◌^◌, ◌≡◌, List, [], ◌++◌, true, false, cond, ltb, length, replicate, Option, Some, None}
use Rattle.lxtr_spec.specs.Ranges.{any_below, count_below, first_from, first_below, concat_from}
use Rattle.lxtr_spec.specs.Numbers.{le32, be32, le_bytes, be_bytes, le_words, be_words}
use Rattle.lxtr_spec.specs.Labels.{Pair, is_scalar, max_labels, length_count, comes_before, labels_from, labels_of}
use Rattle.lxtr_spec.specs.Joining.{slot_under, code_under}
use Rattle.lxtr_spec.specs.Image.{magic, version, slot_count, child_count, map_length, base_word, check_word, is_leaf, has_leaf, parent, has_parent, base, value_number, slot_from, code_to, offset, child, list_width, map_version, label_count, label_at, label_of_code, code_from, code_of}
use Rattle.lxtr_spec.specs.Refusals.{refuse_if, first_refusal, unless_refused, too_short, byte_differs, magic_differs, version_wrong, reserved_set, sizes_wrong, length_wrong, map_wrong, offset_ends_wrong, header_refusal, same_label, label_wrong, labels_wrong, is_used_from2, is_used, own_code, both_zero, used_slot_wrong, end_exists, flag_wrong, slot_wrong, slots_wrong, offset_falls, used_count, entry_wrong, code_not_above, entry_wrong_in, entries_wrong, childless, root_wrong, lists_wrong, reaches, unreachable, some_unreachable, body_refusal, image_refusal, is_end, end_count, check_of}
use Rattle.lxtr_spec.specs.FaultPlaces.{fault_if, label_fault, slot_fault, offset_fault, entry_fault_of, entry_fault, is_entry, unlisted, unlisted_fault, childless_fault, list_fault, reach_fault, fault_by, fault_of}
use Rattle.lxtr_spec.specs.HighestValues.{larger, highest_below, highest_of}
use Rattle.lxtr_spec.specs.Walks.{step, step_by, walk, walk_within, leaf_value, value_at, value_reached, value_of, longer_at}
use Rattle.lxtr_spec.specs.Searches.{query_refusal, search_refusal, case_value, case_longer, case_of, case_at, case_within, lookup_of, length_match, match_at, matches, prefix_matches, prefixes_answer, prefixes_of, last_length, longest_length, longest_of}
use Rattle.lxtr_spec.specs.Positions.{TypingPosition, fresh_position, all_walked, slot_by, one_more, max_typed, pushed, one_less, taken_back, is_placed, move_answer, moved_to, push_of, back_of, reached_slot, position_lookup_of}
use Rattle.lxtr_spec.specs.Reasons.{ended_with, stopped_at, reason_from, reason_of, why_of, reason_number, reason_place}
use Rattle.lxtr_spec.specs.Completions.{entry_pairs, list_from, pairs_at, pairs_below, record_of, records_of, fitting, listing_of, listed_in, completion_answer, written, completion_refusal, completion_of}
use Rattle.lxtr_spec.specs.HostNumbers.{host_number, value_numbered, check_number, exact_numbered, probe_numbered, exact_number, probe_number, longest_number, place_number, fault_numbered, fault_number, highest_number, reason_numbered, why_number, place_words, alternately, at_front, places_after, prefixes_number, host_prefixes_of, position_number, position_of, host_fresh, host_push_of, host_back_of, position_probe_number, completion_number, host_completion_of, built_number, host_build_of}
use Rattle.lxtr_spec.specs.KeyLists.{list_version, key_count, key_length, key_label, next_key, key_labels, key_at, keys_from, pairs_of, no_scalar_at, not_above, key_refusal, keys_refusal, list_refusal}
use Rattle.lxtr_spec.specs.CodeMaps.{insert, insert_all, labels_used, occurrences, frequency, goes_before, rank_in, ranked, map_of, code_in, label_with}
use Rattle.lxtr_spec.specs.Placing.{base_at, check_at, is_taken_from2, is_free, fits, first_fit_from, first_fit, next_code, child_codes, below, end_value, put_child, put_children, put_parent, settle, into_each, place}
use Rattle.lxtr_spec.specs.Builds.{header_bytes, map_bytes, image_bytes, slots_used, is_child, child_by, children_of, children_in, offsets_from, image_in, slots_in, placed_in, with_room, from_placed, from_labels, from_keys, outcome_of, answered, work_after, build_of}
use Rattle.lxtr_spec.specs.Samples.{p1, p2, nodes3, offsets3, children3, labels3, p3, p7, p8_check, p8_slot, p9_labels, p9_longer, p10, p11, key_records, key_list}
use Rattle.lxtr_spec.specs.declared.Case.{Case}
use Rattle.lxtr_spec.specs.declared.Case.TheVariants.{Neither}
use Rattle.lxtr_spec.specs.declared.Fault.{Fault}
use Rattle.lxtr_spec.specs.declared.Reason.{Reason}
use Rattle.lxtr_laws.specs.ExampleTables as tables
pub use Rattle.lxtr_laws.specs.ExampleTables.{◌and◌}
use Rattle.lxtr_demands.specs.TypingPositions.{Move, moved, moved_by, defined_moves, library, defined_host_moves, host}

-- what is run, and what it gives; a query is given by its labels
pub data Example : Type 0 where
  -- an image, its bytes written out
  is_image_bytes : List ℕ → List ℕ → Example
  -- an image and its length in bytes
  is_image_length : List ℕ → ℕ → Example
  -- an accepted image, the number of its pairs
  accepted : List ℕ → ℕ → Example
  -- a refused image, its refusal
  refused : List ℕ → ℕ → Example
  -- an image, where its fault lies, number for the host program
  fault_at : List ℕ → Option Fault → ℕ → Example
  -- an accepted image, the highest value of its set, number for the host program; and a refused image, its refusal
  highest : List ℕ → Option ℕ → ℕ → Example
  highest_refused : List ℕ → ℕ → Example
  -- image, query, case, numbers for the host program: that of exact, and that of probe
  lookup : List ℕ → List ℕ → Case → ℕ → ℕ → Example
  -- image, query, lengths and values of the matches
  prefixes : List ℕ → List ℕ → List ℕ → List ℕ → Example
  -- image, query, how many words are lent to the host's entry for prefixes, what they hold afterwards, number for the host program
  prefix_words : List ℕ → List ℕ → ℕ → List ℕ → ℕ → Example
  -- image, query, the matched part
  longest : List ℕ → List ℕ → List ℕ → Example
  -- image, moves from a fresh typing position; case, number for the host program
  typed : List ℕ → List Move → Case → ℕ → Example
  -- an image over which a typing position stays and its lookup finds nothing; the refusal or 0
  position_stays : List ℕ → TypingPosition → ℕ → Example
  -- image, query, why it is found or not, number for the host program; and a refused image or query, its refusal
  why : List ℕ → List ℕ → Reason → ℕ → Example
  why_refused : List ℕ → List ℕ → ℕ → Example
  -- image and query bytes that the searches refuse, the refusal
  query_refused : List ℕ → List ℕ → ℕ → Example
  -- image, query bytes, bytes of room that completion refuses, the refusal
  completion_refused : List ℕ → List ℕ → ℕ → ℕ → Example
  -- image, prefix, pairs, bytes written
  completes : List ℕ → List ℕ → List Pair → List ℕ → Example
  -- image, prefix, bytes of room in which completion stops, how many records they hold, the room afterwards
  completion_stops : List ℕ → List ℕ → ℕ → ℕ → List ℕ → Example
  -- keys, the labels that they use in the order of their codes
  lists_labels : List (List ℕ) → List ℕ → Example
  -- keys, words of work, the image that they give
  builds : List (List ℕ) → ℕ → List ℕ → Example
  -- keys, words of work, the length of that image
  build_length : List (List ℕ) → ℕ → ℕ → Example
  -- a key list, words of work, bytes of output that the builder refuses, the refusal
  build_refused : List ℕ → ℕ → ℕ → ℕ → Example

-- n bytes of a value that shows where nothing was written
abbrev unwritten : ℕ → List ℕ
unwritten n = replicate n 0xFF

-- n words that are not zero
abbrev unset : ℕ → List ℕ
unset n = replicate n 7

-- what an example says about the answer, the number for the host program and the lent memory
abbrev pub Holds : Example → Type 0
Holds (is_image_bytes b bytes) = b ≡ bytes
Holds (is_image_length b n) = length b ≡ n
Holds (accepted b n) = (check_of b ≡ record { refusal = 0; pairs = n }) × (check_number b ≡ n)
Holds (refused b k) =
    (check_of b ≡ record { refusal = k; pairs = 0 }) × (check_number b ≡ k * 2 ^ 40)
    × (completion_of b [] (unwritten 40) ≡ record { answer = record { refusal = k; count = 0; stopped = false }; room = unwritten 40 })
Holds (fault_at b f n) = (fault_of b ≡ f) × (fault_number b ≡ n)
Holds (highest b v n) = (highest_of b ≡ record { refusal = 0; value = v }) × (highest_number b ≡ n)
Holds (highest_refused b k) = (highest_of b ≡ record { refusal = k; value = None }) × (highest_number b ≡ k * 2 ^ 40)
Holds (lookup b xs c n m) = (lookup_of b (be_words xs) ≡ record { refusal = 0; case = c }) × (exact_number b (be_words xs) ≡ n) × (probe_number b (be_words xs) ≡ m)
Holds (prefixes b xs lengths values) =
    prefixes_of b (be_words xs) ≡ record { refusal = 0; count = length lengths; lengths = lengths ++ replicate (length_count - length lengths) 0; values = values ++ replicate (length_count - length values) 0 }
Holds (prefix_words b xs n words number) = host_prefixes_of b (be_words xs) (unset n) ≡ record { number = number; places = words }
Holds (longest b xs ys) = (longest_of b (be_words xs) ≡ record { refusal = 0; part = be_words ys }) × (longest_number b (be_words xs) ≡ length ys)
Holds (typed b ms c n) =
    (position_lookup_of b (moved_by (library defined_moves) b fresh_position ms) ≡ record { refusal = 0; case = c })
    × (position_probe_number b (moved_by (host defined_host_moves) b host_fresh ms) ≡ n)
Holds (position_stays b p k) =
    (push_of b p 0x61 ≡ record { refusal = k; position = p }) × (host_push_of b (position_number p) 0x61 ≡ position_number p)
    × (back_of b p ≡ record { refusal = k; position = p }) × (host_back_of b (position_number p) ≡ position_number p)
    × (position_lookup_of b p ≡ record { refusal = k; case = Neither }) × (position_probe_number b (position_number p) ≡ k * 2 ^ 40)
Holds (why b xs r n) = (why_of b (be_words xs) ≡ record { refusal = 0; reason = Some r }) × (why_number b (be_words xs) ≡ n)
Holds (why_refused b q k) = (why_of b q ≡ record { refusal = k; reason = None }) × (why_number b q ≡ k * 2 ^ 40)
Holds (query_refused b q k) =
    (lookup_of b q ≡ record { refusal = k; case = Neither }) × (exact_number b q ≡ k * 2 ^ 40) × (probe_number b q ≡ k * 2 ^ 40)
    × (prefixes_of b q ≡ record { refusal = k; count = 0; lengths = replicate length_count 0; values = replicate length_count 0 })
    × (longest_of b q ≡ record { refusal = k; part = [] }) × (longest_number b q ≡ k * 2 ^ 40)
    × (host_prefixes_of b q (unset 3) ≡ record { number = k * 2 ^ 40; places = unset 3 })
Holds (completion_refused b q n k) =
    (completion_of b q (unwritten n) ≡ record { answer = record { refusal = k; count = 0; stopped = false }; room = unwritten n })
    × (host_completion_of b q (unwritten n) ≡ record { number = k * 2 ^ 40; room = unwritten n })
Holds (completes b xs ps bytes) =
    (pairs_below b xs ≡ ps)
    × (completion_of b (be_words xs) (unwritten (length bytes + 2)) ≡ record { answer = record { refusal = 0; count = length ps; stopped = false }; room = bytes ++ unwritten 2 })
    × (host_completion_of b (be_words xs) (unwritten (length bytes + 2)) ≡ record { number = length ps; room = bytes ++ unwritten 2 })
Holds (completion_stops b xs n count room) =
    (completion_of b (be_words xs) (unwritten n) ≡ record { answer = record { refusal = 0; count = count; stopped = true }; room = room })
    × (host_completion_of b (be_words xs) (unwritten n) ≡ record { number = 2 ^ 33 + count; room = room })
Holds (lists_labels ks labels) = map_of (pairs_of (key_list ks)) ≡ labels
Holds (builds ks n image) =
    (build_of (key_list ks) (unset n) (unwritten (length image + 2))
    ≡ record { answer = record { refusal = 0; length = length image }; output = image ++ unwritten 2; work = replicate n 0 })
    × ((host_build_of (key_list ks) (unset n) (unwritten (length image + 2))).number ≡ length image)
Holds (build_length ks n m) = (build_of (key_list ks) (unset n) (unwritten m)).answer ≡ record { refusal = 0; length = m }
Holds (build_refused list n m k) =
    build_of list (unset n) (unwritten m)
    ≡ record { answer = record { refusal = k; length = 0 }; output = unwritten m; work = replicate n (cond (ltb n 4) 7 0) }

-- every row of a table holds
abbrev pub AllHold : List Example → Type 0
AllHold es = tables.AllHold Holds es

-- every definition that a row runs: to unfold this name is to unfold them all
unfoldable pub computing : Unit {0}
unfolding any_below count_below first_from first_below le32 be32 le_bytes be_bytes le_words be_words is_scalar max_labels labels_from labels_of slot_under code_under magic version slot_count child_count map_length base_word check_word is_leaf has_leaf parent has_parent base value_number slot_from code_to offset child list_width map_version label_count label_at label_of_code code_from code_of refuse_if first_refusal unless_refused too_short byte_differs magic_differs version_wrong reserved_set sizes_wrong length_wrong map_wrong offset_ends_wrong header_refusal same_label label_wrong labels_wrong is_used_from2 is_used own_code both_zero used_slot_wrong end_exists flag_wrong slot_wrong slots_wrong offset_falls used_count entry_wrong code_not_above entry_wrong_in entries_wrong childless root_wrong lists_wrong reaches unreachable some_unreachable body_refusal image_refusal is_end end_count check_of fault_if label_fault slot_fault offset_fault entry_fault_of entry_fault is_entry unlisted unlisted_fault childless_fault list_fault reach_fault fault_by fault_of larger highest_below highest_of step step_by walk walk_within leaf_value value_at value_reached value_of longer_at query_refusal search_refusal case_value case_longer case_of case_at case_within lookup_of length_match match_at matches prefix_matches prefixes_answer prefixes_of last_length longest_length longest_of fresh_position all_walked slot_by one_more max_typed pushed one_less taken_back is_placed move_answer moved_to push_of back_of reached_slot position_lookup_of moved moved_by ended_with stopped_at reason_from reason_of why_of reason_number reason_place concat_from entry_pairs list_from pairs_at pairs_below record_of records_of fitting listing_of listed_in completion_answer written completion_refusal completion_of host_number value_numbered check_number exact_numbered probe_numbered exact_number probe_number longest_number place_number fault_numbered fault_number highest_number reason_numbered why_number place_words alternately at_front places_after prefixes_number host_prefixes_of position_number position_of host_fresh host_push_of host_back_of position_probe_number completion_number host_completion_of built_number host_build_of comes_before list_version key_count key_length key_label next_key key_labels key_at keys_from pairs_of no_scalar_at not_above key_refusal keys_refusal list_refusal insert insert_all labels_used occurrences frequency goes_before rank_in ranked map_of code_in label_with base_at check_at is_taken_from2 is_free fits first_fit_from first_fit next_code child_codes below end_value put_child put_children put_parent settle into_each place header_bytes map_bytes image_bytes slots_used is_child child_by children_of children_in offsets_from image_in slots_in placed_in with_room from_placed from_labels from_keys outcome_of answered work_after build_of key_records key_list p1 p2 nodes3 offsets3 children3 labels3 p3 p7 p8_check p8_slot p9_labels p9_longer p10 p11
computing = tt
