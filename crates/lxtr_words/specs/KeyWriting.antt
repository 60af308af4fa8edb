-- The key list of a table of words, written key by key.
use Rattle.std.specs.Prelude.{ℕ, ◌+◌, ◌*◌, ◌-◌, ◌^◌, ◌≤◌, ◌<◌, ◌≡◌, Bool, true, false, get_or, take, set, Result, Ok, Err}
use Rattle.std.proofs.Math.Path.{refl, ap, ap₂}
use Rattle.std.proofs.Common.{sym, ◌∙◌, arith, le-ltb, length-append, drop-cons, take_all}
use mathlib.Core.List.{List, [], ◌∷◌, ◌++◌, append-nil}
use Rattle.std.proofs.Math.Numerals.{add-one}
use Rattle.std.proofs.Math.ListN.{length, drop, length-drop, drop_of_length-le}
use Rattle.std.proofs.Math.Seq.{drop-drop}
use Rattle.lxtr_spec.specs.Numbers.{be_bytes, be_words}
use Rattle.lxtr_spec.specs.Samples.{key_records, key_list}
use Rattle.lxtr_laws.specs.ByteOrders.{big, words_size}
use Rattle.lxtr_laws.specs.Limit.{length_fits_byte}
use Rattle.lxtr_laws.specs.Members.{member_at}
use Rattle.lxtr_laws.specs.Overlays.{over, over_length, over_none, over_set, over_over, over_comm}
use Rattle.std.specs.Result.{result_unwrap_or}
use Rattle.lxtr_command_spec.specs.declared.TextProblem.{TextProblem}
use Rattle.lxtr_command_spec.specs.Utf8.{Decoded, count_of, DecodingAnswer, decoding, decoding_of, decoded_in}
use Rattle.lxtr_words.specs.TextLines.{word_at}
use Rattle.lxtr_words.specs.WordTables.{key_of, keys_of, WordRight, Table, key_is, key_short, key_count_lem, keys_length, keys_at_lem}

-- ---- the bytes of a key list

pub list_size : (ks : List (List ℕ)) → length (key_list ks) ≡ 5 + length (key_records ks)
unfolding key_list be_bytes
list_size ks = omega arith

module _ (t l : List ℕ) (i : ℕ) (h : i < length l) where
  pub this_right : Table t l → WordRight t (get_or l i 0)
  this_right tab = tab.right (get_or l i 0) (member_at 0 l i h)

  -- the bytes of key i, and those of the keys after it
  records_next : key_records (drop i (keys_of t l)) ≡ (length (key_of t (get_or l i 0)) ∷ be_words (key_of t (get_or l i 0))) ++ key_records (drop (i + 1) (keys_of t l))
  unfolding key_records
  records_next = ap key_records (drop-cons (keys_of t l) i [] (omega (arith, keys_length t l))) ∙ rw (keys_at_lem t l i h, add-one i) refl

  records_less : length (key_records (drop i (keys_of t l))) ≡ 1 + 4 * length (key_of t (get_or l i 0)) + length (key_records (drop (i + 1) (keys_of t l)))
  records_less =
      let k = key_of t (get_or l i 0) in
      omega (arith, ap length records_next, length-append (length k ∷ be_words k) (key_records (drop (i + 1) (keys_of t l))), words_size big k)

records_end : (t l : List ℕ) (i : ℕ) → length l ≤ i → key_records (drop i (keys_of t l)) ≡ []
unfolding key_records
records_end t l i h = ap key_records (drop_of_length-le (keys_of t l) {i = i} (omega (arith, keys_length t l)))

-- a key's length fits a byte
module _ (t : List ℕ) (at : ℕ) (w : WordRight t at) where
  pub length_byte : (n : ℕ) → n ≡ length (key_of t at) → n < 2 ^ 8
  length_byte n e = omega (arith, key_short t at w, length_fits_byte)

-- what the code takes of an answer
pub or_zero : (r : Result ℕ TextProblem) → result_unwrap_or r 0 ≡ (decoded_in r).count
or_zero (Ok n) = refl
or_zero (Err p) = refl

-- ---- the length of the key list, summed up key by key

-- the labels of a word were counted
module _ (t : List ℕ) (at : ℕ) (w : WordRight t at) (word : List ℕ) (d : Decoded) (is : word ≡ word_at t at) (e : d ≡ count_of word) where
  pub count_is : d.count ≡ length (key_of t at)
  count_is = key_count_lem t at w word d is e

  pub count_small : d.count < 2 ^ 8
  count_small = length_byte t at w d.count count_is

-- (a key takes no more than 2^10 bytes of the list)
pub record Summed (t l : List ℕ) (total i : ℕ) : Type 0 where
  pub to : i ≤ length l
  pub small : total ≤ 5 + 2 ^ 10 * i
  pub left : length (key_list (keys_of t l)) ≡ total + length (key_records (drop i (keys_of t l)))

module _ (t l : List ℕ) where
  pub sum_start : Summed t l 5 0
  sum_start = record { to = omega arith; small = omega arith; left = list_size (keys_of t l) }

  module _ (total i : ℕ) (s : Summed t l total i) where
    -- n more labels
    pub sum_next : (n : ℕ) → i < length l → n ≡ length (key_of t (get_or l i 0)) → n < 2 ^ 8 → Summed t l (total + (1 + 4 * n)) (i + 1)
    sum_next n h is small = record { to = omega arith; small = omega (arith, s.small); left = omega (arith, s.left, records_less t l i h) }

    pub sum_end : length l ≤ i → total ≡ length (key_list (keys_of t l))
    sum_end h = omega (arith, s.left, ap length (records_end t l i h))

-- ---- one key: its labels are decoded into the part of the output that starts at a place and reaches to the end

module _ (t : List ℕ) (s : ℕ) (w : WordRight t s) (out : List ℕ) (at : ℕ) where
  module _ (fits : at + 4 * length (key_of t s) ≤ length out) (word : List ℕ) (is : word ≡ word_at t s) (d : Decoded) (r : List ℕ)
      (e : record { answer = d; room = r } ≡ decoding_of word (take (length out - at) (drop at out))) where
    abbrev choice : Bool → DecodingAnswer
    choice b = elim b as (λ _. DecodingAnswer) [
      | true ↦ record { answer = record { problem = 4; count = 0 }; room = drop at out }
      | false ↦ record { answer = record { problem = 0; count = length (key_of t s) }; room = be_words (key_of t s) ++ drop (4 * length (key_of t s)) (drop at out) }
    ]

    decoded : record { answer = d; room = r } ≡ choice false
    unfolding decoding_of decoding
    decoded =
        e ∙ ap₂ decoding_of is (take_all (length out - at) (drop at out) (omega (arith, length-drop at out))) ∙ ap (decoding (drop at out)) (key_is t s w)
        ∙ ap choice (le-ltb (length (drop at out)) (4 * length (key_of t s)) (omega (arith, length-drop at out)))

    pub labels_count : d.count ≡ length (key_of t s)
    labels_count = ap (λ (x : DecodingAnswer). x.answer.count) decoded

    pub labels_put : take at out ++ (r ++ drop (length out - at) (drop at out)) ≡ over out at (be_words (key_of t s))
    unfolding over
    labels_put =
        let room : r ≡ be_words (key_of t s) ++ drop (4 * length (key_of t s)) (drop at out) = ap (λ (x : DecodingAnswer). x.room) decoded in
        let none : drop (length out - at) (drop at out) ≡ [] = drop_of_length-le (drop at out) {i = length out - at} (omega (arith, length-drop at out)) in
        rw (none, append-nil, room, drop-drop, words_size big (key_of t s)) refl

  -- then the length byte is stored before them
  module _ (n : ℕ) (count : n ≡ length (key_of t s)) where
    pub key_put : (out' : List ℕ) → at + 1 + 4 * length (key_of t s) ≤ length out → out' ≡ over out (at + 1) (be_words (key_of t s))
        → set out' at n ≡ over out at (length (key_of t s) ∷ be_words (key_of t s))
    key_put out' fits e =
        let ws : List ℕ = be_words (key_of t s) in
        let size = words_size big (key_of t s) in
        rw (e, over_set (over out (at + 1) ws) at n (omega (arith, over_length out (at + 1) ws (omega arith))), ← count)
        (sym (over_comm out at (n ∷ []) (at + 1) ws (omega arith) (omega arith)) ∙ over_over out at (n ∷ []) ws (at + 1) refl (omega arith))

-- ---- the keys from key i up are left to write, starting at place `at`: they make the output what all keys make it

pub record Writing (t l out₀ out : List ℕ) (at i : ℕ) : Type 0 where
  pub size : length out ≡ length out₀
  pub fits : at + length (key_records (drop i (keys_of t l))) ≤ length out
  pub left : over out at (key_records (drop i (keys_of t l))) ≡ over out₀ 5 (key_records (keys_of t l))

module _ (t l out₀ : List ℕ) where
  pub writing_start : 5 + length (key_records (keys_of t l)) ≤ length out₀ → Writing t l out₀ out₀ 5 0
  writing_start h = record { size = refl; fits = h; left = refl }

  module _ (out : List ℕ) (at i : ℕ) (g : Writing t l out₀ out at i) where
    module _ (h : i < length l) where
      pub writing_room : at + 1 + 4 * length (key_of t (get_or l i 0)) ≤ length out
      writing_room = omega (arith, g.fits, records_less t l i h)

      pub writing_next : (out' : List ℕ) (at' : ℕ) → at' ≡ at + 1 + 4 * length (key_of t (get_or l i 0)) → out' ≡ over out at (length (key_of t (get_or l i 0)) ∷ be_words (key_of t (get_or l i 0)))
          → Writing t l out₀ out' at' (i + 1)
      writing_next out' at' e o =
          let k : List ℕ = key_of t (get_or l i 0) in
          let long = words_size big k in
          let same : length out' ≡ length out = ap length o ∙ over_length out at (length k ∷ be_words k) (omega (arith, writing_room)) in
          record {
            size = same ∙ g.size;
            fits = omega (arith, g.fits, records_less t l i h);
            left = rw o (over_over out at (length k ∷ be_words k) (key_records (drop (i + 1) (keys_of t l))) at' (omega arith) (omega (arith, writing_room)) ∙ ap (over out at) (sym (records_next t l i h)) ∙ g.left);
          }

    pub writing_end : length l ≤ i → out ≡ over out₀ 5 (key_records (keys_of t l))
    writing_end h = sym (over_none out at) ∙ ap (over out at) (sym (records_end t l i h)) ∙ g.left

-- ---- the whole list of the keys ks: version and count turn the output into out₁, and the keys turn that into out₂

module _ (ks : List (List ℕ)) (out : List ℕ) (fits : length (key_list ks) ≤ length out) where
  pub head_room : 5 ≤ length out
  head_room = omega (arith, list_size ks)

  module _ (n : ℕ) (count : n ≡ length ks) (out₁ : List ℕ) (head : out₁ ≡ over out 0 (1 ∷ be_bytes n)) where
    pub keys_room : 5 + length (key_records ks) ≤ length out₁
    unfolding be_bytes
    keys_room = omega (arith, list_size ks, ap length head, over_length out 0 (1 ∷ be_bytes n) head_room)

    pub list_put : (out₂ : List ℕ) → out₂ ≡ over out₁ 5 (key_records ks) → out₂ ≡ over out 0 (key_list ks)
    unfolding key_list be_bytes
    list_put out₂ e =
        e ∙ rw head (over_over out 0 (1 ∷ be_bytes n) (key_records ks) 5 refl head_room)
        ∙ ap (λ (m : ℕ). over out 0 (1 ∷ (be_bytes m ++ key_records ks))) count
