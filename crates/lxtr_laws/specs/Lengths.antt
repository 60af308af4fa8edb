-- How long records and listings are: what document 01 counts, 5 bytes and four for each label, and 5 more for version and count.
use Rattle.std.specs.Prelude.{ℕ, ◌+◌, ◌*◌, ◌≤◌, ◌≡◌, refl, List, [], ◌∷◌, length}
use Rattle.std.proofs.Common.{arith, length-append}
use Rattle.lxtr_spec.specs.Numbers.{be_bytes, be_words}
use Rattle.lxtr_spec.specs.Labels.{Pair}
use Rattle.lxtr_laws.specs.ByteOrders.{big, words_size}
use Rattle.lxtr_spec.specs.Completions.{record_of, records_of, listing_of, room_for}

pub words_length : (l : List ℕ) → length (be_words l) ≡ 4 * length l
words_length = words_size big

pub record_length : (p : Pair) → length (record_of p) ≡ 5 + 4 * length p.0
unfolding record_of be_bytes
record_length p = omega (arith, length-append (be_words p.0) (be_bytes p.1), words_length p.0)

pub records_length : (ps : List Pair) → 5 + length (records_of ps) ≡ room_for ps
unfolding records_of room_for
records_length [] = refl
records_length (p ∷ ps) = omega (arith, length-append (record_of p) (records_of ps), record_length p, records_length ps)

pub listing_length : (ps : List Pair) → length (listing_of ps) ≡ room_for ps
unfolding listing_of be_bytes
listing_length ps = omega (arith, records_length ps)

pub room_from : (ps : List Pair) → 5 ≤ room_for ps
room_from ps = omega (arith, records_length ps)
