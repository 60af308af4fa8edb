-- Document 01, "Building": key lists, their keys and their refusals 15 to 19.
use Rattle.std.specs.Prelude.{ℕ, zero, suc, ◌+◌, ◌*◌, List, [], ◌∷◌, Bool, ◌&&◌, ◌||◌, not, length, leb, ltb, eqb}
use Rattle.lxtr_spec.specs.Ranges.{any_below}
use Rattle.lxtr_spec.specs.Numbers.{byte_at, be32}
use Rattle.lxtr_spec.specs.Labels.{is_scalar, max_labels, comes_before, Pair}
use Rattle.lxtr_spec.specs.Refusals.{refuse_if, first_refusal}

-- A key list: version byte 1, count in four bytes, then per key a length byte and its labels, big-endian.
unfoldable pub list_version : List ℕ → ℕ
list_version b = byte_at b 0

unfoldable pub key_count : List ℕ → ℕ
key_count b = be32 b 1

-- where the first key starts, and the largest number of keys in a list
abbrev pub keys_at : ℕ
keys_at = 5

abbrev pub max_keys : ℕ
max_keys = 32768

-- the key at a place: its length byte, its label j, and the place after it
unfoldable pub key_length : List ℕ → ℕ → ℕ
key_length b at = byte_at b at

unfoldable pub key_label : List ℕ → ℕ → ℕ → ℕ
key_label b at j = be32 b (at + 1 + 4 * j)

unfoldable pub next_key : List ℕ → ℕ → ℕ
next_key b at = at + 1 + 4 * key_length b at

-- its n labels starting at label j, then all of its labels
unfoldable pub key_labels : List ℕ → ℕ → ℕ → ℕ → List ℕ
key_labels b at zero j = []
key_labels b at (suc n) j = key_label b at j ∷ key_labels b at n (j + 1)

unfoldable pub key_at : List ℕ → ℕ → List ℕ
key_at b at = key_labels b at (key_length b at) 0

-- Key i gets value i: the n keys starting at key i, which is at the place `at`; then all keys.
unfoldable pub keys_from : List ℕ → ℕ → ℕ → ℕ → List Pair
keys_from b zero i at = []
keys_from b (suc n) i at = (key_at b at, i) ∷ keys_from b n (i + 1) (next_key b at)

unfoldable pub pairs_of : List ℕ → List Pair
pairs_of b = keys_from b (key_count b) 0 keys_at

-- 18: a label no scalar
unfoldable pub no_scalar_at : List ℕ → ℕ → ℕ → Bool
no_scalar_at b at j = not (is_scalar (key_label b at j))

-- 19: not above the key before, which is at the place `before`; key 0 has none before it
unfoldable pub not_above : List ℕ → ℕ → ℕ → ℕ → Bool
not_above b i before at = ltb 0 i && not (comes_before (key_at b before) (key_at b at))

-- key by key: 15 no length byte, 17 length above 64, 15 labels cut short, 18 a label no scalar, 19 not above the key before
unfoldable pub key_refusal : List ℕ → ℕ → ℕ → ℕ → ℕ
key_refusal b i before at =
    refuse_if (leb (length b) at) 15
    (refuse_if (ltb max_labels (key_length b at)) 17
    (refuse_if (ltb (length b) (next_key b at)) 15
    (refuse_if (any_below (key_length b at) (no_scalar_at b at)) 18
    (refuse_if (not_above b i before at) 19
    0))))

-- the first of these refusals for the n keys starting at key i; then 15 bytes left over
unfoldable pub keys_refusal : List ℕ → ℕ → ℕ → ℕ → ℕ → ℕ
keys_refusal b zero i before at = refuse_if (ltb at (length b)) 15 0
keys_refusal b (suc n) i before at = let later = keys_refusal b n (i + 1) at (next_key b at) in first_refusal (key_refusal b i before at) later

-- 15 list under 5 bytes or version not 1; 16 count above 32,768; then key by key
unfoldable pub list_refusal : List ℕ → ℕ
list_refusal b =
    let later = keys_refusal b (key_count b) 0 0 keys_at in
    first_refusal (refuse_if (ltb (length b) keys_at || not (eqb (list_version b) 1)) 15 (refuse_if (ltb max_keys (key_count b)) 16 0)) later
