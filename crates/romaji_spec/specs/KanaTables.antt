-- Document 02, request 1: the kana table, which holds a text for each value number.
use Rattle.std.specs.Prelude.{ℕ, zero, suc, ◌+◌, ◌*◌, List, Bool, false, length, take, drop, ltb, Option, Some, None}
use Rattle.lxtr_spec.specs.Numbers.{byte_at}
use Rattle.lxtr_spec.specs.Labels.{labels_of}

-- Per value number from 0 a length byte and that many big-endian labels: where a text ends whose length byte is at a place
unfoldable pub text_end : List ℕ → ℕ → ℕ
text_end kana at = at + 1 + 4 * byte_at kana at

-- where the text of value v begins, with its length byte
unfoldable pub text_at : List ℕ → ℕ → ℕ
text_at kana zero = 0
text_at kana (suc v) = text_end kana (text_at kana v)

-- the bytes of its labels, four to a label
unfoldable pub text_bytes : List ℕ → ℕ → List ℕ
text_bytes kana v = let at = text_at kana v in take (4 * byte_at kana at) (drop (at + 1) kana)

-- its labels
unfoldable pub kana_of : List ℕ → ℕ → List ℕ
kana_of kana v = labels_of (text_bytes kana v)

-- The table ends before the text of v is whole. (A length byte past the end counts as 0, and that text ends past the end too.)
unfoldable pub text_cut : List ℕ → ℕ → Bool
text_cut kana v = ltb (length kana) (text_end kana (text_at kana v))

-- 24: the table ends before the text of some value in the image is whole. (Texts lie one after the other, so it is enough to look at
-- the highest value, if there is one.)
unfoldable pub table_short : List ℕ → Option ℕ → Bool
table_short kana None = false
table_short kana (Some v) = text_cut kana v
