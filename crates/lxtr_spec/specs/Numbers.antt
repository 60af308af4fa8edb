-- Numbers of 32 bits as four bytes: little-endian in an image, big-endian in its code map, in queries, key lists and listings.
use Rattle.std.specs.Prelude.{ℕ, ◌+◌, ◌*◌, ◌/◌, ◌%◌, ◌^◌, List, [], ◌∷◌, ◌++◌, get_or}

-- the byte at a place; 0 past the end
abbrev pub byte_at : List ℕ → ℕ → ℕ
byte_at b i = get_or b i 0

-- Numbers outside the code map are 32 bits, little-endian: the number at a place
unfoldable pub le32 : List ℕ → ℕ → ℕ
le32 b i = byte_at b i + byte_at b (i + 1) * 2 ^ 8 + byte_at b (i + 2) * 2 ^ 16 + byte_at b (i + 3) * 2 ^ 24

-- the big-endian number at a place
unfoldable pub be32 : List ℕ → ℕ → ℕ
be32 b i = byte_at b i * 2 ^ 24 + byte_at b (i + 1) * 2 ^ 16 + byte_at b (i + 2) * 2 ^ 8 + byte_at b (i + 3)

-- the four bytes of a number, lowest byte first
unfoldable pub le_bytes : ℕ → List ℕ
le_bytes n = n % 256 ∷ n / 2 ^ 8 % 256 ∷ n / 2 ^ 16 % 256 ∷ n / 2 ^ 24 % 256 ∷ []

-- the same, highest byte first
unfoldable pub be_bytes : ℕ → List ℕ
be_bytes n = n / 2 ^ 24 % 256 ∷ n / 2 ^ 16 % 256 ∷ n / 2 ^ 8 % 256 ∷ n % 256 ∷ []

-- the bytes of several numbers, one after the other
unfoldable pub le_words : List ℕ → List ℕ
le_words [] = []
le_words (x ∷ xs) = le_bytes x ++ le_words xs

unfoldable pub be_words : List ℕ → List ℕ
be_words [] = []
be_words (x ∷ xs) = be_bytes x ++ be_words xs
