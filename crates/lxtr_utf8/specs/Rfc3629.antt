-- What RFC 3629 says of text in UTF-8, as what has to hold of the labels of any text t.
-- Only the statement; the proof is `rfc3629` in Encoded.antt.
use Rattle.std.specs.Prelude.{ℕ, ◌*◌, ◌≤◌, ◌<◌, ◌≡◌, ◌↔◌, ◌⊎◌, true, length, Some}
use mathlib.Core.List.{List, Memᴰ}
use Rattle.lxtr_spec.specs.Labels.{is_scalar, comes_before}
use Rattle.lxtr_command_spec.specs.Utf8.{text_of, labels_of_text}

pub record Rfc3629 (t : List ℕ) : Type 0 where
  -- A text has the labels xs exactly when all of these are scalar values and the text is their bytes. So it has one reading, and
  -- none with an overlong form, with a surrogate, with a number above 10FFFF, or with bytes missing.
  pub reading : (xs : List ℕ) → (labels_of_text t ≡ Some xs) ↔ (((x : ℕ) → Memᴰ x xs → is_scalar x ≡ true) × (text_of xs ≡ t))
  -- A character has one to four bytes.
  pub octets : (xs : List ℕ) → labels_of_text t ≡ Some xs → (length xs ≤ length t) × (length t ≤ 4 * length xs)
  -- A byte below 80 is the character of that number, and no part of another.
  pub ascii : (xs : List ℕ) → labels_of_text t ≡ Some xs → (b : ℕ) → b < 0x80 → Memᴰ b t → Memᴰ b xs
  -- The bytes C0, C1 and F5 to FF never appear.
  pub never : (xs : List ℕ) → labels_of_text t ≡ Some xs → (b : ℕ) → Memᴰ b t → (b < 0xC0) ⊎ ((0xC2 ≤ b) × (b < 0xF5))
  -- The order of texts by their bytes is the order of their labels.
  pub order : (u xs ys : List ℕ) → labels_of_text t ≡ Some xs → labels_of_text u ≡ Some ys → comes_before xs ys ≡ comes_before t u
