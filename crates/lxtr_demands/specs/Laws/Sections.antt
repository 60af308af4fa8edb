-- The sections of an image read back from the bytes written for its nodes, offsets, children and labels.
use Prim.Native.Nat.{ℕ, zero, suc, ◌+◌, ◌*◌, ◌-◌, ◌/◌, ◌^◌, ◌≤◌, ◌<◌}
use native.Mathlib.Omega.{arith}
use Rattle.std.specs.Prelude.{◌≡◌, ◌⊎◌}
use Rattle.std.proofs.Math.Path.{refl, ap}
use Rattle.std.proofs.Common.{sym, ◌∙◌, inl, inr}
use mathlib.Core.List.{List, [], ◌∷◌, ◌++◌, append_assoc, append-nil}
use Rattle.std.proofs.Math.ListN.{get_or, length, length-append, get_or-append}
use Rattle.std.proofs.Math.Seq.{get_or-append-add}
use Rattle.lxtr_spec.specs.Numbers.{byte_at, le32, be32, le_bytes, be_bytes, le_words, be_words}
use Rattle.lxtr_spec.specs.Image.{magic, version, slot_count, child_count, map_length, map_at, image_length, base_word, check_word, offset, child, map_version, label_count, label_at}
use Rattle.lxtr_spec.specs.Builds.{header_bytes, map_bytes, image_bytes}
use Rattle.lxtr_laws.specs.ByteOrders.{little, big, words_size}
use Rattle.lxtr_laws.specs.ReadBack.{le_first, be_first, le_past, be_past, le_words_lem, be_words_lem}

-- the nodes of N slots, their offsets, the children and the labels fit together, and all are numbers of 32 bits
pub record Sections (N : ℕ) (nodes offsets children labels : List ℕ) : Type 0 where
  pub slots : N < 2 ^ 32
  pub nodes_size : length nodes ≡ 2 * N
  pub nodes_small : (j : ℕ) → j < length nodes → get_or nodes j 0 < 2 ^ 32
  pub offsets_size : length offsets ≡ N + 1
  pub offsets_small : (j : ℕ) → j < length offsets → get_or offsets j 0 < 2 ^ 32
  pub children_few : length children < 2 ^ 32
  pub children_small : (j : ℕ) → j < length children → get_or children j 0 < 2 ^ 32
  pub labels_few : 5 + 4 * length labels < 2 ^ 32
  pub labels_small : (j : ℕ) → j < length labels → get_or labels j 0 < 2 ^ 32

-- what is read from bytes b
pub record SectionsRead (b : List ℕ) (N : ℕ) (nodes offsets children labels : List ℕ) : Type 0 where
  pub magic_is : (i : ℕ) → i < 4 → byte_at b i ≡ byte_at magic i
  pub version_is : version b ≡ 3
  pub reserved : (i : ℕ) → ((5 ≤ i) × (i < 8)) ⊎ ((20 ≤ i) × (i < 24)) → byte_at b i ≡ 0
  pub slots : slot_count b ≡ N
  pub children_count : child_count b ≡ length children
  pub is_map_length : map_length b ≡ 5 + 4 * length labels
  pub size : length b ≡ image_length b
  pub base_of : (s : ℕ) → s < N → base_word b s ≡ get_or nodes (2 * s) 0
  pub is_check_of : (s : ℕ) → s < N → check_word b s ≡ get_or nodes (2 * s + 1) 0
  pub offset_of : (p : ℕ) → p ≤ N → offset b p ≡ get_or offsets p 0
  pub child_of : (j : ℕ) → j < length children → child b j ≡ get_or children j 0
  pub is_map_version : map_version b ≡ 1
  pub labels_count : label_count b ≡ length labels
  pub label_of : (i : ℕ) → i < length labels → label_at b i ≡ get_or labels i 0

module _ (N : ℕ) (nodes offsets children labels : List ℕ) (s : Sections N nodes offsets children labels) where
  abbrev M : ℕ
  M = 5 + 4 * length labels

  -- the bytes, part by part
  abbrev header : List ℕ
  header = header_bytes N (length children) M

  abbrev after_nodes : List ℕ
  after_nodes = le_words offsets ++ (le_words children ++ map_bytes labels)

  abbrev made : List ℕ
  made = header ++ (le_words nodes ++ (le_words offsets ++ (le_words children ++ map_bytes labels)))

  made_is : image_bytes nodes offsets children labels ≡ made
  unfolding image_bytes
  made_is = let e : length nodes / 2 ≡ N = omega (arith, s.nodes_size) in ap (λ (n : ℕ). header_bytes n (length children) M ++ (le_words nodes ++ after_nodes)) e

  header_length_lem : length header ≡ 24
  unfolding header_bytes magic le_words le_bytes
  header_length_lem = refl

  header_byte : (i : ℕ) → i < 24 → byte_at made i ≡ byte_at header i
  header_byte i h = get_or-append header (le_words nodes ++ after_nodes) 0 i (omega (arith, header_length_lem))

  magic_read : (i : ℕ) → i < 4 → byte_at made i ≡ byte_at magic i
  unfolding header_bytes magic
  magic_read i h = header_byte i (omega arith) ∙ get_or-append magic (3 ∷ 0 ∷ 0 ∷ 0 ∷ le_words (N ∷ length children ∷ M ∷ 0 ∷ [])) 0 i h

  after_version : (k : ℕ) → k < 3 → byte_at header (5 + k) ≡ 0
  unfolding header_bytes magic
  after_version zero h = refl
  after_version (suc zero) h = refl
  after_version (suc (suc zero)) h = refl
  after_version (suc (suc (suc k))) h = absurd (omega arith)

  after_sizes : (k : ℕ) → k < 4 → byte_at header (20 + k) ≡ 0
  unfolding header_bytes magic le_words le_bytes
  after_sizes zero h = refl
  after_sizes (suc zero) h = refl
  after_sizes (suc (suc zero)) h = refl
  after_sizes (suc (suc (suc zero))) h = refl
  after_sizes (suc (suc (suc (suc k)))) h = absurd (omega arith)

  reserved_read : (i : ℕ) → ((5 ≤ i) × (i < 8)) ⊎ ((20 ≤ i) × (i < 24)) → byte_at made i ≡ 0
  reserved_read i (inl h) = let e : i ≡ 5 + (i - 5) = omega arith in header_byte i (omega arith) ∙ ap (byte_at header) e ∙ after_version (i - 5) (omega arith)
  reserved_read i (inr h) = let e : i ≡ 20 + (i - 20) = omega arith in header_byte i h.1 ∙ ap (byte_at header) e ∙ after_sizes (i - 20) (omega arith)

  number_read : version made ≡ 3
  unfolding version header_bytes magic
  number_read = refl

  slots_read : slot_count made ≡ N
  unfolding slot_count header_bytes magic le_words le_bytes le32
  slots_read = le_first N [] s.slots

  children_read : child_count made ≡ length children
  unfolding child_count header_bytes magic le_words le_bytes le32
  children_read = le_first (length children) [] s.children_few

  map_read : map_length made ≡ M
  unfolding map_length header_bytes magic le_words le_bytes le32
  map_read = le_first M [] s.labels_few

  -- the numbers of the nodes, of the offsets and of the children
  past_header : (i : ℕ) → le32 made (24 + i) ≡ le32 (le_words nodes ++ after_nodes) i
  past_header i = ap (λ (n : ℕ). le32 made (n + i)) (sym header_length_lem) ∙ le_past header (le_words nodes ++ after_nodes) i

  node_read : (j : ℕ) → j < 2 * N → le32 made (24 + 4 * j) ≡ get_or nodes j 0
  node_read j h = past_header (4 * j) ∙ le_words_lem nodes after_nodes j (omega (arith, s.nodes_size)) (s.nodes_small j (omega (arith, s.nodes_size)))

  base_read : (t : ℕ) → t < N → base_word made t ≡ get_or nodes (2 * t) 0
  unfolding base_word
  base_read t h = let e : 24 + 8 * t ≡ 24 + 4 * (2 * t) = omega arith in ap (le32 made) e ∙ node_read (2 * t) (omega arith)

  check_read : (t : ℕ) → t < N → check_word made t ≡ get_or nodes (2 * t + 1) 0
  unfolding check_word
  check_read t h = let e : 24 + 8 * t + 4 ≡ 24 + 4 * (2 * t + 1) = omega arith in ap (le32 made) e ∙ node_read (2 * t + 1) (omega arith)

  past_nodes : (i : ℕ) → le32 made (24 + 8 * N + i) ≡ le32 after_nodes i
  past_nodes i =
      let e : 24 + 8 * N + i ≡ 24 + (length (le_words nodes) + i) = omega (arith, words_size little nodes, s.nodes_size) in
      ap (le32 made) e ∙ past_header (length (le_words nodes) + i) ∙ le_past (le_words nodes) after_nodes i

  offset_read : (p : ℕ) → p ≤ N → offset made p ≡ get_or offsets p 0
  unfolding offset
  offset_read p h =
      let e : 24 + 8 * slot_count made + 4 * p ≡ 24 + 8 * N + 4 * p = ap (λ (n : ℕ). 24 + 8 * n + 4 * p) slots_read in
      ap (le32 made) e ∙ past_nodes (4 * p) ∙ le_words_lem offsets (le_words children ++ map_bytes labels) p (omega (arith, s.offsets_size)) (s.offsets_small p (omega (arith, s.offsets_size)))

  child_read : (j : ℕ) → j < length children → child made j ≡ get_or children j 0
  unfolding child
  child_read j h =
      let e : 24 + 8 * slot_count made + 4 * (slot_count made + 1) + 4 * j ≡ 24 + 8 * N + (length (le_words offsets) + 4 * j) = omega (arith, slots_read, words_size little offsets, s.offsets_size) in
      ap (le32 made) e ∙ past_nodes (length (le_words offsets) + 4 * j) ∙ le_past (le_words offsets) (le_words children ++ map_bytes labels) (4 * j)
      ∙ le_words_lem children (map_bytes labels) j h (s.children_small j h)

  -- the code map, which is the last part
  front : List ℕ
  front = header ++ (le_words nodes ++ (le_words offsets ++ le_words children))

  front_length_lem : length front ≡ map_at made
  unfolding front
  front_length_lem = simp length-append (omega (arith, header_length_lem, slots_read, children_read, words_size little nodes, s.nodes_size, words_size little offsets, s.offsets_size, words_size little children))

  front_map : made ≡ front ++ map_bytes labels
  unfolding front
  front_map = simp append_assoc

  map_word : (i : ℕ) → be32 made (map_at made + i) ≡ be32 (map_bytes labels) i
  map_word i = ap (λ (n : ℕ). be32 made (n + i)) (sym front_length_lem) ∙ ap (λ (l : List ℕ). be32 l (length front + i)) front_map ∙ be_past front (map_bytes labels) i

  labels_read : label_count made ≡ length labels
  unfolding label_count map_bytes be32 be_bytes
  labels_read = map_word 1 ∙ be_first (length labels) (be_words labels) (omega (arith, s.labels_few))

  label_read : (i : ℕ) → i < length labels → label_at made i ≡ get_or labels i 0
  unfolding label_at map_bytes be_bytes
  label_read i h =
      let e : map_at made + 5 + 4 * i ≡ map_at made + (5 + 4 * i) = omega arith in
      ap (be32 made) e ∙ map_word (5 + 4 * i) ∙ be_past (1 ∷ be_bytes (length labels)) (be_words labels) (4 * i) ∙ ap (λ (l : List ℕ). be32 l (4 * i)) (sym (append-nil (be_words labels))) ∙ be_words_lem labels [] i h (s.labels_small i h)

  version_read : map_version made ≡ 1
  unfolding map_version map_bytes
  version_read =
      let e : map_at made ≡ length front + 0 = omega (arith, front_length_lem) in
      ap (λ (n : ℕ). get_or made n 0) e ∙ ap (λ (l : List ℕ). get_or l (length front + 0) 0) front_map ∙ get_or-append-add front (map_bytes labels) 0 0

  size_read : length made ≡ image_length made
  unfolding map_bytes be_bytes
  size_read =
      ap (λ (l : List ℕ). length l) front_map ∙ length-append front (map_bytes labels)
      ∙ omega (arith, front_length_lem, map_read, length-append (be_bytes (length labels)) (be_words labels), words_size big labels)

  pub sections_read : SectionsRead (image_bytes nodes offsets children labels) N nodes offsets children labels
  sections_read = rw made_is (record {
    magic_is = magic_read;
    version_is = number_read;
    reserved = reserved_read;
    slots = slots_read;
    children_count = children_read;
    is_map_length = map_read;
    size = size_read;
    base_of = base_read;
    is_check_of = check_read;
    offset_of = offset_read;
    child_of = child_read;
    is_map_version = version_read;
    labels_count = labels_read;
    label_of = label_read;
  })
