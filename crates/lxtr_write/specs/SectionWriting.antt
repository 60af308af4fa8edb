-- The sections of the image, each written after the one before it.
use Rattle.std.specs.Prelude.{ℕ, ◌+◌, ◌*◌, ◌/◌, ◌≤◌, ◌<◌, ◌≡◌, List, ◌∷◌, ◌++◌, take, get_or}
use native.Mathlib.Omega.{arith}
use Rattle.std.proofs.Math.Path.{refl}
use Rattle.std.proofs.Common.{sym, ap, ◌∙◌, append_assoc, length-take-le}
use Rattle.std.proofs.Math.ListN.{length, length-append}
use Rattle.std.proofs.Math.Seq.{take-length}
use Rattle.lxtr_spec.specs.Ranges.{count_below}
use Rattle.lxtr_spec.specs.Numbers.{le_bytes, be_bytes, le_words, be_words}
use Rattle.lxtr_spec.specs.Labels.{max_listed, Pair}
use Rattle.lxtr_spec.specs.Image.{magic, header_length, nodes_at}
use Rattle.lxtr_spec.specs.Placing.{is_taken_from2}
use Rattle.lxtr_spec.specs.Builds.{header_bytes, map_bytes, image_bytes, image_in, children_in, offsets_from, slots_used, slots_in}
use Rattle.lxtr_laws.specs.ByteOrders.{little, big, words_size}
use Rattle.lxtr_laws.specs.Overlays.{over, over_over, WordsIn, words_next, words_end}
use Rattle.lxtr_build_laws.specs.CodeTables.{picked, CodeTables}
use Rattle.lxtr_build_laws.specs.TableCodes.{picked_length, picked_at}
use Rattle.lxtr_build_laws.specs.ChildLists.{offsets_length}
use Rattle.lxtr_build_laws.specs.UsedSlots.{used_low, used_high, taken_few}
use Rattle.lxtr_write.specs.SlotCounting.{Slots}

-- the order gives a place in the table of labels for each code
pub record MapOrder (labels order : List ℕ) : Type 0 where
  pub few : length labels ≤ max_listed
  pub size : length order ≡ length labels
  pub inside : (i : ℕ) → i < length order → get_or order i 0 < length labels

-- the tables of a code map are such
pub ordered : {ps : List Pair} {labels codes order : List ℕ} → CodeTables ps labels codes order → MapOrder labels order
ordered t = record { few = t.few; size = t.order_size; inside = t.order_in }

-- E is the number of children of N slots, where codes go up to L; it is at most N
pub record Counted (w : List ℕ) (N E L : ℕ) : Type 0 where
  pub count : length (children_in w N L) ≡ E
  pub few : E ≤ N

-- 24 + 8N + 4(N + 1) + 4E + M
abbrev pub size_of : ℕ → ℕ → ℕ → ℕ
size_of N E L = header_length + 8 * N + 4 * (N + 1) + 4 * E + (5 + 4 * L)

-- the work is filled: it has as many children as taken slots from 2 up
pub record ImageReady (w labels order : List ℕ) : Type 0 where
  pub room : 4 ≤ length w
  pub map_order : MapOrder labels order
  pub children : length (children_in w (slots_used w (slots_in (length w))) (length order)) ≡ count_below (slots_used w (slots_in (length w))) (is_taken_from2 w)

-- bytes written after those at the output's front
module _ (out : List ℕ) (xs : List ℕ) where
  behind : (out' out'' : List ℕ) (i : ℕ) (ys : List ℕ) → i ≡ length xs → length xs ≤ length out → out' ≡ over out 0 xs → out'' ≡ over out' i ys → out'' ≡ over out 0 (xs ++ ys)
  behind out' out'' i ys e h p q = q ∙ rw p (over_over out 0 xs ys i (omega arith) (omega arith))

-- the header: `LXTR`, and five numbers after it
pub header_put : (out a b c d e f : List ℕ) (N E M : ℕ) → header_length ≤ length out
    → a ≡ over out 0 magic → b ≡ over a 4 (le_bytes 3) → c ≡ over b 8 (le_bytes N) → d ≡ over c 12 (le_bytes E) → e ≡ over d 16 (le_bytes M) → f ≡ over e 20 (le_bytes 0)
    → f ≡ over out 0 (header_bytes N E M)
unfolding header_bytes magic le_words le_bytes
header_put out a b c d e f N E M room p q r s t u =
    behind out _ e f 20 (le_bytes 0) refl (omega arith)
    (behind out _ d e 16 (le_bytes M) refl (omega arith)
    (behind out _ c d 12 (le_bytes E) refl (omega arith)
    (behind out _ b c 8 (le_bytes N) refl (omega arith)
    (behind out magic a b 4 (le_bytes 3) refl (omega arith) p q) r) s) t) u

-- the nodes
pub nodes_next : (w : List ℕ) (N n : ℕ) (out out' out'' : List ℕ) (i : ℕ) → Slots w N → nodes_at + 8 * N ≤ length out → n ≡ 2 * N → WordsIn le_words out w nodes_at i out'
    → i < n → out'' ≡ over out' (nodes_at + 4 * i) (le_bytes (get_or w i 0)) → WordsIn le_words out w nodes_at (i + 1) out''
nodes_next w N n out out' out'' i s room all before h q = words_next little out w nodes_at (2 * N) (omega arith) s.inside i out' before out'' (omega arith) q

pub nodes_end : (w : List ℕ) (N n : ℕ) (out out' : List ℕ) (i : ℕ) → n ≡ 2 * N → WordsIn le_words out w nodes_at i out' → i ≤ n → n ≤ i → out' ≡ over out nodes_at (le_words (take (2 * N) w))
nodes_end w N n out out' i all before h l = words_end little out w nodes_at (2 * N) i out' before (omega arith) (omega arith)

-- the label at place j of the code map: x, the number at place j of the order, is its place in the table of labels
module _ (labels order : List ℕ) (m : MapOrder labels order) (j : ℕ) (h : j < length order) where
  module _ (x : ℕ) (is : x ≡ get_or order j 0) where
    pub label_listed : get_or labels x 0 ≡ get_or (picked labels order) j 0
    label_listed = rw is (sym (picked_at labels order j h))

pub label_next : (labels order out : List ℕ) (at j x : ℕ) (out' out'' : List ℕ) → at + 4 * length order ≤ length out → WordsIn be_words out (picked labels order) at j out'
    → j < length order → x ≡ get_or (picked labels order) j 0 → out'' ≡ over out' (at + 4 * j) (be_bytes x) → WordsIn be_words out (picked labels order) at (j + 1) out''
label_next labels order out at j x out' out'' room before h is q =
    words_next big out (picked labels order) at (length order) room (omega (arith, picked_length labels order)) j out' before out'' h (rw is at q)

pub labels_end : (labels order out : List ℕ) (at j : ℕ) (out' : List ℕ) → j ≤ length order → length order ≤ j → WordsIn be_words out (picked labels order) at j out'
    → out' ≡ over out at (be_words (picked labels order))
labels_end labels order out at j out' h l p =
    let e : j ≡ length (picked labels order) = omega (arith, picked_length labels order) in
    p ∙ ap (λ (xs : List ℕ). over out at (be_words xs)) (ap (λ (k : ℕ). take k (picked labels order)) e ∙ take-length (picked labels order))

-- the code map: version and count, and the labels after them
pub map_put : (out a b labels order : List ℕ) (at : ℕ) → at + 5 + 4 * length order ≤ length out
    → a ≡ over out at (1 ∷ be_bytes (length order)) → b ≡ over a (at + 5) (be_words (picked labels order)) → b ≡ over out at (map_bytes (picked labels order))
unfolding map_bytes
map_put out a b labels order at room p q =
    let four = big.four (length order) in
    q ∙ rw (p, picked_length labels order) (over_over out at (1 ∷ be_bytes (length order)) (be_words (picked labels order)) (at + 5) (omega arith) (omega arith))

-- all sections, and their length
module _ (w : List ℕ) (N E : ℕ) (labels order : List ℕ) (s : Slots w N) (k : Counted w N E (length order)) where
  header : List ℕ
  header = header_bytes N E (5 + 4 * length order)

  nodes : List ℕ
  nodes = le_words (take (2 * N) w)

  lists : List ℕ
  lists = le_words (offsets_from w N (length order) N 0 0) ++ le_words (children_in w N (length order))

  map : List ℕ
  map = map_bytes (picked labels order)

  header_size : length header ≡ header_length
  unfolding header header_bytes magic le_words le_bytes
  header_size = refl

  node_count : length (take (2 * N) w) ≡ 2 * N
  node_count = length-take-le (2 * N) w s.inside

  nodes_size : length nodes ≡ 8 * N
  unfolding nodes
  nodes_size = omega (arith, words_size little (take (2 * N) w), node_count)

  lists_size : length lists ≡ 4 * (N + 1) + 4 * E
  unfolding lists
  lists_size =
      let offsets = offsets_from w N (length order) N 0 0 in
      let children = children_in w N (length order) in
      omega (arith, length-append (le_words offsets) (le_words children), words_size little offsets, words_size little children, offsets_length w N (length order) N 0 0, k.count)

  map_size : length map ≡ 5 + 4 * length order
  unfolding map map_bytes
  map_size =
      let m = picked labels order in
      omega (arith, length-append (be_bytes (length m)) (be_words m), big.four (length m), words_size big m, picked_length labels order)

  sections : image_in w N (picked labels order) ≡ header ++ nodes ++ lists ++ map
  unfolding image_in image_bytes header nodes lists map
  sections =
      let half : length (take (2 * N) w) / 2 ≡ N = omega (arith, node_count) in
      rw (picked_length labels order, half, k.count) (simp append_assoc)

  pub is_image_length : length (image_in w N (picked labels order)) ≡ size_of N E (length order)
  is_image_length = rw sections (omega (arith, length-append (header ++ nodes ++ lists) map, length-append (header ++ nodes) lists, length-append header nodes, header_size, nodes_size, lists_size, map_size))

  pub image_put : (out a b c d : List ℕ) → size_of N E (length order) ≤ length out
      → a ≡ over out 0 (header_bytes N E (5 + 4 * length order)) → b ≡ over a nodes_at (le_words (take (2 * N) w))
      → c ≡ over b (nodes_at + 8 * N) (le_words (offsets_from w N (length order) N 0 0) ++ le_words (children_in w N (length order)))
      → d ≡ over c (nodes_at + 8 * N + 4 * (N + 1) + 4 * E) (map_bytes (picked labels order))
      → d ≡ over out 0 (image_in w N (picked labels order))
  unfolding header nodes lists map
  image_put out a b c d room p q r t =
      let h = header_size in
      let n = nodes_size in
      let l = lists_size in
      let hn = length-append header nodes in
      let hnl = length-append (header ++ nodes) lists in
      rw sections
      (behind out (header ++ nodes ++ lists) c d (nodes_at + 8 * N + 4 * (N + 1) + 4 * E) map (omega arith) (omega arith)
      (behind out (header ++ nodes) b c (nodes_at + 8 * N) lists (omega arith) (omega arith)
      (behind out header a b nodes_at nodes (omega arith) (omega arith) p q) r) t)

-- the slots that the work allows, and those that are used
module _ (w : List ℕ) (S : ℕ) (is : S ≡ slots_in (length w)) (room : 4 ≤ length w) where
  pub slots_enough : 2 ≤ S
  unfolding slots_in
  slots_enough = omega arith

  pub slots_inside : Slots w S
  unfolding slots_in
  slots_inside = record { enough = omega arith; inside = omega arith; few = omega arith }

  module _ (N : ℕ) (used : N ≡ slots_used w S) where
    pub slots_of_image : Slots w N
    slots_of_image = let t = used_high w S slots_enough in let i = slots_inside in record { enough = omega (arith, used, used_low w S); inside = omega (arith, i.inside); few = omega (arith, i.few) }

    pub children_counted : (labels order : List ℕ) (E : ℕ) → ImageReady w labels order → E ≡ count_below N (is_taken_from2 w) → Counted w N E (length order)
    children_counted labels order E r e =
        let same : N ≡ slots_used w (slots_in (length w)) = used ∙ ap (slots_used w) is in
        record {
          count = ap (λ (n : ℕ). length (children_in w n (length order))) same ∙ r.children ∙ sym (e ∙ ap (λ (n : ℕ). count_below n (is_taken_from2 w)) same);
          few = omega (arith, used, used_low w S, taken_few w N (omega (arith, used, used_low w S)));
        }
