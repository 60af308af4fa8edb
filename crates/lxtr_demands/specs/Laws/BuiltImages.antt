-- If the pairs of a key list are placed in a work, the image of that work is an image of the set of these pairs.
use Rattle.std.specs.Prelude.{ℕ, ◌+◌, ◌*◌, ◌-◌, ◌/◌, ◌%◌, ◌^◌, ◌≤◌, ◌<◌, ◌≡◌, refl, true, ◌&&◌, not, leb, length, take, replicate, Some}
use Rattle.std.proofs.Math.Decide.{ℕ_discrete}
use native.Mathlib.Omega.{arith}
use Rattle.std.proofs.Math.Path.{sym, subst}
use Rattle.std.proofs.Common.{ap, ◌∙◌, get_or-take, length-take-le}
use mathlib.Core.List.Memᴰ
use mathlib.Core.List.{List, ◌∷◌, ◌++◌, Memᴰ}
use Rattle.std.proofs.Math.ListN.{get_or}
use Rattle.lxtr_spec.specs.Labels.{is_scalar, max_slots, max_listed, Pair}
use Rattle.lxtr_spec.specs.Image.{label_of_code}
use Rattle.lxtr_spec.specs.CodeMaps.{map_of, code_in, label_with}
use Rattle.lxtr_spec.specs.Placing.{base_at, check_at}
use Rattle.lxtr_spec.specs.Builds.{slots_used, children_of, children_in, offsets_from, image_in, slots_in, placed_in}
use Rattle.lxtr_spec.specs.Sets.{Has, Listed, Framed, KeysFit, ImageOf}
use Rattle.lxtr_laws.specs.Tests.{and_is_true, leb_is_true}
use Rattle.lxtr_laws.specs.Members.{member_at}
use Rattle.lxtr_laws.specs.RangeTests.{concat_front}
use Rattle.lxtr_build_laws.specs.KeyListFacts.{KeysRight}
use Rattle.lxtr_build_laws.specs.UsedLabels.{Uses}
use Rattle.lxtr_build_laws.specs.Maps.{map_members, map_once, label_place, code_only}
use Rattle.lxtr_build_laws.specs.PairSets.{set_of, set_members}
use Rattle.lxtr_build_laws.specs.ChildLists.{all_mem, offsets_length, offset_at}
use Rattle.lxtr_build_laws.specs.UsedSlots.{used_low, used_high, taken_few}
use Rattle.lxtr_build_laws.specs.Filled.{Filled}
use Rattle.lxtr_build_laws.specs.Filling.{Filling, filled_size, filling}
use Rattle.lxtr_build_laws.specs.FilledWork.{prefix_slot, end_slot, filled}
use Rattle.lxtr_build_laws.specs.ListTotals.{children_count}
use Rattle.lxtr_demands.specs.Laws.Sections.{Sections, SectionsRead, sections_read}
use Rattle.lxtr_demands.specs.Laws.WorkSlots.{WordsOf, work_placed}
use Rattle.lxtr_demands.specs.Laws.WorkLists.{start_of, ListsOf, lists_fit}

pub scalar_small : (x : ℕ) → is_scalar x ≡ true → x < 2 ^ 32
unfolding is_scalar
scalar_small x e = omega (arith, (leb_is_true x 0x10FFFF).0 ((and_is_true (leb x 0x10FFFF) (not (leb 0xD800 x && leb x 0xDFFF))).0 e).0)

module _ (W : ℕ) (ps : List Pair) (w : List ℕ) (words : 4 ≤ W) (right : KeysRight ps) (few : length (map_of ps) ≤ max_listed) (placed : placed_in W ps (map_of ps) ≡ Some w) where
  abbrev m : List ℕ
  m = map_of ps

  abbrev L : ℕ
  L = length (map_of ps)

  abbrev N : ℕ
  N = slots_used w (slots_in W)

  abbrev image : List ℕ
  image = image_in w N m

  fill : Filling (slots_in W) L (code_in m) (label_with m) ps (replicate W 0) w
  fill = filling W ps w words right placed

  full : Filled N L (set_of ps) w (code_in m) (prefix_slot (code_in m) w) (end_slot (code_in m) w)
  full = filled fill

  -- ---- sizes

  slots_from : 2 ≤ N
  slots_from = used_low w (slots_in W)

  slots_to : N ≤ max_slots
  slots_to = omega (arith, used_high w (slots_in W) fill.low, fill.high)

  nodes_room : 2 * N ≤ length w
  nodes_room = omega (arith, filled_size fill, fill.room, used_high w (slots_in W) fill.low)

  children_few : length (children_in w N L) + 2 ≤ N
  children_few = omega (arith, children_count W ps w words right placed, taken_few w N slots_from)

  -- ---- the sections are numbers of 32 bits

  word_small : (j : ℕ) → get_or w j 0 < 2 ^ 32
  unfolding base_at check_at
  word_small j = go (ℕ_discrete (j % 2) 0)
    where
      go : Dec (j % 2 ≡ 0) → get_or w j 0 < 2 ^ 32
      go (yes e) = let h : 2 * (j / 2) ≡ j = omega arith in subst (λ (n : ℕ). get_or w n 0 < 2 ^ 32) h (full.small (j / 2)).0
      go (no e) = let h : 2 * (j / 2) + 1 ≡ j = omega arith in subst (λ (n : ℕ). get_or w n 0 < 2 ^ 32) h (full.small (j / 2)).1

  node_at : (j : ℕ) → j < 2 * N → get_or (take (2 * N) w) j 0 ≡ get_or w j 0
  node_at j h = get_or-take (2 * N) w j 0 h

  start_most : (p : ℕ) → p ≤ N → start_of w N L p ≤ length (children_in w N L)
  unfolding children_in
  start_most p h = concat_front (children_of w N L) 0 p N h

  label_scalar : (i : ℕ) → i < L → is_scalar (get_or m i 0) ≡ true
  label_scalar i h = let u = (map_members ps (get_or m i 0)).0 (member_at 0 m i h) in right.scalar u.0 u.1 (get_or m i 0) u.2

  sections : Sections N (take (2 * N) w) (offsets_from w N L N 0 0) (children_in w N L) m
  sections = record {
    slots = omega (arith, slots_to);
    nodes_size = length-take-le (2 * N) w nodes_room;
    nodes_small = λ j h. omega (arith, node_at j (omega (arith, length-take-le (2 * N) w nodes_room)), word_small j);
    offsets_size = offsets_length w N L N 0 0;
    offsets_small = λ j h. (let l : j ≤ N = omega (arith, offsets_length w N L N 0 0) in omega (arith, offset_at w N L j l, start_most j l, children_few, slots_to));
    children_few = omega (arith, children_few, slots_to);
    children_small = λ j h. omega (arith, (all_mem w N L (get_or (children_in w N L) j 0) (member_at 0 (children_in w N L) j h)).2.child.to, slots_to);
    labels_few = omega arith;
    labels_small = λ i h. scalar_small (get_or m i 0) (label_scalar i h);
  }

  -- ---- what is read

  read : SectionsRead image N (take (2 * N) w) (offsets_from w N L N 0 0) (children_in w N L) m
  unfolding image_in
  read = sections_read N (take (2 * N) w) (offsets_from w N L N 0 0) (children_in w N L) m sections

  read_words : WordsOf image w N
  unfolding base_at check_at
  read_words = record {
    slots = read.slots;
    base_of = λ s h. read.base_of s h ∙ node_at (2 * s) (omega arith);
    is_check_of = λ s h. read.is_check_of s h ∙ node_at (2 * s + 1) (omega arith);
  }

  read_lists : ListsOf image w N L
  read_lists = record { words = read_words; count = read.children_count; offset_of = λ p h. read.offset_of p h ∙ offset_at w N L p h; child_of = read.child_of }

  -- ---- the image

  framed : Framed image
  framed = record {
    magic_bytes = read.magic_is;
    version_is = read.version_is;
    reserved = read.reserved;
    slots = (omega (arith, read.slots, slots_from), omega (arith, read.slots, slots_to));
    children = omega (arith, read.slots, read.children_count, children_few);
    size = read.size;
    is_map_version = read.is_map_version;
    labels = omega (arith, read.labels_count);
    map_size = omega (arith, read.labels_count, read.is_map_length);
    scalar = λ i h. (let l : i < L = omega (arith, read.labels_count) in ap is_scalar (read.label_of i l) ∙ label_scalar i l);
    distinct = λ i j h k e.
        let a : i < L = omega (arith, read.labels_count) in
        let b : j < L = omega (arith, read.labels_count) in
        map_once ps i j a b (sym (read.label_of i a) ∙ e ∙ read.label_of j b);
  }

  listed : (x : ℕ) → Uses ps x → Listed image x (code_in m x)
  unfolding label_of_code
  listed x u =
      let (from, to, back) = fill.known x u in
      record { from = from; to = omega (arith, read.labels_count); label = read.label_of (code_in m x - 1) (omega arith) ∙ sym (label_place m (code_in m x) from) ∙ back }

  code_is : (x c : ℕ) → Listed image x c → code_in m x ≡ c
  unfolding label_of_code
  code_is x c l =
      let to : c ≤ L = omega (arith, l.to, read.labels_count) in
      code_only m x c (map_once ps) l.from to (sym (read.label_of (c - 1) (omega (arith, l.from))) ∙ l.label)

  is_member : (k : List ℕ) (v : ℕ) → Has (set_of ps) k v → Memᴰ (k, v) ps
  is_member k v h = (set_members ps right.ascending k v).0 h

  keys_fit : KeysFit image (set_of ps)
  keys_fit = record {
    is_key_length = λ k v h. right.short (k, v) (is_member k v h);
    key_value = λ k v h. right.small (k, v) (is_member k v h);
    is_key_label = λ p x r v h. (code_in m x, listed x ((p ++ x ∷ r, v), is_member (p ++ x ∷ r) v h, Memᴰ.append_right p (Memᴰ.head refl)));
  }

  pub image_of_work : ImageOf image (set_of ps)
  image_of_work = record {
    framed = framed;
    keys = keys_fit;
    slot = prefix_slot (code_in m) w;
    end = end_slot (code_in m) w;
    placed = work_placed full read_words (λ p x c g l. code_is x c l);
    lists = lists_fit read_lists (omega (arith, slots_from)) full.listed;
  }
