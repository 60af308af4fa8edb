-- Bytes that hold the words of a filled work: their slots are those of an image of the set.
use Rattle.std.specs.Prelude.{ℕ, ◌+◌, ◌^◌, ◌<◌, ◌≡◌, refl, ◌≢◌, ◌↔◌, List, [], ◌∷◌, ◌++◌, true, false}
use native.Mathlib.Omega.{arith}
use Rattle.std.proofs.Common.{sym, ◌∙◌}
use Rattle.std.proofs.Math.Path.{ap, ap₂}
use borrow.Author.Tests.{le-leb, lt-leb}
use Rattle.lxtr_spec.specs.Joining.{slot_under}
use Rattle.lxtr_spec.specs.Image.{slot_count, base_word, check_word, top_bit, low31, is_leaf, has_leaf, parent, base, value_number, slot_from}
use Rattle.lxtr_spec.specs.Placing.{base_at, check_at}
use Rattle.lxtr_spec.specs.Sets.{PairSet, Has, Prefix, Listed, Placed}
use Rattle.lxtr_laws.specs.KeyPrefixes.{prefix_root, prefix_key, prefix_part}
use Rattle.lxtr_build_laws.specs.SlotWords.{parent_at}
use Rattle.lxtr_build_laws.specs.Filled.{WorkSlot, of_prefix, of_end, of_none, Filled}

-- the bytes b have the words of the first N slots of w
pub record WordsOf (b w : List ℕ) (N : ℕ) : Type 0 where
  pub slots : slot_count b ≡ N
  pub base_of : (s : ℕ) → s < N → base_word b s ≡ base_at w s
  pub is_check_of : (s : ℕ) → s < N → check_word b s ≡ check_at w s

module _ {b w : List ℕ} {N : ℕ} (words : WordsOf b w N) where
  pub parent_of : (s : ℕ) → s < N → parent b s ≡ parent_at w s
  unfolding parent
  parent_of s h = ap low31 (words.is_check_of s h)

  -- if IS_LEAF is clear
  pub base_of_inner : (s : ℕ) → s < N → base_at w s < 2 ^ 31 → base b s ≡ base_at w s
  unfolding base
  base_of_inner s h l = ap low31 (words.base_of s h) ∙ omega arith

module _ {N L : ℕ} {d : PairSet} {b w : List ℕ} {code : ℕ → ℕ} {slot end : List ℕ → ℕ} (f : Filled N L d w code slot end) (words : WordsOf b w N)
    (coded : (p : List ℕ) (x c : ℕ) → Prefix d (p ++ x ∷ []) → Listed b x c → code x ≡ c) where
  slot_based : (p : List ℕ) → Prefix d p → base b (slot p) ≡ base_at w (slot p)
  slot_based p g = base_of_inner words (slot p) (f.slot_below p g) (omega (arith, f.slot_base p g))

  inner : (p : List ℕ) → Prefix d p → is_leaf b (slot p) ≡ false
  unfolding is_leaf
  inner p g = ap top_bit (words.base_of (slot p) (f.slot_below p g)) ∙ lt-leb (2 ^ 31) (base_at w (slot p)) (omega (arith, f.slot_base p g))

  flag : (p : List ℕ) → Prefix d p → (has_leaf b (slot p) ≡ true) ↔ ((v : ℕ) × Has d p v)
  unfolding has_leaf
  flag p g = rw (words.is_check_of (slot p) (f.slot_below p g)) (f.slot_flag p g)

  leaf : (k : List ℕ) (v : ℕ) → Has d k v → (is_leaf b (end k) ≡ true) × (value_number b (end k) ≡ v) × (has_leaf b (end k) ≡ false)
  unfolding is_leaf value_number has_leaf
  leaf k v h =
      let c = f.end_in k v h in
      let word : base_word b (end k) ≡ 2 ^ 31 + v = words.base_of (end k) c.to ∙ f.end_base k v h in
      let check : check_word b (end k) < 2 ^ 31 = omega (arith, words.is_check_of (end k) c.to, f.end_check k v h, c.of) in (
        le-leb (2 ^ 31) (base_word b (end k)) (omega arith),
        ap low31 word ∙ omega (arith, f.value k v h),
        lt-leb (2 ^ 31) (check_word b (end k)) check,
      )

  others : (s : ℕ) → s < slot_count b → ((p : List ℕ) → Prefix d p → slot p ≢ s) → ((k : List ℕ) (v : ℕ) → Has d k v → end k ≢ s) → (base_word b s ≡ 0) × (check_word b s ≡ 0)
  others s h no_slot no_end =
      let l : s < N = omega (arith, words.slots) in
      let z = go (f.each s) no_slot no_end in
      (words.base_of s l ∙ z.0, words.is_check_of s l ∙ z.1)
    where
      go : {s : ℕ} → WorkSlot d w slot end s → ((p : List ℕ) → Prefix d p → slot p ≢ s) → ((k : List ℕ) (v : ℕ) → Has d k v → end k ≢ s) → (base_at w s ≡ 0) × (check_at w s ≡ 0)
      go (of_prefix p g) a c = absurd (a p g refl)
      go (of_end k v g) a c = absurd (c k v g refl)
      go (of_none t x y) a c = (x, y)

  some_slot : 1 < N
  some_slot = omega (arith, f.root, f.slot_below [] (prefix_root d))

  pub work_placed : Placed b d slot end
  unfolding slot_from
  work_placed = record {
    slots_differ = f.slots_differ;
    ends_differ = f.ends_differ;
    slot_no_end = f.slot_no_end;
    root = f.root;
    slot_in = λ p x g. let c = f.slot_in p x g in (c.from, omega (arith, c.to, words.slots));
    end_in = λ k v h. let c = f.end_in k v h in (c.from, omega (arith, c.to, words.slots));
    is_slot_at = λ p x c g l. f.slot_is p x ∙ ap₂ slot_under (sym (slot_based p (prefix_part d p (x ∷ []) g))) (coded p x c g l);
    is_end_at = λ k v h. f.end_is k ∙ ap (λ (a : ℕ). slot_under a 0) (sym (slot_based k (prefix_key d k v h)));
    slot_inner = inner;
    slot_flag = flag;
    end_leaf = leaf;
    root_parent = parent_of words 1 some_slot ∙ f.root_parent;
    slot_parent = λ p x g. let c = f.slot_in p x g in parent_of words (slot (p ++ x ∷ [])) c.to ∙ c.of;
    end_parent = λ k v h. let c = f.end_in k v h in parent_of words (end k) c.to ∙ c.of;
    empty_root = λ h. let z = f.empty_root h in base_of_inner words 1 some_slot (omega arith) ∙ z;
    others = others;
  }
