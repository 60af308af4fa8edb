-- The refusals of a key list as the code makes them. Results of calls are variables.
use Rattle.std.specs.Prelude.{ℕ, ◌+◌, ◌-◌, ◌≤◌, ◌<◌, ◌≡◌, ◌≢◌, Bool, true, false, not, length, drop}
use Rattle.std.proofs.Math.Path.{refl, sym, ap}
use Rattle.std.proofs.Common.{◌∙◌}
use mathlib.Core.List.{List, [], ◌∷◌}
use Rattle.std.proofs.Math.Bool.{or-false}
use native.Mathlib.Omega.{arith}
use Rattle.std.proofs.Math.Decide.{dec_lt}
use borrow.Author.Tests.{lt-ltb, le-ltb, le-leb, lt-leb, eq-eqb, ne_eqb}
use Rattle.std.proofs.Math.Dec.{ltb}
use Rattle.lxtr_spec.specs.Ranges.{any_below}
use Rattle.lxtr_spec.specs.Numbers.{byte_at}
use Rattle.lxtr_spec.specs.Labels.{is_scalar, max_labels, comes_before}
use Rattle.lxtr_spec.specs.Refusals.{refuse_if, first_refusal}
use Rattle.lxtr_spec.specs.KeyLists.{list_version, key_count, keys_at, max_keys, key_length, key_label, next_key, key_at, no_scalar_at, not_above, key_refusal, keys_refusal, list_refusal}
use Rattle.lxtr_laws.specs.Tests.{outcome}
use Rattle.lxtr_laws.specs.RangeTests.{more}
use Rattle.lxtr_laws.specs.RefusalChains.{refused, goes_on, first_stands}
use Rattle.lxtr_build_laws.specs.KeyListFacts.{WholeKey}
use Rattle.lxtr_build_laws.specs.KeyReading.{key_ends, key_goes}
use Rattle.lxtr_build_laws.specs.Passing.{KeyPassed, key_passed}

-- ---- the order of two keys of m and n labels, of two lists, the first j of which are the same: what comes after these decides

pub record Comparing (b b' : List ℕ) (before at m j : ℕ) : Type 0 where
  pub to : j ≤ m
  pub rest : comes_before (key_at b before) (key_at b' at) ≡ comes_before (drop j (key_at b before)) (drop j (key_at b' at))

module _ (b b' : List ℕ) (before at m n : ℕ) where
  module _ (j : ℕ) (so_far : Comparing b b' before at m j) (size-before : m ≡ key_length b before) (size-at : n ≡ key_length b' at) where
    -- the first key has no more labels: it is a prefix of the other, and comes before it if that one is longer
    pub compare_end : m ≤ j → ltb m n ≡ comes_before (key_at b before) (key_at b' at)
    unfolding comes_before
    compare_end h = sym (so_far.rest ∙ rw (key_ends b before j (omega arith)) (longer (dec_lt m n)))
      where
        longer : Dec (m < n) → comes_before [] (drop j (key_at b' at)) ≡ ltb m n
        longer (yes l) = rw (key_goes b' at j (omega (arith, so_far.to)), lt-ltb m n l) refl
        longer (no l) = rw (key_ends b' at j (omega arith), le-ltb m n (omega arith)) refl

    module _ (h : j < m) where
      pub compare_past : n ≤ j → false ≡ comes_before (key_at b before) (key_at b' at)
      unfolding comes_before
      compare_past l = sym (so_far.rest ∙ rw (key_goes b before j (omega arith), key_ends b' at j (omega arith)) refl)

      module _ (x y : ℕ) (l : j < n) (is_x : x ≡ key_label b before j) (is_y : y ≡ key_label b' at j) where
        both_go : comes_before (key_at b before) (key_at b' at) ≡ comes_before (x ∷ drop (j + 1) (key_at b before)) (y ∷ drop (j + 1) (key_at b' at))
        both_go = so_far.rest ∙ rw (key_goes b before j (omega arith), key_goes b' at j (omega arith), is_x, is_y) refl

        pub compare_differ : x ≢ y → ltb x y ≡ comes_before (key_at b before) (key_at b' at)
        unfolding comes_before
        compare_differ d = sym (both_go ∙ rw (comes_before, ne_eqb x y d, or-false) refl)

        pub compare_next : x ≡ y → Comparing b b' before at m (j + 1)
        unfolding comes_before
        compare_next e = record { to = omega arith; rest = both_go ∙ rw (comes_before, le-ltb x y (omega arith), eq-eqb x y e) refl }

-- ---- one key

-- s is whether label j, which is x, is a scalar value
pub not_scalar : (b : List ℕ) (at j x : ℕ) (s : Bool) → s ≡ is_scalar x → x ≡ key_label b at j → not s ≡ no_scalar_at b at j
unfolding no_scalar_at
not_scalar b at j x s e q = ap not (e ∙ ap is_scalar q)

-- a key is refused by what is before it, and not by how many keys are
pub later_alike : (b : List ℕ) (i i' before at : ℕ) → ltb 0 i ≡ ltb 0 i' → key_refusal b i before at ≡ key_refusal b i' before at
unfolding key_refusal not_above
later_alike b i i' before at e = rw (key_refusal, not_above, e) refl

pub first_above : (b : List ℕ) (before at : ℕ) → false ≡ not_above b 0 before at
unfolding not_above
first_above b before at = refl

pub later_above : (b : List ℕ) (before at : ℕ) (t : Bool) → t ≡ comes_before (key_at b before) (key_at b at) → not t ≡ not_above b 1 before at
unfolding not_above
later_above b before at t e = rw (not_above, e) refl

module _ (b : List ℕ) (i before at : ℕ) where
  pub no_length : length b ≤ at → 15 ≡ key_refusal b i before at
  unfolding key_refusal
  no_length h = refused _ _ _ (le-leb (length b) at h)

  module _ (len : ℕ) (starts : at < length b) (size : len ≡ key_length b at) where
    pub too_long : max_labels < len → 17 ≡ key_refusal b i before at
    unfolding key_refusal
    too_long h = goes_on _ _ _ _ (lt-leb (length b) at starts) (refused _ _ _ (lt-ltb max_labels (key_length b at) (omega arith)))

    module _ (next : ℕ) (short : len ≤ max_labels) (is : next ≡ next_key b at) where
      after_length : (n : ℕ) → n ≡ refuse_if (ltb (length b) (next_key b at)) 15 (refuse_if (any_below (key_length b at) (no_scalar_at b at)) 18 (refuse_if (not_above b i before at) 19 0)) → n ≡ key_refusal b i before at
      unfolding key_refusal
      after_length n h = goes_on _ _ _ _ (lt-leb (length b) at starts) (goes_on _ _ _ _ (le-ltb max_labels (key_length b at) (omega arith)) h)

      pub cut_short : length b < next → 15 ≡ key_refusal b i before at
      cut_short h = after_length 15 (refused _ _ _ (lt-ltb (length b) (next_key b at) (omega arith)))

      module _ (ends : next ≤ length b) where
        pub whole_key : WholeKey b at
        whole_key = record { starts = starts; ends = omega arith; short = omega arith }

        module _ (s : Bool) (scalars : s ≡ any_below (key_length b at) (no_scalar_at b at)) where
          after_bytes : (n : ℕ) → n ≡ refuse_if s 18 (refuse_if (not_above b i before at) 19 0) → n ≡ key_refusal b i before at
          after_bytes n h = after_length n (goes_on _ _ _ _ (le-ltb (length b) (next_key b at) (omega arith)) (rw (← scalars) h))

          pub no_scalar : s ≡ true → 18 ≡ key_refusal b i before at
          no_scalar e = after_bytes 18 (refused _ _ _ e)

          module _ (t : Bool) (all : s ≡ false) (order : t ≡ not_above b i before at) where
            pub out_of_order : t ≡ true → 19 ≡ key_refusal b i before at
            out_of_order e = after_bytes 19 (goes_on _ _ _ _ all (refused _ _ _ (outcome t _ _ order e)))

            pub key_right : t ≡ false → 0 ≡ key_refusal b i before at
            key_right e = after_bytes 0 (goes_on _ _ _ _ all (goes_on _ _ _ _ (outcome t _ _ order e) refl))

-- ---- all keys: none of the first i is refused, and the rest decides

pub record RestDecides (b : List ℕ) (n i before at : ℕ) : Type 0 where
  pub to : i ≤ n
  pub rest : keys_refusal b n 0 0 keys_at ≡ keys_refusal b (n - i) i before at

module _ (b : List ℕ) (n i before at : ℕ) (g : RestDecides b n i before at) where
  module _ (r : ℕ) (h : i < n) (is : r ≡ key_refusal b i before at) where
    one_more_lem : keys_refusal b n 0 0 keys_at ≡ first_refusal (key_refusal b i before at) (keys_refusal b (n - (i + 1)) (i + 1) at (next_key b at))
    unfolding keys_refusal
    one_more_lem = g.rest ∙ ap (λ (k : ℕ). keys_refusal b k i before at) (more n i h)

    pub key_refused : r ≢ 0 → r ≡ keys_refusal b n 0 0 keys_at
    key_refused d = is ∙ sym (one_more_lem ∙ first_stands _ _ (λ e. d (is ∙ e)))

    module _ (none : r ≡ 0) where
      passed : KeyPassed b i before at
      passed = key_passed b i before at (sym is ∙ none)

      pub keys_next : (at' : ℕ) → at' ≡ next_key b at → RestDecides b n (i + 1) at at'
      unfolding first_refusal
      keys_next at' e = rw e (record {
        to = omega arith;
        rest = one_more_lem ∙ rw (← is, none) refl;
      })

  module _ (h : n ≤ i) where
    at_end : keys_refusal b n 0 0 keys_at ≡ refuse_if (ltb at (length b)) 15 0
    unfolding keys_refusal
    at_end = let z : n - i ≡ 0 = omega arith in g.rest ∙ ap (λ (k : ℕ). keys_refusal b k i before at) z

    pub left_over : at < length b → 15 ≡ keys_refusal b n 0 0 keys_at
    left_over l = refused _ _ _ (lt-ltb at (length b) l) ∙ sym at_end

    pub keys_right : length b ≤ at → 0 ≡ keys_refusal b n 0 0 keys_at
    keys_right l = goes_on _ _ _ _ (le-ltb at (length b) l) refl ∙ sym at_end

-- ---- the list

module _ (b : List ℕ) where
  pub list_short : length b < keys_at → 15 ≡ list_refusal b
  unfolding list_refusal refuse_if first_refusal
  list_short h = rw (list_refusal, lt-ltb (length b) keys_at h) refl

  module _ (long : keys_at ≤ length b) (v : ℕ) (version : v ≡ byte_at b 0) where
    pub list_version_lem : v ≢ 1 → 15 ≡ list_refusal b
    unfolding list_refusal list_version refuse_if first_refusal
    list_version_lem d = rw (list_refusal, le-ltb (length b) keys_at long, ← version, ne_eqb v 1 d) refl

    module _ (known : v ≡ 1) (n : ℕ) (count : n ≡ key_count b) where
      pub list_many : max_keys < n → 16 ≡ list_refusal b
      unfolding list_refusal list_version refuse_if first_refusal
      list_many h = rw (list_refusal, le-ltb (length b) keys_at long, ← version, eq-eqb v 1 known, ← count, lt-ltb max_keys n h) refl

      pub list_keys : (r : ℕ) → n ≤ max_keys → r ≡ keys_refusal b n 0 0 keys_at → r ≡ list_refusal b
      unfolding list_refusal list_version refuse_if first_refusal
      list_keys r h e = rw (list_refusal, le-ltb (length b) keys_at long, ← version, eq-eqb v 1 known, ← count, le-ltb max_keys n h) e
