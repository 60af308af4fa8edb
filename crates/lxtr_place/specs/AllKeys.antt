-- All keys are below slot 1: their group may be placed in cleared work, and placing it is what the definitions say of the key list.
use Rattle.std.specs.Prelude.{ℕ, zero, suc, ◌+◌, ◌*◌, ◌-◌, ◌^◌, ◌≤◌, ◌<◌, ◌≡◌, refl, List, ◌∷◌, get_or, length, set, Option}
use Rattle.std.proofs.Math.Path.{sym, ap}
use Rattle.std.proofs.Common.{◌∙◌, zero-add, arith, length-set, get_or-set_same, get_or-set_other}
use Rattle.std.proofs.Math.Nat.{sub-zero}
use Rattle.std.proofs.Math.Decide.{ℕ_discrete}
use Rattle.lxtr_spec.specs.Labels.{length_count, Pair}
use Rattle.lxtr_spec.specs.KeyLists.{keys_at, max_keys, key_count, next_key, key_at, keys_from, pairs_of}
use Rattle.lxtr_spec.specs.CodeMaps.{map_of, code_in, label_with}
use Rattle.lxtr_spec.specs.Placing.{check_at, place}
use Rattle.lxtr_spec.specs.Builds.{slots_in, placed_in}
use Rattle.lxtr_laws.specs.Limit.{length_fits_byte}
use Rattle.lxtr_build_laws.specs.KeyListFacts.{WholeKeys, KeysPassed}
use Rattle.lxtr_build_laws.specs.CodeTables.{code_by, label_by, CodeTables}
use Rattle.lxtr_build_laws.specs.KeyReading.{whole_here, whole_on}
use Rattle.lxtr_build_laws.specs.Work.{Cleared}
use Rattle.lxtr_build_laws.specs.Groups.{CodesIn}
use Rattle.lxtr_build_laws.specs.TableCodes.{codes_in, label_is}
use Rattle.lxtr_build_laws.specs.SlotWords.{zeros_check}
use Rattle.lxtr_place.specs.declared.groups.Group.{Group}
use Rattle.lxtr_place.specs.GroupRanges.{place_of, group_from, group_of, Placeable, Indexed}
use Rattle.lxtr_place.specs.Children.{Fresh}
use Rattle.lxtr_place.specs.Agreeing.{Agree, place_same}

group_keys : (b : List ℕ) (n i at : ℕ) → group_from b 0 n i at ≡ keys_from b n i at
unfolding group_from keys_from
group_keys b zero i at = refl
group_keys b (suc n) i at = ap (λ (g : List Pair). (key_at b at, i) ∷ g) (group_keys b n (i + 1) (next_key b at))

-- the group of all keys
abbrev all : ℕ → Group
all n = record { at = keys_at; first = 0; count = n; depth = 0 }

module _ (b : List ℕ) (n : ℕ) (e : n ≡ key_count b) where
  all_pairs : group_of b (all n) ≡ pairs_of b
  unfolding pairs_of
  all_pairs = ap (λ (k : ℕ). group_from b 0 k 0 keys_at) e ∙ group_keys b (key_count b) 0 keys_at

  pub all_placeable : (labels codes order : List ℕ) → KeysPassed b → CodeTables (pairs_of b) labels codes order → Placeable b labels codes (all n)
  all_placeable labels codes order k t = record {
    grouped = record { whole = rw e k.whole; values = omega (arith, k.few); shallow = omega arith };
    ascending = rw all_pairs k.right.ascending;
    codes_in = rw all_pairs (codes_in (pairs_of b) labels codes order t);
  }

-- ---- where the keys start: the table has this for the first i keys

pub record StartsPut (b starts : List ℕ) (i : ℕ) : Type 0 where
  pub each : (j : ℕ) → j < i → get_or starts j 0 ≡ place_of b j keys_at

-- (a key takes no more than 2^10 bytes of the list)
pub record Starting (b starts₀ starts : List ℕ) (at i : ℕ) : Type 0 where
  pub passed : i ≤ key_count b
  pub size : length starts ≡ length starts₀
  pub whole : WholeKeys b (key_count b - i) at
  pub small : at ≤ keys_at + 2 ^ 10 * i
  pub is : at ≡ place_of b i keys_at
  pub put : StartsPut b starts i

place_next : (b : List ℕ) (i at : ℕ) → place_of b (i + 1) at ≡ next_key b (place_of b i at)
unfolding place_of
place_next b zero at = refl
place_next b (suc i) at = let e : suc i + 1 ≡ suc (i + 1) = omega arith in ap (λ (n : ℕ). place_of b n at) e ∙ place_next b i (next_key b at)

module _ (b starts₀ : List ℕ) (k : KeysPassed b) where
  pub starting_start : Starting b starts₀ starts₀ keys_at 0
  unfolding place_of
  starting_start = record { passed = omega arith; size = refl; whole = rw sub-zero k.whole; small = omega arith; is = refl; put = record { each = λ j h. absurd (omega arith) } }

  module _ (starts : List ℕ) (at i : ℕ) (s : Starting b starts₀ starts at i) where
    pub starting_inside : key_count b < length starts₀ → i < length starts
    starting_inside h = omega (arith, s.size, s.passed)

    pub starting_size : length (set starts i at) ≡ length starts₀
    starting_size = length-set starts i at ∙ s.size

    put_more : (h : i < length starts) → StartsPut b (set starts i at) (i + 1)
    put_more h = record { each = λ j l. go j l (ℕ_discrete j i) }
      where
        go : (j : ℕ) → j < i + 1 → Dec (j ≡ i) → get_or (set starts i at) j 0 ≡ place_of b j keys_at
        go j l (yes e) = ap (λ (n : ℕ). get_or (set starts i at) n 0) e ∙ get_or-set_same starts i at 0 h ∙ s.is ∙ ap (λ (n : ℕ). place_of b n keys_at) (sym e)
        go j l (no o) = get_or-set_other starts i j at 0 o ∙ s.put.each j (omega arith)

    pub starting_turn : (n at' : ℕ) → n ≡ key_count b → i < n → key_count b < length starts₀ → at' ≡ next_key b at → Starting b starts₀ (set starts i at) at' (i + 1)
    unfolding next_key
    starting_turn n at' c h long e = record {
      passed = omega arith;
      size = starting_size;
      whole = rw e (whole_on b (key_count b) i at (omega arith) s.whole);
      small = omega (arith, e, s.small, (whole_here b (key_count b) i at (omega arith) s.whole).short, length_fits_byte);
      is = e ∙ ap (next_key b) s.is ∙ sym (place_next b i keys_at);
      put = put_more (starting_inside long);
    }

-- the lent table has the start of each key
pub all_indexed : (b starts : List ℕ) (n : ℕ) → KeysPassed b → n ≡ key_count b → StartsPut b starts (key_count b + 1) → length starts ≡ max_keys + 1 → Indexed b starts (all n)
all_indexed b starts n k e s l = record { inside = omega (arith, k.few); each = λ i h. ap (λ (m : ℕ). get_or starts m 0) (zero-add i) ∙ s.each i (omega arith) }

-- slot 1 of cleared work is fresh
module _ (w : List ℕ) (clear : Cleared w) where
  check_zero : (t : ℕ) → check_at w t ≡ 0
  check_zero t = rw clear.zeros (zeros_check (length w) t)

  pub root_fresh : (S : ℕ) → S ≡ slots_in (length w) → Fresh S w 1
  unfolding slots_in
  root_fresh S e = record {
    ready = record {
      room = omega (arith, e);
      slots = omega (arith, e);
      from = omega arith;
      to = omega (arith, e, clear.room);
      taken = λ f. omega (arith, f.from);
    };
    no_child = λ t q. omega (arith, check_zero t);
    parent_taken = λ t h f. omega (arith, check_zero t, f.from);
  }

-- what is placed is what the definitions place
module _ (b labels codes order w : List ℕ) (t : CodeTables (pairs_of b) labels codes order) (clear : Cleared w) where
  agree : Agree (slots_in (length w)) (code_by labels codes) (code_in (map_of (pairs_of b))) (label_by labels order) (label_with (map_of (pairs_of b))) (pairs_of b)
  unfolding CodesIn
  agree = record {
    codes = t.code_is;
    labels = λ p m x k. let c = codes_in (pairs_of b) labels codes order t p m x k in label_is (pairs_of b) labels codes order t (code_by labels codes x) c.0 c.1;
  }

  pub all_placed : (S n : ℕ) (o : Option (List ℕ)) → S ≡ slots_in (length w) → n ≡ key_count b → o ≡ place S (code_by labels codes) (label_by labels order) length_count 1 (group_of b (all n)) w
      → o ≡ placed_in (length w) (pairs_of b) (map_of (pairs_of b))
  unfolding placed_in
  all_placed S n o s e q =
      q ∙ rw (s, all_pairs b n e) (place_same (slots_in (length w)) (code_by labels codes) (code_in (map_of (pairs_of b))) (label_by labels order) (label_with (map_of (pairs_of b))) length_count 1 (pairs_of b) w agree)
      ∙ ap (place (slots_in (length w)) (code_in (map_of (pairs_of b))) (label_with (map_of (pairs_of b))) length_count 1 (pairs_of b)) clear.zeros
