-- What is built reads back: over an image of the set of a key list's pairs, the check, lookup and completion answer those keys.
-- Demands 2 and 3 say what they answer over an image; the keys ascend, so each pair is listed once.
use Prim.Native.Nat.{ℕ, zero, suc, ◌%◌, ◌^◌, ◌<◌}
use Rattle.std.proofs.Common.{arith, sym, ap, ◌∙◌}
use Rattle.std.specs.Prelude.{◌≡◌, ◌≢◌, true, get_or, length, Some}
use mathlib.Core.List.{List, [], ◌∷◌, Memᴰ}
use Rattle.lxtr_spec.specs.Numbers.{be_words}
use Rattle.lxtr_spec.specs.Labels.{labels_of, comes_before, Pair}
use Rattle.lxtr_spec.specs.Refusals.{unless_refused, end_count, check_of}
use Rattle.lxtr_spec.specs.Searches.{search_refusal, case_value, case_within, value_within, lookup_of}
use Rattle.lxtr_spec.specs.declared.Case.TheVariants.{Neither}
use Rattle.lxtr_spec.specs.KeyLists.{keys_at, key_count, pairs_of}
use Rattle.lxtr_spec.specs.Sets.{PairSet, Has, ImageOf}
use Rattle.lxtr_spec.specs.Meaning.{Lists}
use Rattle.lxtr_laws.specs.Members.{member_at}
use Rattle.lxtr_laws.specs.Lengths.{words_length}
use Rattle.lxtr_laws.specs.KeyOrder.{before_self}
use Rattle.lxtr_laws.specs.StepFacts.{none_not_some}
use Rattle.lxtr_laws.specs.QueryLabels.{labels_back}
use Rattle.lxtr_laws.specs.Sorted.{Sorted, sorted_weaker}
use Rattle.lxtr_build_laws.specs.KeyListFacts.{Ascending, KeysRight}
use Rattle.lxtr_build_laws.specs.KeyReading.{keys_length}
use Rattle.lxtr_build_laws.specs.PairSets.{set_of, set_members}
use Rattle.lxtr_demands.specs.Operations.{defined}
use Rattle.lxtr_demands.specs.Demand2.{GivesValue}
use Rattle.lxtr_demands.specs.Builder.{ReadsBack}
use Rattle.lxtr_demands.specs.Laws.Images.{image_passes, known_image}
use Rattle.lxtr_demands.specs.Laws.Counts.{pairs_counted, listing_counted}
use Rattle.lxtr_demands.specs.Laws.Demand3.{demand3}
use Rattle.lxtr_demands.specs.Laws.Demand2.{lookup_set, demand2}
use Rattle.lxtr_demands.specs.Laws.BuiltImages.{scalar_small}

-- keys in ascending order are sorted, so they differ
ascending_sorted : (ps : List Pair) → Ascending ps → Sorted (λ p r. comes_before p.0 r.0 ≡ true) ps
unfolding Ascending Sorted
ascending_sorted [] a = tt
ascending_sorted (p ∷ ps) a = (a.0, ascending_sorted ps a.1)

keys_differ : (ps : List Pair) → Ascending ps → Sorted (λ p r. p.0 ≢ r.0) ps
keys_differ ps a = sorted_weaker (λ p r. comes_before p.0 r.0 ≡ true) (λ p r. p.0 ≢ r.0)
    (λ p r h e. before_self r.0 (ap (λ (k : List ℕ). comes_before k r.0) (sym e) ∙ h)) ps (ascending_sorted ps a)

module _ (keys image : List ℕ) (right : KeysRight (pairs_of keys)) (image_of : ImageOf image (set_of (pairs_of keys))) where
  abbrev ps : List Pair
  ps = pairs_of keys

  abbrev d : PairSet
  d = set_of (pairs_of keys)

  member : (k : List ℕ) (v : ℕ) → Has d k v → Memᴰ (k, v) ps
  member k v = (set_members ps right.ascending k v).0

  has : (k : List ℕ) (v : ℕ) → Memᴰ (k, v) ps → Has d k v
  has k v = (set_members ps right.ascending k v).1

  keys_count : length ps ≡ key_count keys
  unfolding pairs_of
  keys_count = keys_length keys (key_count keys) 0 keys_at

  ends_count : end_count image ≡ key_count keys
  ends_count = pairs_counted (known_image image_of) ps (keys_differ ps right.ascending) member has ∙ keys_count

  listing_count : (rs : List Pair) → Lists image d [] rs → length rs ≡ key_count keys
  listing_count rs l = sym (listing_counted (known_image image_of) rs l) ∙ ends_count

  lookup_finds : (k : List ℕ) (v : ℕ) → Memᴰ (k, v) ps → GivesValue defined image (be_words k) (Some v)
  lookup_finds k v m =
      let small : (i : ℕ) → i < length k → get_or k i 0 < 2 ^ 32 = λ i h. scalar_small (get_or k i 0) (right.scalar (k, v) m (get_or k i 0) (member_at 0 k i h)) in
      let whole : length (be_words k) % 4 ≡ 0 = omega (arith, words_length k) in
      rw (labels_back k small, has k v m) at (demand2 image d (be_words k) image_of whole).searched.lookup_value

  lookup_only : (q : List ℕ) (v : ℕ) → case_value (lookup_of image q).case ≡ Some v → Memᴰ (labels_of q, v) ps
  unfolding lookup_of case_value value_within unless_refused
  lookup_only q v e = go (search_refusal image q) e
    where
      go : (n : ℕ) → case_value (unless_refused n (case_within image (labels_of q)) Neither) ≡ Some v → Memᴰ (labels_of q, v) ps
      go zero e = member (labels_of q) v (ap (λ (f : PairSet). f (labels_of q)) (sym (lookup_set (known_image image_of))) ∙ e)
      go (suc n) e = absurd (none_not_some e)

  pub reads_back : ReadsBack defined keys image
  unfolding check_of unless_refused
  reads_back = record {
    pair_set = d;
    pair_set_is = record { each = has; only = member };
    image_of = image_of;
    checked = rw (image_passes image_of, ends_count);
    lookup = lookup_finds;
    lookup_only = lookup_only;
    listing = (demand3 image).listing d image_of;
    completion = λ rs room l h. (demand3 image).completion d rs room image_of l h ∙ rw (listing_count rs l);
  }
