-- Demand 2 for the builder: from a sorted key list the image built is the one the first-fit rule gives, and it reads back as
-- those keys, numbered from 0. Only the statements: the demand, of any program, which the definitions meet by `demand2_builder`, and
-- their code map, by `codes_by_frequency`; both in Laws/Builder.antt.
use Rattle.std.specs.Prelude.{ℕ, zero, suc, ◌≤◌, ◌<◌, ◌≡◌, ◌↔◌, ◌⊎◌, ◌≢◌, false, length, drop, replicate, Some}
use mathlib.Core.List.{List, [], ◌∷◌, ◌++◌, Memᴰ}
use Rattle.lxtr_spec.specs.Numbers.{be_words}
use Rattle.lxtr_spec.specs.Labels.{length_count, max_listed, labels_of, Pair}
use Rattle.lxtr_spec.specs.Joining.{slot_under}
use Rattle.lxtr_spec.specs.Completions.{listing_of, room_for}
use Rattle.lxtr_spec.specs.Searches.{case_value}
use Rattle.lxtr_spec.specs.KeyLists.{key_count, pairs_of, list_refusal}
use Rattle.lxtr_spec.specs.CodeMaps.{frequency, map_of, code_in, label_with}
use Rattle.lxtr_spec.specs.Placing.{check_at, base_count, child_codes, below, end_value, put_children, put_parent}
use Rattle.lxtr_spec.specs.Builds.{image_in, slots_in, work_after}
use Rattle.lxtr_spec.specs.Sets.{PairSet, Has, ImageOf}
use Rattle.lxtr_spec.specs.Meaning.{Ordered, Lists}
use Rattle.lxtr_demands.specs.Operations.{Operations}
use Rattle.lxtr_demands.specs.Demand2.{GivesValue}

-- the set has these pairs, and no others
pub record HasExactly (d : PairSet) (ps : List Pair) : Type 0 where
  pub each : (k : List ℕ) (v : ℕ) → Memᴰ (k, v) ps → Has d k v
  pub only : (k : List ℕ) (v : ℕ) → Has d k v → Memᴰ (k, v) ps

-- what holds of the image that a key list gives
pub record ReadsBack (o : Operations) (keys image : List ℕ) : Type 0 where
  -- It is an image of exactly the set "key i has value i".
  pub pair_set : PairSet
  pub pair_set_is : HasExactly pair_set (pairs_of keys)
  pub image_of : ImageOf image pair_set
  -- So the check accepts it with that count,
  pub checked : o.check image ≡ record { refusal = 0; pairs = key_count keys }
  -- lookup finds each key's number
  pub lookup : (k : List ℕ) (v : ℕ) → Memᴰ (k, v) (pairs_of keys) → GivesValue o image (be_words k) (Some v)
  -- and nothing else,
  pub lookup_only : (q : List ℕ) (v : ℕ) → case_value (o.lookup image q).case ≡ Some v → Memᴰ (labels_of q, v) (pairs_of keys)
  -- and completing the empty prefix with room enough lists the keys, in code order.
  pub listing : (ps : List Pair) × Lists image pair_set [] ps
  pub completion : (ps : List Pair) (room : List ℕ) → Lists image pair_set [] ps → room_for ps ≤ length room
      → o.complete image [] room ≡ record { answer = record { refusal = 0; count = key_count keys; stopped = false }; room = listing_of ps ++ drop (room_for ps) room }

-- ---- the image that the first-fit rule gives

-- b is from 0 to 65,535, and every child's slot under it is free and lies in 2 to S-1; the children have the codes cs
pub record Fits (S : ℕ) (w cs : List ℕ) (b : ℕ) : Type 0 where
  pub base_in : b < base_count
  pub is_slot_from : (c : ℕ) → Memᴰ c cs → 2 ≤ slot_under b c
  pub slot_to : (c : ℕ) → Memᴰ c cs → slot_under b c < S
  pub slot_free : (c : ℕ) → Memᴰ c cs → check_at w (slot_under b c) ≡ 0

-- b fits, and no smaller base does
pub record SmallestFit (S : ℕ) (w cs : List ℕ) (b : ℕ) : Type 0 where
  pub fits : Fits S w cs b
  pub smallest : (a : ℕ) → Fits S w cs a → b ≤ a

-- R leads from the work w to the work u by each of these codes in turn; an end, which has code 0, has nothing below it
unfoldable pub InTurn : (ℕ → List ℕ → List ℕ → Type 0) → List ℕ → List ℕ → List ℕ → Type 0
InTurn R [] w u = w ≡ u
InTurn R (zero ∷ cs) w u = InTurn R cs w u
InTurn R (suc c ∷ cs) w u = (v : List ℕ) × R (suc c) w v × InTurn R cs v u

-- Place slot 1's children, then go into each child by ascending code, down to its end, before the next. The same for any slot p:
-- u is the work w after slot p with its group g is placed, with k labels still allowed. Its base is the smallest that fits.
unfoldable pub PlacedByFit : ℕ → (ℕ → ℕ) → (ℕ → ℕ) → ℕ → ℕ → List Pair → List ℕ → List ℕ → Type 0
PlacedByFit S code label zero p g w u = w ≡ u
PlacedByFit S code label (suc k) p g w u =
    (b : ℕ) × SmallestFit S w (child_codes code g []) b
    × InTurn (λ c v x. PlacedByFit S code label k (slot_under b c) (below (label c) g) v x) (child_codes code g [])
    (put_children p (end_value g) b (child_codes code g []) (put_parent p b (child_codes code g []) w)) u

-- The labels that the keys use, and no others, in the order of their codes: higher frequency gets the smaller code, equal ones go
-- by smaller label.
abbrev pub FrequencyBefore : List Pair → ℕ → ℕ → Type 0
FrequencyBefore ps x y = (frequency ps y < frequency ps x) ⊎ ((frequency ps x ≡ frequency ps y) × (x < y))

pub record ByFrequency (ps : List Pair) (labels : List ℕ) : Type 0 where
  pub used : (x : ℕ) → Memᴰ x labels ↔ ((p : Pair) × Memᴰ p ps × Memᴰ x p.0)
  pub ordered : Ordered (FrequencyBefore ps) labels

-- N is the highest taken slot plus 1. (Slots 0 and 1 are taken.)
pub record HighestTaken (S : ℕ) (w : List ℕ) (N : ℕ) : Type 0 where
  pub from : 2 ≤ N
  pub last : (s : ℕ) → N ≡ suc s → 2 ≤ s → (s < S) × (check_at w s ≢ 0)
  pub none_above : (s : ℕ) → N ≤ s → s < S → check_at w s ≡ 0

-- the image of the key list, with W words of work: its code map goes by frequency, and its slots are placed by first fit
pub record FirstFitImage (keys : List ℕ) (W : ℕ) (image : List ℕ) : Type 0 where
  pub labels : List ℕ
  pub by_frequency : ByFrequency (pairs_of keys) labels
  pub work : List ℕ
  pub placed : PlacedByFit (slots_in W) (code_in labels) (label_with labels) length_count 1 (pairs_of keys) (replicate W 0) work
  pub slots : ℕ
  pub highest : HighestTaken (slots_in W) work slots
  pub is : image ≡ image_in work slots labels

-- what 20, 22 and 23 come after: neither 21 nor 15 to 19 is given
abbrev pub ListPasses : List ℕ → List ℕ → Type 0
ListPasses keys work = (4 ≤ length work) × (list_refusal keys ≡ 0)

-- Refusals, in order:
pub data RefusedBy (keys work out : List ℕ) : ℕ → Type 0 where
  -- 21 W below 4;
  few_words : length work < 4 → RefusedBy keys work out 21
  -- 15 to 19 of the key list;
  list_wrong : 4 ≤ length work → list_refusal keys ≢ 0 → RefusedBy keys work out (list_refusal keys)
  -- 20 more than 4,095 distinct labels;
  many_labels : (labels : List ℕ) → ListPasses keys work → ByFrequency (pairs_of keys) labels → max_listed < length labels → RefusedBy keys work out 20
  -- 22 at some slot no base fits: so there is no image;
  no_base : (labels : List ℕ) → ListPasses keys work → ByFrequency (pairs_of keys) labels → length labels ≤ max_listed
      → ((image : List ℕ) → FirstFitImage keys (length work) image → ⊥) → RefusedBy keys work out 22
  -- 23 output shorter than the image.
  short_output : (image : List ℕ) (f : FirstFitImage keys (length work) image) → ListPasses keys work → length f.labels ≤ max_listed → length out < length image
      → RefusedBy keys work out 23

-- none of them is given, and this is the image
pub record Buildable (keys work out image : List ℕ) : Type 0 where
  pub passes : ListPasses keys work
  pub by_first_fit : FirstFitImage keys (length work) image
  pub few_labels : length by_first_fit.labels ≤ max_listed
  pub room : length image ≤ length out

-- ---- the demand

pub record Demand2Builder (o : Operations) : Type 0 where
  -- An image can be built, or the call is refused. There is one such image.
  pub decided : (keys work out : List ℕ) → ((image : List ℕ) × Buildable keys work out image) ⊎ ((k : ℕ) × RefusedBy keys work out k)
  pub one_image : (keys work out image other : List ℕ) → Buildable keys work out image → Buildable keys work out other → image ≡ other
  -- Success writes the image at the front; the rest of the output stays.
  pub built : (keys work out image : List ℕ) → Buildable keys work out image
      → o.build keys work out ≡ record { answer = record { refusal = 0; length = length image }; output = image ++ drop (length image) out; work = work_after work }
  -- It reads back.
  pub reads_back : (keys work out image : List ℕ) → Buildable keys work out image → ReadsBack o keys image
  -- A refusal answers length 0 and leaves the output untouched.
  pub refused : (keys work out : List ℕ) (k : ℕ) → RefusedBy keys work out k
      → o.build keys work out ≡ record { answer = record { refusal = k; length = 0 }; output = out; work = work_after work }

-- ---- the code map of the definitions

pub record CodesByFrequency : Type 0 where
  -- The code map lists these.
  pub listed : (ps : List Pair) → ByFrequency ps (map_of ps)
  -- There is one such list.
  pub one_map : (ps : List Pair) (labels others : List ℕ) → ByFrequency ps labels → ByFrequency ps others → labels ≡ others
