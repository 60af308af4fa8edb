-- Label by label, a walk goes on to the end or stops at a first place, and the reason is read off there. Only this reason is true,
-- because the walk of a front part has one outcome. Over an image the labels that walk are the prefixes of its set's keys.
use Rattle.std.specs.Prelude.{ℕ, zero, suc, ◌+◌, ◌≤◌, ◌<◌, ◌≡◌, ◌↔◌, ◌⊎◌, List, [], ◌∷◌, ◌++◌, length, take, get_or, Option, Some, None}
use Rattle.std.proofs.lemmas.Option.{none-some, same_Some}
use Rattle.std.proofs.Math.Decide.{dec_lt}
use Rattle.std.proofs.Common.{add-one, arith, sym, ap, ◌∙◌, append-nil, length-append, length-take-le}
use Rattle.std.proofs.Math.Path.{refl}
use Rattle.std.proofs.Math.Logic.{inl, inr, ⊎_elim}
use Rattle.std.proofs.Math.Logic.Iff as Iff
use Rattle.std.proofs.Math.Seq.{take-length}
use Rattle.lxtr_spec.specs.Labels.{max_labels, labels_of}
use Rattle.lxtr_spec.specs.Image.{code_of}
use Rattle.lxtr_spec.specs.Refusals.{unless_refused}
use Rattle.lxtr_spec.specs.Walks.{step_by, walk, value_at, value_reached, value_of}
use Rattle.lxtr_spec.specs.Searches.{search_refusal, case_value, case_within, value_within, lookup_of}
use Rattle.lxtr_spec.specs.Reasons.{ended_with, stopped_at, reason_of, why_of}
use Rattle.lxtr_spec.specs.Sets.{PairSet, Has, Prefix, ImageOf}
use Rattle.lxtr_spec.specs.Meaning.{Longer}
use Rattle.lxtr_spec.specs.declared.Case.{Case}
use Rattle.lxtr_spec.specs.declared.Case.TheVariants.{Neither}
use Rattle.lxtr_spec.specs.declared.Reason.{Reason}
use Rattle.lxtr_spec.specs.declared.Reason.TheVariants.{IsFound, NotListed, NoStep, NoKeyEnds, TooLong}
use Rattle.lxtr_laws.specs.RefusalChains.{stands}
use Rattle.lxtr_laws.specs.StepFacts.{none_not_some, walk_empty, value_of_is}
use Rattle.lxtr_laws.specs.Walking.{walk_front, walk_on, walk_stays}
use Rattle.lxtr_laws.specs.WalkReasons.{reason_stops, reason_ends, reason_too_long, reason_within}
use Rattle.lxtr_demands.specs.TrueReasons.{Walks, ListedAt, StopsAt, TrueReason, StopsIn, ReasonIn, WhyDemand}
use Rattle.lxtr_demands.specs.Laws.Codes.{code_listed, code_missing}
use Rattle.lxtr_demands.specs.Laws.Kinds.{KnownImage}
use Rattle.lxtr_demands.specs.Laws.Slots.{walk_prefix, walked}
use Rattle.lxtr_demands.specs.Laws.Images.{known_image}
use Rattle.lxtr_demands.specs.Laws.Searches.{value_limit_lem, value_within_lem}
use Rattle.lxtr_demands.specs.Laws.Demand2.{lookup_set}

module _ (b xs : List ℕ) where
  -- the labels before a place reach a slot, and the label there has no step from it
  record Stop : Type 0 where
    place : ℕ
    slot : ℕ
    below : place < length xs
    reached : walk b 1 (take place xs) ≡ Some slot
    stays : step_by b slot (get_or xs place 0) ≡ None

  -- the first k labels walk, or the walk stops before
  goes : (k : ℕ) → k ≤ length xs → Stop ⊎ Walks b (take k xs)
  goes zero h = inr (1, (walk_empty b 1).1 refl)
  goes (suc k) h = ⊎_elim inl (λ (n, e). go n e (step_by b n (get_or xs k 0)) refl) (goes k (omega arith))
    where
      go : (n : ℕ) → walk b 1 (take k xs) ≡ Some n → (o : Option ℕ) → step_by b n (get_or xs k 0) ≡ o → Stop ⊎ Walks b (take (suc k) xs)
      go n e None f = inl (record { place = k; slot = n; below = h; reached = e; stays = f })
      go n e (Some t) f = inr (t, rw (← (add-one k)) (walk_on b xs k n h e t f))

  stops_at : length xs ≤ max_labels → (s : Stop) → StopsAt b xs s.place
  stops_at few s = record {
    within = few;
    place = s.below;
    walks = λ k h. walk_front b xs k s.place s.slot h s.reached;
    stops = λ k h (t, e). walk_stays b xs s.place s.slot s.below s.reached s.stays k t h e;
  }

  -- and what stops it is such a label
  stop_at : (i : ℕ) → StopsAt b xs i → (s : Stop) × (s.place ≡ i)
  stop_at i s = let (n, e) = s.walks i (omega arith) in go n e (step_by b n (get_or xs i 0)) refl
    where
      go : (n : ℕ) → walk b 1 (take i xs) ≡ Some n → (o : Option ℕ) → step_by b n (get_or xs i 0) ≡ o → (s : Stop) × (s.place ≡ i)
      go n e None f = (record { place = i; slot = n; below = s.place; reached = e; stays = f }, refl)
      go n e (Some t) f = absurd (s.stops (i + 1) (omega arith) (t, walk_on b xs i n s.place e t f))

  -- the value that lookup finds is that of the slot reached
  is_value_at : length xs ≤ max_labels → (n : ℕ) → walk b 1 xs ≡ Some n → value_within b xs ≡ value_at b n
  unfolding value_of value_reached
  is_value_at few n e = value_within_lem b xs few ∙ rw e

  value_walks : (v : ℕ) → value_within b xs ≡ Some v → (length xs ≤ max_labels) × Walks b xs
  value_walks v e =
      let few = value_limit_lem b xs v e in
      let r = (value_of_is b xs v).0 (sym (value_within_lem b xs few) ∙ e) in
      (few, (r.0, r.1))

  -- ---- the reason is true

  -- a label at which the walk stops is not listed, or it is
  told : (i : ℕ) → ((stopped_at b i (get_or xs i 0) ≡ NotListed i) × (ListedAt b xs i → ⊥)) ⊎ ((stopped_at b i (get_or xs i 0) ≡ NoStep i) × ListedAt b xs i)
  unfolding stopped_at
  told i = go (code_of b (get_or xs i 0)) refl
    where
      go : (o : Option ℕ) → code_of b (get_or xs i 0) ≡ o → (let r : Reason = elim o [ None ↦ NotListed i | Some c ↦ NoStep i ] in
          ((r ≡ NotListed i) × (ListedAt b xs i → ⊥)) ⊎ ((r ≡ NoStep i) × ListedAt b xs i))
      go None f = inl (refl, λ (c, l). code_missing b (get_or xs i 0) f c l)
      go (Some c) f = inr (refl, (c, code_listed b (get_or xs i 0) c f))

  stopped_true : length xs ≤ max_labels → (s : Stop) → TrueReason b xs (stopped_at b s.place (get_or xs s.place 0))
  stopped_true few s = ⊎_elim (λ (e, out). rw e (stops_at few s, out)) (λ (e, is). rw e (stops_at few s, is)) (told s.place)

  ended_true : length xs ≤ max_labels → (n : ℕ) → walk b 1 xs ≡ Some n → TrueReason b xs (ended_with (value_at b n))
  unfolding ended_with
  ended_true few n e = go (value_at b n) (is_value_at few n e)
    where
      go : (o : Option ℕ) → value_within b xs ≡ o → TrueReason b xs (ended_with o)
      go None f = (few, (n, e), f)
      go (Some v) f = (v, f)

  reason_true : TrueReason b xs (reason_of b xs)
  reason_true = go (dec_lt max_labels (length xs))
    where
      go : Dec (max_labels < length xs) → TrueReason b xs (reason_of b xs)
      go (yes h) = rw (reason_too_long b xs h) h
      go (no h) =
          let few : length xs ≤ max_labels = omega arith in
          rw (reason_within b xs few) (⊎_elim
          (λ s. rw (reason_stops b xs s.place s.slot s.below s.reached s.stays) (stopped_true few s))
          (λ (n, e). let f = rw take-length at e in rw (reason_ends b xs n f) (ended_true few n f))
          (goes (length xs) (omega arith)))

  -- ---- and no other is

  reason_stopped : (i : ℕ) → StopsAt b xs i → reason_of b xs ≡ stopped_at b i (get_or xs i 0)
  reason_stopped i s =
      let (t, same) = stop_at i s in
      reason_within b xs s.within ∙ rw same at (reason_stops b xs t.place t.slot t.below t.reached t.stays)

  reason_ended : (o : Option ℕ) → length xs ≤ max_labels → Walks b xs → value_within b xs ≡ o → reason_of b xs ≡ ended_with o
  reason_ended o few (n, e) f = reason_within b xs few ∙ reason_ends b xs n e ∙ ap ended_with (sym (is_value_at few n e) ∙ f)

  only_reason : (r : Reason) → TrueReason b xs r → reason_of b xs ≡ r
  unfolding ended_with
  only_reason IsFound (v, e) = let r = value_walks v e in reason_ended (Some v) r.0 r.1 e
  only_reason (NotListed i) (s, out) = reason_stopped i s ∙ ⊎_elim (λ (e, _). e) (λ (_, is). absurd (out is)) (told i)
  only_reason (NoStep i) (s, is) = reason_stopped i s ∙ ⊎_elim (λ (_, out). absurd (out is)) (λ (e, _). e) (told i)
  only_reason NoKeyEnds (few, w, e) = reason_ended None few w e
  only_reason TooLong h = reason_too_long b xs h

-- ---- over an image of the set d

module _ {b : List ℕ} {d : PairSet} (image : ImageOf b d) (xs : List ℕ) where
  known : KnownImage b d
  known = known_image image

  walks_prefix : (p : List ℕ) → Walks b p ↔ Prefix d p
  walks_prefix p = (λ (n, e). (walked known p n e).0, λ f. (image.slot p, walk_prefix image p f))

  front : (k m : ℕ) → k ≤ m → Walks b (take m xs) → Walks b (take k xs)
  front k m h (t, e) = walk_front b xs k m t h e

  stops_in : (i : ℕ) → StopsAt b xs i ↔ StopsIn d xs i
  stops_in i = (
    λ s. record {
      within = s.within;
      place = s.place;
      begins = (walks_prefix (take i xs)).0 (s.walks i (omega arith));
      none_begins = λ r v h. s.stops (i + 1) (omega arith) ((walks_prefix (take (i + 1) xs)).1 (record { is = inr (r, v, h) }));
    },
    λ s. record {
      within = s.within;
      place = s.place;
      walks = λ k h. front k i h ((walks_prefix (take i xs)).1 s.begins);
      stops = λ k h w. ⊎_elim
          (λ e. omega (arith, ap length e, length-take-le (i + 1) xs (omega (arith, s.place))))
          (λ (r, v, g). s.none_begins r v g)
          ((walks_prefix (take (i + 1) xs)).0 (front (i + 1) k (omega arith) w)).is;
    },
  )

  -- the labels are no key, but they walk
  no_end : d xs ≡ None → Prefix d xs → (xs ≡ []) ⊎ Longer d xs
  no_end e f = ⊎_elim inl (λ (r, v, h). go r v h) f.is
    where
      go : (r : List ℕ) (v : ℕ) → Has d (xs ++ r) v → (xs ≡ []) ⊎ Longer d xs
      go [] v h = absurd (none_not_some (sym e ∙ rw append-nil at h))
      go (x ∷ r) v h = inr (record { next = x; rest = r; value = v; is = h })

  proper_front : (xs ≡ []) ⊎ Longer d xs → (length xs ≤ max_labels) × Prefix d xs
  proper_front (inl e) = (omega (arith, ap length e), record { is = inl e })
  proper_front (inr l) = (
    omega (arith, image.keys.is_key_length (xs ++ l.next ∷ l.rest) l.value l.is, length-append xs (l.next ∷ l.rest)),
    record { is = inr (l.next ∷ l.rest, l.value, l.is) },
  )

  reason_in : (r : Reason) → TrueReason b xs r ↔ ReasonIn b d xs r
  reason_in IsFound = rw (lookup_set known) Iff.rfl
  reason_in (NotListed i) = (λ (s, out). ((stops_in i).0 s, out), λ (s, out). ((stops_in i).1 s, out))
  reason_in (NoStep i) = (λ (s, is). ((stops_in i).0 s, is), λ (s, is). ((stops_in i).1 s, is))
  reason_in NoKeyEnds = rw (lookup_set known) (
    λ (few, w, e). (no_end e ((walks_prefix xs).0 w), e),
    λ (o, e). let r = proper_front o in (r.0, (walks_prefix xs).1 r.1, e),
  )
  reason_in TooLong = Iff.rfl

-- ---- the definitions meet the demand

found_exactly : (b xs : List ℕ) → (reason_of b xs ≡ IsFound) ↔ ((v : ℕ) × (value_within b xs ≡ Some v))
found_exactly b xs = (λ e. rw e at (reason_true b xs), only_reason b xs IsFound)

unless_found : (k : ℕ) (r : Reason) (c : Case) → (r ≡ IsFound) ↔ ((v : ℕ) × (case_value c ≡ Some v))
    → (unless_refused k (Some r) None ≡ Some IsFound) ↔ ((v : ℕ) × (case_value (unless_refused k c Neither) ≡ Some v))
unfolding unless_refused case_value
unless_found zero r c h = (λ e. h.0 (same_Some r IsFound e), λ p. ap {B = Option Reason} Some (h.1 p))
unless_found (suc k) r c h = (λ e. absurd (none-some IsFound e), λ (v, e). absurd (none_not_some e))

pub why_demand : WhyDemand why_of
unfolding why_of lookup_of value_within unless_refused
why_demand = record {
  refused = λ b q h. rw (stands (search_refusal b q) (Some (reason_of b (labels_of q))) None h);
  answer = λ b q r passes t. rw (passes, only_reason b (labels_of q) r t);
  some_reason = λ b xs. (reason_of b xs, reason_true b xs);
  one_reason = λ b xs r s t u. sym (only_reason b xs r t) ∙ only_reason b xs s u;
  found_by_lookup = λ b q. unless_found (search_refusal b q) (reason_of b (labels_of q)) (case_within b (labels_of q)) (found_exactly b (labels_of q));
  in_set = λ b d xs r image. reason_in image xs r;
  in_no_key = λ b d xs i image t p r v h. t.1 (image.keys.is_key_label p (get_or xs i 0) r v h);
}
