-- The case of a lookup is the one that is true of the set: its value is the set's, and the width of a slot's list says whether longer
-- keys exist. Its entries are the slots of longer prefixes and, if the prefix is a key, its own end, which comes first.
use Rattle.std.specs.Prelude.{ℕ, ◌+◌, ◌<◌, ◌≡◌, ◌≢◌, ◌↔◌, Bool, true, false, cond, Option, Some, None}
use Rattle.std.proofs.Common.{arith, ap, ◌∙◌, inr, true≢false}
use Rattle.std.proofs.Math.Path.{refl, sym}
use mathlib.Core.List.{List, [], ◌∷◌, ◌++◌, append_assoc, append-nil}
use Rattle.std.proofs.Math.Bool.{false≢true}
use Rattle.lxtr_spec.specs.Image.{has_leaf, offset, child, list_width}
use Rattle.lxtr_spec.specs.Walks.{walk_within, value_at, longer_at}
use Rattle.lxtr_spec.specs.Searches.{case_value, case_longer, case_at, case_within}
use Rattle.lxtr_spec.specs.Sets.{PairSet, Has, Prefix, InList}
use Rattle.lxtr_spec.specs.Meaning.{Longer, CaseIn}
use Rattle.lxtr_spec.specs.declared.Case.{Case}
use Rattle.lxtr_spec.specs.declared.Case.TheVariants.{Neither, PrefixOnly, ExactOnly, ExactAndPrefix}
use Rattle.lxtr_laws.specs.Tests.{ltb_is_true, same_test}
use Rattle.lxtr_laws.specs.Cases.{case_longer_lem, same_case, value_there}
use Rattle.lxtr_laws.specs.StepFacts.{none_not_some}
use Rattle.lxtr_laws.specs.KeyPrefixes.{snoc_cons, prefix_part, prefix_on}
use Rattle.lxtr_laws.specs.ListPlaces.{in_list}
use Rattle.lxtr_laws.specs.EntryPlaces.{lists_sorted, code_rises}
use Rattle.lxtr_demands.specs.Laws.Kinds.{KnownImage}
use Rattle.lxtr_demands.specs.Laws.Slots.{prefix_slot_lem, ChildIn, longer, ended}
use Rattle.lxtr_demands.specs.Laws.Entries.{ended_code, entry_is, ended_place, longer_place}
use Rattle.lxtr_demands.specs.Laws.Queries.{Leads, to_slot, nowhere, leads, value_led}

-- a longer key makes a longer prefix, and the other way round
module _ (d : PairSet) (xs : List ℕ) where
  longer_prefix : (l : Longer d xs) → Prefix d (xs ++ l.next ∷ [])
  longer_prefix l = record { is = inr (l.rest, l.value, rw snoc_cons at l.is) }

  prefix_longer : (x : ℕ) → Prefix d (xs ++ x ∷ []) → Longer d xs
  prefix_longer x f = let k = prefix_on d xs x f in record { next = x; rest = k.0; value = k.1; is = rw append_assoc at k.2 }

  -- what a case says of the set is what its value and its longer keys say
  pub record Says (c : Case) : Type 0 where
    pub value : case_value c ≡ d xs
    pub longer : (case_longer c ≡ true) ↔ Longer d xs

  pub case_says : (c : Case) → CaseIn d xs c → Says c
  unfolding case_value case_longer
  case_says Neither none_begins = record { value = go (d xs) refl; longer = (λ e. absurd (false≢true e), λ l. absurd (none_begins (l.next ∷ l.rest) l.value l.is)) }
    where
      go : (o : Option ℕ) → d xs ≡ o → None ≡ d xs
      go None e = sym e
      go (Some v) e = absurd (none_begins [] v (rw append-nil e))
  case_says PrefixOnly (l, e) = record { value = sym e; longer = (λ _. l, λ _. refl) }
  case_says (ExactOnly v) (h, none-longer) = record { value = sym h; longer = (λ e. absurd (false≢true e), λ l. absurd (none-longer l)) }
  case_says (ExactAndPrefix v) (h, l) = record { value = sym h; longer = (λ _. l, λ _. refl) }

  says_case : (c : Case) → Says c → CaseIn d xs c
  unfolding case_value case_longer
  says_case Neither s = go
    where
      go : (r : List ℕ) (v : ℕ) → Has d (xs ++ r) v → ⊥
      go [] v h = none_not_some (s.value ∙ rw append-nil at h)
      go (x ∷ r) v h = false≢true (s.longer.1 (record { next = x; rest = r; value = v; is = h }))
  says_case PrefixOnly s = (s.longer.0 refl, sym s.value)
  says_case (ExactOnly v) s = (sym s.value, λ l. false≢true (s.longer.1 l))
  says_case (ExactAndPrefix v) s = (sym s.value, s.longer.0 refl)

  -- so only one case is true of the labels
  pub one_case : (c e : Case) → CaseIn d xs c → CaseIn d xs e → c ≡ e
  one_case c e p q =
      let s = case_says c p in
      let t = case_says e q in
      same_case c e (s.value ∙ sym t.value) (same_test (case_longer c) (case_longer e) (λ h. t.longer.1 (s.longer.0 h)) (λ h. s.longer.1 (t.longer.0 h)))

module _ {b : List ℕ} {d : PairSet} (known : KnownImage b d) (xs : List ℕ) where
  open known use {image}

  module _ (f : Prefix d xs) where
    -- an entry that is not the end shows that a longer key exists
    entry_longer : (j : ℕ) → InList b (image.slot xs) j → ((v : ℕ) → Has d xs v → child b j ≡ image.end xs → ⊥) → Longer d xs
    entry_longer j i no_end = go (entry_is known xs f j i) refl
      where
        go : {s : ℕ} → ChildIn image xs s → child b j ≡ s → Longer d xs
        go (longer x g) e = prefix_longer d xs x g
        go (ended v h) e = absurd (no_end v h e)

    wide_longer : (a : Bool) → has_leaf b (image.slot xs) ≡ a → cond a 1 0 < list_width b (image.slot xs) → Longer d xs
    wide_longer true e h =
        let n : ℕ = image.slot xs in
        let at = prefix_slot_lem image xs f in
        let first = (in_list b n (offset b n)).1 (omega arith) in
        let second = (in_list b n (offset b n + 1)).1 (omega arith) in
        let rises = code_rises (lists_sorted image.lists) n at.from at.to (offset b n) (offset b n + 1) first second (omega arith) in
        entry_longer (offset b n + 1) second (λ v k c. omega (arith, rises, ended_code image xs (offset b n + 1) v k c))
    wide_longer false e h =
        let n : ℕ = image.slot xs in
        entry_longer (offset b n) ((in_list b n (offset b n)).1 (omega arith)) (λ v k c. true≢false (sym ((image.placed.slot_flag xs f).1 (v, k)) ∙ e))

    longer_wide : Longer d xs → (a : Bool) → has_leaf b (image.slot xs) ≡ a → cond a 1 0 < list_width b (image.slot xs)
    longer_wide l true e =
        let g = longer_prefix d xs l in
        let k = (image.placed.slot_flag xs f).0 e in
        let i = longer_place image xs l.next g in
        let j = ended_place image xs k.0 k.1 in
        let apart : i.0 ≢ j.0 = λ z. image.placed.slot_no_end (xs ++ l.next ∷ []) xs k.0 g k.1 (sym i.2 ∙ ap (child b) z ∙ j.2) in
        omega (arith, (in_list b (image.slot xs) i.0).0 i.1, (in_list b (image.slot xs) j.0).0 j.1)
    longer_wide l false e = let i = longer_place image xs l.next (longer_prefix d xs l) in omega (arith, (in_list b (image.slot xs) i.0).0 i.1)

    longer_at_lem : (longer_at b (image.slot xs) ≡ true) ↔ Longer d xs
    unfolding longer_at
    longer_at_lem = simp ltb_is_true (wide_longer (has_leaf b (image.slot xs)) refl, λ l. longer_wide l (has_leaf b (image.slot xs)) refl)

  longer_led : {o : Option ℕ} → Leads d image.slot xs o → (case_longer (case_at b o) ≡ true) ↔ Longer d xs
  unfolding case_at case_longer
  longer_led (to_slot f) = rw (case_longer_lem (value_at b (image.slot xs)) (longer_at b (image.slot xs))) (longer_at_lem f)
  longer_led (nowhere n) = (λ e. absurd (false≢true e), λ l. absurd (n (prefix_part d xs (l.next ∷ []) (longer_prefix d xs l))))

  -- the case that lookup finds is true
  pub true_case : CaseIn d xs (case_within b xs)
  unfolding case_within
  true_case =
      let to = leads known xs in
      says_case d xs (case_at b (walk_within b xs)) (record { value = value_there b (walk_within b xs) ∙ value_led known xs to; longer = longer_led to })
