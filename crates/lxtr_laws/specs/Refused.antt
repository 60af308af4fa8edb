-- What a refusal from 9 up says: 1 to 8 and the rules before its own are passed, and its own is not.
use Rattle.std.specs.Prelude.{ℕ, zero, suc, ◌≤◌, ◌≡◌, refl, ◌≢◌, List, Bool, true, false}
use Rattle.std.proofs.Common.{arith, sym}
use Rattle.lxtr_spec.specs.Refusals.{refuse_if, first_refusal, too_short, magic_differs, version_wrong, reserved_set, sizes_wrong, length_wrong, map_wrong, offset_ends_wrong, header_refusal, labels_wrong, slots_wrong, lists_wrong, some_unreachable, body_refusal, image_refusal}
use Rattle.lxtr_laws.specs.RefusalChains.{first_stands}
use Rattle.lxtr_laws.specs.Passed.{Passed, header_passed}

-- a chain answers no number above all of its numbers, and none that it does not have
most : (t : Bool) (k later n : ℕ) → k ≤ n → later ≤ n → refuse_if t k later ≤ n
unfolding refuse_if
most true k later n h l = h
most false k later n h l = l

other : (t : Bool) (k later n : ℕ) → k ≢ n → later ≢ n → refuse_if t k later ≢ n
unfolding refuse_if
other true k later n h l = h
other false k later n h l = l

-- if the answer is not a test's own number, the test finds nothing; if it is no later test's, the test finds its fault
later_one : (t : Bool) (k later n : ℕ) → k ≢ n → refuse_if t k later ≡ n → (t ≡ false) × (later ≡ n)
unfolding refuse_if
later_one true k later n h e = absurd (h e)
later_one false k later n h e = (refl, e)

this_one : (t : Bool) (k later n : ℕ) → later ≢ n → refuse_if t k later ≡ n → t ≡ true
unfolding refuse_if
this_one true k later n h e = refl
this_one false k later n h e = absurd (h e)

first_most : (m later n : ℕ) → m ≤ n → later ≤ n → first_refusal m later ≤ n
unfolding first_refusal
first_most zero later n h l = l
first_most (suc m) later n h l = h

second_stands : (m later n : ℕ) → m ≤ 8 → 9 ≤ n → first_refusal m later ≡ n → (m ≡ 0) × (later ≡ n)
unfolding first_refusal
second_stands zero later n h l e = (refl, e)
second_stands (suc m) later n h l e = absurd (omega arith)

module _ (b : List ℕ) where
  -- a refusal of the header is the refusal of the image; without one, the refusal of the rest is
  pub header_refused : (r : ℕ) → r ≡ header_refusal b → r ≢ 0 → r ≡ image_refusal b
  unfolding image_refusal
  header_refused r e h = rw (← e) (sym (first_stands r (body_refusal b) h))

  pub body_refused : (k : ℕ) → 0 ≡ header_refusal b → k ≡ body_refusal b → k ≡ image_refusal b
  unfolding image_refusal first_refusal
  body_refused k z e = rw (← z) e

  pub header_most : header_refusal b ≤ 8
  unfolding header_refusal
  header_most =
      most (too_short b) 1 _ 8 (omega arith)
      (most (magic_differs b) 2 _ 8 (omega arith)
      (most (version_wrong b) 3 _ 8 (omega arith)
      (most (reserved_set b) 4 _ 8 (omega arith)
      (most (sizes_wrong b) 5 _ 8 (omega arith)
      (most (length_wrong b) 6 _ 8 (omega arith)
      (most (map_wrong b) 7 _ 8 (omega arith)
      (most (offset_ends_wrong b) 8 _ 8 (omega arith) (omega arith))))))))

  body_most : body_refusal b ≤ 12
  unfolding body_refusal
  body_most =
      most (labels_wrong b) 9 _ 12 (omega arith)
      (most (slots_wrong b) 10 _ 12 (omega arith)
      (most (lists_wrong b) 11 _ 12 (omega arith)
      (most (some_unreachable b) 12 _ 12 (omega arith) (omega arith))))

  pub refusal_most : image_refusal b ≤ 12
  unfolding image_refusal
  refusal_most = first_most (header_refusal b) (body_refusal b) 12 (omega (arith, header_most)) body_most

  -- from 9 up
  module _ (k : ℕ) (h : 9 ≤ k) (e : image_refusal b ≡ k) where
    parts : (header_refusal b ≡ 0) × (body_refusal b ≡ k)
    unfolding image_refusal
    parts = second_stands (header_refusal b) (body_refusal b) k header_most h e

    pub refused_passed : Passed b
    refused_passed = header_passed parts.0

    -- from 10 up no label is wrong, from 11 up no slot is, and the refusal comes from the later rules
    labels_passed : 10 ≤ k → (labels_wrong b ≡ false) × (refuse_if (slots_wrong b) 10 (refuse_if (lists_wrong b) 11 (refuse_if (some_unreachable b) 12 0)) ≡ k)
    unfolding body_refusal
    labels_passed l = later_one (labels_wrong b) 9 _ k (λ z. omega arith) parts.1

    slots_passed : 11 ≤ k → (slots_wrong b ≡ false) × (refuse_if (lists_wrong b) 11 (refuse_if (some_unreachable b) 12 0) ≡ k)
    slots_passed l = later_one (slots_wrong b) 10 _ k (λ z. omega arith) (labels_passed (omega arith)).1

    pub slots_right_by : 11 ≤ k → slots_wrong b ≡ false
    slots_right_by l = (slots_passed l).0

  pub refused_9 : image_refusal b ≡ 9 → labels_wrong b ≡ true
  unfolding body_refusal
  refused_9 e =
      this_one (labels_wrong b) 9 _ 9
      (other (slots_wrong b) 10 _ 9 (λ z. omega arith) (other (lists_wrong b) 11 _ 9 (λ z. omega arith) (other (some_unreachable b) 12 0 9 (λ z. omega arith) (λ z. omega arith))))
      (parts 9 (omega arith) e).1

  pub refused_10 : image_refusal b ≡ 10 → slots_wrong b ≡ true
  refused_10 e =
      this_one (slots_wrong b) 10 _ 10
      (other (lists_wrong b) 11 _ 10 (λ z. omega arith) (other (some_unreachable b) 12 0 10 (λ z. omega arith) (λ z. omega arith)))
      (labels_passed 10 (omega arith) e (omega arith)).1

  pub refused_11 : image_refusal b ≡ 11 → lists_wrong b ≡ true
  refused_11 e = this_one (lists_wrong b) 11 _ 11 (other (some_unreachable b) 12 0 11 (λ z. omega arith) (λ z. omega arith)) (slots_passed 11 (omega arith) e (omega arith)).1

  pub refused_12 : image_refusal b ≡ 12 → some_unreachable b ≡ true
  refused_12 e = this_one (some_unreachable b) 12 0 12 (λ z. omega arith) (later_one (lists_wrong b) 11 _ 12 (λ z. omega arith) (slots_passed 12 (omega arith) e (omega arith)).1).1
