-- The answers of the builder's functions, and the outcomes that they stand for: from the refusals of the list to the image.
use Prim.Native.Nat.{ℕ, zero, suc, ◌≤◌, ◌<◌}
use Rattle.std.proofs.Common.{arith, ap, ◌∙◌, subst, lt-ltb, le-ltb}
use Rattle.std.specs.Prelude.{◌≡◌, refl, List, replicate, Option, Some, None, Result, Err}
use Rattle.std.proofs.Math.Path.{sym}
use Rattle.std.proofs.Math.ListN.{length}
use Rattle.lxtr_spec.specs.Labels.{max_listed, Pair}
use Rattle.lxtr_spec.specs.KeyLists.{list_refusal, pairs_of}
use Rattle.lxtr_spec.specs.CodeMaps.{map_of}
use Rattle.lxtr_spec.specs.Builds.{image_in, slots_used, slots_in, placed_in, Outcome, refuses, with_room, from_placed, from_labels, from_keys, outcome_of, answered, work_after, build_of}
use Rattle.lxtr_spec.specs.declared.refusals.Refusal.{Refusal}
use Rattle.lxtr_spec.specs.declared.refusals.Refusal.TheVariants.{TooManyLabels, TooFewSlots}
use Rattle.lxtr_spec.specs.Answers.{refusal_of, answer_or, number}
use Rattle.lxtr_laws.specs.Failures.{number_not_0}
use Rattle.lxtr_build_laws.specs.KeyListFacts.{KeysPassed}
use Rattle.lxtr_build_laws.specs.CodeTables.{picked, CodeTables, Mapped}
use Rattle.lxtr_build_laws.specs.TableCodes.{picked_length}
use Rattle.lxtr_build_laws.specs.Work.{placed_as}
use Rattle.lxtr_build_laws.specs.ListTotals.{children_count}
use Rattle.lxtr_write.specs.SectionWriting.{ImageReady}
use Rattle.lxtr_write.specs.WriteOutcomes.{Answers, answers_refusal}

-- the outcome for these keys with this work and this output: starting with refusal 20, and starting with refusal 22
abbrev pub labels_outcome : List ℕ → List ℕ → List ℕ → Outcome
labels_outcome keys work out = from_labels (length work) (length out) (pairs_of keys) (map_of (pairs_of keys))

abbrev pub placed_outcome : List ℕ → List ℕ → List ℕ → Outcome
placed_outcome keys work out =
    from_placed (slots_in (length work)) (length out) (map_of (pairs_of keys)) (placed_in (length work) (pairs_of keys) (map_of (pairs_of keys)))

-- the tables have a place for each label of the map
map_size : {ps : List Pair} {labels codes order : List ℕ} → CodeTables ps labels codes order → length order ≡ length (map_of ps)
map_size {ps} {labels} {codes} {order} tables = sym (picked_length labels order) ∙ ap length tables.map_is

-- refusal 22, or the image of the work: r is whether every slot has a base
module _ (keys w : List ℕ) (W R : ℕ) (out : List ℕ) (r : Option (Unit {0})) (placed : placed_as r w ≡ placed_in W (pairs_of keys) (map_of (pairs_of keys))) where
  abbrev outcome : Outcome
  outcome = from_placed (slots_in W) R (map_of (pairs_of keys)) (placed_in W (pairs_of keys) (map_of (pairs_of keys)))

  pub placed_not : r ≡ None → Answers outcome out (Err TooFewSlots) out
  unfolding placed_as from_placed
  placed_not h = rw (← placed, h) (answers_refusal TooFewSlots out)

  module _ (h : r ≡ Some tt) (labels codes order : List ℕ) (tables : CodeTables (pairs_of keys) labels codes order) (same : length w ≡ W) where
    found : placed_in W (pairs_of keys) (map_of (pairs_of keys)) ≡ Some w
    unfolding placed_as
    found = sym (rw h at placed)

    pub image_ready : KeysPassed keys → 4 ≤ W → ImageReady w labels order
    image_ready passed room = record {
      room = omega arith;
      map_order = record { few = tables.few; size = tables.order_size; inside = tables.order_in };
      children = rw (same, map_size tables) (children_count W (pairs_of keys) w room passed.right found);
    }

    pub placed_built : (b : Result ℕ Refusal) (out' : List ℕ) → Answers (with_room R (image_in w (slots_used w (slots_in (length w))) (picked labels order))) out b out' → Answers outcome out b out'
    unfolding from_placed
    placed_built b out' a = rw found (rw (same, tables.map_is) at a)

-- refusal 20, or what the tables of the code map give
module _ (keys : List ℕ) (W R : ℕ) (out : List ℕ) where
  pub labels_many : max_listed < length (map_of (pairs_of keys)) → Answers (from_labels W R (pairs_of keys) (map_of (pairs_of keys))) out (Err TooManyLabels) out
  unfolding from_labels
  labels_many h = rw (lt-ltb max_listed (length (map_of (pairs_of keys))) h, from_labels) (answers_refusal TooManyLabels out)

  module _ (labels codes order : List ℕ) (r : ℕ) (m : Mapped (pairs_of keys) labels codes order r) where
    pub labels_built : (b : Result ℕ Refusal) (out' : List ℕ) → Answers (from_placed (slots_in W) R (map_of (pairs_of keys)) (placed_in W (pairs_of keys) (map_of (pairs_of keys)))) out b out'
        → Answers (from_labels W R (pairs_of keys) (map_of (pairs_of keys))) out b out'
    unfolding from_labels
    labels_built b out' a =
        let few : length (map_of (pairs_of keys)) ≤ max_listed = omega (arith, map_size m.tables, m.tables.few, m.tables.order_size) in
        rw (le-ltb max_listed (length (map_of (pairs_of keys))) few, from_labels) a

-- refusals 15 to 19, or what the keys give
module _ (keys : List ℕ) where
  module _ (W R : ℕ) (out : List ℕ) where
    pub keys_refused : (e : Refusal) → number e ≡ list_refusal keys → Answers (from_keys W R keys) out (Err e) out
    unfolding from_keys
    keys_refused e is = go (number e) refl
      where
        go : (n : ℕ) → number e ≡ n → Answers (from_keys W R keys) out (Err e) out
        go zero z = absurd (number_not_0 e z)
        go (suc n) z = rw (sym is ∙ z, from_keys) (subst (λ (k : ℕ). Answers (refuses k) out (Err e) out) z (answers_refusal e out))

    pub keys_built : (b : Result ℕ Refusal) (out' : List ℕ) → 0 ≡ list_refusal keys → Answers (from_labels W R (pairs_of keys) (map_of (pairs_of keys))) out b out' → Answers (from_keys W R keys) out b out'
    unfolding from_keys
    keys_built b out' z a = rw (sym z, from_keys) a

-- refusal 21, or what the whole list gives with cleared work, which is cleared again
module _ (keys work out : List ℕ) where
  pub work_small : length work < 4 → record { answer = record { refusal = 21; length = 0 }; output = out; work = work } ≡ build_of keys work out
  unfolding build_of outcome_of answered work_after
  work_small h = rw (lt-ltb (length work) 4 h, outcome_of)

  pub all_built : (b : Result ℕ Refusal) (out' work₁ work₂ work₃ : List ℕ) → 4 ≤ length work → length work₁ ≡ length work → Answers (from_keys (length work₁) (length out) keys) out b out'
      → length work₂ ≡ length work₁ → work₃ ≡ replicate (length work₂) 0 → record { answer = record { refusal = refusal_of b; length = answer_or 0 b }; output = out'; work = work₃ } ≡ build_of keys work out
  unfolding build_of outcome_of work_after
  all_built b out' work₁ work₂ work₃ h l a m z = rw (le-ltb (length work) 4 h, outcome_of, ← l, z, m) (a.any_work (replicate (length work₁) 0))
